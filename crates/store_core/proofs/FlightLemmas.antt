-- A put over a store whose own puts in flight stand behind those of the store below, and the landing of one of them.
use Rattle.std.proofs.Common.{◌≡◌, ◌++◌, ◌∷◌, [], ℕ, List, Option, Some, None, Result, Ok, Err, refl, sym, ap, subst, ◌∙◌, inl, inr, append_assoc, append-nil, String, Vec}
use Rattle.std.specs.Global.{Global}
use Rattle.std.specs.Result.{IsErrOf}
use Rattle.std.specs.Prelude.{IfOk, OnOk, option_map, string_bytes}
use Rattle.store_core.specs.declared.fault.StoreFault.{StoreFault}
use Rattle.store_core.specs.declared.fault.StoreFault.TheVariants.{Lost, Memory}
use Rattle.store_core.specs.declared.store.Put.{Put}
use Rattle.store_core.specs.declared.store.Put.TheVariants.{Created, Exists}
use Rattle.store_core.specs.Calls.{Flight, HasLanded, GoesInFlight, IsUntouched, MayHaveLanded, StandsAfter}
use Rattle.store_core.specs.Memory.{stored_object}
use Rattle.store_core.specs.Objects.{Objects, object_at}
use Rattle.store_core.specs.Turns.{SendsLate, HasLandedAs}

-- what may have become of it below, may have become of it above
may_have_landed_above : (name bytes : List ℕ) (old new : Objects × Flight) (own other : Flight) → other ≡ own → MayHaveLanded name bytes old new
    → MayHaveLanded name bytes (old.0, old.1 ++ own) (new.0, new.1 ++ other)
may_have_landed_above name bytes old new own other same (inl landed) =
    inl (landed.0, (λ i. landed.1 i ++ same i))
may_have_landed_above name bytes old new own other same (inr (inl sent)) =
    let at = sent.1 in
    inr (inl (
      sent.0,
      (
        at.0,
        at.1 ++ own,
        ap (λ (f : Flight). f ++ own) at.2 ∙ append_assoc at.0 at.1 own,
        (λ i. at.3 i ++ same i) ∙ append_assoc at.0 ((name, bytes) ∷ at.1) own,
      ),
    ))
may_have_landed_above name bytes old new own other same (inr (inr kept)) =
    inr (inr (kept.0, (λ i. kept.1 i ++ same i)))

module _ {S : Type 0} (objects : S → Objects) (flight : S → Flight) (name bytes : List ℕ) where
  -- a put that was lost below, as the store above tells it
  pub lost_above : (old first new last : S) (own other : Flight) → first ≡ old → last ≡ new → other ≡ own → MayHaveLanded name bytes (objects first, flight first) (objects new, flight new)
      → MayHaveLanded name bytes (objects old, flight old ++ own) (objects last, flight last ++ other)
  lost_above old first new last own other begun ended same may =
      may_have_landed_above name bytes (objects old, flight old) (objects last, flight last) own other same
      (subst (λ (s : S). MayHaveLanded name bytes (objects old, flight old) (objects s, flight s)) (sym ended)
      (subst (λ (s : S). MayHaveLanded name bytes (objects s, flight s) (objects new, flight new)) begun may))

  sent_last : (old : S) (own : Flight) → GoesInFlight name bytes (objects old, flight old ++ own) (objects old, flight old ++ (own ++ (name, bytes) ∷ []))
  sent_last old own =
      (refl, (flight old ++ own, [], sym (append-nil (flight old ++ own)), sym (append_assoc (flight old) own ((name, bytes) ∷ []))))

  -- a put that was sent and is told as lost, is in flight
  pub late_above : (old last : S) (own first other : Flight) (answer : Result Put StoreFault) → last ≡ old → first ≡ own → SendsLate name bytes answer first other → IsErrOf answer Lost
      → MayHaveLanded name bytes (objects old, flight old ++ own) (objects last, flight last ++ other)
  late_above old last own first other (Ok put) kept same sent is = absurd sent
  late_above old last own first other (Err Memory) kept same sent is = absurd cc
  late_above old last own first other (Err Lost) kept same sent is =
      let behind : other ≡ own ++ (name, bytes) ∷ [] = sent ∙ ap (λ (f : Flight). f ++ (name, bytes) ∷ []) same in
      subst (λ (s : S). MayHaveLanded name bytes (objects old, flight old ++ own) (objects s, flight s ++ other)) (sym kept)
      (subst (λ (f : Flight). MayHaveLanded name bytes (objects old, flight old ++ own) (objects old, flight old ++ f)) (sym behind)
      (inr (inl (sent_last old own))))

-- a put of the store below that was answered, as the landing of what it put
module _ {S : Type 0} (objects : S → Objects) (flight : S → Flight) (old new last : S) (name bytes : List ℕ) (answer : Result Put StoreFault) where
  pub landed_ok : (put : Put) → answer ≡ Ok put → last ≡ new → OnOk answer (HasLanded name bytes (objects old, flight old) (objects new, flight new)) → (answer ≡ Ok Created → object_at (objects old) name ≡ None)
      → IfOk answer (λ p. StandsAfter p bytes (object_at (objects new) name)) → HasLandedAs name bytes (Ok (Some put)) (objects old, flight old) (objects last, flight last)
  landed_ok Created is kept landed absent stands =
      let has : HasLanded name bytes (objects old, flight old) (objects new, flight new) = rw is at landed in
      let after : StandsAfter Created bytes (object_at (objects new) name) = rw is at stands in
      subst (λ (s : S). HasLandedAs name bytes (Ok (Some Created)) (objects old, flight old) (objects s, flight s)) (sym kept) (has, absent is, after)
  landed_ok Exists is kept landed absent stands =
      let has : HasLanded name bytes (objects old, flight old) (objects new, flight new) = rw is at landed in
      let after : StandsAfter Exists bytes (object_at (objects new) name) = rw is at stands in
      subst (λ (s : S). HasLandedAs name bytes (Ok (Some Exists)) (objects old, flight old) (objects s, flight s)) (sym kept) (has, after)

  pub landed_err : (fault : StoreFault) → answer ≡ Err fault → last ≡ new → (IsErrOf answer Lost → MayHaveLanded name bytes (objects old, flight old) (objects new, flight new))
      → (IsErrOf answer Memory → IsUntouched (objects old, flight old) (objects new, flight new)) → HasLandedAs name bytes (Err fault) (objects old, flight old) (objects last, flight last)
  landed_err Lost is kept lost memory =
      let may : MayHaveLanded name bytes (objects old, flight old) (objects new, flight new) = lost (rw is refl) in
      subst (λ (s : S). MayHaveLanded name bytes (objects old, flight old) (objects s, flight s)) (sym kept) may
  landed_err Memory is kept lost memory =
      let same : IsUntouched (objects old, flight old) (objects new, flight new) = memory (rw is refl) in
      subst (λ (s : S). IsUntouched (objects old, flight old) (objects s, flight s)) (sym kept) same

-- what holds of a copy of what is in flight at a place, holds of what is in flight there
pub of_copy : (P : List ℕ → List ℕ → Type 0) (put : String Global × Vec ℕ Global) (text name bytes : List ℕ) (copy : Option (String Global × Vec ℕ Global)) (found : Option (List ℕ × List ℕ))
    → option_map stored_object copy ≡ found → found ≡ Some (name, bytes) → copy ≡ Some put → text ≡ string_bytes put.0 → P text put.1.items → P name bytes
of_copy P put text name bytes copy found same at is lent h =
    let own : Some (stored_object put) ≡ Some (name, bytes) = ap (λ (o : Option (String Global × Vec ℕ Global)). option_map stored_object o) (sym is) ∙ (same ∙ at) in
    let pair : stored_object put ≡ (name, bytes) = cc in
    let name_is : string_bytes put.0 ≡ name = ap (λ (p : List ℕ × List ℕ). p.0) pair in
    let bytes_is : put.1.items ≡ bytes = ap (λ (p : List ℕ × List ℕ). p.1) pair in
    subst (λ (b : List ℕ). P name b) bytes_is (subst (λ (n : List ℕ). P n put.1.items) (lent ∙ name_is) h)
