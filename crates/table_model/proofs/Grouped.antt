-- Batches of different applications, each of which an append commits, follow together as one group.
use Rattle.std.proofs.Common.{◌≡◌, ◌≢◌, ℕ, zero, suc, ◌<◌, true, false, eqb, ltb, List, [], ◌∷◌, ◌++◌, length, map, slice_index_or, Option, Some, None, Contains, refl, sym, ap, subst, ◌∙◌, arith, inl, inr, ◌⊎◌}
use Rattle.std.specs.Prelude.{option_map, bytes_eq}
use Rattle.std.specs.List.{AllByRecursion, flat_map}
use Rattle.std.proofs.lemmas.Bool.{false≢true, cases_Bool, eqb-false, ltb-false}
use Rattle.std.proofs.lemmas.Slice.Eq.{bytes_eq-Decides}
use Rattle.std.proofs.lemmas.List.{append-nil}
use Rattle.table_model.specs.Table.{Batch, ToldNumber, Entry, group, closes_of, tells, numbers_by, last_item, last_told, is_stream_closed}
use Rattle.table_model.specs.Appends.{are_rows, appended, appended_new, appended_behind}
use Rattle.table_model.specs.Lawful.{AreDifferent, Follows, IsLawful, Rises}
use Rattle.table_model.specs.declared.table.AppendAnswer.TheVariants.{Committed, Already, Stale, Differs, StreamClosed}
use Rattle.table_model.proofs.Batches.{IsAbove, Rises-push, last_number, numbers_by-append, numbers_in}
use Rattle.table_model.proofs.Kept.{any_seen}

-- ---- what is committed is new

record IsNew (b : Batch) (entries : List Entry) : Type 0 where
  above : IsAbove b.number (last_item (numbers_by b.application entries))
  fresh : is_stream_closed b.application entries ≡ false

still_open : (b : Batch) (entries : List Entry) (version : ℕ) → appended_new b entries ≡ Committed version → is_stream_closed b.application entries ≡ false
still_open b entries version e =
    elim (cases_Bool (is_stream_closed b.application entries)) [
      | inl shut ↦ let no : StreamClosed ≡ Committed version = rw shut at e in absurd cc
      | inr fresh ↦ fresh
    ]

new_behind : (b : Batch) (entries : List Entry) (version : ℕ) (before : Option ToldNumber) → appended_behind b entries before ≡ Committed version
    → IsAbove b.number (option_map (λ t. t.number) before) × (is_stream_closed b.application entries ≡ false)
new_behind b entries version None e = (tt, still_open b entries version e)
new_behind b entries version (Some before) e =
    elim (cases_Bool (ltb b.number before.number)) [
      | inl below ↦ let no : Stale before.number ≡ Committed version = rw below at e in absurd cc
      | inr over ↦ elim (cases_Bool (eqb b.number before.number)) [
        | inl same ↦ elim (cases_Bool (are_rows b.rows before.rows)) [
          | inl alike ↦ let no : Already b.number ≡ Committed version = rw (over, same, alike) at e in absurd cc
          | inr differ ↦ let no : Differs ≡ Committed version = rw (over, same, differ) at e in absurd cc
        ]
        | inr other ↦
            let new : appended_new b entries ≡ Committed version = rw (over, other) at e in
            let not_below = ltb-false b.number before.number over in
            let not_same = eqb-false b.number before.number other in
            (omega (arith, not_below, not_same), still_open b entries version new)
      ]
    ]

is_new : (b : Batch) (entries : List Entry) (version : ℕ) → appended b entries ≡ Committed version → IsNew b entries
is_new b entries version e =
    let found = new_behind b entries version (last_told b.application entries) e in
    record { above = subst (λ (o : Option ℕ). IsAbove b.number o) (sym (last_number b.application entries)) found.0; fresh = found.1 }

-- ---- a group

-- what a group of batches of different applications tells of one: nothing, or one of its batches
abbrev OneOf : List ℕ → List Batch → Type 0
OneOf application bs = (numbers_in application (tells (group bs)) ≡ [])
    ⊎ ((b : Batch) × Contains bs b × (b.application ≡ application) × (numbers_in application (tells (group bs)) ≡ b.number ∷ []))

none_told : (application : List ℕ) (bs : List Batch) → (Contains (map (λ b. b.application) bs) application → ⊥) → numbers_in application (tells (group bs)) ≡ []
none_told application [] other = refl
none_told application (b ∷ bs) other =
    elim (cases_Bool (bytes_eq b.application application)) [
      | inl own ↦ absurd (other (0, omega arith, (bytes_eq-Decides b.application application).0 own))
      | inr foreign ↦ rw foreign (none_told application bs (λ later. other (suc later.0, omega (arith, later.1), later.2)))
    ]

one_told : (application : List ℕ) (bs : List Batch) → AreDifferent (map (λ b. b.application) bs) → OneOf application bs
one_told application [] different = inl refl
one_told application (b ∷ bs) different =
    elim (cases_Bool (bytes_eq b.application application)) [
      | inl own ↦
          let is = (bytes_eq-Decides b.application application).0 own in
          let others = none_told application bs (subst (λ (a : List ℕ). Contains (map (λ (c : Batch). c.application) bs) a → ⊥) is different.0) in
          inr (b, (0, omega arith, refl), is, rw (own, others) refl)
      | inr foreign ↦ elim (one_told application bs different.1) [
        | inl none ↦ inl (rw foreign none)
        | inr found ↦ inr (found.0, (suc found.1.0, omega (arith, found.1.1), found.1.2), found.2, rw foreign found.3)
      ]
    ]

each_at : {A : Type 0} (P : A → Type 0) (xs : List A) (x : A) (k : ℕ) → AllByRecursion P xs → k < length xs → slice_index_or xs k x ≡ x → P x
each_at P [] x k all lt is = absurd (omega (arith, lt))
each_at P (y ∷ xs) x zero all lt is = subst P is all.0
each_at P (y ∷ xs) x (suc k) all lt is = each_at P xs x k all.1 (omega (arith, lt)) is

pub group_follows : (entries : List Entry) (bs : List Batch) → IsLawful entries → bs ≢ [] → AreDifferent (map (λ b. b.application) bs) → AllByRecursion (λ b. appended b entries ≡ Committed (length entries)) bs
    → Follows entries (group bs)
group_follows entries bs lawful some different new = record {
  suits = (some, different);
  rises = λ application. subst Rises (sym (numbers_by-append application entries (group bs ∷ []) ∙ ap (λ (ts : List ToldNumber). numbers_by application entries ++ numbers_in application ts) (append-nil (tells (group bs)))))
      (by_one application (one_told application bs different));
  closed = λ application shut. ap (λ (ts : List ToldNumber). numbers_in application ts) (append-nil (tells (group bs))) ∙ none_shut application shut (one_told application bs different);
}
  where
    new_one : (b : Batch) → Contains bs b → IsNew b entries
    new_one b among = is_new b entries (length entries) (each_at (λ (c : Batch). appended c entries ≡ Committed (length entries)) bs b among.0 new among.1 among.2)

    by_one : (application : List ℕ) → OneOf application bs → Rises (numbers_by application entries ++ numbers_in application (tells (group bs)))
    by_one application (inl none) = rw (none, append-nil) (lawful.rises application)
    by_one application (inr found) =
        let above = subst (λ (a : List ℕ). IsAbove found.0.number (last_item (numbers_by a entries))) found.2 (new_one found.0 found.1).above in
        rw found.3 (Rises-push (numbers_by application entries) found.0.number (lawful.rises application) above)

    none_shut : (application : List ℕ) → Contains (flat_map closes_of entries) application → OneOf application bs → numbers_in application (tells (group bs)) ≡ []
    none_shut application shut (inl none) = none
    none_shut application shut (inr found) =
        let fresh = subst (λ (a : List ℕ). is_stream_closed a entries ≡ false) found.2 (new_one found.0 found.1).fresh in
        absurd (false≢true (sym fresh ∙ any_seen application (flat_map closes_of entries) shut.0 shut.1 shut.2))
