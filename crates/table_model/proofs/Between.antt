-- A candidate that may be put at a version may be put behind the entry that stands there, where the two are apart.
use Rattle.std.proofs.Common.{◌≡◌, ℕ, suc, true, List, [], ◌∷◌, ◌++◌, map, Contains, refl, sym, ap, subst, ◌∙◌, append_assoc, arith, inl, inr}
use Rattle.std.specs.Prelude.{bytes_eq}
use Rattle.std.specs.List.{AllByRecursion, flat_map}
use Rattle.std.proofs.lemmas.Bool.{cases_Bool}
use Rattle.std.proofs.lemmas.Slice.Eq.{bytes_eq-Decides}
use Rattle.std.proofs.lemmas.List.{append-nil}
use Rattle.std.proofs.lemmas.List.Concat.{flat_map-append}
use Rattle.std.proofs.lemmas.List.Elements.{Contains-append_cases}
use Rattle.table_model.specs.Table.{FileName, ToldNumber, Entry, creation, group, close, closes_of, has_protocol, names, numbers_by, tells}
use Rattle.table_model.specs.Lawful.{Begins, Follows, IsLater, IsLawful, Rises, Suits}
use Rattle.table_model.proofs.Batches.{numbers_in, numbers_by-append}
use Rattle.table_model.proofs.Facts.{Begins-front, lawful-front}
use Rattle.table_model.proofs.Kept.{Begins-push, follows_keeps, lawful_follows}

-- the applications of which an entry tells a number
abbrev pub writes : Entry → List (List ℕ)
writes entry = map (λ t. t.application) (tells entry)

-- The entry between tells no protocol, and it and the last one tell numbers of different applications; the one between
-- closes no stream of which the last one tells a number; and their commits name different paths.
pub record AreApart (between last : Entry) : Type 0 where
  pub protocol : has_protocol between ≡ true → ⊥
  pub applications : (application : List ℕ) → Contains (writes between) application → Contains (writes last) application → ⊥
  pub closes : (application : List ℕ) → Contains (closes_of between) application → Contains (writes last) application → ⊥
  pub paths : (path : FileName) → Contains (names between) path → Contains (names last) path → ⊥

-- an application of which a number is told is written
written : (application : List ℕ) (ts : List ToldNumber) (n : ℕ) (ns : List ℕ) → numbers_in application ts ≡ n ∷ ns → Contains (map (λ t. t.application) ts) application
written application [] n ns e = absurd cc
written application (t ∷ ts) n ns e =
    elim (cases_Bool (bytes_eq t.application application)) [
      | inl own ↦ (0, omega arith, (bytes_eq-Decides t.application application).0 own)
      | inr other ↦
          let on : numbers_in application ts ≡ n ∷ ns = rw other at e in
          let later = written application ts n ns on in
          (suc later.0, omega (arith, later.1), later.2)
    ]

written_by : (application : List ℕ) (e : Entry) (n : ℕ) (ns : List ℕ) → numbers_by application (e ∷ []) ≡ n ∷ ns → Contains (writes e) application
written_by application e n ns is = written application (tells e) n ns (ap (λ (ts : List ToldNumber). numbers_in application ts) (sym (append-nil (tells e))) ∙ is)

-- ---- by kinds

-- what may be put and tells no protocol is a later entry
is_later : (entries : List Entry) (e : Entry) → Begins (entries ++ e ∷ []) → (has_protocol e ≡ true → ⊥) → IsLater e
is_later entries creation begins none = absurd (none refl)
is_later entries (group bs) begins none = tt
is_later entries (close application) begins none = tt

each_at : (entries : List Entry) (e : Entry) (more : List Entry) → AllByRecursion IsLater (entries ++ e ∷ more) → IsLater e
each_at [] e more all = all.0
each_at (x ∷ entries) e more all = each_at entries e more all.1

-- where an entry that begins a table may be put, one that tells a protocol stands
first_again : (entries : List Entry) (e winner : Entry) (more : List Entry) → Begins (entries ++ e ∷ []) → has_protocol e ≡ true → Begins (entries ++ winner ∷ more) → has_protocol winner ≡ true
first_again [] e creation more begins has table = refl
first_again [] e (group bs) more begins has table = absurd table
first_again [] e (close application) more begins has table = absurd table
first_again (creation ∷ entries) creation winner more begins has table = absurd (each_at entries creation [] begins)
first_again (creation ∷ entries) (group bs) winner more begins has table = absurd cc
first_again (creation ∷ entries) (close application) winner more begins has table = absurd cc
first_again (group bs ∷ entries) e winner more begins has table = absurd begins
first_again (close application ∷ entries) e winner more begins has table = absurd begins

-- behind which something stands
record HasBegun (entries : List Entry) : Type 0 where
  first : Entry
  others : List Entry
  is : entries ≡ first ∷ others

has_begun : (entries : List Entry) (e : Entry) → Begins (entries ++ e ∷ []) → IsLater e → HasBegun entries
has_begun [] creation begins later = absurd later
has_begun [] (group bs) begins later = absurd begins
has_begun [] (close application) begins later = absurd begins
has_begun (first ∷ others) e begins later = record { first = first; others = others; is = refl }

suits_on : (before : List Entry) (between e : Entry) → Suits before e → Suits (before ++ between ∷ []) e
suits_on before between creation suits = tt
suits_on before between (group bs) suits = suits
suits_on before between (close application) suits = tt

-- ---- behind the entry between

module _ (entries : List Entry) (between last : Entry) (apart : AreApart between last) where
  -- an application's numbers rise: the two entries don't both tell one
  by_between : (application : List ℕ) (n : ℕ) (ns ms : List ℕ) → numbers_by application (between ∷ []) ≡ ms → numbers_by application (last ∷ []) ≡ n ∷ ns → Follows entries last
      → Rises (numbers_by application ((entries ++ between ∷ []) ++ last ∷ []))
  by_between application n ns [] is mine f =
      let front : numbers_by application (entries ++ between ∷ []) ≡ numbers_by application entries =
      numbers_by-append application entries (between ∷ []) ∙ ap (λ (xs : List ℕ). numbers_by application entries ++ xs) is ∙ append-nil (numbers_by application entries) in
      let all = numbers_by-append application (entries ++ between ∷ []) (last ∷ []) ∙ ap (λ (xs : List ℕ). xs ++ numbers_by application (last ∷ [])) front ∙ sym (numbers_by-append application entries (last ∷ [])) in
      subst Rises (sym all) (f.rises application)
  by_between application n ns (m ∷ ms) is mine f = absurd (apart.applications application (written_by application between m ms is) (written_by application last n ns mine))

  by_last : (application : List ℕ) (ns : List ℕ) → numbers_by application (last ∷ []) ≡ ns → IsLawful (entries ++ between ∷ []) → Follows entries last
      → Rises (numbers_by application ((entries ++ between ∷ []) ++ last ∷ []))
  by_last application [] is front f =
      let all = numbers_by-append application (entries ++ between ∷ []) (last ∷ []) ∙ ap (λ (xs : List ℕ). numbers_by application (entries ++ between ∷ []) ++ xs) is ∙ append-nil (numbers_by application (entries ++ between ∷ [])) in
      subst Rises (sym all) (front.rises application)
  by_last application (n ∷ ns) is front f = by_between application n ns (numbers_by application (between ∷ [])) refl is f

  -- where a stream is closed, the last entry tells no number of it
  none_at_last : (application : List ℕ) (ns : List ℕ) → numbers_by application (last ∷ []) ≡ ns → Follows entries last → Contains (flat_map closes_of (entries ++ between ∷ [])) application → ns ≡ []
  none_at_last application [] is f shut = refl
  none_at_last application (n ∷ ns) is f shut =
      let parts = subst (λ (cs : List (List ℕ)). Contains cs application) (flat_map-append closes_of entries (between ∷ [])) shut in
      elim (Contains-append_cases (flat_map closes_of entries) (closes_of between ++ []) application parts) [
        | inl early ↦ sym is ∙ f.closed application early
        | inr won ↦
            let now = subst (λ (cs : List (List ℕ)). Contains cs application) (append-nil (closes_of between)) won in
            absurd (apart.closes application now (written_by application last n ns is))
      ]

  follows_on : IsLawful (entries ++ between ∷ []) → Follows entries last → Follows (entries ++ between ∷ []) last
  follows_on front f = record {
    suits = suits_on entries between last f.suits;
    rises = λ application. by_last application (numbers_by application (last ∷ [])) refl front f;
    closed = λ application shut. none_at_last application (numbers_by application (last ∷ [])) refl f shut;
  }

  -- The table with both is lawful.
  pub goes_on : (more : List Entry) → IsLawful (entries ++ between ∷ more) → IsLawful (entries ++ last ∷ []) → IsLawful ((entries ++ between ∷ []) ++ last ∷ [])
  goes_on more table mine =
      let cut : entries ++ between ∷ more ≡ (entries ++ between ∷ []) ++ more = sym (append_assoc entries (between ∷ []) more) in
      let whole = subst IsLawful cut table in
      let front = lawful-front (entries ++ between ∷ []) more whole (Begins-front (entries ++ between ∷ []) more whole.begins) in
      let later = is_later entries last mine.begins (λ has. apart.protocol (first_again entries last between more mine.begins has table.begins)) in
      let begun = has_begun entries last mine.begins later in
      let is : entries ++ between ∷ [] ≡ begun.first ∷ (begun.others ++ between ∷ []) = ap (λ (es : List Entry). es ++ between ∷ []) begun.is in
      let kept = follows_keeps begun.first (begun.others ++ between ∷ []) last (subst IsLawful is front) later (subst (λ (es : List Entry). Follows es last) is (follows_on front (lawful_follows entries last mine))) in
      subst (λ (es : List Entry). IsLawful (es ++ last ∷ [])) (sym is) kept
