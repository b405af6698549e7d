-- What a read hands out, and between which offsets it stands.
use Rattle.std.proofs.Common.{◌≡◌, ℕ, ◌+◌, ◌-◌, ◌≤◌, min, true, eqb, not, List, [], ◌∷◌, ◌++◌, length, map, take, drop, Option, Some, None, refl, sym, ap, subst, ◌∙◌, append_assoc, arith, inl, inr, ◌⊎◌, length-append, length-drop}
use Rattle.std.proofs.lemmas.Bool.{cases_Bool, eqb-true, eqb-false}
use Rattle.std.proofs.lemmas.List.{take-append-drop, length-take, length-map, take-map, drop-map, take_all}
use Rattle.std.proofs.lemmas.List.Filters.{length-filter_both}
use Rattle.row_core.specs.Rows.{Row}
use Rattle.table_model.specs.Table.{Entry, rows, last_item}
use Rattle.table_model.specs.Reads.{handed, beyond, bad_place, placed, is_before, position, is_offset, is_beyond, end, offset_behind, rows_from_offset, next_offset, read}
use Rattle.table_model.specs.declared.reading.Offset.{Offset}
use Rattle.table_model.proofs.Batches.{last_none, last_some}
use Rattle.table_model.proofs.Places.{past, position_past, position_end, rows-placed, past_is_offset, end_is_offset}

pub position-within : (offset : Offset) (entries : List Entry) → position offset entries ≤ length (placed entries)
position-within offset entries =
    let both = length-filter_both (λ (p : Offset × Row). is_before p.0 offset) (λ p. not (is_before p.0 offset)) (λ p. refl) (placed entries) in
    omega (arith, both)

-- ---- what an answer with rows says

pub record IsHanded (max : ℕ) (offset next : Offset) (entries : List Entry) (out : List Row) : Type 0 where
  pub stands : is_offset offset entries ≡ true
  rows : out ≡ map (λ p. p.1) (rows_from_offset max offset entries)
  onward : next ≡ next_offset max offset entries

handed_parts : (xs ys : List Row) (p q : Offset) → handed xs p ≡ handed ys q → (xs ≡ ys) × (p ≡ q)
handed_parts xs ys p q e =
    let one : xs ≡ ys = cc in
    let other : p ≡ q = cc in
    (one, other)

pub is_handed : (max : ℕ) (offset next : Offset) (entries : List Entry) (out : List Row) → read max offset entries ≡ handed out next → IsHanded max offset next entries out
is_handed max offset next entries out e =
    elim (cases_Bool (is_beyond offset entries)) [
      | inl far ↦ let no : beyond (length entries) ≡ handed out next = rw far at e in absurd cc
      | inr near ↦ elim (cases_Bool (is_offset offset entries)) [
        | inr bad ↦ let no : bad_place offset.version ≡ handed out next = rw (near, bad) at e in absurd cc
        | inl good ↦
            let rest : handed (map (λ p. p.1) (rows_from_offset max offset entries)) (next_offset max offset entries) ≡ handed out next = rw (near, good) at e in
            let parts = handed_parts (map (λ p. p.1) (rows_from_offset max offset entries)) out (next_offset max offset entries) next rest in
            record { stands = good; rows = sym parts.0; onward = sym parts.1 }
      ]
    ]

-- ---- the offset where a read ends

record Between (max : ℕ) (offset next : Offset) (entries : List Entry) : Type 0 where
  onward : position offset entries ≤ position next entries
  there : is_offset next entries ≡ true
  same : take max (drop (position offset entries) (rows entries)) ≡ take (position next entries - position offset entries) (drop (position offset entries) (rows entries))
  full : (length (rows_from_offset max offset entries) ≡ max) ⊎ (position next entries ≡ length (rows entries))

pub length-rows : (entries : List Entry) → length (rows entries) ≡ length (placed entries)
length-rows entries = ap (λ (rs : List Row). length rs) (sym (rows-placed entries)) ∙ length-map (placed entries) (λ (p : Offset × Row). p.1)

part-rows : (max : ℕ) (offset : Offset) (entries : List Entry) → map (λ p. p.1) (rows_from_offset max offset entries) ≡ take max (drop (position offset entries) (rows entries))
part-rows max offset entries =
    let from = position offset entries in
    let second : Offset × Row → Row = λ p. p.1 in
    sym (take-map second max (drop from (placed entries))) ∙ ap (λ (rs : List Row). take max rs) (sym (drop-map second from (placed entries)) ∙ ap (λ (rs : List Row). drop from rs) (rows-placed entries))

-- the table's rows, cut at the last one of a part
cut_at_last : (max : ℕ) (offset : Offset) (entries : List Entry) (front : List (Offset × Row)) (p : Offset × Row) → rows_from_offset max offset entries ≡ front ++ p ∷ []
    → placed entries ≡ (take (position offset entries) (placed entries) ++ front) ++ p ∷ drop max (drop (position offset entries) (placed entries))
cut_at_last max offset entries front p is =
    let from = position offset entries in
    let all = placed entries in
    let rest = drop max (drop from all) in
    let before = take from all in
    let behind_it : drop from all ≡ front ++ p ∷ rest = sym (take-append-drop max (drop from all)) ∙ ap (λ (ps : List (Offset × Row)). ps ++ rest) is ∙ append_assoc front (p ∷ []) rest in
    sym (take-append-drop from all) ∙ ap (λ (ps : List (Offset × Row)). before ++ ps) behind_it ∙ sym (append_assoc before front (p ∷ rest))

same_behind : (max to : ℕ) (offset : Offset) (entries : List Entry) → to - position offset entries ≡ max → take max (drop (position offset entries) (rows entries)) ≡ take (to - position offset entries) (drop (position offset entries) (rows entries))
same_behind max to offset entries e = ap (λ (n : ℕ). take n (drop (position offset entries) (rows entries))) (sym e)

full_part : (max : ℕ) (offset : Offset) (entries : List Entry) (o : Option (Offset × Row)) → is_offset offset entries ≡ true → length (rows_from_offset max offset entries) ≡ max → last_item (rows_from_offset max offset entries) ≡ o → Between max offset (offset_behind offset o) entries
full_part max offset entries None good full e =
    let none : rows_from_offset max offset entries ≡ [] = last_none (rows_from_offset max offset entries) e in
    let no : length (rows_from_offset max offset entries) ≡ 0 = ap (λ (ps : List (Offset × Row)). length ps) none in
    let zero_more : position offset entries - position offset entries ≡ max = omega arith in
    record { onward = omega arith; there = good; same = same_behind max (position offset entries) offset entries zero_more; full = inl full }
full_part max offset entries (Some p) good full e =
    let cut = last_some (rows_from_offset max offset entries) p e in
    let front = cut.0 in
    let from = position offset entries in
    let before = take from (placed entries) in
    let is = cut_at_last max offset entries front p cut.1 in
    let at = position_past entries (before ++ front) p (drop max (drop from (placed entries))) is in
    let count : length (rows_from_offset max offset entries) ≡ length front + 1 = ap (λ (ps : List (Offset × Row)). length ps) cut.1 ∙ length-append front (p ∷ []) in
    let reach : position (past p.0) entries ≡ from + max = omega (arith, at, count, length-append before front, length-take from (placed entries), position-within offset entries) in
    let more : position (past p.0) entries - from ≡ max = omega arith in
    record {
      onward = omega arith;
      there = past_is_offset entries (before ++ front) p (drop max (drop from (placed entries))) is;
      same = same_behind max (position (past p.0) entries) offset entries more;
      full = inl full;
    }

short_part : (max : ℕ) (offset : Offset) (entries : List Entry) → (length (rows_from_offset max offset entries) ≡ max → ⊥) → Between max offset (end entries) entries
short_part max offset entries short =
    let from = position offset entries in
    let left = drop from (rows entries) in
    let to : position (end entries) entries ≡ length (rows entries) = position_end entries ∙ sym (length-rows entries) in
    let within : from ≤ length (placed entries) = position-within offset entries in
    let long : length left ≡ length (rows entries) - from = length-drop from (rows entries) in
    let many : length (rows_from_offset max offset entries) ≡ min max (length (placed entries) - from) = length-take max (drop from (placed entries)) ∙ ap (λ (n : ℕ). min max n) (length-drop from (placed entries)) in
    let all : length (rows entries) ≡ length (placed entries) = length-rows entries in
    let enough : length left ≤ max = omega arith in
    let exact : length left ≤ position (end entries) entries - from = omega arith in
    record {
      onward = omega arith;
      there = end_is_offset entries;
      same = take_all max left enough ∙ sym (take_all (position (end entries) entries - from) left exact);
      full = inr to;
    }

ends : (max : ℕ) (offset : Offset) (entries : List Entry) → is_offset offset entries ≡ true → Between max offset (next_offset max offset entries) entries
ends max offset entries good =
    elim (cases_Bool (eqb (length (rows_from_offset max offset entries)) max)) [
      | inl yes_ ↦ rw yes_ (full_part max offset entries (last_item (rows_from_offset max offset entries)) good (eqb-true (length (rows_from_offset max offset entries)) max yes_) refl)
      | inr no_ ↦ rw no_ (short_part max offset entries (eqb-false (length (rows_from_offset max offset entries)) max no_))
    ]

between : (max : ℕ) (offset next : Offset) (entries : List Entry) (out : List Row) → read max offset entries ≡ handed out next → Between max offset next entries
between max offset next entries out e =
    let h = is_handed max offset next entries out e in
    subst (λ (p : Offset). Between max offset p entries) (sym h.onward) (ends max offset entries h.stands)

-- ---- the law

pub rows_between : (max : ℕ) (offset next : Offset) (entries : List Entry) (out : List Row) → read max offset entries ≡ handed out next
    → out ≡ take (position next entries - position offset entries) (drop (position offset entries) (rows entries))
rows_between max offset next entries out e = (is_handed max offset next entries out e).rows ∙ part-rows max offset entries ∙ (between max offset next entries out e).same

pub next_is_offset : (max : ℕ) (offset next : Offset) (entries : List Entry) (out : List Row) → read max offset entries ≡ handed out next
    → (position offset entries ≤ position next entries) × (is_offset next entries ≡ true)
next_is_offset max offset next entries out e = let b = between max offset next entries out e in (b.onward, b.there)

pub as_many : (max : ℕ) (offset next : Offset) (entries : List Entry) (out : List Row) → read max offset entries ≡ handed out next
    → (length out ≡ max) ⊎ (position next entries ≡ length (rows entries))
as_many max offset next entries out e =
    let count : length out ≡ length (rows_from_offset max offset entries) = ap (λ (rs : List Row). length rs) (is_handed max offset next entries out e).rows ∙ length-map (rows_from_offset max offset entries) (λ (p : Offset × Row). p.1) in
    elim (between max offset next entries out e).full [
      | inl full ↦ inl (count ∙ full)
      | inr done ↦ inr done
    ]

pub at_end : (max : ℕ) (offset next : Offset) (entries : List Entry) (out : List Row) → read max offset entries ≡ handed out next
    → (length out ≡ max) ⊎ (next ≡ end entries)
at_end max offset next entries out e =
    let h = is_handed max offset next entries out e in
    let count : length out ≡ length (rows_from_offset max offset entries) = ap (λ (rs : List Row). length rs) h.rows ∙ length-map (rows_from_offset max offset entries) (λ (p : Offset × Row). p.1) in
    elim (cases_Bool (eqb (length (rows_from_offset max offset entries)) max)) [
      | inl yes_ ↦ inl (count ∙ eqb-true (length (rows_from_offset max offset entries)) max yes_)
      | inr no_ ↦ inr (h.onward ∙ rw no_ refl)
    ]

pub at_most : (max : ℕ) (offset next : Offset) (entries : List Entry) (out : List Row) → read max offset entries ≡ handed out next → length out ≤ max
at_most max offset next entries out e =
    let count : length out ≡ length (rows_from_offset max offset entries) = ap (λ (rs : List Row). length rs) (is_handed max offset next entries out e).rows ∙ length-map (rows_from_offset max offset entries) (λ (p : Offset × Row). p.1) in
    omega (arith, count, length-take max (drop (position offset entries) (placed entries)))
