-- The first line of a text.
use Rattle.std.proofs.Common.{◌≡◌, ℕ, ◌+◌, ◌≤◌, ◌∷◌, [], List, None, Some, length, take, drop, Bool, refl, ap, subst, sym, ◌∙◌, arith, position, inl, inr, nat_lt}
use Rattle.std.specs.List.{position_or_len, slice_split, onto_first}
use Rattle.std.proofs.lemmas.Bool.{cases_Bool, cond-true, cond-false, ltb-true, ltb-false}
use Rattle.std.proofs.lemmas.List.Splits.{slice_split_first, slice_split-cons_no}
use Rattle.delta_actions.specs.Commit.{lines_of}
use Rattle.script_lines.specs.Splitting.{is_newline}

-- up to the first newline, and what stands behind it
pub lines_of_found : (text : List ℕ) (at : ℕ) → position is_newline text ≡ Some at → lines_of text ≡ take at text ∷ lines_of (drop (at + 1) text)
lines_of_found text at h =
    elim (cases_Bool (nat_lt (position_or_len is_newline text) (length text))) [
      | inl t ↦
          let found : Some (position_or_len is_newline text) ≡ Some at = sym (cond-true _ _ _ t) ∙ h in
          let here : position_or_len is_newline text ≡ at = cc in
          subst (λ k. lines_of text ≡ take k text ∷ lines_of (drop (k + 1) text)) here (slice_split_first is_newline text 0 (ltb-true _ _ t))
      | inr f ↦ let wrong : None ≡ Some at = sym (cond-false _ _ _ f) ∙ h in cc
    ]

-- where nothing passes, the list is the one part
one_part : (p : ℕ → Bool) (xs : List ℕ) → length xs ≤ position_or_len p xs → slice_split p xs ≡ xs ∷ []
one_part p [] h = refl
one_part p (x ∷ xs) h =
    elim (cases_Bool (p x)) [
      | inl t ↦ let none = rw t at h in absurd (omega arith)
      | inr f ↦ let more = rw f at h in slice_split-cons_no p x xs f ∙ ap (onto_first x) (one_part p xs (omega arith))
    ]

pub lines_of_none : (text : List ℕ) → position is_newline text ≡ None → lines_of text ≡ text ∷ []
lines_of_none text h =
    elim (cases_Bool (nat_lt (position_or_len is_newline text) (length text))) [
      | inl t ↦ let wrong : Some (position_or_len is_newline text) ≡ None = sym (cond-true _ _ _ t) ∙ h in cc
      | inr f ↦ one_part is_newline text (ltb-false _ _ f)
    ]
