-- Lines that are told one behind the other.
use Rattle.std.proofs.Common.{◌≡◌, ◌++◌, ◌∷◌, ◌+◌, ◌<◌, [], ℕ, Bool, true, false, List, String, Global, filter, length, get_or, map, take, string_bytes, append_assoc, sym, ap, ◌∙◌}
use Rattle.std.proofs.lemmas.List.{map_push}
use Rattle.table_audit.proofs.BesideParts.{dropped_more, kept_more}
use Rattle.folder_check.specs.Beside.{line_of}

module _ (word : List ℕ) (p : List ℕ → Bool) (names : List (String Global)) (i : ℕ) (x : String Global) (more : i < length names) (at : x ≡ get_or names i x) (base before : List (List ℕ))
    (so : before ≡ base ++ map (line_of word) (filter p (map string_bytes (take i names)))) where
  -- one line more
  pub line_more : (now : List (List ℕ)) → p (string_bytes x) ≡ true → now ≡ before ++ line_of word (string_bytes x) ∷ [] → now ≡ base ++ map (line_of word) (filter p (map string_bytes (take (i + 1) names)))
  line_more now passes is =
      let front = map (line_of word) (filter p (map string_bytes (take i names))) in
      let line = line_of word (string_bytes x) in
      let all = ap (map (line_of word)) (kept_more p string_bytes names i x more at passes) ∙ map_push (line_of word) (filter p (map string_bytes (take i names))) (string_bytes x) in
      is ∙ (ap (λ (ls : List (List ℕ)). ls ++ line ∷ []) so ∙ (append_assoc base front (line ∷ []) ∙ ap (λ (ls : List (List ℕ)). base ++ ls) (sym all)))

  -- or none
  pub line_none : (now : List (List ℕ)) → p (string_bytes x) ≡ false → now ≡ before → now ≡ base ++ map (line_of word) (filter p (map string_bytes (take (i + 1) names)))
  line_none now fails is = is ∙ (so ∙ ap (λ (kept : List (List ℕ)). base ++ map (line_of word) kept) (sym (dropped_more p string_bytes names i x more at fails)))
