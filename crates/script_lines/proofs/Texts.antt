-- What `from_utf8` gives is what `text_of` says.
use Rattle.std.proofs.Common.{◌≡◌, List, ℕ, Bor, Result, Ok, Err, Some, option_map, ap, sym, ◌∙◌}
use Rattle.std.specs.Result.{MatchResult, result_ok}
use Rattle.std.specs.Str.{IsUtf8}
use Rattle.std.proofs.lemmas.Str.{IsUtf8-from_is_utf8, is_utf8-from_IsUtf8}
use Rattle.std.proofs.lemmas.Bool.{cond-true, cond-false, false_from_ne_true}
use Rattle.script_lines.specs.Lines.{text_of}

pub text_of_read : {E : Type 0} (rest : E → Type 0) (bytes : List ℕ) (r : Result (Bor (List ℕ)) E)
    → MatchResult r (λ s. (s.now ≡ bytes) × IsUtf8 bytes) (λ e. ¬ (IsUtf8 bytes) × rest e)
    → option_map (λ s. s.now) (result_ok r) ≡ text_of bytes
unfolding text_of
text_of_read rest bytes (Ok s) h = ap Some h.0 ∙ sym (cond-true _ _ _ (is_utf8-from_IsUtf8 bytes h.1))
text_of_read rest bytes (Err e) h = sym (cond-false _ _ _ (false_from_ne_true _ (λ t. h.0 (IsUtf8-from_is_utf8 bytes t))))
