-- What is written where all refusals and faults are told.
use Rattle.std.proofs.Common.{◌≡◌, ◌∙◌, ℕ, List, [], ◌++◌, Option, None, Some, Result, Ok, Err, ap, ap₂, refl, subst, sym, append-nil, append_assoc}
use Rattle.std.proofs.KnownBytes.{Appends-trans}
use Rattle.std.proofs.lemmas.List.{map-append}
use Rattle.std.specs.Io.KnownBytes.{Appends, append_known}
use Rattle.std.specs.Prelude.{OnOk, map}
use Rattle.refusal_texts.specs.Codes.{fault_codes, refusal_codes}
use Rattle.refusal_texts.specs.Texts.{refusal_text}
use Rattle.refusal_texts.specs.declared.refusal.Refusal.{Refusal}
use Rattle.lake_script.specs.Streams.{held, waiting}
use Rattle.lake_script.specs.declared.outputs.Output.{Output}
use Rattle.lake_command.specs.ErrorTexts.{lines_text}
use Rattle.lake_command.specs.Explaining.{IsEntryList}
use Rattle.lake_command.proofs.LineLemmas.{lines_text_append}

nothing_waits : (known : Option (List ℕ)) → append_known known [] ≡ known
nothing_waits None = refl
nothing_waits (Some bytes) = ap Some (append-nil bytes)

module _ {W : Type 0} (contents : W → Option (List ℕ)) where
  -- a text and one behind it were given, and all is written
  both_written : (old one two new : Output W) (first second : List ℕ) → Appends (held contents old) (held contents one) first → Appends (held contents one) (held contents two) second
      → Appends (held contents two) (held contents new) [] → waiting new ≡ [] → Appends (held contents old) (contents new.writer) (first ++ second)
  both_written old one two new first second a b c none =
      let known = contents new.writer in
      subst (λ (now : Option (List ℕ)). Appends (held contents old) now (first ++ second)) (ap (append_known known) none ∙ nothing_waits known)
      (subst (λ (text : List ℕ). Appends (held contents old) (held contents new) text) (append-nil (first ++ second))
      (Appends-trans (held contents old) (held contents two) (held contents new) (first ++ second) [] (Appends-trans (held contents old) (held contents one) (held contents two) first second a b) c))

  -- the entries of both tables were
  pub entries_written : {T F : Type 0} (result : Result T F) (old one two new : Output W) (first second : List Refusal) → map (λ entry. entry.code.now) first ≡ refusal_codes → map (λ entry. entry.code.now) second ≡ fault_codes
      → Appends (held contents old) (held contents one) (lines_text (map refusal_text first)) → Appends (held contents one) (held contents two) (lines_text (map refusal_text second))
      → OnOk result (Appends (held contents two) (held contents new) []) → OnOk result (waiting new ≡ [])
      → OnOk result ((entries : List Refusal) × (text : List ℕ) × IsEntryList entries text × Appends (held contents old) (contents new.writer) text)
  entries_written (Ok done) old one two new first second refusals faults a b c none =
      let both = ap lines_text (map-append refusal_text first second) ∙ lines_text_append (map refusal_text first) (map refusal_text second) in (
        first ++ second,
        lines_text (map refusal_text (first ++ second)),
        (map-append (λ (entry : Refusal). entry.code.now) first second ∙ ap₂ (λ (x y : List (List ℕ)). x ++ y) refusals faults, refl),
        subst (λ (text : List ℕ). Appends (held contents old) (contents new.writer) text) (sym both) (both_written old one two new (lines_text (map refusal_text first)) (lines_text (map refusal_text second)) a b c none),
      )
  entries_written (Err error) old one two new first second refusals faults a b c none = tt
