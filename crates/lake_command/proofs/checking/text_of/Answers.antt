use Rattle.std.proofs.Common.{◌++◌, ℕ, List, ap, codes, string_bytes, ◌∙◌}
use Rattle.std.specs.Fmt.{decimal}
use Rattle.std.proofs.lemmas.Result.{IfOk-weaker}
use Rattle.outcomes.specs.Lines.{with_newline}
use Rattle.lake_command.proofs.CheckLemmas.{two_lines}
use Rattle.lake_command.proofs.checking.text_of.Goals as goal

pub returns-in_ok-why-in-Unsound : goal.returns-in_ok-why-in-Unsound
returns-in_ok-why-in-Unsound c =
    let version = c.in-Unsound.unsound.version in
    let two = λ (why : List ℕ). with_newline (codes "unsound " ++ decimal version) ++ with_newline why in
    IfOk-weaker c.format-in-Unsound.result _ _ (λ text is. rw c.in-Unsound.is (is ∙ two_lines (codes "unsound ") (decimal version) (string_bytes c.in_ok-why-in-Unsound.why) (codes "\n") ∙ ap two c.in_ok-why-in-Unsound.ensures.ok))
    c.format-in-Unsound.ensures.ok
