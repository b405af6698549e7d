use Rattle.std.proofs.Common.{arith, ◌≡◌, length, ◌-◌, take, drop, ap, ◌∙◌}
use Rattle.std.proofs.lemmas.List.{length-drop, take_all, take_min}
use Rattle.std.specs.Prelude.{min}
use Rattle.std.specs.Str.Lossy.{utf8_valid_len}
use Rattle.world_script.proofs.running.kept_part.Goals as goal

pub returns-in-Err-clause-part : goal.returns-in-Err-clause-part
returns-in-Err-clause-part c =
    let line = c.args.line.now in
    let from = c.valid_up_to.result in
    let rest = take (length line - from) (drop from line) in
    let whole : rest ≡ drop from line = take_all _ _ (let cut = length-drop from line in omega (arith, cut)) in
    let same : from ≡ utf8_valid_len line = c.valid_up_to.ensures ∙ c.in-Err.ensures.valid_len in
    let least : c.min.result ≡ min 256 (length rest) = omega (arith, c.min.ensures) in
    record {
      front = λ is. absurd (c.in-Err.ensures.cases.0 is);
      wrong = λ other. ap (λ n. take n rest) least ∙ (take_min 256 rest ∙ (ap (take 256) whole ∙ ap (λ n. take 256 (drop n line)) same));
    }
