use Rattle.std.proofs.Common.{◌∷◌, ◌∙◌, ap, sym, ◌+◌, take, drop, length-drop}
use Rattle.std.proofs.Math.Seq.{take-length}
use Rattle.delta_actions.specs.Commit.{lines_of}
use Rattle.script_lines.proofs.LineLemmas.{lines_of_found, lines_of_none}
use Rattle.script_lines.proofs.splitting.first_line.Goals as goal

pub returns-in-Some-clause-lines : goal.returns-in-Some-clause-lines
returns-in-Some-clause-lines c =
    let text = c.args.text.now in
    let rest = drop (c.in-Some.at + 1) text in
    lines_of_found text c.in-Some.at (sym c.in-Some.ensures) ∙ ap (λ r. take c.in-Some.at text ∷ lines_of r) (sym (ap (λ n. take n rest) (sym (length-drop (c.in-Some.at + 1) text)) ∙ take-length rest))

pub returns-in-None-clause-lines : goal.returns-in-None-clause-lines
returns-in-None-clause-lines c = lines_of_none c.args.text.now (sym c.in-None.ensures)
