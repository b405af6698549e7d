use Rattle.std.proofs.Common.{◌≡◌, ◌+◌, ◌≤◌, ◌^◌, option_map}
use Rattle.std.specs.Prelude.{⊤}
use Rattle.lake_script.specs.Runs.{TellsWhole}
use Rattle.lake_script.specs.Streams.{held, write_failed}
use Rattle.lake_script.specs.Told.{first_bad, first_bad_from}
use Rattle.lake_script.proofs.Answering.{AnsweredSoFar}
use Rattle.lake_script.proofs.RunLemmas.{lines_at_most}
use Rattle.script_lines.specs.Splitting.{lines_left}
use Rattle.lake_script.proofs.interpreter.answer_each.Given as goal

abbrev pub invariant-loop-rest : goal.invariant-loop-rest
invariant-loop-rest g l =
    let lines = option_map (λ text. text.now) l.rest in
    record {
      so_far : g.I.Interpreter.is_reliable l.fn.interpreter → (s : g.I.Interpreter.State) → g.I.Interpreter.stands l.fn.interpreter s
          → TellsWhole (held g.W.Write.contents l.fn.output) (held g.W.Write.contents l.output) (AnsweredSoFar g.I.Interpreter.does s l.fn.text (g.I.Interpreter.stands l.interpreter) l.number (lines_left lines) l.is_short);
      behind : TellsWhole (held g.W.Write.contents l.fn.output) (held g.W.Write.contents l.output) (λ written. ⊤);
      reliable : g.I.Interpreter.is_reliable l.fn.interpreter → g.I.Interpreter.is_reliable l.interpreter;
      ready : g.I.Interpreter.is_ready l.interpreter;
      kept : g.I.Interpreter.kept l.interpreter ≡ g.I.Interpreter.kept l.fn.interpreter;
      found : first_bad_from l.number (lines_left lines) ≡ first_bad l.fn.text;
      unbroken : write_failed l.output ≡ write_failed l.fn.output;
      counted : l.number + lines_at_most lines ≤ 2 ^ 30 + 2;
    }

abbrev pub decreases-loop-rest : goal.decreases-loop-rest
decreases-loop-rest g l = lines_at_most (option_map (λ text. text.now) l.rest)
