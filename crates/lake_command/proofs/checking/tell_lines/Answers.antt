use Rattle.std.proofs.Common.{ℕ, List, subst, sym, take}
use Rattle.std.specs.Prelude.{map, string_bytes}
use Rattle.outcomes.specs.Lines.{with_newline}
use Rattle.lake_hints.specs.ErrorOutputs.{TellsText}
use Rattle.lake_hints.proofs.Callers.{told_nothing, told_on}
use Rattle.lake_command.specs.ErrorTexts.{lines_text}
use Rattle.lake_command.proofs.LineLemmas.{lines_all, lines_more}
use Rattle.lake_command.proofs.checking.tell_lines.Goals as goal

pub loop-line-init : goal.loop-line-init
loop-line-init g c = record { told = told_nothing g.E.Write.contents c.args.err.now }

pub loop-line-preserved : goal.loop-line-preserved
loop-line-preserved g c = record {
  told = subst (λ (text : List ℕ). TellsText g.E.Write.contents c.args.err.now c.say.new.self text) (sym (lines_more string_bytes c.args.lines.now c.loop-line.line-index c.line-item.result c.loop-line-test.true c.line-item.is))
      (told_on g.E.Write.contents c.args.err.now c.loop-line.err c.say.new.self (lines_text (map string_bytes (take c.loop-line.line-index c.args.lines.now))) (with_newline (string_bytes c.line-item.result)) c.loop-line.invariant.told c.say.ensures);
}

pub returns : goal.returns
returns g c = subst (λ (text : List ℕ). TellsText g.E.Write.contents c.args.err.now c.loop-line.err text) (lines_all string_bytes c.args.lines.now c.loop-line.line-index c.loop-line-test.false) c.loop-line.invariant.told
