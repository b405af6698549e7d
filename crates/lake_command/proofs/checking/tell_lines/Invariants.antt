use Rattle.std.proofs.Common.{take}
use Rattle.std.specs.Prelude.{map, string_bytes}
use Rattle.lake_hints.specs.ErrorOutputs.{TellsText}
use Rattle.lake_command.specs.ErrorTexts.{lines_text}
use Rattle.lake_command.proofs.checking.tell_lines.Given as goal

abbrev pub invariant-loop-line : goal.invariant-loop-line
invariant-loop-line g l = record {
  told : TellsText g.E.Write.contents l.fn.err l.err (lines_text (map string_bytes (take l.line-index l.lines)));
}
