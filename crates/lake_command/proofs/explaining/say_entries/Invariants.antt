use Rattle.std.proofs.Common.{take}
use Rattle.std.specs.Prelude.{map}
use Rattle.std.specs.Io.KnownBytes.{Appends}
use Rattle.refusal_texts.specs.Texts.{refusal_text}
use Rattle.lake_script.specs.Streams.{held}
use Rattle.lake_command.specs.ErrorTexts.{lines_text}
use Rattle.lake_command.proofs.explaining.say_entries.Given as goal

abbrev pub invariant-loop-entry : goal.invariant-loop-entry
invariant-loop-entry g l = record {
  told : Appends (held g.W.Write.contents l.fn.output) (held g.W.Write.contents l.output) (lines_text (map refusal_text (take l.entry-index l.entries)));
}
