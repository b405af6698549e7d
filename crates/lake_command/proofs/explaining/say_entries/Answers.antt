use Rattle.std.proofs.Common.{ℕ, List, subst, sym, take}
use Rattle.std.proofs.KnownBytes.{Appends-nil, Appends-trans}
use Rattle.std.specs.Prelude.{map}
use Rattle.std.specs.Io.KnownBytes.{Appends}
use Rattle.refusal_texts.specs.Texts.{refusal_text}
use Rattle.lake_script.specs.Streams.{held}
use Rattle.lake_command.specs.ErrorTexts.{lines_text}
use Rattle.lake_command.proofs.LineLemmas.{lines_all, lines_next}
use Rattle.lake_command.proofs.explaining.say_entries.Goals as goal

pub loop-entry-init : goal.loop-entry-init
loop-entry-init g c = record { told = Appends-nil (held g.W.Write.contents c.args.output.now) }

pub loop-entry-preserved : goal.loop-entry-preserved
loop-entry-preserved g c =
    let contents = g.W.Write.contents in
    let entries = c.args.entries.now in
    let i = c.loop-entry.entry-index in
    record {
      told = subst (λ (text : List ℕ). Appends (held contents c.args.output.now) (held contents c.say.new.self) text) (sym (lines_next refusal_text entries i _ c.loop-entry-test.true))
          (Appends-trans (held contents c.args.output.now) (held contents c.loop-entry.output) (held contents c.say.new.self) (lines_text (map refusal_text (take i entries))) _ c.loop-entry.invariant.told c.in_ok-say.ensures.held);
    }

pub returns-clause-told : goal.returns-clause-told
returns-clause-told g c =
    subst (λ (text : List ℕ). Appends (held g.W.Write.contents c.args.output.now) (held g.W.Write.contents c.loop-entry.output) text) (lines_all refusal_text c.args.entries.now c.loop-entry.entry-index c.loop-entry-test.false) c.loop-entry.invariant.told
