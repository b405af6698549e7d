use Rattle.lake_command.proofs.ExplainLemmas.{entries_written}
use Rattle.lake_command.proofs.explaining.write_all.Goals as goal

pub returns-clause-told : goal.returns-clause-told
returns-clause-told g c =
    entries_written g.W.Write.contents c.flush.result c.args.output.now c.say_entries.new.output c.say_entries-2.new.output c.flush.new.self c.refusals.result.now c.faults.result.now c.refusals.ensures c.faults.ensures
    c.in_ok-say_entries.ensures.told c.in_ok-say_entries-2.ensures.told c.flush.ensures.held c.flush.ensures.through
