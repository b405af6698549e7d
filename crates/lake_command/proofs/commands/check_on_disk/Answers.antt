use Rattle.std.proofs.Common.{inl, inr}
use Rattle.lake_words.specs.Asked.{snapshot}
use Rattle.lake_command.proofs.CheckLemmas.{folder_unopened}
use Rattle.lake_command.proofs.commands.check_on_disk.Goals as goal

pub returns-in-Ok : goal.returns-in-Ok
returns-in-Ok g c = inr (c.in-Ok.folder, _, c.in-Ok.ensures.path, c.in-Ok.ensures.faults, rw (c.new-reader.ensures) at c.check_command.ensures.ended)

pub returns-in-Err : goal.returns-in-Err
returns-in-Err g c = inl (folder_unopened g.W.Write.contents g.E.Write.contents snapshot 0 _ _ _ _ _ (c.tell_failure.ensures.ended snapshot 0))
