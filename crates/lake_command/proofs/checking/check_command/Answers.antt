use Rattle.std.proofs.Common.{inl, inr, string_bytes}
use Rattle.lake_words.specs.Asked.{snapshot}
use Rattle.lake_command.proofs.CheckLemmas.{folder_unjudged, judged, large_unjudged}
use Rattle.lake_command.proofs.checking.check_command.Goals as goal

pub returns-in-Ok-clause-ended : goal.returns-in-Ok-clause-ended
returns-in-Ok-clause-ended g c =
    inl (judged g.W.Write.contents g.E.Write.contents (g.F.Folder.is_steady c.args.reader.now.folder) (g.F.Folder.objects c.args.reader.now.folder) c.in-Ok.report.verdict c.in-Ok.report.beside _ _ _ _ _
    c.in-Ok.ensures.told c.in-Ok.ensures.beside c.in-Ok.ensures.lies c.tell_report.ensures)

pub returns-in-Err-TooLarge-clause-ended : goal.returns-in-Err-TooLarge-clause-ended
returns-in-Err-TooLarge-clause-ended g c =
    inr (large_unjudged g.W.Write.contents g.E.Write.contents (g.F.Folder.is_steady c.args.reader.now.folder) (g.F.Folder.objects c.args.reader.now.folder) (string_bytes c.in-Err-TooLarge.name) c.deref.result.now _ _ _ _ _ _ _
    c.deref.ensures (rw c.in-Err-TooLarge.field-0-is at c.in-Err-TooLarge.ensures.large) c.tell_large.ensures)

pub returns-in-Err-Folder-clause-ended : goal.returns-in-Err-Folder-clause-ended
returns-in-Err-Folder-clause-ended g c =
    inr (folder_unjudged g.W.Write.contents g.E.Write.contents snapshot 0 c.in-Err-Folder.fault _ _ _ _ _ _ _ (rw c.in-Err-Folder.field-0-is at c.in-Err-Folder.ensures.counted) (c.tell_failure.ensures.ended snapshot 0))
