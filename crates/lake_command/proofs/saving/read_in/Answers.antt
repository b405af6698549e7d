use Rattle.lake_command.proofs.saving.read_in.Goals as goal

pub returns-clause-told : goal.returns-clause-told
returns-clause-told g c = λ steady well.
    c.reply_of_read.ensures.executed c.args.use_checkpoints (g.F.Folder.objects c.args.folder.now) c.args.max c.args.offset.now well c.in_ok-told.ensures.never_lost (c.in_ok-told.ensures.told steady)

pub returns-clause-looked : goal.returns-clause-looked
returns-clause-looked g c =
    let looked = c.in_ok-told.ensures.looked in
    (looked.0, looked.1, (c.in_ok-told.told, looked.2, (c.in_ok-told.ensures.never_lost, λ said gives. c.reply_of_read.ensures.answers said c.in_ok-told.ensures.never_lost gives)))
