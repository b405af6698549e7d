use Rattle.store_core.specs.Memory.{stored_objects}
use Rattle.store_core.specs.Objects.{Objects}
use Rattle.lake_script.specs.ReplyView.{reply_text}
use Rattle.lake_command.proofs.FolderLemmas.{history_told, log_well}
use Rattle.lake_command.proofs.saving.history_in.Goals as goal

pub execute-requires-clause-cache : goal.execute-requires-clause-cache
execute-requires-clause-cache g c = c.new.ensures.cache (stored_objects c.in_ok-store.store)

pub returns-clause-told : goal.returns-clause-told
returns-clause-told g c = λ steady restores.
    let old : Objects = g.F.Folder.objects c.args.folder.now in
    let start = stored_objects c.in_ok-store.store in
    let is = c.in_ok-store.ensures.loaded steady in
    let executed = c.execute.ensures.carried.told tt (log_well c.args.use_checkpoints old start is restores) in
    history_told old start _ (reply_text c.execute.result) (g.met.F.Folder.in_order c.args.folder.now) is executed

pub returns-clause-looked : goal.returns-clause-looked
returns-clause-looked g c =
    let called = c.in_ok-store.ensures.called in
    (called.0, called.1, (c.in_ok-store.store, called.2))
