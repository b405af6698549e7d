use Rattle.std.proofs.Common.{subst}
use Rattle.store_core.specs.Objects.{Objects}
use Rattle.snapshot_core.proofs.Callers.{tells_alike, unread_alike}
use Rattle.folder_session.specs.Snapshots.{IsSnapshot}
use Rattle.script_lines.specs.Lines.{look, snapshot}
use Rattle.lake_script.proofs.CheckpointLemmas.{has_executed, snapshot_executed, unread_told}
use Rattle.lake_command.proofs.saving.snapshot_in.Goals as goal

pub returns-in-Ok-clause-told : goal.returns-in-Ok-clause-told
returns-in-Ok-clause-told g c = λ steady well.
    let old : Objects = g.F.Folder.objects c.args.folder.now in
    let told = subst (IsSnapshot c.args.use_checkpoints old) c.in-Ok.is (c.in_ok-text.ensures.told steady) in
    let text = c.in-Ok.text.items in
    has_executed old (look snapshot) text old (snapshot_executed old text (tells_alike c.args.use_checkpoints old well text told))

pub returns-in-Err-clause-told : goal.returns-in-Err-clause-told
returns-in-Err-clause-told g c = λ steady well.
    let old : Objects = g.F.Folder.objects c.args.folder.now in
    let told = subst (IsSnapshot c.args.use_checkpoints old) c.in-Err.is (c.in_ok-text.ensures.told steady) in
    unread_told old c.in-Err.fault (unread_alike c.args.use_checkpoints old well c.in-Err.fault told.0) told.1
