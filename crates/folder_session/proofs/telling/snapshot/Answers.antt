use Rattle.std.proofs.Common.{[], Ok, Err, refl, subst}
use Rattle.store_core.specs.Memory.{stored_objects}
use Rattle.store_core.specs.Objects.{Objects}
use Rattle.session_core.proofs.Callers.{all_got}
use Rattle.table_log.specs.LoadSessions.{LoadAsks, LoadEnds, LoadJob, is_lost_load, left_at}
use Rattle.folder_session.specs.Beside.{DrivesBeside}
use Rattle.folder_session.proofs.SnapshotLemmas.{first_job, refused_so, snapshot_so, told_by_load}
use Rattle.folder_session.proofs.VisibleTalks.{on_fault}
use Rattle.folder_session.proofs.telling.snapshot.Goals as goal

pub returns-in-Ok-clause-told : goal.returns-in-Ok-clause-told
returns-in-Ok-clause-told g c = λ steady.
    let objects : Objects = g.F.Folder.objects c.args.folder.now in
    let session = c.new-session.result in
    let most = left_at session.stage in
    let ended = c.in_ok-outcome.field-0 in
    let added = stored_objects ended.added in
    let before = all_got objects objects in
    let fits = c.new-session.ensures.fits before (λ objects bears. c.new-nothing.ensures.front objects) in
    let driven = subst (λ (job : LoadJob). DrivesBeside LoadAsks LoadEnds is_lost_load job most before ended.outcome objects added) c.new-session.ensures.job (c.in_ok-outcome.ensures.driven steady before fits) in
    snapshot_so _ most ended.outcome objects _ driven.drives c.in-Ok.loaded c.snapshot_text.result c.in-Ok.is c.snapshot_text.ensures.told c.snapshot_text.ensures.refused c.snapshot_text.ensures.never_lost

pub returns-clause-told : goal.returns-clause-told
returns-clause-told g c = λ steady.
    let objects : Objects = g.F.Folder.objects c.args.folder.now in
    let session = c.new-session.result in
    let most = left_at session.stage in
    let ended = c.in_ok-outcome.field-0 in
    let added = stored_objects ended.added in
    let before = all_got objects objects in
    let fits = c.new-session.ensures.fits before (λ objects bears. c.new-nothing.ensures.front objects) in
    let driven = subst (λ (job : LoadJob). DrivesBeside LoadAsks LoadEnds is_lost_load job most before ended.outcome objects added) c.new-session.ensures.job (c.in_ok-outcome.ensures.driven steady before fits) in
    refused_so _ most ended.outcome objects _ driven.drives c.in-Err.fault c.from.result c.in-Err.is c.from.ensures

-- ---- which calls are made

pub returns-in_err-outcome-clause-looked : goal.returns-in_err-outcome-clause-looked
returns-in_err-outcome-clause-looked g c = on_fault _ _ _ c.from_residual.result c.from_residual.ensures.1 c.in_err-outcome.ensures.talks

pub returns-in-Ok-clause-looked : goal.returns-in-Ok-clause-looked
returns-in-Ok-clause-looked g c =
    let session = c.new-session.result in
    let ended = c.in_ok-outcome.field-0 in
    let job = first_job c.args.use_checkpoints c.new-nothing.result _ c.new-session.ensures.job c.new-nothing.ensures.none c.new-nothing.ensures.next in
    let fits = c.new-session.ensures.fits [] (λ objects bears. c.new-nothing.ensures.front objects) in
    told_by_load g.F.Folder.makes c.args.folder.now c.drive_beside.new.folder c.args.use_checkpoints _ job (left_at session.stage) ended.outcome (stored_objects ended.added) (c.in_ok-outcome.ensures.talks [] fits)
    (Ok c.in-Ok.loaded) c.in-Ok.is c.snapshot_text.result (c.snapshot_text.ensures.told, c.snapshot_text.ensures.refused)

pub returns-clause-looked : goal.returns-clause-looked
returns-clause-looked g c =
    let session = c.new-session.result in
    let ended = c.in_ok-outcome.field-0 in
    let job = first_job c.args.use_checkpoints c.new-nothing.result _ c.new-session.ensures.job c.new-nothing.ensures.none c.new-nothing.ensures.next in
    let fits = c.new-session.ensures.fits [] (λ objects bears. c.new-nothing.ensures.front objects) in
    told_by_load g.F.Folder.makes c.args.folder.now c.drive_beside.new.folder c.args.use_checkpoints _ job (left_at session.stage) ended.outcome (stored_objects ended.added) (c.in_ok-outcome.ensures.talks [] fits)
    (Err c.in-Err.fault) c.in-Err.is (Err c.from.result) (c.from.result, refl, c.from.ensures)
