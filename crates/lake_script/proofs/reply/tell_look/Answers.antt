use Rattle.std.proofs.Common.{[], refl, subst, sym}
use Rattle.store_core.specs.Objects.{Objects}
use Rattle.log_reading.specs.LogCache.{IsCacheOf}
use Rattle.script_lines.specs.Lines.{hex, history, show, snapshot}
use Rattle.lake_script.specs.Sound.{IsExecuted}
use Rattle.lake_script.proofs.CarriedLines.{look_carried}
use Rattle.lake_script.proofs.reply.tell_look.Goals as goal

pub returns-in-Snapshot-clause-carried : goal.returns-in-Snapshot-clause-carried
returns-in-Snapshot-clause-carried g c = λ tries.
    let told = c.tell_snapshot.ensures in
    rw c.in-Snapshot.is
    (look_carried _ c.args.use_checkpoints tries _ snapshot _ _ _ _ _ _ told.any.0.0 _
    (λ reliable well enough. subst (IsExecuted _ _ _) told.any.0.0 (told.whole reliable well enough)) told.wants told.lost.lost told.lost.counted told.lost.told_lost told.any)

pub returns-in-Snapshot-clause-untouched : goal.returns-in-Snapshot-clause-untouched
returns-in-Snapshot-clause-untouched g c = c.tell_snapshot.ensures.any.0.0

pub returns-in-Snapshot-clause-cache : goal.returns-in-Snapshot-clause-cache
returns-in-Snapshot-clause-cache g c = subst (λ (after : Objects). IsCacheOf after c.tell_snapshot.new.cache) (sym c.tell_snapshot.ensures.any.0.0) c.tell_snapshot.ensures.cache

pub returns-in-History-clause-carried : goal.returns-in-History-clause-carried
returns-in-History-clause-carried g c = λ tries.
    let told = c.tell_history.ensures in
    rw c.in-History.is
    (look_carried _ c.args.use_checkpoints tries _ history _ _ _ _ _ _ told.untouched _
    (λ reliable well enough. record { text = []; printed = tt; told = told.told reliable enough; left = refl; sound = tt }) (λ well. told.wants) told.lost told.counted told.told_lost told.any)

pub returns-in-Show-clause-carried : goal.returns-in-Show-clause-carried
returns-in-Show-clause-carried g c = λ tries.
    let told = c.show.ensures in
    rw c.in-Show.is
    (look_carried _ c.args.use_checkpoints tries _ (show c.in-Show.version) _ _ _ _ _ _ told.untouched _
    (λ reliable well enough. record { text = []; printed = tt; told = told.told reliable enough; left = refl; sound = tt }) (λ well. told.wants) told.lost told.counted told.told_lost told.any)

pub returns-in-Hex-clause-carried : goal.returns-in-Hex-clause-carried
returns-in-Hex-clause-carried g c = λ tries.
    let told = c.show_in_hex.ensures in
    rw c.in-Hex.is
    (look_carried _ c.args.use_checkpoints tries _ (hex c.in-Hex.name.now) _ _ _ _ _ _ told.untouched _
    (λ reliable well enough. record { text = []; printed = tt; told = told.told reliable enough; left = refl; sound = tt }) (λ well. told.wants) told.lost told.counted told.told_lost told.any)
