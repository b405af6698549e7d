use Rattle.std.proofs.Common.{Err, inl, ap, subst, sym}
use Rattle.store_core.specs.Objects.{Objects}
use Rattle.script_lines.specs.Lines.{look, snapshot}
use Rattle.lake_script.specs.ReplyView.{reply_text}
use Rattle.lake_script.specs.Runs.{Executes}
use Rattle.lake_script.specs.Sound.{IsExecuted}
use Rattle.lake_script.specs.declared.reply.LineReply.TheVariants.{NoSnapshot}
use Rattle.lake_script.proofs.CheckpointLemmas.{has_executed, snapshot_executed, unread_executed, unread_short, unread_told}
use Rattle.snapshot_core.proofs.Callers.{tells_alike, unread_alike}
use Rattle.lake_script.proofs.AnyStoreLemmas.{snapshot_loss, snapshot_told}
use Rattle.lake_script.proofs.looks.tell_snapshot.Goals as goal

pub returns-in-Ok-clause-told : goal.returns-in-Ok-clause-told
returns-in-Ok-clause-told g c = λ reliable well.
    let objects = g.S.Store.objects c.args.store.now in
    let text = c.in-Ok.text.items in
    let tells = tells_alike c.args.use_checkpoints objects well text c.in-Ok.ensures.told.told in
    subst (λ (after : Objects). Executes objects (look snapshot) text after) (sym c.in-Ok.ensures.told.untouched) (has_executed objects (look snapshot) text objects (snapshot_executed objects text tells))

pub returns-in-Ok-clause-whole : goal.returns-in-Ok-clause-whole
returns-in-Ok-clause-whole g c = λ reliable well enough.
    let objects = g.S.Store.objects c.args.store.now in
    let text = c.in-Ok.text.items in
    let tells = tells_alike c.args.use_checkpoints objects well text c.in-Ok.ensures.told.told in
    subst (λ (after : Objects). IsExecuted objects (look snapshot) text after) (sym c.in-Ok.ensures.told.untouched) (snapshot_executed objects text tells)

pub returns-in-Err-clause-told : goal.returns-in-Err-clause-told
returns-in-Err-clause-told g c = λ reliable well.
    let objects = g.S.Store.objects c.args.store.now in
    let fault = c.in-Err.fault in
    let said = unread_alike c.args.use_checkpoints objects well fault c.in-Err.ensures.told.refused in
    subst (λ (after : Objects). Executes objects (look snapshot) (reply_text (NoSnapshot fault)) after) (sym c.in-Err.ensures.told.untouched) (unread_told objects fault said (λ lost. c.in-Err.ensures.never_lost reliable (ap Err lost)))

pub returns-in-Err-clause-whole : goal.returns-in-Err-clause-whole
returns-in-Err-clause-whole g c = λ reliable well enough.
    let objects = g.S.Store.objects c.args.store.now in
    let fault = c.in-Err.fault in
    let said = unread_alike c.args.use_checkpoints objects well fault c.in-Err.ensures.told.refused in
    subst (λ (after : Objects). IsExecuted objects (look snapshot) (reply_text (NoSnapshot fault)) after) (sym c.in-Err.ensures.told.untouched) (unread_executed objects fault said enough (λ lost. c.in-Err.ensures.never_lost reliable (ap Err lost)))

pub returns-in-Err-clause-wants : goal.returns-in-Err-clause-wants
returns-in-Err-clause-wants g c = λ well short.
    let objects = g.S.Store.objects c.args.store.now in
    unread_short objects c.in-Err.fault (unread_alike c.args.use_checkpoints objects well c.in-Err.fault c.in-Err.ensures.told.refused) short

pub returns-in-Ok-clause-any : goal.returns-in-Ok-clause-any
returns-in-Ok-clause-any g c = let told = c.in-Ok.ensures.told in ((told.untouched, told.in_flight), inl (inl (inl told.told), told.counted (λ wrong. cc)))

pub returns-in-Err-clause-any : goal.returns-in-Err-clause-any
returns-in-Err-clause-any g c =
    let told = c.in-Err.ensures.told in
    snapshot_told (g.S.Store.objects c.args.store.now, g.S.Store.in_flight c.args.store.now) (g.S.Store.objects c.snapshot.new.store, g.S.Store.in_flight c.snapshot.new.store) _ _
    c.args.use_checkpoints c.in-Err.fault told.refused (told.untouched, told.in_flight) (λ lost. told.lost (ap Err lost)) (λ other. told.counted (λ wrong. other cc))

pub returns-in-Ok-clause-lost : goal.returns-in-Ok-clause-lost
returns-in-Ok-clause-lost g c = record {
  lost = λ is. absurd cc;
  counted = λ is. c.in-Ok.ensures.told.counted (λ wrong. cc);
  told_lost = λ is. absurd cc;
}

pub returns-in-Err-clause-lost : goal.returns-in-Err-clause-lost
returns-in-Err-clause-lost g c =
    let told = c.in-Err.ensures.told in
    snapshot_loss (g.S.Store.objects c.args.store.now, g.S.Store.in_flight c.args.store.now) (g.S.Store.objects c.snapshot.new.store, g.S.Store.in_flight c.snapshot.new.store) _ _
    c.in-Err.fault (λ lost. told.lost (ap Err lost)) (λ other. told.counted (λ wrong. other cc))
