use Rattle.std.proofs.Common.{Some, None, refl}
use Rattle.world_script.proofs.Scening.{land_text, lands_err, lands_so}
use Rattle.world_script.proofs.lines.land.Goals as goal

pub returns-in-Ok-Some-clause-comes : goal.returns-in-Ok-Some-clause-comes
returns-in-Ok-Some-clause-comes g c = λ reliable s stands.
    lands_so g.S.Store.objects c.args.scene.now s stands _ c.args.put (Some c.in-Ok-Some.put) _ _ (rw c.in-Ok-Some.field-0-is at (c.in-Ok-Some.ensures.happens reliable s.world stands.world_stands)) (land_text c.in-Ok-Some.put) refl refl refl refl refl refl

pub returns-in-Ok-None-clause-comes : goal.returns-in-Ok-None-clause-comes
returns-in-Ok-None-clause-comes g c = λ reliable s stands.
    lands_so g.S.Store.objects c.args.scene.now s stands _ c.args.put None _ _ (rw c.in-Ok-None.field-0-is at (c.in-Ok-None.ensures.happens reliable s.world stands.world_stands)) refl refl refl refl refl refl refl

pub returns-in-Err-clause-comes : goal.returns-in-Err-clause-comes
returns-in-Err-clause-comes g c = λ reliable s stands.
    lands_err g.S.Store.objects c.args.scene.now s stands c.args.scene.now.world.is_short _ c.args.put c.in-Err.fault (c.in-Err.ensures.happens reliable s.world stands.world_stands) refl refl refl refl refl
