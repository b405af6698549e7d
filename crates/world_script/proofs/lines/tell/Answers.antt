use Rattle.std.proofs.Common.{refl}
use Rattle.world_script.proofs.Growing.{same_grows}
use Rattle.world_script.proofs.Scening.{tells_so}
use Rattle.world_script.proofs.lines.tell.Goals as goal

pub execute-requires-clause-cache : goal.execute-requires-clause-cache
execute-requires-clause-cache g c = c.new.ensures.cache (g.S.Store.objects c.args.scene.now.world.store.store)

pub returns-clause-tells : goal.returns-clause-tells
returns-clause-tells g c = λ reliable s stands.
    let objects = g.S.Store.objects in
    let carried = c.execute.ensures.carried in
    tells_so objects c.args.scene.now s stands _ _ _ _ (carried.told reliable) carried.short (carried.whole reliable) carried.looks
    (same_grows (objects c.args.scene.now.world.store.store) (objects c.execute.new.store) (carried.looks tt)) refl refl refl refl refl refl refl refl
