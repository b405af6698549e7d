use Rattle.std.proofs.Common.{refl}
use Rattle.world_script.proofs.Growing.{foreign_grows}
use Rattle.world_script.proofs.Scening.{tells_so}
use Rattle.world_script.proofs.lines.put_foreign.Goals as goal

pub execute-requires-clause-cache : goal.execute-requires-clause-cache
execute-requires-clause-cache g c = c.new.ensures.cache (g.S.Store.objects c.args.scene.now.world.store.store)

pub returns-clause-tells : goal.returns-clause-tells
returns-clause-tells g c = λ reliable s stands.
    let before = c.args.scene.now.world.store.store in
    let behind = c.execute.new.store in
    let carried = c.execute.ensures.carried in
    tells_so g.S.Store.objects c.args.scene.now s stands _ _ _ _ (carried.told reliable) carried.short (carried.whole reliable) carried.looks
    (foreign_grows (g.S.Store.objects before, g.S.Store.in_flight before) (g.S.Store.objects behind, g.S.Store.in_flight behind) _ _ c.args.version c.args.action.now _ carried.any) refl refl refl refl refl refl refl refl
