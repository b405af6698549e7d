use Rattle.store_core.proofs.Trees.{stored_objects_seen}
use Rattle.store_core.proofs.memory.MemoryStoreStore.get.Goals as goal

pub returns-clause-object : goal.returns-clause-object
returns-clause-object c = rw (stored_objects_seen c.self.inside.objects c.args.self.now c.self.view_is c.self.invariant.0) c.copy_of.ensures.object
