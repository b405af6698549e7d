use Rattle.store_core.specs.Memory.{objects_of}
use Rattle.store_core.proofs.Trees.{stored_objects_seen, stored_objects_of_tree, stands_where_told}
use Rattle.store_core.proofs.memory.MemoryStoreStore.put_absent.Goals as goal

pub returns-clause-created : goal.returns-clause-created
returns-clause-created c = rw (stored_objects_seen c.self.inside.objects c.args.self.now c.self.view_is c.self.invariant.0) c.put_in.ensures.created

pub returns-clause-landed : goal.returns-clause-landed
returns-clause-landed c =
    rw (stored_objects_of_tree c.put_in.new.objects c.put_in.ensures.ordered, stored_objects_seen c.self.inside.objects c.args.self.now c.self.view_is c.self.invariant.0) c.put_in.ensures.landed

pub returns-clause-told : goal.returns-clause-told
returns-clause-told c = λ _. rw (stored_objects_seen c.self.inside.objects c.args.self.now c.self.view_is c.self.invariant.0) c.put_in.ensures.told

pub returns-clause-stands : goal.returns-clause-stands
returns-clause-stands c =
    rw (stored_objects_of_tree c.put_in.new.objects c.put_in.ensures.ordered)
    (stands_where_told c.put_in.result (objects_of c.self.inside.objects) (objects_of c.put_in.new.objects) c.args.name.now c.args.bytes.items c.put_in.ensures.told c.put_in.ensures.landed)
