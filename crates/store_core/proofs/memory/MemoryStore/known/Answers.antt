use Rattle.std.proofs.Common.{sym, subst}
use Rattle.store_core.specs.Objects.{AreBytes}
use Rattle.store_core.proofs.Trees.{stored_objects_seen}
use Rattle.store_core.proofs.memory.MemoryStore.known.Goals as goal

pub returns : goal.returns
returns c = subst AreBytes (sym (stored_objects_seen c.self.inside.objects c.args.self.now c.self.view_is c.self.invariant.0)) c.are_bytes.ensures
