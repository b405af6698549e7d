use Rattle.std.proofs.Common.{◌∙◌, ap, map}
use Rattle.store_core.specs.Memory.{stored_object}
use Rattle.store_core.proofs.Trees.{stored_objects_of_tree}
use Rattle.store_core.proofs.memory.MemoryStore.new.Goals as goal

pub returns : goal.returns
returns c = stored_objects_of_tree c.new.result c.new.ensures.ordered ∙ ap (map stored_object) c.new.ensures.empty
