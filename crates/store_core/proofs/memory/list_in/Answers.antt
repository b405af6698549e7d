use Rattle.std.proofs.Common.{sym, subst}
use Rattle.std.specs.List.Sorted.{IsStrictlySortedBy}
use Rattle.store_core.specs.Objects.{name_order}
use Rattle.store_core.proofs.Trees.{tree_rises}
use Rattle.store_core.proofs.memory.list_in.Goals as goal

pub new-requires : goal.new-requires
new-requires c = subst (IsStrictlySortedBy name_order) (sym c.in_ok-names_in.ensures.names) (tree_rises c.args.objects.now c.requires.ordered)
