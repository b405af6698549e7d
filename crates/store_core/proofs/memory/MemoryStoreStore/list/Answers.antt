use Rattle.std.proofs.Common.{sym, subst}
use Rattle.std.specs.List.Sorted.{IsStrictlySortedBy}
use Rattle.store_core.specs.Objects.{name_order}
use Rattle.store_core.specs.Memory.{IsInOrder-stored}
use Rattle.store_core.proofs.Answers.{if_ok_then}
use Rattle.store_core.proofs.Trees.{stored_objects_seen}
use Rattle.store_core.proofs.memory.MemoryStoreStore.list.Goals as goal

pub returns-clause-names : goal.returns-clause-names
returns-clause-names c = rw (stored_objects_seen c.self.inside.objects c.args.self.now c.self.view_is c.self.invariant.0) c.list_in.ensures.names

pub returns-clause-rising : goal.returns-clause-rising
returns-clause-rising c =
    if_ok_then c.list_in.result
    (λ names e. subst (IsStrictlySortedBy name_order) (sym e) (IsInOrder-stored c.args.self.now))
    (rw (stored_objects_seen c.self.inside.objects c.args.self.now c.self.view_is c.self.invariant.0) c.list_in.ensures.names)
