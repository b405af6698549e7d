-- The order of a folder in which nothing stands.
use Rattle.std.specs.Prelude.{[]}
use Rattle.std.specs.List.Sorted.{IsStrictlySortedBy}
use Rattle.store_core.specs.Objects.{IsInOrder}

-- where nothing stands the names are in order
pub IsInOrder-none : IsInOrder []
unfolding IsStrictlySortedBy
IsInOrder-none = tt
