-- The tree of a store in memory, as the objects that stand.
use Rattle.std.specs.Prelude.{◌≡◌, ℕ, List, map, Vec, String, Option, IfSome}
use Rattle.std.specs.Global.{Global}
use Rattle.std.specs.BTreeMap.{BTreeMap}
use Rattle.std.specs.String.{string_bytes}
use Rattle.std.specs.FinMap as finite
use Rattle.store_core.specs.Listed.{listed}
use Rattle.store_core.specs.Objects.{Objects, IsInOrder, name_order, names_of}
use Rattle.store_core.specs.declared.names.Names.{Names}
use Rattle.store_core.specs.ObjectLaws.{in_order_from_sorted, true_from_T}

-- what a store in memory stands for: a finite map from names to bytes
abbrev pub Stored : Type 0
Stored = finite.FinMap name_order (List ℕ)

-- its objects
abbrev pub stored_objects : Stored → Objects
stored_objects store = finite.entries store

-- a tree from names to bytes
abbrev pub Tree : Type 0
Tree = BTreeMap (String Global) (Vec ℕ Global)

-- an entry of the tree: a name's bytes, with the object's
abbrev pub stored_object : String Global × Vec ℕ Global → List ℕ × List ℕ
stored_object entry = (string_bytes entry.0, entry.1.items)

-- the objects of the tree
abbrev pub objects_of : Tree → Objects
objects_of tree = map stored_object tree.entries

-- names that are kept, if any are, are those of the tree's objects
abbrev pub AreNamesOf : Tree → Option Names → Type 0
AreNamesOf tree kept = IfSome kept (λ names. listed names ≡ names_of (objects_of tree))

-- what stands for the tree, whose names rise
abbrev pub stored_of : Tree → Stored
stored_of tree = finite.from_sorted (objects_of tree)

-- the objects of a store in memory are in order
pub IsInOrder-stored : (store : Stored) → IsInOrder (stored_objects store)
IsInOrder-stored store = in_order_from_sorted (finite.entries store) (true_from_T _ (finite.entries_sorted store))
