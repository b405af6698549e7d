-- A value of the Thrift compact protocol, without where it lies in memory: a tree.
use Rattle.std.specs.Prelude.{ℕ, suc, ◌+◌, max, ℤ, List, [], ◌∷◌, Bool, Option, Some, None, if◌then◌else◌}
use Rattle.std.specs.Ordering.{int_eq}

mutual
  pub data Tree : Type 0 where
    boolean : Bool → Tree
    integer : ℤ → Tree
    binary : List ℕ → Tree
    list : Trees → Tree
    map : Entries → Tree
    struct : Fields → Tree
    skipped : Tree

  -- the members of a list or a set
  pub data Trees : Type 0 where
    no_trees : Trees
    tree : Tree → Trees → Trees

  -- the keys and values of a map, in the order of the bytes
  pub data Entries : Type 0 where
    no_entries : Entries
    entry : Tree → Tree → Entries → Entries

  -- the ids and values of a struct, in the order of the bytes
  pub data Fields : Type 0 where
    no_fields : Fields
    field : ℤ → Tree → Fields → Fields

-- how many members there are
abbrev pub count_of_trees : Trees → ℕ
count_of_trees no_trees = 0
count_of_trees (tree t ts) = suc (count_of_trees ts)

-- how many entries there are
abbrev pub count_of_entries : Entries → ℕ
count_of_entries no_entries = 0
count_of_entries (entry k v es) = suc (count_of_entries es)

-- how many structs, lists and maps stand in one another, the outermost counted
abbrev mutual
  pub depth : Tree → ℕ
  depth (boolean b) = 0
  depth (integer z) = 0
  depth (binary text) = 0
  depth (list ts) = suc (depth_of_trees ts)
  depth (map es) = suc (depth_of_entries es)
  depth (struct fs) = suc (depth_of_fields fs)
  depth skipped = 0

  pub depth_of_trees : Trees → ℕ
  depth_of_trees no_trees = 0
  depth_of_trees (tree t ts) = max (depth t) (depth_of_trees ts)

  pub depth_of_entries : Entries → ℕ
  depth_of_entries no_entries = 0
  depth_of_entries (entry k v es) = max (depth k) (max (depth v) (depth_of_entries es))

  pub depth_of_fields : Fields → ℕ
  depth_of_fields no_fields = 0
  depth_of_fields (field id v fs) = max (depth v) (depth_of_fields fs)

-- how many values there are: each value is one, with those inside it
abbrev mutual
  pub nodes : Tree → ℕ
  nodes (boolean b) = 1
  nodes (integer z) = 1
  nodes (binary text) = 1
  nodes (list ts) = suc (nodes_of_trees ts)
  nodes (map es) = suc (nodes_of_entries es)
  nodes (struct fs) = suc (nodes_of_fields fs)
  nodes skipped = 1

  pub nodes_of_trees : Trees → ℕ
  nodes_of_trees no_trees = 0
  nodes_of_trees (tree t ts) = nodes t + nodes_of_trees ts

  pub nodes_of_entries : Entries → ℕ
  nodes_of_entries no_entries = 0
  nodes_of_entries (entry k v es) = nodes k + nodes v + nodes_of_entries es

  pub nodes_of_fields : Fields → ℕ
  nodes_of_fields no_fields = 0
  nodes_of_fields (field id v fs) = nodes v + nodes_of_fields fs

-- plain lists as members, entries and fields
abbrev pub trees_of : List Tree → Trees
trees_of [] = no_trees
trees_of (t ∷ ts) = tree t (trees_of ts)

abbrev pub entries_of : List (Tree × Tree) → Entries
entries_of [] = no_entries
entries_of (e ∷ es) = entry e.0 e.1 (entries_of es)

abbrev pub fields_of : List (ℤ × Tree) → Fields
fields_of [] = no_fields
fields_of (f ∷ fs) = field f.0 f.1 (fields_of fs)

-- what is found later, or else what was found before
abbrev pub later : Option Tree → Option Tree → Option Tree
later (Some v) before = Some v
later None before = before

-- the value of the last field of this id
abbrev pub last_of : ℤ → Fields → Option Tree
last_of id no_fields = None
last_of id (field i v fs) = later (last_of id fs) (if int_eq i id then Some v else None)

-- the value of the last field of this id, of a struct that has one
abbrev pub value_of_field : ℤ → Tree → Option Tree
value_of_field id (struct fs) = last_of id fs
value_of_field id t = None
