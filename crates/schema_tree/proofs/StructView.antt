-- A type, level by level.
use Rattle.std.proofs.Common.{◌≡◌, ◌<◌, List, Vec, rules, string_bytes}
use denote.Param.Weighed.{most}
use Rattle.schema_tree.specs.Tree as tree
use Rattle.schema_tree.specs.Tree.{fields_of}
use Rattle.schema_tree.specs.View.{view, field_view, field_views}
use Rattle.schema_tree.specs.declared.node.Node.{Node, the_lemmas, size-Node}
use Rattle.schema_tree.specs.declared.node.Node.TheVariants as nodes
use Rattle.schema_tree.specs.declared.node.Field.{Field, size-Field, out-Field}

pub view-Struct : {A : Type 0} → (v : Vec (Field A) A) → view (nodes.Struct v) ≡ tree.struct (fields_of (field_views v.items))
view-Struct v = search (rules, the_lemmas)

struct_falls : {A : Type 0} → (v : Vec (Field A) A) → most (size-Field A) v.items < size-Node A (nodes.Struct v)
struct_falls v = search (rules, the_lemmas)

-- a struct is deeper than its fields
pub fields_fall : {A : Type 0} → (v : Vec (Field A) A) (fs : List (Field A)) (n : Node A) → fs ≡ v.items → n ≡ nodes.Struct v → most (size-Field A) fs < size-Node A n
fields_fall v fs n slice is = rw (slice, is) (struct_falls v)

-- a field, part by part
pub name_seen : {A : Type 0} → (f : Field A) → string_bytes (out-Field A f).name ≡ (field_view f).name
name_seen {A} f = search (rules, the_lemmas)

pub type_seen : {A : Type 0} → (f : Field A) → view (out-Field A f).data_type ≡ (field_view f).data_type
type_seen {A} f = search (rules, the_lemmas)

pub nullable_seen : {A : Type 0} → (f : Field A) → (out-Field A f).nullable ≡ (field_view f).nullable
nullable_seen {A} f = search (rules, the_lemmas)
