-- The nodes of a schema, put one after another.
use Rattle.std.proofs.Common.{◌≡◌, ℕ, suc, ◌+◌, ◌<◌, ◌≤◌, length, get_or, drop, List, [], ◌∷◌, ◌++◌, Bool, Some, Vec, Global, string_bytes, refl, sym, ap, ◌∙◌, append_assoc, rules}
use Rattle.std.proofs.lemmas.List.{append-nil, drop_all, map_push}
use denote.Param.Weighed.{most}
use Rattle.thrift_core.specs.Tree as thrift
use Rattle.thrift_core.specs.View.{view, views}
use Rattle.thrift_values.specs.declared.value.TValue.{TValue}
use Rattle.schema_tree.specs.Tree as tree
use Rattle.schema_tree.specs.Tree.{fields_of as tree_fields}
use Rattle.schema_tree.specs.View.{view as type_view, field_view as column_view, field_views as column_views}
use Rattle.schema_tree.specs.declared.node.Field.{Field, out-Field, size-Field}
use Rattle.schema_tree.specs.declared.node.Node.{Node, size-Node, the_lemmas}
use Rattle.schema_tree.specs.declared.node.Node.TheVariants as nodes
use Rattle.schema_tree.specs.declared.primitive.Primitive.{Primitive}
use Rattle.parquet_schema.specs.Fitting.{count_of_columns}
use Rattle.page_cells.specs.Types.{leaf_type}
use Rattle.page_cells.specs.declared.types.LeafType.{LeafType}
use Rattle.parquet_file.specs.Writing.{field_elements, group_element, leaf_element, node_elements, root_element, schema_elements}
use Rattle.parquet_file.proofs.CodeSteps.{member_here}

-- ---- a type, level by level

pub type-Struct : {A : Type 0} (v : Vec (Field A) A)
    → type_view (nodes.Struct v) ≡ tree.struct (tree_fields (column_views v.items))
type-Struct v = search (rules, the_lemmas)

pub type-Leaf : {A : Type 0} (p : Primitive) (n : Node A) → n ≡ nodes.Leaf p → type_view n ≡ tree.leaf p
type-Leaf p n is = rw is (search (rules, the_lemmas))

struct_falls : {A : Type 0} (v : Vec (Field A) A) → most (size-Field A) v.items < size-Node A (nodes.Struct v)
struct_falls v = search (rules, the_lemmas)

-- a struct is deeper than its fields
pub fields_fall : {A : Type 0} (v : Vec (Field A) A) (fs : List (Field A)) (n : Node A) → fs ≡ v.items
    → n ≡ nodes.Struct v → most (size-Field A) fs < size-Node A n
fields_fall v fs n slice is = rw (slice, is) (struct_falls v)

-- a node that is a struct, as the tree of its fields
pub struct_seen : {A : Type 0} (v : Vec (Field A) A) (fs : List (Field A)) (n : Node A) → fs ≡ v.items
    → n ≡ nodes.Struct v → type_view n ≡ tree.struct (tree_fields (column_views fs))
struct_seen v fs n slice is =
    ap type_view is ∙ (type-Struct v ∙ ap (λ gs. tree.struct (tree_fields (column_views gs))) (sym slice))

-- a field, part by part
pub name_seen : {A : Type 0} (f : Field A) → string_bytes (out-Field A f).name ≡ (column_view f).name
name_seen {A} f = search (rules, the_lemmas)

pub type_seen : {A : Type 0} (f : Field A) → type_view (out-Field A f).data_type ≡ (column_view f).data_type
type_seen {A} f = search (rules, the_lemmas)

pub nullable_seen : {A : Type 0} (f : Field A) → (out-Field A f).nullable ≡ (column_view f).nullable
nullable_seen {A} f = search (rules, the_lemmas)

-- a table has as many columns as it has fields
pub columns_counted : {A : Type 0} (fs : List (Field A)) → count_of_columns (tree_fields (column_views fs)) ≡ length fs
columns_counted [] = refl
columns_counted (f ∷ fs) = ap suc (columns_counted fs)

-- ---- what is put

-- the nodes of several fields
abbrev pub elements_of : {A : Type 0} → List (Field A) → List thrift.Tree
elements_of fs = field_elements (tree_fields (column_views fs))

same_elements : (name other : List ℕ) (nullable may : Bool) (t u : tree.Tree) → name ≡ other → nullable ≡ may → t ≡ u
    → node_elements name nullable t ≡ node_elements other may u
same_elements name other nullable may t u named flagged typed = cc

-- the nodes of one more field are put
pub one_put : {A : Type 0} (fs : List (Field A)) (i : ℕ) (f : Field A) (name : List ℕ) (before now total : List thrift.Tree)
    → i < length fs → f ≡ get_or fs i f → name ≡ string_bytes (out-Field A f).name
    → now ≡ before ++ node_elements name (out-Field A f).nullable (type_view (out-Field A f).data_type)
    → before ++ elements_of (drop i fs) ≡ total → now ++ elements_of (drop (i + 1) fs) ≡ total
one_put {A} fs i f name before now total lt at named put so_far =
    let here = member_here column_view fs i f lt at in
    let c = column_view f in
    let others = elements_of (drop (i + 1) fs) in
    let first = node_elements c.name c.nullable c.data_type in
    let split : elements_of (drop i fs) ≡ first ++ others = ap (λ cs. field_elements (tree_fields cs)) here in
    let one : now ≡ before ++ first = put ∙ ap (λ ts. before ++ ts) (same_elements name c.name _ c.nullable _ c.data_type (named ∙ name_seen f) (nullable_seen f) (type_seen f)) in
    rw one (append_assoc before first others) ∙ (ap (λ ts. before ++ ts) (sym split) ∙ so_far)

-- the nodes of all fields are put
pub all_put : {A : Type 0} (fs : List (Field A)) (i : ℕ) (now total : List thrift.Tree) → length fs ≤ i
    → now ++ elements_of (drop i fs) ≡ total → now ≡ total
all_put fs i now total over so_far =
    sym (append-nil now) ∙ (ap (λ gs. now ++ elements_of gs) (sym (drop_all i fs over)) ∙ so_far)

-- a group and the nodes inside it
pub group_put : {A : Type 0} (v : Vec (Field A) A) (fs : List (Field A)) (n : Node A) (name : List ℕ) (nullable : Bool)
    (old new : List (TValue Global)) (x : TValue Global) (count : ℕ) → fs ≡ v.items → n ≡ nodes.Struct v
    → count ≡ length fs → view x ≡ group_element name nullable count → new ≡ old ++ x ∷ []
    → views new ++ elements_of fs ≡ views old ++ node_elements name nullable (type_view n)
group_put v fs n name nullable old new x count slice is many seen put =
    let counted : count ≡ count_of_columns (tree_fields (column_views fs)) =
    many ∙ sym (columns_counted fs) in
    let first : views new ≡ views old ++ view x ∷ [] = ap views put ∙ map_push view old x in
    let whole : view x ∷ elements_of fs ≡ node_elements name nullable (type_view n) =
    rw (struct_seen v fs n slice is, seen, counted) refl in
    ap (λ ts. ts ++ elements_of fs) first
    ∙ (append_assoc (views old) (view x ∷ []) (elements_of fs) ∙ ap (λ ts. views old ++ ts) whole)

-- a leaf
pub leaf_put : {A : Type 0} (p : Primitive) (n : Node A) (type : LeafType) (name : List ℕ) (nullable : Bool)
    (old new : List (TValue Global)) (x : TValue Global) → n ≡ nodes.Leaf p → leaf_type p ≡ Some type
    → view x ≡ leaf_element name nullable type → new ≡ old ++ x ∷ []
    → views new ≡ views old ++ node_elements name nullable (type_view n)
leaf_put p n type name nullable old new x is of seen put =
    let whole : view x ∷ [] ≡ node_elements name nullable (type_view n) = rw (type-Leaf p n is, of, seen) refl in
    ap views put ∙ (map_push view old x ∙ ap (λ ts. views old ++ ts) whole)

-- the root and the nodes of a table's fields
pub root_put : {A : Type 0} (counted fs : List (Field A)) (cs : List tree.Column) (x : TValue Global)
    (items : List (TValue Global)) (put : List thrift.Tree) → column_views counted ≡ cs → column_views fs ≡ cs
    → view x ≡ root_element (length counted) → items ≡ x ∷ [] → put ≡ views items ++ elements_of fs
    → put ≡ schema_elements (tree.struct (tree_fields cs))
root_put counted fs cs x items put same are seen is e =
    let many : length counted ≡ count_of_columns (tree_fields cs) =
    sym (columns_counted counted) ∙ ap (λ ds. count_of_columns (tree_fields ds)) same in
    let behind : elements_of fs ≡ field_elements (tree_fields cs) = ap (λ ds. field_elements (tree_fields ds)) are in
    let root : view x ≡ root_element (count_of_columns (tree_fields cs)) = seen ∙ ap root_element many in
    e ∙ (ap (λ vs. views vs ++ elements_of fs) is ∙ rw (root, behind) refl)
