-- A table's rows have a leaf in each file that has the table's columns.
use Rattle.std.proofs.Common.{◌≡◌, ◌<◌, ◌++◌, List, length, map, Bool, true, false, Option, Some, None, option_map, cond, ℤ, subst, refl, ap, ◌∙◌, ◌+◌, arith, length-append}
use Rattle.std.proofs.lemmas.List.{length-map}
use Rattle.std.proofs.lemmas.Bool.{and_parts}
use Rattle.outcomes.specs.Options.{◌>>=◌}
use Rattle.schema_tree.specs.Limits.{is_sound, are_sound}
use Rattle.schema_tree.specs.Tree as tree
use Rattle.schema_tree.specs.Tree.{Tree}
use Rattle.shred.specs.Shape as shapes
use Rattle.shred.specs.Shape.{Shape}
use Rattle.parquet_footer.specs.Metadata.{SchemaElement}
use Rattle.page_cells.specs.Types.{leaf_type, physical_type, type_number}
use Rattle.page_cells.specs.declared.types.LeafType.{LeafType}
use Rattle.parquet_schema.specs.FileTree.{FileNode, leaf, group, fields_of}
use Rattle.parquet_schema.specs.Fitting.{field_named, fitted, fitted_fields, fitted_list, is_number, may_fit, physical_number}
use Rattle.parquet_schema.specs.Leaves.{LeafIn, bare_leaf, leaf_inside, leaves_in, leaves_of_fields}
use Rattle.parquet_schema.specs.Reading.{file_fields}
use Rattle.parquet_schema.proofs.Callers.{leaf_levels}
use Rattle.parquet_file.specs.Internal.{AreLeavesOf}

-- ---- what a step found

some_is : {X Y : Type 0} (o : Option X) (f : X → Option Y) (y : Y) → (o >>= f) ≡ Some y → (x : X) × (o ≡ Some x) × (f x ≡ Some y)
some_is None f y e = absurd cc
some_is (Some x) f y e = (x, refl, e)

mapped_is : {X Y : Type 0} (f : X → Y) (o : Option X) (y : Y) → option_map f o ≡ Some y → (x : X) × (o ≡ Some x) × (f x ≡ y)
mapped_is f None y e = absurd cc
mapped_is f (Some x) y e = (x, refl, cc)

if_is : {X : Type 0} (b : Bool) (o : Option X) (x : X) → cond b o None ≡ Some x → (b ≡ true) × (o ≡ Some x)
if_is true o x e = (refl, e)
if_is false o x e = absurd cc

-- ---- leaves

type_there : (type : Option LeafType) (number : ℤ) → is_number number (option_map (λ x. type_number (physical_type x)) type) ≡ true → 0 < length (bare_leaf type)
type_there None number e = absurd cc
type_there (Some type) number e = omega arith

pub leaf_there : (t : Tree) (node : FileNode) (s : Shape) → is_sound t ≡ true → fitted t node ≡ Some s → 0 < length (leaves_in t s)
leaf_there (tree.leaf p) (leaf number) s sound e =
    let fits = if_is (is_number number (physical_number p)) (Some shapes.leaf) s e in
    let is : shapes.leaf ≡ s = cc in
    subst (λ x. 0 < length (leaves_in (tree.leaf p) x)) is (type_there (leaf_type p) number fits.0)
leaf_there (tree.leaf p) (group fs) s sound e = absurd cc
leaf_there (tree.struct fs) (leaf number) s sound e = absurd cc
leaf_there (tree.struct tree.no_fields) (group gs) s sound e = absurd cc
leaf_there (tree.struct (tree.field name t nullable metadata fs)) (group gs) s sound e =
    let all : tree.Fields = tree.field name t nullable metadata fs in
    let one = and_parts _ (are_sound fs) sound in
    let two = and_parts _ (is_sound t) one.0 in
    let fits = if_is (may_fit all gs) (option_map shapes.struct (fitted_fields all gs)) s e in
    let made = mapped_is shapes.struct (fitted_fields all gs) s fits.1 in
    let found = some_is (field_named name gs) _ made.0 made.1 in
    let inner = some_is (fitted t found.0.node) _ made.0 found.2 in
    let rest = mapped_is (λ xs. shapes.field name found.0.optional inner.0 xs) (fitted_fields fs gs) made.0 inner.2 in
    let first = leaf_there t found.0.node inner.0 two.1 inner.1 in
    let here = map (leaf_inside name found.0.optional nullable) (leaves_in t inner.0) in
    let many : length (here ++ leaves_of_fields fs rest.0) ≡ length (leaves_in t inner.0) + length (leaves_of_fields fs rest.0) = length-append here (leaves_of_fields fs rest.0) ∙ ap (λ n. n + length (leaves_of_fields fs rest.0)) (length-map (leaves_in t inner.0) (leaf_inside name found.0.optional nullable)) in
    let some : 0 < length (leaves_of_fields all (shapes.field name found.0.optional inner.0 rest.0)) = omega (arith, many, first) in
    subst (λ x. 0 < length (leaves_in (tree.struct all) x)) made.2 (subst (λ xs. 0 < length (leaves_of_fields all xs)) rest.2 some)
leaf_there (tree.array t nullable) node s sound e = absurd cc
leaf_there (tree.map k v nullable) node s sound e = absurd cc

pub list_leaf_there : (t : Tree) (es : List SchemaElement) (s : Shape) → is_sound t ≡ true → fitted_list t es ≡ Some s → 0 < length (leaves_in t s)
list_leaf_there t es s sound e =
    let read = some_is (file_fields es) (λ fs. fitted t (group (fields_of fs))) s e in
    leaf_there t (group (fields_of read.0)) s sound read.2

-- the leaves of a table whose columns a file has
pub list_leaves : (t : Tree) (es : List SchemaElement) (s : Shape) (ls : List LeafIn) → is_sound t ≡ true → fitted_list t es ≡ Some s → ls ≡ leaves_in t s → AreLeavesOf t s ls
list_leaves t es s ls sound e are =
    let read = some_is (file_fields es) (λ fs. fitted t (group (fields_of fs))) s e in
    record {
      are = are;
      levels = rw are (leaf_levels t (group (fields_of read.0)) s read.2);
      some = rw are (list_leaf_there t es s sound e);
    }
