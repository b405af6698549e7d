-- A footer is spelled by what is written for it, and says which columns and rows its file has.
use Rattle.std.proofs.Common.{◌≡◌, ℕ, ◌≤◌, List, [], ◌∷◌, length, true, Option, None, Some, option_map, pos, Ok, refl, sym, ap, ◌∙◌, arith, codes}
use Rattle.std.specs.Option.{option_or}
use Rattle.std.proofs.lemmas.List.{append-nil}
use Rattle.outcomes.specs.Options.{◌>>=◌}
use Rattle.thrift_core.specs.Fields.{all_as, as_struct, each}
use Rattle.thrift_core.specs.Form.{list_form}
use Rattle.thrift_core.specs.Spelling.{SpellsStruct}
use Rattle.thrift_core.specs.Tree as thrift
use Rattle.thrift_core.specs.Tree.{binary, nodes_of_trees, trees_of}
use Rattle.thrift_core.specs.Writing.{HasForm, MembersHaveForm}
use Rattle.thrift_core.proofs.Callers.{struct_written}
use Rattle.row_core.specs.Unsupported.{unsupported, unsupported_field}
use Rattle.schema_tree.specs.Fault.{Path, path_inside}
use Rattle.schema_tree.specs.Limits.{IsWithinLimits, nodes}
use Rattle.schema_tree.specs.Tree as tree
use Rattle.schema_tree.specs.Tree.{Tree}
use Rattle.schema_tree.specs.declared.primitive.Primitive.{Primitive}
use Rattle.schema_tree.specs.declared.primitive.Primitive.TheVariants as primitives
use Rattle.parquet_footer.specs.Footer.{FooterSays}
use Rattle.parquet_footer.specs.Metadata.{SchemaElement, RowGroup, group_of, metadata_of, schema_of}
use Rattle.page_writing.specs.Writing.{number_field}
use Rattle.parquet_schema.specs.FileTree.{FileFields, FileNode, IsSchemaList, field, group, no_fields}
use Rattle.parquet_schema.specs.Fitting.{file_fields_of, file_node}
use Rattle.parquet_file.specs.Writing.{element_form, fields, footer_bytes, footer_form, footer_tree, group_form, is_short_named, members, schema_elements}
use Rattle.parquet_file.proofs.FooterElements.{schema_counted, schema_has_form, schema_said, schema_small}
use Rattle.parquet_file.proofs.FooterForms.{depth_by_form, structs_alone}
use Rattle.parquet_file.proofs.StructForms.{fits_32, fits_64, struct_has_form}
use Rattle.parquet_file.proofs.WrittenChunks.{trees_counted}

-- ---- a table whose columns all have values has a tree in a file

neither : {A : Type 0} (a b : Option A) → option_or a b ≡ None → (a ≡ None) × (b ≡ None)
neither None b e = (refl, e)
neither (Some x) b e = absurd cc

not_inside : (name : List ℕ) (o : Option Path) → option_map (path_inside name) o ≡ None → o ≡ None
not_inside name None e = refl
not_inside name (Some path) e = absurd cc

type_there : (p : Primitive) → unsupported (tree.leaf p) ≡ None
    → (node : FileNode) × (file_node (tree.leaf p) ≡ Some node)
type_there primitives.String e = (_, refl)
type_there primitives.Long e = (_, refl)
type_there primitives.Integer e = (_, refl)
type_there primitives.Short e = (_, refl)
type_there primitives.Byte e = (_, refl)
type_there primitives.Boolean e = (_, refl)
type_there primitives.Binary e = (_, refl)
type_there primitives.Date e = (_, refl)
type_there primitives.Timestamp e = absurd cc
type_there primitives.Float e = absurd cc
type_there primitives.Double e = absurd cc
type_there (primitives.Decimal precision scale) e = absurd cc

mutual
  own_node : (t : Tree) → unsupported t ≡ None → (node : FileNode) × (file_node t ≡ Some node)
  own_node (tree.leaf p) e = type_there p e
  own_node (tree.struct fs) e = let own = own_fields fs e in (group own.0, ap (option_map group) own.1)
  own_node (tree.array t nullable) e = absurd cc
  own_node (tree.map k v nullable) e = absurd cc

  own_fields : (fs : tree.Fields) → unsupported_field fs ≡ None → (gs : FileFields) × (file_fields_of fs ≡ Some gs)
  own_fields tree.no_fields e = (no_fields, refl)
  own_fields (tree.field name t nullable metadata fs) e =
      let parts = neither (option_map (path_inside name) (unsupported t)) (unsupported_field fs) e in
      let first = own_node t (not_inside name (unsupported t) parts.0) in
      let rest = own_fields fs parts.1 in
      let is : file_fields_of (tree.field name t nullable metadata fs) ≡ Some (field name nullable first.0 rest.0) =
      ap (λ o. o >>= λ node. option_map (λ gs. field name nullable node gs) (file_fields_of fs)) first.1
      ∙ ap (option_map (λ gs. field name nullable first.0 gs)) rest.1 in
      (field name nullable first.0 rest.0, is)

pub own_tree : (cols : tree.Fields) → unsupported (tree.struct cols) ≡ None
    → (fs : FileFields) × (file_node (tree.struct cols) ≡ Some (group fs))
own_tree cols e = let own = own_fields cols e in (own.0, ap (option_map group) own.1)

-- ---- the form

few_groups : (groups : List thrift.Tree) → length groups ≤ 1 → MembersHaveForm group_form (trees_of groups)
    → HasForm (list_form group_form) (members groups)
few_groups groups few of_form = (group_form, refl, omega (arith, trees_counted groups), of_form)

elements_stand : (cols : tree.Fields) → nodes (tree.struct cols) ≤ 1024 → is_short_named (tree.struct cols) ≡ true
    → HasForm (list_form element_form) (members (schema_elements (tree.struct cols)))
elements_stand cols few named = (
  element_form,
  refl,
  omega (arith, trees_counted (schema_elements (tree.struct cols)), schema_counted cols),
  schema_has_form cols named few,
)

-- a footer around the lists of its elements and groups
abbrev footer_around : (elements groups : thrift.Tree) (rows : ℕ) → thrift.Tree
footer_around elements groups rows =
    fields (number_field 1 1 ∷ (pos 2, elements) ∷ number_field 3 rows ∷ (pos 4, groups)
    ∷ (pos 6, binary (codes "lake version 1")) ∷ [])

footer_has_form : (elements groups : thrift.Tree) (rows : ℕ) → rows ≤ 4194304
    → HasForm (list_form element_form) elements → HasForm (list_form group_form) groups
    → HasForm footer_form (footer_around elements groups rows)
footer_has_form elements groups rows few schema of_form =
    struct_has_form footer_form (footer_around elements groups rows) refl
    (fits_32 1 (omega arith), (schema, (fits_64 rows (omega arith), (of_form, ((refl, omega arith), tt)))))

-- What is written as the footer of a table's columns, of these rows and of at most one group has its form.
pub footer_formed : (cols : tree.Fields) (groups : List thrift.Tree) (rows : ℕ) → nodes (tree.struct cols) ≤ 1024
    → is_short_named (tree.struct cols) ≡ true → MembersHaveForm group_form (trees_of groups) → length groups ≤ 1
    → rows ≤ 4194304 → HasForm footer_form (footer_tree (tree.struct cols) groups rows)
footer_formed cols groups rows fit named of_form one few =
    footer_has_form (members (schema_elements (tree.struct cols))) (members groups) rows few
    (elements_stand cols fit named) (few_groups groups one of_form)

-- ---- it is spelled

footer_spelled : (cols : tree.Fields) (groups : List thrift.Tree) (rows : ℕ) → nodes (tree.struct cols) ≤ 1024
    → nodes_of_trees (trees_of groups) ≤ 131072
    → HasForm footer_form (footer_tree (tree.struct cols) groups rows)
    → SpellsStruct (footer_bytes (tree.struct cols) groups rows) (footer_tree (tree.struct cols) groups rows)
footer_spelled cols groups rows few small of_form = record {
  spelled = struct_written footer_form (footer_tree (tree.struct cols) groups rows)
      (footer_bytes (tree.struct cols) groups rows) of_form refl refl;
  nesting = omega (arith, depth_by_form footer_form (footer_tree (tree.struct cols) groups rows) of_form);
  values = omega (arith, schema_small cols);
}

-- ---- what it says

footer_told : (nodes groups : List thrift.Tree) (rows : ℕ) (es : List SchemaElement) (gs : List RowGroup)
    → all_as as_struct (trees_of nodes) ≡ Some nodes → all_as as_struct (trees_of groups) ≡ Some groups
    → schema_of nodes ≡ Ok es → each group_of groups ≡ Ok gs
    → metadata_of (footer_around (members nodes) (members groups) rows)
    ≡ Ok (record { schema = es; num_rows = rows; row_groups = gs })
unfolding metadata_of
footer_told nodes groups rows es gs are these schema read = rw (are, schema, these, read) refl

-- What is written as the footer says the table's columns, these rows and these groups.
pub footer_says : (cols : tree.Fields) (fs : FileFields) (groups : List thrift.Tree) (gs : List RowGroup) (rows : ℕ)
    → IsWithinLimits (tree.struct cols) → is_short_named (tree.struct cols) ≡ true
    → file_node (tree.struct cols) ≡ Some (group fs) → each group_of groups ≡ Ok gs
    → MembersHaveForm group_form (trees_of groups) → length groups ≤ 1
    → nodes_of_trees (trees_of groups) ≤ 131072 → rows ≤ 4194304
    → (es : List SchemaElement) × IsSchemaList fs es
    × FooterSays (footer_bytes (tree.struct cols) groups rows) (record { schema = es; num_rows = rows; row_groups = gs })
footer_says cols fs groups gs rows limits named own read of_form one small few =
    let said = schema_said cols fs limits.sound own in
    let elements = schema_elements (tree.struct cols) in
    let form = footer_formed cols groups rows limits.nodes_fit named of_form one few in
    let alone = structs_alone _ elements (schema_has_form cols named limits.nodes_fit) in
    let these = structs_alone _ groups of_form in (
      said.list,
      said.listed,
      record {
        front = footer_bytes (tree.struct cols) groups rows;
        rest = [];
        tree = footer_tree (tree.struct cols) groups rows;
        parts = sym (append-nil (footer_bytes (tree.struct cols) groups rows));
        spelled = footer_spelled cols groups rows limits.nodes_fit small form;
        stands = footer_told elements groups rows said.list gs alone these said.read read;
      },
    )
