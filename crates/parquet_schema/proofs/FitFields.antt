-- A table's fields, fitted one after another.
use Rattle.std.proofs.Common.{◌≡◌, ◌≢◌, ℕ, ◌+◌, ◌<◌, ◌≤◌, length, get_or, drop, List, [], ◌∷◌, ◌++◌, Bool, true, false, Option, Some, None, option_map, is_some, cond, suc, Err, Vec, Global, refl, sym, ap, ◌∙◌, rules}
use Rattle.std.specs.List.{find}
use Rattle.std.specs.Prelude.{not, ◌||◌, ◌&&◌, ◌==◌, bytes_eq}
use Rattle.std.proofs.lemmas.Bool.{eq-eqb, eqb-true}
use Rattle.std.proofs.lemmas.List.{drop_more, drop_all}
use Rattle.outcomes.specs.Options.{◌>>=◌}
use Rattle.schema_tree.specs.Tree as tree
use Rattle.schema_tree.specs.Tree.{fields_of as tree_fields, Column}
use Rattle.schema_tree.specs.View.{field_view as column_view, field_views as column_views}
use Rattle.schema_tree.specs.declared.node.Field.{Field}
use Rattle.shred.specs.Shape as shapes
use Rattle.shred.specs.Shape.{Shape}
use Rattle.parquet_schema.specs.FileTree as trees
use Rattle.parquet_schema.specs.FileTree.{FileField as Found, FileFields, fields_of, count_of}
use Rattle.parquet_schema.specs.Fitting.{are_distinct, field_named, fitted, fitted_column, fitted_fields, has_name, may_fit, count_of_columns}
use Rattle.parquet_schema.specs.Outcome.{Fits}
use Rattle.parquet_schema.specs.Views.{field_view, field_views, node_view}
use Rattle.parquet_footer.specs.declared.fault.FileError.{FileError}
use Rattle.parquet_footer.specs.declared.fault.FileError.TheVariants as errors
use Rattle.parquet_schema.specs.declared.tree.FileField.{FileField, out-FileField}
use Rattle.parquet_schema.specs.declared.tree.FileNode.{the_lemmas}
use Rattle.parquet_schema.specs.declared.tree.FileNode.TheVariants as nodes

-- ---- a field, part by part

pub name_seen : (f : FileField) → (out-FileField f).name.items ≡ (field_view f).name
name_seen f = search (rules, the_lemmas)

pub optional_seen : (f : FileField) → (out-FileField f).optional ≡ (field_view f).optional
optional_seen f = search (rules, the_lemmas)

pub node_seen : (f : FileField) → node_view (out-FileField f).node ≡ (field_view f).node
node_seen f = search (rules, the_lemmas)

pub node-Group : (v : Vec FileField Global) → node_view (nodes.Group v) ≡ trees.group (fields_of (field_views v.items))
node-Group v = search (rules, the_lemmas)

-- ---- a field by its name

pub map_twice : {X Y Z : Type 0} (g : Y → Z) (f : X → Y) (o : Option X) → option_map (λ x. g (f x)) o ≡ option_map g (option_map f o)
map_twice g f None = refl
map_twice g f (Some x) = refl

pub found_named : (name : List ℕ) (fs : List FileField) → option_map field_view (find (λ f. bytes_eq (field_view f).name name) fs) ≡ field_named name (fields_of (field_views fs))
found_named name [] = refl
found_named name (f ∷ fs) = elim (bytes_eq (field_view f).name name) as (λ (b : Bool). option_map field_view (cond b (Some f) (find (λ g. bytes_eq (field_view g).name name) fs)) ≡ cond b (Some (field_view f)) (field_named name (fields_of (field_views fs)))) [
  | true ↦ refl
  | false ↦ found_named name fs
]

pub some_named : (name : List ℕ) (fs : FileFields) → is_some (field_named name fs) ≡ has_name name fs
some_named name trees.no_fields = refl
some_named name (trees.field n optional node fs) = elim (bytes_eq n name) as (λ (b : Bool). is_some (cond b (Some (record { name = n; optional = optional; node = node })) (field_named name fs)) ≡ (b || has_name name fs)) [
  | true ↦ refl
  | false ↦ some_named name fs
]

is_some_mapped : {X Y : Type 0} (f : X → Y) (o : Option X) → is_some o ≡ is_some (option_map f o)
is_some_mapped f None = refl
is_some_mapped f (Some x) = refl

-- whether a name was found says whether the fields have it
pub named : {X : Type 0} (f : X → Found) (o : Option X) (name : List ℕ) (fs : FileFields) → option_map f o ≡ field_named name fs → is_some o ≡ has_name name fs
named f o name fs e = is_some_mapped f o ∙ (ap is_some e ∙ some_named name fs)

-- the first field and the others are distinct
pub first_distinct : (f : FileField) (fs all : List FileField) → all ≡ f ∷ fs → are_distinct (fields_of (field_views all)) ≡ (not (has_name (field_view f).name (fields_of (field_views fs))) && are_distinct (fields_of (field_views fs)))
first_distinct f fs all is = rw is refl

-- ---- the counts

pub unless_true : (b : Bool) → (b ≡ true → ⊥) → b ≡ false
unless_true true h = absurd (h refl)
unless_true false h = refl

pub columns_counted : {A : Type 0} (fs : List (Field A)) → count_of_columns (tree_fields (column_views fs)) ≡ length fs
columns_counted [] = refl
columns_counted (f ∷ fs) = ap (λ n. suc n) (columns_counted fs)

pub fields_counted : (fs : List FileField) → count_of (fields_of (field_views fs)) ≡ length fs
fields_counted [] = refl
fields_counted (f ∷ fs) = ap (λ n. suc n) (fields_counted fs)

pub counts_differ : {A : Type 0} (fs : List (Field A)) (gs : List FileField) → length fs ≢ length gs → may_fit (tree_fields (column_views fs)) (fields_of (field_views gs)) ≡ false
counts_differ fs gs h =
    let no : (length fs == length gs) ≡ false = unless_true (length fs == length gs) (λ e. h (eqb-true (length fs) (length gs) e)) in
    rw (columns_counted fs, fields_counted gs, no) refl

pub not_distinct : {A : Type 0} (fs : List (Field A)) (gs : List FileField) → are_distinct (fields_of (field_views gs)) ≡ false → may_fit (tree_fields (column_views fs)) (fields_of (field_views gs)) ≡ false
not_distinct fs gs h = rw h (elim (count_of_columns (tree_fields (column_views fs)) == count_of (fields_of (field_views gs))) as (λ (b : Bool). (b && false) ≡ false) [
  | true ↦ refl
  | false ↦ refl
])

pub both_fit : {A : Type 0} (fs : List (Field A)) (gs : List FileField) → length fs ≡ length gs → are_distinct (fields_of (field_views gs)) ≡ true → may_fit (tree_fields (column_views fs)) (fields_of (field_views gs)) ≡ true
both_fit fs gs same distinct = rw (columns_counted fs, fields_counted gs, distinct, eq-eqb (length fs) (length gs) same) refl

-- ---- fields fitted one after another

-- these shapes in front of the others
abbrev pub before : List shapes.Field → shapes.Fields → shapes.Fields
before [] ss = ss
before (f ∷ fs) ss = shapes.field f.name f.optional f.shape (before fs ss)

abbrev one_and : shapes.Field → shapes.Fields → shapes.Fields
one_and f ss = shapes.field f.name f.optional f.shape ss

before_one : (front : List shapes.Field) (f : shapes.Field) (ss : shapes.Fields) → before front (one_and f ss) ≡ before (front ++ f ∷ []) ss
before_one [] f ss = refl
before_one (g ∷ gs) f ss = ap (one_and g) (before_one gs f ss)

before_none : (front : List shapes.Field) → before front shapes.no_fields ≡ shapes.fields_of front
before_none [] = refl
before_none (g ∷ gs) = ap (one_and g) (before_none gs)

with_shape : (name : List ℕ) (optional : Bool) (s : Option Shape) (rest : Option shapes.Fields)
    → (s >>= λ t. option_map (λ ss. shapes.field name optional t ss) rest) ≡ (option_map (λ t. record { name = name; optional = optional; shape = t }) s >>= λ f. option_map (one_and f) rest)
with_shape name optional None rest = refl
with_shape name optional (Some t) rest = refl

with_found : (name : List ℕ) (fit : trees.FileNode → Option Shape) (found : Option Found) (rest : Option shapes.Fields)
    → (found >>= λ g. fit g.node >>= λ t. option_map (λ ss. shapes.field name g.optional t ss) rest) ≡ ((found >>= λ g. option_map (λ t. record { name = name; optional = g.optional; shape = t }) (fit g.node)) >>= λ f. option_map (one_and f) rest)
with_found name fit None rest = refl
with_found name fit (Some g) rest = with_shape name g.optional (fit g.node) rest

-- a column and the others
pub column_and : (c : Column) (cs : List Column) (gs : FileFields) → fitted_fields (tree_fields (c ∷ cs)) gs ≡ (fitted_column c gs >>= λ f. option_map (one_and f) (fitted_fields (tree_fields cs) gs))
column_and c cs gs = with_found c.name (fitted c.data_type) (field_named c.name gs) (fitted_fields (tree_fields cs) gs)

mapped_one : (front : List shapes.Field) (f : shapes.Field) (rest : Option shapes.Fields) → option_map (before front) (option_map (one_and f) rest) ≡ option_map (before (front ++ f ∷ [])) rest
mapped_one front f None = refl
mapped_one front f (Some ss) = ap (λ (x : shapes.Fields). Some x) (before_one front f ss)

turn : {A : Type 0} (fs : List (Field A)) (i : ℕ) (x : Field A) (gs : FileFields) → i < length fs → x ≡ get_or fs i x → fitted_fields (tree_fields (column_views (drop i fs))) gs ≡ (fitted_column (column_view x) gs >>= λ f. option_map (one_and f) (fitted_fields (tree_fields (column_views (drop (i + 1) fs))) gs))
turn fs i x gs h at =
    let here : drop i fs ≡ x ∷ drop (i + 1) fs = drop_more fs i x h ∙ ap (λ y. y ∷ drop (i + 1) fs) (sym at) in
    ap (λ ys. fitted_fields (tree_fields (column_views ys)) gs) here ∙ column_and (column_view x) (column_views (drop (i + 1) fs)) gs

-- one more field fits
pub one_fits : {A : Type 0} (fs : List (Field A)) (i : ℕ) (x : Field A) (gs : FileFields) (front now : List shapes.Field) (f : shapes.Field) (total : Option shapes.Fields) → i < length fs → x ≡ get_or fs i x → now ≡ front ++ f ∷ [] → fitted_column (column_view x) gs ≡ Some f
    → option_map (before front) (fitted_fields (tree_fields (column_views (drop i fs))) gs) ≡ total → option_map (before now) (fitted_fields (tree_fields (column_views (drop (i + 1) fs))) gs) ≡ total
one_fits fs i x gs front now f total h at pushed fits so_far =
    let rest = fitted_fields (tree_fields (column_views (drop (i + 1) fs))) gs in
    let one : fitted_fields (tree_fields (column_views (drop i fs))) gs ≡ option_map (one_and f) rest = turn fs i x gs h at ∙ rw fits refl in
    rw pushed (sym (mapped_one front f rest)) ∙ (ap (option_map (before front)) (sym one) ∙ so_far)

-- one field does not fit
pub one_misfits : {A : Type 0} (fs : List (Field A)) (i : ℕ) (x : Field A) (gs : FileFields) (front : List shapes.Field) (total : Option shapes.Fields) → i < length fs → x ≡ get_or fs i x → fitted_column (column_view x) gs ≡ None
    → option_map (before front) (fitted_fields (tree_fields (column_views (drop i fs))) gs) ≡ total → total ≡ None
one_misfits fs i x gs front total h at fits so_far =
    let one : fitted_fields (tree_fields (column_views (drop i fs))) gs ≡ None = turn fs i x gs h at ∙ rw fits refl in
    sym so_far ∙ ap (option_map (before front)) one

-- all fields fit
pub all_fit : {A : Type 0} (fs : List (Field A)) (i : ℕ) (gs : FileFields) (front : List shapes.Field) (total : Option shapes.Fields) → length fs ≤ i → option_map (before front) (fitted_fields (tree_fields (column_views (drop i fs))) gs) ≡ total → total ≡ Some (shapes.fields_of front)
all_fit fs i gs front total h so_far =
    let end : fitted_fields (tree_fields (column_views (drop i fs))) gs ≡ Some shapes.no_fields = rw (drop_all i fs h) refl in
    sym so_far ∙ (ap (option_map (before front)) end ∙ ap (λ (x : shapes.Fields). Some x) (before_none front))

-- ---- a fault is passed on

pub passed_on : {X A Y B : Type 0} (view : X → A) (views : Y → B) (e : FileError) (said : Option A) (whole : Option B) → Fits view (Err e) said → (said ≡ None → whole ≡ None) → Fits views (Err e) whole
passed_on view views errors.Memory said whole refused follows = tt
passed_on view views (errors.Fault fault) said whole refused follows = (refused.0, follows refused.1)

-- the shape of a struct whose counts and names fit, or not
abbrev if_may : Bool → Option shapes.Fields → Option Shape
if_may may fits = cond may (option_map shapes.struct fits) None

if_none : (b : Bool) → if_may b None ≡ None
if_none true = refl
if_none false = refl

pub struct_of_none : {A : Type 0} (fs : List (Field A)) (gs : FileFields) → fitted_fields (tree_fields (column_views fs)) gs ≡ None → fitted (tree.struct (tree_fields (column_views fs))) (trees.group gs) ≡ None
struct_of_none fs gs none = ap (if_may (may_fit (tree_fields (column_views fs)) gs)) none ∙ if_none (may_fit (tree_fields (column_views fs)) gs)

pub struct_misfits : {A : Type 0} (fs : List (Field A)) (gs : FileFields) → may_fit (tree_fields (column_views fs)) gs ≡ false → fitted (tree.struct (tree_fields (column_views fs))) (trees.group gs) ≡ None
struct_misfits fs gs may = ap (λ b. if_may b (fitted_fields (tree_fields (column_views fs)) gs)) may

pub struct_fits : {A : Type 0} (fs : List (Field A)) (gs : FileFields) (ss : shapes.Fields) → may_fit (tree_fields (column_views fs)) gs ≡ true → fitted_fields (tree_fields (column_views fs)) gs ≡ Some ss → fitted (tree.struct (tree_fields (column_views fs))) (trees.group gs) ≡ Some (shapes.struct ss)
struct_fits fs gs ss may fits = ap (λ b. if_may b (fitted_fields (tree_fields (column_views fs)) gs)) may ∙ ap (if_may true) fits

-- nothing is made yet
pub none_fitted : (front : List shapes.Field) (rest : Option shapes.Fields) → front ≡ [] → option_map (before front) rest ≡ rest
none_fitted front None empty = refl
none_fitted front (Some ss) empty = rw empty refl

-- two fields of one name
pub same_name : (f : FileField) (fs all : List FileField) (total : Bool) → all ≡ f ∷ fs → has_name (field_view f).name (fields_of (field_views fs)) ≡ true → are_distinct (fields_of (field_views all)) ≡ total → false ≡ total
same_name f fs all total is has so_far =
    let one : are_distinct (fields_of (field_views all)) ≡ false = first_distinct f fs all is ∙ rw has refl in
    sym one ∙ so_far

-- a name that no other has
pub other_name : (f : FileField) (fs all : List FileField) (total : Bool) → all ≡ f ∷ fs → has_name (field_view f).name (fields_of (field_views fs)) ≡ false → are_distinct (fields_of (field_views all)) ≡ total → are_distinct (fields_of (field_views fs)) ≡ total
other_name f fs all total is has so_far =
    let one : are_distinct (fields_of (field_views all)) ≡ are_distinct (fields_of (field_views fs)) = first_distinct f fs all is ∙ rw has refl in
    sym one ∙ so_far
