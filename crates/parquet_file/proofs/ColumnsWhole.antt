-- The columns of rows that conform are whole: pages can hold them.
use Rattle.std.proofs.Common.{◌≡◌, ℕ, ◌+◌, ◌<◌, ◌≤◌, eqb, length, All, List, [], ◌∷◌, ◌++◌, map, Bool, true, false, cond, if◌then◌else◌, ◌&&◌, ◌||◌, Option, Some, None, option_map, refl, sym, ap, subst, ◌∙◌, arith, eq-eqb, ne_eqb}
use Rattle.std.specs.Option.{option_or}
use Rattle.std.specs.List.{AllByRecursion, AllZip, filter_map}
use Rattle.std.proofs.lemmas.Bool.{and_parts, false≢true}
use Rattle.std.proofs.lemmas.List.{length-append, length-map}
use Rattle.std.proofs.lemmas.List.Sums.{sum_by-append}
use Rattle.std.proofs.lemmas.List.Elements.{All-cons, All-head, All-nil, All-tail, All-weaker}
use Rattle.row_core.specs.Conforms as conforms
use Rattle.row_core.specs.Conforms.{Conforms, are_values, is_leaf_value, is_value}
use Rattle.row_core.specs.Rows.{Row, Value, Values, null, structure, no_values, value}
use Rattle.row_core.specs.Unsupported.{unsupported, unsupported_field}
use Rattle.schema_tree.specs.Fault.{path_inside}
use Rattle.schema_tree.specs.Tree as tree
use Rattle.schema_tree.specs.Tree.{Tree, Column}
use Rattle.schema_tree.specs.declared.primitive.Primitive.{Primitive}
use Rattle.schema_tree.specs.declared.primitive.Primitive.TheVariants as primitive
use Rattle.shred.specs.Columns as columns
use Rattle.shred.specs.Columns.{AreColumnsOf, Cell, absent_cell, column_of, is_null, present_cell}
use Rattle.shred.specs.Fits.{FitsShape}
use Rattle.shred.specs.Shape as shapes
use Rattle.shred.specs.Shape.{Shape, shape_of, shapes_of}
use Rattle.shred.specs.Ways.{Step, level_inside, under, ways, ways_from}
use Rattle.shred.proofs.Callers.{cells_of, cells_of_fields, columns_found, fronts, matrix, row_fits}
use Rattle.page_cells.specs.Levels.{present}
use Rattle.page_cells.specs.Types.{primitive_of}
use Rattle.page_writing.specs.Writing.{IsWhole}
use Rattle.page_cells.specs.declared.types.LeafType.{LeafType}
use Rattle.parquet_schema.specs.Leaves.{LeafIn, flag_of, leaf_inside, leaves_in, leaves_of_fields}
use Rattle.parquet_file.specs.File.{leaf_of}
use Rattle.parquet_file.proofs.FittedShapes.{in_front}

-- ---- whole cells

-- a value of the leaf's type at the highest level, and a null below it
abbrev IsWholeAt : (top : ℕ) → LeafType → ℕ → Option Value → Type 0
IsWholeAt top type level None = level < top
IsWholeAt top type level (Some v) = (level ≡ top) × (is_leaf_value (primitive_of type) v ≡ true)

-- the cell of a leaf below so many levels
abbrev IsWholeCell : ℕ → LeafIn → Cell → Type 0
IsWholeCell above l c = IsWholeAt (above + length l.nullable) l.leaf_type c.level c.value

-- one cell for each leaf
abbrev AreWhole : ℕ → List LeafIn → List Cell → Type 0
AreWhole above ls cs = AllZip (IsWholeCell above) ls cs

whole_both : (above : ℕ) (ls ks : List LeafIn) (cs ds : List Cell) → AreWhole above ls cs → AreWhole above ks ds
    → AreWhole above (ls ++ ks) (cs ++ ds)
whole_both above [] ks [] ds h k = k
whole_both above [] ks (c ∷ cs) ds h k = absurd h
whole_both above (l ∷ ls) ks [] ds h k = absurd h
whole_both above (l ∷ ls) ks (c ∷ cs) ds h k = (h.0, whole_both above ls ks cs ds h.1 k)

-- ---- a leaf

leaf_whole : (p : Primitive) (above : ℕ) (v : Value) → unsupported (tree.leaf p) ≡ None → is_leaf_value p v ≡ true
    → AreWhole above (leaves_in (tree.leaf p) shapes.leaf) (present_cell above v ∷ [])
leaf_whole primitive.Timestamp above v none e = absurd cc
leaf_whole primitive.Float above v none e = absurd cc
leaf_whole primitive.Double above v none e = absurd cc
leaf_whole (primitive.Decimal precision scale) above v none e = absurd cc
leaf_whole primitive.Boolean above v none e = ((omega arith, e), tt)
leaf_whole p above v none e = ((omega arith, e), tt)

-- ---- a field

inside_level : (above : ℕ) (nullable : Bool) (flags : List Bool)
    → level_inside nullable above + length flags ≡ above + length (flag_of nullable nullable ++ flags)
inside_level above true flags = omega arith
inside_level above false flags = omega arith

inside_whole : (above : ℕ) (name : List ℕ) (nullable : Bool) (ls : List LeafIn) (cs : List Cell)
    → AreWhole (level_inside nullable above) ls cs → AreWhole above (map (leaf_inside name nullable nullable) ls) cs
inside_whole above name nullable [] [] h = tt
inside_whole above name nullable [] (c ∷ cs) h = absurd h
inside_whole above name nullable (l ∷ ls) [] h = absurd h
inside_whole above name nullable (l ∷ ls) (c ∷ cs) h = (
  subst (λ (n : ℕ). IsWholeAt n l.leaf_type c.level c.value) (inside_level above nullable l.nullable) h.0,
  inside_whole above name nullable ls cs h.1,
)

nulls_whole : (above : ℕ) (name : List ℕ) (ls : List LeafIn) (ws : List (List Step)) → length ls ≡ length ws
    → AreWhole above (map (leaf_inside name true true) ls) (map (λ way. absent_cell above) ws)
nulls_whole above name [] [] e = tt
nulls_whole above name [] (w ∷ ws) e = absurd (omega (arith, e))
nulls_whole above name (l ∷ ls) [] e = absurd (omega (arith, e))
nulls_whole above name (l ∷ ls) (w ∷ ws) e = (omega arith, nulls_whole above name ls ws (omega (arith, e)))

-- ---- as many leaves as ways

leaf_ways : (p : Primitive) → unsupported (tree.leaf p) ≡ None → length (leaves_in (tree.leaf p) shapes.leaf) ≡ 1
leaf_ways primitive.Timestamp none = absurd cc
leaf_ways primitive.Float none = absurd cc
leaf_ways primitive.Double none = absurd cc
leaf_ways (primitive.Decimal precision scale) none = absurd cc
leaf_ways primitive.Boolean none = refl
leaf_ways p none = refl

neither_some : {A B : Type 0} (f : A → B) (a : Option A) (b : Option B) → option_or (option_map f a) b ≡ None
    → (a ≡ None) × (b ≡ None)
neither_some f None b e = (refl, e)
neither_some f (Some x) b e = absurd cc

-- what is supported of the first field and of the others
record FieldSupported (c : Column) (fs : tree.Fields) : Type 0 where
  inside : unsupported c.data_type ≡ None
  others : unsupported_field fs ≡ None

field_supported : (c : Column) (fs : tree.Fields) → unsupported_field (in_front c fs) ≡ None → FieldSupported c fs
field_supported c fs e =
    let k = neither_some (path_inside c.name) (unsupported c.data_type) (unsupported_field fs) e in
    record { inside = k.0; others = k.1 }

mutual
  pub own_ways : (t : Tree) → unsupported t ≡ None → length (leaves_in t (shape_of t)) ≡ length (ways (shape_of t))
  own_ways (tree.leaf p) none = leaf_ways p none
  own_ways (tree.struct fs) none = own_field_ways fs 0 none
  own_ways (tree.array t nullable) none = absurd cc
  own_ways (tree.map k v nullable) none = absurd cc

  own_field_ways : (fs : tree.Fields) (place : ℕ) → unsupported_field fs ≡ None
      → length (leaves_of_fields fs (shapes_of fs)) ≡ length (ways_from place (shapes_of fs))
  own_field_ways tree.no_fields place none = refl
  own_field_ways (tree.field name t nullable metadata fs) place none =
      let c : Column = record { name = name; data_type = t; nullable = nullable; metadata = metadata } in
      let k = field_supported c fs none in
      let own = map (leaf_inside name nullable nullable) (leaves_in t (shape_of t)) in
      let step : List Step = record { place = place; optional = nullable } ∷ [] in
      omega (
        arith,
        length-append own (leaves_of_fields fs (shapes_of fs)),
        length-map (leaves_in t (shape_of t)) (leaf_inside name nullable nullable),
        length-append (under step (ways (shape_of t))) (ways_from (place + 1) (shapes_of fs)),
        length-map (ways (shape_of t)) (λ (way : List Step). step ++ way),
        own_ways t k.inside,
        own_field_ways fs (place + 1) k.others,
      )

-- ---- values

no_null_leaf : (p : Primitive) → is_leaf_value p null ≡ false
no_null_leaf primitive.Boolean = refl
no_null_leaf p = refl

no_null : (t : Tree) → is_value t null ≡ false
no_null (tree.leaf p) = no_null_leaf p
no_null t = refl

may_be_null : (nullable inside : Bool) → inside ≡ false → nullable && true || inside ≡ true → nullable ≡ true
may_be_null true inside never e = refl
may_be_null false inside never e = absurd (false≢true (sym never ∙ e))

no_null_here : (nullable inside : Bool) → nullable && false || inside ≡ true → inside ≡ true
no_null_here true inside e = e
no_null_here false inside e = e

abbrev Whole : Tree → Value → Type 0
Whole t v = (above : ℕ) → is_value t v ≡ true
    → AreWhole above (leaves_in t (shape_of t)) (cells_of (shape_of t) above v)

-- the cells of a field
abbrev field_cells : (optional : Bool) → Shape → ℕ → Value → List Cell
field_cells optional s level v =
    if is_null v then map (λ way. absent_cell level) (ways s) else cells_of s (level_inside optional level) v

field_whole : (t : Tree) (above : ℕ) (name : List ℕ) (nullable : Bool) (v : Value)
    → length (leaves_in t (shape_of t)) ≡ length (ways (shape_of t)) → Whole t v
    → (nullable && conforms.is_null v || is_value t v) ≡ true
    → AreWhole above (map (leaf_inside name nullable nullable) (leaves_in t (shape_of t)))
    (field_cells nullable (shape_of t) above v)
field_whole t above name nullable null many inner e =
    rw (may_be_null nullable (is_value t null) (no_null t) e)
    (nulls_whole above name (leaves_in t (shape_of t)) (ways (shape_of t)) many)
field_whole t above name nullable v many inner e =
    inside_whole above name nullable (leaves_in t (shape_of t)) (cells_of (shape_of t) (level_inside nullable above) v)
    (inner (level_inside nullable above) (no_null_here nullable (is_value t v) e))

abbrev WholeAll : tree.Fields → Values → Type 0
WholeAll fs vs = (above : ℕ) → are_values fs vs ≡ true
    → AreWhole above (leaves_of_fields fs (shapes_of fs)) (cells_of_fields (shapes_of fs) above vs)

mutual
  value_whole : (t : Tree) → unsupported t ≡ None → (v : Value) → Whole t v
  value_whole (tree.leaf p) none v above e = leaf_whole p above v none e
  value_whole (tree.struct fs) none (structure vs) above e = values_whole fs none vs above e
  value_whole (tree.struct fs) none v above e = absurd (false≢true e)
  value_whole (tree.array t nullable) none v above e = absurd (false≢true e)
  value_whole (tree.map k w nullable) none v above e = absurd (false≢true e)

  values_whole : (fs : tree.Fields) → unsupported_field fs ≡ None → (vs : Values) → WholeAll fs vs
  values_whole tree.no_fields none no_values above e = tt
  values_whole tree.no_fields none (value v vs) above e = absurd (false≢true e)
  values_whole (tree.field name t nullable metadata fs) none no_values above e = absurd (false≢true e)
  values_whole (tree.field name t nullable metadata fs) none (value v vs) above e =
      let c : Column = record { name = name; data_type = t; nullable = nullable; metadata = metadata } in
      let k = field_supported c fs none in
      let both = and_parts (nullable && conforms.is_null v || is_value t v) (are_values fs vs) e in
      whole_both above (map (leaf_inside name nullable nullable) (leaves_in t (shape_of t)))
      (leaves_of_fields fs (shapes_of fs)) (field_cells nullable (shape_of t) above v)
      (cells_of_fields (shapes_of fs) above vs)
      (field_whole t above name nullable v (own_ways t k.inside) (value_whole t k.inside v) both.0)
      (values_whole fs k.others vs above both.1)

-- ---- column by column

-- the cells of a leaf
abbrev AreWholeCells : LeafIn → List Cell → Type 0
AreWholeCells l cs = AllByRecursion (IsWholeCell 0 l) cs

fronts_whole : (ls : List LeafIn) (cs : List Cell) (css : List (List Cell)) → AreWhole 0 ls cs
    → AllZip AreWholeCells ls css → AllZip AreWholeCells ls (fronts cs css)
fronts_whole [] [] css h k = tt
fronts_whole [] (c ∷ cs) css h k = absurd h
fronts_whole (l ∷ ls) [] css h k = absurd h
fronts_whole (l ∷ ls) (c ∷ cs) [] h k = absurd k
fronts_whole (l ∷ ls) (c ∷ cs) (ds ∷ css) h k = ((h.0, k.0), fronts_whole ls cs css h.1 k.1)

nothing_whole : (ls : List LeafIn) (ws : List (List Step)) → length ls ≡ length ws
    → AllZip AreWholeCells ls (map (λ way. []) ws)
nothing_whole [] [] many = tt
nothing_whole [] (w ∷ ws) many = absurd (omega (arith, many))
nothing_whole (l ∷ ls) [] many = absurd (omega (arith, many))
nothing_whole (l ∷ ls) (w ∷ ws) many = (tt, nothing_whole ls ws (omega (arith, many)))

matrix_whole : (t : Tree) (rows : List Row) → unsupported t ≡ None → All (Conforms t) rows
    → AllZip AreWholeCells (leaves_in t (shape_of t)) (matrix (shape_of t) rows)
matrix_whole t [] none all = nothing_whole (leaves_in t (shape_of t)) (ways (shape_of t)) (own_ways t none)
matrix_whole t (r ∷ rows) none all =
    fronts_whole (leaves_in t (shape_of t)) (cells_of (shape_of t) 0 r) (matrix (shape_of t) rows)
    (value_whole t none r 0 (All-head (Conforms t) r rows all).fits)
    (matrix_whole t rows none (All-tail (Conforms t) r rows all))

-- ---- a column

abbrev IsOf : LeafIn → Value → Type 0
IsOf l v = is_leaf_value (primitive_of l.leaf_type) v ≡ true

abbrev IsBelow : LeafIn → ℕ → Type 0
IsBelow l level = level ≤ length l.nullable

no_cell : (l : LeafIn) → IsWhole (leaf_of l) (column_of [])
no_cell l = record { none_above = All-nil (IsBelow l); value_each = refl; of_type = All-nil (IsOf l) }

-- a cell
abbrev cell_at : ℕ → Option Value → Cell
cell_at level o = record { level = level; value = o }

pub present_more : (top level : ℕ) (levels : List ℕ)
    → present top (level ∷ levels) ≡ cond (eqb level top) 1 0 + present top levels
present_more top level levels =
    let both = sum_by-append (λ (n : ℕ). cond (eqb n top) 1 0) (level ∷ []) levels in omega (arith, both)

cell_more : (l : LeafIn) (level : ℕ) (o : Option Value) (cs : List Cell)
    → IsWholeAt (length l.nullable) l.leaf_type level o → IsWhole (leaf_of l) (column_of cs)
    → IsWhole (leaf_of l) (column_of (cell_at level o ∷ cs))
cell_more l level None cs one others =
    let top = length l.nullable in
    let levels = map (λ (c : Cell). c.level) cs in
    let other : eqb level top ≡ false = ne_eqb level top (λ e. absurd (omega (arith, e))) in
    record {
      none_above = All-cons (IsBelow l) level levels (omega arith) others.none_above;
      value_each = omega (arith, present_more top level levels, ap {B = ℕ} (λ (b : Bool). cond b 1 0) other, others.value_each);
      of_type = others.of_type;
    }
cell_more l level (Some v) cs one others =
    let top = length l.nullable in
    let levels = map (λ (c : Cell). c.level) cs in
    let values = filter_map (λ (c : Cell). c.value) cs in
    let same : eqb level top ≡ true = eq-eqb level top one.0 in
    record {
      none_above = All-cons (IsBelow l) level levels (omega (arith, one.0)) others.none_above;
      value_each = omega (arith, present_more top level levels, ap {B = ℕ} (λ (b : Bool). cond b 1 0) same, others.value_each);
      of_type = All-cons (IsOf l) v values one.1 others.of_type;
    }

column_whole : (l : LeafIn) (cs : List Cell) → AreWholeCells l cs → IsWhole (leaf_of l) (column_of cs)
column_whole l [] h = no_cell l
column_whole l (c ∷ cs) h =
    let top : 0 + length l.nullable ≡ length l.nullable = omega arith in
    cell_more l c.level c.value cs (subst (λ (n : ℕ). IsWholeAt n l.leaf_type c.level c.value) top h.0)
    (column_whole l cs h.1)

-- the columns are whole, one for each leaf
abbrev pub AllWhole : List LeafIn → List columns.Column → Type 0
AllWhole ls cs = AllZip (λ l c. IsWhole (leaf_of l) c) ls cs

all_whole : (ls : List LeafIn) (css : List (List Cell)) → AllZip AreWholeCells ls css → AllWhole ls (map column_of css)
all_whole [] [] h = tt
all_whole [] (cs ∷ css) h = absurd h
all_whole (l ∷ ls) [] h = absurd h
all_whole (l ∷ ls) (cs ∷ css) h = (column_whole l cs h.0, all_whole ls css h.1)

-- ---- rows

same_columns : (given found : List columns.Column) → Some found ≡ Some given → found ≡ given
same_columns given found e = cc

-- The columns of rows that conform are those of rows that fit the shape.
pub columns_are : (t : Tree) (rows : List Row) (given : List columns.Column) → All (Conforms t) rows
    → columns.columns (shape_of t) rows ≡ Some given → AreColumnsOf (shape_of t) rows given
columns_are t rows given all e =
    record { fit = All-weaker (Conforms t) (FitsShape (shape_of t)) (row_fits t) rows all; are = e }

-- The columns of rows that conform are whole, one for each leaf.
pub columns_whole : (t : Tree) (rows : List Row) (given : List columns.Column) → unsupported t ≡ None
    → All (Conforms t) rows → AreColumnsOf (shape_of t) rows given → AllWhole (leaves_in t (shape_of t)) given
columns_whole t rows given none all are =
    let found = columns_found (shape_of t) rows are.fit in
    let same = same_columns given (map column_of (matrix (shape_of t) rows)) (sym found ∙ are.are) in
    subst (AllWhole (leaves_in t (shape_of t))) same
    (all_whole (leaves_in t (shape_of t)) (matrix (shape_of t) rows) (matrix_whole t rows none all))
