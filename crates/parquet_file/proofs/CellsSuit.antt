-- The cells of a row suit the leaves of a table just where the row conforms and its texts are UTF-8.
use Rattle.std.proofs.Common.{◌≡◌, ℕ, ◌<◌, ◌&&◌, ◌||◌, length, List, [], ◌∷◌, ◌++◌, map, Bool, true, false, if◌then◌else◌, Option, Some, None, refl, sym, ap, subst, ◌∙◌, arith, append_assoc, length-append}
use Rattle.std.proofs.lemmas.Bool.{and_parts, false≢true}
use Rattle.std.proofs.lemmas.List.{append-nil, length-map}
use Rattle.row_core.specs.Conforms as conforms
use Rattle.row_core.specs.Conforms.{are_values, is_leaf_value, is_value}
use Rattle.row_core.specs.Rows.{Value, Values, null, structure, no_values, value}
use Rattle.schema_tree.specs.Tree as tree
use Rattle.schema_tree.specs.Tree.{Tree, Column}
use Rattle.schema_tree.specs.Limits.{are_sound, has_field, is_sound}
use Rattle.schema_tree.specs.declared.primitive.Primitive.{Primitive}
use Rattle.schema_tree.specs.declared.primitive.Primitive.TheVariants as primitive
use Rattle.shred.specs.Columns.{Cell, absent_cell, is_null, present_cell}
use Rattle.shred.specs.Fits.{FitFields, FitsField, FitsShape, is_plain}
use Rattle.shred.specs.Shape as shapes
use Rattle.shred.specs.Shape.{HasFields, Shape}
use Rattle.shred.specs.Ways.{Step, level_inside, ways}
use Rattle.shred.proofs.Callers.{cells_length, cells_of, cells_of_fields}
use Rattle.row_assembly.proofs.Callers.{has_way}
use Rattle.page_cells.specs.Texts.{is_proper}
use Rattle.page_cells.specs.Levels.{may_stand}
use Rattle.page_cells.specs.Types.{leaf_type, primitive_of}
use Rattle.page_cells.specs.declared.types.LeafType.{LeafType}
use Rattle.page_cells.specs.declared.types.LeafType.TheVariants as leaf
use Rattle.parquet_schema.specs.FileTree.{FileFields, FileNode}
use Rattle.parquet_schema.specs.Fitting.{fitted, fitted_fields}
use Rattle.parquet_schema.specs.Leaves.{LeafIn, flag_of, leaf_inside, leaves_in, leaves_of_fields}
use Rattle.parquet_file.specs.File.{has_texts, have_texts}
use Rattle.parquet_file.proofs.FittedShapes.{field_fits, in_front, leaf_fits, leaves_for_ways, shape_has, sound_field, struct_fits}

-- ---- cells that suit

-- a value that a leaf of this type holds
abbrev pub is_held : LeafType → Option Value → Bool
is_held type None = true
is_held type (Some v) = is_leaf_value (primitive_of type) v && is_proper v

-- a cell suits a leaf below these flags
abbrev pub suits_cell : List Bool → LeafIn → Cell → Bool
suits_cell above l c = may_stand (above ++ l.nullable) c.level && is_held l.leaf_type c.value

-- one cell for each leaf
abbrev pub suit_cells : List Bool → List LeafIn → List Cell → Bool
suit_cells above [] [] = true
suit_cells above [] (c ∷ cs) = false
suit_cells above (l ∷ ls) [] = false
suit_cells above (l ∷ ls) (c ∷ cs) = suits_cell above l c && suit_cells above ls cs

and_assoc : (a b c : Bool) → (a && b) && c ≡ a && (b && c)
and_assoc true b c = refl
and_assoc false b c = refl

and_true : (b : Bool) → b && true ≡ b
and_true true = refl
and_true false = refl

-- conforming and texts, each for the first and the others
pub and_swap : (a b c d : Bool) → (a && b) && (c && d) ≡ (a && c) && (b && d)
and_swap true true c d = refl
and_swap true false true d = refl
and_swap true false false d = refl
and_swap false b c d = refl

suit_both : (above : List Bool) (ls ks : List LeafIn) (cs ds : List Cell) → length ls ≡ length cs
    → suit_cells above (ls ++ ks) (cs ++ ds) ≡ suit_cells above ls cs && suit_cells above ks ds
suit_both above [] ks [] ds e = refl
suit_both above [] ks (c ∷ cs) ds e = absurd (omega (arith, e))
suit_both above (l ∷ ls) ks [] ds e = absurd (omega (arith, e))
suit_both above (l ∷ ls) ks (c ∷ cs) ds e =
    ap (λ b. suits_cell above l c && b) (suit_both above ls ks cs ds (omega (arith, e)))
    ∙ sym (and_assoc (suits_cell above l c) (suit_cells above ls cs) (suit_cells above ks ds))

-- ---- levels below flags

stands_here : (above flags : List Bool) (flag : Bool) → may_stand (above ++ (flag ∷ flags)) (length above) ≡ flag
stands_here [] flags flag = refl
stands_here (f ∷ above) flags flag = stands_here above flags flag

stands_last : (above : List Bool) → may_stand (above ++ []) (length above) ≡ true
stands_last [] = refl
stands_last (f ∷ above) = stands_last above

-- the flags below a field
below : List Bool → (optional nullable : Bool) → List Bool
below above optional nullable = above ++ flag_of optional nullable

below_length : (above : List Bool) (optional nullable : Bool)
    → length (below above optional nullable) ≡ level_inside optional (length above)
unfolding below
below_length above true nullable = length-append above (nullable ∷ [])
below_length above false nullable = ap length (append-nil above)

inside_cells : (above : List Bool) (name : List ℕ) (optional nullable : Bool) (ls : List LeafIn) (cs : List Cell)
    → suit_cells above (map (leaf_inside name optional nullable) ls) cs
    ≡ suit_cells (below above optional nullable) ls cs
unfolding below
inside_cells above name optional nullable [] [] = refl
inside_cells above name optional nullable [] (c ∷ cs) = refl
inside_cells above name optional nullable (l ∷ ls) [] = refl
inside_cells above name optional nullable (l ∷ ls) (c ∷ cs) =
    let flags :
    above ++ (flag_of optional nullable ++ l.nullable) ≡ (above ++ flag_of optional nullable) ++ l.nullable =
    sym (append_assoc above (flag_of optional nullable) l.nullable) in
    rw (flags, inside_cells above name optional nullable ls cs) refl

-- ---- a null in a field's place

no_nulls : (above : List Bool) (name : List ℕ) (ls : List LeafIn) (ws : List (List Step)) → length ls ≡ length ws
    → suit_cells above (map (leaf_inside name true true) ls) (map (λ way. absent_cell (length above)) ws) ≡ true
no_nulls above name [] [] e = refl
no_nulls above name [] (w ∷ ws) e = absurd (omega (arith, e))
no_nulls above name (l ∷ ls) [] e = absurd (omega (arith, e))
no_nulls above name (l ∷ ls) (w ∷ ws) e =
    rw (stands_here above l.nullable true) (no_nulls above name ls ws (omega (arith, e)))

nulls_suit : (above : List Bool) (name : List ℕ) (nullable : Bool) (ls : List LeafIn) (ws : List (List Step))
    → length ls ≡ length ws → 0 < length ws
    → suit_cells above (map (leaf_inside name true nullable) ls) (map (λ way. absent_cell (length above)) ws) ≡ nullable
nulls_suit above name true ls ws e some = no_nulls above name ls ws e
nulls_suit above name false ls [] e some = absurd (omega (arith, some))
nulls_suit above name false [] (w ∷ ws) e some = absurd (omega (arith, e))
nulls_suit above name false (l ∷ ls) (w ∷ ws) e some = rw (stands_here above l.nullable false) refl

-- ---- how many cells there are

-- the cells of a field
abbrev field_cells : (optional : Bool) → Shape → ℕ → Value → List Cell
field_cells optional s level v =
    if is_null v then map (λ way. absent_cell level) (ways s) else cells_of s (level_inside optional level) v

field_length : (optional : Bool) (s : Shape) (level : ℕ) (v : Value) → FitsField optional (FitsShape s) v
    → length (field_cells optional s level v) ≡ length (ways s)
field_length optional s level null fit = length-map (ways s) (λ way. absent_cell level)
field_length optional s level v fit = cells_length s (level_inside optional level) v fit

-- ---- a leaf

type_back : (p : Primitive) (type : LeafType) → leaf_type p ≡ Some type → primitive_of type ≡ p
type_back primitive.Boolean type e = let is : leaf.Boolean ≡ type = cc in ap primitive_of (sym is)
type_back primitive.Byte type e = let is : leaf.Byte ≡ type = cc in ap primitive_of (sym is)
type_back primitive.Short type e = let is : leaf.Short ≡ type = cc in ap primitive_of (sym is)
type_back primitive.Integer type e = let is : leaf.Integer ≡ type = cc in ap primitive_of (sym is)
type_back primitive.Long type e = let is : leaf.Long ≡ type = cc in ap primitive_of (sym is)
type_back primitive.Date type e = let is : leaf.Date ≡ type = cc in ap primitive_of (sym is)
type_back primitive.String type e = let is : leaf.String ≡ type = cc in ap primitive_of (sym is)
type_back primitive.Binary type e = let is : leaf.Binary ≡ type = cc in ap primitive_of (sym is)
type_back p type e = absurd cc

plain_texts : (v : Value) → is_plain v ≡ true → is_proper v ≡ has_texts v
plain_texts (structure vs) fit = absurd (false≢true fit)
plain_texts v fit = refl

leaf_suits : (p : Primitive) (type : LeafType) (above : List Bool) (v : Value) → leaf_type p ≡ Some type
    → is_plain v ≡ true
    → suit_cells above (leaves_in (tree.leaf p) shapes.leaf) (present_cell (length above) v ∷ [])
    ≡ is_value (tree.leaf p) v && has_texts v
leaf_suits p type above v stored fit =
    rw (stored, stands_last above, type_back p type stored, plain_texts v fit)
    (and_true (is_leaf_value p v && has_texts v))

-- ---- a field

no_null_leaf : (p : Primitive) → is_leaf_value p null ≡ false
no_null_leaf primitive.Boolean = refl
no_null_leaf p = refl

no_null : (t : Tree) → is_value t null ≡ false
no_null (tree.leaf p) = no_null_leaf p
no_null t = refl

null_only : (nullable inside : Bool) → inside ≡ false → nullable ≡ (nullable && true || inside) && true
null_only true inside e = refl
null_only false inside e = rw e refl

no_null_here : (nullable inside : Bool) → nullable && false || inside ≡ inside
no_null_here true inside = refl
no_null_here false inside = refl

-- what is shown of a value
abbrev Suit : Tree → Shape → Value → Type 0
Suit t s v = (above : List Bool) → FitsShape s v
    → suit_cells above (leaves_in t s) (cells_of s (length above) v) ≡ is_value t v && has_texts v

pub some_ways : (s : Shape) → HasFields s → 0 < length (ways s)
some_ways s has = let w = has_way s has in rw w.2 (omega arith)

inside_suits : (t : Tree) (s : Shape) (above : List Bool) (name : List ℕ) (optional nullable : Bool) (v : Value)
    → Suit t s v → FitsShape s v
    → suit_cells above (map (leaf_inside name optional nullable) (leaves_in t s))
    (cells_of s (level_inside optional (length above)) v)
    ≡ (nullable && false || is_value t v) && has_texts v
inside_suits t s above name optional nullable v inner fit =
    inside_cells above name optional nullable (leaves_in t s) (cells_of s (level_inside optional (length above)) v)
    ∙ (ap (λ n. suit_cells (below above optional nullable) (leaves_in t s) (cells_of s n v))
    (sym (below_length above optional nullable))
    ∙ (inner (below above optional nullable) fit
    ∙ ap (λ b. b && has_texts v) (sym (no_null_here nullable (is_value t v)))))

null_suits : (t : Tree) (s : Shape) (above : List Bool) (name : List ℕ) (optional nullable : Bool)
    → length (leaves_in t s) ≡ length (ways s) → HasFields s → optional ≡ true
    → suit_cells above (map (leaf_inside name optional nullable) (leaves_in t s))
    (map (λ way. absent_cell (length above)) (ways s))
    ≡ (nullable && true || is_value t null) && true
null_suits t s above name optional nullable many has may =
    rw may (nulls_suit above name nullable (leaves_in t s) (ways s) many (some_ways s has))
    ∙ null_only nullable (is_value t null) (no_null t)

field_suits : (t : Tree) (s : Shape) (above : List Bool) (name : List ℕ) (optional nullable : Bool) (v : Value)
    → length (leaves_in t s) ≡ length (ways s) → HasFields s → Suit t s v → FitsField optional (FitsShape s) v
    → suit_cells above (map (leaf_inside name optional nullable) (leaves_in t s))
    (field_cells optional s (length above) v)
    ≡ (nullable && conforms.is_null v || is_value t v) && has_texts v
field_suits t s above name optional nullable null many has inner fit =
    null_suits t s above name optional nullable many has fit
field_suits t s above name optional nullable v many has inner fit =
    inside_suits t s above name optional nullable v inner fit

-- ---- the fields of a struct

abbrev SuitAll : tree.Fields → shapes.Fields → Values → Type 0
SuitAll fs ss vs = (above : List Bool) → FitFields ss vs
    → suit_cells above (leaves_of_fields fs ss) (cells_of_fields ss (length above) vs)
    ≡ are_values fs vs && have_texts vs

none_suit : (vs : Values) → SuitAll tree.no_fields shapes.no_fields vs
none_suit no_values above fit = refl
none_suit (value v vs) above fit = absurd fit

one_more : (c : Column) (fs : tree.Fields) (optional : Bool) (s : Shape) (ss : shapes.Fields) (v : Value) (vs : Values)
    → length (leaves_in c.data_type s) ≡ length (ways s) → HasFields s → Suit c.data_type s v → SuitAll fs ss vs
    → SuitAll (in_front c fs) (shapes.field c.name optional s ss) (value v vs)
one_more c fs optional s ss v vs many has inner others above fit =
    let leaves = map (leaf_inside c.name optional c.nullable) (leaves_in c.data_type s) in
    let cells = field_cells optional s (length above) v in
    let as_many : length leaves ≡ length cells =
    length-map (leaves_in c.data_type s) (leaf_inside c.name optional c.nullable)
    ∙ (many ∙ sym (field_length optional s (length above) v fit.0)) in
    let first = field_suits c.data_type s above c.name optional c.nullable v many has inner fit.0 in
    let rest = others above fit.1 in
    suit_both above leaves (leaves_of_fields fs ss) cells (cells_of_fields ss (length above) vs) as_many
    ∙ (ap (λ b. b && suit_cells above (leaves_of_fields fs ss) (cells_of_fields ss (length above) vs)) first
    ∙ (ap (λ b. ((c.nullable && conforms.is_null v || is_value c.data_type v) && has_texts v) && b) rest
    ∙ and_swap (c.nullable && conforms.is_null v || is_value c.data_type v) (has_texts v) (are_values fs vs)
    (have_texts vs)))

struct_suits : (fs : tree.Fields) (ss : shapes.Fields) → ((vs : Values) → SuitAll fs ss vs) → (v : Value)
    → Suit (tree.struct fs) (shapes.struct ss) v
struct_suits fs ss all (structure vs) above fit = all vs above fit
struct_suits fs ss all v above fit = absurd fit

fields_suit : (c : Column) (fs : tree.Fields) (optional : Bool) (s : Shape) (ss : shapes.Fields)
    → length (leaves_in c.data_type s) ≡ length (ways s) → HasFields s → ((v : Value) → Suit c.data_type s v)
    → ((vs : Values) → SuitAll fs ss vs) → (vs : Values)
    → SuitAll (in_front c fs) (shapes.field c.name optional s ss) vs
fields_suit c fs optional s ss many has inner others no_values above fit = absurd fit
fields_suit c fs optional s ss many has inner others (value v vs) above fit =
    one_more c fs optional s ss v vs many has (inner v) (others vs) above fit

-- ---- rows

mutual
  -- The cells of a value suit the leaves just where it is a value of the type, and its texts are UTF-8.
  pub value_suits : (t : Tree) (node : FileNode) (s : Shape) → is_sound t ≡ true → fitted t node ≡ Some s → (v : Value)
      → Suit t s v
  value_suits (tree.leaf p) node s sound e v =
      let f = leaf_fits p node s e in
      subst (λ x. Suit (tree.leaf p) x v) f.is (λ above fit. leaf_suits p f.type above v f.stored fit)
  value_suits (tree.struct fs) node s sound e v =
      let f = struct_fits fs node s e in
      let k = and_parts (has_field fs) (are_sound fs) sound in
      subst (λ x. Suit (tree.struct fs) x v) f.is
      (struct_suits fs f.fields (values_suit fs f.inside f.fields k.1 f.each) v)
  value_suits (tree.array t nullable) node s sound e v = absurd cc
  value_suits (tree.map k w nullable) node s sound e v = absurd cc

  values_suit : (fs : tree.Fields) (gs : FileFields) (ss : shapes.Fields) → are_sound fs ≡ true
      → fitted_fields fs gs ≡ Some ss → (vs : Values) → SuitAll fs ss vs
  values_suit tree.no_fields gs ss sound e vs =
      let is : shapes.no_fields ≡ ss = cc in subst (λ xs. SuitAll tree.no_fields xs vs) is (none_suit vs)
  values_suit (tree.field name t nullable metadata fs) gs ss sound e vs =
      let c : Column = record { name = name; data_type = t; nullable = nullable; metadata = metadata } in
      let g = field_fits c fs gs ss e in
      let k = sound_field c fs sound in
      subst (λ xs. SuitAll (in_front c fs) xs vs) g.is
      (fields_suit c fs g.named.optional g.shape g.others (leaves_for_ways t g.named.node g.shape g.fits)
      (shape_has t g.named.node g.shape k.inside g.fits) (value_suits t g.named.node g.shape k.inside g.fits)
      (values_suit fs gs g.others k.others g.each) vs)

-- The cells of a row suit the leaves just where it conforms and its texts are UTF-8.
pub row_suits : (t : Tree) (node : FileNode) (s : Shape) (r : Value) → is_sound t ≡ true → fitted t node ≡ Some s
    → FitsShape s r → suit_cells [] (leaves_in t s) (cells_of s 0 r) ≡ is_value t r && has_texts r
row_suits t node s r sound e fit = value_suits t node s sound e r [] fit
