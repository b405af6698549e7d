-- The leaves of a fitted table against the ways of its shape.
use Rattle.std.proofs.Common.{◌≡◌, ℕ, ◌+◌, List, [], ◌∷◌, ◌++◌, map, length, Bool, true, false, Option, Some, None, option_map, cond, ℤ, subst, refl, sym, ap, ◌∙◌, arith}
use Rattle.std.proofs.lemmas.List.{map-append}
use Rattle.outcomes.specs.Options.{◌>>=◌}
use Rattle.schema_tree.specs.Tree as tree
use Rattle.schema_tree.specs.Tree.{Tree, Column}
use Rattle.schema_tree.specs.declared.primitive.Primitive.{Primitive}
use Rattle.shred.specs.Shape as shapes
use Rattle.shred.specs.Shape.{Shape}
use Rattle.shred.specs.Ways.{Step, ways, ways_from, under, highest, highest_from, level_inside}
use Rattle.parquet_schema.specs.FileTree.{FileNode, leaf, group, FileFields}
use Rattle.parquet_schema.specs.Fitting.{field_named, fitted, fitted_fields, is_number, may_fit, physical_number}
use Rattle.parquet_schema.specs.Leaves.{LeafIn, bare_leaf, flag_of, leaf_inside, leaves_in, leaves_of_fields}
use Rattle.page_cells.specs.Types.{leaf_type, physical_type, type_number}
use Rattle.page_cells.specs.declared.types.LeafType.{LeafType}

-- how many flags each leaf has
abbrev levels : List LeafIn → List ℕ
levels ls = map (λ l. length l.nullable) ls

-- ---- what a step found

pub some_is : {X Y : Type 0} (o : Option X) (f : X → Option Y) (y : Y) → (o >>= f) ≡ Some y → (x : X) × (o ≡ Some x) × (f x ≡ Some y)
some_is None f y e = absurd cc
some_is (Some x) f y e = (x, refl, e)

pub mapped_is : {X Y : Type 0} (f : X → Y) (o : Option X) (y : Y) → option_map f o ≡ Some y → (x : X) × (o ≡ Some x) × (f x ≡ y)
mapped_is f None y e = absurd cc
mapped_is f (Some x) y e = (x, refl, cc)

pub if_is : {X : Type 0} (b : Bool) (o : Option X) (x : X) → cond b o None ≡ Some x → (b ≡ true) × (o ≡ Some x)
if_is true o x e = (refl, e)
if_is false o x e = absurd cc

-- ---- levels on a way

inside : (n m : ℕ) (optional : Bool) → level_inside optional (n + m) ≡ n + level_inside optional m
inside n m true = omega arith
inside n m false = refl

-- a level to begin with is added
from_level : (n m : ℕ) (way : List Step) → highest_from (n + m) way ≡ n + highest_from m way
from_level n m [] = refl
from_level n m (step ∷ way) = ap (λ k. highest_from k way) (inside n m step.optional) ∙ from_level n (level_inside step.optional m) way

one_level : (optional nullable : Bool) (flags : List Bool) (place : ℕ) (way : List Step) → length flags ≡ highest way → length (flag_of optional nullable ++ flags) ≡ highest (record { place = place; optional = optional } ∷ way)
one_level true nullable flags place way e =
    let one : 1 + length flags ≡ length (flag_of true nullable ++ flags) = omega arith in
    sym one ∙ (ap (λ n. 1 + n) e ∙ sym (from_level 1 0 way))
one_level false nullable flags place way e = e

one_step : (place : ℕ) (optional nullable : Bool) (name : List ℕ) (ls : List LeafIn) (ws : List (List Step)) → levels ls ≡ map highest ws → levels (map (leaf_inside name optional nullable) ls) ≡ map highest (under (record { place = place; optional = optional } ∷ []) ws)
one_step place optional nullable name [] [] e = refl
one_step place optional nullable name [] (w ∷ ws) e = absurd cc
one_step place optional nullable name (l ∷ ls) [] e = absurd cc
one_step place optional nullable name (l ∷ ls) (w ∷ ws) e =
    let first : length l.nullable ≡ highest w = cc in
    let rest : levels ls ≡ map highest ws = cc in
    let others = one_step place optional nullable name ls ws rest in
    let one = one_level optional nullable l.nullable place w first in
    λ i. one i ∷ others i

bare_level : (t : Option LeafType) (number : ℤ) → is_number number (option_map (λ x. type_number (physical_type x)) t) ≡ true → levels (bare_leaf t) ≡ 0 ∷ []
bare_level None number e = absurd cc
bare_level (Some t) number e = refl

-- ---- the leaves of a type and of fields

abbrev Known : Tree → Type 0
Known t = (node : FileNode) (s : Shape) → fitted t node ≡ Some s → levels (leaves_in t s) ≡ map highest (ways s)

abbrev KnownFields : tree.Fields → Type 0
KnownFields fs = (gs : FileFields) (ss : shapes.Fields) (place : ℕ) → fitted_fields fs gs ≡ Some ss → levels (leaves_of_fields fs ss) ≡ map highest (ways_from place ss)

leaf_known : (p : Primitive) → Known (tree.leaf p)
leaf_known p (leaf number) s e =
    let fits = if_is (is_number number (physical_number p)) (Some shapes.leaf) s e in
    let is : shapes.leaf ≡ s = cc in
    subst (λ x. levels (leaves_in (tree.leaf p) x) ≡ map highest (ways x)) is (bare_level (leaf_type p) number fits.0)
leaf_known p (group fs) s e = absurd cc

struct_known : (fs : tree.Fields) → KnownFields fs → Known (tree.struct fs)
struct_known fs known (leaf number) s e = absurd cc
struct_known fs known (group gs) s e =
    let fits = if_is (may_fit fs gs) (option_map shapes.struct (fitted_fields fs gs)) s e in
    let made = mapped_is shapes.struct (fitted_fields fs gs) s fits.1 in
    subst (λ x. levels (leaves_in (tree.struct fs) x) ≡ map highest (ways x)) made.2 (known gs made.0 0 made.1)

none_known : KnownFields tree.no_fields
none_known gs ss place e =
    let is : shapes.no_fields ≡ ss = cc in
    subst (λ xs. levels (leaves_of_fields tree.no_fields xs) ≡ map highest (ways_from place xs)) is refl

field_known : (c : Column) (fs : tree.Fields) → Known c.data_type → KnownFields fs → KnownFields (tree.field c.name c.data_type c.nullable c.metadata fs)
field_known c fs known others gs ss place e =
    let name = c.name in
    let t = c.data_type in
    let nullable = c.nullable in
    let all : tree.Fields = tree.field c.name c.data_type c.nullable c.metadata fs in
    let found = some_is (field_named name gs) _ ss e in
    let g = found.0 in
    let fits = some_is (fitted t g.node) _ ss found.2 in
    let s = fits.0 in
    let rest = mapped_is (λ xs. shapes.field name g.optional s xs) (fitted_fields fs gs) ss fits.2 in
    let first = one_step place g.optional nullable name (leaves_in t s) (ways s) (known g.node s fits.1) in
    let more = others gs rest.0 (place + 1) rest.1 in
    let step : List Step = record { place = place; optional = g.optional } ∷ [] in
    let both : levels (leaves_of_fields all (shapes.field name g.optional s rest.0)) ≡ map highest (ways_from place (shapes.field name g.optional s rest.0)) =
    map-append _ (map (leaf_inside name g.optional nullable) (leaves_in t s)) (leaves_of_fields fs rest.0) ∙ (ap (λ ns. ns ++ levels (leaves_of_fields fs rest.0)) first ∙ (ap (λ ns. map highest (under step (ways s)) ++ ns) more ∙ sym (map-append highest (under step (ways s)) (ways_from (place + 1) rest.0)))) in
    subst (λ xs. levels (leaves_of_fields all xs) ≡ map highest (ways_from place xs)) rest.2 both

mutual
  pub leaf_levels : (t : Tree) → Known t
  leaf_levels (tree.leaf p) = leaf_known p
  leaf_levels (tree.struct fs) = struct_known fs (field_levels fs)
  leaf_levels (tree.array t nullable) = λ node s e. absurd cc
  leaf_levels (tree.map k v nullable) = λ node s e. absurd cc

  field_levels : (fs : tree.Fields) → KnownFields fs
  field_levels tree.no_fields = none_known
  field_levels (tree.field name t nullable metadata fs) = field_known (record { name = name; data_type = t; nullable = nullable; metadata = metadata }) fs (leaf_levels t) (field_levels fs)
