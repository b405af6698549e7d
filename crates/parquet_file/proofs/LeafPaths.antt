-- The leaves of a type within the limits: no two have one path, their paths are short, and they are few.
use Rattle.std.proofs.Common.{◌≡◌, ℕ, suc, ◌≤◌, ◌||◌, length, List, [], ◌∷◌, ◌++◌, map, not, nat_lt, Bool, true, false, bytes_eq, Option, None, Some, refl, sym, ◌∙◌, arith}
use Rattle.std.specs.List.{AllByRecursion}
use Rattle.std.proofs.lemmas.Bool.{and_parts, false≢true, ltb-false}
use Rattle.std.proofs.lemmas.List.{length-append, length-map}
use Rattle.std.proofs.lemmas.Slice.Eq.{bytes_eq-Decides}
use Rattle.schema_tree.specs.Limits.{are_sound, has_field, is_named, is_sound, leaf_count, leaf_count_of_fields, levels, levels_of_fields}
use Rattle.schema_tree.specs.Tree as tree
use Rattle.schema_tree.specs.Tree.{Tree, Column}
use Rattle.shred.specs.Shape as shapes
use Rattle.shred.specs.Shape.{Shape}
use Rattle.page_cells.specs.Types.{leaf_type}
use Rattle.page_cells.specs.declared.types.LeafType.{LeafType}
use Rattle.parquet_schema.specs.Leaves.{LeafIn, bare_leaf, flag_of, leaf_inside, leaves_in, leaves_of_fields}
use Rattle.parquet_file.specs.Writing.{are_short_named, is_short_named}
use Rattle.parquet_file.proofs.FittedShapes.{sound_field}

-- ---- what holds of each of a list

pub each_append : {A : Type 0} (P : A → Type 0) (xs ys : List A) → AllByRecursion P xs → AllByRecursion P ys
    → AllByRecursion P (xs ++ ys)
each_append P [] ys h k = k
each_append P (x ∷ xs) ys h k = (h.0, each_append P xs ys h.1 k)

pub each_map : {A B : Type 0} (P : A → Type 0) (Q : B → Type 0) (f : A → B) → ((x : A) → P x → Q (f x))
    → (xs : List A) → AllByRecursion P xs → AllByRecursion Q (map f xs)
each_map P Q f step [] h = tt
each_map P Q f step (x ∷ xs) h = (step x h.0, each_map P Q f step xs h.1)

pub each_weaker : {A : Type 0} (P Q : A → Type 0) → ((x : A) → P x → Q x) → (xs : List A) → AllByRecursion P xs
    → AllByRecursion Q xs
each_weaker P Q step [] h = tt
each_weaker P Q step (x ∷ xs) h = (step x h.0, each_weaker P Q step xs h.1)

each_any : {A : Type 0} (P : A → Type 0) → ((x : A) → P x) → (xs : List A) → AllByRecursion P xs
each_any P always [] = tt
each_any P always (x ∷ xs) = (always x, each_any P always xs)

-- ---- distinct paths

-- the leaf has another path
abbrev pub IsElsewhere : List (List ℕ) → LeafIn → Type 0
IsElsewhere path l = path ≡ l.names → ⊥

-- no two leaves have one path
abbrev pub AreApart : List LeafIn → Type 0
AreApart [] = Unit {0}
AreApart (l ∷ ls) = AllByRecursion (IsElsewhere l.names) ls × AreApart ls

-- the path doesn't begin with this name
abbrev IsOutside : List ℕ → LeafIn → Type 0
IsOutside name l = (path : List (List ℕ)) → name ∷ path ≡ l.names → ⊥

tail_same : (name : List ℕ) (path other : List (List ℕ)) → name ∷ path ≡ name ∷ other → path ≡ other
tail_same name path other e = cc

inside_apart : (name : List ℕ) (optional nullable : Bool) (ls : List LeafIn) → AreApart ls
    → AreApart (map (leaf_inside name optional nullable) ls)
inside_apart name optional nullable [] h = tt
inside_apart name optional nullable (l ∷ ls) h = (
  each_map (IsElsewhere l.names) (IsElsewhere (name ∷ l.names)) (leaf_inside name optional nullable)
      (λ k other same. other (tail_same name l.names k.names same)) ls h.0,
  inside_apart name optional nullable ls h.1,
)

-- a field's leaves in front of others
apart_behind : (name : List ℕ) (optional nullable : Bool) (ls ks : List LeafIn) → AreApart ls → AreApart ks
    → AllByRecursion (IsOutside name) ks → AreApart (map (leaf_inside name optional nullable) ls ++ ks)
apart_behind name optional nullable [] ks h k outside = k
apart_behind name optional nullable (l ∷ ls) ks h k outside =
    let inside = inside_apart name optional nullable (l ∷ ls) h in (
      each_append (IsElsewhere (name ∷ l.names)) (map (leaf_inside name optional nullable) ls) ks inside.0
          (each_weaker (IsOutside name) (IsElsewhere (name ∷ l.names)) (λ j out. out l.names) ks outside),
      apart_behind name optional nullable ls ks h.1 k outside,
    )

first_same : (name other : List ℕ) (path names : List (List ℕ)) → name ∷ path ≡ other ∷ names → name ≡ other
first_same name other path names e = cc

neither : (a b : Bool) → a || b ≡ false → (a ≡ false) × (b ≡ false)
neither true b e = absurd cc
neither false b e = (refl, e)

-- fields of which none has the name
others_outside : (name : List ℕ) (fs : tree.Fields) (ss : shapes.Fields) → is_named name fs ≡ false
    → AllByRecursion (IsOutside name) (leaves_of_fields fs ss)
others_outside name tree.no_fields ss e = tt
others_outside name (tree.field other t nullable metadata fs) shapes.no_fields e = tt
others_outside name (tree.field other t nullable metadata fs) (shapes.field n optional s ss) e =
    let parts = neither (bytes_eq name other) (is_named name fs) e in
    let differ : name ≡ other → ⊥ = λ same. false≢true (sym parts.0 ∙ (bytes_eq-Decides name other).1 same) in
    each_append (IsOutside name) (map (leaf_inside other optional nullable) (leaves_in t s)) (leaves_of_fields fs ss)
    (each_map (λ l. Unit {0}) (IsOutside name) (leaf_inside other optional nullable)
    (λ l any path same. differ (first_same name other path l.names same)) (leaves_in t s)
    (each_any (λ l. Unit {0}) (λ l. tt) (leaves_in t s)))
    (others_outside name fs ss parts.1)

bare_apart : (o : Option LeafType) → AreApart (bare_leaf o)
bare_apart None = tt
bare_apart (Some type) = (tt, tt)

mutual
  -- No two leaves of a sound type have one path.
  pub leaves_apart : (t : Tree) (s : Shape) → is_sound t ≡ true → AreApart (leaves_in t s)
  leaves_apart (tree.leaf p) shapes.leaf sound = bare_apart (leaf_type p)
  leaves_apart (tree.leaf p) (shapes.struct ss) sound = tt
  leaves_apart (tree.struct fs) shapes.leaf sound = tt
  leaves_apart (tree.struct fs) (shapes.struct ss) sound =
      fields_apart fs ss (and_parts (has_field fs) (are_sound fs) sound).1
  leaves_apart (tree.array t nullable) s sound = tt
  leaves_apart (tree.map k v nullable) s sound = tt

  fields_apart : (fs : tree.Fields) (ss : shapes.Fields) → are_sound fs ≡ true → AreApart (leaves_of_fields fs ss)
  fields_apart tree.no_fields ss sound = tt
  fields_apart (tree.field name t nullable metadata fs) shapes.no_fields sound = tt
  fields_apart (tree.field name t nullable metadata fs) (shapes.field n optional s ss) sound =
      let c : Column = record { name = name; data_type = t; nullable = nullable; metadata = metadata } in
      let k = sound_field c fs sound in
      apart_behind name optional nullable (leaves_in t s) (leaves_of_fields fs ss) (leaves_apart t s k.inside)
      (fields_apart fs ss k.others) (others_outside name fs ss k.once)

-- ---- short paths

abbrev pub IsShort : List ℕ → Type 0
IsShort name = length name ≤ 67108864

-- so many names at most on the way to the leaf, none of them long, and so many nodes that may be null
pub record IsNear (most : ℕ) (l : LeafIn) : Type 0 where
  pub few : length l.names ≤ most
  pub flags : length l.nullable ≤ most
  pub short : AllByRecursion IsShort l.names

pub further : (less more : ℕ) (l : LeafIn) → less ≤ more → IsNear less l → IsNear more l
further less more l le h = record { few = omega (arith, h.few); flags = omega (arith, h.flags); short = h.short }

one_flag : (optional nullable : Bool) (flags : List Bool) → length (flag_of optional nullable ++ flags) ≤ suc (length flags)
one_flag true nullable flags = omega arith
one_flag false nullable flags = omega arith

inside_near : (name : List ℕ) (optional nullable : Bool) (most : ℕ) → IsShort name → (l : LeafIn) → IsNear most l
    → IsNear (suc most) (leaf_inside name optional nullable l)
inside_near name optional nullable most short l h = record {
  few = omega (arith, h.few);
  flags = omega (arith, h.flags, one_flag optional nullable l.nullable);
  short = (short, h.short);
}

bare_near : (o : Option LeafType) → AllByRecursion (IsNear 0) (bare_leaf o)
bare_near None = tt
bare_near (Some type) = (record { few = omega arith; flags = omega arith; short = tt }, tt)

not_true : (b : Bool) → not b ≡ true → b ≡ false
not_true true e = absurd cc
not_true false e = refl

mutual
  -- The way to a leaf is no longer than the type has levels.
  pub leaves_near : (t : Tree) (s : Shape) → is_short_named t ≡ true
      → AllByRecursion (IsNear (levels t)) (leaves_in t s)
  leaves_near (tree.leaf p) shapes.leaf short = bare_near (leaf_type p)
  leaves_near (tree.leaf p) (shapes.struct ss) short = tt
  leaves_near (tree.struct fs) shapes.leaf short = tt
  leaves_near (tree.struct fs) (shapes.struct ss) short = fields_near fs ss short
  leaves_near (tree.array t nullable) s short = tt
  leaves_near (tree.map k v nullable) s short = tt

  fields_near : (fs : tree.Fields) (ss : shapes.Fields) → are_short_named fs ≡ true
      → AllByRecursion (IsNear (suc (levels_of_fields fs))) (leaves_of_fields fs ss)
  fields_near tree.no_fields ss short = tt
  fields_near (tree.field name t nullable metadata fs) shapes.no_fields short = tt
  fields_near (tree.field name t nullable metadata fs) (shapes.field n optional s ss) short =
      let one = and_parts (not (nat_lt 67108864 (length name))) _ short in
      let two = and_parts (is_short_named t) (are_short_named fs) one.1 in
      let named : IsShort name = ltb-false 67108864 (length name) (not_true _ one.0) in
      let all = suc (levels_of_fields (tree.field name t nullable metadata fs)) in
      each_append (IsNear all) (map (leaf_inside name optional nullable) (leaves_in t s)) (leaves_of_fields fs ss)
      (each_map (IsNear (levels t)) (IsNear all) (leaf_inside name optional nullable)
      (λ l h. further (suc (levels t)) all (leaf_inside name optional nullable l) (omega arith)
      (inside_near name optional nullable (levels t) named l h)) (leaves_in t s) (leaves_near t s two.0))
      (each_weaker (IsNear (suc (levels_of_fields fs))) (IsNear all)
      (λ l. further (suc (levels_of_fields fs)) all l (omega arith)) (leaves_of_fields fs ss) (fields_near fs ss two.1))

-- ---- few leaves

bare_few : (o : Option LeafType) → length (bare_leaf o) ≤ 1
bare_few None = omega arith
bare_few (Some type) = omega arith

mutual
  -- There are at most as many leaves as the type has primitive types.
  pub leaves_few : (t : Tree) (s : Shape) → length (leaves_in t s) ≤ leaf_count t
  leaves_few (tree.leaf p) shapes.leaf = bare_few (leaf_type p)
  leaves_few (tree.leaf p) (shapes.struct ss) = omega arith
  leaves_few (tree.struct fs) shapes.leaf = omega arith
  leaves_few (tree.struct fs) (shapes.struct ss) = fields_few fs ss
  leaves_few (tree.array t nullable) s = omega arith
  leaves_few (tree.map k v nullable) s = omega arith

  fields_few : (fs : tree.Fields) (ss : shapes.Fields) → length (leaves_of_fields fs ss) ≤ leaf_count_of_fields fs
  fields_few tree.no_fields ss = omega arith
  fields_few (tree.field name t nullable metadata fs) shapes.no_fields = omega arith
  fields_few (tree.field name t nullable metadata fs) (shapes.field n optional s ss) =
      let own = map (leaf_inside name optional nullable) (leaves_in t s) in
      omega (
        arith,
        length-append own (leaves_of_fields fs ss),
        length-map (leaves_in t s) (leaf_inside name optional nullable),
        leaves_few t s,
        fields_few fs ss,
      )
