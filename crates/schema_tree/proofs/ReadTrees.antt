-- What is read keeps the limits: structs, and types of each kind.
use Rattle.std.proofs.Common.{◌≡◌, ℕ, suc, ◌+◌, ◌-◌, ◌*◌, ◌≤◌, ◌<◌, max, List, [], ◌∷◌, ◌++◌, Bool, true, false, codes, bytes_eq, None, Result, Ok, refl, sym, subst, arith}
use Rattle.std.specs.Prelude.{not, ◌||◌}
use Rattle.std.specs.List.{list_any}
use Rattle.std.proofs.lemmas.List.Folds.{list_any-append}
use Rattle.std.proofs.lemmas.Slice.Eq.{bytes_eq-Decides}
use Rattle.serde_json.specs.Data.{Data, Items, no_items, item, depth, items_depth}
use Rattle.serde_json.specs.Find.{as_str, as_array}
use Rattle.outcomes.specs.Results.{◌>>=◌, refused_if, refused_as}
use Rattle.json_fields.proofs.Callers.{bind_ok, ok_is}
use Rattle.schema_tree.specs.Limits.{levels_of_fields, nodes_of_fields, leaf_count_of_fields, has_field, is_named, are_sound}
use Rattle.schema_tree.specs.Printing.{items_of_fields}
use Rattle.schema_tree.specs.Fault.{Fault, double_name, no_fields, inside}
use Rattle.schema_tree.specs.Reading.{Met, needed, Reader, column_of, field_of, fields_behind, has_item, struct_of}
use Rattle.schema_tree.specs.Tree as tree
use Rattle.schema_tree.specs.Tree.{Tree, Column, fields_of}
use Rattle.schema_tree.proofs.ReadSteps.{items_below, not_refused}
use Rattle.schema_tree.proofs.ReadLimits.{Keeps, KeptInside, KeptColumn, ColumnStep, column_keeps}

-- ---- names

or_true : (b : Bool) → (b || true) ≡ true
or_true true = refl
or_true false = refl

or_left : (b c : Bool) → b ≡ true → (b || c) ≡ true
or_left true c h = refl
or_left false c h = absurd cc

-- a name is among names that end with it
named_last : (name : List ℕ) (before : List (List ℕ)) → list_any (bytes_eq name) (before ++ name ∷ []) ≡ true
named_last name before = rw (list_any-append (bytes_eq name) before (name ∷ []), (bytes_eq-Decides name name).1 refl) (or_true (list_any (bytes_eq name) before))

-- a name is still among more names
still_named : (name : List ℕ) (before more : List (List ℕ)) → list_any (bytes_eq name) before ≡ true → list_any (bytes_eq name) (before ++ more) ≡ true
still_named name before more h = rw (list_any-append (bytes_eq name) before more) (or_left (list_any (bytes_eq name) before) (list_any (bytes_eq name) more) h)

differs_if : (name other : List ℕ) (before : List (List ℕ)) (b : Bool) → bytes_eq name other ≡ b → list_any (bytes_eq name) before ≡ true → list_any (bytes_eq other) before ≡ false → bytes_eq name other ≡ false
differs_if name other before false is h free = is
differs_if name other before true is h free =
    let same : name ≡ other = (bytes_eq-Decides name other).0 is in
    let there : list_any (bytes_eq other) before ≡ true = subst (λ (n : List ℕ). list_any (bytes_eq n) before ≡ true) same h in
    absurd cc

-- a name among those before is not a name that is not
differs : (name other : List ℕ) (before : List (List ℕ)) → list_any (bytes_eq name) before ≡ true → list_any (bytes_eq other) before ≡ false → bytes_eq name other ≡ false
differs name other before h free = differs_if name other before (bytes_eq name other) refl h free

-- ---- a field behind others

abbrev IsFree : List (List ℕ) → List ℕ → Type 0
IsFree before name = list_any (bytes_eq name) before ≡ false

free_if : {A : Type 0} (b : Bool) (r : Result A Fault) (x : A) → (refused_if b (double_name None) >>= λ distinct. r) ≡ Ok x → (b ≡ false) × (r ≡ Ok x)
free_if true r x e = absurd cc
free_if false r x e = (refl, e)

abbrev KeptField : ℕ → List (List ℕ) → Data → Column → Met → Met → Type 0
KeptField n before d c met after = KeptColumn n d c.name c met after × IsFree before c.name

field_keeps : (n : ℕ) (read : Reader) → Keeps n read → (before : List (List ℕ)) (d : Data) (c : Column) (met after : Met) → field_of read before d met ≡ Ok (c, after) → KeptField n before d c met after
unfolding field_of
field_keeps n read keeps before d c met after e =
    let rest : List ℕ → ColumnStep = λ name. refused_as (inside name) (refused_if (list_any (bytes_eq name) before) (double_name None) >>= λ distinct. column_of read name d met) in
    let a = bind_ok (needed as_str (codes "name") d) rest (c, after) e in
    let b = not_refused (inside a.0) (refused_if (list_any (bytes_eq a.0) before) (double_name None) >>= λ distinct. column_of read a.0 d met) (c, after) a.2 in
    let f = free_if (list_any (bytes_eq a.0) before) (column_of read a.0 d met) (c, after) b in
    let k : KeptColumn n d a.0 c met after = column_keeps n read keeps a.0 d c met after f.1 in
    subst (λ (name : List ℕ). KeptColumn n d name c met after × IsFree before name) (sym k.named) (k, f.0)

-- of the fields of a struct that were read behind those of these names
record KeptFields (n : ℕ) (before : List (List ℕ)) (items : Items) (cs : List Column) (met after : Met) : Type 0 where
  some : has_field (fields_of cs) ≡ has_item items
  deep : has_item items ≡ true → 0 < n
  sound : are_sound (fields_of cs) ≡ true
  apart : (name : List ℕ) → list_any (bytes_eq name) before ≡ true → is_named name (fields_of cs) ≡ false
  levels_fit : levels_of_fields (fields_of cs) ≤ n - 1
  nodes_add : after.nodes ≡ met.nodes + nodes_of_fields (fields_of cs)
  leaves_add : after.leaves ≡ met.leaves + leaf_count_of_fields (fields_of cs)
  nodes_fit : met.nodes ≤ 1024 → after.nodes ≤ 1024
  leaves_fit : met.leaves ≤ 256 → after.leaves ≤ 256
  nests : items_depth (items_of_fields (fields_of cs)) ≤ max (items_depth items) (3 * n + 1)

abbrev FieldsStep : Type 0
FieldsStep = Result (List Column × Met) Fault

fields_keep : (n : ℕ) (read : Reader) → Keeps n read → (before : List (List ℕ)) (items : Items) (cs : List Column) (met after : Met) → fields_behind read before items met ≡ Ok (cs, after) → KeptFields n before items cs met after
unfolding fields_behind
fields_keep n read keeps before no_items cs met after e =
    let none : List Column × Met = ([], met) in
    let all : List Column × Met = (cs, after) in
    let p : none ≡ all = ok_is {E = Fault} none all e in
    subst (λ (p : List Column × Met). KeptFields n before no_items p.0 met p.1) p (record {
      some = refl;
      deep = λ h. absurd cc;
      sound = refl;
      apart = λ name h. refl;
      levels_fit = omega arith;
      nodes_add = omega arith;
      leaves_add = omega arith;
      nodes_fit = λ h. h;
      leaves_fit = λ h. h;
      nests = omega arith;
    })
fields_keep n read keeps before (item d ds) cs met after e =
    let whole : Column × Met → List Column × Met → FieldsStep = λ first others. Ok (first.0 ∷ others.0, others.1) in
    let others : Column × Met → FieldsStep = λ first. fields_behind read (before ++ first.0.name ∷ []) ds first.1 >>= whole first in
    let a = bind_ok (field_of read before d met) others (cs, after) e in
    let names = before ++ a.0.0.name ∷ [] in
    let b = bind_ok (fields_behind read names ds a.0.1) (whole a.0) (cs, after) a.2 in
    let made : List Column × Met = (a.0.0 ∷ b.0.0, b.0.1) in
    let all : List Column × Met = (cs, after) in
    let p : made ≡ all = ok_is {E = Fault} made all b.2 in
    let f : KeptField n before d a.0.0 met a.0.1 = field_keeps n read keeps before d a.0.0 met a.0.1 a.1 in
    let k : KeptColumn n d a.0.0.name a.0.0 met a.0.1 = f.0 in
    let r : KeptFields n names ds b.0.0 a.0.1 b.0.1 = fields_keep n read keeps names ds b.0.0 a.0.1 b.0.1 b.1 in
    let free : is_named a.0.0.name (fields_of b.0.0) ≡ false = r.apart a.0.0.name (named_last a.0.0.name before) in
    subst (λ (p : List Column × Met). KeptFields n before (item d ds) p.0 met p.1) p (record {
      some = refl;
      deep = λ h. omega arith;
      sound = rw (free, k.is_object, k.sound, r.sound) refl;
      apart = λ name h. rw (differs name a.0.0.name before h f.1, r.apart name (still_named name before (a.0.0.name ∷ []) h)) refl;
      levels_fit = omega arith;
      nodes_add = omega arith;
      leaves_add = omega arith;
      nodes_fit = λ h. r.nodes_fit (k.nodes_fit h);
      leaves_fit = λ h. r.leaves_fit (k.leaves_fit h);
      nests = omega arith;
    })

some_if : (b : Bool) (r : FieldsStep) (x : List Column × Met) → (refused_if (not b) (no_fields None) >>= λ some. r) ≡ Ok x → (b ≡ true) × (r ≡ Ok x)
some_if true r x e = (refl, e)
some_if false r x e = absurd cc

pub struct_keeps : (n : ℕ) (read : Reader) → Keeps n read → (d : Data) (cs : List Column) (met after : Met) → struct_of read d met ≡ Ok (cs, after) → KeptInside n d (tree.struct (fields_of cs)) met after
unfolding struct_of
struct_keeps n read keeps d cs met after e =
    let rest : Items → FieldsStep = λ items. refused_if (not (has_item items)) (no_fields None) >>= λ some. fields_behind read [] items met in
    let a = bind_ok (needed as_array (codes "fields") d) rest (cs, after) e in
    let s = some_if (has_item a.0) (fields_behind read [] a.0 met) (cs, after) a.2 in
    let k : KeptFields n [] a.0 cs met after = fields_keep n read keeps [] a.0 cs met after s.1 in
    let below : suc (items_depth a.0) < depth d = items_below (codes "fields") d a.0 a.1 in
    let deep : 0 < n = k.deep s.0 in
    record {
      sound = rw (k.some, s.0, k.sound) refl;
      levels_fit = omega arith;
      nodes_add = omega arith;
      leaves_add = omega arith;
      nodes_fit = k.nodes_fit;
      leaves_fit = k.leaves_fit;
      nests = omega arith;
    }
