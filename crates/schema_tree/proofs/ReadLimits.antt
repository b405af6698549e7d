-- What is read keeps the limits, type by type.
use Rattle.std.proofs.Common.{◌≡◌, ℕ, ◌+◌, ◌*◌, ◌≤◌, ◌<◌, max, List, Bool, true, codes, Result, Ok, refl, subst, arith}
use Rattle.serde_json.specs.Data.{Data, object, no_members, depth}
use Rattle.outcomes.specs.Results.{◌>>=◌}
use Rattle.json_fields.proofs.Callers.{bind_ok, ok_is}
use Rattle.std.specs.Prelude.{is_some}
use Rattle.serde_json.specs.Find.{as_bool, as_object}
use Rattle.schema_tree.specs.Limits.{levels, nodes, leaf_count, is_sound}
use Rattle.schema_tree.specs.Printing.{data_of, field_data}
use Rattle.schema_tree.specs.Fault.{Fault}
use Rattle.schema_tree.specs.Reading.{Met, needed, defaulted, Reader, any_value, as_map, array_of, map_of, column_of}
use Rattle.schema_tree.specs.Tree as tree
use Rattle.schema_tree.specs.Tree.{Tree, Column, fields_of}
use Rattle.schema_tree.proofs.ReadSteps.{type_below, metadata_inner, IsInnerObject}

-- of a type that was read where n levels may stand, behind so many types
pub record Kept (n : ℕ) (d : Data) (t : Tree) (met after : Met) : Type 0 where
  pub sound : is_sound t ≡ true
  pub levels_fit : levels t < n
  pub nodes_add : after.nodes ≡ met.nodes + nodes t
  pub leaves_add : after.leaves ≡ met.leaves + leaf_count t
  pub nodes_fit : met.nodes ≤ 1024 → after.nodes ≤ 1024
  pub leaves_fit : met.leaves ≤ 256 → after.leaves ≤ 256
  pub nests : depth (data_of t) ≤ max (depth d) (3 * n)

abbrev pub Keeps : ℕ → Reader → Type 0
Keeps n read = (d : Data) (t : Tree) (met after : Met) → read d met ≡ Ok (t, after) → Kept n d t met after

-- the same of a type that is no leaf and was counted before
pub record KeptInside (n : ℕ) (d : Data) (t : Tree) (met after : Met) : Type 0 where
  pub sound : is_sound t ≡ true
  pub levels_fit : levels t ≤ n
  pub nodes_add : after.nodes + 1 ≡ met.nodes + nodes t
  pub leaves_add : after.leaves ≡ met.leaves + leaf_count t
  pub nodes_fit : met.nodes ≤ 1024 → after.nodes ≤ 1024
  pub leaves_fit : met.leaves ≤ 256 → after.leaves ≤ 256
  pub nests : depth (data_of t) ≤ max (depth d) (3 * n + 3)

abbrev pub Step : Type 0
Step = Result (Tree × Met) Fault

pub array_keeps : (n : ℕ) (read : Reader) → Keeps n read → (d : Data) (t : Tree) (met after : Met) → array_of read d met ≡ Ok (t, after) → KeptInside n d t met after
unfolding array_of
array_keeps n read keeps d t met after e =
    let whole : Bool → Tree × Met → Step = λ nullable element. Ok (tree.array element.0 nullable, element.1) in
    let element : Bool → Data → Step = λ nullable type. read type met >>= whole nullable in
    let type : Bool → Step = λ nullable. needed any_value (codes "elementType") d >>= element nullable in
    let a = bind_ok (defaulted as_bool (codes "containsNull") true d) type (t, after) e in
    let b = bind_ok (needed any_value (codes "elementType") d) (element a.0) (t, after) a.2 in
    let c = bind_ok (read b.0 met) (whole a.0) (t, after) b.2 in
    let p : (tree.array c.0.0 a.0, c.0.1) ≡ (t, after) = ok_is {E = Fault} (tree.array c.0.0 a.0, c.0.1) (t, after) c.2 in
    let k : Kept n b.0 c.0.0 met c.0.1 = keeps b.0 c.0.0 met c.0.1 c.1 in
    let below : depth b.0 < depth d = type_below (codes "elementType") d b.0 b.1 in
    subst (λ (p : Tree × Met). KeptInside n d p.0 met p.1) p (record {
      sound = k.sound;
      levels_fit = omega arith;
      nodes_add = omega arith;
      leaves_add = omega arith;
      nodes_fit = k.nodes_fit;
      leaves_fit = k.leaves_fit;
      nests = omega arith;
    })

pub map_keeps : (n : ℕ) (read : Reader) → Keeps n read → (d : Data) (t : Tree) (met after : Met) → map_of read d met ≡ Ok (t, after) → KeptInside n d t met after
unfolding map_of
map_keeps n read keeps d t met after e =
    let whole : Bool → Tree × Met → Tree × Met → Step = λ nullable key value. Ok (tree.map key.0 value.0 nullable, value.1) in
    let value : Bool → Data → Tree × Met → Step = λ nullable value_type key. read value_type key.1 >>= whole nullable key in
    let key : Bool → Data → Data → Step = λ nullable key_type value_type. read key_type met >>= value nullable value_type in
    let value_type : Bool → Data → Step = λ nullable key_type. needed any_value (codes "valueType") d >>= key nullable key_type in
    let key_type : Bool → Step = λ nullable. needed any_value (codes "keyType") d >>= value_type nullable in
    let a = bind_ok (defaulted as_bool (codes "valueContainsNull") true d) key_type (t, after) e in
    let kt = bind_ok (needed any_value (codes "keyType") d) (value_type a.0) (t, after) a.2 in
    let vt = bind_ok (needed any_value (codes "valueType") d) (key a.0 kt.0) (t, after) kt.2 in
    let k = bind_ok (read kt.0 met) (value a.0 vt.0) (t, after) vt.2 in
    let v = bind_ok (read vt.0 k.0.1) (whole a.0 k.0) (t, after) k.2 in
    let p : (tree.map k.0.0 v.0.0 a.0, v.0.1) ≡ (t, after) = ok_is {E = Fault} (tree.map k.0.0 v.0.0 a.0, v.0.1) (t, after) v.2 in
    let kept_key : Kept n kt.0 k.0.0 met k.0.1 = keeps kt.0 k.0.0 met k.0.1 k.1 in
    let kept_value : Kept n vt.0 v.0.0 k.0.1 v.0.1 = keeps vt.0 v.0.0 k.0.1 v.0.1 v.1 in
    let key_below : depth kt.0 < depth d = type_below (codes "keyType") d kt.0 kt.1 in
    let value_below : depth vt.0 < depth d = type_below (codes "valueType") d vt.0 vt.1 in
    subst (λ (p : Tree × Met). KeptInside n d p.0 met p.1) p (record {
      sound = rw (kept_key.sound, kept_value.sound) refl;
      levels_fit = omega arith;
      nodes_add = omega arith;
      leaves_add = omega arith;
      nodes_fit = λ h. kept_value.nodes_fit (kept_key.nodes_fit h);
      leaves_fit = λ h. kept_value.leaves_fit (kept_key.leaves_fit h);
      nests = omega arith;
    })

-- ---- fields

-- of a field that was read
pub record KeptColumn (n : ℕ) (d : Data) (name : List ℕ) (c : Column) (met after : Met) : Type 0 where
  pub named : c.name ≡ name
  pub sound : is_sound c.data_type ≡ true
  pub is_object : is_some (as_object c.metadata) ≡ true
  pub levels_fit : levels c.data_type < n
  pub nodes_add : after.nodes ≡ met.nodes + nodes c.data_type
  pub leaves_add : after.leaves ≡ met.leaves + leaf_count c.data_type
  pub nodes_fit : met.nodes ≤ 1024 → after.nodes ≤ 1024
  pub leaves_fit : met.leaves ≤ 256 → after.leaves ≤ 256
  pub nests : depth (field_data c.name (data_of c.data_type) c.nullable c.metadata) ≤ max (depth d) (3 * n + 1)

abbrev pub ColumnStep : Type 0
ColumnStep = Result (Column × Met) Fault

pub column_keeps : (n : ℕ) (read : Reader) → Keeps n read → (name : List ℕ) (d : Data) (c : Column) (met after : Met) → column_of read name d met ≡ Ok (c, after) → KeptColumn n d name c met after
unfolding column_of
column_keeps n read keeps name d column met after e =
    let whole : Bool → Data → Tree × Met → ColumnStep = λ nullable metadata inner. Ok (record { name = name; data_type = inner.0; nullable = nullable; metadata = metadata }, inner.1) in
    let inner : Bool → Data → Data → ColumnStep = λ nullable metadata type. read type met >>= whole nullable metadata in
    let type : Bool → Data → ColumnStep = λ nullable metadata. needed any_value (codes "type") d >>= inner nullable metadata in
    let metadata : Bool → ColumnStep = λ nullable. defaulted as_map (codes "metadata") (object no_members) d >>= type nullable in
    let a = bind_ok (defaulted as_bool (codes "nullable") true d) metadata (column, after) e in
    let m = bind_ok (defaulted as_map (codes "metadata") (object no_members) d) (type a.0) (column, after) a.2 in
    let b = bind_ok (needed any_value (codes "type") d) (inner a.0 m.0) (column, after) m.2 in
    let c = bind_ok (read b.0 met) (whole a.0 m.0) (column, after) b.2 in
    let made : Column = record { name = name; data_type = c.0.0; nullable = a.0; metadata = m.0 } in
    let p : (made, c.0.1) ≡ (column, after) = ok_is {E = Fault} (made, c.0.1) (column, after) c.2 in
    let k : Kept n b.0 c.0.0 met c.0.1 = keeps b.0 c.0.0 met c.0.1 c.1 in
    let below : depth b.0 < depth d = type_below (codes "type") d b.0 b.1 in
    let kept_map : IsInnerObject d m.0 = metadata_inner (codes "metadata") d m.0 m.1 in
    subst (λ (p : Column × Met). KeptColumn n d name p.0 met p.1) p (record {
      named = refl;
      sound = k.sound;
      is_object = kept_map.is_object;
      levels_fit = k.levels_fit;
      nodes_add = k.nodes_add;
      leaves_add = k.leaves_add;
      nodes_fit = k.nodes_fit;
      leaves_fit = k.leaves_fit;
      nests = omega arith;
    })
