-- What is read keeps the limits: each type, and the type of a whole table.
use Rattle.std.proofs.Common.{◌≡◌, ℕ, zero, suc, ◌+◌, ◌≤◌, ◌<◌, List, Bool, true, false, cond, codes, bytes_eq, Option, Some, None, option_map, Result, Ok, Err, refl, subst, arith}
use Rattle.std.specs.Prelude.{is_some, not, nat_le}
use Rattle.std.proofs.lemmas.Bool.Decides.{nat_tests}
use Rattle.serde_json.specs.Data.{Data, null, boolean, number, string, array, object, depth}
use Rattle.serde_json.specs.Find.{as_str}
use Rattle.serde_json.specs.Read.{max_depth, read}
use Rattle.serde_json.proofs.Nesting.{depth-read}
use Rattle.outcomes.specs.Results.{◌>>=◌, or_refusal, refused_if}
use Rattle.json_fields.proofs.Callers.{bind_ok, ok_is}
use Rattle.schema_tree.specs.Limits.{nodes, IsWithinLimits}
use Rattle.schema_tree.specs.Primitives.{primitive_of}
use Rattle.schema_tree.specs.Fault.{Fault, bad_type, too_many}
use Rattle.schema_tree.specs.Reading.{Met, needed, Reader, array_of, map_of, struct_of, nested_of, object_of, content_of, node_of, leaf_of, counted, none_met, root_of, schema_of, if_json}
use Rattle.schema_tree.specs.Tree as tree
use Rattle.schema_tree.specs.Tree.{Tree, Column, fields_of}
use Rattle.schema_tree.specs.declared.primitive.Primitive.{Primitive}
use Rattle.schema_tree.proofs.ReadPrimitives.{named_allowed}
use Rattle.schema_tree.proofs.ReadLimits.{Kept, Keeps, KeptInside, Step, array_keeps, map_keeps}
use Rattle.schema_tree.proofs.ReadTrees.{struct_keeps}

-- ---- objects

abbrev table : List Column × Met → Step
table columns = Ok (tree.struct (fields_of columns.0), columns.1)

nested_keeps_if : (b1 b2 b3 : Bool) (n : ℕ) (read : Reader) → Keeps n read → (d : Data) (t : Tree) (met after : Met)
    → cond b1 (struct_of read d met >>= table) (cond b2 (array_of read d met) (cond b3 (map_of read d met) (Err (bad_type None)))) ≡ Ok (t, after) → KeptInside n d t met after
nested_keeps_if true b2 b3 n read keeps d t met after e =
    let a = bind_ok (struct_of read d met) table (t, after) e in
    let p : (tree.struct (fields_of a.0.0), a.0.1) ≡ (t, after) = ok_is {E = Fault} (tree.struct (fields_of a.0.0), a.0.1) (t, after) a.2 in
    subst (λ (p : Tree × Met). KeptInside n d p.0 met p.1) p (struct_keeps n read keeps d a.0.0 met a.0.1 a.1)
nested_keeps_if false true b3 n read keeps d t met after e = array_keeps n read keeps d t met after e
nested_keeps_if false false true n read keeps d t met after e = map_keeps n read keeps d t met after e
nested_keeps_if false false false n read keeps d t met after e = absurd cc

object_keeps : (n : ℕ) (read : Reader) → Keeps n read → (d : Data) (t : Tree) (met after : Met) → object_of read d met ≡ Ok (t, after) → KeptInside n d t met after
unfolding object_of nested_of
object_keeps n read keeps d t met after e =
    let nested : List ℕ → Step = λ kind. nested_of read kind d met in
    let a = bind_ok (needed as_str (codes "type") d) nested (t, after) e in
    nested_keeps_if (bytes_eq a.0 (codes "struct")) (bytes_eq a.0 (codes "array")) (bytes_eq a.0 (codes "map")) n read keeps d t met after a.2

-- ---- counts

-- one more type, and maybe one more leaf
record IsCounted (d : Data) (met after : Met) : Type 0 where
  nodes_fit : after.nodes ≤ 1024
  nodes_add : after.nodes ≡ met.nodes + 1
  leaves_add : after.leaves ≡ met.leaves + cond (is_some (as_str d)) 1 0
  leaves_fit : met.leaves ≤ 256 → after.leaves ≤ 256

below : (most n : ℕ) → nat_le most n ≡ false → n < most
below most n h = grind (arith, nat_tests)

counted_if : (nodes leaves : ℕ) (many text full : Bool) (after : Met) → nat_le 1024 nodes ≡ many → nat_le 256 leaves ≡ full
    → cond many (Err too_many) (cond text (cond full (Err too_many) (Ok (record { nodes = nodes + 1; leaves = leaves + 1 }))) (Ok (record { nodes = nodes + 1; leaves = leaves }))) ≡ Ok after
    → (after.nodes ≤ 1024) × (after.nodes ≡ nodes + 1) × (after.leaves ≡ leaves + cond text 1 0) × (leaves ≤ 256 → after.leaves ≤ 256)
counted_if nodes leaves true text full after is_many is_full e = absurd cc
counted_if nodes leaves false true true after is_many is_full e = absurd cc
counted_if nodes leaves false true false after is_many is_full e =
    let made : Met = record { nodes = nodes + 1; leaves = leaves + 1 } in
    let p : made ≡ after = ok_is {E = Fault} made after e in
    let few : nodes < 1024 = below 1024 nodes is_many in
    let little : leaves < 256 = below 256 leaves is_full in
    subst (λ (c : Met). (c.nodes ≤ 1024) × (c.nodes ≡ nodes + 1) × (c.leaves ≡ leaves + 1) × (leaves ≤ 256 → c.leaves ≤ 256)) p (omega arith, refl, refl, λ h. omega arith)
counted_if nodes leaves false false full after is_many is_full e =
    let made : Met = record { nodes = nodes + 1; leaves = leaves } in
    let p : made ≡ after = ok_is {E = Fault} made after e in
    let few : nodes < 1024 = below 1024 nodes is_many in
    subst (λ (c : Met). (c.nodes ≤ 1024) × (c.nodes ≡ nodes + 1) × (c.leaves ≡ leaves + 0) × (leaves ≤ 256 → c.leaves ≤ 256)) p (omega arith, refl, omega arith, λ h. h)

counted_is : (d : Data) (met after : Met) → counted d met ≡ Ok after → IsCounted d met after
unfolding counted
counted_is d met after e =
    let p = counted_if met.nodes met.leaves (nat_le 1024 met.nodes) (is_some (as_str d)) (nat_le 256 met.leaves) after refl refl e in
    record { nodes_fit = p.0; nodes_add = p.1; leaves_add = p.2; leaves_fit = p.3 }

-- ---- types

abbrev pair : Tree → Met → Tree × Met
pair t met = (t, met)

abbrev beside : Met → Tree → Step
beside met t = Ok (t, met)

leaf_if : (o : Option Primitive) (met : Met) (t : Tree) (after : Met) → (or_refusal (option_map tree.leaf o) (bad_type None) >>= beside met) ≡ Ok (t, after) → (p : Primitive) × (o ≡ Some p) × (pair (tree.leaf p) met ≡ pair t after)
leaf_if None met t after e = absurd cc
leaf_if (Some p) met t after e = (p, refl, ok_is {E = Fault} (tree.leaf p, met) (t, after) e)

leaf_keeps : (n : ℕ) (name : List ℕ) (t : Tree) (met between after : Met) → IsCounted (string name) met between → (leaf_of name >>= beside between) ≡ Ok (t, after) → Kept (suc n) (string name) t met after
leaf_keeps n name t met between after c e =
    let l = leaf_if (primitive_of name) between t after e in
    let nodes_add = c.nodes_add in
    let leaves_add : between.leaves ≡ met.leaves + 1 = c.leaves_add in
    subst (λ (p : Tree × Met). Kept (suc n) (string name) p.0 met p.1) l.2 (record {
      sound = named_allowed name l.0 l.1;
      levels_fit = omega arith;
      nodes_add = c.nodes_add;
      leaves_add = c.leaves_add;
      nodes_fit = λ h. c.nodes_fit;
      leaves_fit = c.leaves_fit;
      nests = omega arith;
    })

content_keeps : (n : ℕ) (read : Reader) → Keeps n read → (d : Data) (t : Tree) (met between after : Met) → IsCounted d met between → content_of read d between ≡ Ok (t, after) → Kept (suc n) d t met after
unfolding content_of
content_keeps n read keeps null t met between after c e = absurd cc
content_keeps n read keeps (boolean b) t met between after c e = absurd cc
content_keeps n read keeps (number k) t met between after c e = absurd cc
content_keeps n read keeps (string name) t met between after c e = leaf_keeps n name t met between after c e
content_keeps n read keeps (array ds) t met between after c e = absurd cc
content_keeps n read keeps (object ms) t met between after c e =
    let k : KeptInside n (object ms) t between after = object_keeps n read keeps (object ms) t between after e in
    let nodes_add : between.nodes ≡ met.nodes + 1 = c.nodes_add in
    let leaves_add : between.leaves ≡ met.leaves + 0 = c.leaves_add in
    let nodes_fit : between.nodes ≤ 1024 = c.nodes_fit in
    record {
      sound = k.sound;
      levels_fit = omega arith;
      nodes_add = omega arith;
      leaves_add = omega arith;
      nodes_fit = λ h. k.nodes_fit nodes_fit;
      leaves_fit = λ h. k.leaves_fit (c.leaves_fit h);
      nests = omega arith;
    }

node_keeps : (n : ℕ) → Keeps n (node_of n)
unfolding node_of
node_keeps zero d t met after e = absurd cc
node_keeps (suc n) d t met after e =
    let a = bind_ok (counted d met) (content_of (node_of n) d) (t, after) e in
    content_keeps n (node_of n) (node_keeps n) d t met a.0 after (counted_is d met a.0 a.1) a.2

-- ---- the type of a whole table

abbrev whole : List Column × Met → Result Tree Fault
whole columns = Ok (tree.struct (fields_of columns.0))

unless : (b : Bool) (r : Result Tree Fault) (t : Tree) → (refused_if b (bad_type None) >>= λ struct. r) ≡ Ok t → r ≡ Ok t
unless true r t e = absurd cc
unless false r t e = e

pub root_keeps : (d : Data) (t : Tree) → depth d ≤ max_depth → root_of d ≡ Ok t → IsWithinLimits t
unfolding root_of
root_keeps d t shallow e =
    let columns : Met → Result Tree Fault = λ met. struct_of (node_of 16) d met >>= whole in
    let kinds : Met → List ℕ → Result Tree Fault = λ met kind. refused_if (not (bytes_eq kind (codes "struct"))) (bad_type None) >>= λ struct. columns met in
    let rest : Met → Result Tree Fault = λ met. needed as_str (codes "type") d >>= kinds met in
    let a = bind_ok (counted d none_met) rest t e in
    let b = bind_ok (needed as_str (codes "type") d) (kinds a.0) t a.2 in
    let f = bind_ok (struct_of (node_of 16) d a.0) whole t (unless (not (bytes_eq b.0 (codes "struct"))) (columns a.0) t b.2) in
    let p : tree.struct (fields_of f.0.0) ≡ t = ok_is {E = Fault} (tree.struct (fields_of f.0.0)) t f.2 in
    let c : IsCounted d none_met a.0 = counted_is d none_met a.0 a.1 in
    let k : KeptInside 16 d (tree.struct (fields_of f.0.0)) a.0 f.0.1 = struct_keeps 16 (node_of 16) (node_keeps 16) d f.0.0 a.0 f.0.1 f.1 in
    let nodes_fit : f.0.1.nodes ≤ 1024 = k.nodes_fit c.nodes_fit in
    let nodes_add : a.0.nodes ≡ 0 + 1 = c.nodes_add in
    let leaves_fit : f.0.1.leaves ≤ 256 = k.leaves_fit (c.leaves_fit (omega arith)) in
    subst IsWithinLimits p (record {
      sound = k.sound;
      levels_fit = k.levels_fit;
      nodes_fit = omega arith;
      leaves_fit = omega arith;
      nests = omega arith;
    })

if_json_keeps : (text : List ℕ) (o : Option Data) (t : Tree) → read text ≡ o → if_json o ≡ Ok t → IsWithinLimits t
if_json_keeps text None t is e = absurd cc
if_json_keeps text (Some d) t is e = root_keeps d t (depth-read text d is) e

pub schema_keeps : (text : List ℕ) (t : Tree) → schema_of text ≡ Ok t → IsWithinLimits t
unfolding schema_of
schema_keeps text t e = if_json_keeps text (read text) t refl e
