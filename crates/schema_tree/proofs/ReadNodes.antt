-- A type that was read, level by level.
use Rattle.std.proofs.Common.{◌≡◌, ℕ, zero, suc, ◌≤◌, ◌<◌, length, get_or, arith, List, [], ◌∷◌, ◌++◌, map, Bool, true, codes, None, Result, Ok, Err, Box, Global, refl, sym, ap, ◌∙◌, rules}
use Rattle.std.proofs.lemmas.List.{map_push, append-nil}
use Rattle.serde_json.specs.Data.{Data, string, object, Members, depth, items_depth}
use Rattle.serde_json.specs.Find.{as_bool, as_array}
use Rattle.serde_json.specs.View.{items_view}
use Rattle.serde_json.specs.View.{view as value_view}
use Rattle.serde_json.specs.declared.value.Value.{Value}
use Rattle.outcomes.specs.Outcome.{IsSaid, Gives}
use Rattle.outcomes.proofs.Callers.{with_front_beside, regroup_beside}
use Rattle.schema_tree.specs.Tree as tree
use Rattle.schema_tree.specs.Tree.{Tree, Column, fields_of}
use Rattle.schema_tree.specs.View.{view}
use Rattle.schema_tree.specs.Fault.{Fault, says, fault_of, no_fields}
use Rattle.schema_tree.specs.Internal.{met_of, Reads}
use Rattle.schema_tree.specs.declared.counts.Counts.{Counts}
use Rattle.schema_tree.specs.Reading.{Met, needed, defaulted, Reader, any_value, array_of, map_of, struct_of, field_of, fields_behind, node_of, content_of, object_of, leaf_of, counted}
use Rattle.schema_tree.specs.declared.fault.ReadError.{ReadError}
use Rattle.schema_tree.specs.declared.fault.ReadError.TheVariants as errors
use Rattle.schema_tree.specs.declared.node.Node.{Node, the_lemmas}
use Rattle.schema_tree.specs.declared.node.Node as nodes

pub view-Array : (element : Box (Node Global) Global) (nullable : Bool) → view (nodes.Array element nullable) ≡ tree.array (view element.value) nullable
view-Array element nullable = search (rules, the_lemmas)

pub view-Map : (key value : Box (Node Global) Global) (nullable : Bool) → view (nodes.Map key value nullable) ≡ tree.map (view key.value) (view value.value) nullable
view-Map key value nullable = search (rules, the_lemmas)

pub array_is : (read : Reader) (d : Data) (met : Met) (nullable : Bool) (type : Data) (element : Tree) (after : Met) → defaulted as_bool (codes "containsNull") true d ≡ Ok nullable → needed any_value (codes "elementType") d ≡ Ok type
    → read type met ≡ Ok (element, after) → array_of read d met ≡ Ok (tree.array element nullable, after)
unfolding array_of
array_is read d met nullable type element after h1 h2 h3 = rw (h1, h2, h3) refl

pub map_is : (read : Reader) (d : Data) (met : Met) (nullable : Bool) (key_type value_type : Data) (key value : Tree) (between after : Met) → defaulted as_bool (codes "valueContainsNull") true d ≡ Ok nullable
    → needed any_value (codes "keyType") d ≡ Ok key_type → needed any_value (codes "valueType") d ≡ Ok value_type
    → read key_type met ≡ Ok (key, between) → read value_type between ≡ Ok (value, after) → map_of read d met ≡ Ok (tree.map key value nullable, after)
unfolding map_of
map_is read d met nullable key_type value_type key value between after h1 h2 h3 h4 h5 = rw (h1, h2, h3, h4, h5) refl

-- ---- a type that was counted

node_counted : (n : ℕ) (d : Data) (met after : Met) → counted d met ≡ Ok after → node_of (suc n) d met ≡ content_of (node_of n) d after
unfolding node_of
node_counted n d met after h = rw h refl

string_content : (read : Reader) (name : List ℕ) (met : Counts) (r : Result (Node Global) ReadError) → Gives says view r (leaf_of name) → Reads view (content_of read (string name) (met_of met)) r met
unfolding content_of
string_content read name met (Ok x) h = rw h refl
string_content read name met (Err errors.Memory) h = tt
string_content read name met (Err (errors.Fault f)) h = rw h refl

pub string_node : (below n : ℕ) (d : Data) (name : List ℕ) (met : Met) (after : Counts) (r : Result (Node Global) ReadError) → below ≡ suc n → d ≡ string name → counted d met ≡ Ok (met_of after) → Gives says view r (leaf_of name) → Reads view (node_of below d met) r after
string_node below n d name met after r k is h given = rw (k, node_counted n d met (met_of after) h, is) (string_content (node_of n) name after r given)

object_content : (read : Reader) (d : Data) (ms : Members) (met : Met) → d ≡ object ms → content_of read d met ≡ object_of read d met
unfolding content_of
object_content read d ms met is = rw is refl

pub object_node : (below n : ℕ) (d : Data) (ms : Members) (met after : Met) → below ≡ suc n → d ≡ object ms → counted d met ≡ Ok after → node_of below d met ≡ object_of (node_of n) d after
object_node below n d ms met after k is h = rw k (node_counted n d met after h ∙ object_content (node_of n) d ms after is)

-- ---- structs

pub struct_is : (read : Reader) (d : Data) (met : Met) (vs : List Value) → needed as_array (codes "fields") d ≡ Ok (items_view vs) → 0 < length vs → struct_of read d met ≡ fields_behind read [] (items_view vs) met
unfolding struct_of
struct_is read d met [] h some = absurd (omega arith)
struct_is read d met (v ∷ vs) h some = rw h refl

pub struct_is_empty : (read : Reader) (d : Data) (met : Met) (vs : List Value) → needed as_array (codes "fields") d ≡ Ok (items_view vs) → length vs ≡ 0 → struct_of read d met ≡ Err (no_fields None)
unfolding struct_of
struct_is_empty read d met [] h none = rw h refl
struct_is_empty read d met (v ∷ vs) h none = absurd (omega arith)

pub struct_fails : (read : Reader) (d : Data) (met : Met) (e : Fault) → needed as_array (codes "fields") d ≡ Err e → struct_of read d met ≡ Err e
unfolding struct_of
struct_fails read d met e h = rw h refl

-- ---- fields, one after another

names_push : (front : List Column) (x : Column) → map (λ c. c.name) (front ++ x ∷ []) ≡ map (λ c. c.name) front ++ x.name ∷ []
names_push front x = map_push (λ c. c.name) front x

abbrev Fields_result : Type 0
Fields_result = Result (List Column × Met) Fault

pub goes_on : (read : Reader) (front : List Column) (left after : List Value) (v : Value) (met next : Met) (x : Column) (total : Fields_result) → left ≡ v ∷ after → field_of read (map (λ c. c.name) front) (value_view v) met ≡ Ok (x, next)
    → with_front_beside front (fields_behind read (map (λ c. c.name) front) (items_view left) met) ≡ total → with_front_beside (front ++ x ∷ []) (fields_behind read (map (λ c. c.name) (front ++ x ∷ [])) (items_view after) next) ≡ total
unfolding fields_behind
goes_on read front left after v met next x total is h so_far =
    let one : with_front_beside front (fields_behind read (map (λ c. c.name) front) (items_view left) met) ≡ with_front_beside (front ++ x ∷ []) (fields_behind read (map (λ c. c.name) front ++ x.name ∷ []) (items_view after) next) =
    rw (is, h) (regroup_beside front (x ∷ []) (fields_behind read (map (λ c. c.name) front ++ x.name ∷ []) (items_view after) next)) in
    rw (names_push front x) (sym one ∙ so_far)

pub ends : (read : Reader) (front : List Column) (left after : List Value) (v : Value) (met : Met) (e : ReadError) (total : Fields_result) → left ≡ v ∷ after → IsSaid (says e) (field_of read (map (λ c. c.name) front) (value_view v) met)
    → with_front_beside front (fields_behind read (map (λ c. c.name) front) (items_view left) met) ≡ total → IsSaid (says e) total
unfolding fields_behind
ends read front left after v met errors.Memory total is h so_far = tt
ends read front left after v met (errors.Fault f) total is h so_far =
    let one : with_front_beside front (fields_behind read (map (λ c. c.name) front) (items_view left) met) ≡ Err (fault_of f) = rw (is, h) refl in
    sym so_far ∙ one

pub is_done : (read : Reader) (front : List Column) (left : List Value) (met : Met) (total : Fields_result) → left ≡ [] → with_front_beside front (fields_behind read (map (λ c. c.name) front) (items_view left) met) ≡ total → total ≡ Ok (front, met)
unfolding fields_behind
is_done read front left met total is so_far =
    let one : with_front_beside front (fields_behind read (map (λ c. c.name) front) (items_view left) met) ≡ Ok (front, met) = rw is (ap (λ (cs : List Column). Ok (cs, met)) (append-nil front)) in
    sym so_far ∙ one

pub item_depth : (vs : List Value) (i : ℕ) (v : Value) → i < length vs → depth (value_view (get_or vs i v)) ≤ items_depth (items_view vs)
item_depth [] i v lt = absurd (omega arith)
item_depth (x ∷ vs) zero v lt = omega arith
item_depth (x ∷ vs) (suc i) v lt = let inside = item_depth vs i v (omega arith) in omega arith
