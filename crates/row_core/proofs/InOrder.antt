-- An object whose members stand in the order of a struct's fields.
use Rattle.std.proofs.Common.{◌≡◌, ℕ, zero, suc, ◌+◌, ◌<◌, ◌≤◌, List, [], ◌∷◌, ◌||◌, true, false, bytes_eq, length, map, get_or, drop, Some, None, Vec, Global, Bor, IsTrue, refl, ap, sym, ◌∙◌, arith, rules}
use Rattle.std.specs.Prelude.{not, is_some, unwrap_or, ◌↔◌}
use Rattle.std.proofs.lemmas.Bool.{false≢true}
use Rattle.std.proofs.lemmas.List.{length-map}
use Rattle.std.proofs.lemmas.Slice.Eq.{bytes_eq-Decides}
use Rattle.serde_json.specs.Data.{null, object, Members, no_members, put}
use Rattle.serde_json.specs.Find.{get_member, as_object}
use Rattle.serde_json.proofs.Views.{get_member-put, get_member-put_other}
use Rattle.json_text.specs.View.{view, members_onto, members_view}
use Rattle.json_text.specs.declared.value.Value.{Value, Object, the_lemmas}
use Rattle.schema_tree.specs.Limits.{is_named, is_sound, are_sound}
use Rattle.schema_tree.specs.Tree.{Fields, Column, fields_of}
use Rattle.schema_tree.specs.View.{field_view, field_views}
use Rattle.schema_tree.specs.declared.node.Field.{Field}
use Rattle.row_core.specs.InOrder.{field_names, member_names}
use Rattle.row_core.specs.Reading.{under, unknown_name}
use Rattle.row_core.proofs.ConformsReads.{other_name, one_known}
use Rattle.row_core.proofs.Fields.{next_seen, none_seen}
use Rattle.row_core.proofs.Truths.{all_four, neither, not_true, or_true}

-- a name and the value that stands there
abbrev pub Member : Type 0
Member = Bor (List ℕ) × Value

-- the members, each put in turn
abbrev put_all : List Member → Members → Members
put_all ms found = members_onto (map (λ m. (m.0, view m.1)) ms) found

-- ---- names one after another

-- no test holds where the names differ
pub not_same : {P : Type 0} → (P → ⊥) → IsTrue false ↔ P
not_same none = (λ e. absurd (false≢true e), λ p. absurd (none p))

pub as_many : {A : Type 0} → (fs : List (Field A)) (ms : List Member) → member_names ms ≡ field_names (field_views fs) → length ms ≡ length fs
as_many fs ms e = sym (length-map ms (λ m. m.0.now)) ∙ (ap length e ∙ (length-map (field_views fs) (λ c. c.name) ∙ length-map fs field_view))

pub next_name : {A : Type 0} → (fs : List (Field A)) (i : ℕ) (f : Field A) → i < length fs → f ≡ get_or fs i f → field_names (field_views (drop i fs)) ≡ (field_view f).name ∷ field_names (field_views (drop (i + 1) fs))
next_name fs i f h at = ap field_names (next_seen field_view fs i f h at)

-- no names are left on either side
pub none_left : {A : Type 0} → (fs : List (Field A)) (ms : List Member) (i : ℕ) → length fs ≤ i → length ms ≤ i → member_names (drop i ms) ≡ field_names (field_views (drop i fs))
none_left fs ms i h k = none_seen (λ m. m.0.now) ms i k ∙ sym (ap field_names (none_seen field_view fs i h))

-- where two names are the same, those behind them decide
pub next_same : (xs more ys others : List (List ℕ)) (x y : List ℕ) → xs ≡ x ∷ more → ys ≡ y ∷ others → x ≡ y → (xs ≡ ys) ↔ (more ≡ others)
next_same xs more ys others x y first head same = (
  λ e. let both : x ∷ more ≡ y ∷ others = cc in cc,
  λ e. cc,
)

pub next_differs : (xs more ys others : List (List ℕ)) (x y : List ℕ) → xs ≡ x ∷ more → ys ≡ y ∷ others → (x ≡ y → ⊥) → xs ≡ ys → ⊥
next_differs xs more ys others x y first head differ e =
    let both : x ∷ more ≡ y ∷ others = cc in
    let same : x ≡ y = cc in
    differ same

-- ---- what was put is found

-- a name that none of the members has keeps its value
kept : (k : List ℕ) (cs : List Column) (ms : List Member) (found : Members) → member_names ms ≡ field_names cs → is_named k (fields_of cs) ≡ false → get_member k (put_all ms found) ≡ get_member k found
kept k [] [] found same none = refl
kept k [] (m ∷ ms) found same none = absurd cc
kept k (c ∷ cs) [] found same none = absurd cc
kept k (c ∷ cs) (m ∷ ms) found same none =
    let name : m.0.now ≡ c.name = cc in
    let others : member_names ms ≡ field_names cs = cc in
    let p = neither (bytes_eq k c.name) (is_named k (fields_of cs)) none in
    kept k cs ms (put m.0.now (view m.1) found) others p.1 ∙ get_member-put_other k m.0.now (view m.1) found (λ h. other_name k c.name p.0 (h ∙ name))

-- under the name of each field stands the value of the member at its place
found_onto : {A : Type 0} → (fs : List (Field A)) (ms : List Member) (i : ℕ) (f : Field A) (m : Member) (found : Members)
    → i < length fs → f ≡ get_or fs i f → are_sound (fields_of (field_views fs)) ≡ true → member_names ms ≡ field_names (field_views fs)
    → get_member (field_view f).name (put_all ms found) ≡ Some (view (get_or ms i m).1)
found_onto [] ms i f m found h at sound same = absurd (omega arith)
found_onto (g ∷ fs) [] i f m found h at sound same = absurd cc
found_onto (g ∷ fs) (n ∷ ms) zero f m found h at sound same =
    let c = field_view g in
    let rest = fields_of (field_views fs) in
    let name : n.0.now ≡ c.name = cc in
    let others : member_names ms ≡ field_names (field_views fs) = cc in
    let p = all_four (not (is_named c.name rest)) (is_some (as_object c.metadata)) (is_sound c.data_type) (are_sound rest) sound in
    let here = kept c.name (field_views fs) ms (put n.0.now (view n.1) found) others (not_true (is_named c.name rest) p.0) in
    let put_here = ap (λ k. get_member k (put n.0.now (view n.1) found)) (sym name) ∙ get_member-put n.0.now (view n.1) found in
    ap (λ x. get_member (field_view x).name (put_all (n ∷ ms) found)) at ∙ (here ∙ put_here)
found_onto (g ∷ fs) (n ∷ ms) (suc i) f m found h at sound same =
    let c = field_view g in
    let rest = fields_of (field_views fs) in
    let others : member_names ms ≡ field_names (field_views fs) = cc in
    let p = all_four (not (is_named c.name rest)) (is_some (as_object c.metadata)) (is_sound c.data_type) (are_sound rest) sound in
    found_onto fs ms i f m (put n.0.now (view n.1) found) (omega arith) at p.3 others

pub found_at : {A : Type 0} → (fs : List (Field A)) (ms : List Member) (i : ℕ) (f : Field A) (m : Member)
    → i < length fs → f ≡ get_or fs i f → are_sound (fields_of (field_views fs)) ≡ true → member_names ms ≡ field_names (field_views fs)
    → unwrap_or (Some (view (get_or ms i m).1)) null ≡ under (field_view f).name (object (members_view ms))
found_at fs ms i f m h at sound same = ap (λ o. unwrap_or o null) (sym (found_onto fs ms i f m no_members h at sound same))

-- ---- no other name stands there

known_onto : (all : Fields) (cs : List Column) (ms : List Member) (found : Members) → ((k : List ℕ) → is_named k (fields_of cs) ≡ true → is_named k all ≡ true)
    → member_names ms ≡ field_names cs → unknown_name all found ≡ None → unknown_name all (put_all ms found) ≡ None
known_onto all [] [] found within same known = known
known_onto all [] (m ∷ ms) found within same known = absurd cc
known_onto all (c ∷ cs) [] found within same known = absurd cc
known_onto all (c ∷ cs) (m ∷ ms) found within same known =
    let name : m.0.now ≡ c.name = cc in
    let others : member_names ms ≡ field_names cs = cc in
    let rest = fields_of cs in
    let here : is_named m.0.now all ≡ true = within m.0.now (ap (λ b. b || is_named m.0.now rest) ((bytes_eq-Decides m.0.now c.name).1 name)) in
    known_onto all cs ms (put m.0.now (view m.1) found) (λ k e. within k (or_true (bytes_eq k c.name) (is_named k rest) e)) others (one_known all m.0.now (view m.1) found here known)

pub all_known : (cs : List Column) (ms : List Member) → member_names ms ≡ field_names cs → unknown_name (fields_of cs) (members_view ms) ≡ None
all_known cs ms same = known_onto (fields_of cs) cs ms no_members (λ k h. h) same refl

-- ---- the object

view-Object : (v : Vec Member Global) → view (Object v) ≡ object (members_view v.items)
view-Object v = search (rules, the_lemmas)

-- a value that is an object, by its members
pub object_seen : (v : Vec Member Global) (ms : List Member) (d : Value) → ms ≡ v.items → d ≡ Object v → view d ≡ object (members_view ms)
object_seen v ms d slice is = ap view is ∙ (view-Object v ∙ ap (λ ns. object (members_view ns)) (sym slice))
