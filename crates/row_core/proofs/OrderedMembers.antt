-- A struct's members in the order of their names, as they are printed.
use Rattle.std.proofs.Common.{◌≡◌, ℕ, zero, suc, ◌+◌, List, [], ◌∷◌, ◌&&◌, ◌||◌, Bool, true, false, drop, BTreeMap, Box, String, Global, Ordering, Less, Equal, Greater, string_bytes, string_cmp, refl, ap, sym, subst, add-one, ◌∙◌, rules}
use Rattle.std.proofs.lemmas.Bool.{false≢true, and_parts}
use Rattle.std.specs.BTreeMap.{insert_entry}
use Rattle.std.specs.Ordering.{match_ordering}
use Rattle.serde_json.specs.Data as json
use Rattle.serde_json.specs.Data.{Data, Members, no_members, put}
use Rattle.json_fields.specs.Printing.{put_fields}
use Rattle.schema_tree.specs.Tree as tree
use Rattle.schema_tree.specs.Tree.{Tree, Fields, Column, fields_of}
use Rattle.schema_tree.specs.View.{view}
use Rattle.schema_tree.specs.declared.node.Node as nodes
use Rattle.schema_tree.specs.declared.node.Node.{Node}
use Rattle.schema_tree.specs.declared.primitive.Primitive.{Primitive}
use Rattle.row_core.specs.Conforms.{Conforms, is_null, is_value, are_values}
use Rattle.row_core.specs.Printer.{value_at, Member, members_data, data_by, layout_view, layout_views, PrintsType}
use Rattle.row_core.specs.Printing.{data_of, data_of_row, fields_data, leaf_data}
use Rattle.row_core.specs.Rows.{Value, Values, Row, null, truth, whole, text, bytes, structure, values_of}
use Rattle.row_core.specs.declared.printer.Layout.{Layout, the_lemmas}
use Rattle.row_core.specs.declared.printer.Layout.TheViews.{roll-Layout}
use Rattle.row_core.proofs.ConformsReads.{list_of, list_again, no_struct_leaf}
use Rattle.row_core.proofs.Truths.{or_true}

members_data-match_ordering : (o : Ordering) (a b c : List (String Global × Layout)) (vs : Values) → members_data (layout_views (match_ordering o a b c)) vs ≡ match_ordering o (members_data (layout_views a) vs) (members_data (layout_views b) vs) (members_data (layout_views c) vs)
members_data-match_ordering Less a b c vs = refl
members_data-match_ordering Equal a b c vs = refl
members_data-match_ordering Greater a b c vs = refl

-- one more name is one more member
pub members_data-insert_entry : (es : List (String Global × Layout)) (k : String Global) (l : Layout) (vs : Values)
    → members_data (layout_views (insert_entry string_cmp es k l)) vs ≡ put (string_bytes k) ((layout_view l).printed (value_at (layout_view l).place vs)) (members_data (layout_views es) vs)
members_data-insert_entry [] k l vs = refl
members_data-insert_entry (e ∷ es) k l vs = members_data-match_ordering (string_cmp k e.0) _ _ _ vs ∙ rw (members_data-insert_entry es k l vs)

-- the values from a place on begin with the one at the place
pub value_at-drop : (i : ℕ) (vs more : List Row) (v : Row) → drop i vs ≡ v ∷ more → value_at i (values_of vs) ≡ v
value_at-drop zero [] more v e = cc
value_at-drop zero (w ∷ vs) more v e = cc
value_at-drop (suc i) [] more v e = cc
value_at-drop (suc i) (w ∷ vs) more v e = value_at-drop i vs more v e

drop_next : (i : ℕ) (vs more : List Row) (v : Row) → drop i vs ≡ v ∷ more → drop (suc i) vs ≡ more
drop_next zero [] more v e = cc
drop_next zero (w ∷ vs) more v e = cc
drop_next (suc i) [] more v e = cc
drop_next (suc i) (w ∷ vs) more v e = drop_next i vs more v e

-- the values are those of the columns, and where these are put behind what is done, all is done
abbrev pub StillToPut : Members → Members → List Column → List Row → Type 0
StillToPut all done cs vs = (are_values (fields_of cs) (values_of vs) ≡ true) × (put_fields done (fields_data (fields_of cs) (values_of vs)) ≡ all)

null_or_value : (nullable : Bool) (is_none is_one : Bool) → nullable && is_none || is_one ≡ true → is_none || is_one ≡ true
null_or_value true true b e = refl
null_or_value true false b e = e
null_or_value false true b e = refl
null_or_value false false b e = e

put_first : (c : Column) (others : List Column) (ws : List Row) (i : ℕ) (vs : List Row) (m : Member) (done next all : Members)
    → drop i vs ≡ ws → m.place ≡ i → PrintsType m.printed c.data_type → next ≡ put c.name (m.printed (value_at m.place (values_of vs))) done
    → StillToPut all done (c ∷ others) ws → StillToPut all next others (drop (i + 1) vs)
put_first c others [] i vs m done next all left at prints is e = absurd (false≢true e.0)
put_first c others (w ∷ ws) i vs m done next all left at prints is e =
    let parts = and_parts (c.nullable && is_null w || is_value c.data_type w) (are_values (fields_of others) (values_of ws)) e.0 in
    let here : value_at m.place (values_of vs) ≡ w = ap (λ p. value_at p (values_of vs)) at ∙ value_at-drop i vs ws w left in
    let seen : m.printed (value_at m.place (values_of vs)) ≡ data_of c.data_type w = ap m.printed here ∙ prints w (null_or_value c.nullable (is_null w) (is_value c.data_type w) parts.0) in
    let now : next ≡ put c.name (data_of c.data_type w) done = is ∙ ap (λ d. put c.name d done) seen in
    let after : drop (i + 1) vs ≡ ws = rw add-one (drop_next i vs ws w left) in
    subst (StillToPut all next others) (sym after) (parts.1, ap (λ ms. put_fields ms (fields_data (fields_of others) (values_of ws))) now ∙ e.1)

-- one more column is put
pub one_ordered : (cs others : List Column) (c : Column) (i : ℕ) (vs : List Row) (m : Member) (done next all : Members)
    → cs ≡ c ∷ others → m.place ≡ i → PrintsType m.printed c.data_type → next ≡ put c.name (m.printed (value_at m.place (values_of vs))) done
    → StillToPut all done cs (drop i vs) → StillToPut all next others (drop (i + 1) vs)
one_ordered cs others c i vs m done next all first at prints is e =
    put_first c others (drop i vs) i vs m done next all refl at prints is (subst (λ ds. StillToPut all done ds (drop i vs)) first e)

-- when no column is left, the members are those of all columns
pub all_ordered : (cs left : List Column) (i : ℕ) (ms : List (String Global × Member)) → left ≡ []
    → ((vs : List Row) → are_values (fields_of cs) (values_of vs) ≡ true → StillToPut (put_fields no_members (fields_data (fields_of cs) (values_of vs))) (members_data ms (values_of vs)) left (drop i vs))
    → (vs : Values) → are_values (fields_of cs) vs ≡ true → members_data ms vs ≡ put_fields no_members (fields_data (fields_of cs) vs)
all_ordered cs left i ms none put_so_far vs fits =
    let ws = list_of vs in
    let same : values_of ws ≡ vs = list_again vs in
    let whole = put_so_far ws (ap (are_values (fields_of cs)) same ∙ fits) in
    let done : members_data ms (values_of ws) ≡ put_fields no_members (fields_data (fields_of cs) (values_of ws)) =
    (subst (λ ds. StillToPut (put_fields no_members (fields_data (fields_of cs) (values_of ws))) (members_data ms (values_of ws)) ds (drop i ws)) none whole).1 in
    subst (λ us. members_data ms us ≡ put_fields no_members (fields_data (fields_of cs) us)) same done

-- a struct's members print its type
pub struct_printed : (ms : List (String Global × Member)) (fs : Fields) → ((vs : Values) → are_values fs vs ≡ true → members_data ms vs ≡ put_fields no_members (fields_data fs vs)) → PrintsType (data_by ms) (tree.struct fs)
struct_printed ms fs same null e = refl
struct_printed ms fs same (truth b) e = refl
struct_printed ms fs same (whole z) e = refl
struct_printed ms fs same (text s) e = refl
struct_printed ms fs same (bytes s) e = refl
struct_printed ms fs same (structure vs) e = ap json.object (same vs e)

-- any members print a type that is no struct
not_struct_printed : (ms : List (String Global × Member)) (t : Tree) → ((v : Value) → data_of t v ≡ leaf_data v) → ((vs : Values) → is_value t (structure vs) ≡ true → ⊥) → PrintsType (data_by ms) t
not_struct_printed ms t leaf none null e = sym (leaf null)
not_struct_printed ms t leaf none (truth b) e = sym (leaf (truth b))
not_struct_printed ms t leaf none (whole z) e = sym (leaf (whole z))
not_struct_printed ms t leaf none (text s) e = sym (leaf (text s))
not_struct_printed ms t leaf none (bytes s) e = sym (leaf (bytes s))
not_struct_printed ms t leaf none (structure vs) e = absurd (none vs e)

-- the same of each node that is no struct
pub leaf_printed : {A : Type 0} → (ms : List (String Global × Member)) (p : Primitive) (n : Node A) → n ≡ nodes.Leaf p → PrintsType (data_by ms) (view n)
leaf_printed {A} ms p n is =
    let seen : tree.leaf p ≡ view {A = A} (nodes.Leaf p) = search (rules, nodes.the_lemmas) in
    subst (PrintsType (data_by ms)) (seen ∙ ap view (sym is)) (not_struct_printed ms (tree.leaf p) (λ v. refl) (no_struct_leaf p))

pub array_printed : {A : Type 0} → (ms : List (String Global × Member)) (element : Box (Node A) A) (nullable : Bool) (n : Node A) → n ≡ nodes.Array element nullable → PrintsType (data_by ms) (view n)
array_printed {A} ms element nullable n is =
    let t = tree.array (view element.value) nullable in
    let seen : t ≡ view (nodes.Array element nullable) = search (rules, nodes.the_lemmas) in
    subst (PrintsType (data_by ms)) (seen ∙ ap view (sym is)) (not_struct_printed ms t (λ v. refl) (λ vs e. false≢true e))

pub map_printed : {A : Type 0} → (ms : List (String Global × Member)) (key inside : Box (Node A) A) (nullable : Bool) (n : Node A) → n ≡ nodes.Map key inside nullable → PrintsType (data_by ms) (view n)
map_printed {A} ms key inside nullable n is =
    let t = tree.map (view key.value) (view inside.value) nullable in
    let seen : t ≡ view (nodes.Map key inside nullable) = search (rules, nodes.the_lemmas) in
    subst (PrintsType (data_by ms)) (seen ∙ ap view (sym is)) (not_struct_printed ms t (λ v. refl) (λ vs e. false≢true e))

-- what is printed of a layout that was just made
pub made_printed : (place : ℕ) (m : BTreeMap (String Global) Layout) → data_by (layout_views m.entries) ≡ (layout_view (roll-Layout record { place = place; members = m })).printed
made_printed place m = search (rules, the_lemmas)

-- a type's values that conform are printed
pub row_printed : (t : Tree) (print : Value → Data) → PrintsType print t → (row : Row) → Conforms t row → print row ≡ data_of_row t row
row_printed t print prints row conforms = prints row (or_true (is_null row) (is_value t row) conforms.fits)
