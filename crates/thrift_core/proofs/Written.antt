-- What is written for a list and a map, and part by part, as the code has it.
use Rattle.std.proofs.Common.{◌≡◌, ℕ, suc, ◌+◌, ◌<◌, List, [], ◌∷◌, ◌++◌, length, drop, get_or, Some, refl, sym, ap, ◌∙◌}
use Rattle.std.proofs.lemmas.List.{append_assoc, at_drop_more}
use Rattle.thrift_core.specs.Form.{Form, number_of, member_form, entry_forms}
use Rattle.thrift_values.specs.Tree.{Tree, list, map, trees_of, entries_of, count_of_trees, count_of_entries}
use Rattle.thrift_values.specs.View.{views, entry_views}
use Rattle.thrift_core.specs.Writing.{list_header_bytes, map_header_bytes, written, written_members, written_entries}
use Rattle.thrift_values.specs.declared.value.TValue.{TValue}
use Rattle.thrift_values.specs.declared.value.MapEntry.{MapEntry}

pub count-views : {A : Type 0} (vs : List (TValue A)) → count_of_trees (trees_of (views vs)) ≡ length vs
count-views [] = refl
count-views (v ∷ vs) = ap suc (count-views vs)

pub count-entry_views : {A : Type 0} (es : List (MapEntry A)) → count_of_entries (entries_of (entry_views es)) ≡ length es
count-entry_views [] = refl
count-entry_views (e ∷ es) = ap suc (count-entry_views es)

pub list_written : {A : Type 0} (f m : Form) (t : Tree) (vs items : List (TValue A)) (old new : List ℕ) → t ≡ list (trees_of (views items)) → Some m ≡ member_form f → vs ≡ items
    → new ≡ old ++ (list_header_bytes (number_of m) (length vs) ++ written_members m (trees_of (views vs))) → new ≡ old ++ written f t
list_written f m t vs items old new is member same so =
    let one : written f t ≡ list_header_bytes (number_of m) (length vs) ++ written_members m (trees_of (views vs)) = rw (is, ← member, count-views, same) refl in
    so ∙ ap (λ (b : List ℕ). old ++ b) (sym one)

pub map_written : {A : Type 0} (f k v : Form) (t : Tree) (es items : List (MapEntry A)) (old new : List ℕ) → t ≡ map (entries_of (entry_views items)) → Some (k, v) ≡ entry_forms f → es ≡ items
    → new ≡ old ++ (map_header_bytes (number_of k) (number_of v) (length es) ++ written_entries k v (entries_of (entry_views es))) → new ≡ old ++ written f t
map_written f k v t es items old new is member same so =
    let one : written f t ≡ map_header_bytes (number_of k) (number_of v) (length es) ++ written_entries k v (entries_of (entry_views es)) = rw (is, ← member, count-entry_views, same) refl in
    so ∙ ap (λ (b : List ℕ). old ++ b) (sym one)

-- One more part is written: what was written and what is left to write are what is to be written.
pub part_written : {X : Type 0} (before behind : List X → List ℕ) (xs : List X) (i : ℕ) (x : X) (part old new total : List ℕ) → i < length xs → x ≡ get_or xs i x → before (x ∷ drop (i + 1) xs) ≡ part ++ behind (drop (i + 1) xs)
    → new ≡ old ++ part → old ++ before (drop i xs) ≡ total → new ++ behind (drop (i + 1) xs) ≡ total
part_written before behind xs i x part old new total lt is splits so so_far =
    let rest = drop (i + 1) xs in
    let here : before (drop i xs) ≡ part ++ behind rest = at_drop_more before xs i x lt ∙ (ap (λ y. before (y ∷ rest)) (sym is) ∙ splits) in
    ap (λ b. b ++ behind rest) so ∙ (append_assoc old part (behind rest) ∙ (ap (λ b. old ++ b) (sym here) ∙ so_far))
