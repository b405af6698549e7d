-- Ways that are put one after another.
use Rattle.std.proofs.Common.{◌≡◌, ℕ, ◌+◌, ◌<◌, ◌≤◌, length, get_or, drop, List, [], ◌∷◌, ◌++◌, refl, sym, ap, ◌∙◌, append_assoc, rules}
use Rattle.std.proofs.lemmas.List.{drop_more, drop_all, append-nil, map-append}
use Rattle.shred.specs.Shape.{fields_of}
use Rattle.shred.specs.Ways.{Step, under, ways_from, field_ways}
use Rattle.shred.specs.Views.{shape_view, field_view, field_views}
use Rattle.shred.specs.declared.shapes.Shape.{the_lemmas}
use Rattle.shred.specs.declared.shapes.ShapeField.{ShapeField, out-ShapeField}

pub under_more : (above : List Step) (s : Step) (ws : List (List Step)) → under (above ++ s ∷ []) ws ≡ under above (under (s ∷ []) ws)
under_more above s [] = refl
under_more above s (w ∷ ws) = ap (λ x. x ∷ under (above ++ s ∷ []) ws) (append_assoc above (s ∷ []) w) ∙ ap (λ xs. (above ++ s ∷ w) ∷ xs) (under_more above s ws)

-- from the top nothing stands above
pub under_top : (ws : List (List Step)) → under [] ws ≡ ws
under_top [] = refl
under_top (w ∷ ws) = ap (λ xs. w ∷ xs) (under_top ws)

pub shape_seen : (f : ShapeField) → shape_view (out-ShapeField f).shape ≡ (field_view f).shape
shape_seen f = search (rules, the_lemmas)

pub optional_seen : (f : ShapeField) → (out-ShapeField f).optional ≡ (field_view f).optional
optional_seen f = search (rules, the_lemmas)

-- the ways of one more field are put
pub field_put : (fs : List ShapeField) (i : ℕ) (x : ShapeField) (above above_now : List Step) (before now total : List (List Step)) → i < length fs → x ≡ get_or fs i x → above_now ≡ above → now ≡ before ++ under above_now (field_ways i (field_view x))
    → before ++ under above (ways_from i (fields_of (field_views (drop i fs)))) ≡ total → now ++ under above (ways_from (i + 1) (fields_of (field_views (drop (i + 1) fs)))) ≡ total
field_put fs i x above above_now before now total h at kept put so_far =
    let here : drop i fs ≡ x ∷ drop (i + 1) fs = drop_more fs i x h ∙ ap (λ y. y ∷ drop (i + 1) fs) (sym at) in
    let first = field_ways i (field_view x) in
    let others = ways_from (i + 1) (fields_of (field_views (drop (i + 1) fs))) in
    let split : under above (ways_from i (fields_of (field_views (drop i fs)))) ≡ under above first ++ under above others = ap (λ gs. under above (ways_from i (fields_of (field_views gs)))) here ∙ map-append (λ w. above ++ w) first others in
    let one : before ++ under above (ways_from i (fields_of (field_views (drop i fs)))) ≡ now ++ under above others = ap (λ ws. before ++ ws) split ∙ (sym (append_assoc before (under above first) (under above others)) ∙ ap (λ ws. ws ++ under above others) (sym (put ∙ ap (λ a. before ++ under a first) kept))) in
    sym one ∙ so_far

-- the ways of all fields are put
pub fields_put : (fs : List ShapeField) (i : ℕ) (above : List Step) (now total : List (List Step)) → length fs ≤ i → now ++ under above (ways_from i (fields_of (field_views (drop i fs)))) ≡ total → now ≡ total
fields_put fs i above now total h so_far =
    let end : now ++ under above (ways_from i (fields_of (field_views (drop i fs)))) ≡ now = ap (λ gs. now ++ under above (ways_from i (fields_of (field_views gs)))) (drop_all i fs h) ∙ append-nil now in
    sym end ∙ so_far
