-- Loops over ways and over the readers of leaves.
use Rattle.std.proofs.Common.{◌≡◌, ℕ, suc, ◌+◌, ◌-◌, ◌<◌, ◌≤◌, min, length, get_or, drop, replicate, List, [], ◌∷◌, ◌++◌, map, Vec, Global, inl, inr, refl, sym, ap, subst, ◌∙◌, append_assoc, arith}
use Rattle.std.proofs.lemmas.Bool.{cases_lt}
use Rattle.std.proofs.lemmas.List.{append-nil, drop_all, drop_more, length-map, map_push}
use Rattle.row_assembly.specs.Assembly.{first_cell, heads, row_count, AreEven, IsWhole}
use Rattle.lake_bytes.specs.Hybrid.{values_of}
use Rattle.row_assembly.specs.Levels.{test_cell, test_cells}
use Rattle.std.specs.List.{AllZip, filter_map}
use Rattle.shred.specs.Ways as specs
use Rattle.row_core.specs.declared.value.Value.{Value}
use Rattle.shred.specs.Columns.{Column}
use Rattle.shred.specs.Shape.{Shape}
use Rattle.shred.specs.Ways.{highest, ways}
use Rattle.row_assembly.specs.Neighbours as neighbours
use Rattle.row_assembly.specs.Neighbours.{shared_steps, leaf_levels, levels_behind, tops_in, HeadAgrees, HeadsAgree}
use Rattle.shred.specs.Views.{part_view, part_views, way_view, way_views}
use Rattle.row_assembly.specs.Views.{leaf_view, leaf_views, level_views, reader_leaf, reader_leaves}
use Rattle.shred.specs.declared.ways.Step.{Step}
use Rattle.shred.specs.declared.columns.ColumnPart.{ColumnPart}
use Rattle.row_assembly.specs.Parts.{parts_of}
use Rattle.row_assembly.specs.declared.neighbours.LeafLevels.{LeafLevels}
use Rattle.row_assembly.specs.declared.parts.LevelReader.{LevelReader}

-- ---- the steps that two ways share

none_shared : (way : List specs.Step) → shared_steps way [] ≡ 0
none_shared [] = refl
none_shared (step ∷ way) = refl

-- behind the end of one of them nothing is shared
pub shared_end : (before way : List Step) (i shared : ℕ) (total : ℕ) → i ≡ min (length before) (length way) → shared + shared_steps (way_view (drop i before)) (way_view (drop i way)) ≡ total → shared ≡ total
shared_end before way i shared total end so_far =
    let none : shared_steps (way_view (drop i before)) (way_view (drop i way)) ≡ 0 = elim (cases_lt (length way) (length before)) [
      | inl less ↦ (let past : length way ≤ i = omega (arith, end, less) in ap (λ w. shared_steps (way_view (drop i before)) (way_view w)) (drop_all i way past) ∙ none_shared (way_view (drop i before)))
      | inr more ↦ (let past : length before ≤ i = omega (arith, end, more) in ap (λ w. shared_steps (way_view w) (way_view (drop i way))) (drop_all i before past))
    ] in
    omega (arith, none, so_far)

-- ---- the leaves of the ways

pub leaf_on : (before way : List Step) (leaves now : List LeafLevels) (ways : List (Vec Step Global)) (i : ℕ) (w : Vec Step Global) (leaf : LeafLevels) (total : List neighbours.LeafLevels) → i < length ways → w ≡ get_or ways i w → way ≡ w.items → now ≡ leaves ++ leaf ∷ []
    → leaf_view leaf ≡ (let l : neighbours.LeafLevels = record { highest = highest (way_view way); shared = shared_steps (way_view before) (way_view way) } in l)
    → leaf_views leaves ++ levels_behind (way_view before) (way_views (drop i ways)) ≡ total → leaf_views now ++ levels_behind (way_view way) (way_views (drop (i + 1) ways)) ≡ total
leaf_on before way leaves now ways i w leaf total h at is put made so_far =
    let here : drop i ways ≡ w ∷ drop (i + 1) ways = drop_more ways i w h ∙ ap (λ z. z ∷ drop (i + 1) ways) (sym at) in
    let others = levels_behind (way_view way) (way_views (drop (i + 1) ways)) in
    let mine : levels_behind (way_view before) (way_views (drop i ways)) ≡ leaf_view leaf ∷ others =
    ap (λ ws. levels_behind (way_view before) (way_views ws)) here ∙ (ap (λ v. levels_behind (way_view before) (way_view v ∷ way_views (drop (i + 1) ways))) (sym is) ∙ ap (λ l. l ∷ others) (sym made)) in
    ap (λ ls. ls ++ others) (ap leaf_views put ∙ map_push leaf_view leaves leaf) ∙ (append_assoc (leaf_views leaves) (leaf_view leaf ∷ []) others ∙ (ap (λ ls. leaf_views leaves ++ ls) (sym mine) ∙ so_far))

pub leaves_end : (leaves : List LeafLevels) (ways : List (Vec Step Global)) (before : List specs.Step) (i : ℕ) (total : List neighbours.LeafLevels) → length ways ≤ i → leaf_views leaves ++ levels_behind before (way_views (drop i ways)) ≡ total → leaf_views leaves ≡ total
leaves_end leaves ways before i total h so_far =
    sym (append-nil (leaf_views leaves)) ∙ (ap (λ ws. leaf_views leaves ++ levels_behind before (way_views ws)) (sym (drop_all i ways h)) ∙ so_far)

-- ---- the levels at hand

head_there : (r : LevelReader) (others : List LevelReader) → 0 < r.count → heads (level_views (r ∷ others)) ≡ test_cell r.top r.level ∷ heads (level_views others)
head_there r others some =
    let more : r.count ≡ suc (r.count - 1) = omega (arith, some) in
    ap (λ n. filter_map first_cell (test_cells r.top (replicate n r.level ++ values_of r.rest.items) ∷ level_views others)) more

pub agree_on : (readers : List LevelReader) (i : ℕ) (r : LevelReader) (before : ℕ) → i < length readers → r ≡ get_or readers i r → HeadAgrees before (reader_leaf r) r.level → 0 < r.count
    → HeadsAgree r.level (reader_leaves (drop (i + 1) readers)) (heads (level_views (drop (i + 1) readers))) → HeadsAgree before (reader_leaves (drop i readers)) (heads (level_views (drop i readers)))
agree_on readers i r before h at agrees some others =
    let here : drop i readers ≡ r ∷ drop (i + 1) readers = drop_more readers i r h ∙ ap (λ z. z ∷ drop (i + 1) readers) (sym at) in
    let one : HeadsAgree before (reader_leaves (r ∷ drop (i + 1) readers)) (heads (level_views (r ∷ drop (i + 1) readers))) =
    subst (HeadsAgree before (reader_leaves (r ∷ drop (i + 1) readers))) (sym (head_there r (drop (i + 1) readers) some)) (agrees, refl, others) in
    subst (λ rs. HeadsAgree before (reader_leaves rs) (heads (level_views rs))) (sym here) one

pub agree_end : (readers : List LevelReader) (i before : ℕ) → length readers ≤ i → HeadsAgree before (reader_leaves (drop i readers)) (heads (level_views (drop i readers)))
agree_end readers i before h = subst (λ rs. HeadsAgree before (reader_leaves rs) (heads (level_views rs))) (sym (drop_all i readers h)) tt

-- ---- the leaves of a shape and the parts of its columns

pub tops_behind : (before : List specs.Step) (ws : List (List specs.Step)) → tops_in (levels_behind before ws) ≡ map highest ws
tops_behind before [] = refl
tops_behind before (w ∷ ws) = ap (λ ls. highest w ∷ ls) (tops_behind w ws)

leaves_count : (before : List specs.Step) (ws : List (List specs.Step)) → length (levels_behind before ws) ≡ length ws
leaves_count before [] = refl
leaves_count before (w ∷ ws) = ap suc (leaves_count w ws)

parts_count : (rows first most : ℕ) (ws : List (List specs.Step)) (given : List Column) → AllZip (IsWhole rows) ws given → length (parts_of first most (map highest ws) given) ≡ length ws
parts_count rows first most [] [] even = refl
parts_count rows first most [] (c ∷ cs) even = absurd even
parts_count rows first most (w ∷ ws) [] even = absurd even
parts_count rows first most (w ∷ ws) (c ∷ cs) even = ap suc (parts_count rows first most ws cs even.1)

-- even columns have a part for each leaf
pub part_each : (shape : Shape) (first most : ℕ) (given : List Column) (leaves : List LeafLevels) (parts : List (ColumnPart Value)) → AreEven shape given → leaf_views leaves ≡ leaf_levels shape → part_views parts ≡ parts_of first most (map highest (ways shape)) given
    → length leaves ≤ length parts
part_each shape first most given leaves parts even are cut =
    let one = sym (length-map leaves leaf_view) ∙ (ap length are ∙ leaves_count [] (ways shape)) in
    let two = sym (length-map parts part_view) ∙ (ap length cut ∙ parts_count (row_count given) first most (ways shape) given even) in
    omega (arith, one, two)
