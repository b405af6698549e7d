-- The columns of some rows that follow one another are even, and their cells are those of these rows.
use Rattle.std.proofs.Common.{◌≡◌, ◌==◌, ℕ, zero, suc, ◌+◌, ◌-◌, min, length, List, [], ◌∷◌, map, drop, take, Bool, true, false, cond, refl, sym, ap, ◌∙◌, arith}
use Rattle.std.specs.Prelude.{All}
use Rattle.std.specs.List.{AllZip}
use Rattle.std.proofs.Math.Seq.{take-nil, drop-nil}
use Rattle.std.proofs.lemmas.List.{length-take, length-drop, take-append-drop}
use Rattle.std.proofs.lemmas.List.Sums.{sum_by-append}
use Rattle.row_core.specs.Rows.{Value, truth}
use Rattle.shred.specs.Fits.{is_plain}
use Rattle.shred.specs.Ways.{Step, highest}
use Rattle.shred.specs.Columns.{Column, absent_cell, present_cell}
use Rattle.shred.specs.Parts.{highest_in, part_of, cut_out, ArePlain}
use Rattle.row_assembly.specs.Assembly.{IsWhole, cells_in}
use Rattle.row_assembly.specs.Mismatch.{cells_of_ways}
use Rattle.row_assembly.specs.Parts.{parts_of}
use Rattle.row_assembly.specs.Levels.{test_cell, test_cells, tests_of, kept_of}
use Rattle.row_assembly.proofs.Even.{tops_in, absent_on}
use Rattle.row_assembly.proofs.RowsBefore.{tops_more}
use Rattle.row_assembly.proofs.Masked.{masked, all_masked}

-- ---- cells behind a place, and up to one

drop_on : (b : Bool) (top n l : ℕ) (ls : List ℕ) (v : Value) (vs : List Value) → (l == top) ≡ b → cells_in top (drop n ls) (drop (tops_in top (take n ls)) vs) ≡ drop n (cells_in top ls vs) → cells_in top (drop n ls) (drop (tops_in top (take n ls)) (v ∷ vs)) ≡ drop n (cells_in top ls (v ∷ vs))
    → cells_in top (drop n ls) (drop (tops_in top (l ∷ take n ls)) (v ∷ vs)) ≡ drop (suc n) (cells_in top (l ∷ ls) (v ∷ vs))
drop_on true top n l ls v vs is one other =
    let counted = tops_more true top l (take n ls) is in
    let more : tops_in top (l ∷ take n ls) ≡ suc (tops_in top (take n ls)) = omega (arith, counted) in
    let right : drop (suc n) (cells_in top (l ∷ ls) (v ∷ vs)) ≡ drop n (cells_in top ls vs) = rw is refl in
    ap (λ m. cells_in top (drop n ls) (drop m (v ∷ vs))) more ∙ (one ∙ sym right)
drop_on false top n l ls v vs is one other =
    let counted = tops_more false top l (take n ls) is in
    let same : tops_in top (l ∷ take n ls) ≡ tops_in top (take n ls) = omega (arith, counted) in
    let right : drop (suc n) (cells_in top (l ∷ ls) (v ∷ vs)) ≡ drop n (cells_in top ls (v ∷ vs)) = rw is refl in
    ap (λ m. cells_in top (drop n ls) (drop m (v ∷ vs))) same ∙ (other ∙ sym right)

pub cells_dropped : (top n : ℕ) (ls : List ℕ) (vs : List Value) → cells_in top (drop n ls) (drop (tops_in top (take n ls)) vs) ≡ drop n (cells_in top ls vs)
cells_dropped top zero ls vs = refl
cells_dropped top (suc n) [] vs = refl
cells_dropped top (suc n) (l ∷ ls) [] = ap (cells_in top (drop n ls)) (drop-nil (tops_in top (l ∷ take n ls)) ∙ sym (drop-nil (tops_in top (take n ls)))) ∙ cells_dropped top n ls []
cells_dropped top (suc n) (l ∷ ls) (v ∷ vs) = drop_on (l == top) top n l ls v vs refl (cells_dropped top n ls vs) (cells_dropped top n ls (v ∷ vs))

take_on : (b : Bool) (top n l : ℕ) (ls : List ℕ) (v : Value) (vs : List Value) → (l == top) ≡ b → cells_in top (take n ls) (take (tops_in top (take n ls)) vs) ≡ take n (cells_in top ls vs) → cells_in top (take n ls) (take (tops_in top (take n ls)) (v ∷ vs)) ≡ take n (cells_in top ls (v ∷ vs))
    → cells_in top (l ∷ take n ls) (take (tops_in top (l ∷ take n ls)) (v ∷ vs)) ≡ take (suc n) (cells_in top (l ∷ ls) (v ∷ vs))
take_on true top n l ls v vs is one other =
    let counted = tops_more true top l (take n ls) is in
    let more : tops_in top (l ∷ take n ls) ≡ suc (tops_in top (take n ls)) = omega (arith, counted) in
    let left : cells_in top (l ∷ take n ls) (v ∷ take (tops_in top (take n ls)) vs) ≡ present_cell l v ∷ cells_in top (take n ls) (take (tops_in top (take n ls)) vs) = rw is refl in
    let right : take (suc n) (cells_in top (l ∷ ls) (v ∷ vs)) ≡ present_cell l v ∷ take n (cells_in top ls vs) = rw is refl in
    ap (λ m. cells_in top (l ∷ take n ls) (take m (v ∷ vs))) more ∙ (left ∙ (ap (λ cs. present_cell l v ∷ cs) one ∙ sym right))
take_on false top n l ls v vs is one other =
    let counted = tops_more false top l (take n ls) is in
    let same : tops_in top (l ∷ take n ls) ≡ tops_in top (take n ls) = omega (arith, counted) in
    let left = absent_on top l (take n ls) (take (tops_in top (take n ls)) (v ∷ vs)) (sym is) in
    let right : take (suc n) (cells_in top (l ∷ ls) (v ∷ vs)) ≡ absent_cell l ∷ take n (cells_in top ls (v ∷ vs)) = rw is refl in
    ap (λ m. cells_in top (l ∷ take n ls) (take m (v ∷ vs))) same ∙ (left ∙ (ap (λ cs. absent_cell l ∷ cs) other ∙ sym right))

cells_taken : (top n : ℕ) (ls : List ℕ) (vs : List Value) → cells_in top (take n ls) (take (tops_in top (take n ls)) vs) ≡ take n (cells_in top ls vs)
cells_taken top zero ls vs = refl
cells_taken top (suc n) [] vs = refl
cells_taken top (suc n) (l ∷ ls) [] = ap (cells_in top (l ∷ take n ls)) (take-nil (tops_in top (l ∷ take n ls))) ∙ ap (λ cs. absent_cell l ∷ cs) (ap (cells_in top (take n ls)) (sym (take-nil (tops_in top (take n ls)))) ∙ cells_taken top n ls [])
cells_taken top (suc n) (l ∷ ls) (v ∷ vs) = take_on (l == top) top n l ls v vs refl (cells_taken top n ls vs) (cells_taken top n ls (v ∷ vs))

pub cells_cut_out : (first most top : ℕ) (c : Column) → cells_in top (cut_out first most top c).levels (cut_out first most top c).values ≡ part_of first most (cells_in top c.levels c.values)
cells_cut_out first most top c = cells_taken top most (drop first c.levels) (drop (highest_in top (take first c.levels)) c.values) ∙ ap (take most) (cells_dropped top first c.levels c.values)

-- the cells of the kept columns are those of these rows
pub cells_kept : (first most : ℕ) (ws : List (List Step)) (cs : List Column) → cells_of_ways ws (kept_of (map highest ws) (parts_of first most (map highest ws) cs)) ≡ map (part_of first most) (cells_of_ways ws cs)
cells_kept first most [] [] = refl
cells_kept first most [] (c ∷ cs) = refl
cells_kept first most (w ∷ ws) [] = refl
cells_kept first most (w ∷ ws) (c ∷ cs) =
    ap (λ x. x ∷ cells_of_ways ws (kept_of (map highest ws) (parts_of first most (map highest ws) cs))) (cells_cut_out first most (highest w) c) ∙ ap (λ xs. part_of first most (cells_in (highest w) c.levels c.values) ∷ xs) (cells_kept first most ws cs)

-- ---- they are even

-- how many rows there are of so many from a place on
abbrev pub so_many : (rows first most : ℕ) → ℕ
so_many rows first most = min most (rows - first)

pub tops_split : (top n : ℕ) (ls : List ℕ) → tops_in top ls ≡ tops_in top (take n ls) + tops_in top (drop n ls)
tops_split top n ls = ap (tops_in top) (sym (take-append-drop n ls)) ∙ sum_by-append (λ level. cond (level == top) 1 0) (take n ls) (drop n ls)

-- the column of some rows of an even column is even
pub cut_out_whole : (rows first most : ℕ) (way : List Step) (c : Column) → IsWhole rows way c → IsWhole (so_many rows first most) way (cut_out first most (highest way) c)
cut_out_whole rows first most way c whole =
    let top = highest way in
    let levels = whole.levels_each in
    let values = whole.values_each in
    let before = tops_in top (take first c.levels) in
    let kept = tops_in top (take most (drop first c.levels)) in
    let one = tops_split top first c.levels in
    let two = tops_split top most (drop first c.levels) in
    let left = length-drop before c.values in
    record {
      levels_each = length-take most (drop first c.levels) ∙ ap (min most) (length-drop first c.levels ∙ ap (λ n. n - first) levels);
      values_each = sym (length-take kept (drop before c.values) ∙ omega (arith, one, two, left, values));
    }

pub kept_even : (rows first most : ℕ) (ws : List (List Step)) (cs : List Column) → AllZip (IsWhole rows) ws cs → AllZip (IsWhole (so_many rows first most)) ws (kept_of (map highest ws) (parts_of first most (map highest ws) cs))
kept_even rows first most [] [] even = tt
kept_even rows first most [] (c ∷ cs) even = absurd even
kept_even rows first most (w ∷ ws) [] even = absurd even
kept_even rows first most (w ∷ ws) (c ∷ cs) even = (cut_out_whole rows first most w c even.0, kept_even rows first most ws cs even.1)

-- ---- the cells of the levels are masked cells

first_plain : (v : Value) (vs : List Value) → All (λ w. is_plain w ≡ true) (v ∷ vs) → is_plain v ≡ true
first_plain v vs plain = plain 0 v (omega arith)

others_plain : (v : Value) (vs : List Value) → All (λ w. is_plain w ≡ true) (v ∷ vs) → All (λ w. is_plain w ≡ true) vs
others_plain v vs plain = λ k d h. plain (suc k) d (omega (arith, h))

absent_test : (top l : ℕ) → (l == top) ≡ false → test_cell top l ≡ absent_cell l
absent_test top l is = rw is refl

masked_on : (b : Bool) (top l : ℕ) (ls : List ℕ) (v : Value) (vs : List Value) → (l == top) ≡ b → tops_in top (l ∷ ls) ≡ length (v ∷ vs) → is_plain v ≡ true → (tops_in top ls ≡ length vs → test_cells top ls ≡ all_masked (cells_in top ls vs)) → (tops_in top ls ≡ length (v ∷ vs) → test_cells top ls ≡ all_masked (cells_in top ls (v ∷ vs)))
    → test_cells top (l ∷ ls) ≡ all_masked (cells_in top (l ∷ ls) (v ∷ vs))
masked_on true top l ls v vs is count plain one other =
    let counted = tops_more true top l ls is in
    let fewer : tops_in top ls ≡ length vs = omega (arith, counted, count) in
    let test : test_cell top l ≡ present_cell l (truth true) = rw is refl in
    let mine : masked (present_cell l v) ≡ present_cell l (truth true) = rw plain refl in
    let right : all_masked (cells_in top (l ∷ ls) (v ∷ vs)) ≡ masked (present_cell l v) ∷ all_masked (cells_in top ls vs) = rw is refl in
    ap (λ c. c ∷ test_cells top ls) (test ∙ sym mine) ∙ (ap (λ cs. masked (present_cell l v) ∷ cs) (one fewer) ∙ sym right)
masked_on false top l ls v vs is count plain one other =
    let counted = tops_more false top l ls is in
    let same : tops_in top ls ≡ length (v ∷ vs) = omega (arith, counted, count) in
    let right : all_masked (cells_in top (l ∷ ls) (v ∷ vs)) ≡ absent_cell l ∷ all_masked (cells_in top ls (v ∷ vs)) = rw is refl in
    ap (λ c. c ∷ test_cells top ls) (absent_test top l is) ∙ (ap (λ cs. absent_cell l ∷ cs) (other same) ∙ sym right)

none_on : (b : Bool) (top l : ℕ) (ls : List ℕ) → (l == top) ≡ b → tops_in top (l ∷ ls) ≡ 0 → (tops_in top ls ≡ 0 → test_cells top ls ≡ all_masked (cells_in top ls [])) → test_cells top (l ∷ ls) ≡ absent_cell l ∷ all_masked (cells_in top ls [])
none_on true top l ls is count other = let counted = tops_more true top l ls is in absurd (omega (arith, counted, count))
none_on false top l ls is count other =
    let counted = tops_more false top l ls is in
    let same : tops_in top ls ≡ 0 = omega (arith, counted, count) in
    ap (λ c. c ∷ test_cells top ls) (absent_test top l is) ∙ ap (λ cs. absent_cell l ∷ cs) (other same)

tests_masked : (top : ℕ) (ls : List ℕ) (vs : List Value) → tops_in top ls ≡ length vs → All (λ v. is_plain v ≡ true) vs → test_cells top ls ≡ all_masked (cells_in top ls vs)
tests_masked top [] vs count plain = refl
tests_masked top (l ∷ ls) [] count plain = none_on (l == top) top l ls refl count (λ h. tests_masked top ls [] h plain)
tests_masked top (l ∷ ls) (v ∷ vs) count plain = masked_on (l == top) top l ls v vs refl count (first_plain v vs plain) (λ h. tests_masked top ls vs h (others_plain v vs plain)) (λ h. tests_masked top ls (v ∷ vs) h plain)

pub parts_masked : (rows first most : ℕ) (ws : List (List Step)) (cs : List Column) → AllZip (IsWhole rows) ws cs → All ArePlain cs → tests_of (map highest ws) (parts_of first most (map highest ws) cs) ≡ map all_masked (cells_of_ways ws cs)
parts_masked rows first most [] [] even plain = refl
parts_masked rows first most [] (c ∷ cs) even plain = absurd even
parts_masked rows first most (w ∷ ws) [] even plain = absurd even
parts_masked rows first most (w ∷ ws) (c ∷ cs) even plain =
    let one = tests_masked (highest w) c.levels c.values even.0.values_each (plain 0 c (omega arith)) in
    let others = parts_masked rows first most ws cs even.1 (λ k d h. plain (suc k) d (omega (arith, h))) in
    ap (λ x. x ∷ tests_of (map highest ws) (parts_of first most (map highest ws) cs)) one ∙ ap (λ xs. all_masked (cells_in (highest w) c.levels c.values) ∷ xs) others
