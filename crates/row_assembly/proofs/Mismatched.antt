-- Columns are refused for a mismatch just at the first leaf of the first row that they don't give.
use Rattle.std.proofs.Common.{◌≡◌, inl, inr, ℕ, zero, suc, ◌+◌, ◌<◌, ◌≤◌, length, List, [], ◌∷◌, map, drop, take, slice_get, Option, Some, option_map, Result, Ok, Err, refl, sym, ap, ◌∙◌, subst, arith}
use Rattle.std.specs.Prelude.{◌↔◌}
use Rattle.std.proofs.Math.Seq.{drop-nil}
use Rattle.std.proofs.lemmas.List.{take-map, take-take, take-append-le, length-map}
use Rattle.outcomes.specs.Results.{◌>>=◌}
use Rattle.row_core.specs.Rows.{Row}
use Rattle.schema_tree.specs.Fault.{Path}
use Rattle.shred.specs.Shape.{Shape, HasFields}
use Rattle.shred.specs.Fits.{FitsShape}
use Rattle.shred.specs.Ways.{ways, highest}
use Rattle.shred.specs.Columns.{Cell, Column, cell, all_some}
use Rattle.shred.proofs.Callers.{cells_of, cells_found, cells_length}
use Rattle.row_assembly.specs.Faults.{Fault, uneven_columns, level_mismatch}
use Rattle.row_assembly.specs.Assembly.{AreEven, heads, made, row_made, rows_made, row_count, cells_of_columns, assembled}
use Rattle.row_assembly.specs.Mismatch.{leaf_paths, cells_of_ways, cells_at, BeginsRow, MakesRow, FailsFirst, IsMismatch}
use Rattle.row_assembly.proofs.Rests.{bind_ok}
use Rattle.row_assembly.proofs.MadeSound.{made_sound}
use Rattle.row_assembly.specs.Levels.{AreLong}
use Rattle.row_assembly.proofs.Even.{columns_sound}
use Rattle.row_assembly.proofs.Proper.{some_same, bind_some, map_some}
use Rattle.row_assembly.proofs.Assembled.{heads_long, tails_long}
use Rattle.row_assembly.proofs.FailsAt.{FailsAt}
use Rattle.row_assembly.proofs.RowFails.{paths_long, made_fails}
use Rattle.row_assembly.proofs.Uneven.{ok_err, bind_err, rows_fair, even_opens, opens_even, refused_uneven}

-- ---- rows whose first cells are these

all_of : {A : Type 0} (xs : List (Option A)) (ys : List A) → all_some xs ≡ Some ys → xs ≡ map (λ y. Some y) ys
all_of {A} [] ys h = ap (map (λ (y : A). Some y)) (some_same [] ys h)
all_of {A} (x ∷ xs) ys h =
    let b = bind_some x (λ y. option_map (λ zs. y ∷ zs) (all_some xs)) ys h in
    let d = map_some (λ zs. b.0 ∷ zs) (all_some xs) ys b.2 in
    ap (λ o. o ∷ xs) b.1 ∙ (ap (λ os. Some b.0 ∷ os) (all_of xs d.0 d.1) ∙ ap (map (λ (y : A). Some y)) d.2)

first_found : (s : Shape) (r : Row) (k : ℕ) → FitsShape s r → map (λ way. cell way r) (take k (ways s)) ≡ map (λ c. Some c) (take k (cells_of s 0 r))
first_found s r k fit =
    let each = all_of (map (λ way. cell way r) (ways s)) (cells_of s 0 r) (cells_found s 0 r fit) in
    sym (take-map (λ way. cell way r) k (ways s)) ∙ (ap (take k) each ∙ take-map (λ (c : Cell). Some c) k (cells_of s 0 r))

somes_same : {A : Type 0} (xs ys : List A) → map (λ x. Some x) xs ≡ map (λ y. Some y) ys → xs ≡ ys
somes_same [] [] h = refl
somes_same [] (y ∷ ys) h = absurd cc
somes_same (x ∷ xs) [] h = absurd cc
somes_same {A} (x ∷ xs) (y ∷ ys) h =
    let one : x ≡ y = cc in
    let others : map (λ (z : A). Some z) xs ≡ map (λ (z : A). Some z) ys = cc in
    ap (λ z. z ∷ xs) one ∙ ap (λ zs. y ∷ zs) (somes_same xs ys others)

begins : (s : Shape) (k : ℕ) (cells : List Cell) (r : Row) → FitsShape s r → take k (cells_of s 0 r) ≡ take k cells → BeginsRow s k cells
begins s k cells r fit agrees = record { row = r; fits = fit; agrees = first_found s r k fit ∙ ap (map (λ (c : Cell). Some c)) agrees }

pub begun : (s : Shape) (k : ℕ) (cells : List Cell) (b : BeginsRow s k cells) → take k (cells_of s 0 b.row) ≡ take k cells
begun s k cells b = somes_same (take k (cells_of s 0 b.row)) (take k cells) (sym (first_found s b.row k b.fits) ∙ b.agrees)

pub begins_fewer : (s : Shape) (k m : ℕ) (cells : List Cell) → m ≤ k → BeginsRow s k cells → BeginsRow s m cells
begins_fewer s k m cells less b =
    begins s m cells b.row b.fits (sym (take-take m k (cells_of s 0 b.row) less) ∙ (ap (take m) (begun s k cells b) ∙ take-take m k cells less))

-- ---- one row

row_found : (s : Shape) (cells : List Cell) (row : Row) → row_made s cells ≡ Ok row → MakesRow s cells
row_found s cells row h =
    let a = bind_ok (made s 0 cells) (λ given. Ok given.0) row h in
    let one = made_sound s 0 cells a.0.0 a.0.1 a.1 in
    let mine = cells_of s 0 a.0.0 in
    let long = cells_length s 0 a.0.0 one.0 in
    begins s (length (ways s)) cells a.0.0 one.0 (sym (ap (take (length (ways s))) one.1 ∙ take-append-le (length (ways s)) mine a.0.1 (omega (arith, long))))

abbrev RowFails : Shape → List Cell → Path → Type 0
RowFails s cells path = FailsAt (FitsShape s) (cells_of s 0) (leaf_paths s) cells path

row_fails : (s : Shape) (cells : List Cell) (path : Path) → HasFields s → length cells ≡ length (ways s) → row_made s cells ≡ Err (level_mismatch path) → RowFails s cells path
row_fails s cells path has long h =
    let counted = paths_long s in
    elim (bind_err (made s 0 cells) (λ given. Ok given.0) (level_mismatch path) h) [
      | inl first ↦ made_fails s 0 cells path has (omega (arith, long, counted)) first
      | inr never ↦ absurd (ok_err never.0.0 (level_mismatch path) never.2)
    ]

-- ---- rows, one after another

abbrev pub behind : ℕ → List (List Cell) → List Cell
behind i css = heads (map (drop i) css)

pub drop_none : (css : List (List Cell)) → map (drop 0) css ≡ css
drop_none [] = refl
drop_none (cs ∷ css) = ap (λ xs. cs ∷ xs) (drop_none css)

pub tails_behind : (i : ℕ) (css : List (List Cell)) → map (drop i) (map (drop 1) css) ≡ map (drop (suc i)) css
tails_behind i [] = refl
tails_behind i ([] ∷ css) = ap (λ cs. cs ∷ map (drop i) (map (drop 1) css)) (drop-nil i) ∙ ap (λ xs. [] ∷ xs) (tails_behind i css)
tails_behind i ((c ∷ cs) ∷ css) = ap (λ xs. drop i cs ∷ xs) (tails_behind i css)

pub rows_found : (s : Shape) (n : ℕ) (css : List (List Cell)) (rs : List Row) (i : ℕ) → rows_made s n css ≡ Ok rs → i < n → MakesRow s (behind i css)
rows_found s zero css rs i h less = absurd (omega (arith, less))
rows_found s (suc n) css rs zero h less =
    let b = bind_ok (row_made s (heads css)) (λ row. rows_made s n (map (drop 1) css) >>= λ others. Ok (row ∷ others)) rs h in
    subst (λ xs. MakesRow s (heads xs)) (sym (drop_none css)) (row_found s (heads css) b.0 b.1)
rows_found s (suc n) css rs (suc i) h less =
    let left = map (drop 1) css in
    let b = bind_ok (row_made s (heads css)) (λ row. rows_made s n left >>= λ others. Ok (row ∷ others)) rs h in
    let d = bind_ok (rows_made s n left) (λ others. Ok (b.0 ∷ others)) rs b.2 in
    let fewer : i < n = omega (arith, less) in
    subst (λ xs. MakesRow s (heads xs)) (tails_behind i css) (rows_found s n left d.0 i d.1 fewer)

abbrev RowsFail : Shape → ℕ → List (List Cell) → Path → Type 0
RowsFail s n css path = (i : ℕ) × (i < n) × ((j : ℕ) → j < i → MakesRow s (behind j css)) × RowFails s (behind i css) path

found_before : (s : Shape) (css : List (List Cell)) (i : ℕ) → MakesRow s (heads css) → ((j : ℕ) → j < i → MakesRow s (behind j (map (drop 1) css))) → (j : ℕ) → j < suc i → MakesRow s (behind j css)
found_before s css i first others zero less = subst (λ xs. MakesRow s (heads xs)) (sym (drop_none css)) first
found_before s css i first others (suc j) less = let fewer : j < i = omega (arith, less) in subst (λ xs. MakesRow s (heads xs)) (tails_behind j css) (others j fewer)

rows_fail : (s : Shape) (n : ℕ) (css : List (List Cell)) (path : Path) → HasFields s → AreLong n css → length css ≡ length (ways s) → rows_made s n css ≡ Err (level_mismatch path) → RowsFail s n css path
rows_fail s zero css path has long same h = absurd (ok_err [] (level_mismatch path) h)
rows_fail s (suc n) css path has long same h =
    let left = map (drop 1) css in
    elim (bind_err (row_made s (heads css)) (λ row. rows_made s n left >>= λ others. Ok (row ∷ others)) (level_mismatch path) h) [
      | inl first ↦ (0, omega arith, λ j less. absurd (omega (arith, less)), subst (λ xs. RowFails s (heads xs) path) (sym (drop_none css)) (row_fails s (heads css) path has (heads_long n css long ∙ same) first))
      | inr later ↦ elim (bind_err (rows_made s n left) (λ others. Ok (later.0 ∷ others)) (level_mismatch path) later.2) [
        | inl rest ↦ (let f = rows_fail s n left path has (tails_long n css long) (length-map css (drop 1) ∙ same) rest in
            let less = f.1 in
            (suc f.0, omega (arith, less), found_before s css f.0 (row_found s (heads css) later.0 later.1) f.2, subst (λ xs. RowFails s (heads xs) path) (tails_behind f.0 css) f.3))
        | inr never ↦ absurd (ok_err (later.0 ∷ never.0) (level_mismatch path) never.2)
      ]
    ]

-- ---- there is one such place

same_number : (i j : ℕ) → (i < j → ⊥) → (j < i → ⊥) → i ≡ j
same_number zero zero one other = refl
same_number zero (suc j) one other = absurd (one (omega arith))
same_number (suc i) zero one other = absurd (other (omega arith))
same_number (suc i) (suc j) one other = ap suc (same_number i j (λ less. one (omega (arith, less))) (λ less. other (omega (arith, less))))

no_later : (s : Shape) (given : List Column) (i j k m : ℕ) → FailsFirst s given i k → FailsFirst s given j m → i < j → ⊥
no_later s given i j k m f g less =
    let within = f.is_leaf in
    f.no_row (begins_fewer s (length (ways s)) (k + 1) (cells_at s given i) (omega (arith, within)) (g.rows_before i less))

no_deeper : (s : Shape) (given : List Column) (i j k m : ℕ) → i ≡ j → FailsFirst s given i k → FailsFirst s given j m → k < m → ⊥
no_deeper s given i j k m same f g less =
    f.no_row (begins_fewer s m (k + 1) (cells_at s given i) (omega (arith, less)) (subst (λ n. BeginsRow s m (cells_at s given n)) (sym same) g.leaves_before))

one_path : (s : Shape) (given : List Column) (path other : Path) → IsMismatch s given path → IsMismatch s given other → path ≡ other
one_path s given path other p q =
    let place = same_number p.place q.place (no_later s given p.place q.place p.leaf q.leaf p.fails q.fails) (no_later s given q.place p.place q.leaf p.leaf q.fails p.fails) in
    let leaf = same_number p.leaf q.leaf (no_deeper s given p.place q.place p.leaf q.leaf place p.fails q.fails) (no_deeper s given q.place p.place q.leaf p.leaf (sym place) q.fails p.fails) in
    some_same path other (sym p.told ∙ (ap (slice_get (leaf_paths s)) leaf ∙ q.told))

-- ---- whole columns

abbrev opened : Shape → List Column → Result (List (List Cell)) Fault
opened s given = cells_of_columns (row_count given) (map highest (ways s)) given

other_fault : {A : Type 0} (path : Path) → (let r : Result A Fault = Err uneven_columns in r) ≡ Err (level_mismatch path) → ⊥
other_fault path h = absurd cc

even_from : (s : Shape) (given : List Column) (path : Path) (r : Result (List (List Cell)) Fault) → opened s given ≡ r → assembled s given ≡ Err (level_mismatch path) → AreEven s given
unfolding assembled
even_from s given path (Ok css) is h = opens_even (row_count given) (ways s) given css is
even_from s given path (Err e) is h =
    let go : assembled s given ≡ Err e = rw is refl in
    let fault = refused_uneven (row_count given) (map highest (ways s)) given e is in
    absurd (other_fault {A = List Row} path (ap (λ x. Err x) (sym fault) ∙ (sym go ∙ h)))

pub even_rows : (s : Shape) (given : List Column) → AreEven s given → assembled s given ≡ rows_made s (row_count given) (cells_of_ways (ways s) given)
unfolding assembled
even_rows s given even = rw (even_opens (row_count given) (ways s) given even) refl

fails_there : (s : Shape) (given : List Column) (path : Path) → AreEven s given → RowsFail s (row_count given) (cells_of_ways (ways s) given) path → IsMismatch s given path
fails_there s given path even f =
    let k = f.3.place in
    let cells = cells_at s given f.0 in
    let within = f.3.within in
    let counted = paths_long s in
    let more : suc k ≡ k + 1 = omega arith in
    record {
      even = even;
      place = f.0;
      leaf = k;
      fails = record {
        is_place = f.1;
        is_leaf = omega (arith, within, counted);
        rows_before = f.2;
        leaves_before = begins s k cells f.3.some_value f.3.some_fits f.3.some_agrees;
        no_row = λ b. f.3.none_agrees b.row b.fits (ap (λ n. take n (cells_of s 0 b.row)) more ∙ (begun s (k + 1) cells b ∙ ap (λ n. take n cells) (sym more)));
      };
      told = f.3.told;
    }

pub mismatch_sound : (s : Shape) (given : List Column) (path : Path) → HasFields s → assembled s given ≡ Err (level_mismatch path) → IsMismatch s given path
mismatch_sound s given path has h =
    let even = even_from s given path (opened s given) refl h in
    let parts = columns_sound (row_count given) (map highest (ways s)) given (cells_of_ways (ways s) given) (even_opens (row_count given) (ways s) given even) in
    fails_there s given path even (rows_fail s (row_count given) (cells_of_ways (ways s) given) path has parts.2 (parts.1 ∙ length-map (ways s) highest) (sym (even_rows s given even) ∙ h))

mismatch_from : (s : Shape) (given : List Column) (path : Path) (r : Result (List Row) Fault) → HasFields s → assembled s given ≡ r → IsMismatch s given path → r ≡ Err (level_mismatch path)
mismatch_from s given path (Ok rs) has is m =
    let within = m.fails.is_leaf in
    let found = rows_found s (row_count given) (cells_of_ways (ways s) given) rs m.place (sym (even_rows s given m.even) ∙ is) m.fails.is_place in
    absurd (m.fails.no_row (begins_fewer s (length (ways s)) (m.leaf + 1) (cells_at s given m.place) (omega (arith, within)) found))
mismatch_from s given path (Err uneven_columns) has is m = absurd (rows_fair s (row_count given) (cells_of_ways (ways s) given) (sym (even_rows s given m.even) ∙ is))
mismatch_from s given path (Err (level_mismatch q)) has is m = ap (λ p. Err (level_mismatch p)) (one_path s given q path (mismatch_sound s given q has is) m)

pub refused_at_mismatch : (s : Shape) (given : List Column) (path : Path) → HasFields s → (assembled s given ≡ Err (level_mismatch path)) ↔ IsMismatch s given path
refused_at_mismatch s given path has = (mismatch_sound s given path has, mismatch_from s given path (assembled s given) has refl)
