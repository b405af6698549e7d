-- What is handed out of files that can be read: rows in order, from a place on.
use Rattle.std.proofs.Common.{◌≡◌, ℕ, zero, suc, ◌+◌, ◌-◌, ◌≤◌, ◌<◌, true, false, eqb, List, [], ◌∷◌, ◌++◌, length, map, take, drop, Ok, Err, refl, sym, ap, ◌∙◌, append_assoc, arith, inl, inr, length-append}
use Rattle.std.specs.Prelude.{Result, ◌==◌, if◌then◌else◌}
use Rattle.std.proofs.Math.Bool.{and-false}
use Rattle.std.proofs.lemmas.Bool.{cases_Bool, le-ltb, lt-ltb, ne_eqb, eqb-true, and_parts}
use Rattle.std.proofs.lemmas.Bool.Decides.{nat_tests}
use Rattle.std.proofs.lemmas.List.{append-nil, map-append, length-take, drop-append-le}
use Rattle.store_core.specs.Objects.{Objects}
use Rattle.delta_actions.specs.Kinds.{PathAndKey}
use Rattle.row_core.specs.Rows.{Row}
use Rattle.schema_tree.specs.Tree.{Tree}
use Rattle.table_model.specs.Reads.{placed_rows}
use Rattle.table_model.specs.Reads as reads
use Rattle.table_model.specs.Table.{last_item}
use Rattle.table_model.specs.declared.reading.Offset.{Offset}
use Rattle.table_model.proofs.Callers.{past}
use Rattle.log_rows.specs.Tailing.{LogFile, ReadRefusal, ReadRows, data_file, file_rows, bad_place, offset_behind_rows, is_done, hand}

-- ---- rows with their places

-- the rows behind the first ones keep their places
drop-placed : (version file row k : ℕ) (rs : List Row) → drop k (placed_rows version file row rs) ≡ placed_rows version file (row + k) (drop k rs)
drop-placed version file row zero rs = let none : row ≡ row + 0 = omega arith in ap (λ (n : ℕ). placed_rows version file n rs) none
drop-placed version file row (suc k) [] = refl
drop-placed version file row (suc k) (r ∷ rs) =
    let on : suc row + k ≡ row + suc k = omega arith in
    drop-placed version file (suc row) k rs ∙ ap (λ (n : ℕ). placed_rows version file n (drop k rs)) on

-- so do the first ones
take-placed : (version file row k : ℕ) (rs : List Row) → take k (placed_rows version file row rs) ≡ placed_rows version file row (take k rs)
take-placed version file row zero rs = refl
take-placed version file row (suc k) [] = refl
take-placed version file row (suc k) (r ∷ rs) = ap (λ (ps : List (Offset × Row)). (record { version = version; file = file; row = row }, r) ∷ ps) (take-placed version file (suc row) k rs)

-- the rows without their places
rows-placed : (version file row : ℕ) (rs : List Row) → map (λ p. p.1) (placed_rows version file row rs) ≡ rs
rows-placed version file row [] = refl
rows-placed version file row (r ∷ rs) = ap (λ (xs : List Row). r ∷ xs) (rows-placed version file (suc row) rs)

-- there are as many places as rows
length-placed : (version file row : ℕ) (rs : List Row) → length (placed_rows version file row rs) ≡ length rs
length-placed version file row [] = refl
length-placed version file row (r ∷ rs) = ap suc (length-placed version file (suc row) rs)

-- the first elements of a list and of the one behind it
take-append : {A : Type 0} (n : ℕ) (xs ys : List A) → take n (xs ++ ys) ≡ take n xs ++ take (n - length xs) ys
take-append zero xs ys = let none : 0 - length xs ≡ 0 = omega arith in rw none refl
take-append (suc n) [] ys = let all : suc n - 0 ≡ suc n = omega arith in rw all refl
take-append (suc n) (x ∷ xs) ys = let on : suc n - suc (length xs) ≡ n - length xs = omega arith in rw on (ap (λ (zs : List _). x ∷ zs) (take-append n xs ys))

-- ---- behind rows

-- directly behind the last of some rows, and without one the place before them
abbrev pub behind_all : Offset → List (Offset × Row) → Offset
behind_all next [] = next
behind_all next (p ∷ ps) = behind_all (past p.0) ps

-- only the last row counts
pub behind_last : (next : Offset) (ps : List (Offset × Row)) → behind_all next ps ≡ reads.offset_behind next (last_item ps)
behind_last next [] = refl
behind_last next (p ∷ []) = refl
behind_last next (p ∷ q ∷ ps) = behind_last next (q ∷ ps)

-- behind two lists of rows
behind_both : (next : Offset) (xs ys : List (Offset × Row)) → behind_all next (xs ++ ys) ≡ behind_all (behind_all next xs) ys
behind_both next [] ys = refl
behind_both next (x ∷ xs) ys = behind_both (past x.0) xs ys

-- behind the rows of a file from a row on
behind_from : (version file row : ℕ) (rs : List Row)
    → behind_all (record { version = version; file = file; row = row }) (placed_rows version file row rs) ≡ record { version = version; file = file; row = row + length rs }
behind_from version file row [] = let none : row ≡ row + 0 = omega arith in ap (λ (n : ℕ). record { version = version; file = file; row = n }) none
behind_from version file row (r ∷ rs) =
    let on : suc row + length rs ≡ row + suc (length rs) = omega arith in
    behind_from version file (suc row) rs ∙ ap (λ (n : ℕ). record { version = version; file = file; row = n }) on

-- ---- files that can be read

-- a file of a version, and the rows that are read from it
pub record Found : Type 0 where
  pub version : ℕ
  pub file : ℕ
  pub path : PathAndKey
  pub rows : List Row

-- as a file of the log
abbrev pub file_of : Found → LogFile
file_of f = record { version = f.version; file = f.file; path = f.path }

-- the rows of files, each with its place
abbrev pub rows_in : List Found → List (Offset × Row)
rows_in [] = []
rows_in (f ∷ fs) = placed_rows f.version f.file 0 f.rows ++ rows_in fs

-- each file reads as its rows
abbrev pub AreFound : Objects → (schema : Tree) → List Found → Type 0
AreFound objects schema [] = Unit {0}
AreFound objects schema (f ∷ fs) = (file_rows objects schema (file_of f) ≡ Ok f.rows) × AreFound objects schema fs

-- so many rows are in the first file
abbrev pub AreWithin : ℕ → List Found → Type 0
AreWithin skip [] = skip ≡ 0
AreWithin skip (f ∷ fs) = skip ≤ length f.rows

-- behind a part of a file
behind_part : (f : Found) (skip : ℕ) (part : List Row) (next : Offset) → offset_behind_rows (file_of f) skip part next ≡ behind_all next (placed_rows f.version f.file skip part)
behind_part f skip [] next = refl
behind_part f skip (z ∷ part) next =
    let on : suc skip + length part ≡ skip + suc (length part) = omega arith in
    sym (behind_from f.version f.file (suc skip) part ∙ ap (λ (n : ℕ). record { version = f.version; file = f.file; row = n }) on)

-- What is said is rows behind `rows`, at most so many of those ahead, and where the next read begins.
pub record Goes (end : Offset) (most : ℕ) (rows : List Row) (next : Offset) (ahead : List (Offset × Row)) (said : Result ReadRows ReadRefusal) : Type 0 where
  pub handed : ReadRows
  pub said_is : said ≡ Ok handed
  pub rows_are : handed.rows ≡ rows ++ map (λ p. p.1) (take most ahead)
  pub onward : handed.next ≡ (if length (take most ahead) == most then behind_all next (take most ahead) else end)

-- nothing more is to be handed out
done_here : (end : Offset) (most skip : ℕ) (rows : List Row) (next : Offset) (ahead : List (Offset × Row)) (said : Result ReadRows ReadRefusal) → is_done most skip ≡ true → said ≡ Ok (record { rows = rows; next = next })
    → Goes end most rows next ahead said
done_here end most skip rows next ahead said done is =
    let none : most ≡ 0 = eqb-true most 0 (and_parts (eqb most 0) (eqb skip 0) done).0 in
    record {
      handed = record { rows = rows; next = next };
      said_is = is;
      rows_are = rw none (sym (append-nil rows));
      onward = rw none refl;
    }

-- no file is left
at_end : (end : Offset) (most : ℕ) (rows : List Row) (next : Offset) (said : Result ReadRows ReadRefusal) → said ≡ Ok (record { rows = rows; next = if is_done most 0 then next else end }) → Goes end most rows next [] said
at_end end zero rows next said is = record {
  handed = record { rows = rows; next = next };
  said_is = is;
  rows_are = sym (append-nil rows);
  onward = refl;
}
at_end end (suc most) rows next said is =
    let more : eqb (suc most) 0 ≡ false = ne_eqb (suc most) 0 (λ e. omega arith) in
    let short : eqb 0 (suc most) ≡ false = ne_eqb 0 (suc most) (λ e. omega arith) in
    record {
      handed = record { rows = rows; next = end };
      said_is = rw more at is;
      rows_are = sym (append-nil rows);
      onward = rw short refl;
    }

-- two tests of equal numbers that follow from one another
same_test : (a b c d : ℕ) → (a ≡ b → c ≡ d) → (c ≡ d → a ≡ b) → eqb a b ≡ eqb c d
same_test a b c d onward back = grind (arith, nat_tests, onward, back)

-- the rows ahead, of which the first stand in the first file
ahead_in : (f : Found) (fs : List Found) (most skip : ℕ) → skip ≤ length f.rows
    → take most (drop skip (rows_in (f ∷ fs))) ≡ placed_rows f.version f.file skip (take most (drop skip f.rows)) ++ take (most - length (take most (drop skip f.rows))) (rows_in fs)
ahead_in f fs most skip within =
    let left = drop skip f.rows in
    let here = placed_rows f.version f.file skip left in
    let fits : skip ≤ length (placed_rows f.version f.file 0 f.rows) = omega (arith, length-placed f.version f.file 0 f.rows) in
    let placed_left : drop skip (placed_rows f.version f.file 0 f.rows) ≡ here =
    drop-placed f.version f.file 0 skip f.rows ∙ (let at : 0 + skip ≡ skip = omega arith in rw at refl) in
    let first : take most here ≡ placed_rows f.version f.file skip (take most left) = take-placed f.version f.file skip most left in
    let count : most - length here ≡ most - length (take most left) = omega (arith, length-placed f.version f.file skip left, length-take most left) in
    ap (λ (ps : List (Offset × Row)). take most ps) (drop-append-le skip (placed_rows f.version f.file 0 f.rows) (rows_in fs) fits ∙ ap (λ (ps : List (Offset × Row)). ps ++ rows_in fs) placed_left)
    ∙ take-append most here (rows_in fs) ∙ rw (first, count) refl

-- what goes on behind a part of the first file
goes_on : (end : Offset) (f : Found) (fs : List Found) (most skip : ℕ) (rows : List Row) (next : Offset) (said : Result ReadRows ReadRefusal) → skip ≤ length f.rows
    → Goes end (most - length (take most (drop skip f.rows))) (rows ++ take most (drop skip f.rows)) (offset_behind_rows (file_of f) skip (take most (drop skip f.rows)) next) (rows_in fs) said
    → Goes end most rows next (drop skip (rows_in (f ∷ fs))) said
goes_on end f fs most skip rows next said within later =
    let part = take most (drop skip f.rows) in
    let first = placed_rows f.version f.file skip part in
    let more = take (most - length part) (rows_in fs) in
    let cut : take most (drop skip (rows_in (f ∷ fs))) ≡ first ++ more = ahead_in f fs most skip within in
    let all_rows : later.handed.rows ≡ rows ++ map (λ p. p.1) (first ++ more) =
    later.rows_are ∙ rw (map-append (λ (p : Offset × Row). p.1) first more, rows-placed f.version f.file skip part) (append_assoc rows part (map (λ p. p.1) more)) in
    let many : length (first ++ more) ≡ length part + length more = length-append first more ∙ rw (length-placed f.version f.file skip part) refl in
    let few : length part ≤ most = omega (arith, length-take most (drop skip f.rows)) in
    let test : eqb (length more) (most - length part) ≡ eqb (length (first ++ more)) most = same_test (length more) (most - length part) (length (first ++ more)) most (λ e. omega arith) (λ e. omega arith) in
    let to : behind_all (offset_behind_rows (file_of f) skip part next) more ≡ behind_all next (first ++ more) = rw (behind_part f skip part next) (sym (behind_both next first more)) in
    record {
      handed = later.handed;
      said_is = later.said_is;
      rows_are = rw cut all_rows;
      onward = rw cut (later.onward ∙ rw (test, to) refl);
    }

-- where no row is to be passed over, the first file has enough of them
pub within_none : (fs : List Found) → AreWithin 0 fs
within_none [] = refl
within_none (f ∷ fs) = omega arith

module _ (objects : Objects) (schema : Tree) (end : Offset) where
  -- what is handed out of files that can be read
  pub walked : (fs : List Found) (most skip : ℕ) (rows : List Row) (next : Offset) → AreFound objects schema fs → AreWithin skip fs
      → Goes end most rows next (drop skip (rows_in fs)) (hand objects schema end most skip rows next (map data_file (map file_of fs)))
  unfolding hand
  walked [] most skip rows next found within = rw within (at_end end most rows next _ refl)
  walked (f ∷ fs) most skip rows next found within =
      elim (cases_Bool (is_done most skip)) [
        | inl done ↦ done_here end most skip rows next (drop skip (rows_in (f ∷ fs))) _ done (rw done refl)
        | inr on ↦
            let part = take most (drop skip f.rows) in
            let enough = le-ltb (length f.rows) skip within in
            let step : hand objects schema end most skip rows next (map data_file (file_of f ∷ map file_of fs)) ≡ hand objects schema end (most - length part) 0 (rows ++ part) (offset_behind_rows (file_of f) skip part next) (map data_file (map file_of fs)) =
            rw (on, found.0, enough) refl in
            rw step (goes_on end f fs most skip rows next _ within (walked fs (most - length part) 0 (rows ++ part) (offset_behind_rows (file_of f) skip part next) found.1 (within_none fs)))
      ]

  -- a first file that has fewer rows than are to be passed over is the answer
  pub row_missing : (f : Found) (fs : List Found) (most skip : ℕ) (next : Offset) → AreFound objects schema (f ∷ fs) → length f.rows < skip → hand objects schema end most skip [] next (map data_file (map file_of (f ∷ fs))) ≡ Err (bad_place f.version)
  unfolding hand
  row_missing f fs most skip next found past_it =
      let none : eqb skip 0 ≡ false = ne_eqb skip 0 (λ e. omega arith) in
      let on : is_done most skip ≡ false = rw none (and-false (eqb most 0)) in
      rw (on, found.0, lt-ltb (length f.rows) skip past_it) refl
