-- Rows in front that needn't be made, and rows behind those that are wanted.
use Rattle.std.proofs.Common.{◌≡◌, ℕ, ◌-◌, ◌<◌, ◌≤◌, Bool, true, false, List, [], ◌++◌, length, map, take, drop, Result, Ok, Err, refl, sym, ap, subst, ◌∙◌, arith}
use Rattle.std.specs.List.{AllZip}
use Rattle.std.proofs.Math.Seq.{take-nil}
use Rattle.std.proofs.lemmas.List.{drop_all}
use Rattle.outcomes.proofs.Callers.{said_too, with_front}
use Rattle.row_core.specs.Rows.{Row}
use Rattle.shred.specs.Columns.{Column}
use Rattle.shred.specs.Parts.{part_of}
use Rattle.shred.specs.Shape.{Shape}
use Rattle.shred.specs.Ways.{highest, ways}
use Rattle.row_assembly.specs.Assembly.{assembled, row_count, AreEven, IsWhole}
use Rattle.row_assembly.specs.Parts.{fronts, rests}
use Rattle.row_assembly.proofs.Callers.{assembled_twice, fronts_count, fronts_even}
use Rattle.parquet_footer.specs.Outcome.{says}
use Rattle.parquet_footer.specs.declared.fault.FileError.{FileError}
use Rattle.parquet_footer.specs.declared.fault.FileFault.{FileFault}
use Rattle.parquet_schema.specs.Leaves.{LeafIn}
use Rattle.parquet_file.specs.Internal.{is_flat, levels_of, AreSoundColumns}
use Rattle.parquet_file.specs.Outcome.{AddsPart}
use Rattle.parquet_file.proofs.CodeGroups.{assembled_many}
use Rattle.parquet_file.proofs.FlatRows.{flat_rows}
use Rattle.parquet_file.proofs.PartLists.{part_behind}
use Rattle.parquet_file.proofs.RowsAtHand.{none_made, rows_behind, rows_in, some_ways, whole_count, whole_even}
use Rattle.parquet_file.proofs.TestedColumns.{AreRead, fronts_sound}

-- ---- rows in front

-- the part behind so many of a list
part_passed : {A : Type 0} (first most : ℕ) (one others : List A) → length one ≤ first
    → part_of first most (one ++ others) ≡ part_of (first - length one) most others
part_passed {A} first most one others less =
    let none : drop first one ≡ [] = drop_all first one less in
    let nothing : part_of first most one ≡ [] = ap (λ (xs : List A). take most xs) none ∙ take-nil {A = A} most in
    let all : most - length (part_of first most one) ≡ most = ap (λ (xs : List A). most - length xs) nothing ∙ omega arith in
    part_behind first most one others
    ∙ ap (λ (xs : List A). xs ++ part_of (first - length one) (most - length (part_of first most one)) others) nothing
    ∙ ap (λ (m : ℕ). part_of (first - length one) m others) all

passed_on : (first most n : ℕ) (one : List Row) (rest whole : Result (List Row) FileFault) (old new : List Row)
    (result : Result (Unit {0}) FileError) → whole ≡ with_front one rest → length one ≡ n → n ≤ first
    → AddsPart (first - n) most rest old result new → AddsPart first most whole old result new
passed_on first most n one rest whole old new (Ok x) is many less (rows, read, put) =
    let same : part_of first most (one ++ rows) ≡ part_of (first - n) most rows =
    part_passed first most one rows (omega (arith, many, less)) ∙ ap (λ (k : ℕ). part_of (first - k) most rows) many in
    (one ++ rows, is ∙ rw read refl, put ∙ ap (λ (xs : List Row). old ++ xs) (sym same))
passed_on first most n one rest whole old new (Err e) is many less said =
    said_too (says e) rest whole (λ f refused. is ∙ rw refused refl) said

-- Rows in front can be made, where the columns stand side by side or no rows are passed.
front_made : (shape : Shape) (n rows : ℕ) (ls : List LeafIn) (cs : List Column) → levels_of ls ≡ map highest (ways shape)
    → 0 < length ls → n ≤ rows → (is_flat shape ≡ false → n ≡ 0) → AreRead rows ls (ways shape) cs
    → (one : List Row) × (assembled shape (fronts n (map highest (ways shape)) cs) ≡ Ok one)
front_made shape n rows ls cs same some less none read = by_case (is_flat shape) refl
  where
    tops : List ℕ
    tops = map highest (ways shape)

    front : AllZip (IsWhole n) (ways shape) (fronts n (map highest (ways shape)) cs)
    front = fronts_even rows n (ways shape) cs less read.whole

    by_case : (b : Bool) → is_flat shape ≡ b
        → (one : List Row) × (assembled shape (fronts n (map highest (ways shape)) cs) ≡ Ok one)
    by_case true flat =
        let sound : AreSoundColumns (map highest (ways shape)) cs =
        subst (λ (ts : List ℕ). AreSoundColumns ts cs) same read.sound in
        flat_rows shape (fronts n (map highest (ways shape)) cs) flat
        (whole_even n (ways shape) (fronts n (map highest (ways shape)) cs) front)
        (fronts_sound n (map highest (ways shape)) cs sound)
    by_case false nested =
        let whole : AllZip (IsWhole 0) (ways shape) (fronts n (map highest (ways shape)) cs) =
        subst (λ (m : ℕ). AllZip (IsWhole m) (ways shape) (fronts n (map highest (ways shape)) cs)) (none nested) front in
        ([], none_made shape (fronts n (map highest (ways shape)) cs) (some_ways shape ls same some) whole)

-- Rows that are added from those behind so many are added from all.
pub added_behind : (shape : Shape) (first most n rows : ℕ) (ls : List LeafIn) (cs : List Column) (old new : List Row)
    (result : Result (Unit {0}) FileError) → levels_of ls ≡ map highest (ways shape) → 0 < length ls → n ≤ rows
    → n ≤ first → (is_flat shape ≡ false → n ≡ 0) → AreRead rows ls (ways shape) cs
    → AddsPart (first - n) most (rows_in shape (rests n (levels_of ls) cs)) old result new
    → AddsPart first most (rows_in shape cs) old result new
added_behind shape first most n rows ls cs old new result same some less before none read added =
    let tops = map highest (ways shape) in
    let count : row_count cs ≡ rows = whole_count rows (ways shape) cs (some_ways shape ls same some) read.whole in
    let even : AreEven shape cs = whole_even rows (ways shape) cs read.whole in
    let enough : n ≤ row_count cs = omega (arith, count, less) in
    let one = front_made shape n rows ls cs same some less none read in
    let many : length one.0 ≡ n =
    assembled_many shape (fronts n tops cs) one.0 one.1 ∙ fronts_count n (ways shape) cs enough even in
    let twice = assembled_twice shape n cs even enough in
    let behind : rows_in shape cs ≡ with_front one.0 (rows_in shape (rests n tops cs)) =
    rows_behind (assembled shape cs) (assembled shape (fronts n tops cs)) (assembled shape (rests n tops cs)) one.0 twice
    one.1 in
    let here : AddsPart (first - n) most (rows_in shape (rests n tops cs)) old result new =
    subst (λ (ts : List ℕ). AddsPart (first - n) most (rows_in shape (rests n ts cs)) old result new) same added in
    passed_on first most n one.0 (rows_in shape (rests n tops cs)) (rows_in shape cs) old new result behind many before here
