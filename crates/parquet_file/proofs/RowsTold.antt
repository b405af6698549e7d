-- What a reading of rows tells: the bytes are a file of what was read, and the rows that they are a file of were read.
use Rattle.std.proofs.Common.{◌≡◌, ℕ, List, Result, Ok, Err, IfOk, Vec, refl, sym, ◌∙◌}
use Rattle.std.specs.declared.alloc.Global.{Global}
use Rattle.outcomes.specs.Bytes.{IsBytes}
use Rattle.row_core.specs.Rows.{Row}
use Rattle.row_core.specs.Views.{row_views}
use Rattle.row_core.specs.declared.value.Value.{Value}
use Rattle.schema_tree.specs.Limits.{IsWithinLimits}
use Rattle.schema_tree.specs.Tree.{Tree}
use Rattle.parquet_footer.specs.declared.fault.FileFault.{FileFault}
use Rattle.parquet_footer.proofs.Callers.{bind_ok, no_fault, ok_is}
use Rattle.parquet_file.specs.File.{IsFile, KeepsLimits}
use Rattle.parquet_file.specs.Outcome.{FindsRows, GivesRows}
use Rattle.parquet_file.specs.Reading.{part_among, part_at, rows_at}
use Rattle.parquet_file.specs.Views.{file_part_view}
use Rattle.parquet_file.specs.declared.error.RowsError.{RowsError}
use Rattle.parquet_file.specs.declared.error.RowsError.TheVariants as errors
use Rattle.parquet_file.specs.declared.rows.FilePart.{FilePart}
use Rattle.parquet_file.proofs.RowsFound.{rows_found}
use Rattle.parquet_file.proofs.RowsOnly.{rows_only}

-- what reading gives was found
found_by : {X A : Type 0} (view : X → A) (result : Result X RowsError) (read : Result A FileFault) (value : A)
    → GivesRows view result read → read ≡ Ok value → FindsRows view value result
found_by view (Ok x) read value e is = ok_is {E = FileFault} (view x) value (sym e ∙ is)
found_by view (Err errors.Memory) read value e is = tt
found_by view (Err errors.NoRoom) read value e is = tt
found_by view (Err (errors.Fault fault)) read value e is = no_fault fault value (sym e ∙ is)

-- ---- all rows

abbrev pub IsAnswer : List ℕ → Tree → Result (Vec Value Global) RowsError → Type 0
IsAnswer bytes t result = GivesRows (λ (rows : Vec Value Global). row_views rows.items) result (rows_at bytes t)

pub is_found : (bytes : List ℕ) (t : Tree) (result : Result (Vec Value Global) RowsError) → IsWithinLimits t
    → IsBytes bytes → IsAnswer bytes t result
    → IfOk result (λ rows. IsFile bytes t (row_views rows.items) × KeepsLimits bytes (row_views rows.items))
is_found bytes t (Ok rows) limits h e = rows_found bytes t (row_views rows.items) limits h e
is_found bytes t (Err e) limits h said = tt

pub is_read : (bytes : List ℕ) (t : Tree) (result : Result (Vec Value Global) RowsError) → IsWithinLimits t
    → IsAnswer bytes t result → (rows : List Row) → IsFile bytes t rows → KeepsLimits bytes rows
    → FindsRows (λ (rows : Vec Value Global). row_views rows.items) rows result
is_read bytes t result limits e rows file kept =
    found_by (λ (rows : Vec Value Global). row_views rows.items) result (rows_at bytes t) rows e
    (rows_only bytes t rows limits file kept)

-- ---- a part of them

abbrev pub IsPartAnswer : List ℕ → Tree → (first most : ℕ) → Result FilePart RowsError → Type 0
IsPartAnswer bytes t first most result = GivesRows file_part_view result (part_at bytes t first most)

pub part_is_found : (bytes : List ℕ) (t : Tree) (first most : ℕ) (result : Result FilePart RowsError) → IsWithinLimits t
    → IsBytes bytes → IsPartAnswer bytes t first most result
    → IfOk result (λ part. (rows : List Row) × IsFile bytes t rows × KeepsLimits bytes rows
    × (file_part_view part ≡ part_among first most rows))
part_is_found bytes t first most (Ok part) limits h e =
    let a = bind_ok (rows_at bytes t) (λ rows. Ok (part_among first most rows)) (file_part_view part) e in
    let found = rows_found bytes t a.0 limits h a.1 in
    (a.0, found.0, found.1, sym (ok_is {E = FileFault} (part_among first most a.0) (file_part_view part) a.2))
part_is_found bytes t first most (Err e) limits h said = tt

pub part_is_read : (bytes : List ℕ) (t : Tree) (first most : ℕ) (result : Result FilePart RowsError) → IsWithinLimits t
    → IsPartAnswer bytes t first most result → (rows : List Row) → IsFile bytes t rows → KeepsLimits bytes rows
    → FindsRows file_part_view (part_among first most rows) result
part_is_read bytes t first most result limits e rows file kept =
    found_by file_part_view result (part_at bytes t first most) (part_among first most rows) e
    (rw (rows_only bytes t rows limits file kept) refl)
