-- What a reading of a page and of a chunk tells: what was read stands, and what stands was read.
use Rattle.std.proofs.Common.{◌≡◌, ℕ, ℤ, List, length, Result, Ok, Err, IfOk, sym, subst, ◌∙◌}
use Rattle.outcomes.specs.Bytes.{IsBytes}
use Rattle.shred.specs.Columns.{Column}
use Rattle.page_cells.specs.Outcome.{FindsWhere}
use Rattle.parquet_pages.specs.Outcome.{GivesWhere}
use Rattle.parquet_pages.specs.Pages.{ChunkHolds, IsPage, Leaf, Suits}
use Rattle.parquet_pages.specs.Reading.{chunk_at, page_at}
use Rattle.parquet_pages.specs.Views.{IsCells, IsPageOf}
use Rattle.parquet_footer.specs.declared.fault.FileError.{FileError}
use Rattle.parquet_footer.specs.declared.fault.FileError.TheVariants as errors
use Rattle.parquet_pages.specs.declared.pages.Page.{Page}
use Rattle.page_cells.proofs.Callers.{no_fault}
use Rattle.parquet_pages.proofs.PagesFound.{chunk_found, page_found}
use Rattle.parquet_pages.proofs.PagesOnly.{chunk_only}

pub page_is_found : (l : Leaf) (given : List ℕ) (place left : ℕ) (result : Result Page FileError) → IsBytes given
    → GivesWhere (IsPageOf l) result (page_at l given place left)
    → IfOk result (λ page. (c : Column) × IsCells l page c × IsPage l given place c page.next × Suits l c)
page_is_found l given place left (Ok page) fits (found, reads, cells) =
    let f = page_found l given place left found.1 found.0 fits reads in
    (found.0, cells.0, subst (IsPage l given place found.0) (sym cells.1) f.0, f.1)
page_is_found l given place left (Err e) fits h = tt

abbrev pub IsAnswer : Leaf → List ℕ → ℤ → ℕ → Result (Unit {0}) FileError → Type 0
IsAnswer l given stated n result = GivesWhere (λ x c. Unit {0}) result (chunk_at l given stated n)

pub chunk_is_found : (l : Leaf) (given : List ℕ) (stated : ℤ) (n : ℕ) (result : Result (Unit {0}) FileError)
    → IsBytes given
    → IsAnswer l given stated n result
    → IfOk result (λ x. (c : Column) × ChunkHolds l given stated c × Suits l c × (n ≡ length c.levels))
chunk_is_found l given stated n (Ok x) fits (c, reads, any) =
    let f = chunk_found l given stated n c fits reads in
    (c, f.0, f.1, f.2)
chunk_is_found l given stated n (Err e) fits h = tt

-- what the pages hold is read, where so many values are asked for
asked : (l : Leaf) (given : List ℕ) (stated : ℤ) (n : ℕ) (c : Column) → ChunkHolds l given stated c → Suits l c
    → n ≡ length c.levels → chunk_at l given stated n ≡ Ok c
asked l given stated n c has suits many =
    subst (λ (k : ℕ). chunk_at l given stated k ≡ Ok c) (sym many) (chunk_only l given stated c has suits)

pub chunk_is_read : (l : Leaf) (given : List ℕ) (stated : ℤ) (n : ℕ) (result : Result (Unit {0}) FileError)
    → IsAnswer l given stated n result → (c : Column) → ChunkHolds l given stated c → Suits l c
    → n ≡ length c.levels
    → FindsWhere (λ x. Unit {0}) result
chunk_is_read l given stated n (Ok x) e c has suits many = tt
chunk_is_read l given stated n (Err errors.Memory) e c has suits many = tt
chunk_is_read l given stated n (Err (errors.Fault fault)) e c has suits many =
    no_fault fault c (sym e ∙ asked l given stated n c has suits many)
