-- The cells of a chunk that is read: no level is above the highest, and no value is null or a struct.
use Rattle.std.proofs.Common.{◌≡◌, ℕ, ℤ, zero, suc, ◌≤◌, List, length, replicate, All, Ok, refl, sym, subst, ◌∙◌, true, arith}
use Rattle.std.proofs.lemmas.List.Elements.{All-append, All-nil, All-replicate}
use Rattle.outcomes.specs.Bytes.{IsBytes}
use Rattle.shred.specs.Columns.{Column}
use Rattle.shred.specs.Fits.{is_plain}
use Rattle.shred.specs.Parts.{ArePlain}
use Rattle.parquet_footer.specs.declared.fault.FileFault.{FileFault}
use Rattle.page_cells.specs.Levels.{AreLevels, present}
use Rattle.parquet_pages.specs.Pages.{ArePages, ChunkHolds, Leaf, from_place, highest, no_cells, no_page, page, without_rows}
use Rattle.parquet_pages.specs.Reading.{chunk_at, first_place, pages_at}
use Rattle.page_cells.proofs.Callers.{bind_ok, ok_is}
use Rattle.parquet_pages.proofs.HeldPages.{IsFull, pages_full}
use Rattle.parquet_pages.proofs.PagesFound.{chunk_found, chunk_some}

abbrev AreBelow : ℕ → List ℕ → Type 0
AreBelow top levels = All (λ level. level ≤ top) levels

levels_below : (top : ℕ) (spelled levels : List ℕ) → AreLevels top spelled levels → AreBelow top levels
levels_below zero spelled levels are =
    let all : AreBelow 0 (replicate (length levels) 0) =
    All-replicate (λ (level : ℕ). level ≤ 0) (length levels) 0 (omega arith) in
    subst (AreBelow 0) (sym are.zeros) all
levels_below (suc top) spelled levels are = are.none_above

pages_below : (l : Leaf) (given : List ℕ) (place : ℕ) (c : Column) → ArePages l given place c
    → AreBelow (highest l) c.levels
pages_below l given place c (no_page p) = All-nil (λ (level : ℕ). level ≤ highest l)
pages_below l given place c (page p next first others stands more some) =
    All-append (λ (level : ℕ). level ≤ highest l) first.levels others.levels
    (levels_below (highest l) stands.holds.level_bytes first.levels stands.holds.levels)
    (pages_below l given next others more)

chunk_below : (l : Leaf) (given : List ℕ) (stated : ℤ) (c : Column) → ChunkHolds l given stated c
    → AreBelow (highest l) c.levels
chunk_below l given stated c without_rows = All-nil (λ (level : ℕ). level ≤ highest l)
chunk_below l given stated c (from_place place d at behind stand) = pages_below l given place d stand

chunk_full : (l : Leaf) (given : List ℕ) (stated : ℤ) (n : ℕ) (c : Column) → chunk_at l given stated n ≡ Ok c
    → IsFull l c
unfolding chunk_at
chunk_full l given stated zero c e =
    subst (IsFull l) (ok_is {E = FileFault} no_cells c e)
    (record { each = refl; plain = All-nil (λ v. is_plain v ≡ true) })
chunk_full l given stated (suc n) c e =
    let a = bind_ok (first_place stated) (λ place. pages_at (length given) l given place (suc n)) c
    (sym (chunk_some l given stated n) ∙ e) in
    pages_full (length given) l given a.0 (suc n) c a.2

-- No level of a chunk that is read is above the highest, there is a value for each highest level, and none is null or a
-- struct.
pub chunk_sound : (l : Leaf) (given : List ℕ) (stated : ℤ) (n : ℕ) (c : Column) → IsBytes given
    → chunk_at l given stated n ≡ Ok c → AreBelow (highest l) c.levels × (present (highest l) c.levels ≡ length c.values) × ArePlain c
chunk_sound l given stated n c fits e =
    let full = chunk_full l given stated n c e in
    (chunk_below l given stated c (chunk_found l given stated n c fits e).0, full.each, full.plain)
