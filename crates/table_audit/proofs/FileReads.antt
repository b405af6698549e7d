-- A file of a table is read, or is too large.
use Rattle.std.proofs.Common.{◌≡◌, ℕ, ◌≤◌, ltb, true, List, length, ◌++◌, Result, Ok, Err, refl, sym, ap, ◌∙◌, arith, inl, inr, ◌⊎◌}
use Rattle.std.proofs.lemmas.Bool.{cases_Bool, ltb-false}
use Rattle.outcomes.specs.Outcome.{IsSaid}
use Rattle.row_core.specs.Rows.{Row}
use Rattle.schema_tree.specs.Limits.{IsWithinLimits}
use Rattle.schema_tree.specs.Tree.{Tree}
use Rattle.thrift_core.proofs.Callers.{struct_at_again}
use Rattle.parquet_footer.specs.Footer.{FooterSays}
use Rattle.parquet_footer.specs.Frame.{frame_of, magic}
use Rattle.parquet_footer.specs.Metadata.{FileMetaData}
use Rattle.parquet_footer.specs.Reading.{metadata_at, within_limits}
use Rattle.parquet_footer.specs.Outcome.{says}
use Rattle.parquet_footer.specs.declared.fault.FileError.TheVariants.{Fault, Memory}
use Rattle.parquet_footer.specs.declared.fault.FileFault.{FileFault}
use Rattle.parquet_footer.specs.declared.fault.FileFault.TheVariants.{TooLarge}
use Rattle.parquet_footer.proofs.Callers.{Parts, frame_again, parts_again}
use Rattle.parquet_file.specs.File.{IsFile}
use Rattle.parquet_file.specs.Reading.{part_at, part_read, rows_at}
use Rattle.parquet_file.proofs.Callers.{rows_only}

-- what is read of a footer is what it says, up to the limits
said : (footer : List ℕ) (metadata : FileMetaData) → FooterSays footer metadata → metadata_at footer ≡ within_limits metadata
unfolding metadata_at
said footer metadata s = rw (s.parts, struct_at_again s.front s.tree s.rest s.spelled, s.stands) refl

too_many : (metadata : FileMetaData) → ltb 4194304 metadata.num_rows ≡ true → within_limits metadata ≡ Err TooLarge
unfolding within_limits
too_many metadata past = rw past refl

too_long : (bytes : List ℕ) → ltb 67108864 (length bytes) ≡ true → frame_of bytes ≡ Err TooLarge
unfolding frame_of
too_long bytes past = rw past refl

-- what stops a reading
frame_stops : (bytes : List ℕ) (t : Tree) → frame_of bytes ≡ Err TooLarge → rows_at bytes t ≡ Err TooLarge
unfolding rows_at
frame_stops bytes t stops = rw stops refl

footer_stops : (bytes front footer : List ℕ) (t : Tree) → frame_of bytes ≡ Ok (front, footer) → metadata_at footer ≡ Err TooLarge → rows_at bytes t ≡ Err TooLarge
unfolding rows_at
footer_stops bytes front footer t whole stops = rw (whole, stops) refl

-- A file's rows are read, or it is too large.
pub read_or_large : (bytes : List ℕ) (t : Tree) (rows : List Row) → IsWithinLimits t → IsFile bytes t rows → (rows_at bytes t ≡ Ok rows) ⊎ (rows_at bytes t ≡ Err TooLarge)
read_or_large bytes t rows limits f =
    elim (cases_Bool (ltb 67108864 (length bytes))) [
      | inl past ↦ inr (frame_stops bytes t (too_long bytes past))
      | inr fits ↦
          let size : length bytes ≤ 67108864 = ltb-false 67108864 (length bytes) fits in
          elim (cases_Bool (ltb 4194304 f.metadata.num_rows)) [
            | inl many ↦
                let parts : Parts bytes f.pages f.footer = rw f.frame (parts_again f.pages f.footer f.length_fits) in
                inr (footer_stops bytes (magic ++ f.pages) f.footer t (frame_again bytes f.pages f.footer parts size) (said f.footer f.metadata f.says ∙ too_many f.metadata many))
            | inr few ↦
                let most : length rows ≤ 4194304 = omega (arith, f.counted, ltb-false 4194304 f.metadata.num_rows few) in
                inl (rows_only bytes t rows limits f (record { size = size; most_rows = most }))
          ]
    ]

ok_or_err : {A : Type 0} (x : A) (fault : FileFault) (read : Result A FileFault) → read ≡ Ok x → read ≡ Err fault → ⊥
ok_or_err x fault read is refused = let wrong : Ok x ≡ Err fault = sym is ∙ refused in cc

-- what is said of a fault
pub said_fault : {A : Type 0} (fault : FileFault) (read : Result A FileFault) → IsSaid (says (Fault fault)) read ⊎ (Fault fault ≡ Memory) → read ≡ Err fault
said_fault fault read (inl said) = said
said_fault fault read (inr wrong) = absurd cc

-- Where a part's reading is refused by another fault, the bytes are no file of the table.
pub no_file : (bytes : List ℕ) (t : Tree) (first most : ℕ) (fault : FileFault) → IsWithinLimits t → (fault ≡ TooLarge → ⊥) → part_at bytes t first most ≡ Err fault → (rows : List Row) → IsFile bytes t rows → ⊥
no_file bytes t first most fault limits other refused rows f =
    elim (read_or_large bytes t rows limits f) [
      | inl read ↦ let same = sym (ap (part_read {E = FileFault} first most) read) ∙ refused in absurd cc
      | inr large ↦ let same = sym (ap (part_read {E = FileFault} first most) large) ∙ refused in other (cc)
    ]
