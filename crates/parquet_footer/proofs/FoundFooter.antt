-- What is read of a footer stands in the bytes, and what stands is read.
use Rattle.std.proofs.Common.{◌≡◌, ℕ, ◌≤◌, List, length, Result, Ok, Err, IfOk, sym, ◌∙◌}
use Rattle.outcomes.specs.Bytes.{IsBytes}
use Rattle.parquet_footer.specs.Metadata.{FileMetaData}
use Rattle.parquet_footer.specs.Footer.{HasFooter, ClaimsWithinLimit}
use Rattle.parquet_footer.specs.Frame.{frame_of}
use Rattle.parquet_footer.specs.Outcome.{GivesFooter, FindsFooter}
use Rattle.parquet_footer.specs.Reading.{metadata_at, footer_at}
use Rattle.parquet_footer.specs.Views.{footer_view}
use Rattle.parquet_footer.specs.declared.fault.FooterError.{FooterError}
use Rattle.parquet_footer.specs.declared.fault.FooterError.TheVariants as errors
use Rattle.parquet_footer.specs.declared.fault.FileFault.{FileFault}
use Rattle.parquet_footer.specs.declared.footer.Footer.{Footer}
use Rattle.parquet_footer.proofs.FoundSteps.{bind_ok, ok_is, no_fault}
use Rattle.parquet_footer.proofs.FoundFrame.{frame_found}
use Rattle.parquet_footer.proofs.FooterSays.{metadata_found, metadata_again}
use Rattle.parquet_footer.proofs.OnlyFrame.{Parts, parts_again, frame_again}

-- What is given is found, as the reading has it.
pub answer_found : {A : Type 0} (P : FileMetaData → Type 0) (read : Result FileMetaData FileFault) (result : Result (Footer A) FooterError) → GivesFooter footer_view result read → ((metadata : FileMetaData) → read ≡ Ok metadata → P metadata)
    → IfOk result (λ footer. P (footer_view footer))
answer_found P read (Ok footer) e holds = holds (footer_view footer) e
answer_found P read (Err e) h holds = tt

pub answer_finds : {A : Type 0} (metadata : FileMetaData) (read : Result FileMetaData FileFault) (result : Result (Footer A) FooterError) → GivesFooter footer_view result read → read ≡ Ok metadata → FindsFooter footer_view metadata result
answer_finds metadata read (Ok footer) e is = ok_is (footer_view footer) metadata (sym e ∙ is)
answer_finds metadata read (Err errors.NoRoom) e is = tt
answer_finds metadata read (Err (errors.Fault fault)) e is = no_fault fault metadata (sym e ∙ is)

pub footer_found : (bytes : List ℕ) (metadata : FileMetaData) → IsBytes bytes → footer_at bytes ≡ Ok metadata → HasFooter bytes metadata × ClaimsWithinLimit metadata
unfolding footer_at
footer_found bytes metadata fits e =
    let b = bind_ok (frame_of bytes) (λ parts. metadata_at parts.1) metadata e in
    let f = frame_found bytes b.0.0 b.0.1 fits b.1 in
    let m = metadata_found b.0.1 metadata f.footer_fits b.2 in
    (record { pages = f.pages; footer = b.0.1; frame = f.frame; length_fits = f.length_fits; says = m.0 }, m.1)

pub footer_again : (bytes : List ℕ) (metadata : FileMetaData) → HasFooter bytes metadata → length bytes ≤ 67108864 → ClaimsWithinLimit metadata → footer_at bytes ≡ Ok metadata
unfolding footer_at
footer_again bytes metadata f small claims =
    let parts : Parts bytes f.pages f.footer = rw f.frame (parts_again f.pages f.footer f.length_fits) in
    rw (frame_again bytes f.pages f.footer parts small) (metadata_again f.footer metadata f.says claims)
