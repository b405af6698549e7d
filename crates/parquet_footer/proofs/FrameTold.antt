-- What the two parts of a file that are found tell: they frame it, and the parts of a framed file are found.
use Rattle.std.proofs.Common.{◌≡◌, ℕ, ◌≤◌, List, length, Result, Ok, Err, IfOk, sym, ◌∙◌}
use Rattle.lake_bytes.specs.Reading.{IsReading}
use Rattle.outcomes.specs.Bytes.{IsBytes}
use Rattle.parquet_footer.specs.Frame.{FramedAs, frame_of}
use Rattle.parquet_footer.specs.declared.fault.FileFault.{FileFault}
use Rattle.parquet_footer.proofs.FoundFrame.{frame_found}
use Rattle.parquet_footer.proofs.OnlyFrame.{Parts, parts_again, frame_again}

pub framed_found : (bytes front footer : List ℕ) → IsBytes bytes → frame_of bytes ≡ Ok (front, footer) → FramedAs bytes front footer
framed_found bytes front footer fits e =
    let f = frame_found bytes front footer fits e in
    record { pages = f.pages; begins = f.begins; frame = f.frame; length_fits = f.length_fits }

pub framed_again : (bytes front footer : List ℕ) → FramedAs bytes front footer → length bytes ≤ 67108864 → frame_of bytes ≡ Ok (front, footer)
framed_again bytes front footer f small =
    let parts : Parts bytes f.pages footer = rw f.frame (parts_again f.pages footer f.length_fits) in
    rw f.begins (frame_again bytes f.pages footer parts small)

-- ---- as a reading that is seen through a view

pub view_framed : {X : Type 0} (seen : X → List ℕ × List ℕ) (bytes : List ℕ) (result : Result X FileFault) → IsBytes bytes → IsReading seen result (frame_of bytes) → IfOk result (λ x. FramedAs bytes (seen x).0 (seen x).1)
view_framed seen bytes (Ok x) fits e = framed_found bytes (seen x).0 (seen x).1 fits e
view_framed seen bytes (Err fault) fits e = tt

pub view_again : {X : Type 0} (seen : X → List ℕ × List ℕ) (bytes front footer : List ℕ) (result : Result X FileFault) → IsReading seen result (frame_of bytes) → FramedAs bytes front footer → length bytes ≤ 67108864
    → IsReading {Y = List ℕ × List ℕ} seen result (Ok (front, footer))
view_again seen bytes front footer (Ok x) e f small = sym (framed_again bytes front footer f small) ∙ e
view_again seen bytes front footer (Err fault) e f small = sym (framed_again bytes front footer f small) ∙ e
