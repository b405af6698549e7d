-- The file, put together from its groups and its footer.
use Rattle.std.proofs.Common.{◌≡◌, ℕ, ◌+◌, ◌<◌, ◌≤◌, List, ◌++◌, length, true, false, Ok, Err, refl, sym, ap, ◌∙◌, arith, append_assoc, nat_lt}
use Rattle.std.specs.Int.{w32, to_le_bytes}
use Rattle.std.proofs.lemmas.Bool.{le-ltb, lt-ltb}
use Rattle.std.proofs.lemmas.List.{length-append}
use Rattle.outcomes.specs.Outcome.{IsSaid}
use Rattle.outcomes.proofs.Callers.{said_too}
use Rattle.thrift_core.specs.Tree as thrift
use Rattle.thrift_core.specs.Writing.{written}
use Rattle.row_core.specs.Rows.{Row}
use Rattle.schema_tree.specs.Tree.{Tree}
use Rattle.parquet_footer.specs.Frame.{framed, magic}
use Rattle.parquet_footer.specs.Outcome.{says}
use Rattle.parquet_footer.specs.declared.fault.FileError.{FileError}
use Rattle.parquet_footer.specs.declared.fault.FileFault.{FileFault}
use Rattle.parquet_footer.specs.declared.fault.FileFault.TheVariants.{TooLarge}
use Rattle.parquet_file.specs.Writing.{file_within_limit, footer_bytes, footer_form, footer_tree, groups_written, is_short_named, written_file}

-- Few rows, and short names.
pub record MayBeWritten (t : Tree) (rows : List Row) : Type 0 where
  pub few : length rows ≤ 4194304
  pub named : is_short_named t ≡ true

few_rows : (t : Tree) (rows : List Row) → MayBeWritten t rows → nat_lt 4194304 (length rows) ≡ false
few_rows t rows may = le-ltb _ _ may.few

file_as : (t : Tree) (rows : List Row) (bytes : List ℕ) (groups : List thrift.Tree) → MayBeWritten t rows
    → groups_written t rows ≡ Ok (bytes, groups)
    → written_file t rows ≡ file_within_limit bytes (footer_bytes t groups (length rows))
unfolding written_file
file_as t rows bytes groups may put = rw (few_rows t rows may, may.named, put) refl

refused_where : (t : Tree) (rows : List Row) (fault : FileFault) → MayBeWritten t rows → groups_written t rows ≡ Err fault
    → written_file t rows ≡ Err fault
unfolding written_file
refused_where t rows fault may e = rw (few_rows t rows may, may.named, e) refl

-- where the groups aren't written, the file isn't
pub file_refused : (t : Tree) (rows : List Row) (error : FileError) → MayBeWritten t rows
    → IsSaid (says error) (groups_written t rows) → IsSaid (says error) (written_file t rows)
file_refused t rows error may said =
    said_too (says error) (groups_written t rows) (written_file t rows) (λ fault e. refused_where t rows fault may e) said

framed_length : (pages footer : List ℕ) → length (framed pages footer) ≡ length pages + length footer + 12
framed_length pages footer =
    let ends = to_le_bytes w32 (length footer) ++ magic in
    let tail : length ends ≡ 8 = refl in
    omega (
      arith,
      tail,
      length-append footer ends,
      length-append pages (footer ++ ends),
      length-append magic (pages ++ (footer ++ ends)),
    )

-- What was written before the footer, and the footer.
pub record AreWritten (t : Tree) (rows : List Row) (front footer : List ℕ) : Type 0 where
  pub pages : List ℕ
  pub begins : front ≡ magic ++ pages
  pub are : written_file t rows ≡ file_within_limit pages footer

pub are_written : (t : Tree) (rows : List Row) (groups : List thrift.Tree) (old front footer : List ℕ) (count : ℕ)
    (tree : thrift.Tree) → MayBeWritten t rows → old ≡ magic → count ≡ length rows → tree ≡ footer_tree t groups count
    → footer ≡ written footer_form tree
    → (bytes : List ℕ) × (groups_written t rows ≡ Ok (bytes, groups)) × (front ≡ old ++ bytes)
    → AreWritten t rows front footer
are_written t rows groups old front footer count tree may begins many is spelled put =
    let last : footer ≡ footer_bytes t groups (length rows) = rw (spelled, is, many) refl in
    record {
      pages = put.0;
      begins = put.2 ∙ ap (λ (o : List ℕ). o ++ put.0) begins;
      are = file_as t rows put.0 groups may put.1 ∙ ap (file_within_limit put.0) (sym last);
    }

-- a file that would be too long
pub too_long : (t : Tree) (rows : List Row) (front footer : List ℕ) → AreWritten t rows front footer
    → 67108864 < length front + length footer + 8 → written_file t rows ≡ Err TooLarge
too_long t rows front footer w long =
    let place : length front ≡ 4 + length w.pages = ap length w.begins ∙ length-append magic w.pages in
    let test : nat_lt 67108864 (length (framed w.pages footer)) ≡ true =
    lt-ltb _ _ (omega (arith, place, framed_length w.pages footer)) in
    w.are ∙ rw test refl

-- a file that isn't too long
pub whole_file : (t : Tree) (rows : List Row) (front footer bytes : List ℕ) → AreWritten t rows front footer
    → length front + length footer + 8 ≤ 67108864
    → bytes ≡ front ++ (footer ++ (to_le_bytes w32 (length footer) ++ magic)) → written_file t rows ≡ Ok bytes
whole_file t rows front footer bytes w short is =
    let place : length front ≡ 4 + length w.pages = ap length w.begins ∙ length-append magic w.pages in
    let test : nat_lt 67108864 (length (framed w.pages footer)) ≡ false =
    le-ltb _ _ (omega (arith, place, framed_length w.pages footer)) in
    let ends = footer ++ (to_le_bytes w32 (length footer) ++ magic) in
    let whole : bytes ≡ framed w.pages footer =
    is ∙ (ap (λ (f : List ℕ). f ++ ends) w.begins ∙ append_assoc magic w.pages ends) in
    w.are ∙ (rw test refl ∙ ap (λ (b : List ℕ). Ok b) (sym whole))
