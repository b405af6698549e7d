-- What holds where a run ended, by what its lines came to.
use Rattle.std.proofs.Common.{◌≡◌, ◌≢◌, ◌⊎◌, ◌∙◌, ℕ, Bool, true, false, List, [], Option, None, Some, Result, Ok, Err, OnErr, OnOk, IfOk, inl, inr, refl, sym}
use Rattle.std.specs.Prelude.{⊤}
use Rattle.lake_script.specs.Ended.{LeavesOutput, end_of_script, short_of}
use Rattle.lake_script.specs.Runs.{TellsWhole}
use Rattle.lake_script.specs.Streams.{held, waiting, write_failed}
use Rattle.lake_script.specs.TextRuns.{EndsText}
use Rattle.lake_script.specs.Told.{Finishes, fell_short, first_bad}
use Rattle.lake_script.specs.declared.engine.End.TheVariants.{NotRead, NotWritten}
use Rattle.lake_script.specs.declared.engine.Outcome.{Outcome}
use Rattle.lake_script.specs.declared.outputs.Output.{Output}
use Rattle.lake_script.specs.declared.outputs.OutputError.{OutputError}
use Rattle.lake_script.specs.declared.outputs.OutputError.TheVariants.{Broken, Memory}

pub finishes : (ended : Result (Option ℕ) OutputError) (Holds : Type 0) → OnOk ended Holds → Finishes (end_of_script ended) (λ _. Holds)
finishes (Ok None) Holds holds = holds
finishes (Ok (Some number)) Holds holds = holds
finishes (Err error) Holds holds = tt

pub finishes_at : (ended : Result (Option ℕ) OutputError) (IsSo : Option ℕ → Type 0) → IfOk ended IsSo → Finishes (end_of_script ended) IsSo
finishes_at (Ok None) IsSo is = is
finishes_at (Ok (Some number)) IsSo is = is
finishes_at (Err error) IsSo is = tt

pub finishes_if : (ended : Result (Option ℕ) OutputError) (short is : Bool) (Holds : Type 0) → OnOk ended (short ≡ is → Holds) → short_of ended short ≡ is → Finishes (end_of_script ended) (λ _. Holds)
finishes_if (Ok None) short is Holds holds so = holds so
finishes_if (Ok (Some number)) short is Holds holds so = holds so
finishes_if (Err error) short is Holds holds so = tt

pub finishes_short : (ended : Result (Option ℕ) OutputError) (short : Bool) (Holds : Bool → Type 0) → OnOk ended (Holds short) → Finishes (end_of_script ended) (λ _. Holds (short_of ended short))
finishes_short (Ok None) short Holds holds = holds
finishes_short (Ok (Some number)) short Holds holds = holds
finishes_short (Err error) short Holds holds = tt

pub cut_off : (ended : Result (Option ℕ) OutputError) (Holds : Type 0) → OnErr ended Holds → end_of_script ended ≡ NotWritten → Holds
cut_off (Ok None) Holds holds ends = absurd cc
cut_off (Ok (Some number)) Holds holds ends = absurd cc
cut_off (Err error) Holds holds ends = holds

pub cut_off_unshort : (ended : Result (Option ℕ) OutputError) (short : Bool) (Holds : Type 0) → OnErr ended (short ≡ false → Holds) → short_of ended short ≡ false → end_of_script ended ≡ NotWritten → Holds
cut_off_unshort (Ok None) short Holds holds fine ends = absurd cc
cut_off_unshort (Ok (Some number)) short Holds holds fine ends = absurd cc
cut_off_unshort (Err Broken) short Holds holds fine ends = holds fine
cut_off_unshort (Err Memory) short Holds holds fine ends = absurd cc

pub why_cut_off : (ended : Result (Option ℕ) OutputError) (short broken : Bool) → (ended ≡ Err Broken → broken ≡ true) → end_of_script ended ≡ NotWritten → (broken ≡ true) ⊎ (short_of ended short ≡ true)
why_cut_off (Ok None) short broken breaks ends = absurd cc
why_cut_off (Ok (Some number)) short broken breaks ends = absurd cc
why_cut_off (Err Broken) short broken breaks ends = inl (breaks refl)
why_cut_off (Err Memory) short broken breaks ends = inr refl

pub was_read : (ended : Result (Option ℕ) OutputError) → end_of_script ended ≢ NotRead
was_read (Ok None) = λ wrong. cc
was_read (Ok (Some number)) = λ wrong. cc
was_read (Err error) = λ wrong. cc

-- either way
pub in_both : (ended : Result (Option ℕ) OutputError) (Whole Part Holds : Type 0) → (Whole → Holds) → (Part → Holds) → OnOk ended Whole → OnErr ended Part → Holds
in_both (Ok bad) Whole Part Holds whole part all some = whole all
in_both (Err error) Whole Part Holds whole part all some = part some

-- how a run leaves its output, by how its loop did
pub ends_text : {W : Type 0} (contents : W → Option (List ℕ)) (text : List ℕ) (ended : Result (Option ℕ) OutputError) (short : Bool) (outcome : Outcome) (old new : Output W)
    → outcome.end ≡ end_of_script ended → fell_short outcome ≡ short_of ended short → LeavesOutput contents text ended old new → EndsText contents text outcome old new
ends_text contents text ended short outcome old new ends falls leaves = record {
  output = record {
    nothing_waits = rw ends (finishes ended (waiting new ≡ []) leaves.through);
    behind = rw ends (finishes ended (TellsWhole (held contents old) (contents new.writer) (λ written. ⊤)) leaves.behind);
    broken_output = rw ends (finishes ended (write_failed new ≡ write_failed old) leaves.unbroken);
    not_written = λ cut. rw falls (why_cut_off ended short (write_failed new) leaves.broken (sym ends ∙ cut));
  };
  finished = rw ends (finishes_at ended (λ bad. bad ≡ first_bad text) leaves.bad);
  read = λ wrong. was_read ended (sym ends ∙ wrong);
}
