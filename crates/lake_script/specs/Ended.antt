-- How a run ended, by what its loop came to, and how the loop leaves the output.
use Rattle.std.specs.Prelude.{◌≡◌, ℕ, Bool, true, List, [], Option, None, Some, Result, Ok, Err, IfOk, OnOk, ⊤}
use Rattle.lake_script.specs.Runs.{TellsWhole}
use Rattle.lake_script.specs.Streams.{held, waiting, write_failed}
use Rattle.lake_script.specs.Told.{first_bad}
use Rattle.lake_script.specs.declared.engine.End.{End}
use Rattle.lake_script.specs.declared.engine.End.TheVariants.{BadLine, Done, NotWritten}
use Rattle.lake_script.specs.declared.outputs.Output.{Output}
use Rattle.lake_script.specs.declared.outputs.OutputError.{OutputError}
use Rattle.lake_script.specs.declared.outputs.OutputError.TheVariants.{Broken, Memory}

abbrev pub end_of_script : Result (Option ℕ) OutputError → End
end_of_script (Ok None) = Done
end_of_script (Ok (Some number)) = BadLine number
end_of_script (Err error) = NotWritten

-- a growth may also be refused where a reply is made
abbrev pub short_of : Result (Option ℕ) OutputError → (is_short : Bool) → Bool
short_of (Ok bad) is_short = is_short
short_of (Err Broken) is_short = is_short
short_of (Err Memory) is_short = true

-- How the output is left when the lines of a text were answered, whatever lines do. The result is the number of the first
-- bad line.
pub record LeavesOutput {W : Type 0} (contents : W → Option (List ℕ)) (text : List ℕ) (ended : Result (Option ℕ) OutputError) (old new : Output W) : Type 0 where
  pub bad : IfOk ended (λ bad. bad ≡ first_bad text)
  pub through : OnOk ended (waiting new ≡ [])
  -- What is written stands behind what was held.
  pub behind : OnOk ended (TellsWhole (held contents old) (contents new.writer) (λ written. ⊤))
  pub unbroken : OnOk ended (write_failed new ≡ write_failed old)
  pub broken : ended ≡ Err Broken → write_failed new ≡ true
