-- An append whose words say how many rows its input has.
use Rattle.std.proofs.Common.{◌≡◌, ◌⊎◌, inl, inr, ℕ, Bool, true, List, length, Option, Some, None, Result, Err, sym, ap, subst, ◌∙◌}
use Rattle.std.specs.Prelude.{IsErrAnd}
use Rattle.std.proofs.lemmas.List.{length-map}
use Rattle.serde_json.specs.Data.{Data}
use Rattle.json_lines.specs.Rows.{input_lines, json_object_in_line}
use Rattle.script_lines.specs.Lines.{Statement}
use Rattle.lake_script.specs.Streams.{write_failed}
use Rattle.lake_script.specs.declared.outputs.Output.{Output}
use Rattle.lake_script.specs.declared.reply.LineReply.{LineReply}
use Rattle.lake_hints.specs.declared.error_output.ErrorOutput.{ErrorOutput}
use Rattle.lake_words.specs.Asked.{Work}
use Rattle.lake_words.specs.Asked as words
use Rattle.lake_command.specs.Endings.{EndsWith, IsMisused}
use Rattle.lake_command.specs.Failures.{IsByFolder, IsOfInput}
use Rattle.lake_command.specs.Folders.{AreLineRows, IsAskedBy, IsMiscounted, IsNotYet}
use Rattle.lake_command.specs.declared.exit.Exit.{Exit}
use Rattle.lake_command.specs.declared.failure.Failure.{Failure}
use Rattle.lake_command.specs.declared.failure.Failure.TheVariants.{BadLine, Loading, Memory, Miscounted, Misused, NotRead, Saving}

-- there are as many rows as lines
row_count : (text : List ℕ) (rows : List Data) → AreLineRows text rows → length (input_lines text) ≡ length rows
row_count text rows are = sym (length-map (input_lines text) json_object_in_line) ∙ ap length are ∙ length-map rows (λ row. Some row)

-- what a job asks for has as many rows as its words say
pub asked_count : (work : Work) (text : Option (List ℕ)) (statement : Statement) → IsAskedBy work text statement → IsMiscounted work text → ⊥
asked_count (words.append application number at tries (Some count)) (Some known) statement asked other =
    other (ap (λ (bytes : List ℕ). length (input_lines bytes)) (sym asked.2) ∙ row_count asked.0 asked.1 asked.3 ∙ asked.5)
asked_count (words.append application number at tries (Some count)) None statement asked other = absurd other
asked_count (words.append application number at tries None) text statement asked other = absurd other
asked_count _ text statement asked other = absurd other

-- what isn't there yet counts no rows
pub later_count : (work : Work) (text : Option (List ℕ)) → IsNotYet work → IsMiscounted work text → ⊥
later_count (words.load workers at tries) text later other = absurd other
later_count _ text later other = absurd later

-- a call that gave a failure of the input failed so
pub refused_by : (result : Result LineReply Failure) (failure : Failure) (work : Work) (text : Option (List ℕ)) (is_broken : Bool) → result ≡ Err failure → IsOfInput failure work text is_broken
    → IsErrAnd result (λ f. IsOfInput f work text is_broken)
refused_by result failure work text is_broken is of = subst (λ (r : Result LineReply Failure). IsErrAnd r (λ f. IsOfInput f work text is_broken)) (sym is) of

-- a failure of the input is none of the folder
not_by_folder : (failure : Failure) (work : Work) (text : Option (List ℕ)) (is_broken : Bool) → IsOfInput failure work text is_broken → IsByFolder failure → ⊥
not_by_folder (Loading fault) work text is_broken of by = absurd of
not_by_folder (Saving fault) work text is_broken of by = absurd of
not_by_folder _ work text is_broken of by = absurd by

-- so what its call left is what was there
pub left_alone : {P : Type 0} (failure : Failure) (work : Work) (text : Option (List ℕ)) (is_broken : Bool) → IsOfInput failure work text is_broken → IsByFolder failure ⊎ P → P
left_alone failure work text is_broken of (inl by) = absurd (not_by_folder failure work text is_broken of by)
left_alone failure work text is_broken of (inr same) = same

-- the status of a failure of the input
pub input_ended : {W E : Type 0} (contents : W → Option (List ℕ)) (contents_err : E → Option (List ℕ)) (failure : Failure) (work : Work) (rows : ℕ) (text : Option (List ℕ)) (is_broken : Bool) (old new : Output W) (err_old err_new : ErrorOutput E) (exit : Exit)
    → IsOfInput failure work text is_broken → EndsWith contents contents_err work rows (Err failure) old new err_old err_new exit → IsMisused text is_broken (write_failed new) exit
input_ended contents contents_err Misused work rows text is_broken old new err_old err_new exit of (inl told) = inl told.status
input_ended contents contents_err Misused work rows text is_broken old new err_old err_new exit of (inr untold) = let none = untold.meant in cc
input_ended contents contents_err NotRead work rows text is_broken old new err_old err_new exit (reads, inl broken) ended = inr (inr (inl broken))
input_ended contents contents_err NotRead work rows text is_broken old new err_old err_new exit (reads, inr long) ended = inr (inr (inr (inr long)))
input_ended contents contents_err (BadLine number flaw) work rows text is_broken old new err_old err_new exit of (inl told) = inl told.status
input_ended contents contents_err (BadLine number flaw) work rows text is_broken old new err_old err_new exit of (inr untold) = by_cause untold.cause
  where
    by_cause : (write_failed new ≡ true) ⊎ (exit.is_short ≡ true) → IsMisused text is_broken (write_failed new) exit
    by_cause (inl failed) = inr (inr (inr (inl failed)))
    by_cause (inr short) = inr (inl short)
input_ended contents contents_err (Miscounted said found) work rows text is_broken old new err_old err_new exit of (inl told) = inl told.status
input_ended contents contents_err (Miscounted said found) work rows text is_broken old new err_old err_new exit of (inr untold) = let none = untold.meant in cc
input_ended contents contents_err Memory work rows text is_broken old new err_old err_new exit of (inl told) = inr (inl told.short)
input_ended contents contents_err Memory work rows text is_broken old new err_old err_new exit of (inr untold) = by_cause untold.cause
  where
    by_cause : (write_failed new ≡ true) ⊎ (exit.is_short ≡ true) → IsMisused text is_broken (write_failed new) exit
    by_cause (inl failed) = inr (inr (inr (inl failed)))
    by_cause (inr short) = inr (inl short)
input_ended contents contents_err (Loading fault) work rows text is_broken old new err_old err_new exit of ended = absurd of
input_ended contents contents_err (Saving fault) work rows text is_broken old new err_old err_new exit of ended = absurd of
