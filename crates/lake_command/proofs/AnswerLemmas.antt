-- What an answer to a job tells and leaves: where its words or its input are refused, and where its line was run.
use Rattle.std.proofs.Common.{◌≡◌, ◌⊎◌, inl, inr, ℕ, Bool, false, List, Bor, Option, Some, None, IfSome, length, map, Result, Ok, Err, IfErr, IfOk, ap, refl, sym, subst, ◌∙◌}
use Rattle.std.proofs.lemmas.List.{length-map}
use Rattle.store_core.specs.Calls.{HasRisen}
use Rattle.store_core.specs.Objects.{Objects}
use Rattle.table_folder.specs.declared.fault.SaveFault.TheVariants as saves
use Rattle.json_lines.specs.Rows.{input_lines}
use Rattle.script_lines.specs.Lines.{Statement}
use Rattle.lake_script.specs.ReplyView.{reply_text}
use Rattle.lake_script.specs.declared.reply.LineReply.{LineReply}
use Rattle.lake_words.specs.Asked.{Work}
use Rattle.lake_words.specs.Asked as words
use Rattle.lake_command.specs.Answering.{GoesByInput, IsAnswerOver, KeepsFolder}
use Rattle.lake_command.specs.Counts.{IsRowCount, rows_at_hand}
use Rattle.lake_command.specs.Failures.{FailureComesOfACall, IsByFolder, IsCommitTaken, IsOfInput}
use Rattle.lake_command.specs.Folders.{IsAskedBy, IsJobAnswer, IsNotYet, reads_input}
use Rattle.lake_command.specs.declared.failure.Failure.{Failure}
use Rattle.lake_command.specs.declared.failure.Failure.TheVariants.{Saving}
use Rattle.lake_command.specs.declared.job_line.JobLine.{JobLine}
use Rattle.lake_command.proofs.AgainLemmas.{input_alone, input_leaves}
use Rattle.lake_command.proofs.CountLemmas.{asked_count, refused_by}

-- ---- the words or the input are refused

-- the folder is as it was
pub refused_over : (result : Result LineReply Failure) (failure : Failure) (work : Work) (text : Option (List ℕ)) (is_broken : Bool) (objects : Objects) (count : ℕ) → result ≡ Err failure → IsOfInput failure work text is_broken
    → IsAnswerOver result work text objects objects count count
refused_over result failure work text is_broken objects count is of = record {
  told = subst (λ (r : Result LineReply Failure). IfOk r (λ reply. IsJobAnswer work text objects (reply_text reply) objects)) (sym is) tt;
  failed = input_leaves result failure work text is_broken objects is of;
  alone = input_alone result failure work text is_broken count is of;
  puts = inl refl;
}

-- and isn't touched
pub refused_by_input : {F I : Type 0} (result : Result LineReply Failure) (failure : Failure) (work : Work) (text : Option (List ℕ)) (is_broken : Bool) (folder : F) (input_old input_new : I) (count : ℕ) → result ≡ Err failure
    → IsOfInput failure work text is_broken → (reads_input work ≡ false → input_new ≡ input_old) → (IsNotYet work → ⊥) → GoesByInput result work text is_broken folder folder input_old input_new count
refused_by_input {F} result failure work text is_broken folder input_old input_new count is of untouched there = record {
  first = subst (λ (r : Result LineReply Failure). IfErr r (λ f. IsByFolder f ⊎ (folder ≡ folder))) (sym is) (inr refl);
  counted = λ other. refused_by result failure work text is_broken is of;
  input_untouched = untouched;
  later = λ later. absurd (there later);
  rows = subst (λ (r : Result LineReply Failure). IfOk r (λ _. IsRowCount work text count)) (sym is) tt;
}

-- so a steady folder keeps all that it has
pub keeps_all : (stays_steady : Type 0) (objects : Objects) → stays_steady → KeepsFolder stays_steady objects objects
keeps_all stays_steady objects steady = record {
  sound = λ bytes sound. sound;
  kept = λ name bytes stands. stands;
  steady = steady;
}

-- ---- what isn't there yet

-- has no rows
pub later_rows : (work : Work) (text : Option (List ℕ)) (rows : ℕ) → IsNotYet work → IsRowCount work text rows
later_rows (words.load workers at tries) text rows later = tt
later_rows _ text rows later = absurd later

-- and asks for nothing
asked_there : (work : Work) (text : Option (List ℕ)) (statement : Statement) → IsAskedBy work text statement → IsNotYet work → ⊥
asked_there (words.load workers at tries) text statement asked later = asked
asked_there _ text statement asked later = absurd later

-- ---- its line was run

by_folder_first : (P : Type 0) (result : Result LineReply Failure) → IfErr result (λ failure. IsByFolder failure) → IfErr result (λ failure. IsByFolder failure ⊎ P)
by_folder_first P (Ok reply) by = tt
by_folder_first P (Err failure) by = inl by

of_reply : {P : Type 0} (result : Result LineReply Failure) → P → IfOk result (λ _. P)
of_reply (Ok reply) is = is
of_reply (Err failure) is = tt

-- behind an input that asks for it
pub ran_by_input : {F I : Type 0} (result : Result LineReply Failure) (work : Work) (text : Option (List ℕ)) (is_broken : Bool) (statement : Statement) (folder_old folder_new : F) (input_old input_new : I) (count : ℕ) → IsAskedBy work text statement
    → IfErr result (λ failure. IsByFolder failure) → (reads_input work ≡ false → input_new ≡ input_old) → IsRowCount work text count → GoesByInput result work text is_broken folder_old folder_new input_old input_new count
ran_by_input result work text is_broken statement folder_old folder_new input_old input_new count asked by untouched counts = record {
  first = by_folder_first (folder_new ≡ folder_old) result by;
  counted = λ other. absurd (asked_count work text statement asked other);
  input_untouched = untouched;
  later = λ later. absurd (asked_there work text statement asked later);
  rows = of_reply result counts;
}

-- the rows of an append are counted as those of its line
pub found_rows : (found : Option JobLine) (line : JobLine) (work : Work) (text : Option (List ℕ)) (rows : ℕ) → found ≡ Some line → rows ≡ rows_at_hand line → IfSome found (λ l. IsRowCount work text (rows_at_hand l)) → IsRowCount work text rows
found_rows found line work text rows is count counts =
    subst (λ (n : ℕ). IsRowCount work text n) (sym count) (subst (λ (f : Option JobLine). IfSome f (λ l. IsRowCount work text (rows_at_hand l))) is counts)

-- which has a text for each line of the input
pub texts_count : (known : Option (List ℕ)) (text : List ℕ) (texts : List (Bor (List ℕ))) → IfSome known (λ bytes. text ≡ bytes) → map (λ object. object.now) texts ≡ input_lines text → IfSome known (λ bytes. length texts ≡ length (input_lines bytes))
texts_count None text texts is read = tt
texts_count (Some bytes) text texts is read = sym (length-map texts (λ object. object.now)) ∙ ap length read ∙ ap (λ (b : List ℕ). length (input_lines b)) is

-- over a steady folder no commit's name is taken but for a call that failed
pub taken_rose : (result : Result LineReply Failure) (old new before after : ℕ) → before ≡ old → after ≡ new → IsCommitTaken result → FailureComesOfACall result old new → HasRisen before after
taken_rose (Err (Saving (saves.NotSaved name reason))) old new before after is_before is_after taken risen = subst (λ (n : ℕ). HasRisen n after) (sym is_before) (subst (λ (n : ℕ). HasRisen old n) (sym is_after) risen)
taken_rose _ old new before after is_before is_after taken risen = absurd taken
