-- What a command writes, from what its script's run tells.
use Rattle.std.proofs.Common.{◌≡◌, ◌≢◌, ◌<◌, ◌≤◌, ◌+◌, ◌∙◌, ◌⊎◌, ℕ, suc, Bool, true, false, length, inl, inr, arith, List, [], Option, Some, None, IfSome, refl, sym, subst, ap}
use Rattle.std.proofs.lemmas.Bool.{cases_lt}
use Rattle.delta_actions.specs.Commit.{lines_of}
use Rattle.store_core.specs.Names.{greatest_version}
use Rattle.store_core.specs.Objects.{Objects}
use Rattle.clap.specs.Words.{IsAmong}
use Rattle.clap.specs.declared.error.kind.ErrorKind.{ErrorKind}
use Rattle.clap.specs.declared.error.kind.ErrorKind.TheVariants.{OutOfMemory}
use Rattle.lake_script.specs.declared.inputs.TheConstants.{MOST_BYTES, MOST_READS}
use Rattle.lake_script.specs.declared.engine.End.{End}
use Rattle.lake_script.specs.declared.engine.End.TheVariants.{Done, BadLine, NotRead, NotWritten}
use Rattle.lake_script.specs.declared.engine.Outcome.{Outcome}
use Rattle.lake_script.specs.declared.outputs.Output.{Output}
use Rattle.lake_script.proofs.Callers.{few_lines, well_of_empty}
use Rattle.lake_script.specs.Runs.{MayBeTold, Runs, TellsWhole}
use Rattle.lake_script.specs.Sound.{IsScriptRun}
use Rattle.lake_script.specs.Streams.{held}
use Rattle.lake_script.specs.Scripts.{IsScript}
use Rattle.lake_script.specs.Tables.{nothing, entries_of_state}
use Rattle.lake_script.specs.TextRuns.{IsTextRun}
use Rattle.lake_script.specs.SoundStores.{IsSoundStore}
use Rattle.lake_script.specs.Told.{ArePutHere, IsScriptTold, expected_output, fell_short, first_bad, Finishes}
use Rattle.lake_words.specs.Asked.{Spells, replaying, restoring}
use Rattle.lake_words.specs.declared.command.Command.{Command}
use Rattle.lake_words.specs.declared.command.Command.TheVariants.{Script, Table}
use Rattle.lake_words.specs.declared.command.TableCommand.{TableCommand}
use Rattle.lake_command.specs.Scripts.{IsPlayedOver, IsPlayedSo, IsToldOfTable, WritesScript}
use Rattle.world_script.specs.Words.{needs_world}
use Rattle.lake_hints.specs.ErrorOutputs.{TellsSome}
use Rattle.lake_hints.specs.declared.error_output.ErrorOutput.{ErrorOutput}
use Rattle.lake_command.specs.ErrorTexts.{IsBadLineTold, IsEndTold}
use Rattle.lake_command.specs.Status.{IsStatusOf, status_at, status_of, status_of_kind}
use Rattle.world_script.specs.ByLines.{IsTextSo}
use Rattle.world_script.specs.Playing.{PlaysShort, PlaysSo}
use Rattle.world_script.specs.Scenes.{first_scene}
use Rattle.world_script.specs.WorldRuns.{IsRunOfText, IsWorldRun}

-- what is written over nothing is what the script is told
tells_of_run : (old new : Option (List ℕ)) (text : List ℕ) (after : Objects) → IsScriptRun [] text old new after → TellsWhole old new (IsScriptTold [] text)
tells_of_run old new text after run = (expected_output [] text run.texts, run.told, (run.texts, run.printed, refl))

-- a text that was read has no more lines than there can be versions
few_by : (end : End) (text : List ℕ) → status_of end ≢ 1 → (MOST_BYTES < length text → end ≡ NotRead) → length (entries_of_state nothing) + length (lines_of text) ≤ suc greatest_version
few_by end text fine limit =
    elim (cases_lt MOST_BYTES (length text)) [
      | inl long ↦ absurd (fine (ap status_of (limit long)))
      | inr short ↦ omega (arith, few_lines text, short)
    ]

-- the input of one that isn't refused was read
pub read_by : (end : End) → status_of end ≢ 1 → end ≢ NotRead
read_by end fine unread = fine (ap status_of unread)

-- what a run that isn't refused has told
has_told : (end : End) (P : Type 0) → status_of end ≢ 1 → Finishes end (λ _. P) → P
has_told Done P fine run = run
has_told (BadLine number) P fine run = run
has_told NotRead P fine run = absurd (fine refl)
has_told NotWritten P fine run = absurd (fine refl)

-- of a text that may not be known: what is so of a run without actors, and of one with them
pub plain_of : {W S : Type 0} (contents : W → Option (List ℕ)) (objects : S → Objects) (uses : Bool) (outcome : Outcome) (old new : Output W) (before after : S) (is_reliable : Type 0) (input : Option (List ℕ))
    → (is_reliable → IfSome input (λ text. IsRunOfText contents objects uses text outcome old new before after))
    → IfSome input (λ text. needs_world text ≡ false → is_reliable → IsTextRun uses text outcome (held contents old) (contents new.writer) (objects before) (objects after))
plain_of contents objects uses outcome old new before after is_reliable None runs = tt
plain_of contents objects uses outcome old new before after is_reliable (Some text) runs = λ none reliable. (runs reliable).plain none

pub played_of : {W S : Type 0} (contents : W → Option (List ℕ)) (objects : S → Objects) (uses : Bool) (outcome : Outcome) (old new : Output W) (before after : S) (is_reliable : Type 0) (input : Option (List ℕ))
    → (is_reliable → IfSome input (λ text. IsRunOfText contents objects uses text outcome old new before after))
    → IfSome input (λ text. needs_world text ≡ true → is_reliable → IsWorldRun uses text outcome (held contents old) (contents new.writer) (objects before) (objects after))
played_of contents objects uses outcome old new before after is_reliable None runs = tt
played_of contents objects uses outcome old new before after is_reliable (Some text) runs = λ has reliable. (runs reliable).played has

-- why one is refused
pub refused_because : (end : End) (status : ℕ) (is_short fell is_broken is_unwritten : Bool) (input : Option (List ℕ)) → status ≡ status_of end → status ≡ 1 → is_short ≡ fell
    → (end ≡ NotRead → (is_broken ≡ true) ⊎ ((fell ≡ true) ⊎ IfSome input (λ text. MOST_READS ≤ length text))) → (end ≡ NotWritten → (is_unwritten ≡ true) ⊎ (fell ≡ true))
    → (is_short ≡ true) ⊎ ((is_broken ≡ true) ⊎ ((is_unwritten ≡ true) ⊎ IfSome input (λ text. MOST_READS ≤ length text)))
refused_because Done status is_short fell is_broken is_unwritten input same is short unread unwritten = let no = sym same ∙ is in cc
refused_because (BadLine number) status is_short fell is_broken is_unwritten input same is short unread unwritten = let no = sym same ∙ is in cc
refused_because NotRead status is_short fell is_broken is_unwritten input same is short unread unwritten = by_input (unread refl)
  where
    by_input : (is_broken ≡ true) ⊎ ((fell ≡ true) ⊎ IfSome input (λ text. MOST_READS ≤ length text)) → (is_short ≡ true) ⊎ ((is_broken ≡ true) ⊎ ((is_unwritten ≡ true) ⊎ IfSome input (λ text. MOST_READS ≤ length text)))
    by_input (inl broken) = inr (inl broken)
    by_input (inr (inl fallen)) = inl (short ∙ fallen)
    by_input (inr (inr long)) = inr (inr (inr long))
refused_because NotWritten status is_short fell is_broken is_unwritten input same is short unread unwritten = by_output (unwritten refl)
  where
    by_output : (is_unwritten ≡ true) ⊎ (fell ≡ true) → (is_short ≡ true) ⊎ ((is_broken ≡ true) ⊎ ((is_unwritten ≡ true) ⊎ IfSome input (λ text. MOST_READS ≤ length text)))
    by_output (inl failed) = inr (inr (inl failed))
    by_output (inr fallen) = inl (short ∙ fallen)

-- the status of words that can't be read
pub status_of_words : (kinds : List ErrorKind) (kind : ErrorKind) (status : ℕ) (is_short : Bool) → status ≡ status_of_kind kind → (kind ≡ OutOfMemory → is_short ≡ true) → (kind ≡ OutOfMemory) ⊎ IsAmong kind kinds
    → IsStatusOf kinds status is_short
status_of_words kinds kind status is_short same short (inl memory) = inl (same ∙ ap status_of_kind memory, short memory)
status_of_words kinds kind status is_short same short (inr among) = inr (kind, among, same)

-- What is written of a script over nothing that isn't refused: of a text that is known, by what its run came to.
module _ (uses : Bool) (outcome : Outcome) (old new : Option (List ℕ)) (after : Objects) (fine : status_of outcome.end ≢ 1) where
  module _ (text : List ℕ) (limit : MOST_BYTES < length text → outcome.end ≡ NotRead) where
    by_table_of : (needs_world text ≡ false → IsTextRun uses text outcome old new [] after) → needs_world text ≡ false → fell_short outcome ≡ false → IsScript nothing old new text [] after
    by_table_of plain none whole = has_told outcome.end _ fine ((plain none).script nothing (well_of_empty uses [] refl) refl whole) (few_by outcome.end text fine limit)

    writes : (needs_world text ≡ false → IsTextRun uses text outcome old new [] after) → (needs_world text ≡ true → IsWorldRun uses text outcome old new [] after)
        → (needs_world text ≡ true → ArePutHere (lines_of text) → TellsWhole old new (λ written. IsTextSo uses text written after)) → WritesScript uses text (fell_short outcome) old new
    writes plain played headline = record {
      told = λ none whole. tells_of_run old new text after (has_told outcome.end _ fine ((plain none).told (well_of_empty uses [] refl) whole));
      tables = λ none whole. (by_table_of plain none whole).by_table;
      shown = λ none whole. (by_table_of plain none whole).over;
      short = λ none so. has_told outcome.end _ fine ((plain none).short (well_of_empty uses [] refl) so);
      tells = λ none. may_be_told (has_told outcome.end _ fine ((plain none).tells (well_of_empty uses [] refl)));
      plays = λ has. is_played (has_told outcome.end _ fine (played has).tells_short);
      headline = λ has here. is_told_of ((played has).sound refl here).so.sound (headline has here);
      worlds = λ has here. is_played_so (has_told outcome.end _ fine ((played has).worlds refl here));
    }
      where
        may_be_told : TellsWhole old new (λ written. Runs 1 [] (lines_of text) written after) → TellsWhole old new (MayBeTold [] text)
        may_be_told told = (told.0, told.1, (after, told.2))

        is_played : TellsWhole old new (λ written. PlaysShort (first_scene [] uses) text written (fell_short outcome) after) → TellsWhole old new (IsPlayedOver uses text (fell_short outcome))
        is_played told = (told.0, told.1, (after, told.2))

        is_played_so : TellsWhole old new (λ written. PlaysSo (first_scene [] uses) text written after) → TellsWhole old new (IsPlayedSo uses text)
        is_played_so told = (told.0, told.1, (after, told.2))

        is_told_of : IsSoundStore after → TellsWhole old new (λ written. IsTextSo uses text written after) → TellsWhole old new (IsToldOfTable uses text)
        is_told_of sound told = (told.0, told.1, (after, sound, told.2))

  -- the same where the text may not be known, over a store that loses no call
  pub written_of : (is_reliable : Type 0) (input : Option (List ℕ)) (before : Objects) → IfSome input (λ text. MOST_BYTES < length text → outcome.end ≡ NotRead)
      → IfSome input (λ text. needs_world text ≡ false → is_reliable → IsTextRun uses text outcome old new before after) → IfSome input (λ text. needs_world text ≡ true → is_reliable → IsWorldRun uses text outcome old new before after)
      → (is_reliable → before ≡ [] → Finishes outcome.end (λ _. IfSome input (λ text. needs_world text ≡ true → ArePutHere (lines_of text) → TellsWhole old new (λ written. IsTextSo uses text written after))))
      → is_reliable → before ≡ [] → IfSome input (λ text. WritesScript uses text (fell_short outcome) old new)
  written_of is_reliable None before limit plain played headline reliable empty = tt
  written_of is_reliable (Some text) before limit plain played headline reliable empty =
      writes text limit (λ none. subst (λ (o : Objects). IsTextRun uses text outcome old new o after) empty (plain none reliable)) (λ has. subst (λ (o : Objects). IsWorldRun uses text outcome old new o after) empty (played has reliable))
      (has_told outcome.end _ fine (headline reliable empty))

-- why the first bad line of one that isn't refused is bad is told on standard error
pub bad_line_told : {E : Type 0} (contents : E → Option (List ℕ)) (end : End) (input : Option (List ℕ)) (status : ℕ) (old new : ErrorOutput E) → status_of end ≢ 1 → status ≡ status_of end
    → Finishes end (λ bad. IfSome input (λ text. bad ≡ first_bad text)) → TellsSome contents (IsEndTold end) old new
    → IfSome input (λ text. (status ≡ status_at (first_bad text)) × TellsSome contents (IsBadLineTold (first_bad text)) old new)
bad_line_told contents Done None status old new fine is run told = tt
bad_line_told contents Done (Some text) status old new fine is run told = (is ∙ ap status_at run, subst (λ (bad : Option ℕ). TellsSome contents (IsBadLineTold bad) old new) run told)
bad_line_told contents (BadLine number) None status old new fine is run told = tt
bad_line_told contents (BadLine number) (Some text) status old new fine is run told = (is ∙ ap status_at run, subst (λ (bad : Option ℕ). TellsSome contents (IsBadLineTold bad) old new) run told)
bad_line_told contents NotRead input status old new fine is run told = absurd (fine refl)
bad_line_told contents NotWritten input status old new fine is run told = absurd (fine refl)

-- words that ask for a script ask for no job on a folder
pub no_job : (words : List (List ℕ)) (c : Command) (t : TableCommand) → Spells words c → Table t ≡ c → ⊥
no_job words c t restoring e = absurd cc
no_job words c t replaying e = absurd cc

abbrev pub is_script : Command → Bool
is_script (Script use_checkpoints) = true
is_script _ = false

-- nor for anything else
pub no_other : (words : List (List ℕ)) (c other : Command) → Spells words c → other ≡ c → is_script other ≡ false → ⊥
no_other words c other restoring e not_one = let both = sym (ap is_script e) ∙ not_one in cc
no_other words c other replaying e not_one = let both = sym (ap is_script e) ∙ not_one in cc
