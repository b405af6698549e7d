-- How a code is explained, and all of them.
use Rattle.std.specs.Prelude.{◌≡◌, ◌⊎◌, ◌++◌, ℕ, List, Option, Some, None, true, false, codes, map}
use Rattle.std.specs.Io.KnownBytes.{Appends}
use Rattle.std.specs.Str.{str_eq_ignore_ascii_case}
use Rattle.outcomes.specs.Lines.{with_newline}
use Rattle.lake_script.specs.Streams.{held, write_failed}
use Rattle.lake_script.specs.declared.outputs.Output.{Output}
use Rattle.lake_hints.specs.ErrorOutputs.{TellsText, TellsSome}
use Rattle.lake_hints.specs.declared.error_output.ErrorOutput.{ErrorOutput}
use Rattle.refusal_texts.specs.Codes.{fault_codes, has_entry_like, refusal_codes}
use Rattle.refusal_texts.specs.Replies.{code_asked}
use Rattle.refusal_texts.specs.Texts.{refusal_text}
use Rattle.refusal_texts.specs.declared.refusal.Refusal.{Refusal}
use Rattle.lake_command.specs.ErrorTexts.{IsUnwrittenTold, lines_text}
use Rattle.lake_command.specs.declared.exit.Exit.{Exit}

-- the entry is told of the code that a text asks for, whether its letters are capitals or not
pub record TellsEntry {W : Type 0} (contents : W → Option (List ℕ)) (asked : List ℕ) (old new : Output W) (exit : Exit) : Type 0 where
  pub refusal : Refusal
  pub own : str_eq_ignore_ascii_case refusal.code.now (code_asked asked) ≡ true
  pub told : Appends (held contents old) (contents new.writer) (with_newline (refusal_text refusal))
  pub status : exit.status ≡ 0

-- no refusal has it, which is told on standard error
pub record TellsNone {W E : Type 0} (contents_err : E → Option (List ℕ)) (asked : List ℕ) (old new : Output W) (err_old err_new : ErrorOutput E) (exit : Exit) : Type 0 where
  pub unlisted : has_entry_like (code_asked asked) ≡ false
  pub untouched : new ≡ old
  pub told : TellsText contents_err err_old err_new (with_newline (codes "error: no refusal has the code '" ++ (asked ++ codes "'")))
  pub status : exit.status ≡ 2

-- an entry for each code that has one is told, a line each, in their order
abbrev pub IsEntryList : List Refusal → List ℕ → Type 0
IsEntryList entries text = (map (λ entry. entry.code.now) entries ≡ refusal_codes ++ fault_codes) × (text ≡ lines_text (map refusal_text entries))

pub record TellsAll {W : Type 0} (contents : W → Option (List ℕ)) (old new : Output W) (exit : Exit) : Type 0 where
  pub entries : List Refusal
  pub text : List ℕ
  pub whole : IsEntryList entries text
  pub told : Appends (held contents old) (contents new.writer) text
  pub status : exit.status ≡ 0

-- a growth was refused or a write failed, which is told on standard error
abbrev pub IsNotExplained : {W E : Type 0} → (E → Option (List ℕ)) → (new : Output W) → (err_old err_new : ErrorOutput E) → Exit → Type 0
IsNotExplained contents_err new err_old err_new exit =
    (exit.status ≡ 1) × ((exit.is_short ≡ true) ⊎ (write_failed new ≡ true)) × TellsSome contents_err IsUnwrittenTold err_old err_new

-- Of a text one of the first two comes, and without one all entries, where standard error is as it was; or it isn't told.
abbrev pub IsExplained : {W E : Type 0} → (W → Option (List ℕ)) → (E → Option (List ℕ)) → (asked : Option (List ℕ)) → (old new : Output W) → (err_old err_new : ErrorOutput E) → Exit → Type 0
IsExplained contents contents_err (Some asked) old new err_old err_new exit =
    (TellsEntry contents asked old new exit × (err_new ≡ err_old)) ⊎ (TellsNone contents_err asked old new err_old err_new exit ⊎ IsNotExplained contents_err new err_old err_new exit)
IsExplained contents contents_err None old new err_old err_new exit =
    (TellsAll contents old new exit × (err_new ≡ err_old)) ⊎ IsNotExplained contents_err new err_old err_new exit

-- so is what words ask for, unless memory runs out for them
abbrev pub Explains : {W E : Type 0} → (W → Option (List ℕ)) → (E → Option (List ℕ)) → (asked : Option (List ℕ)) → (old new : Output W) → (err_old err_new : ErrorOutput E) → Exit → Type 0
Explains contents contents_err asked old new err_old err_new exit =
    ((exit.status ≡ 1) × (exit.is_short ≡ true)) ⊎ IsExplained contents contents_err asked old new err_old err_new exit
