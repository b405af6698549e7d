-- The exit status of a command.
use Rattle.std.specs.Prelude.{◌≡◌, ◌⊎◌, ◌||◌, ℕ, Bool, true, false, List, Option, Some, None, codes, nat_eq, string_bytes}
use Rattle.std.specs.List.{list_any, starts_with}
use Rattle.delta_actions.specs.Commit.{lines_of}
use Rattle.table_folder.specs.declared.fault.LoadFault.TheVariants as loads
use Rattle.table_folder.specs.declared.fault.SaveFault.TheVariants as saves
use Rattle.lake_script.specs.declared.reply.LineReply.{LineReply}
use Rattle.lake_script.specs.declared.reply.LineReply.TheVariants.{Created, SinkTold, Checkpointed, Put, Bytes, Digits, Noted}
use Rattle.lake_words.specs.Asked.{Work}
use Rattle.lake_words.specs.Asked as words
use Rattle.lake_command.specs.declared.failure.Failure.{Failure}
use Rattle.lake_command.specs.declared.failure.Failure.TheVariants.{Misused, BadLine, Miscounted, Memory, Loading, Saving}
use Rattle.clap.specs.Words.{IsAmong}
use Rattle.clap.specs.declared.error.kind.ErrorKind.{ErrorKind}
use Rattle.clap.specs.declared.error.kind.ErrorKind.TheVariants.{DisplayHelp, DisplayVersion, OutOfMemory}
use Rattle.lake_script.specs.declared.engine.End.{End}
use Rattle.lake_script.specs.declared.engine.End.TheVariants.{Done, BadLine, NotRead, NotWritten}

-- 0 done, 1 refused, 2 a line that is none
abbrev pub status_of : End → ℕ
status_of Done = 0
status_of (BadLine number) = 2
status_of NotRead = 1
status_of NotWritten = 1

-- the status of a script with that first bad line, or none
abbrev pub status_at : Option ℕ → ℕ
status_at None = 0
status_at (Some number) = 2

-- the status of words that can't be read: help is done, and a refused growth is no fault of the words
abbrev pub status_of_kind : ErrorKind → ℕ
status_of_kind DisplayHelp = 0
status_of_kind DisplayVersion = 0
status_of_kind OutOfMemory = 1
status_of_kind _ = 2

-- the status of words that have these faults: that of one of them, unless memory ran out
abbrev pub IsStatusOf : List ErrorKind → (status : ℕ) → (is_short : Bool) → Type 0
IsStatusOf kinds status is_short = ((status ≡ 1) × (is_short ≡ true)) ⊎ ((kind : ErrorKind) × IsAmong kind kinds × (status ≡ status_of_kind kind))

-- the status of a job that has no reply
abbrev pub status_of_failure : Failure → ℕ
status_of_failure Misused = 2
status_of_failure (BadLine number flaw) = 2
status_of_failure (Miscounted rows found) = 2
status_of_failure _ = 1

-- a growth was refused
abbrev pub is_want_of_memory : Failure → Bool
is_want_of_memory Memory = true
is_want_of_memory (Loading loads.Memory) = true
is_want_of_memory (Saving saves.Memory) = true
is_want_of_memory _ = false

-- a text begins with `refused `
abbrev pub is_refusal : List ℕ → Bool
is_refusal text = starts_with nat_eq text (codes "refused ")

-- a line of a text does
abbrev pub has_refusal : List ℕ → Bool
has_refusal text = list_any is_refusal (lines_of text)

-- a history says in a line of its own that it ends at what can't be read
abbrev pub ends_early : Work → List ℕ → Bool
ends_early words.history text = has_refusal text
ends_early _ text = false

-- A reply to a job refuses it: a text and digits by their bytes; a creation, an append, a close, a checkpoint or a put that
-- was done doesn't, and each other reply does.
abbrev pub refuses : Work → LineReply → Bool
refuses work (Bytes text) = is_refusal text.items || ends_early work text.items
refuses work Created = false
refuses work (SinkTold answer) = false
refuses work Noted = false
refuses work (Checkpointed version) = false
refuses work (Put put) = false
refuses work (Digits digits) = is_refusal (string_bytes digits) || ends_early work (string_bytes digits)
refuses work _ = true
