-- The texts of replies.
use Rattle.std.specs.Prelude.{ℕ, List, ◌++◌, Option, None, Some, codes}
use Rattle.std.specs.Fmt.{decimal}
use Rattle.lake_script.specs.declared.faults.Fault.{Fault}
use Rattle.lake_script.specs.declared.faults.Fault.TheVariants.{NotYet, NoSuchName, NoActor, NotRead, NotWritten}
use Rattle.sink_core.specs.declared.sink_state.SinkOutcome.{SinkOutcome}
use Rattle.sink_core.specs.declared.sink_state.SinkOutcome.TheVariants.{Committed, Already, Closed, AlreadyClosed}
use Rattle.outcomes.specs.Lines.{with_newline}

-- a fault: its code and its name
abbrev pub fault_text : Fault → List ℕ
fault_text NotYet = codes "N1 NotYet"
fault_text NoSuchName = codes "Q1 NoSuchName"
fault_text NoActor = codes "Q2 NoActor"
fault_text NotRead = codes "F3 NotRead"
fault_text NotWritten = codes "F4 NotWritten"

-- the reply to a line that is none, by its number
abbrev pub bad_line : ℕ → List ℕ
bad_line number = with_newline (codes "bad line " ++ decimal number)

-- the reply where version 0 was put
abbrev pub created : List ℕ
created = codes "Created 0"

-- the reply where a batch was put with the commit of that version
abbrev pub committed_at : ℕ → List ℕ
committed_at version = codes "Committed " ++ decimal version

-- the reply where the application's last batch has that number, and stands already
abbrev pub already : ℕ → List ℕ
already number = codes "Already " ++ decimal number

-- the reply where an application's stream was closed with the commit of that version
abbrev pub stream_closed_at : ℕ → List ℕ
stream_closed_at version = codes "Closed " ++ decimal version

-- the reply where it is closed already
abbrev pub already_closed : List ℕ
already_closed = codes "AlreadyClosed"

-- the reply to an append and to a close that aren't refused
abbrev pub outcome_text : SinkOutcome → List ℕ
outcome_text (Committed version) = committed_at version
outcome_text (Already number) = already number
outcome_text (Closed version) = stream_closed_at version
outcome_text AlreadyClosed = already_closed

-- the reply to a line that sets something
abbrev pub noted : List ℕ
noted = codes "ok"

-- the reply to a commit that another tool puts, by what stood under its name
abbrev pub put_word : Option (List ℕ) → List ℕ
put_word None = codes "created"
put_word (Some bytes) = codes "taken"
