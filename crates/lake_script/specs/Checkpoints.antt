-- What lines that put a checkpoint and that tell a snapshot are told and leave. The bytes of a checkpoint, and the text
-- of a snapshot, stand beside the line. What the log says, all its commits say: that it may be read from a checkpoint
-- doesn't show.
use Rattle.std.specs.Prelude.{ℕ, ◌-◌, List, ◌++◌, length, false, nat_lt, Option, None, Some, Result, Ok, Err, IfOk, codes}
use Rattle.std.specs.Fmt.{decimal}
use Rattle.outcomes.specs.Results.{◌>>=◌, refused_as, refused_if}
use Rattle.store_core.specs.Objects.{Objects, with_object}
use Rattle.delta_actions.specs.Action.{Action, MetaDataAction}
use Rattle.delta_checkpoint.specs.Names.{IsCheckpointName, checkpoint_name}
use Rattle.delta_replay.specs.Support.{meta_data_of_log, no_meta_data}
use Rattle.table_log.specs.Counts.{commit_count}
use Rattle.commit_core.specs.Texts.{refused}
use Rattle.snapshot_core.specs.Faults.{Reason, bad_log, unsupported, checked_for_checkpoint, readable_log}
use Rattle.snapshot_core.specs.Taking.{most_checkpoint_bytes, IsNewestCheckpoint}
use Rattle.snapshot_core.specs.Telling.{TellsSnapshot}
use Rattle.source_core.specs.TailFaults.{support_text}
use Rattle.outcomes.specs.Lines.{with_newline}

-- the newest version of a log
abbrev pub newest_version : Objects → ℕ
newest_version objects = commit_count objects - 1

-- ---- checkpoint

-- a checkpoint that is put
pub record Checkpoint : Type 0 where
  pub version : ℕ
  pub name : List ℕ

-- why none is: for what the log says, or since its bytes pass 64 MiB
pub data NotPut : Type 0 where
  by_log : Reason → NotPut
  too_large : NotPut

-- that of a version, for the id of its table
abbrev pub checkpoint_for : (version : ℕ) → Option MetaDataAction → Result Checkpoint NotPut
checkpoint_for version None = Err (by_log (unsupported no_meta_data))
checkpoint_for version (Some m) = Ok (record { version = version; name = checkpoint_name version m.id })

-- the checkpoint of the newest version over these objects, its bytes being these, or the first reason why none is put
abbrev pub checkpoint_by_bytes : Objects → (bytes : List ℕ) → Result Checkpoint NotPut
checkpoint_by_bytes objects bytes = do
  commits ← refused_as by_log (checked_for_checkpoint false objects)
  fits ← refused_if (nat_lt most_checkpoint_bytes (length bytes)) too_large
  checkpoint_for (newest_version objects) (meta_data_of_log commits)

-- the bytes are those of the checkpoint of the newest version, where there may be one
abbrev pub IsItsCheckpoint : Objects → (bytes : List ℕ) → Type 0
IsItsCheckpoint objects bytes = IfOk (checked_for_checkpoint false objects) (λ commits. IsNewestCheckpoint objects commits (newest_version objects) bytes)

-- Its name is found as that of its version's checkpoint, and its bytes don't pass 64 MiB.
abbrev pub IsWellPut : Result Checkpoint NotPut → Type 0
IsWellPut (Ok c) = IsCheckpointName c.version c.name
IsWellPut (Err (by_log reason)) = Unit {0}
IsWellPut (Err too_large) = ⊥

-- the objects with a checkpoint, where one is put
abbrev pub with_checkpoint : Objects → (bytes : List ℕ) → Result Checkpoint NotPut → Objects
with_checkpoint objects bytes (Ok c) = with_object objects c.name bytes
with_checkpoint objects bytes (Err why) = objects

-- what a log says against a checkpoint or a snapshot
abbrev pub log_reason_text : Reason → List ℕ
log_reason_text (bad_log version) = codes "K7 BadLog " ++ decimal version
log_reason_text (unsupported why) = codes "K8 Unsupported " ++ support_text why

abbrev pub not_put_text : NotPut → List ℕ
not_put_text (by_log reason) = log_reason_text reason
not_put_text too_large = codes "K9 TooLarge"

-- the reply where the checkpoint of that version stands
abbrev pub checkpointed_at : ℕ → List ℕ
checkpointed_at version = codes "Checkpointed " ++ decimal version

abbrev pub checkpoint_reply : Result Checkpoint NotPut → List ℕ
checkpoint_reply (Ok c) = with_newline (checkpointed_at c.version)
checkpoint_reply (Err why) = with_newline (refused (not_put_text why))

-- ---- snapshot

-- the text tells what the log leaves, where it is read
abbrev pub IsItsSnapshot : Objects → (text : List ℕ) → Type 0
IsItsSnapshot objects text = IfOk (readable_log false objects) (λ commits. TellsSnapshot false objects text)

abbrev pub snapshot_reply : Result (List (List Action)) Reason → (text : List ℕ) → List ℕ
snapshot_reply (Ok commits) text = text
snapshot_reply (Err why) text = with_newline (refused (log_reason_text why))
