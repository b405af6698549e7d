-- What a line that puts nothing tells over any folder, whoever else writes into it meanwhile, and by which calls of the folder.
use Rattle.std.specs.Prelude.{◌≡◌, ◌≢◌, ◌⊎◌, ℕ, Bool, List, Result, Ok, Err, Vec, filter}
use Rattle.std.specs.Global.{Global}
use Rattle.store_core.specs.Memory.{Stored}
use Rattle.table_folder.specs.Loads.{is_of_log}
use Rattle.table_folder.specs.Traces.{FolderCall, Loads, MakeNone}
use Rattle.log_rows.specs.Tailing.{ReadRefusal}
use Rattle.log_rows.specs.TailFaults.{ReadGives}
use Rattle.log_rows.specs.declared.tail_fault.TailFault.{TailFault}
use Rattle.log_rows.specs.declared.tail_fault.TailFault.TheVariants as tails
use Rattle.snapshot_core.specs.declared.fault.SnapshotFault.{SnapshotFault}
use Rattle.folder_session.specs.Snapshots.{TellsBy}
use Rattle.folder_session.specs.Tails.{TailsFolder}
use Rattle.script_lines.specs.Lines.{Statement, history, look, snapshot, tail, task}
use Rattle.lake_script.specs.ReplyView.{reply_text}
use Rattle.lake_script.specs.Runs.{no_room_to_read}
use Rattle.lake_script.specs.Told.{tailed_reply}
use Rattle.lake_script.specs.declared.reply.LineReply.{LineReply}
use Rattle.lake_script.specs.declared.reply.LineReply.TheVariants.{NoSnapshot}
use Rattle.lake_command.specs.Failures.{IsLoading}
use Rattle.lake_command.specs.declared.failure.Failure.{Failure}
use Rattle.lake_command.specs.declared.failure.Failure.TheVariants.{Loading}

-- the reply to a read that told this: of whatever that is so, the reply tells that, or that there was no memory for it
abbrev pub IsReadTold : Result (Vec ℕ Global) TailFault → (reply : List ℕ) → Type 0
IsReadTold told reply =
    (told ≢ Err tails.Lost) × ((said : Result (List ℕ) ReadRefusal) → ReadGives (λ text. text.items) told said → (reply ≡ tailed_reply said) ⊎ (reply ≡ no_room_to_read))

-- A `tail` was told as a read was that just these calls made, or the file that couldn't be read.
abbrev pub LooksForRows : (use_checkpoints : Bool) → (max : ℕ) → (offset : List ℕ) → Result LineReply Failure → List FolderCall → Type 0
LooksForRows use_checkpoints max offset (Ok reply) calls = (told : Result (Vec ℕ Global) TailFault) × TailsFolder use_checkpoints max offset (Ok told) calls × IsReadTold told (reply_text reply)
LooksForRows use_checkpoints max offset (Err (Loading fault)) calls = TailsFolder use_checkpoints max offset (Err fault) calls
LooksForRows use_checkpoints max offset (Err failure) calls = ⊥

-- the reply to a snapshot that was told
abbrev pub told_snapshot_reply : Result (Vec ℕ Global) SnapshotFault → List ℕ
told_snapshot_reply (Ok text) = text.items
told_snapshot_reply (Err fault) = reply_text (NoSnapshot fault)

-- A `snapshot` was told as a load was that just these calls made; or the folder couldn't be read.
abbrev pub LooksForSnapshot : (use_checkpoints : Bool) → Result LineReply Failure → List FolderCall → Type 0
LooksForSnapshot use_checkpoints (Ok reply) calls = (told : Result (Vec ℕ Global) SnapshotFault) × TellsBy use_checkpoints told calls × (reply_text reply ≡ told_snapshot_reply told)
LooksForSnapshot use_checkpoints (Err failure) calls = IsLoading failure × MakeNone calls

-- For a `history` just these calls loaded the files of the log; or one of them couldn't be read.
abbrev pub LooksForHistory : Result LineReply Failure → List FolderCall → Type 0
LooksForHistory (Ok reply) calls = (store : Stored) × Loads (filter is_of_log) (Ok store) calls
LooksForHistory (Err (Loading fault)) calls = Loads (filter is_of_log) (Err fault) calls
LooksForHistory (Err failure) calls = ⊥

-- so it is of each such line
abbrev pub Looks : (use_checkpoints : Bool) → Statement → Result LineReply Failure → List FolderCall → Type 0
Looks use_checkpoints (task (tail max offset)) outcome calls = LooksForRows use_checkpoints max offset outcome calls
Looks use_checkpoints (look snapshot) outcome calls = LooksForSnapshot use_checkpoints outcome calls
Looks use_checkpoints (look history) outcome calls = LooksForHistory outcome calls
Looks use_checkpoints statement outcome calls = ⊥
