-- What a job tells over any folder, whoever else writes into it meanwhile, and which calls it makes of it: those of runs of its
-- line, each behind a talk of its session in which it was told what the folder's calls told. What is told as done was saved by
-- calls that say so.
use Rattle.std.specs.Prelude.{◌≡◌, ◌⊎◌, ◌≤◌, ◌++◌, ℕ, zero, suc, Bool, IfErr, IsErrAnd, List, [], Option, Some, Result, Ok, Err, string_bytes}
use Rattle.std.specs.List.{Contains}
use Rattle.store_core.specs.Calls.{HasRisen}
use Rattle.store_core.specs.Objects.{Objects, names_of}
use Rattle.table_folder.specs.Copies.{to_save}
use Rattle.table_folder.specs.Traces.{FolderCall, MakeNone, Saves}
use Rattle.table_folder.specs.declared.fault.SaveFault.{SaveFault}
use Rattle.table_folder.specs.declared.fault.SaveFault.TheVariants as saves
use Rattle.table_folder.specs.declared.fault.LoadFault.{LoadFault}
use Rattle.table_jobs.specs.Jobs.{Job, Outcome}
use Rattle.folder_session.specs.Runs.{RanBeside}
use Rattle.script_lines.specs.Lines.{Statement}
use Rattle.lake_script.specs.LineJobs.{job_of_line}
use Rattle.lake_script.specs.Endings.{IsReplyOf}
use Rattle.lake_script.specs.ReplyView.{reply_text}
use Rattle.lake_script.specs.Runs.{IsWantOfMemory}
use Rattle.lake_script.specs.Told.{not_yet}
use Rattle.lake_script.specs.declared.reply.LineReply.{LineReply}
use Rattle.lake_words.specs.Asked.{Work}
use Rattle.lake_words.specs.Asked as words
use Rattle.lake_command.specs.Failures.{IsLoading, IsOfInput, IsCommitTaken}
use Rattle.lake_command.specs.Folders.{IsAskedBy, IsNotYet, IsPutter, IsInputOf}
use Rattle.lake_command.specs.Looks.{Looks}
use Rattle.lake_command.specs.declared.failure.Failure.{Failure}
use Rattle.lake_command.specs.declared.failure.Failure.TheVariants.{Loading, Saving}

-- The job of a line, which tries so many versions at most, was run beside a folder, by these calls of it, and its
-- reply is what the session told; or there was no memory for its words: then it was told so, and nothing was put.
pub data RanLine (use_checkpoints : Bool) (tries : ℕ) (statement : Statement) (reply : LineReply) (added : Objects) : List FolderCall → Type 0 where
  ran : (job : Job) (outcome : Outcome) (calls : List FolderCall) → job_of_line use_checkpoints tries statement ≡ Some job → RanBeside job outcome added calls → IsReplyOf outcome (reply_text reply) → RanLine use_checkpoints tries statement reply added calls
  short : IsWantOfMemory statement (reply_text reply) → added ≡ [] → RanLine use_checkpoints tries statement reply added []

-- what wasn't saved was put by the run
abbrev pub IsUnsaved : SaveFault → (added : Objects) → Type 0
IsUnsaved (saves.NotSaved name reason) added = Contains (names_of added) (string_bytes name)
IsUnsaved fault added = Unit {0}

-- What came of a run of a line that puts something, by these calls of the folder: each object that its job put was saved, by a
-- call that says that it made it, and then the reply is what the job told; or one of them wasn't saved; or the folder couldn't be
-- read, and no file was made.
pub data IsRunOf (use_checkpoints : Bool) (tries : ℕ) (statement : Statement) : Result LineReply Failure → List FolderCall → Type 0 where
  told : (reply : LineReply) (added : Objects) (calls saved : List FolderCall) → RanLine use_checkpoints tries statement reply added calls → Saves added (to_save [] (names_of added)) (Ok tt) saved → IsRunOf use_checkpoints tries statement (Ok reply) (calls ++ saved)
  unsaved : (reply : LineReply) (added : Objects) (fault : SaveFault) (calls saved : List FolderCall) → RanLine use_checkpoints tries statement reply added calls → IsUnsaved fault added → Saves added (to_save [] (names_of added)) (Err fault) saved
      → IsRunOf use_checkpoints tries statement (Err (Saving fault)) (calls ++ saved)
  unread : (fault : LoadFault) (calls : List FolderCall) → MakeNone calls → IsRunOf use_checkpoints tries statement (Err (Loading fault)) calls

-- one version is tried at least
abbrev pub at_least_one : ℕ → ℕ
at_least_one zero = 1
at_least_one (suc more) = suc more

-- how many versions the words of a job let it try; one that puts no commit of a stream tries one
abbrev pub tries_in : Work → ℕ
tries_in (words.append application number at tries rows) = at_least_one tries
tries_in (words.close application at tries) = at_least_one tries
tries_in _ = 1

-- The runs of a job that puts something, whose words let it try so many versions, with its input's text. The folder had counted
-- so many faults before the first, and so many behind the last. Each is a run of the line that the job asks for; each one behind
-- the first is made where the one before came to a commit's name that was taken, and tries a version less. What is told is what
-- came of the last. One that came to a commit's name that was taken is the last only where it had no further try, or where a
-- call of the folder failed; or memory ran out, and this is told then. Behind it there may be calls of one more that couldn't read
-- the folder, and made no file. The calls of the folder are those of these runs, and no others.
pub data ComesOfRuns (work : Work) (text : List ℕ) (use_checkpoints : Bool) (old new : ℕ) : (tries : ℕ) → Result LineReply Failure → List FolderCall → Type 0 where
  last : (tries : ℕ) (statement : Statement) (outcome : Result LineReply Failure) (calls : List FolderCall) → IsAskedBy work (Some text) statement → IsRunOf use_checkpoints tries statement outcome calls
      → (IsCommitTaken outcome → (tries ≡ 1) ⊎ HasRisen old new) → ComesOfRuns work text use_checkpoints old new tries outcome calls
  unreadable : (tries : ℕ) (statement : Statement) (outcome : Result LineReply Failure) (calls behind : List FolderCall) → 1 ≤ tries → IsAskedBy work (Some text) statement → IsRunOf use_checkpoints (suc tries) statement outcome calls → IsCommitTaken outcome
      → MakeNone behind → HasRisen old new → ComesOfRuns work text use_checkpoints old new (suc tries) outcome (calls ++ behind)
  no_room : (tries : ℕ) (statement : Statement) (first : Result LineReply Failure) (calls behind : List FolderCall) → 1 ≤ tries → IsAskedBy work (Some text) statement → IsRunOf use_checkpoints (suc tries) statement first calls → IsCommitTaken first
      → MakeNone behind → ComesOfRuns work text use_checkpoints old new (suc tries) (Err (Saving saves.Memory)) (calls ++ behind)
  again : (tries : ℕ) (statement : Statement) (first outcome : Result LineReply Failure) (calls more : List FolderCall) → 1 ≤ tries → IsAskedBy work (Some text) statement → IsRunOf use_checkpoints (suc tries) statement first calls → IsCommitTaken first
      → (IsErrAnd outcome (λ failure. IsLoading failure) → ⊥) → ComesOfRuns work text use_checkpoints old new tries outcome more → ComesOfRuns work text use_checkpoints old new (suc tries) outcome (calls ++ more)

-- What came of a job over any folder, which had counted so many faults before it and so many behind it: its words or its input are
-- refused, or it isn't there yet; or its runs told it, by calls of the folder of which this holds; or of a job that puts nothing just
-- these calls looked for what it tells, and its failures are of reading the folder.
pub data RanAsAsked (made : List FolderCall → Type 0) (work : Work) (known : Option (List ℕ)) (is_broken : Bool) (use_checkpoints : Bool) (old new : ℕ) : Result LineReply Failure → Type 0 where
  refused : (failure : Failure) → IsOfInput failure work known is_broken → RanAsAsked made work known is_broken use_checkpoints old new (Err failure)
  not_there : (reply : LineReply) → IsNotYet work → reply_text reply ≡ not_yet → RanAsAsked made work known is_broken use_checkpoints old new (Ok reply)
  runs : (text : List ℕ) (outcome : Result LineReply Failure) (calls : List FolderCall) → IsInputOf work known text → made calls → ComesOfRuns work text use_checkpoints old new (tries_in work) outcome calls
      → RanAsAsked made work known is_broken use_checkpoints old new outcome
  looks : (text : List ℕ) (statement : Statement) (outcome : Result LineReply Failure) (calls : List FolderCall) → IsInputOf work known text → IsAskedBy work (Some text) statement → (IsPutter statement → ⊥) → IfErr outcome (λ failure. IsLoading failure) → made calls
      → Looks use_checkpoints statement outcome calls → RanAsAsked made work known is_broken use_checkpoints old new outcome
