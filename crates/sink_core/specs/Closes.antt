-- What a close of a stream tells and leaves over one store that is at rest, and loses no call.
use Rattle.std.specs.Prelude.{◌≡◌, ◌⊎◌, ℕ, List, Bool, Option, Some, None, Result, Ok, Err, if◌then◌else◌}
use Rattle.store_core.specs.Objects.{Objects, with_object}
use Rattle.delta_actions.specs.Commit.{IsCommit}
use Rattle.commit_core.specs.Commits.{commit_text}
use Rattle.batch_core.specs.Closing.{close_actions}
use Rattle.batch_core.specs.Refusals.{SinkRefusal, bad_log, too_large}
use Rattle.batch_core.specs.Requests.{SinkRequest, close_behind, named}
use Rattle.outcomes.specs.Results.{◌>>=◌, refused_if, refused_as}
use Rattle.table_log.specs.Counts.{commit_count}
use Rattle.store_core.specs.Names.{commit_name}
use Rattle.table_log.specs.Restoring.{replayed}
use Rattle.sink_core.specs.Appending.{is_past}
use Rattle.sink_core.specs.declared.sink_state.SinkOutcome.{SinkOutcome}
use Rattle.sink_core.specs.declared.sink_state.SinkOutcome.TheVariants.{Closed, AlreadyClosed}

-- the request over these objects, whose log is read from its newest checkpoint or as a whole
unfoldable pub close_of : (use_checkpoints : Bool) → Objects → (application : List ℕ) → Result SinkRequest SinkRefusal
close_of use_checkpoints objects application = do
  fine ← named application
  commits ← refused_as bad_log (replayed use_checkpoints objects)
  close_behind (commit_count objects) commits application

-- the version that the close's commit has, or none where the stream is closed already
abbrev pub closing_version : SinkRequest → Option ℕ
closing_version request = if request.repeats then None else Some request.version

-- what a close does over these objects, or the first reason why it does nothing
abbrev pub close_plan : (use_checkpoints : Bool) → Objects → (application : List ℕ) → Result (Option ℕ) SinkRefusal
close_plan use_checkpoints objects application = close_of use_checkpoints objects application >>= λ request. Ok (closing_version request)

-- what a close answers that does this; a commit whose version no commit has isn't put
abbrev pub close_answer : Option ℕ → Result SinkOutcome SinkRefusal
close_answer None = Ok AlreadyClosed
close_answer (Some version) = refused_if (is_past version) too_large >>= λ small. Ok (Closed version)

-- what a close answers over these objects
abbrev pub stream_closed_by : (use_checkpoints : Bool) → Objects → (application : List ℕ) → Result SinkOutcome SinkRefusal
stream_closed_by use_checkpoints objects application = close_plan use_checkpoints objects application >>= close_answer

-- the bytes of the commit that closes a stream
abbrev pub close_text : (application : List ℕ) (at : ℕ) → List ℕ
close_text application at = commit_text (close_actions application at)

-- the objects with the commit that closes the stream, where there is one to put
abbrev pub with_close_commit : Objects → (application : List ℕ) (at : ℕ) → Result (Option ℕ) SinkRefusal → Objects
with_close_commit objects application at (Ok (Some version)) = if is_past version then objects else with_object objects (commit_name version) (close_text application at)
with_close_commit objects application at (Ok None) = objects
with_close_commit objects application at (Err refusal) = objects

-- what is put is well made: the commit is one of its actions
abbrev pub ClosesWell : (application : List ℕ) (at : ℕ) → Result (Option ℕ) SinkRefusal → Type 0
ClosesWell application at (Ok (Some version)) = IsCommit (close_text application at) (close_actions application at)
ClosesWell application at (Ok None) = Unit {0}
ClosesWell application at (Err refusal) = Unit {0}

-- behind a close: the objects are as they were, or its commit, which is well made, was put; a put leaves what stood under its
-- name
abbrev pub MayClose : (application : List ℕ) (at : ℕ) → Result (Option ℕ) SinkRefusal → Objects → Objects → Type 0
MayClose application at plan old new = (new ≡ old) ⊎ (ClosesWell application at plan × (new ≡ with_close_commit old application at plan))
