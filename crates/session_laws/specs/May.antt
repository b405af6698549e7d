-- What each session may do next, in every sound store that bears its talk.
use Rattle.std.specs.Prelude.{◌≡◌, ℕ, List, [], ◌∷◌, ◌++◌, Option, None, Some, Ok}
use Rattle.store_core.specs.Objects.{AreBytes, Objects}
use Rattle.store_core.specs.declared.store.Put.TheVariants.{Created}
use Rattle.session_core.specs.Talks.{Asked, Bears, Talk, Told, asked_view, list_names, get_object, put_commit, put_file, told_put}
use Rattle.session_core.specs.declared.session.Step.{Step}
use Rattle.session_core.specs.declared.session.Step.TheVariants.{Ask, Done}
use Rattle.table_model.specs.Table.{Entry}
use Rattle.table_store.specs.Holds.{Holds, IsFreeIn}
use Rattle.table_store.specs.Schema.{Schema}
use Rattle.commit_core.specs.SoundStores.{IsSoundStore}
use Rattle.commit_core.specs.CreateSessions.{IsCreationOf, MayTellOfCreation}
use Rattle.sink_core.specs.SinkLaws.{TellsCommit}
use Rattle.sink_core.specs.SinkSessions.{IsFineJob}
use Rattle.session_laws.specs.Rows.{IsCheckpointPut, IsJobCommit, IsJobFile, MayPutNext, MayTellOfCheckpoint, MayTellOfLoad, MayTellOfRead, MayTellOfStream, next_of_stream, next_version}
use Rattle.table_jobs.specs.Jobs.{Job, Outcome, checkpoint, checkpoints, creates, creation, load, loads, read, reads, stream, streams}
use Rattle.session_laws.specs.Moves.{HasAsked, Move, asks, tells}

-- ---- the store, and the job

-- A sound store bears the talk of a session, each call of which its job asks for, and what was known before it. It holds the table of this
-- schema with these entries.
pub record BearsSession (objects : Objects) (schema : Schema) (entries : List Entry) (job : Job) (before talk : Talk) : Type 0 where
  pub sound : IsSoundStore objects
  pub bytes : AreBytes objects
  pub holds : Holds objects schema entries
  pub earlier : Bears objects before
  pub borne : Bears objects talk
  pub asked : HasAsked job before talk

-- ---- what it may do

-- Lists and gets change nothing, and any may be asked for; a load and a read ask for nothing else. A stream puts its batch's file, under a name that no
-- entry lacks, and its commit, a creation its commit, and a checkpoint's put a checkpoint; a commit is admissible at the version that comes next.
abbrev pub MayAsk : Objects → Schema → Job → Talk → Asked → Type 0
MayAsk objects schema job talk list_names = Unit {0}
MayAsk objects schema job talk (get_object name) = Unit {0}
MayAsk objects schema (streams job) talk (put_file name bytes) = IsFineJob job × IsJobFile schema job name bytes × IsFreeIn objects name
MayAsk objects schema (checkpoints job) talk (put_file name bytes) = IsCheckpointPut objects name bytes
MayAsk objects schema (streams job) talk (put_commit version bytes) = IsFineJob job × MayPutNext objects (next_of_stream job talk) version bytes × IsJobCommit objects schema job bytes
MayAsk objects schema (creates job) talk (put_commit version bytes) = MayPutNext objects (next_version talk) version bytes × IsCreationOf job bytes
MayAsk objects schema job talk asked = ⊥

-- What it tells is so of the store, of what was known before (of a read, and of a stream that loads nothing), or of its talk.
abbrev pub MayTell : Objects → Schema → List Entry → Job → (before talk : Talk) → Outcome → Type 0
MayTell objects schema entries (creates job) before talk (creation result) = MayTellOfCreation objects job talk result
MayTell objects schema entries (loads job) before talk (load result) = MayTellOfLoad objects talk result
MayTell objects schema entries (checkpoints job) before talk (checkpoint end) = MayTellOfCheckpoint objects talk end.known end.answer
MayTell objects schema entries (streams job) before talk (stream end) = MayTellOfStream objects schema entries job talk end.answer
MayTell objects schema entries (reads job) before talk (read end) = MayTellOfRead objects schema entries job before talk end.answer
MayTell objects schema entries job before talk outcome = ⊥

-- it tells that the commit of this version was put
abbrev pub TellsOfCommit : (version : ℕ) → Move → Type 0
TellsOfCommit version (tells (stream end)) = TellsCommit end.answer version
TellsOfCommit version (tells (creation (Ok done))) = version ≡ 0
TellsOfCommit version move = ⊥

-- right behind a put that created its commit nothing is left but to tell that, with that very version
abbrev pub TellsWhatWasCreated : Talk → Move → Type 0
TellsWhatWasCreated talk move = (front : Talk) (version : ℕ) (bytes : List ℕ) → talk ≡ front ++ (put_commit version bytes, told_put Created) ∷ [] → TellsOfCommit version move

abbrev pub May : Objects → Schema → List Entry → Job → (before talk : Talk) → Move → Type 0
May objects schema entries job before talk (asks asked) = MayAsk objects schema job talk asked
May objects schema entries job before talk (tells outcome) = MayTell objects schema entries job before talk outcome

-- ---- a session's step

-- A session that was told this behind a talk has this talk now: it waited for nothing, and nothing was asked for before; or it waited for
-- the answer to a call.
pub data Hears : (talk : Talk) → Option Asked → Option Told → (now : Talk) → Type 0 where
  first : Hears [] None None []
  later : (talk : Talk) (asked : Asked) (told : Told) → Hears talk (Some asked) (Some told) (talk ++ (asked, told) ∷ [])

-- what a step is
abbrev pub move_of : {O : Type 0} → (tell : O → Outcome) → Step O → Move
move_of tell (Ask request) = asks (asked_view request)
move_of tell (Done outcome) = tells (tell outcome)

-- a step is one that the job may make
abbrev pub StepMay : {O : Type 0} → Objects → Schema → List Entry → Job → (before talk : Talk) → (tell : O → Outcome) → Step O → Type 0
StepMay objects schema entries job before talk tell step = May objects schema entries job before talk (move_of tell step) × TellsWhatWasCreated talk (move_of tell step)
