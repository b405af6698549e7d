-- What is so of each actor of a world, and of what its session told.
use Rattle.std.specs.Prelude.{◌≡◌, ℕ, List, codes, true}
use Rattle.delta_replay.specs.Support.{has_key_inside}
use Rattle.store_core.specs.Objects.{Objects}
use Rattle.session_core.specs.Talks.{Bears}
use Rattle.table_model.specs.Table.{Entry}
use Rattle.table_store.specs.Holds.{Holds}
use Rattle.table_store.specs.Schema.{Schema}
use Rattle.source_core.specs.SourceSessions.{SourceJob}
use Rattle.source_core.specs.declared.source_session.ReadEnd.{ReadEnd}
use Rattle.session_laws.specs.Rows.{ListsFirst, WasListed}
use Rattle.session_laws.specs.Jobs as jobs
use Rattle.session_laws.specs.Jobs.{Outcome, CanBegin}
use Rattle.session_laws.specs.Moves.{HasAsked}
use Rattle.stream_model.specs.Headline.{IsReadSo, ListsCommit, TellsBadLog, TellsSchemaChanged, TellsUnsupported}
use Rattle.stream_model.specs.Worlds.{Actor, IsBegunAs}

-- What stands bears what an actor's session was told, and what was known before it; each call that it had an answer to is one that its job asks
-- for there, and the job can begin. A read that listed names was shown a sound store, as it stood then, whose files can be read and which has
-- grown since.
pub record IsBorneBy (objects : Objects) (actor : Actor) : Type 0 where
  pub earlier : Bears objects actor.before
  pub borne : Bears objects actor.talk
  pub asked : HasAsked actor.begun actor.before actor.talk
  pub can : CanBegin actor.job
  pub begun : IsBegunAs actor.job actor.begun
  pub shown : (job : SourceJob) → actor.begun ≡ jobs.reads job → (names : List (List ℕ)) → ListsFirst actor.talk names → (listed : Objects) × WasListed objects actor.before actor.talk listed

-- What a session told at its end: where its list had a commit, not that one is missing or can't be read; never that a winner changed the
-- schema; that a checkpoint isn't put for what the table asks of its writers only where a field has `delta.invariants`; and a read that listed
-- names what is so of the versions that were listed.
pub record EndsSo (objects : Objects) (actor : Actor) (outcome : Outcome) : Type 0 where
  pub listed : ListsCommit actor.talk → TellsBadLog outcome → ⊥
  pub schema : TellsSchemaChanged outcome → ⊥
  pub supported : (tree : Schema) (entries : List Entry) → Holds objects tree entries → TellsUnsupported outcome → has_key_inside (codes "delta.invariants") tree ≡ true
  pub reads : (job : SourceJob) (end : ReadEnd) → actor.job ≡ jobs.reads job → outcome ≡ jobs.read end → (names : List (List ℕ)) → ListsFirst actor.talk names
      → (tree : Schema) (entries : List Entry) → Holds objects tree entries → IsReadSo tree entries job actor.talk names end.answer
