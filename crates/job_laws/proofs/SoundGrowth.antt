-- What creations, appends and checkpoints put leaves the table of a sound store sound.
use Rattle.std.proofs.Common.{◌≡◌, inl, inr, ℕ, Bool, true, false, List, Some, Result, Ok, Err, refl, sym, subst}
use Rattle.std.proofs.lemmas.Bool.{ltb-false}
use Rattle.store_core.specs.Objects.{Objects, object_at}
use Rattle.serde_json.specs.Data.{Items}
use Rattle.outcomes.specs.Bytes.{IsBytes}
use Rattle.delta_actions.specs.Names as names
use Rattle.store_core.specs.Names.{greatest_version}
use Rattle.table_store.specs.Sound.{IsSound}
use Rattle.table_store.proofs.Callers.{all_free}
use Rattle.table_store.proofs.SoundLemmas.{sound_commit, sound_data_file}
use Rattle.commit_core.specs.Creating.{CreatesWell, MayCreate, CreateRefusal, creation_from, with_creation}
use Rattle.sink_core.specs.Appending.{EncodedBatch, IsWellMade, MayAppend, PutsWell, AppendPlan, is_past, puts, append_plan, stands, with_append, with_file, with_file_alone}
use Rattle.batch_core.specs.Refusals as sink
use Rattle.commit_core.proofs.CreationTalks.{admissible_creation}
use Rattle.job_laws.proofs.Admissible.{admissible}
use Rattle.job_laws.proofs.Requests.{PutsBatch, puts_batch}

-- ---- a creation

-- what a creation puts leaves a sound store sound
creation_sound : (objects : Objects) (at : ℕ) (schema : List ℕ) (commit : Result (List ℕ) CreateRefusal) → CreatesWell at schema commit → IsSound objects → IsSound (with_creation objects commit)
creation_sound objects at schema (Ok bytes) well sound = sound_commit objects 0 bytes sound (admissible_creation objects at schema bytes well)
creation_sound objects at schema (Err why) well sound = sound

-- whatever a creation puts
pub create_sound : (objects new : Objects) (id : List ℕ) (at : ℕ) (schema : List ℕ) → MayCreate id at schema objects new → IsSound objects → IsSound new
create_sound objects new id at schema (inl same) sound = subst IsSound (sym same) sound
create_sound objects new id at schema (inr (printed, put)) sound = subst IsSound (sym put.1) (creation_sound objects at schema (creation_from id at schema printed) put.0 sound)

-- ---- an append

module _ (objects : Objects) (sound : IsSound objects) (application : List ℕ) (number at : ℕ) (items : Items)
    (are : (bytes : List ℕ) → object_at objects (names.data_file_name application number) ≡ Some bytes → IsBytes bytes) where
  -- the file of a batch leaves a sound store sound
  file_sound : (batch : EncodedBatch) → PutsBatch objects application number batch → IsSound (with_file objects batch)
  file_sound batch found = rw found.name (sound_data_file objects application batch.file number (λ schema entries holds. all_free entries (names.data_file_name application number)) sound)

  -- a step's file alone
  alone_sound : (step : Result AppendPlan sink.SinkRefusal) → append_plan false objects application number at items ≡ step → IsSound (with_file_alone objects step)
  alone_sound (Ok (puts batch)) is = file_sound batch (puts_batch objects application number at batch items is)
  alone_sound (Ok stands) is = sound
  alone_sound (Err why) is = sound

  -- the file with the commit, where a commit can have its version; otherwise the file alone
  batch_sound : (batch : EncodedBatch) → IsWellMade application number at batch → PutsBatch objects application number batch → (past : Bool) → is_past batch.version ≡ past → IsSound (with_append objects (Ok (puts batch)))
  batch_sound batch well found true is = rw is (file_sound batch found)
  batch_sound batch well found false is =
      rw is (sound_commit (with_file objects batch) batch.version batch.commit (file_sound batch found) (admissible objects application number at batch well are sound (ltb-false greatest_version batch.version is) found))

  -- whatever the step puts
  whole_sound : (step : Result AppendPlan sink.SinkRefusal) → append_plan false objects application number at items ≡ step → PutsWell application number at step → IsSound (with_append objects step)
  whole_sound (Ok (puts batch)) is well = batch_sound batch well (puts_batch objects application number at batch items is) (is_past batch.version) refl
  whole_sound (Ok stands) is well = sound
  whole_sound (Err why) is well = sound

  -- whatever an append puts
  pub append_sound : (new : Objects) → MayAppend application number at (append_plan false objects application number at items) objects new → IsSound new
  append_sound new (inl same) = subst IsSound (sym same) sound
  append_sound new (inr (well, inl alone)) = subst IsSound (sym alone) (alone_sound (append_plan false objects application number at items) refl)
  append_sound new (inr (well, inr whole)) = subst IsSound (sym whole) (whole_sound (append_plan false objects application number at items) refl well)
