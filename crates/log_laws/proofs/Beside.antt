-- What is put beside a sound store's commits leaves its table sound.
use Rattle.std.proofs.Common.{◌≡◌, ◌≢◌, ◌≤◌, ℕ, suc, List, [], ◌∷◌, Some, None, sym, ap, ◌∙◌}
use Rattle.store_core.specs.Objects.{Objects, with_object}
use Rattle.store_core.specs.ObjectLaws.{object_at-with_object_other}
use Rattle.store_core.specs.Names.{commit_name, greatest_version}
use Rattle.table_log.specs.CheckpointNames.{IsCheckpointName}
use Rattle.table_log.specs.Restoring.{checkpoint_version}
use Rattle.table_log.proofs.Callers.{commit_is_none, own_checkpoint}
use Rattle.table_model.specs.Table.{Entry}
use Rattle.table_store.specs.Holds.{HoldsFrom, IsFree, IsFreeIn}
use Rattle.table_store.specs.Schema.{Schema}
use Rattle.table_store.specs.Sound.{IsSound}
use Rattle.table_store.proofs.HoldingKept.{Stands-kept}
use Rattle.table_store.proofs.HoldingPuts.{FilesStand-put, HasObjectsOf-put, free_first, free_rest}

-- ---- an object that is neither a commit nor a data file

module _ (objects : Objects) (name bytes : List ℕ) (apart : (version : ℕ) → version ≤ greatest_version → commit_name version ≢ name) where
  -- it leaves the table that stands, where no entry lacks its name
  holds_beside : (schema : Schema) (version : ℕ) (entries : List Entry) → IsFree entries name → HoldsFrom objects schema version entries → HoldsFrom (with_object objects name bytes) schema version entries
  holds_beside schema version [] free ends = (ends.0, λ fits. object_at-with_object_other objects name bytes (commit_name version) (apart version fits) ∙ ends.1 fits)
  holds_beside schema version (entry ∷ entries) free holds = (
    Stands-kept objects (with_object objects name bytes) (HasObjectsOf-put objects name bytes) (commit_name version) _ holds.0,
    FilesStand-put objects name bytes schema entry (free_first entry entries name free) holds.1,
    holds.2,
    holds_beside schema (suc version) entries (free_rest entry entries name free) holds.3,
  )

  -- so the store stays sound
  pub sound_beside : IsFreeIn objects name → IsSound objects → IsSound (with_object objects name bytes)
  sound_beside free sound = record {
    schema = sound.schema;
    entries = sound.entries;
    holds = holds_beside sound.schema 0 sound.entries (free sound.schema sound.entries sound.holds) sound.holds;
    lawful = sound.lawful;
    ends = λ version past few. object_at-with_object_other objects name bytes (commit_name version) (apart version few) ∙ sound.ends version past few;
  }

-- a commit's name isn't a checkpoint's
pub no_checkpoint : (other : ℕ) (name : List ℕ) → IsCheckpointName other name → (version : ℕ) → commit_name version ≢ name
no_checkpoint other name found version same =
    let none : None ≡ Some other = sym (commit_is_none version) ∙ ap checkpoint_version same ∙ own_checkpoint other name found in
    absurd cc
