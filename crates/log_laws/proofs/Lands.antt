-- What may be put leaves a sound store sound, its checkpoints too.
use Rattle.std.proofs.Common.{◌≡◌, ◌≢◌, ◌≤◌, ◌∙◌, ℕ, true, List, None, Some, sym, ap}
use Rattle.store_core.specs.Objects.{Objects, with_object}
use Rattle.delta_actions.specs.Names as names
use Rattle.store_core.specs.Names.{commit_name, commit_version, greatest_version}
use Rattle.store_core.proofs.Callers.{own_version}
use Rattle.table_log.specs.Restoring.{IsSoundCheckpoint, checkpoint_version}
use Rattle.table_log.proofs.Callers.{commit_is_none, data_file_is_none, sound_beside as checkpoints_beside, sound_with}
use Rattle.table_store.specs.Holds.{IsFreeIn}
use Rattle.table_store.specs.Sound.{IsAdmissible}
use Rattle.table_store.proofs.Callers.{all_free}
use Rattle.table_store.proofs.SoundLemmas.{sound_commit, sound_data_file}
use Rattle.log_laws.specs.Sound.{IsSoundStore}
use Rattle.log_laws.proofs.Beside.{sound_beside}

-- a commit
pub commit_lands : (objects : Objects) (version : ℕ) (bytes : List ℕ) → IsSoundStore objects → IsAdmissible objects version bytes → IsSoundStore (with_object objects (commit_name version) bytes)
commit_lands objects version bytes sound new = record {
  table = sound_commit objects version bytes sound.table new;
  checkpoints = checkpoints_beside objects (commit_name version) bytes true (commit_is_none version) sound.checkpoints;
}

-- a data file
pub data_file_lands : (objects : Objects) (application bytes : List ℕ) (number : ℕ) → IsFreeIn objects (names.data_file_name application number) → IsSoundStore objects → IsSoundStore (with_object objects (names.data_file_name application number) bytes)
data_file_lands objects application bytes number free sound = record {
  table = sound_data_file objects application bytes number free sound.table;
  checkpoints = checkpoints_beside objects (names.data_file_name application number) bytes true (data_file_is_none application number) sound.checkpoints;
}

-- an object that is neither a commit nor a checkpoint
pub other_lands : (objects : Objects) (name bytes : List ℕ) → commit_version name ≡ None → checkpoint_version name ≡ None → IsFreeIn objects name → IsSoundStore objects → IsSoundStore (with_object objects name bytes)
other_lands objects name bytes none_of none free sound = record {
  table = sound_beside objects name bytes apart free sound.table;
  checkpoints = checkpoints_beside objects name bytes true none sound.checkpoints;
}
  where
    apart : (version : ℕ) → version ≤ greatest_version → commit_name version ≢ name
    apart version fits same = let wrong : None ≡ Some version = sym none_of ∙ (ap commit_version (sym same) ∙ own_version version fits) in absurd cc

-- a commit's name is no checkpoint's
no_commit : (name : List ℕ) (own : ℕ) → checkpoint_version name ≡ Some own → (version : ℕ) → commit_name version ≢ name
no_commit name own is version same = let wrong : None ≡ Some own = sym (commit_is_none version) ∙ ap checkpoint_version same ∙ is in absurd cc

-- a checkpoint
pub checkpoint_lands : (objects : Objects) (name bytes : List ℕ) (version : ℕ) → checkpoint_version name ≡ Some version → IsSoundStore objects → IsSoundCheckpoint objects version bytes → IsSoundStore (with_object objects name bytes)
checkpoint_lands objects name bytes version is sound good = record {
  table = sound_beside objects name bytes (λ other fits. no_commit name version is other) (λ schema entries holds. all_free entries name) sound.table;
  checkpoints = sound_with objects name bytes true version is good sound.checkpoints;
}
