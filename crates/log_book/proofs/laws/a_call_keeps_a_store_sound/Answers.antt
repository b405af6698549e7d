use Rattle.std.proofs.Common.{◌≡◌, ℕ, List, Some, None, inl, inr}
use Rattle.store_core.specs.Names.{commit_name, commit_version}
use Rattle.store_core.specs.Objects.{Objects, with_object}
use Rattle.session_core.specs.Talks.{Asked, get_object, list_names, put_commit, put_file}
use Rattle.table_log.specs.Restoring.{IsSoundCheckpoint, checkpoint_version}
use Rattle.table_store.specs.Holds.{IsFreeIn}
use Rattle.table_store.specs.Sound.{IsAdmissible}
use Rattle.log_laws.specs.Sound.{IsSoundStore}
use Rattle.session_core.specs.CallEffects.{left_by_call}
use Rattle.log_book.specs.Making.{MayMake, MayPutBeside}
use Rattle.log_book.proofs.laws.a_call_keeps_a_store_sound.Goals as goal

module _ (commit : (objects : Objects) (version : ℕ) (bytes : List ℕ) → IsSoundStore objects → IsAdmissible objects version bytes → IsSoundStore (with_object objects (commit_name version) bytes))
    (other : (objects : Objects) (name bytes : List ℕ) → commit_version name ≡ None → checkpoint_version name ≡ None → IsFreeIn objects name → IsSoundStore objects → IsSoundStore (with_object objects name bytes))
    (checkpoint : (objects : Objects) (name bytes : List ℕ) (version : ℕ) → checkpoint_version name ≡ Some version → IsSoundStore objects → IsSoundCheckpoint objects version bytes → IsSoundStore (with_object objects name bytes)) where
  beside_lands : (objects : Objects) (name bytes : List ℕ) → IsSoundStore objects → MayPutBeside objects name bytes → IsSoundStore (with_object objects name bytes)
  beside_lands objects name bytes sound (inl beside) = other objects name bytes beside.no_commit beside.no_checkpoint beside.free sound
  beside_lands objects name bytes sound (inr own) = checkpoint objects name bytes own.0 own.1 sound own.2

  call_lands : (objects : Objects) (asked : Asked) → IsSoundStore objects → MayMake objects asked → IsSoundStore (left_by_call objects asked)
  call_lands objects list_names sound may = sound
  call_lands objects (get_object name) sound may = sound
  call_lands objects (put_file name bytes) sound may = beside_lands objects name bytes sound may
  call_lands objects (put_commit version bytes) sound may = commit objects version bytes sound may

pub returns : goal.returns
returns c = λ objects asked. call_lands c.an_admissible_commit_lands.ensures.now c.a_data_file_lands.ensures.other c.a_sound_checkpoint_lands.ensures.now objects asked
