-- What the put of a checkpoint leaves of sound stores.
use Rattle.std.proofs.Common.{ℕ, suc, List, Option, IsSome, refl, subst}
use Rattle.store_core.specs.Calls.{StandsAfter}
use Rattle.store_core.specs.Objects.{Objects, object_at}
use Rattle.store_core.specs.declared.store.Put.{Put}
use Rattle.store_core.specs.declared.store.Put.TheVariants.{Created, Exists}
use Rattle.session_core.specs.Talks.{Bears, Talk, put_file, told_put}
use Rattle.session_core.proofs.Callers.{bears_more}
use Rattle.table_log.specs.LoadSessions.{LoadJob}
use Rattle.table_log.specs.Restoring.{IsSoundCheckpoint}
use Rattle.snapshot_core.specs.CheckpointSessions.{CheckpointPutTold}
use Rattle.snapshot_core.specs.Taking.{PutsFront}
use Rattle.snapshot_core.proofs.Callers.{checkpoint_same}
use Rattle.commit_core.specs.SoundStores.{IsSoundStore}
use Rattle.commit_core.proofs.Callers.{front_log}

-- The checkpoint that is put over the first versions of a sound store's log is one of its commits up to the last of them.
pub front_sound : (objects : Objects) → IsSoundStore objects → (version : ℕ) (name bytes : List ℕ) → PutsFront objects version name bytes → IsSoundCheckpoint objects version bytes
front_sound objects sound version name bytes puts =
    let log = front_log objects sound (suc version) puts.from puts.r puts.commits puts.checkpoint puts.read in
    record { commits = log.0; stand = log.1; checkpoint = checkpoint_same puts.commits log.0 log.2 bytes version puts.is.checkpoint }

-- behind a put an object stands there
put_stands : (put : Put) (bytes : List ℕ) (found : Option (List ℕ)) → StandsAfter put bytes found → IsSome found
put_stands Created bytes found is = rw is refl
put_stands Exists bytes found is = is

pub told_stands : (objects : Objects) (job : LoadJob) (before talk : Talk) (version : ℕ) (put : Put) → Bears objects talk → (told : CheckpointPutTold job before talk version (told_put put)) → Bears objects told.front × IsSome (object_at objects told.name)
told_stands objects job before talk version put borne told =
    let all = bears_more objects told.front (put_file told.name told.bytes) (told_put put) (subst (Bears objects) told.talked borne) in
    (all.0, put_stands put told.bytes (object_at objects told.name) all.1)
