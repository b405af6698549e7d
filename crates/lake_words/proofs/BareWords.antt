-- The words of the jobs that have no option but `--no-checkpoint`, and of `check` and `explain`, which have none.
use Rattle.std.proofs.Common.{Bool, true, false, List, [], ◌∷◌, Some, None, refl, codes}
use Rattle.clap.specs.Walk.{Text}
use Rattle.clap.proofs.OnLiterals.{clap_on_literals}
use Rattle.lake_words.specs.Asked.{table}
use Rattle.lake_words.specs.Asked as asked
use Rattle.lake_words.specs.Spelling.{IsArgumentValue, SpellsRestore, replaying, restoring}
use Rattle.lake_words.specs.Words as words
use Rattle.lake_words.proofs.JobWords.{AreRead, IsJob, given_restore, job_read, leaf, no_restore}
use Rattle.lake_words.proofs.WordItems.{all_taken, flag, next, no_more, plain}

-- the name is a job of the program, with these rules
snapshot_is_job : IsJob (codes "snapshot") (leaf words.snapshot)
unfolding clap_on_literals
snapshot_is_job = record { walked = refl; passes = refl; found = refl }

-- snapshot DIR [--no-checkpoint]
pub snapshot_read : (program dir : Text) (use_checkpoints : Bool) (restore_words : List Text) → IsArgumentValue dir → SpellsRestore restore_words use_checkpoints
    → AreRead (program ∷ codes "snapshot" ∷ dir ∷ restore_words) (table dir use_checkpoints asked.snapshot)
unfolding clap_on_literals
snapshot_read program dir use_checkpoints restore_words d restoring =
    job_read program (codes "snapshot") (plain dir ∷ []) (leaf words.snapshot) true _ snapshot_is_job (d, tt)
    (all_taken _ _ (next refl no_more) refl refl) (given_restore true _ refl) refl
snapshot_read program dir use_checkpoints restore_words d replaying =
    job_read program (codes "snapshot") (plain dir ∷ flag (codes "--no-checkpoint") ∷ []) (leaf words.snapshot) false _ snapshot_is_job (d, tt)
    (all_taken _ _ (next refl (next refl no_more)) refl refl) (given_restore false _ refl) refl

-- the name is a job of the program, with these rules
checkpoint_is_job : IsJob (codes "checkpoint") (leaf words.checkpoint)
unfolding clap_on_literals
checkpoint_is_job = record { walked = refl; passes = refl; found = refl }

-- checkpoint DIR [--no-checkpoint]
pub checkpoint_read : (program dir : Text) (use_checkpoints : Bool) (restore_words : List Text) → IsArgumentValue dir → SpellsRestore restore_words use_checkpoints
    → AreRead (program ∷ codes "checkpoint" ∷ dir ∷ restore_words) (table dir use_checkpoints asked.checkpoint)
unfolding clap_on_literals
checkpoint_read program dir use_checkpoints restore_words d restoring =
    job_read program (codes "checkpoint") (plain dir ∷ []) (leaf words.checkpoint) true _ checkpoint_is_job (d, tt)
    (all_taken _ _ (next refl no_more) refl refl) (given_restore true _ refl) refl
checkpoint_read program dir use_checkpoints restore_words d replaying =
    job_read program (codes "checkpoint") (plain dir ∷ flag (codes "--no-checkpoint") ∷ []) (leaf words.checkpoint) false _ checkpoint_is_job (d, tt)
    (all_taken _ _ (next refl (next refl no_more)) refl refl) (given_restore false _ refl) refl

-- the name is a job of the program, with these rules
history_is_job : IsJob (codes "history") (leaf words.history)
unfolding clap_on_literals
history_is_job = record { walked = refl; passes = refl; found = refl }

-- history DIR [--no-checkpoint]
pub history_read : (program dir : Text) (use_checkpoints : Bool) (restore_words : List Text) → IsArgumentValue dir → SpellsRestore restore_words use_checkpoints
    → AreRead (program ∷ codes "history" ∷ dir ∷ restore_words) (table dir use_checkpoints asked.history)
unfolding clap_on_literals
history_read program dir use_checkpoints restore_words d restoring =
    job_read program (codes "history") (plain dir ∷ []) (leaf words.history) true _ history_is_job (d, tt)
    (all_taken _ _ (next refl no_more) refl refl) (given_restore true _ refl) refl
history_read program dir use_checkpoints restore_words d replaying =
    job_read program (codes "history") (plain dir ∷ flag (codes "--no-checkpoint") ∷ []) (leaf words.history) false _ history_is_job (d, tt)
    (all_taken _ _ (next refl (next refl no_more)) refl refl) (given_restore false _ refl) refl

-- the name is one of the program's, with these rules
check_is_job : IsJob (codes "check") (leaf words.check)
unfolding clap_on_literals
check_is_job = record { walked = refl; passes = refl; found = refl }

-- check DIR
pub check_read : (program dir : Text) → IsArgumentValue dir → AreRead (program ∷ codes "check" ∷ dir ∷ []) (asked.check dir)
unfolding clap_on_literals
check_read program dir d =
    job_read program (codes "check") (plain dir ∷ []) (leaf words.check) true _ check_is_job (d, tt)
    (all_taken _ _ (next refl no_more) refl refl) (no_restore _ refl) refl

-- the name is one of the program's, with these rules
explain_is_job : IsJob (codes "explain") (leaf words.explain)
unfolding clap_on_literals
explain_is_job = record { walked = refl; passes = refl; found = refl }

-- explain CODE
pub explain_read : (program code : Text) → IsArgumentValue code → AreRead (program ∷ codes "explain" ∷ code ∷ []) (asked.explain (Some code))
unfolding clap_on_literals
explain_read program code d =
    job_read program (codes "explain") (plain code ∷ []) (leaf words.explain) true _ explain_is_job (d, tt)
    (all_taken _ _ (next refl no_more) refl refl) (no_restore _ refl) refl

-- explain
pub explain_all_read : (program : Text) → AreRead (program ∷ codes "explain" ∷ []) (asked.explain None)
unfolding clap_on_literals
explain_all_read program =
    job_read program (codes "explain") [] (leaf words.explain) true _ explain_is_job tt (all_taken _ _ no_more refl refl) (no_restore _ refl) refl
