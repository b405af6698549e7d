-- The words of `tail`.
use Rattle.std.proofs.Common.{◌≡◌, ℕ, Bool, true, false, List, [], ◌∷◌, ◌++◌, Option, Some, refl, codes}
use Rattle.std.specs.Prelude.{unwrap_or}
use Rattle.clap.specs.Walk.{Text}
use Rattle.clap.proofs.OnLiterals.{clap_on_literals}
use Rattle.lake_words.specs.Asked.{table}
use Rattle.lake_words.specs.Asked as asked
use Rattle.lake_words.specs.Spelling.{IsArgumentValue, SpellsMost, SpellsPlace, SpellsRestore, from, greatest, most, replaying, restoring, start}
use Rattle.lake_words.specs.Words as words
use Rattle.lake_words.proofs.JobWords.{AreRead, IsJob, given_restore, job_read, leaf}
use Rattle.lake_words.proofs.NumberWords.{at_end, before_flag, max_accepted, most_is, number_plain}
use Rattle.lake_words.proofs.WordItems.{all_taken, flag, next, no_more, plain}

-- the name is a job of the program, with these rules
tail_is_job : IsJob (codes "tail") (leaf words.tail)
unfolding clap_on_literals
tail_is_job = record { walked = refl; passes = refl; found = refl }

-- the numbers are those that the texts read as
tail_asked : {p : Option ℕ} {max : ℕ} (dir offset : Text) (use_checkpoints : Bool) → p ≡ Some max
    → table dir use_checkpoints (asked.tail (unwrap_or p 0) offset) ≡ table dir use_checkpoints (asked.tail max offset)
tail_asked dir offset use_checkpoints p = rw p refl

-- tail DIR [--from OFFSET] [--max N] [--no-checkpoint]
pub tail_read : (program dir offset : Text) (max : ℕ) (use_checkpoints : Bool) (place_words most_words restore_words : List Text)
    → IsArgumentValue dir → SpellsPlace place_words offset → SpellsMost most_words max → SpellsRestore restore_words use_checkpoints
    → AreRead (program ∷ codes "tail" ∷ dir ∷ place_words ++ (most_words ++ restore_words)) (table dir use_checkpoints (asked.tail max offset))
unfolding clap_on_literals
tail_read program dir offset max use_checkpoints place_words most_words restore_words d start greatest restoring =
    job_read program (codes "tail") (plain dir ∷ [])
    (leaf words.tail) true _ tail_is_job (d, tt)
    (all_taken _ _ (next refl no_more) refl refl)
    (given_restore true _ refl) (tail_asked dir (codes "start") true most_is)
tail_read program dir offset max use_checkpoints place_words most_words restore_words d start greatest replaying =
    job_read program (codes "tail") (plain dir ∷ flag (codes "--no-checkpoint") ∷ [])
    (leaf words.tail) false _ tail_is_job (d, tt)
    (all_taken _ _ (next refl (next refl no_more)) refl refl)
    (given_restore false _ refl) (tail_asked dir (codes "start") false most_is)
tail_read program dir offset max use_checkpoints place_words most_words restore_words d start (most {text = t} {n = n} e below) restoring =
    job_read program (codes "tail") (plain dir ∷ flag (codes "--max") ∷ plain t ∷ [])
    (leaf words.tail) true _ tail_is_job (d, (number_plain t n e, tt))
    (all_taken _ _ (next refl (next refl (next refl no_more))) (at_end (max_accepted t n e below)) refl)
    (given_restore true _ refl) (tail_asked dir (codes "start") true e)
tail_read program dir offset max use_checkpoints place_words most_words restore_words d start (most {text = t} {n = n} e below) replaying =
    job_read program (codes "tail") (plain dir ∷ flag (codes "--max") ∷ plain t ∷ flag (codes "--no-checkpoint") ∷ [])
    (leaf words.tail) false _ tail_is_job (d, (number_plain t n e, tt))
    (all_taken _ _ (next refl (next refl (next refl (next (before_flag (max_accepted t n e below)) no_more)))) refl refl)
    (given_restore false _ refl) (tail_asked dir (codes "start") false e)
tail_read program dir offset max use_checkpoints place_words most_words restore_words d (from {offset = o} p) greatest restoring =
    job_read program (codes "tail") (plain dir ∷ flag (codes "--from") ∷ plain o ∷ [])
    (leaf words.tail) true _ tail_is_job (d, (p, tt))
    (all_taken _ _ (next refl (next refl (next refl no_more))) refl refl)
    (given_restore true _ refl) (tail_asked dir o true most_is)
tail_read program dir offset max use_checkpoints place_words most_words restore_words d (from {offset = o} p) greatest replaying =
    job_read program (codes "tail") (plain dir ∷ flag (codes "--from") ∷ plain o ∷ flag (codes "--no-checkpoint") ∷ [])
    (leaf words.tail) false _ tail_is_job (d, (p, tt))
    (all_taken _ _ (next refl (next refl (next refl (next refl no_more)))) refl refl)
    (given_restore false _ refl) (tail_asked dir o false most_is)
tail_read program dir offset max use_checkpoints place_words most_words restore_words d (from {offset = o} p) (most {text = t} {n = n} e below) restoring =
    job_read program (codes "tail") (plain dir ∷ flag (codes "--from") ∷ plain o ∷ flag (codes "--max") ∷ plain t ∷ [])
    (leaf words.tail) true _ tail_is_job (d, (p, (number_plain t n e, tt)))
    (all_taken _ _ (next refl (next refl (next refl (next refl (next refl no_more))))) (at_end (max_accepted t n e below)) refl)
    (given_restore true _ refl) (tail_asked dir o true e)
tail_read program dir offset max use_checkpoints place_words most_words restore_words d (from {offset = o} p) (most {text = t} {n = n} e below) replaying =
    job_read program (codes "tail") (plain dir ∷ flag (codes "--from") ∷ plain o ∷ flag (codes "--max") ∷ plain t ∷ flag (codes "--no-checkpoint") ∷ [])
    (leaf words.tail) false _ tail_is_job (d, (p, (number_plain t n e, tt)))
    (all_taken _ _ (next refl (next refl (next refl (next refl (next refl (next (before_flag (max_accepted t n e below)) no_more)))))) refl refl)
    (given_restore false _ refl) (tail_asked dir o false e)
