-- The words of `load`.
use Rattle.std.proofs.Common.{◌≡◌, ℕ, Bool, true, false, List, [], ◌∷◌, ◌++◌, Option, Some, refl, codes}
use Rattle.std.specs.Prelude.{unwrap_or}
use Rattle.clap.specs.Walk.{Text}
use Rattle.clap.proofs.OnLiterals.{clap_on_literals}
use Rattle.lake_words.specs.Asked.{table}
use Rattle.lake_words.specs.Asked as asked
use Rattle.lake_words.specs.Spelling.{IsArgumentValue, IsNumber, SpellsMoment, SpellsRestore, SpellsTries, beginning, moment, replaying, restoring, sixteen, tries}
use Rattle.lake_words.specs.Words as words
use Rattle.lake_words.proofs.JobWords.{AreRead, IsJob, given_restore, job_read, leaf}
use Rattle.lake_words.proofs.NumberWords.{any_accepted, at_end, before_flag, before_option, moment_accepted, number_plain, sixteen_is, tries_accepted, zero_is}
use Rattle.lake_words.proofs.WordItems.{all_taken, flag, next, no_more, plain}

-- the name is a job of the program, with these rules
load_is_job : IsJob (codes "load") (leaf words.load)
unfolding clap_on_literals
load_is_job = record { walked = refl; passes = refl; found = refl }

-- the numbers are those that the texts read as
load_asked : {p q r : Option ℕ} {n at tries : ℕ} (dir : Text) (use_checkpoints : Bool) → p ≡ Some n → q ≡ Some at → r ≡ Some tries
    → table dir use_checkpoints (asked.load (unwrap_or p 0) (unwrap_or q 0) (unwrap_or r 0)) ≡ table dir use_checkpoints (asked.load n at tries)
load_asked dir use_checkpoints p q r = rw (p, q, r) refl

-- load DIR --workers N [--at MS] [--tries N] [--no-checkpoint]
pub load_read : (program dir number : Text) (n at tries : ℕ) (use_checkpoints : Bool) (moment_words tries_words restore_words : List Text)
    → IsArgumentValue dir → IsNumber number n → SpellsMoment moment_words at → SpellsTries tries_words tries → SpellsRestore restore_words use_checkpoints
    → AreRead (program ∷ codes "load" ∷ dir ∷ codes "--workers" ∷ number ∷ moment_words ++ (tries_words ++ restore_words)) (table dir use_checkpoints (asked.load n at tries))
unfolding clap_on_literals
load_read program dir number n at tried use_checkpoints moment_words tries_words restore_words d e beginning sixteen restoring =
    job_read program (codes "load") (plain dir ∷ flag (codes "--workers") ∷ plain number ∷ [])
    (leaf words.load) true _ load_is_job (d, (number_plain number n e, tt))
    (all_taken _ _ (next refl (next refl (next refl no_more))) (at_end (any_accepted number n e)) refl)
    (given_restore true _ refl) (load_asked dir true e zero_is sixteen_is)
load_read program dir number n at tried use_checkpoints moment_words tries_words restore_words d e beginning sixteen replaying =
    job_read program (codes "load") (plain dir ∷ flag (codes "--workers") ∷ plain number ∷ flag (codes "--no-checkpoint") ∷ [])
    (leaf words.load) false _ load_is_job (d, (number_plain number n e, tt))
    (all_taken _ _ (next refl (next refl (next refl (next (before_flag (any_accepted number n e)) no_more)))) refl refl)
    (given_restore false _ refl) (load_asked dir false e zero_is sixteen_is)
load_read program dir number n at tried use_checkpoints moment_words tries_words restore_words d e beginning (tries {text = u} {n = k} g low high) restoring =
    job_read program (codes "load") (plain dir ∷ flag (codes "--workers") ∷ plain number ∷ flag (codes "--tries") ∷ plain u ∷ [])
    (leaf words.load) true _ load_is_job (d, (number_plain number n e, (number_plain u k g, tt)))
    (all_taken _ _ (next refl (next refl (next refl (next (before_option (any_accepted number n e)) (next refl no_more))))) (at_end (tries_accepted u k g low high)) refl)
    (given_restore true _ refl) (load_asked dir true e zero_is g)
load_read program dir number n at tried use_checkpoints moment_words tries_words restore_words d e beginning (tries {text = u} {n = k} g low high) replaying =
    job_read program (codes "load") (plain dir ∷ flag (codes "--workers") ∷ plain number ∷ flag (codes "--tries") ∷ plain u ∷ flag (codes "--no-checkpoint") ∷ [])
    (leaf words.load) false _ load_is_job (d, (number_plain number n e, (number_plain u k g, tt)))
    (all_taken _ _ (next refl (next refl (next refl (next (before_option (any_accepted number n e)) (next refl
    (next (before_flag (tries_accepted u k g low high)) no_more))))))
    refl refl)
    (given_restore false _ refl) (load_asked dir false e zero_is g)
load_read program dir number n at tried use_checkpoints moment_words tries_words restore_words d e (moment {text = t} {at = m} f below) sixteen restoring =
    job_read program (codes "load") (plain dir ∷ flag (codes "--workers") ∷ plain number ∷ flag (codes "--at") ∷ plain t ∷ [])
    (leaf words.load) true _ load_is_job (d, (number_plain number n e, (number_plain t m f, tt)))
    (all_taken _ _ (next refl (next refl (next refl (next (before_option (any_accepted number n e)) (next refl no_more))))) (at_end (moment_accepted t m f below)) refl)
    (given_restore true _ refl) (load_asked dir true e f sixteen_is)
load_read program dir number n at tried use_checkpoints moment_words tries_words restore_words d e (moment {text = t} {at = m} f below) sixteen replaying =
    job_read program (codes "load") (plain dir ∷ flag (codes "--workers") ∷ plain number ∷ flag (codes "--at") ∷ plain t ∷ flag (codes "--no-checkpoint") ∷ [])
    (leaf words.load) false _ load_is_job (d, (number_plain number n e, (number_plain t m f, tt)))
    (all_taken _ _ (next refl (next refl (next refl (next (before_option (any_accepted number n e)) (next refl
    (next (before_flag (moment_accepted t m f below)) no_more))))))
    refl refl)
    (given_restore false _ refl) (load_asked dir false e f sixteen_is)
load_read program dir number n at tried use_checkpoints moment_words tries_words restore_words d e
    (moment {text = t} {at = m} f below) (tries {text = u} {n = k} g low high) restoring =
    job_read program (codes "load") (plain dir ∷ flag (codes "--workers") ∷ plain number ∷ flag (codes "--at") ∷ plain t ∷ flag (codes "--tries") ∷ plain u ∷ [])
    (leaf words.load) true _ load_is_job (d, (number_plain number n e, (number_plain t m f, (number_plain u k g, tt))))
    (all_taken _ _ (next refl (next refl (next refl (next (before_option (any_accepted number n e)) (next refl
    (next (before_option (moment_accepted t m f below)) (next refl no_more)))))))
    (at_end (tries_accepted u k g low high)) refl)
    (given_restore true _ refl) (load_asked dir true e f g)
load_read program dir number n at tried use_checkpoints moment_words tries_words restore_words d e
    (moment {text = t} {at = m} f below) (tries {text = u} {n = k} g low high) replaying =
    job_read program (codes "load") (plain dir ∷ flag (codes "--workers") ∷ plain number ∷
    flag (codes "--at") ∷ plain t ∷ flag (codes "--tries") ∷ plain u ∷ flag (codes "--no-checkpoint") ∷ [])
    (leaf words.load) false _ load_is_job (d, (number_plain number n e, (number_plain t m f, (number_plain u k g, tt))))
    (all_taken _ _ (next refl (next refl (next refl (next (before_option (any_accepted number n e)) (next refl
    (next (before_option (moment_accepted t m f below)) (next refl (next (before_flag (tries_accepted u k g low high)) no_more))))))))
    refl refl)
    (given_restore false _ refl) (load_asked dir false e f g)
