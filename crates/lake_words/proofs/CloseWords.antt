-- The words of `close`.
use Rattle.std.proofs.Common.{◌≡◌, ℕ, Bool, true, false, List, [], ◌∷◌, ◌++◌, Option, Some, refl, codes}
use Rattle.std.specs.Prelude.{unwrap_or}
use Rattle.clap.specs.Walk.{Text}
use Rattle.clap.proofs.OnLiterals.{clap_on_literals}
use Rattle.lake_words.specs.Asked.{table}
use Rattle.lake_words.specs.Asked as asked
use Rattle.lake_words.specs.Spelling.{IsArgumentValue, SpellsMoment, SpellsRestore, SpellsTries, beginning, moment, replaying, restoring, sixteen, tries}
use Rattle.lake_words.specs.Words as words
use Rattle.lake_words.proofs.JobWords.{AreRead, IsJob, given_restore, job_read, leaf}
use Rattle.lake_words.proofs.NumberWords.{at_end, before_flag, before_option, moment_accepted, number_plain, sixteen_is, tries_accepted, zero_is}
use Rattle.lake_words.proofs.WordItems.{all_taken, flag, next, no_more, plain}

-- the name is a job of the program, with these rules
close_is_job : IsJob (codes "close") (leaf words.close)
unfolding clap_on_literals
close_is_job = record { walked = refl; passes = refl; found = refl }

-- the numbers are those that the texts read as
close_asked : {q r : Option ℕ} {at tries : ℕ} (dir application : Text) (use_checkpoints : Bool) → q ≡ Some at → r ≡ Some tries
    → table dir use_checkpoints (asked.close application (unwrap_or q 0) (unwrap_or r 0)) ≡ table dir use_checkpoints (asked.close application at tries)
close_asked dir application use_checkpoints q r = rw (q, r) refl

-- close DIR APP [--at MS] [--tries N] [--no-checkpoint]
pub close_read : (program dir application : Text) (at tries : ℕ) (use_checkpoints : Bool) (moment_words tries_words restore_words : List Text)
    → IsArgumentValue dir → IsArgumentValue application → SpellsMoment moment_words at → SpellsTries tries_words tries → SpellsRestore restore_words use_checkpoints
    → AreRead (program ∷ codes "close" ∷ dir ∷ application ∷ moment_words ++ (tries_words ++ restore_words)) (table dir use_checkpoints (asked.close application at tries))
unfolding clap_on_literals
close_read program dir application at tried use_checkpoints moment_words tries_words restore_words d a beginning sixteen restoring =
    job_read program (codes "close") (plain dir ∷ plain application ∷ [])
    (leaf words.close) true _ close_is_job (d, (a, tt))
    (all_taken _ _ (next refl (next refl no_more)) refl refl)
    (given_restore true _ refl) (close_asked dir application true zero_is sixteen_is)
close_read program dir application at tried use_checkpoints moment_words tries_words restore_words d a beginning sixteen replaying =
    job_read program (codes "close") (plain dir ∷ plain application ∷ flag (codes "--no-checkpoint") ∷ [])
    (leaf words.close) false _ close_is_job (d, (a, tt))
    (all_taken _ _ (next refl (next refl (next refl no_more))) refl refl)
    (given_restore false _ refl) (close_asked dir application false zero_is sixteen_is)
close_read program dir application at tried use_checkpoints moment_words tries_words restore_words d a beginning (tries {text = u} {n = k} g low high) restoring =
    job_read program (codes "close") (plain dir ∷ plain application ∷ flag (codes "--tries") ∷ plain u ∷ [])
    (leaf words.close) true _ close_is_job (d, (a, (number_plain u k g, tt)))
    (all_taken _ _ (next refl (next refl (next refl (next refl no_more)))) (at_end (tries_accepted u k g low high)) refl)
    (given_restore true _ refl) (close_asked dir application true zero_is g)
close_read program dir application at tried use_checkpoints moment_words tries_words restore_words d a beginning (tries {text = u} {n = k} g low high) replaying =
    job_read program (codes "close") (plain dir ∷ plain application ∷ flag (codes "--tries") ∷ plain u ∷ flag (codes "--no-checkpoint") ∷ [])
    (leaf words.close) false _ close_is_job (d, (a, (number_plain u k g, tt)))
    (all_taken _ _ (next refl (next refl (next refl (next refl (next (before_flag (tries_accepted u k g low high)) no_more))))) refl refl)
    (given_restore false _ refl) (close_asked dir application false zero_is g)
close_read program dir application at tried use_checkpoints moment_words tries_words restore_words d a (moment {text = t} {at = m} f below) sixteen restoring =
    job_read program (codes "close") (plain dir ∷ plain application ∷ flag (codes "--at") ∷ plain t ∷ [])
    (leaf words.close) true _ close_is_job (d, (a, (number_plain t m f, tt)))
    (all_taken _ _ (next refl (next refl (next refl (next refl no_more)))) (at_end (moment_accepted t m f below)) refl)
    (given_restore true _ refl) (close_asked dir application true f sixteen_is)
close_read program dir application at tried use_checkpoints moment_words tries_words restore_words d a (moment {text = t} {at = m} f below) sixteen replaying =
    job_read program (codes "close") (plain dir ∷ plain application ∷ flag (codes "--at") ∷ plain t ∷ flag (codes "--no-checkpoint") ∷ [])
    (leaf words.close) false _ close_is_job (d, (a, (number_plain t m f, tt)))
    (all_taken _ _ (next refl (next refl (next refl (next refl (next (before_flag (moment_accepted t m f below)) no_more))))) refl refl)
    (given_restore false _ refl) (close_asked dir application false f sixteen_is)
close_read program dir application at tried use_checkpoints moment_words tries_words restore_words d a
    (moment {text = t} {at = m} f below) (tries {text = u} {n = k} g low high) restoring =
    job_read program (codes "close") (plain dir ∷ plain application ∷ flag (codes "--at") ∷ plain t ∷ flag (codes "--tries") ∷ plain u ∷ [])
    (leaf words.close) true _ close_is_job (d, (a, (number_plain t m f, (number_plain u k g, tt))))
    (all_taken _ _ (next refl (next refl (next refl (next refl (next (before_option (moment_accepted t m f below)) (next refl no_more))))))
    (at_end (tries_accepted u k g low high)) refl)
    (given_restore true _ refl) (close_asked dir application true f g)
close_read program dir application at tried use_checkpoints moment_words tries_words restore_words d a
    (moment {text = t} {at = m} f below) (tries {text = u} {n = k} g low high) replaying =
    job_read program (codes "close") (plain dir ∷ plain application ∷
    flag (codes "--at") ∷ plain t ∷ flag (codes "--tries") ∷ plain u ∷ flag (codes "--no-checkpoint") ∷ [])
    (leaf words.close) false _ close_is_job (d, (a, (number_plain t m f, (number_plain u k g, tt))))
    (all_taken _ _ (next refl (next refl (next refl (next refl
    (next (before_option (moment_accepted t m f below)) (next refl (next (before_flag (tries_accepted u k g low high)) no_more)))))))
    refl refl)
    (given_restore false _ refl) (close_asked dir application false f g)
