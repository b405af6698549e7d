-- The words of `append`.
use Rattle.std.proofs.Common.{◌≡◌, ℕ, Bool, true, false, List, [], ◌∷◌, ◌++◌, Option, Some, None, refl, codes}
use Rattle.std.specs.Prelude.{unwrap_or}
use Rattle.clap.specs.Walk.{Text}
use Rattle.clap.proofs.OnLiterals.{clap_on_literals}
use Rattle.lake_words.specs.Asked.{table}
use Rattle.lake_words.specs.Asked as asked
use Rattle.lake_words.specs.Spelling.{IsArgumentValue, IsNumber, SpellsMoment, SpellsRestore, SpellsRows, SpellsTries, any, beginning, moment, replaying, restoring, rows, sixteen, tries}
use Rattle.lake_words.specs.Words as words
use Rattle.lake_words.proofs.JobWords.{AreRead, IsJob, given_restore, job_read, leaf}
use Rattle.lake_words.proofs.NumberWords.{any_accepted, at_end, before_flag, before_option, moment_accepted, number_plain, sixteen_is, tries_accepted, zero_is}
use Rattle.lake_words.proofs.WordItems.{all_taken, flag, next, no_more, plain}

-- the name is a job of the program, with these rules
append_is_job : IsJob (codes "append") (leaf words.append)
unfolding clap_on_literals
append_is_job = record { walked = refl; passes = refl; found = refl }

-- no number of rows is given
abbrev not_given : Option ℕ
not_given = None

none_is : not_given ≡ None
none_is = refl

-- the numbers are those that the texts read as
append_asked : {p q r s : Option ℕ} {n at tries : ℕ} {count : Option ℕ} (dir application : Text) (use_checkpoints : Bool) → p ≡ Some n → q ≡ Some at → r ≡ Some tries → s ≡ count
    → table dir use_checkpoints (asked.append application (unwrap_or p 0) (unwrap_or q 0) (unwrap_or r 0) s) ≡ table dir use_checkpoints (asked.append application n at tries count)
append_asked dir application use_checkpoints p q r s = rw (p, q, r, s) refl

-- append DIR APP NUMBER [--rows N] [--at MS] [--tries N] [--no-checkpoint]
pub append_read : (program dir application number : Text) (n at tries : ℕ) (count : Option ℕ) (use_checkpoints : Bool) (rows_words moment_words tries_words restore_words : List Text)
    → IsArgumentValue dir → IsArgumentValue application → IsNumber number n → SpellsRows rows_words count → SpellsMoment moment_words at → SpellsTries tries_words tries → SpellsRestore restore_words use_checkpoints
    → AreRead (program ∷ codes "append" ∷ dir ∷ application ∷ number ∷ rows_words ++ (moment_words ++ (tries_words ++ restore_words))) (table dir use_checkpoints (asked.append application n at tries count))
unfolding clap_on_literals
append_read program dir application number n at tried count use_checkpoints rows_words moment_words tries_words restore_words d a e any beginning sixteen restoring =
    job_read program (codes "append") (plain dir ∷ plain application ∷ plain number ∷ [])
    (leaf words.append) true _ append_is_job (d, (a, (number_plain number n e, tt)))
    (all_taken _ _ (next refl (next refl (next refl no_more))) (at_end (any_accepted number n e)) refl)
    (given_restore true _ refl) (append_asked dir application true e zero_is sixteen_is none_is)
append_read program dir application number n at tried count use_checkpoints rows_words moment_words tries_words restore_words d a e any beginning sixteen replaying =
    job_read program (codes "append") (plain dir ∷ plain application ∷ plain number ∷ flag (codes "--no-checkpoint") ∷ [])
    (leaf words.append) false _ append_is_job (d, (a, (number_plain number n e, tt)))
    (all_taken _ _ (next refl (next refl (next refl (next (before_flag (any_accepted number n e)) no_more)))) refl refl)
    (given_restore false _ refl) (append_asked dir application false e zero_is sixteen_is none_is)
append_read program dir application number n at tried count use_checkpoints rows_words moment_words tries_words restore_words d a e any beginning (tries {text = u} {n = k} g low high) restoring =
    job_read program (codes "append") (plain dir ∷ plain application ∷ plain number ∷ flag (codes "--tries") ∷ plain u ∷ [])
    (leaf words.append) true _ append_is_job (d, (a, (number_plain number n e, (number_plain u k g, tt))))
    (all_taken _ _ (next refl (next refl (next refl (next (before_option (any_accepted number n e)) (next refl no_more))))) (at_end (tries_accepted u k g low high)) refl)
    (given_restore true _ refl) (append_asked dir application true e zero_is g none_is)
append_read program dir application number n at tried count use_checkpoints rows_words moment_words tries_words restore_words d a e any beginning (tries {text = u} {n = k} g low high) replaying =
    job_read program (codes "append") (plain dir ∷ plain application ∷ plain number ∷ flag (codes "--tries") ∷ plain u ∷ flag (codes "--no-checkpoint") ∷ [])
    (leaf words.append) false _ append_is_job (d, (a, (number_plain number n e, (number_plain u k g, tt))))
    (all_taken _ _ (next refl (next refl (next refl (next (before_option (any_accepted number n e)) (next refl (next (before_flag (tries_accepted u k g low high)) no_more)))))) refl refl)
    (given_restore false _ refl) (append_asked dir application false e zero_is g none_is)
append_read program dir application number n at tried count use_checkpoints rows_words moment_words tries_words restore_words d a e any (moment {text = t} {at = m} f below) sixteen restoring =
    job_read program (codes "append") (plain dir ∷ plain application ∷ plain number ∷ flag (codes "--at") ∷ plain t ∷ [])
    (leaf words.append) true _ append_is_job (d, (a, (number_plain number n e, (number_plain t m f, tt))))
    (all_taken _ _ (next refl (next refl (next refl (next (before_option (any_accepted number n e)) (next refl no_more))))) (at_end (moment_accepted t m f below)) refl)
    (given_restore true _ refl) (append_asked dir application true e f sixteen_is none_is)
append_read program dir application number n at tried count use_checkpoints rows_words moment_words tries_words restore_words d a e any (moment {text = t} {at = m} f below) sixteen replaying =
    job_read program (codes "append") (plain dir ∷ plain application ∷ plain number ∷ flag (codes "--at") ∷ plain t ∷ flag (codes "--no-checkpoint") ∷ [])
    (leaf words.append) false _ append_is_job (d, (a, (number_plain number n e, (number_plain t m f, tt))))
    (all_taken _ _ (next refl (next refl (next refl (next (before_option (any_accepted number n e)) (next refl (next (before_flag (moment_accepted t m f below)) no_more)))))) refl refl)
    (given_restore false _ refl) (append_asked dir application false e f sixteen_is none_is)
append_read program dir application number n at tried count use_checkpoints rows_words moment_words tries_words restore_words d a e any (moment {text = t} {at = m} f below) (tries {text = u} {n = k} g low high) restoring =
    job_read program (codes "append") (plain dir ∷ plain application ∷ plain number ∷ flag (codes "--at") ∷ plain t ∷ flag (codes "--tries") ∷ plain u ∷ [])
    (leaf words.append) true _ append_is_job (d, (a, (number_plain number n e, (number_plain t m f, (number_plain u k g, tt)))))
    (all_taken _ _ (next refl (next refl (next refl (next (before_option (any_accepted number n e)) (next refl (next (before_option (moment_accepted t m f below)) (next refl no_more))))))) (at_end (tries_accepted u k g low high)) refl)
    (given_restore true _ refl) (append_asked dir application true e f g none_is)
append_read program dir application number n at tried count use_checkpoints rows_words moment_words tries_words restore_words d a e any (moment {text = t} {at = m} f below) (tries {text = u} {n = k} g low high) replaying =
    job_read program (codes "append") (plain dir ∷ plain application ∷ plain number ∷ flag (codes "--at") ∷ plain t ∷ flag (codes "--tries") ∷ plain u ∷ flag (codes "--no-checkpoint") ∷ [])
    (leaf words.append) false _ append_is_job (d, (a, (number_plain number n e, (number_plain t m f, (number_plain u k g, tt)))))
    (all_taken _ _ (next refl (next refl (next refl (next (before_option (any_accepted number n e)) (next refl (next (before_option (moment_accepted t m f below)) (next refl (next (before_flag (tries_accepted u k g low high)) no_more)))))))) refl refl)
    (given_restore false _ refl) (append_asked dir application false e f g none_is)
append_read program dir application number n at tried count use_checkpoints rows_words moment_words tries_words restore_words d a e (rows {text = w} {n = j} v) beginning sixteen restoring =
    job_read program (codes "append") (plain dir ∷ plain application ∷ plain number ∷ flag (codes "--rows") ∷ plain w ∷ [])
    (leaf words.append) true _ append_is_job (d, (a, (number_plain number n e, (number_plain w j v, tt))))
    (all_taken _ _ (next refl (next refl (next refl (next (before_option (any_accepted number n e)) (next refl no_more))))) (at_end (any_accepted w j v)) refl)
    (given_restore true _ refl) (append_asked dir application true e zero_is sixteen_is v)
append_read program dir application number n at tried count use_checkpoints rows_words moment_words tries_words restore_words d a e (rows {text = w} {n = j} v) beginning sixteen replaying =
    job_read program (codes "append") (plain dir ∷ plain application ∷ plain number ∷ flag (codes "--rows") ∷ plain w ∷ flag (codes "--no-checkpoint") ∷ [])
    (leaf words.append) false _ append_is_job (d, (a, (number_plain number n e, (number_plain w j v, tt))))
    (all_taken _ _ (next refl (next refl (next refl (next (before_option (any_accepted number n e)) (next refl (next (before_flag (any_accepted w j v)) no_more)))))) refl refl)
    (given_restore false _ refl) (append_asked dir application false e zero_is sixteen_is v)
append_read program dir application number n at tried count use_checkpoints rows_words moment_words tries_words restore_words d a e (rows {text = w} {n = j} v) beginning (tries {text = u} {n = k} g low high) restoring =
    job_read program (codes "append") (plain dir ∷ plain application ∷ plain number ∷ flag (codes "--rows") ∷ plain w ∷ flag (codes "--tries") ∷ plain u ∷ [])
    (leaf words.append) true _ append_is_job (d, (a, (number_plain number n e, (number_plain w j v, (number_plain u k g, tt)))))
    (all_taken _ _ (next refl (next refl (next refl (next (before_option (any_accepted number n e)) (next refl (next (before_option (any_accepted w j v)) (next refl no_more))))))) (at_end (tries_accepted u k g low high)) refl)
    (given_restore true _ refl) (append_asked dir application true e zero_is g v)
append_read program dir application number n at tried count use_checkpoints rows_words moment_words tries_words restore_words d a e (rows {text = w} {n = j} v) beginning (tries {text = u} {n = k} g low high) replaying =
    job_read program (codes "append") (plain dir ∷ plain application ∷ plain number ∷ flag (codes "--rows") ∷ plain w ∷ flag (codes "--tries") ∷ plain u ∷ flag (codes "--no-checkpoint") ∷ [])
    (leaf words.append) false _ append_is_job (d, (a, (number_plain number n e, (number_plain w j v, (number_plain u k g, tt)))))
    (all_taken _ _ (next refl (next refl (next refl (next (before_option (any_accepted number n e)) (next refl (next (before_option (any_accepted w j v)) (next refl (next (before_flag (tries_accepted u k g low high)) no_more)))))))) refl refl)
    (given_restore false _ refl) (append_asked dir application false e zero_is g v)
append_read program dir application number n at tried count use_checkpoints rows_words moment_words tries_words restore_words d a e (rows {text = w} {n = j} v) (moment {text = t} {at = m} f below) sixteen restoring =
    job_read program (codes "append") (plain dir ∷ plain application ∷ plain number ∷ flag (codes "--rows") ∷ plain w ∷ flag (codes "--at") ∷ plain t ∷ [])
    (leaf words.append) true _ append_is_job (d, (a, (number_plain number n e, (number_plain w j v, (number_plain t m f, tt)))))
    (all_taken _ _ (next refl (next refl (next refl (next (before_option (any_accepted number n e)) (next refl (next (before_option (any_accepted w j v)) (next refl no_more))))))) (at_end (moment_accepted t m f below)) refl)
    (given_restore true _ refl) (append_asked dir application true e f sixteen_is v)
append_read program dir application number n at tried count use_checkpoints rows_words moment_words tries_words restore_words d a e (rows {text = w} {n = j} v) (moment {text = t} {at = m} f below) sixteen replaying =
    job_read program (codes "append") (plain dir ∷ plain application ∷ plain number ∷ flag (codes "--rows") ∷ plain w ∷ flag (codes "--at") ∷ plain t ∷ flag (codes "--no-checkpoint") ∷ [])
    (leaf words.append) false _ append_is_job (d, (a, (number_plain number n e, (number_plain w j v, (number_plain t m f, tt)))))
    (all_taken _ _ (next refl (next refl (next refl (next (before_option (any_accepted number n e)) (next refl (next (before_option (any_accepted w j v)) (next refl (next (before_flag (moment_accepted t m f below)) no_more)))))))) refl refl)
    (given_restore false _ refl) (append_asked dir application false e f sixteen_is v)
append_read program dir application number n at tried count use_checkpoints rows_words moment_words tries_words restore_words d a e (rows {text = w} {n = j} v) (moment {text = t} {at = m} f below) (tries {text = u} {n = k} g low high) restoring =
    job_read program (codes "append") (plain dir ∷ plain application ∷ plain number ∷ flag (codes "--rows") ∷ plain w ∷ flag (codes "--at") ∷ plain t ∷ flag (codes "--tries") ∷ plain u ∷ [])
    (leaf words.append) true _ append_is_job (d, (a, (number_plain number n e, (number_plain w j v, (number_plain t m f, (number_plain u k g, tt))))))
    (all_taken _ _ (next refl (next refl (next refl (next (before_option (any_accepted number n e)) (next refl (next (before_option (any_accepted w j v)) (next refl (next (before_option (moment_accepted t m f below)) (next refl no_more))))))))) (at_end (tries_accepted u k g low high)) refl)
    (given_restore true _ refl) (append_asked dir application true e f g v)
append_read program dir application number n at tried count use_checkpoints rows_words moment_words tries_words restore_words d a e (rows {text = w} {n = j} v) (moment {text = t} {at = m} f below) (tries {text = u} {n = k} g low high) replaying =
    job_read program (codes "append") (plain dir ∷ plain application ∷ plain number ∷ flag (codes "--rows") ∷ plain w ∷ flag (codes "--at") ∷ plain t ∷ flag (codes "--tries") ∷ plain u ∷ flag (codes "--no-checkpoint") ∷ [])
    (leaf words.append) false _ append_is_job (d, (a, (number_plain number n e, (number_plain w j v, (number_plain t m f, (number_plain u k g, tt))))))
    (all_taken _ _ (next refl (next refl (next refl (next (before_option (any_accepted number n e)) (next refl (next (before_option (any_accepted w j v)) (next refl (next (before_option (moment_accepted t m f below)) (next refl (next (before_flag (tries_accepted u k g low high)) no_more)))))))))) refl refl)
    (given_restore false _ refl) (append_asked dir application false e f g v)
