-- The words of `create`.
use Rattle.std.proofs.Common.{◌≡◌, ℕ, true, List, [], ◌∷◌, Option, Some, refl, codes}
use Rattle.std.specs.Prelude.{unwrap_or}
use Rattle.clap.specs.Walk.{Text}
use Rattle.clap.proofs.OnLiterals.{clap_on_literals}
use Rattle.lake_words.specs.Asked.{table}
use Rattle.lake_words.specs.Asked as asked
use Rattle.lake_words.specs.Spelling.{IsArgumentValue, SpellsMoment, beginning, moment}
use Rattle.lake_words.specs.Words as words
use Rattle.lake_words.proofs.JobWords.{AreRead, IsJob, no_restore, job_read, leaf}
use Rattle.lake_words.proofs.NumberWords.{at_end, moment_accepted, number_plain, zero_is}
use Rattle.lake_words.proofs.WordItems.{all_taken, flag, next, no_more, plain}

-- the name is a job of the program, with these rules
create_is_job : IsJob (codes "create") (leaf words.create)
unfolding clap_on_literals
create_is_job = record { walked = refl; passes = refl; found = refl }

-- the numbers are those that the texts read as
create_asked : {p : Option ℕ} {at : ℕ} (dir id schema : Text) → p ≡ Some at
    → table dir true (asked.create id schema (unwrap_or p 0)) ≡ table dir true (asked.create id schema at)
create_asked dir id schema p = rw p refl

-- create DIR --id ID --schema TEXT [--at MS]
pub create_read : (program dir id schema : Text) (at : ℕ) (moment_words : List Text)
    → IsArgumentValue dir → IsArgumentValue id → IsArgumentValue schema → SpellsMoment moment_words at
    → AreRead (program ∷ codes "create" ∷ dir ∷ codes "--id" ∷ id ∷ codes "--schema" ∷ schema ∷ moment_words) (table dir true (asked.create id schema at))
unfolding clap_on_literals
create_read program dir id schema at moment_words d i s beginning =
    job_read program (codes "create") (plain dir ∷ flag (codes "--id") ∷ plain id ∷ flag (codes "--schema") ∷ plain schema ∷ [])
    (leaf words.create) true _ create_is_job (d, (i, (s, tt)))
    (all_taken _ _ (next refl (next refl (next refl (next refl (next refl no_more))))) refl refl)
    (no_restore _ refl) (create_asked dir id schema zero_is)
create_read program dir id schema at moment_words d i s (moment {text = t} {at = m} f below) =
    job_read program (codes "create") (plain dir ∷ flag (codes "--id") ∷ plain id ∷ flag (codes "--schema") ∷ plain schema ∷ flag (codes "--at") ∷ plain t ∷ [])
    (leaf words.create) true _ create_is_job (d, (i, (s, (number_plain t m f, tt))))
    (all_taken _ _ (next refl (next refl (next refl (next refl (next refl (next refl (next refl no_more))))))) (at_end (moment_accepted t m f below)) refl)
    (no_restore _ refl) (create_asked dir id schema f)
