use Rattle.std.proofs.Common.{◌≡◌, ℕ, map, subst}
use Rattle.table_model.specs.Reads.{IsPart}
use Rattle.table_model.specs.Resumed.{beginning}
use Rattle.table_model.proofs.Callers.{beginning_is_offset}
use Rattle.table_model.proofs.PartLemmas.{no_part}
use Rattle.table_model.proofs.Resumed.{any_from_beginning, handed_out}
use Rattle.read_laws.specs.Readers.{next_of_all, rows_of_all, table_of_all}
use Rattle.read_laws.proofs.ReaderLaws.{follow_parts, limits_same, stays_offset}
use Rattle.read_laws.proofs.reads_that_follow_hand_out_the_log.Goals as goal

pub returns-clause-part : goal.returns-clause-part
returns-clause-part c = λ schema reads offset entries place follow.
    subst (λ (n : ℕ). IsPart n offset (rows_of_all reads) (next_of_all reads offset) (table_of_all reads entries)) (limits_same reads)
    (handed_out (map (λ r. (r.max, r.more)) reads) offset entries _ place.0 (follow_parts no_part stays_offset schema reads offset entries place.0 follow))

pub returns-clause-from_beginning : goal.returns-clause-from_beginning
returns-clause-from_beginning c = λ schema reads entries follow.
    any_from_beginning (map (λ r. (r.max, r.more)) reads) entries _ (follow_parts no_part stays_offset schema reads beginning entries (beginning_is_offset entries) follow)
