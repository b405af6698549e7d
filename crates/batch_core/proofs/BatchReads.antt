-- The commit of a batch reads as its actions.
use Rattle.std.proofs.Common.{◌≤◌, ◌<◌, ◌^◌, ℕ, List, codes, refl, arith}
use Rattle.std.specs.Str.{IsUtf8}
use Rattle.json.proofs.Printed.Utf8.{IsUtf8-are_ascii}
use Rattle.delta_actions.specs.Commit.{IsCommit}
use Rattle.commit_core.specs.Commits.{commit_text}
use Rattle.batch_core.specs.Committing.{appending, batch_actions, batch_file_name, greatest_number, stats_text}
use Rattle.batch_core.proofs.ActionTexts.{add_back, file_name_utf8, info_back, stats_utf8, txn_back}
use Rattle.batch_core.proofs.CommitLemmas.{appending_printable, name_decodes, plain_path}
use Rattle.batch_core.proofs.TextReads.{text_reads}

name_utf8 : (application : List ℕ) (number : ℕ) → number < 2 ^ 64 → IsUtf8 (batch_file_name application number)
unfolding batch_file_name
name_utf8 application number small = file_name_utf8 application number small

-- The commit of a batch reads as its actions: its text is what they print, and it is read back.
pub batch_reads : (application : List ℕ) (number at size rows : ℕ) → IsUtf8 application → number ≤ greatest_number → at < 2 ^ 63 → size < 2 ^ 63 → rows < 2 ^ 64 → IsCommit (commit_text (batch_actions application number at size rows)) (batch_actions application number at size rows)
unfolding commit_text appending
batch_reads application number at size rows utf8 number_small at_small size_small rows_small =
    let name = batch_file_name application number in
    let name_so : IsUtf8 name = name_utf8 application number (omega (arith, number_small)) in
    text_reads (batch_actions application number at size rows)
    (appending_printable application number at name size rows (omega (arith, number_small)) at_small size_small (plain_path name name_so (name_decodes application number (omega (arith, number_small))))) (
      info_back (codes "STREAMING UPDATE") at (IsUtf8-are_ascii (codes "STREAMING UPDATE") refl) (omega (arith, at_small)),
      (
        txn_back application number at utf8 (omega (arith, number_small)) (omega (arith, at_small)),
        (add_back name name (stats_text rows) size at name_so (stats_utf8 rows rows_small) (omega (arith, size_small)) (omega (arith, at_small)), tt),
      ),
    )
