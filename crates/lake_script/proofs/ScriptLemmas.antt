-- From the objects to the plain table, for a whole script.
use Rattle.std.proofs.Common.{◌≡◌, ◌≤◌, ◌+◌, ◌++◌, ℕ, suc, List, Option, length, length-append, subst, sym, ap, ◌∙◌, arith}
use Rattle.std.proofs.lemmas.List.Splits.{length-slice_split}
use Rattle.std.proofs.lemmas.List.Sums.{count_by-le-length}
use Rattle.std.specs.Io.KnownBytes.{Appends}
use Rattle.store_core.specs.Objects.{Objects}
use Rattle.lake_script.specs.Scripts.{HoldsState, IsScript, ReadsOut}
use Rattle.lake_script.specs.Sound.{AreSoundLines, IsScriptRun}
use Rattle.lake_script.specs.Tables as tables
use Rattle.delta_actions.specs.Commit.{lines_of}
use Rattle.store_core.specs.Names.{greatest_version}
use Rattle.lake_script.specs.Keeps.{Keeps}
use Rattle.lake_script.specs.Tables.{TableState, entries_of_state}
use Rattle.lake_script.specs.Told.{expected_from, ArePrintedLines}
use Rattle.script_lines.specs.Splitting.{is_newline}
use Rattle.lake_script.proofs.KeptRuns.{told_on, told_in_front, told_with_objects, left_on}
use Rattle.lake_script.proofs.KeptScripts.{lines_told, kept_held, kept_reads_out}

-- a text has one line more than newlines
pub few_lines : (text : List ℕ) → length (lines_of text) ≤ suc (length text)
few_lines text = omega (length-slice_split is_newline text, count_by-le-length is_newline text, arith)

-- a table has few entries with one more for each of the first of some lines
front_few : (state : TableState) (front rest lines : List (List ℕ)) → lines ≡ front ++ rest → length (entries_of_state state) + length lines ≤ suc greatest_version → length (entries_of_state state) + length front ≤ suc greatest_version
front_few state front rest lines split few = let both = length-append front rest in omega (arith, both, ap length split, few)

-- a run over objects that keep a table, or nothing, as the plain table tells it
pub script_told : (state : TableState) (old new : Option (List ℕ)) (text : List ℕ) (before after : Objects) → length (entries_of_state state) + length (lines_of text) ≤ suc greatest_version → Keeps before state → IsScriptRun before text old new after
    → IsScript state old new text before after
script_told state old new text before after few kept run =
    let lines = lines_of text in
    let is = sym run.left in
    let kept_then = left_on lines_told before state lines run.texts kept few run.printed run.sound in
    record {
      by_table = λ of_table.
          subst (Appends old new) (told_on lines_told 1 before state lines run.texts kept few run.printed run.sound of_table) run.told;
      begins = λ front rest split of_table.
          let beside = subst (λ ls. ArePrintedLines before ls run.texts) split run.printed in
          let sound = subst (λ ls. AreSoundLines before ls run.texts) split run.sound in
          let begun = told_in_front lines_told 1 before state front rest run.texts kept (front_few state front rest lines split few) beside sound of_table in
          let wrote = ap (λ ls. expected_from 1 before ls run.texts) split ∙ begun.1 in
          (begun.0, subst (Appends old new) wrote run.told);
      over = λ here. (run.texts, run.printed, subst (Appends old new) (told_with_objects lines_told 1 before state lines run.texts kept few run.printed run.sound here) run.told);
      keeps = λ here. subst (λ objects. Keeps objects (tables.table_left state text)) is (kept_then here);
      holds = λ here. subst (λ objects. HoldsState objects (tables.table_left state text)) is (kept_held _ (tables.table_left state text) (kept_then here));
      reads = λ here. subst (λ objects. ReadsOut objects (tables.table_left state text)) is (kept_reads_out _ (tables.table_left state text) (kept_then here));
    }
