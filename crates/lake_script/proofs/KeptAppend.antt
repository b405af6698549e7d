-- A line that appends a batch, over a store that keeps what a script made so far.
use Rattle.std.proofs.Common.{◌≡◌, ◌≢◌, ℕ, ◌<◌, ◌≤◌, ◌==◌, ◌||◌, Bool, true, false, not, List, [], ◌∷◌, ◌++◌, length, Option, Some, None, Result, Ok, Err, eqb, ltb, eqb-true, refl, sym, ap, subst, ◌∙◌, arith}
use Rattle.std.specs.Prelude.{codes, cond, nat_lt, option_map}
use Rattle.std.specs.Str.{IsUtf8}
use Rattle.std.proofs.lemmas.Bool.{eqb-false, le-ltb, ltb-false}
use Rattle.serde_json.specs.Events.{items_len}
use Rattle.serde_json.specs.Data.{Items}
use Rattle.schema_tree.specs.Tree.{Tree}
use Rattle.store_core.specs.Objects.{Objects, object_at}
use Rattle.parquet_footer.specs.declared.fault.FileFault.{FileFault}
use Rattle.source_core.specs.ParquetReading.{rows_at}
use Rattle.source_core.specs.ParquetWriting.{written_file}
use Rattle.table_model.specs.Appends.{appended, with_batch}
use Rattle.table_model.specs.declared.table.AppendAnswer.TheVariants.{Committed, Already, Differs, StreamClosed}
use Rattle.table_model.specs.Lawful.{IsLawful}
use Rattle.store_core.specs.Names.{greatest_version}
use Rattle.delta_actions.specs.Names.{data_file_name as plain_file_name}
use Rattle.row_core.specs.Rows.{Row, same_rows}
use Rattle.delta_replay.specs.Support.{has_key_inside}
use Rattle.table_model.specs.Table as model
use Rattle.table_model.specs.Table.{ToldNumber, told_of, Entry, creation, group, last_told, is_stream_closed}
use Rattle.commit_core.specs.TableCommits.{IsCommitOf}
use Rattle.table_model.proofs.Callers.{append_keeps}
use Rattle.batch_core.specs.Committing.{batch_actions, batch_file_name, greatest_number}
use Rattle.batch_core.specs.Requests.{SinkRequest, checked, is_repeat, file_or_refusal}
use Rattle.sink_core.specs.Appending.{EncodedBatch, AppendPlan, puts, stands, request_of, size_behind, batch_of, put_plan, new_plan, repeated_plan, plan_of, append_plan, plan_answer, with_append, IsWellMade, PutsWell}
use Rattle.commit_core.specs.Commits.{commit_text}
use Rattle.script_lines.specs.Lines.{append, task}
use Rattle.batch_core.specs.Refusals.{SinkRefusal, bad_app, too_large, file_too_large, stale, differs, bad_log}
use Rattle.outcomes.specs.Results.{◌>>=◌, refused_if}
use Rattle.batch_core.specs.RowsIn.{rows_from, takes_rows}
use Rattle.lake_script.specs.Sound.{IsSoundStatement}
use Rattle.lake_script.specs.Tables as tables
use Rattle.lake_script.specs.Tables.{TableState, nothing, table}
use Rattle.lake_script.specs.Told.{reply_to_statement, left_by_statement, sink_reply}
use Rattle.read_laws.specs.Kept.{IsReadableFile, FileKept, KeepsTable}
use Rattle.lake_script.specs.Keeps.{HasNoOther, Keeps}
use Rattle.read_laws.proofs.Callers.{file_read, made_of, are_made, none_behind, count_kept, log_kept}
use Rattle.lake_script.proofs.KeptFile.{last_batch, same_either_way}
use Rattle.lake_script.proofs.KeptHolds.{append_stands}
use Rattle.lake_script.proofs.KeptNames.{same_file_name, batch_stands, no_file}
use Rattle.lake_script.proofs.KeptPuts.{kept_more, no_other_more}
use Rattle.lake_script.proofs.KeptRequest.{asked, goes_on, unless_invariant, request_is}
use Rattle.commit_core.proofs.Callers.{log_of_nothing}
use Rattle.outcomes.specs.Lines.{with_newline}

-- what an append does agrees with the batch that is handed in at the plain table
abbrev Agrees : (objects : Objects) (schema : Tree) (entries : List Entry) (number : ℕ) → Result AppendPlan SinkRefusal → Result model.Batch SinkRefusal → Type 0
Agrees objects schema entries number step answer =
    (sink_reply (step >>= plan_answer number) ≡ tables.appended_reply (table schema entries) answer) × Keeps (with_append objects step) (tables.with_appended (table schema entries) answer)

-- what is put is well made, and no file is too large
abbrev IsSoundPlan : (application : List ℕ) (number at : ℕ) → Result AppendPlan SinkRefusal → Type 0
IsSoundPlan application number at step = PutsWell application number at step × (step ≢ Err file_too_large)

-- ---- the tests in front

-- a number that was let through isn't too large
pub small_number : (application : List ℕ) (number rows : ℕ) → checked application number rows ≡ Ok tt → number ≤ greatest_number
unfolding checked
small_number application number rows fine = by_tests (length application == 0 || nat_lt 64 (length application)) (nat_lt greatest_number number) (nat_lt 65_536 rows) refl fine
  where
    by_tests : (bad big many : Bool) → nat_lt greatest_number number ≡ big → (refused_if bad bad_app >>= λ named. refused_if (big || many) too_large) ≡ Ok tt → number ≤ greatest_number
    by_tests true big many is fine = absurd cc
    by_tests false true many is fine = absurd cc
    by_tests false false many is fine = ltb-false greatest_number number is

-- the table behind an append is lawful
pub lawful_after : (objects : Objects) (schema : Tree) (entries : List Entry) (b : model.Batch) → KeepsTable objects schema entries → IsLawful (with_batch (appended b entries) b entries)
lawful_after objects schema entries b kept =
    subst (λ (es : List Entry). IsLawful (with_batch (appended b es) b es)) (sym kept.begins) (append_keeps b creation kept.rest (subst IsLawful kept.begins kept.lawful))

-- the next version of a table of few entries is one that a commit may have
pub version_fits : (entries : List Entry) → length entries ≤ greatest_version → nat_lt greatest_version (length entries) ≡ false
version_fits entries few = le-ltb greatest_version (length entries) few

-- the batch that is put with this file, whose commit states that size
abbrev pub made_with : (version : ℕ) (schema : Tree) (rows : List Row) (application : List ℕ) (number at size : ℕ) (file : List ℕ) → EncodedBatch
made_with version schema rows application number at size file = record {
  version = version;
  schema = schema;
  rows = rows;
  name = batch_file_name application number;
  file = file;
  commit = commit_text (batch_actions application number at size (length rows));
}

-- the batch that is handed in
abbrev pub handed_in : (application : List ℕ) (number : ℕ) (rows : List Row) → model.Batch
handed_in application number rows = record { application = application; number = number; rows = rows }

module _ (schema : Tree) (version : ℕ) (rows : List Row) (application : List ℕ) (number at size : ℕ) (file : List ℕ) where
  -- the file of a batch that is well made is one of its rows
  pub file_made : IsWellMade application number at (made_with version schema rows application number at size file) → IsReadableFile schema (handed_in application number rows) file
  file_made well = record { file = well.file; limits = well.limits }

  -- and its commit is one of the batch that is handed in
  pub commit_made : IsWellMade application number at (made_with version schema rows application number at size file) → IsCommitOf schema (group (handed_in application number rows ∷ [])) (made_with version schema rows application number at size file).commit
  commit_made well = append_stands schema (handed_in application number rows) at well.size (length rows) (batch_file_name application number) _ (same_file_name application number) well.commit

module _ (objects : Objects) (schema : Tree) (entries : List Entry) (kept : KeepsTable objects schema entries) (own : HasNoOther objects entries) (few : length entries ≤ greatest_version) (application : List ℕ) (number at : ℕ) (utf8 : IsUtf8 application)
    (fits : number ≤ greatest_number) (rows : List Row) where
  -- ---- a new number

  -- the file and the commit that are put are one entry more
  put_agrees : (size : ℕ) (file : List ℕ) → appended (handed_in application number rows) entries ≡ Committed (length entries) → object_at objects (plain_file_name application number) ≡ None
      → IsWellMade application number at (made_with (length entries) schema rows application number at size file) → Agrees objects schema entries number (Ok (puts (made_with (length entries) schema rows application number at size file))) (Ok (handed_in application number rows))
  put_agrees size file new free well =
      let made = made_with (length entries) schema rows application number at size file in
      let b = handed_in application number rows in
      let none = none_behind objects schema entries kept few in
      let is_file = file_made schema (length entries) rows application number at size file well in
      let is_commit = commit_made schema (length entries) rows application number at size file well in
      let lawful : IsLawful (entries ++ group (b ∷ []) ∷ []) = rw new at (lawful_after objects schema entries b kept) in
      let more = kept_more objects schema entries b file made.commit kept few lawful free none is_file is_commit in
      let alone = no_other_more objects entries b file made.commit utf8 own in
      rw (version_fits entries few, same_file_name application number, new) (refl, (rw (same_file_name application number) at more, rw (same_file_name application number) at alone))

  -- what is done for a new number
  new_agrees : appended (handed_in application number rows) entries ≡ Committed (length entries) → object_at objects (plain_file_name application number) ≡ None
      → IsSoundPlan application number at (new_plan objects (asked (length entries) schema rows false) application number at)
      → Agrees objects schema entries number (new_plan objects (asked (length entries) schema rows false) application number at) (Ok (handed_in application number rows))
  unfolding batch_of
  new_agrees new free sound = by_file (object_at objects (batch_file_name application number)) (written_file schema rows) sound
    where
      by_size : (size : ℕ) (file : List ℕ) → IsSoundPlan application number at (put_plan objects (made_with (length entries) schema rows application number at size file))
          → Agrees objects schema entries number (put_plan objects (made_with (length entries) schema rows application number at size file)) (Ok (handed_in application number rows))
      by_size size file sound =
          let made = made_with (length entries) schema rows application number at size file in
          let absent : object_at objects made.name ≡ None = ap (object_at objects) (same_file_name application number) ∙ free in
          let fitted : put_plan objects made ≡ Ok (puts made) = rw absent refl in
          rw fitted (put_agrees size file new free (rw fitted at sound.0))

      by_file : (found : Option (List ℕ)) (written : Result (List ℕ) FileFault) → IsSoundPlan application number at ((file_or_refusal written >>= λ file. Ok (made_with (length entries) schema rows application number at (size_behind file found) file)) >>= put_plan objects)
          → Agrees objects schema entries number ((file_or_refusal written >>= λ file. Ok (made_with (length entries) schema rows application number at (size_behind file found) file)) >>= put_plan objects) (Ok (handed_in application number rows))
      by_file found (Err fault) sound = absurd (sound.1 refl)
      by_file found (Ok file) sound = by_size (size_behind file found) file sound

  -- ---- the last number again

  -- where its file stands and is read, its rows are compared
  again_agrees : (before : model.Batch) (bytes : List ℕ) → last_told application entries ≡ Some (told_of before) → ltb number before.number ≡ false → eqb number before.number ≡ true
      → object_at objects (plain_file_name application number) ≡ Some bytes → rows_at bytes schema ≡ Ok before.rows
      → Agrees objects schema entries number (repeated_plan objects (asked (length entries) schema rows true) application number) (Ok (handed_in application number rows))
  again_agrees before bytes last over equal there reads =
      rw (same_file_name application number, there, reads, same_either_way before.rows rows, last, over, equal) (by_same (same_rows rows before.rows))
    where
      by_same : (same : Bool)
          → (sink_reply ((refused_if (not same) (differs (plain_file_name application number)) >>= λ fits. Ok stands) >>= plan_answer number)
          ≡ with_newline (tables.answer_text (handed_in application number rows) (cond same (Already number) Differs)))
          × Keeps (with_append objects (refused_if (not same) (differs (plain_file_name application number)) >>= λ fits. Ok stands)) (table schema (with_batch (cond same (Already number) Differs) (handed_in application number rows) entries))
      by_same true = (refl, (kept, own))
      by_same false = (refl, (kept, own))

  -- what is done behind the application's last number
  abbrev behind_last : Option ℕ → Result AppendPlan SinkRefusal
  behind_last last = (is_repeat number last >>= λ repeats. goes_on (is_stream_closed application entries) repeats >>= λ open_. Ok (asked (length entries) schema rows repeats)) >>= plan_of objects application number at

  -- what is done for a new number, where the stream may be closed
  open_agrees : (closed : Bool) → appended (handed_in application number rows) entries ≡ cond closed StreamClosed (Committed (length entries)) → object_at objects (plain_file_name application number) ≡ None
      → IsSoundPlan application number at ((goes_on closed false >>= λ open_. Ok (asked (length entries) schema rows false)) >>= plan_of objects application number at)
      → Agrees objects schema entries number ((goes_on closed false >>= λ open_. Ok (asked (length entries) schema rows false)) >>= plan_of objects application number at) (Ok (handed_in application number rows))
  open_agrees true new free sound = rw new (refl, (kept, own))
  open_agrees false new free sound = new_agrees new free sound

  -- the file of the last batch does stand, and is read
  last_agrees : (before : ToldNumber) → last_told application entries ≡ Some before → ltb number before.number ≡ false → eqb number before.number ≡ true
      → Agrees objects schema entries number (repeated_plan objects (asked (length entries) schema rows true) application number) (Ok (handed_in application number rows))
  last_agrees before last over equal =
      let found = last_batch application entries before last in
      let b = found.b in
      let is : last_told application entries ≡ Some (told_of b) = last ∙ ap (λ (t : ToldNumber). Some t) (sym found.told) in
      let over_it : ltb number b.number ≡ false = ap (λ (t : ToldNumber). ltb number t.number) found.told ∙ over in
      let equal_it : eqb number b.number ≡ true = ap (λ (t : ToldNumber). eqb number t.number) found.told ∙ equal in
      let file : FileKept objects schema b = batch_stands objects schema 0 entries b kept.kept found.stands in
      let name : plain_file_name application number ≡ plain_file_name b.application b.number =
      ap (λ (a : List ℕ). plain_file_name a number) (sym found.own) ∙ ap (plain_file_name b.application) (eqb-true number b.number equal_it) in
      again_agrees b file.0 is over_it equal_it (ap (object_at objects) name ∙ file.1) (file_read schema b file.0 file.2)

  -- what is done behind what was told last, if anything was
  behind_agrees : (last : Option ToldNumber) → last_told application entries ≡ last → IsSoundPlan application number at (behind_last (option_map (λ (t : ToldNumber). t.number) last))
      → Agrees objects schema entries number (behind_last (option_map (λ (t : ToldNumber). t.number) last)) (Ok (handed_in application number rows))
  behind_agrees None is sound = open_agrees (is_stream_closed application entries) (rw is refl) (no_file objects schema entries application number kept own utf8 fits (rw is tt)) sound
  behind_agrees (Some before) is sound = by_tests (ltb number before.number) (eqb number before.number) refl refl sound
    where
      by_tests : (below equal : Bool) → ltb number before.number ≡ below → eqb number before.number ≡ equal
          → IsSoundPlan application number at ((cond below (Err (stale before.number)) (Ok equal) >>= λ repeats. goes_on (is_stream_closed application entries) repeats >>= λ open_. Ok (asked (length entries) schema rows repeats)) >>= plan_of objects application number at)
          → Agrees objects schema entries number ((cond below (Err (stale before.number)) (Ok equal) >>= λ repeats. goes_on (is_stream_closed application entries) repeats >>= λ open_. Ok (asked (length entries) schema rows repeats)) >>= plan_of objects application number at) (Ok (handed_in application number rows))
      by_tests true equal under same sound = rw (is, under) (refl, (kept, own))
      by_tests false true over same sound = last_agrees before is over same
      by_tests false false over other sound =
          let least : before.number ≤ number = ltb-false number before.number over in
          let apart : number ≡ before.number → ⊥ = eqb-false number before.number other in
          let above : before.number < number = omega arith in
          open_agrees (is_stream_closed application entries) (rw (is, over, other) refl) (no_file objects schema entries application number kept own utf8 fits (rw is above)) sound

-- ---- a line that appends

-- what is done with rows that were read
abbrev pub step_with : (objects : Objects) (entries : List Entry) (application : List ℕ) (number at : ℕ) (schema : Tree) → Result (List Row) SinkRefusal → Result AppendPlan SinkRefusal
step_with objects entries application number at schema read =
    (read >>= λ rows. is_repeat number (option_map (λ (t : ToldNumber). t.number) (last_told application entries)) >>= λ repeats. goes_on (is_stream_closed application entries) repeats >>= λ open_. Ok (asked (length entries) schema rows repeats))
    >>= plan_of objects application number at

-- what a line asks of a kept table
abbrev pub step_behind : (objects : Objects) (schema : Tree) (entries : List Entry) (application : List ℕ) (number at : ℕ) (items : Items) → Result (Unit {0}) SinkRefusal → (barred : Bool) → Result (Unit {0}) SinkRefusal → Result AppendPlan SinkRefusal
step_behind objects schema entries application number at items fine barred takes =
    (fine >>= λ passed. unless_invariant barred >>= λ plain. takes >>= λ supported. rows_from 0 schema items >>= λ rows. is_repeat number (option_map (λ (t : ToldNumber). t.number) (last_told application entries)) >>= λ repeats.
    goes_on (is_stream_closed application entries) repeats >>= λ open_. Ok (asked (length entries) schema rows repeats)) >>= plan_of objects application number at

-- that is what an append does over the objects
pub step_is : (objects : Objects) (schema : Tree) (entries : List Entry) (application : List ℕ) (number at : ℕ) (items : Items) → IsUtf8 application → KeepsTable objects schema entries
    → append_plan false objects application number at items
    ≡ step_behind objects schema entries application number at items (checked application number (items_len items)) (has_key_inside (codes "delta.invariants") schema) (takes_rows schema)
unfolding request_of
step_is objects schema entries application number at items utf8 kept =
    let commits = made_of objects schema 0 entries kept.kept in
    rw (log_kept objects schema entries kept, count_kept objects schema entries kept, request_is objects (length entries) schema entries kept.rest commits application number items utf8 kept.begins (are_made objects schema 0 entries kept.kept)) refl

-- where a table is kept, the answer is the plain table's
table_agrees : (objects : Objects) (schema : Tree) (entries : List Entry) (application : List ℕ) (number at : ℕ) (items : Items) (fine : Result (Unit {0}) SinkRefusal) (barred : Bool) (takes : Result (Unit {0}) SinkRefusal)
    → Keeps objects (table schema entries) → length entries ≤ greatest_version → IsUtf8 application → checked application number (items_len items) ≡ fine
    → IsSoundPlan application number at (step_behind objects schema entries application number at items fine barred takes)
    → Agrees objects schema entries number (step_behind objects schema entries application number at items fine barred takes)
    (fine >>= λ passed. unless_invariant barred >>= λ plain. takes >>= λ supported. rows_from 0 schema items >>= λ rows. Ok (handed_in application number rows))
table_agrees objects schema entries application number at items (Err why) barred takes kept few utf8 is sound = (refl, kept)
table_agrees objects schema entries application number at items (Ok passed) true takes kept few utf8 is sound = (refl, kept)
table_agrees objects schema entries application number at items (Ok passed) false (Err why) kept few utf8 is sound = (refl, kept)
table_agrees objects schema entries application number at items (Ok passed) false (Ok supported) kept few utf8 is sound = by_read (rows_from 0 schema items) sound
  where
    by_read : (read : Result (List Row) SinkRefusal) → IsSoundPlan application number at (step_with objects entries application number at schema read)
        → Agrees objects schema entries number (step_with objects entries application number at schema read) (read >>= λ rows. Ok (handed_in application number rows))
    by_read (Err why) sound = (refl, kept)
    by_read (Ok rows) sound =
        behind_agrees objects schema entries kept.0 kept.1 few application number at utf8 (small_number application number (items_len items) is) rows (last_told application entries) refl sound

-- what a line asks of a store of nothing
abbrev pub step_of_nothing : (application : List ℕ) (number at : ℕ) → Result (Unit {0}) SinkRefusal → Result AppendPlan SinkRefusal
step_of_nothing application number at fine = ◌>>=◌ {B = SinkRequest} fine (λ passed. Err (bad_log 0)) >>= plan_of [] application number at

-- that is what an append does where nothing stands
pub nothing_is : (application : List ℕ) (number at : ℕ) (items : Items) → append_plan false [] application number at items ≡ step_of_nothing application number at (checked application number (items_len items))
unfolding request_of
nothing_is application number at items = rw log_of_nothing refl

-- no batch is handed in where nothing stands
nothing_agrees : (application : List ℕ) (number at : ℕ) (fine : Result (Unit {0}) SinkRefusal)
    → (sink_reply (step_of_nothing application number at fine >>= plan_answer number) ≡ tables.appended_reply nothing (fine >>= λ passed. Err (bad_log 0))) × (with_append [] (step_of_nothing application number at fine) ≡ [])
nothing_agrees application number at (Err why) = (refl, refl)
nothing_agrees application number at (Ok passed) = (refl, refl)

-- the reply to a line that appends a batch is the plain table's, and the store goes on to keep it
pub append_told : (objects : Objects) (state : TableState) (application : List ℕ) (number at : ℕ) (items : Items) (printed : List ℕ) → Keeps objects state → length (tables.entries_of_state state) ≤ greatest_version
    → IsSoundStatement objects (task (append application number at items)) printed
    → (reply_to_statement objects (task (append application number at items)) printed ≡ tables.table_reply_to_statement state (task (append application number at items)))
    × Keeps (left_by_statement objects (task (append application number at items)) printed) (tables.table_left_by_statement state (task (append application number at items)))
append_told objects nothing application number at items printed keeps few sound =
    rw (keeps, nothing_is application number at items) (nothing_agrees application number at (checked application number (items_len items)))
append_told objects (table schema entries) application number at items printed keeps few sound =
    let is = step_is objects schema entries application number at items sound.0 keeps.0 in
    let step_sound : IsSoundPlan application number at (append_plan false objects application number at items) = (sound.1, sound.2) in
    let barred = has_key_inside (codes "delta.invariants") schema in
    let told = table_agrees objects schema entries application number at items (checked application number (items_len items)) barred (takes_rows schema) keeps few sound.0 refl (rw is at step_sound) in
    rw is told
