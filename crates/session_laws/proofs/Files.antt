-- What was so of a sound store's log at one of its versions, and what a file of a job's rows is: for the one schema that the table has.
use Rattle.std.proofs.Common.{◌≡◌, ◌∙◌, ℕ, List, length, true, Some, Result, Ok, Err, refl, sym, ap, subst}
use Rattle.serde_json.specs.Data.{Items}
use Rattle.outcomes.specs.Bytes.{IsBytes}
use Rattle.store_core.specs.Objects.{Objects, object_at}
use Rattle.delta_actions.specs.Action.{Action}
use Rattle.delta_replay.specs.Keys.{last_number}
use Rattle.delta_replay.specs.Support.{writable}
use Rattle.source_core.specs.ParquetReading.{rows_at}
use Rattle.source_core.proofs.Callers.{rows_found}
use Rattle.parquet_footer.specs.declared.fault.FileFault.{FileFault}
use Rattle.row_core.specs.Rows.{Row}
use Rattle.row_core.proofs.Callers.{same_rows-is}
use Rattle.schema_tree.specs.Limits.{IsWithinLimits}
use Rattle.table_log.proofs.Callers.{same_values}
use Rattle.table_model.specs.Table.{Entry}
use Rattle.table_store.specs.Holds.{Holds, Stands}
use Rattle.table_store.specs.Schema.{Schema, IsFileOf}
use Rattle.commit_core.specs.SoundStores.{IsSoundStore}
use Rattle.commit_core.proofs.Callers.{front_log}
use Rattle.batch_core.specs.Requests.{has_same, is_same}
use Rattle.batch_core.specs.RowsIn.{rows_from}
use Rattle.sink_core.specs.SinkLaws.{FileOfItems, HadSchema, WasSo}
use Rattle.session_laws.proofs.Fronts.{IsFrontOf, front_of}
use Rattle.session_laws.proofs.TableAnswers.{written_front}

-- ---- files

-- a file that reads as some rows is one of them
pub same_file : (schema : Schema) (rows : List Row) (bytes : List ℕ) → IsWithinLimits schema → IsBytes bytes → has_same schema rows (Some bytes) ≡ true → IsFileOf schema bytes rows
same_file schema rows bytes within are same = by_read (rows_at bytes schema) refl same
  where
    by_read : (read : Result (List Row) FileFault) → rows_at bytes schema ≡ read → is_same rows read ≡ true → IsFileOf schema bytes rows
    by_read (Err fault) is other = absurd cc
    by_read (Ok found) is alike =
        let rows_are : found ≡ rows = (same_rows-is found rows).0 alike in
        record { within = within; file = (rows_found bytes schema rows within are (is ∙ ap (λ (rs : List Row). Ok rs) rows_are)).0 }

module _ (objects : Objects) (schema : Schema) (entries : List Entry) (sound : IsSoundStore objects) (holds : Holds objects schema entries) where
  -- ---- the table's schema

  -- What was so of its log at a version is so of its first commits.
  pub record WasFront (P : List (List Action) → Type 0) : Type 0 where
    pub next : ℕ
    pub log : List (List Action)
    pub front : IsFrontOf objects schema entries next log
    pub is_so : P log

  pub had_schema : (found : Schema) → HadSchema objects found → found ≡ schema
  had_schema found was =
      let log = front_log objects sound was.next _ was.restored was.log was.from was.read in
      let front = front_of objects schema entries sound holds was.next log.0 was.within log.1 in
      let written : writable log.0 ≡ Ok found = sym (same_values was.log log.0 log.2).written ∙ was.holds in
      written_front objects schema entries was.next log.0 front found written

  pub had_number : (application : List ℕ) (number : ℕ) → WasSo objects (λ log. last_number application log ≡ Some number) → WasFront (λ log. last_number application log ≡ Some number)
  had_number application number was =
      let log = front_log objects sound was.next _ was.restored was.log was.from was.read in
      record {
        next = was.next;
        log = log.0;
        front = front_of objects schema entries sound holds was.next log.0 was.within log.1;
        is_so = sym ((same_values was.log log.0 log.2).numbers application) ∙ was.holds;
      }

  -- ---- files of a job's rows

  -- A file of the rows that items spell for the table's schema stands under a name, of that size and count.
  pub record IsSpelledFile (name : List ℕ) (items : Items) (size rows : ℕ) : Type 0 where
    pub values : List Row
    pub spelled : rows_from 0 schema items ≡ Ok values
    pub count : rows ≡ length values
    pub stands : Stands objects name (λ file. IsFileOf schema file values × (size ≡ length file))

  pub spelled_file : (name : List ℕ) (items : Items) (size rows : ℕ) → IsWithinLimits schema → ((bytes : List ℕ) → object_at objects name ≡ Some bytes → IsBytes bytes) → FileOfItems objects name items size rows → IsSpelledFile name items size rows
  spelled_file name items size rows within are file =
      let same = had_schema file.schema file.had in
      record {
        values = file.values;
        spelled = subst (λ (t : Schema). rows_from 0 t items ≡ Ok file.values) same file.spelled;
        count = file.count;
        stands = (
          file.bytes,
          file.stands,
          (same_file schema file.values file.bytes within (are file.bytes file.stands) (subst (λ (t : Schema). has_same t file.values (Some file.bytes) ≡ true) same file.same), file.sized),
        );
      }
