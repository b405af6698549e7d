-- The commit of a batch that an append puts over a sound store is admissible.
use Rattle.std.proofs.Common.{◌≡◌, ℕ, ◌≤◌, Bool, true, false, not, List, [], ◌∷◌, length, Option, Some, None, Result, Ok, Err, eqb, ltb, refl, sym, ap, subst, ◌∙◌}
use Rattle.std.specs.Prelude.{cond, option_map}
use Rattle.store_core.specs.Objects.{Objects, object_at}
use Rattle.store_core.specs.ObjectLaws.{object_at-with_object_kept, object_at-with_object_same}
use Rattle.store_core.specs.Names.{greatest_version}
use Rattle.delta_actions.specs.Names.{data_file_name}
use Rattle.parquet_footer.specs.declared.fault.FileFault.{FileFault}
use Rattle.parquet_file.specs.Reading.{rows_at}
use Rattle.parquet_file.proofs.RowsFound.{rows_found}
use Rattle.row_core.specs.Rows.{Row}
use Rattle.row_core.proofs.Callers.{same_rows-is}
use Rattle.table_model.specs.Appends.{appended}
use Rattle.table_model.specs.declared.table.AppendAnswer.TheVariants.{Committed}
use Rattle.table_model.specs.Table as model
use Rattle.table_model.specs.Table.{ToldNumber, Entry, group, is_stream_closed, last_told}
use Rattle.table_store.specs.Commits.{IsCommitOf}
use Rattle.table_store.specs.Holds.{FileStands, HoldsFrom, Stands}
use Rattle.table_store.specs.Schema.{Schema, IsFileOf}
use Rattle.table_store.specs.Sound.{IsAdmissible, IsSound}
use Rattle.table_store.proofs.Callers.{all_free, files_stand}
use Rattle.table_store.proofs.HoldingPuts.{HoldsFrom-data_file}
use Rattle.batch_core.specs.Committing.{appending}
use Rattle.batch_core.specs.Requests.{is_repeat, is_same, unless_other_rows}
use Rattle.sink_core.specs.Appending.{EncodedBatch, IsWellMade, with_file}
use Rattle.batch_core.specs.Refusals.{differs, stale}
use Rattle.outcomes.specs.Bytes.{IsBytes}
use Rattle.table_store.proofs.LawfulLogLemmas.{AreMadeFor}
use Rattle.commit_core.proofs.Callers.{IsLogOfEntries, held_first, lawful_with, log_last, log_open, one_writable, sound_count, sound_log}
use Rattle.job_laws.proofs.Requests.{PutsBatch, passed}

-- ---- the table with one more batch

-- a batch with a new number is taken by a table whose stream is open
new_is_taken : (b : model.Batch) (entries : List Entry) (last : Option ToldNumber) → last_told b.application entries ≡ last → is_stream_closed b.application entries ≡ false
    → is_repeat b.number (option_map (λ t. t.number) last) ≡ Ok false → appended b entries ≡ Committed (length entries)
new_is_taken b entries None is goes_on new = rw (is, goes_on) refl
new_is_taken b entries (Some before) is goes_on new = by_tests (ltb b.number before.number) (eqb b.number before.number) refl refl new
  where
    by_tests : (below equal : Bool) → ltb b.number before.number ≡ below → eqb b.number before.number ≡ equal → cond below (Err (stale before.number)) (Ok equal) ≡ Ok false → appended b entries ≡ Committed (length entries)
    by_tests true equal under same taken = absurd cc
    by_tests false true over same taken = absurd cc
    by_tests false false over other taken = rw (is, over, other, goes_on) refl

-- ---- the file and the commit

module _ (objects : Objects) (application : List ℕ) (number at : ℕ) (batch : EncodedBatch) (well : IsWellMade application number at batch) where
  -- a file that reads as the batch's rows is a file of them
  file_read : (old : List ℕ) (read : Result (List Row) FileFault) → IsBytes old → rows_at old batch.schema ≡ read → is_same batch.rows read ≡ true
      → IsFileOf batch.schema old batch.rows
  file_read old (Err fault) are is same = absurd cc
  file_read old (Ok found) are is same =
      let rows : found ≡ batch.rows = (same_rows-is found batch.rows).0 same in
      record { within = well.file.within; file = (rows_found old batch.schema batch.rows well.file.within are (is ∙ ap (λ (rs : List Row). Ok rs) rows)).0 }

  -- once the batch's file was put, a file of its rows stands under its name
  file_stands : (found : Option (List ℕ)) → object_at objects batch.name ≡ found → ((bytes : List ℕ) → found ≡ Some bytes → IsBytes bytes) → (fine : Unit {0}) → unless_other_rows batch.schema batch.rows batch.name found ≡ Ok fine
      → Stands (with_file objects batch) batch.name (λ bytes. IsFileOf batch.schema bytes batch.rows)
  file_stands None there are fine fits = (batch.file, object_at-with_object_same objects batch.name batch.file ∙ rw there refl, well.file)
  file_stands (Some old) there are fine fits =
      let same : is_same batch.rows (rows_at old batch.schema) ≡ true = not_not (is_same batch.rows (rows_at old batch.schema)) (passed (not (is_same batch.rows (rows_at old batch.schema))) (differs batch.name) fine fits) in
      (old, object_at-with_object_kept objects batch.name batch.file batch.name old there, file_read old (rows_at old batch.schema) (are old refl) refl same)
    where
      not_not : (test : Bool) → not test ≡ false → test ≡ true
      not_not true is = refl
      not_not false is = absurd cc

  -- the batch that is handed in
  abbrev pub handed_in : model.Batch
  handed_in = record { application = application; number = number; rows = batch.rows }

  -- its commit is one of the batch
  commit_made : (schema : Schema) → batch.name ≡ data_file_name application number → IsCommitOf schema (group (handed_in ∷ [])) batch.commit
  unfolding appending
  commit_made schema named = record {
    actions = appending application number at batch.name well.size (length batch.rows);
    commit = well.commit;
    stand = record { only = refl; numbered = refl; files = (named, refl, tt) };
  }

  -- The commit of a batch that is put is admissible once its file was put, where a commit can have its version and what
  -- stood under the file's name is of bytes.
  pub admissible : ((bytes : List ℕ) → object_at objects (data_file_name application number) ≡ Some bytes → IsBytes bytes) → IsSound objects → batch.version ≤ greatest_version → PutsBatch objects application number batch → IsAdmissible (with_file objects batch) batch.version batch.commit
  admissible are sound fits puts =
      let log : IsLogOfEntries objects sound.schema sound.entries puts.commits = sound_log objects sound puts.commits puts.log in
      let schema : batch.schema ≡ sound.schema = one_schema log in
      let file : Stands (with_file objects batch) batch.name (λ bytes. IsFileOf batch.schema bytes batch.rows) = file_stands (object_at objects batch.name) refl (λ bytes there. are bytes (ap (object_at objects) (sym puts.name) ∙ there)) puts.fits.0 puts.fits.1 in
      let stands : FileStands (with_file objects batch) sound.schema handed_in = rw (← schema, ← puts.name) file in
      record {
        schema = sound.schema;
        entries = sound.entries;
        entry = group (handed_in ∷ []);
        stand = held_first (with_file objects batch) sound.schema 0 sound.entries holds;
        at = sym (sound_count objects sound) ∙ sym puts.version;
        fits = fits;
        commit = commit_made sound.schema puts.name;
        files = files_stand (with_file objects batch) sound.schema (group (handed_in ∷ [])) (stands, tt);
        tells = tt;
        lawful = lawful_with handed_in sound.entries log.rest log.begins sound.lawful (taken log);
      }
    where
      -- the batch's schema is the table's
      one_schema : IsLogOfEntries objects sound.schema sound.entries puts.commits → batch.schema ≡ sound.schema
      one_schema log =
          one_writable objects sound.schema log.rest puts.commits (subst (λ (es : List Entry). AreMadeFor objects sound.schema es puts.commits) log.begins log.made) batch.schema puts.schema

      -- its number is new, and its stream open
      taken : IsLogOfEntries objects sound.schema sound.entries puts.commits → appended handed_in sound.entries ≡ Committed (length sound.entries)
      taken log =
          let last = log_last objects sound.schema application sound.entries puts.commits log.made in
          new_is_taken handed_in sound.entries (last_told application sound.entries) refl (log_open objects sound.schema application sound.entries puts.commits log.made puts.goes_on) (rw last at puts.new)

      -- the table stands still
      holds : HoldsFrom (with_file objects batch) sound.schema 0 sound.entries
      holds = rw puts.name (HoldsFrom-data_file objects sound.schema 0 sound.entries application batch.file number (all_free sound.entries (data_file_name application number)) sound.holds)
