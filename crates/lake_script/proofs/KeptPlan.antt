-- What an append leaves, however far it comes, of a store that keeps a table.
use Rattle.std.proofs.Common.{◌≡◌, ℕ, suc, ◌≤◌, ◌⊎◌, inl, inr, Bool, true, false, not, List, [], ◌∷◌, ◌++◌, length, Option, Some, None, Result, Ok, Err, eqb, ltb, refl, sym, ap, subst, ◌∙◌, arith, length-append}
use Rattle.std.specs.Prelude.{bytes_eq, codes, cond, is_some, option_map, unwrap_or}
use Rattle.std.specs.Str.{IsUtf8}
use Rattle.std.proofs.lemmas.Bool.{cases_lt, lt-ltb}
use Rattle.std.proofs.lemmas.Slice.Eq.{bytes_eq-Decides}
use Rattle.serde_json.specs.Events.{items_len}
use Rattle.serde_json.specs.Data.{Items}
use Rattle.schema_tree.specs.Tree.{Tree}
use Rattle.store_core.specs.Objects.{Objects, object_at, with_object}
use Rattle.store_core.specs.ObjectLaws.{object_at-with_object_same, object_at-with_object_other}
use Rattle.parquet_footer.specs.declared.fault.FileFault.{FileFault}
use Rattle.source_core.specs.ParquetReading.{rows_at}
use Rattle.source_core.specs.ParquetWriting.{written_file}
use Rattle.table_model.specs.Appends.{appended}
use Rattle.table_model.specs.declared.table.AppendAnswer.TheVariants.{Committed, StreamClosed}
use Rattle.table_model.specs.Lawful.{IsLawful}
use Rattle.delta_actions.specs.Names.{data_file_name as plain_file_name}
use Rattle.store_core.specs.Names.{commit_name, greatest_version}
use Rattle.delta_replay.specs.Support.{has_key_inside}
use Rattle.row_core.specs.Rows.{Row}
use Rattle.row_core.proofs.Callers.{same_rows-is}
use Rattle.table_model.specs.Table as model
use Rattle.table_model.specs.Table.{ToldNumber, Entry, group, is_stream_closed, last_told}
use Rattle.commit_core.proofs.Callers.{commit_name-data_file_name}
use Rattle.batch_core.specs.Committing.{batch_file_name, greatest_number}
use Rattle.batch_core.specs.Requests.{checked, is_repeat, is_same, unless_other_rows, where_same, file_or_refusal}
use Rattle.sink_core.specs.Appending.{EncodedBatch, AppendPlan, puts, stands, size_behind, batch_of, put_plan, new_plan, plan_of, append_plan, with_append, with_file_alone, IsWellMade, PutsWell}
use Rattle.batch_core.specs.Refusals.{SinkRefusal, stale, differs}
use Rattle.outcomes.specs.Results.{◌>>=◌, refused_if}
use Rattle.batch_core.specs.RowsIn.{rows_from, takes_rows}
use Rattle.read_laws.specs.Kept.{IsReadableFile, FileKept, KeepsTable}
use Rattle.lake_script.specs.Keeps.{AreFiles, HasNoOther, Keeps, KeepsBeside}
use Rattle.lake_script.specs.Tables.{TableState, nothing, table, entries_of_state}
use Rattle.lake_script.proofs.KeptAppend.{small_number, lawful_after, version_fits, made_with, handed_in, file_made, commit_made, step_with, step_behind, step_is}
use Rattle.read_laws.proofs.Callers.{file_read, none_behind}
use Rattle.lake_script.proofs.KeptNames.{batch_stands, same_file_name}
use Rattle.lake_script.proofs.KeptRequest.{asked, goes_on}
use Rattle.lake_script.proofs.KeptPuts.{Stands-put, put_stands, kept_file, kept_commit}

-- what stands behind some lines: nothing, or a table of so many entries at most, with data files besides
pub data Stays (most : ℕ) (objects : Objects) : Type 0 where
  bare : objects ≡ [] → Stays most objects
  keeps : (schema : Tree) (entries : List Entry) → KeepsTable objects schema entries → AreFiles objects schema → length entries ≤ most → Stays most objects

-- where no other data file stands, each is one of rows
pub files_of_kept : (objects : Objects) (schema : Tree) (entries : List Entry) → KeepsTable objects schema entries → HasNoOther objects entries → AreFiles objects schema
files_of_kept objects schema entries kept own application number bytes utf8 small there =
    let found = own application number utf8 small (ap is_some there) in
    let b = found.0 in
    let file : FileKept objects schema b = batch_stands objects schema 0 entries b kept.kept found.1 in
    let name : plain_file_name b.application b.number ≡ plain_file_name application number = rw (found.2, found.3) refl in
    let same : Some file.0 ≡ Some bytes = sym file.1 ∙ (ap (object_at objects) name ∙ there) in
    let one : file.0 ≡ bytes = cc in
    (b, subst (IsReadableFile schema b) one file.2)

pub beside : (objects : Objects) (state : TableState) → Keeps objects state → KeepsBeside objects state
beside objects nothing kept = kept
beside objects (table schema entries) kept = (kept.0, files_of_kept objects schema entries kept.0 kept.1)

-- what is kept stays, and what stays is kept
pub starts : (objects : Objects) (state : TableState) → KeepsBeside objects state → Stays (length (entries_of_state state)) objects
starts objects nothing kept = bare kept
starts objects (table schema entries) kept = keeps schema entries kept.0 kept.1 (omega arith)

pub ends : (most : ℕ) (objects : Objects) → Stays most objects → (state : TableState) × KeepsBeside objects state × (length (entries_of_state state) ≤ most)
ends most objects (bare none) = (nothing, none, omega arith)
ends most objects (keeps schema entries kept files up) = (table schema entries, (kept, files), up)

-- ---- a put over such a store

-- what stands behind a put stood before, or was put
stood_or_put : (objects : Objects) (name bytes other found : List ℕ) → object_at (with_object objects name bytes) other ≡ Some found → (object_at objects other ≡ Some found) ⊎ ((other ≡ name) × (bytes ≡ found))
stood_or_put objects name bytes other found is = by_name (bytes_eq other name) refl
  where
    put_found : other ≡ name → (before : Option (List ℕ)) → object_at objects other ≡ before → Some (unwrap_or before bytes) ≡ Some found → (before ≡ Some found) ⊎ ((other ≡ name) × (bytes ≡ found))
    put_found same None there e = let one : bytes ≡ found = cc in inr (same, one)
    put_found same (Some old) there e = inl e

    by_name : (same : Bool) → bytes_eq other name ≡ same → (object_at objects other ≡ Some found) ⊎ ((other ≡ name) × (bytes ≡ found))
    by_name true e =
        let same : other ≡ name = (bytes_eq-Decides other name).0 e in
        let put : object_at (with_object objects name bytes) other ≡ Some (unwrap_or (object_at objects other) bytes) =
        subst (λ (n : List ℕ). object_at (with_object objects name bytes) n ≡ Some (unwrap_or (object_at objects n) bytes)) (sym same) (object_at-with_object_same objects name bytes) in
        put_found same (object_at objects other) refl (sym put ∙ is)
    by_name false e = inl (sym (object_at-with_object_other objects name bytes other (λ same. let one = (bytes_eq-Decides other name).1 same in cc)) ∙ is)

-- a file of rows may be put
files_put : (objects : Objects) (schema : Tree) (name : List ℕ) (b : model.Batch) (bytes : List ℕ) → AreFiles objects schema → IsReadableFile schema b bytes → AreFiles (with_object objects name bytes) schema
files_put objects schema name b bytes files is application number found utf8 small there =
    elim (stood_or_put objects name bytes (plain_file_name application number) found there) [
      | inl before ↦ files application number found utf8 small before
      | inr put ↦ (b, subst (IsReadableFile schema b) put.1 is)
    ]

-- and any commit
pub files_commit : (objects : Objects) (schema : Tree) (version : ℕ) (bytes : List ℕ) → AreFiles objects schema → AreFiles (with_object objects (commit_name version) bytes) schema
files_commit objects schema version bytes files application number found utf8 small there =
    elim (stood_or_put objects (commit_name version) bytes (plain_file_name application number) found there) [
      | inl before ↦ files application number found utf8 small before
      | inr put ↦ absurd (commit_name-data_file_name version application number (sym put.0))
    ]

-- ---- an append over a table that is kept

-- a store stays, whether the file that an append puts stands alone or with its commit
abbrev pub GoesOn : (most : ℕ) → Objects → Result AppendPlan SinkRefusal → Type 0
GoesOn most objects step = Stays most (with_file_alone objects step) × Stays most (with_append objects step)

module _ (objects : Objects) (schema : Tree) (entries : List Entry) (kept : KeepsTable objects schema entries) (files : AreFiles objects schema) (most : ℕ) (up : length entries ≤ most)
    (application : List ℕ) (number at : ℕ) (utf8 : IsUtf8 application) (fits : number ≤ greatest_number) (rows : List Row) where
  -- the size of the file that stands under the batch's name behind the put of this one
  abbrev size : (file : List ℕ) → ℕ
  size file = size_behind file (object_at objects (batch_file_name application number))

  -- the batch that is put with this file
  abbrev made : (file : List ℕ) → EncodedBatch
  made file = made_with (length entries) schema rows application number at (size file) file

  -- what is done where the number is the application's last one again, or not
  abbrev behind : Result Bool SinkRefusal → Result AppendPlan SinkRefusal
  behind repeats = (repeats >>= λ repeats. goes_on (is_stream_closed application entries) repeats >>= λ open_. Ok (asked (length entries) schema rows repeats)) >>= plan_of objects application number at

  -- where nothing is put, the table is kept
  unchanged : Stays (suc most) objects
  unchanged = keeps schema entries kept files (omega (arith, up))

  -- a file that is read as these rows is one of them
  same_file : (old : List ℕ) → object_at objects (plain_file_name application number) ≡ Some old → is_same rows (rows_at old schema) ≡ true → IsReadableFile schema (handed_in application number rows) old
  same_file old there same =
      let known = files application number old utf8 fits there in
      let read : rows_at old schema ≡ Ok known.0.rows = file_read schema known.0 old known.1 in
      let alike : known.0.rows ≡ rows = (same_rows-is known.0.rows rows).0 (sym (ap (is_same rows) read) ∙ same) in
      record { file = rw alike at known.1.file; limits = rw alike at known.1.limits }

  -- behind the put of a file of rows, one stands under the name
  file_behind : (file : List ℕ) (found : Option (List ℕ)) → object_at objects (plain_file_name application number) ≡ found → unless_other_rows schema rows (plain_file_name application number) found ≡ Ok tt
      → IsReadableFile schema (handed_in application number rows) file → FileKept (with_object objects (plain_file_name application number) file) schema (handed_in application number rows)
  file_behind file None there free is = (file, put_stands objects (plain_file_name application number) file there, is)
  file_behind file (Some old) there free is =
      Stands-put objects (plain_file_name application number) file (plain_file_name application number) (IsReadableFile schema (handed_in application number rows)) (old, there, same_file old there (passes (is_same rows (rows_at old schema)) free))
    where
      passes : (same : Bool) → refused_if (not same) (differs (plain_file_name application number)) ≡ Ok tt → same ≡ true
      passes true free = refl
      passes false free = absurd cc

  -- the file is put, and then the commit is one entry more, where a commit can have its version
  put_goes_on : (file : List ℕ) → appended (handed_in application number rows) entries ≡ Committed (length entries)
      → unless_other_rows schema rows (batch_file_name application number) (object_at objects (batch_file_name application number)) ≡ Ok tt
      → IsWellMade application number at (made file)
      → GoesOn (suc most) objects (Ok (puts (made file)))
  put_goes_on file new free well =
      let b = handed_in application number rows in
      let name = plain_file_name application number in
      let next = commit_name (length entries) in
      let filed : Objects = with_object objects name file in
      let is_file = file_made schema (length entries) rows application number at (size file) file well in
      let is_commit = commit_made schema (length entries) rows application number at (size file) file well in
      let lawful : IsLawful (entries ++ group (b ∷ []) ∷ []) = rw new at (lawful_after objects schema entries b kept) in
      let filed_kept : KeepsTable filed schema entries = kept_file objects schema entries application number file kept in
      let filed_files : AreFiles filed schema = files_put objects schema name b file files is_file in
      let there : FileKept filed schema b = file_behind file (object_at objects name) refl (rw (same_file_name application number) at free) is_file in
      let more : length entries ≤ greatest_version → KeepsTable (with_object filed next (made file).commit) schema (entries ++ group (b ∷ []) ∷ []) =
      λ few. kept_commit filed schema entries b (made file).commit filed_kept few lawful there (none_behind filed schema entries filed_kept few) is_commit in
      let alone : Stays (suc most) filed = keeps schema entries filed_kept filed_files (omega (arith, up)) in
      let whole : length entries ≤ greatest_version → Stays (suc most) (with_object filed next (made file).commit) =
      λ few. keeps schema (entries ++ group (b ∷ []) ∷ []) (more few) (files_commit filed schema (length entries) (made file).commit filed_files) (omega (arith, up, length-append entries (group (b ∷ []) ∷ []))) in
      elim (cases_lt greatest_version (length entries)) [
        | inl past ↦ rw (lt-ltb greatest_version (length entries) past, same_file_name application number) (alone, alone)
        | inr few ↦ rw (version_fits entries few, same_file_name application number) (alone, rw (same_file_name application number) at (whole few))
      ]

  -- what is done for a new number
  new_goes_on : appended (handed_in application number rows) entries ≡ Committed (length entries) → PutsWell application number at (new_plan objects (asked (length entries) schema rows false) application number at)
      → GoesOn (suc most) objects (new_plan objects (asked (length entries) schema rows false) application number at)
  unfolding batch_of
  new_goes_on new well = by_file (written_file schema rows) well
    where
      by_fit : (file : List ℕ) (fit : Result (Unit {0}) SinkRefusal) → unless_other_rows schema rows (batch_file_name application number) (object_at objects (batch_file_name application number)) ≡ fit
          → PutsWell application number at (fit >>= λ fits. Ok (puts (made file)))
          → GoesOn (suc most) objects (fit >>= λ fits. Ok (puts (made file)))
      by_fit file (Err why) is well = (unchanged, unchanged)
      by_fit file (Ok fits) is well = put_goes_on file new is well

      by_file : (written : Result (List ℕ) FileFault) → PutsWell application number at ((file_or_refusal written >>= λ file. Ok (made file)) >>= put_plan objects)
          → GoesOn (suc most) objects ((file_or_refusal written >>= λ file. Ok (made file)) >>= put_plan objects)
      by_file (Err fault) well = (unchanged, unchanged)
      by_file (Ok file) well = by_fit file (unless_other_rows schema rows (batch_file_name application number) (object_at objects (batch_file_name application number))) refl well

  -- the same where the stream may be closed
  open_goes_on : (closed : Bool) → appended (handed_in application number rows) entries ≡ cond closed StreamClosed (Committed (length entries))
      → PutsWell application number at ((goes_on closed false >>= λ open_. Ok (asked (length entries) schema rows false)) >>= plan_of objects application number at)
      → GoesOn (suc most) objects ((goes_on closed false >>= λ open_. Ok (asked (length entries) schema rows false)) >>= plan_of objects application number at)
  open_goes_on true new well = (unchanged, unchanged)
  open_goes_on false new well = new_goes_on new well

  -- for the last number again nothing is put
  again_goes_on : (same : Result (Unit {0}) SinkRefusal) → GoesOn (suc most) objects (same >>= λ same. Ok stands)
  again_goes_on (Ok same) = (unchanged, unchanged)
  again_goes_on (Err why) = (unchanged, unchanged)

  -- what is done behind what was told last of the application, if anything was
  behind_goes_on : (last : Option ToldNumber) → last_told application entries ≡ last
      → PutsWell application number at (behind (is_repeat number (option_map (λ (t : ToldNumber). t.number) last)))
      → GoesOn (suc most) objects (behind (is_repeat number (option_map (λ (t : ToldNumber). t.number) last)))
  behind_goes_on None is well = open_goes_on (is_stream_closed application entries) (rw is refl) well
  behind_goes_on (Some before) is well = by_tests (ltb number before.number) (eqb number before.number) refl refl well
    where
      by_tests : (below equal : Bool) → ltb number before.number ≡ below → eqb number before.number ≡ equal
          → PutsWell application number at (behind (cond below (Err (stale before.number)) (Ok equal)))
          → GoesOn (suc most) objects (behind (cond below (Err (stale before.number)) (Ok equal)))
      by_tests true equal under same well = (unchanged, unchanged)
      by_tests false true over same well = again_goes_on (where_same schema rows (batch_file_name application number) (object_at objects (batch_file_name application number)))
      by_tests false false over other well = open_goes_on (is_stream_closed application entries) (rw (is, over, other) refl) well

-- An append over a table that is kept leaves one that is kept, however far it comes.
pub append_goes_on : (objects : Objects) (schema : Tree) (entries : List Entry) → KeepsTable objects schema entries → AreFiles objects schema → (most : ℕ) → length entries ≤ most
    → (application : List ℕ) (number at : ℕ) (items : Items) → IsUtf8 application → PutsWell application number at (append_plan false objects application number at items) → GoesOn (suc most) objects (append_plan false objects application number at items)
append_goes_on objects schema entries kept files most up application number at items utf8 well =
    let is = step_is objects schema entries application number at items utf8 kept in
    rw is (by_tests (checked application number (items_len items)) (has_key_inside (codes "delta.invariants") schema) (takes_rows schema) refl (rw is at well))
  where
    same : GoesOn (suc most) objects (Ok stands)
    same = let still = keeps schema entries kept files (omega (arith, up)) in (still, still)

    by_read : (read : Result (List Row) SinkRefusal) → number ≤ greatest_number → PutsWell application number at (step_with objects entries application number at schema read)
        → GoesOn (suc most) objects (step_with objects entries application number at schema read)
    by_read (Err why) small well = same
    by_read (Ok rows) small well =
        behind_goes_on objects schema entries kept files most up application number at utf8 small rows (last_told application entries) refl well

    by_tests : (fine : Result (Unit {0}) SinkRefusal) (barred : Bool) (takes : Result (Unit {0}) SinkRefusal) → checked application number (items_len items) ≡ fine
        → PutsWell application number at (step_behind objects schema entries application number at items fine barred takes) → GoesOn (suc most) objects (step_behind objects schema entries application number at items fine barred takes)
    by_tests (Err why) barred takes is well = same
    by_tests (Ok passed) true takes is well = same
    by_tests (Ok passed) false (Err why) is well = same
    by_tests (Ok passed) false (Ok supported) is well =
        by_read (rows_from 0 schema items) (small_number application number (items_len items) is) well
