-- A read over a store that keeps a table is told what the plain table answers.
use Rattle.std.proofs.Common.{◌≡◌, ℕ, suc, ◌+◌, ◌<◌, true, false, ◌||◌, List, [], ◌∷◌, length, map, take, drop, Option, Some, None, Ok, Err, refl, sym, ap, subst, ◌∙◌, arith, inl, inr, ◌⊎◌}
use Rattle.std.specs.List.{AllByRecursion, filter_map, list_any}
use Rattle.std.specs.Option.{is_some}
use Rattle.std.specs.Prelude.{Result, ◌==◌, if◌then◌else◌}
use Rattle.std.proofs.lemmas.Bool.{and_parts, cases_Bool}
use Rattle.std.proofs.lemmas.Bool.Decides.{nat_tests}
use Rattle.schema_tree.specs.Tree.{Tree}
use Rattle.store_core.specs.Objects.{Objects}
use Rattle.delta_actions.specs.Action as actions
use Rattle.row_core.specs.Rows.{Row}
use Rattle.source_core.specs.ParquetReading.{rows_at}
use Rattle.source_core.proofs.Callers.{rows_only}
use Rattle.table_model.specs.Table.{Batch, Entry, creation, group, close, files_of, last_item}
use Rattle.table_model.specs.Reads.{Answer, handed, beyond, bad_place, is_beyond, is_offset, offset_behind, rows_from_offset, next_offset, end, read}
use Rattle.table_model.specs.declared.reading.Offset.{Offset}
use Rattle.outcomes.specs.Results.{◌>>=◌}
use Rattle.source_core.specs.Tailing as tails
use Rattle.source_core.specs.TableCommits.{StandFor, without_commit_info}
use Rattle.source_core.specs.Groups.{AreFilesOf, AreTxnsAndAdds, added, new_files, numbers}
use Rattle.source_core.proofs.Callers.{AreFilesOf-new, new_files-added, new_files-without_commit_info, paths_of, told-without_commit_info}
use Rattle.source_core.proofs.Callers.{named}
use Rattle.source_core.proofs.Callers.{AreMadeFor}
use Rattle.log_reading.specs.FromCheckpoints.{no_start}
use Rattle.log_reading.specs.InForce.{SchemaText, schema_text_at}
use Rattle.log_reading.specs.Reads.{removes_rows}
use Rattle.source_core.specs.Tailing.{ReadRefusal, ReadRows, data_file, file_rows, hand, handed_by, schema_for}
use Rattle.source_core.proofs.Callers.{log_readable}
use Rattle.source_core.proofs.Callers.{file_of, rows_in, behind_all, behind_last, walked, row_missing}
use Rattle.source_core.proofs.Callers.{AreFilesFound, IsEntryFound, AreEntriesFound, as_many_commits}
use Rattle.source_core.proofs.Callers.{Ahead, Spot, stands, no_file, no_row, spotted}
use Rattle.source_core.proofs.Callers.{KeepsRows, RemoveNone, TellNone, commit_at, files_at, plain_handed, plain_schema_for}
use Rattle.table_log.specs.Versions.{commit}
use Rattle.table_model.specs.Lawful.{Begins, IsLater}
use Rattle.table_model.proofs.Callers.{files_of-batches}
use Rattle.delta_actions.specs.Action.{AddAction, MetaDataAction, RemoveAction, add, txn}
use Rattle.delta_actions.specs.In.{add_in, meta_data_in, remove_in, txn_in}
use Rattle.delta_actions.specs.Kinds.{PathAndKey}
use Rattle.delta_replay.specs.Keys.{last as last_of}
use Rattle.read_laws.specs.Kept.{FileKept, FilesKept, KeptFrom, KeepsTable, IsReadableFile}
use Rattle.read_laws.proofs.KeptLog.{made_of, are_made}

-- ---- the commits of a table and their files

-- a batch's file is read as the batch's rows
pub file_read : (schema : Tree) (b : Batch) (bytes : List ℕ) → IsReadableFile schema b bytes → rows_at bytes schema ≡ Ok b.rows
file_read schema b bytes is = rows_only bytes schema b.rows is.file.within is.file.file is.limits

-- files of batches in order, which stand, read as the batches' rows
files_found : (objects : Objects) (schema : Tree) (bs : List Batch) (files : List AddAction) → AreFilesOf (map named bs) files → AllByRecursion (FileKept objects schema) bs
    → AreFilesFound objects schema (paths_of files) (map (λ b. b.rows) bs)
unfolding file_rows
files_found objects schema [] [] are kept = tt
files_found objects schema [] (file ∷ files) are kept = absurd are
files_found objects schema (b ∷ bs) [] are kept = absurd are
files_found objects schema (b ∷ bs) (file ∷ files) are kept =
    let reads = file_read schema b kept.0.0 kept.0.2 in
    (λ version number. rw (are.0, kept.0.1, reads) refl, files_found objects schema bs files are.2 kept.1)

-- the commit of an entry brings its files, which stand and read as its batches' rows
entry_found : (objects : Objects) (schema : Tree) (entry : Entry) (made : List actions.Action) → StandFor schema entry (without_commit_info made) → FilesKept objects schema entry → IsEntryFound objects schema entry made
entry_found objects schema entry made stand kept =
    subst (λ (paths : List PathAndKey). AreFilesFound objects schema paths (files_of entry)) (new_files-without_commit_info made) (beside_found entry (without_commit_info made) stand kept)
  where
    beside_found : (e : Entry) (beside : List actions.Action) → StandFor schema e beside → FilesKept objects schema e → AreFilesFound objects schema (new_files beside) (files_of e)
    beside_found creation beside stand kept = rw stand.actions tt
    beside_found (group bs) beside stand kept =
        let new : new_files beside ≡ paths_of (added beside) = new_files-added beside (AreFilesOf-new (numbers beside) (added beside) stand.files) in
        let are : AreFilesOf (map named bs) (added beside) = subst (λ (ns : List (List ℕ × ℕ)). AreFilesOf ns (added beside)) stand.numbered stand.files in
        let found : AreFilesFound objects schema (paths_of (added beside)) (files_of (group bs)) = subst (λ (rows : List (List Row)). AreFilesFound objects schema (paths_of (added beside)) rows) (sym (files_of-batches (group bs))) (files_found objects schema bs (added beside) are kept) in
        subst (λ (paths : List PathAndKey). AreFilesFound objects schema paths (files_of (group bs))) (sym new) found
    beside_found (close application) beside stand kept = rw stand.actions tt

-- so does each commit of a table
pub entries_found : (objects : Objects) (schema : Tree) (version : ℕ) (entries : List Entry) (commits : List (List actions.Action)) → KeptFrom objects schema version entries → AreMadeFor objects schema entries commits
    → AreEntriesFound objects schema entries commits
entries_found objects schema version [] [] kept made = tt
entries_found objects schema version [] (first ∷ commits) kept made = absurd made
entries_found objects schema version (entry ∷ entries) [] kept made = absurd made
entries_found objects schema version (entry ∷ entries) (first ∷ commits) kept made =
    (entry_found objects schema entry first made.0 kept.1, entries_found objects schema (suc version) entries commits kept.2 made.2)

-- ---- commits that keep what was there

-- a group has no action of another kind
pub none_of_group : {A : Type 0} (tells : actions.Action → Option A) → ((action : actions.Action) → (is_some (txn_in action) || is_some (add_in action)) ≡ true → tells action ≡ None)
    → (beside : List actions.Action) → AreTxnsAndAdds beside → filter_map tells beside ≡ []
none_of_group tells silent [] only = refl
none_of_group tells silent (action ∷ beside) only =
    let both = and_parts _ _ only in
    rw (silent action both.0) (none_of_group tells silent beside both.1)

no_remove : (action : actions.Action) → (is_some (txn_in action) || is_some (add_in action)) ≡ true → remove_in action ≡ None
no_remove (txn t) is = refl
no_remove (add a) is = refl
no_remove _ is = absurd cc

pub no_meta_data : (action : actions.Action) → (is_some (txn_in action) || is_some (add_in action)) ≡ true → meta_data_in action ≡ None
no_meta_data (txn t) is = refl
no_meta_data (add a) is = refl
no_meta_data _ is = absurd cc

-- the commit of an entry takes no rows away
removes_none : (schema : Tree) (entry : Entry) (made : List actions.Action) → StandFor schema entry (without_commit_info made) → removes_rows made ≡ false
removes_none schema entry made stand =
    ap (λ (rs : List RemoveAction). list_any (λ r. r.data_change) rs) (sym (told-without_commit_info remove_in (λ d. refl) made) ∙ beside_none entry (without_commit_info made) stand)
  where
    beside_none : (e : Entry) (beside : List actions.Action) → StandFor schema e beside → filter_map remove_in beside ≡ []
    beside_none creation beside stand = rw stand.actions refl
    beside_none (group bs) beside stand = none_of_group remove_in no_remove beside stand.only
    beside_none (close application) beside stand = rw stand.actions refl

-- nor do those of several
remove_none : (objects : Objects) (schema : Tree) (entries : List Entry) (commits : List (List actions.Action)) → AreMadeFor objects schema entries commits → RemoveNone commits
remove_none objects schema [] [] made = tt
remove_none objects schema [] (first ∷ commits) made = absurd made
remove_none objects schema (entry ∷ entries) [] made = absurd made
remove_none objects schema (entry ∷ entries) (first ∷ commits) made = (removes_none schema entry first made.0, remove_none objects schema entries commits made.2)

-- what metadata a commit has stands beside what tells only of it
pub same_meta_data : (made : List actions.Action) → last_of (filter_map meta_data_in made) ≡ last_of (filter_map meta_data_in (without_commit_info made))
same_meta_data made = ap (λ (ms : List MetaDataAction). last_of ms) (sym (told-without_commit_info meta_data_in (λ d. refl) made))

-- but for the creation none has a metadata
tell_none : (objects : Objects) (schema : Tree) (entries : List Entry) (commits : List (List actions.Action)) → AllByRecursion IsLater entries → AreMadeFor objects schema entries commits → TellNone commits
tell_none objects schema [] [] later made = tt
tell_none objects schema [] (first ∷ commits) later made = absurd made
tell_none objects schema (entry ∷ entries) [] later made = absurd made
tell_none objects schema (creation ∷ entries) (first ∷ commits) later made = absurd later.0
tell_none objects schema (group bs ∷ entries) (first ∷ commits) later made =
    let here : last_of (filter_map meta_data_in first) ≡ None =
    same_meta_data first ∙ ap (λ (ms : List MetaDataAction). last_of ms) (none_of_group meta_data_in no_meta_data (without_commit_info first) made.0.only) in
    (here, tell_none objects schema entries commits later.1 made.2)
tell_none objects schema (close application ∷ entries) (first ∷ commits) later made =
    let here : last_of (filter_map meta_data_in first) ≡ None = same_meta_data first ∙ rw made.0.actions refl in
    (here, tell_none objects schema entries commits later.1 made.2)

-- the creation's commit tells the schema
creation_tells : (schema : Tree) (made : List actions.Action) → StandFor schema creation (without_commit_info made) → (told : SchemaText) × (schema_text_at (commit made) ≡ Some told) × (told.schema ≡ schema)
creation_tells schema made stand =
    let found : last_of (filter_map meta_data_in made) ≡ Some stand.metadata = same_meta_data made ∙ rw stand.actions refl in
    (record { text = stand.metadata.schema_string; schema = schema }, rw (found, stand.schema_string) refl, refl)

-- What a read of a table's log goes by: the schema that the creation tells, over commits that keep what was there.
pub record IsPlain (schema : Tree) (commits : List (List actions.Action)) : Type 0 where
  pub told : SchemaText
  pub is_schema : told.schema ≡ schema
  pub keeps : KeepsRows commits
  pub goes_by : (place : Offset) → schema_for no_start (map commit commits) place ≡ Ok told

-- so it is with a table that begins with its creation
plain_log : (objects : Objects) (schema : Tree) (rest : List Entry) (commits : List (List actions.Action)) → AllByRecursion IsLater rest → AreMadeFor objects schema (creation ∷ rest) commits → IsPlain schema commits
plain_log objects schema rest [] later made = absurd made
plain_log objects schema rest (first ∷ commits) later made =
    let told = creation_tells schema first made.0 in
    let silent = tell_none objects schema rest commits later made.2 in
    record {
      told = told.0;
      is_schema = told.2;
      keeps = (remove_none objects schema (creation ∷ rest) (first ∷ commits) made, silent);
      goes_by = λ place. plain_schema_for told.0 schema place first commits (log_readable objects schema rest (first ∷ commits) made) told.1 silent;
    }

-- and so with one that is kept
pub kept_plain : (objects : Objects) (schema : Tree) (entries : List Entry) (kept : KeepsTable objects schema entries) → IsPlain schema (made_of objects schema 0 entries kept.kept)
kept_plain objects schema entries kept =
    let commits = made_of objects schema 0 entries kept.kept in
    let later : AllByRecursion IsLater kept.rest = subst Begins kept.begins kept.lawful.begins in
    let made : AreMadeFor objects schema (creation ∷ kept.rest) commits = subst (λ (es : List Entry). AreMadeFor objects schema es commits) kept.begins (are_made objects schema 0 entries kept.kept) in
    plain_log objects schema kept.rest commits later made

-- ---- a read

-- What is handed out is what the plain table answers.
abbrev pub IsTold : Answer → Result ReadRows ReadRefusal → Type 0
IsTold (handed rows next) said = said ≡ Ok (record { rows = rows; next = next })
IsTold (beyond next) said = said ≡ Err (tails.beyond_log next)
IsTold (bad_place version) said = said ≡ Err (tails.bad_place version)

-- a place that isn't beyond the log
not_beyond : (place : Offset) (entries : List Entry) → is_beyond place entries ≡ false → (place.version < 0 + length entries) ⊎ ((place.version ≡ 0 + length entries) × (place.file ≡ 0) × (place.row ≡ 0))
not_beyond place entries near = grind (arith, nat_tests)

module _ (objects : Objects) (schema : Tree) (entries : List Entry) (commits : List (List actions.Action)) (many : length commits ≡ length entries) (max : ℕ) (place : Offset) where
  -- the start of the version behind all commits
  abbrev behind_log : Offset
  behind_log = record { version = length commits; file = 0; row = 0 }

  -- what is handed out of the commits' files
  abbrev out : Result ReadRows ReadRefusal
  out = tails.unless_beyond place (length commits) >>= λ within. tails.unless_no_file place (length (new_files (commit_at place.version commits))) >>= λ file.
      hand objects schema behind_log max place.row [] place (map data_file (files_at place commits))

  -- a place beyond the log is told as such
  far_told : is_beyond place entries ≡ true → IsTold (read max place entries) out
  far_told far = rw (far, many, far) refl

  -- the log's test is the table's
  near_commits : is_beyond place entries ≡ false → tails.unless_beyond place (length commits) ≡ Ok tt
  near_commits near = rw (many, near) refl

  -- what is handed out of the files from a place on
  handed_of : is_beyond place entries ≡ false → tails.unless_no_file place (length (new_files (commit_at place.version commits))) ≡ Ok tt → (files : List tails.LogFile) → files_at place commits ≡ files
      → out ≡ hand objects schema behind_log max place.row [] place (map data_file files)
  handed_of near file files are = rw (near_commits near, file, are) refl

  -- the rows ahead of a place are handed out
  rows_told : is_beyond place entries ≡ false → is_offset place entries ≡ true → tails.unless_no_file place (length (new_files (commit_at place.version commits))) ≡ Ok tt → Ahead objects schema place 0 entries commits
      → IsTold (read max place entries) out
  rows_told near is file ahead =
      let goes = walked objects schema behind_log ahead.founds max place.row [] place ahead.found ahead.within in
      let rows_out = take max (drop place.row (rows_in ahead.founds)) in
      let same : rows_out ≡ rows_from_offset max place entries = ap (λ (ps : List (Offset × Row)). take max ps) (sym ahead.rows) in
      let last_end : behind_log ≡ end entries = ap (λ (n : ℕ). record { version = n; file = 0; row = 0 }) many in
      let rows_are : goes.handed.rows ≡ map (λ p. p.1) (rows_from_offset max place entries) = goes.rows_are ∙ ap (λ (ps : List (Offset × Row)). map (λ p. p.1) ps) same in
      let onward : (if length rows_out == max then behind_all place rows_out else behind_log) ≡ (if length rows_out == max then offset_behind place (last_item rows_out) else end entries) = rw (last_end, behind_last place rows_out) refl in
      let next_is : goes.handed.next ≡ next_offset max place entries = goes.onward ∙ onward ∙ ap (λ (ps : List (Offset × Row)). if length ps == max then offset_behind place (last_item ps) else end entries) same in
      let said : out ≡ Ok (record { rows = map (λ p. p.1) (rows_from_offset max place entries); next = next_offset max place entries }) =
      handed_of near file (map file_of ahead.founds) ahead.files ∙ goes.said_is ∙ ap (λ (next : Offset). Ok (record { rows = goes.handed.rows; next = next })) next_is
      ∙ ap (λ (rows : List Row). Ok (record { rows = rows; next = next_offset max place entries })) rows_are in
      rw (near, is) said

  -- a place without a file or a row is told as such
  bad_told : is_beyond place entries ≡ false → is_offset place entries ≡ false → out ≡ Err (tails.bad_place place.version) → IsTold (read max place entries) out
  bad_told near no_place said = rw (near, no_place) said

  -- what is told of a place that isn't beyond the log
  spot_told : is_beyond place entries ≡ false → Spot objects schema place 0 place.version entries commits → IsTold (read max place entries) out
  spot_told near (stands is file ahead) = rows_told near is file ahead
  spot_told near (no_file is file) = bad_told near is (rw (near_commits near, file) refl)
  spot_told near (no_row is file short) =
      let read_on = row_missing objects schema behind_log short.first short.founds max place.row place short.found short.past_it in
      bad_told near is (handed_of near file (map file_of (short.first ∷ short.founds)) short.files ∙ read_on ∙ ap (λ (version : ℕ). Err (tails.bad_place version)) short.at)

  -- what is told of any place
  place_told : AreEntriesFound objects schema entries commits → IsTold (read max place entries) out
  place_told found = elim (cases_Bool (is_beyond place entries)) [
    | inl far ↦ far_told far
    | inr near ↦ spot_told near (spotted objects schema place 0 place.version entries commits found (omega arith) (not_beyond place entries near))
  ]

-- A read of a log is what a read of the table answers.
pub handed_told : (objects : Objects) (schema : Tree) (entries : List Entry) (commits : List (List actions.Action)) → KeptFrom objects schema 0 entries → AreMadeFor objects schema entries commits → (plain : IsPlain schema commits)
    → (max : ℕ) (place : Offset) → IsTold (read max place entries) (handed_by objects plain.told (map commit commits) max place)
handed_told objects schema entries commits kept made plain max place =
    let found = entries_found objects schema 0 entries commits kept made in
    let told = place_told objects schema entries commits (as_many_commits objects schema entries commits found) max place found in
    let same : handed_by objects plain.told (map commit commits) max place ≡ out objects schema entries commits (as_many_commits objects schema entries commits found) max place =
    plain_handed objects plain.told commits max place plain.keeps
    ∙ ap (λ (t : Tree). tails.unless_beyond place (length commits) >>= λ within. tails.unless_no_file place (length (new_files (commit_at place.version commits))) >>= λ file.
    hand objects t (record { version = length commits; file = 0; row = 0 }) max place.row [] place (map data_file (files_at place commits))) plain.is_schema in
    subst (λ (said : Result ReadRows ReadRefusal). IsTold (read max place entries) said) (sym same) told
