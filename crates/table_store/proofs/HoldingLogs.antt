-- The table that a store holds is the one that the store's log tells of.
use Rattle.std.proofs.Common.{◌≡◌, ℕ, suc, true, List, [], ◌∷◌, ◌++◌, map, append_assoc, Option, None, Some, refl, sym, ap, ap₂, subst, ◌∙◌}
use Rattle.std.specs.Prelude.{if◌then◌else◌}
use Rattle.std.specs.List.{AllByRecursion, flat_map, filter_map, cons_option}
use Rattle.std.specs.Option.{option_and_then}
use Rattle.serde_json.specs.Data.{Data}
use Rattle.store_core.specs.Objects.{Objects}
use Rattle.delta_actions.specs.Action as actions
use Rattle.delta_actions.specs.Action.{commit_info, protocol, meta_data, add, txn, remove, domain_metadata, checkpoint_metadata, sidecar, other, AddAction, TxnAction}
use Rattle.delta_actions.specs.In.{add_in, txn_in}
use Rattle.delta_actions.specs.Kinds.{PathAndKey}
use Rattle.delta_actions.specs.Commit.{IsCommit}
use Rattle.row_core.specs.Rows.{Row}
use Rattle.store_core.specs.Names.{commit_name}
use Rattle.delta_actions.specs.Names.{data_file_name}
use Rattle.table_store.specs.Schema.{Schema, IsFileOf}
use Rattle.table_store.specs.Commits.{without_commit_info, StandFor}
use Rattle.table_store.specs.Holds.{Stands, FileStands, FilesStand, HoldsFrom, Holds}
use Rattle.table_store.specs.Groups.{numbers, added, new_file, new_files, AreFilesOf}
use Rattle.table_store.specs.Logs.{LogFrom, IsLog, AreBatchesOf, AreBatches, AreRowsOf, AreRows}
use Rattle.table_model.specs.Table.{Batch, Entry, creation, group, close, batches_of, entry_rows, batches, rows}
use Rattle.table_store.proofs.GivenFiles.{batch_files, given_batches}
use Rattle.table_store.proofs.HoldingEnds.{none_at_end, LogFrom-first}
use Rattle.table_store.proofs.HoldingOne.{named, one_object, one_file, one_commit}

-- ---- what tells only of the commit names no number and no file

-- What an action tells that tells something more is told by those beside.
pub told-without_commit_info : {B : Type 0} (tells : actions.Action → Option B) → ((d : Data) → tells (commit_info d) ≡ None) → (made : List actions.Action) → filter_map tells (without_commit_info made) ≡ filter_map tells made
told-without_commit_info tells silent [] = refl
told-without_commit_info tells silent (commit_info d ∷ others) = rw (silent d) (told-without_commit_info tells silent others)
told-without_commit_info tells silent (protocol p ∷ others) = ap (cons_option (tells (protocol p))) (told-without_commit_info tells silent others)
told-without_commit_info tells silent (meta_data m ∷ others) = ap (cons_option (tells (meta_data m))) (told-without_commit_info tells silent others)
told-without_commit_info tells silent (add a ∷ others) = ap (cons_option (tells (add a))) (told-without_commit_info tells silent others)
told-without_commit_info tells silent (txn t ∷ others) = ap (cons_option (tells (txn t))) (told-without_commit_info tells silent others)
told-without_commit_info tells silent (remove r ∷ others) = ap (cons_option (tells (remove r))) (told-without_commit_info tells silent others)
told-without_commit_info tells silent (domain_metadata m ∷ others) = ap (cons_option (tells (domain_metadata m))) (told-without_commit_info tells silent others)
told-without_commit_info tells silent (checkpoint_metadata m ∷ others) = ap (cons_option (tells (checkpoint_metadata m))) (told-without_commit_info tells silent others)
told-without_commit_info tells silent (sidecar d ∷ others) = ap (cons_option (tells (sidecar d))) (told-without_commit_info tells silent others)
told-without_commit_info tells silent (other key d ∷ others) = ap (cons_option (tells (other key d))) (told-without_commit_info tells silent others)

-- the numbers of a commit stand beside what tells of it
pub numbers-without_commit_info : (made : List actions.Action) → numbers (without_commit_info made) ≡ numbers made
numbers-without_commit_info made = ap (map (λ (t : TxnAction). (t.app_id, t.version))) (told-without_commit_info txn_in (λ d. refl) made)

-- the new files of a commit stand beside what tells of it
pub new_files-without_commit_info : (made : List actions.Action) → new_files (without_commit_info made) ≡ new_files made
new_files-without_commit_info made = told-without_commit_info new_file (λ d. refl) made

-- ---- what actions tell of an entry's batches

-- The actions of an entry have the numbers of its batches.
pub numbers_of_entry : (schema : Schema) (entry : Entry) (beside : List actions.Action) → StandFor schema entry beside → numbers beside ≡ map named (batches_of entry)
numbers_of_entry schema creation beside stand = rw stand.actions refl
numbers_of_entry schema (group bs) beside stand = stand.numbered
numbers_of_entry schema (close application) beside stand = rw stand.actions refl

-- Numbers of batches whose files stand tell of these batches in front.
AreBatchesOf-named : (objects : Objects) (schema : Schema) (bs behind : List Batch) (ns : List (List ℕ × ℕ)) → AllByRecursion (FileStands objects schema) bs
    → AreBatchesOf objects schema ns behind → AreBatchesOf objects schema (map named bs ++ ns) (bs ++ behind)
AreBatchesOf-named objects schema [] behind ns files told = told
AreBatchesOf-named objects schema (b ∷ bs) behind ns files told = (refl, refl, files.0, AreBatchesOf-named objects schema bs behind ns files.1 told)

-- The actions of an entry in front tell of its batches in front.
AreBatchesOf-entry : (objects : Objects) (schema : Schema) (entry : Entry) (behind : List Batch) (beside : List actions.Action) (ns : List (List ℕ × ℕ)) → StandFor schema entry beside
    → FilesStand objects schema entry → AreBatchesOf objects schema ns behind → AreBatchesOf objects schema (numbers beside ++ ns) (batches_of entry ++ behind)
AreBatchesOf-entry objects schema entry behind beside ns stand files told =
    subst (λ (ms : List (List ℕ × ℕ)). AreBatchesOf objects schema (ms ++ ns) (batches_of entry ++ behind)) (sym (numbers_of_entry schema entry beside stand))
    (AreBatchesOf-named objects schema (batches_of entry) behind ns (batch_files objects schema entry files) told)

-- ---- what actions tell of an entry's rows

-- the paths of files
abbrev pub paths_of : List AddAction → List PathAndKey
paths_of files = map (λ file. file.path) files

-- the files of numbers have new rows
pub AreFilesOf-new : (ns : List (List ℕ × ℕ)) (files : List AddAction) → AreFilesOf ns files → AllByRecursion (λ file. file.data_change ≡ true) files
AreFilesOf-new [] [] are = tt
AreFilesOf-new [] (file ∷ files) are = absurd are
AreFilesOf-new (n ∷ ns) [] are = absurd are
AreFilesOf-new (n ∷ ns) (file ∷ files) are = (are.1, AreFilesOf-new ns files are.2)

-- one action in front, which may bring a file with new rows
new_file-front : (file : Option AddAction) (files : List AddAction) (paths : List PathAndKey) → AllByRecursion (λ a. a.data_change ≡ true) (cons_option file files)
    → (AllByRecursion (λ a. a.data_change ≡ true) files → paths ≡ paths_of files)
    → cons_option (option_and_then (λ a. if a.data_change then Some a.path else None) file) paths ≡ paths_of (cons_option file files)
new_file-front None files paths all behind = behind all
new_file-front (Some a) files paths all behind = rw all.0 (ap (λ (ps : List PathAndKey). a.path ∷ ps) (behind all.1))

-- where each file that joins has new rows, the new files are these
pub new_files-added : (made : List actions.Action) → AllByRecursion (λ a. a.data_change ≡ true) (added made) → new_files made ≡ paths_of (added made)
new_files-added [] all = refl
new_files-added (action ∷ made) all = new_file-front (add_in action) (added made) (new_files made) all (new_files-added made)

-- Files of batches in order, which stand, have the rows of these batches in front.
AreRowsOf-named : (objects : Objects) (schema : Schema) (bs : List Batch) (files : List AddAction) (paths : List PathAndKey) (behind : List Row) → AreFilesOf (map named bs) files
    → AllByRecursion (FileStands objects schema) bs → AreRowsOf objects schema paths behind → AreRowsOf objects schema (paths_of files ++ paths) (entry_rows (group bs) ++ behind)
AreRowsOf-named objects schema [] [] paths behind are stand told = told
AreRowsOf-named objects schema [] (file ∷ files) paths behind are stand told = absurd are
AreRowsOf-named objects schema (b ∷ bs) [] paths behind are stand told = absurd are
AreRowsOf-named objects schema (b ∷ bs) (file ∷ files) paths behind are stand told =
    let first : Stands objects file.path.key (λ bytes. IsFileOf schema bytes b.rows) = rw are.0 stand.0 in
    (b.rows, entry_rows (group bs) ++ behind, first, AreRowsOf-named objects schema bs files paths behind are.2 stand.1 told, append_assoc b.rows (entry_rows (group bs)) behind)

-- The actions of an entry in front tell of its rows in front.
AreRowsOf-entry : (objects : Objects) (schema : Schema) (entry : Entry) (behind : List Row) (beside : List actions.Action) (paths : List PathAndKey) → StandFor schema entry beside
    → FilesStand objects schema entry → AreRowsOf objects schema paths behind → AreRowsOf objects schema (new_files beside ++ paths) (entry_rows entry ++ behind)
AreRowsOf-entry objects schema creation behind beside paths stand files told = rw stand.actions told
AreRowsOf-entry objects schema (group bs) behind beside paths stand files told =
    let new : new_files beside ≡ paths_of (added beside) = new_files-added beside (AreFilesOf-new (numbers beside) (added beside) stand.files) in
    let are : AreFilesOf (map named bs) (added beside) = subst (λ (ns : List (List ℕ × ℕ)). AreFilesOf ns (added beside)) stand.numbered stand.files in
    subst (λ (ps : List PathAndKey). AreRowsOf objects schema (ps ++ paths) (entry_rows (group bs) ++ behind)) (sym new) (AreRowsOf-named objects schema bs (added beside) paths behind are (given_batches objects schema bs files.given) told)
AreRowsOf-entry objects schema (close application) behind beside paths stand files told = rw stand.actions told

-- ---- the log of the table

-- A table from this version on has a log from there on, which tells of its batches and rows.
pub HoldsFrom-log : (objects : Objects) (schema : Schema) (version : ℕ) (entries : List Entry) → HoldsFrom objects schema version entries
    → (log : List (List actions.Action)) × LogFrom objects version log × AreBatches objects schema log (batches entries) × AreRows objects schema log (rows entries)
HoldsFrom-log objects schema version [] holds = ([], holds, tt, refl)
HoldsFrom-log objects schema version (entry ∷ entries) holds =
    let later = HoldsFrom-log objects schema (suc version) entries holds.3 in
    let made = holds.0.2.actions in
    let told = AreBatchesOf-entry objects schema entry (batches entries) (without_commit_info made) (flat_map numbers later.0) holds.0.2.stand holds.1 later.2 in
    let files = AreRowsOf-entry objects schema entry (rows entries) (without_commit_info made) (flat_map new_files later.0) holds.0.2.stand holds.1 later.3 in (
      made ∷ later.0,
      ((holds.0.0, holds.0.1, holds.0.2.commit), later.1),
      subst (λ (ns : List (List ℕ × ℕ)). AreBatchesOf objects schema (ns ++ flat_map numbers later.0) (batches (entry ∷ entries))) (numbers-without_commit_info made) told,
      subst (λ (paths : List PathAndKey). AreRowsOf objects schema (paths ++ flat_map new_files later.0) (rows (entry ∷ entries))) (new_files-without_commit_info made) files,
    )

-- ---- one log, one list of batches, one list of rows

-- a store has one log at most
LogFrom-one : (objects : Objects) (version : ℕ) (log second : List (List actions.Action)) → LogFrom objects version log → LogFrom objects version second → log ≡ second
LogFrom-one objects version [] [] p q = refl
LogFrom-one objects version [] (found ∷ others) p q = absurd (none_at_end objects version q.0.0 p (LogFrom-first objects version found others q) q.0.1)
LogFrom-one objects version (made ∷ log) [] p q = absurd (none_at_end objects version p.0.0 q (LogFrom-first objects version made log p) p.0.1)
LogFrom-one objects version (made ∷ log) (found ∷ others) p q =
    let bytes : p.0.0 ≡ q.0.0 = one_object objects (commit_name version) (commit_name version) _ _ p.0 q.0 refl in
    let first : made ≡ found = one_commit q.0.0 made found (subst (λ (t : List ℕ). IsCommit t made) bytes p.0.2) q.0.2 in
    ap₂ (λ (m : List actions.Action) (ms : List (List actions.Action)). m ∷ ms) first (LogFrom-one objects (suc version) log others p.1 q.1)

-- what stands under one name is a file of one list of rows
rows_of_name : (objects : Objects) (schema : Schema) (name : List ℕ) (rs others : List Row) → Stands objects name (λ bytes. IsFileOf schema bytes rs) → Stands objects name (λ bytes. IsFileOf schema bytes others) → rs ≡ others
rows_of_name objects schema name rs others p q = one_file p.0 q.0 schema rs others (one_object objects name name _ _ p q refl) p.2 q.2

-- numbers tell of one list of batches
AreBatchesOf-one : (objects : Objects) (schema : Schema) (ns : List (List ℕ × ℕ)) (bs cs : List Batch) → AreBatchesOf objects schema ns bs → AreBatchesOf objects schema ns cs → bs ≡ cs
AreBatchesOf-one objects schema [] [] [] p q = refl
AreBatchesOf-one objects schema [] [] (c ∷ cs) p q = absurd q
AreBatchesOf-one objects schema [] (b ∷ bs) cs p q = absurd p
AreBatchesOf-one objects schema (n ∷ ns) [] cs p q = absurd p
AreBatchesOf-one objects schema (n ∷ ns) (b ∷ bs) [] p q = absurd q
AreBatchesOf-one objects schema (n ∷ ns) (b ∷ bs) (c ∷ cs) p q =
    let application : b.application ≡ c.application = p.0 ∙ sym q.0 in
    let number : b.number ≡ c.number = p.1 ∙ sym q.1 in
    let held : b.rows ≡ c.rows = rows_of_name objects schema (data_file_name n.0 n.1) b.rows c.rows p.2 q.2 in
    let first : b ≡ c = λ i. record { application = application i; number = number i; rows = held i } in
    ap₂ (λ (x : Batch) (xs : List Batch). x ∷ xs) first (AreBatchesOf-one objects schema ns bs cs p.3 q.3)

-- files hold one list of rows
AreRowsOf-one : (objects : Objects) (schema : Schema) (paths : List PathAndKey) (rs others : List Row) → AreRowsOf objects schema paths rs → AreRowsOf objects schema paths others → rs ≡ others
AreRowsOf-one objects schema [] rs others p q = p ∙ sym q
AreRowsOf-one objects schema (path ∷ paths) rs others p q =
    let front : p.0 ≡ q.0 = rows_of_name objects schema path.key p.0 q.0 p.2 q.2 in
    let behind : p.1 ≡ q.1 = AreRowsOf-one objects schema paths p.1 q.1 p.3 q.3 in
    p.4 ∙ ap₂ (λ (xs ys : List Row). xs ++ ys) front behind ∙ sym q.4

-- ---- what the log tells of is the table

-- The batches that a store's log tells of are those of the table that the store holds.
pub told_batches : (objects : Objects) (schema : Schema) (entries : List Entry) (log : List (List actions.Action)) (bs : List Batch) → Holds objects schema entries → IsLog objects log → AreBatches objects schema log bs → bs ≡ batches entries
told_batches objects schema entries log bs holds is_log told =
    let own = HoldsFrom-log objects schema 0 entries holds in
    let same : own.0 ≡ log = LogFrom-one objects 0 own.0 log own.1 is_log in
    AreBatchesOf-one objects schema (flat_map numbers log) bs (batches entries) told (subst (λ (l : List (List actions.Action)). AreBatches objects schema l (batches entries)) same own.2)

-- The rows that a store's log tells of are those of the table that the store holds.
pub told_rows : (objects : Objects) (schema : Schema) (entries : List Entry) (log : List (List actions.Action)) (rs : List Row) → Holds objects schema entries → IsLog objects log → AreRows objects schema log rs → rs ≡ rows entries
told_rows objects schema entries log rs holds is_log told =
    let own = HoldsFrom-log objects schema 0 entries holds in
    let same : own.0 ≡ log = LogFrom-one objects 0 own.0 log own.1 is_log in
    AreRowsOf-one objects schema (flat_map new_files log) rs (rows entries) told (subst (λ (l : List (List actions.Action)). AreRows objects schema l (rows entries)) same own.3)
