-- What the puts of a batch and of a close leave of a store that keeps a table.
use Rattle.std.proofs.Common.{◌≡◌, ◌≢◌, ℕ, suc, ◌+◌, ◌≤◌, Bool, true, false, List, [], ◌∷◌, ◌++◌, length, get_or, Option, Some, None, IsSome, refl, sym, ap, subst, ◌∙◌, arith, length-append}
use Rattle.std.specs.Prelude.{bytes_eq, is_some, unwrap_or}
use Rattle.std.specs.List.{AllByRecursion}
use Rattle.std.specs.Str.{IsUtf8}
use Rattle.std.proofs.lemmas.List.Elements.{Contains-append_left, Contains-append_right}
use Rattle.std.proofs.lemmas.Slice.Eq.{bytes_eq-Decides}
use Rattle.schema_tree.specs.Tree.{Tree}
use Rattle.store_core.specs.Objects.{Objects, object_at, with_object}
use Rattle.store_core.specs.ObjectLaws.{object_at-with_object_same, object_at-with_object_other, object_at-with_object_kept}
use Rattle.store_core.specs.Names.{commit_name, greatest_version}
use Rattle.delta_actions.specs.Names.{data_file_name}
use Rattle.delta_checkpoint.specs.Names.{IsCheckpointName}
use Rattle.commit_core.specs.TableCommits.{IsCommitOf}
use Rattle.commit_core.specs.Holds.{Stands}
use Rattle.table_model.specs.Lawful.{IsLawful}
use Rattle.table_model.specs.Appends.{with_close}
use Rattle.table_model.specs.Table.{Batch, Entry, creation, group, close, batches_of, batches, is_stream_closed}
use Rattle.table_model.proofs.Callers.{batches-append}
use Rattle.table_model.proofs.Kept.{close_keeps}
use Rattle.commit_core.proofs.Callers.{commit_name-data_file_name, commit_name-once, data_file_name-once}
use Rattle.commit_core.proofs.Callers.{no_checkpoint}
use Rattle.read_laws.specs.Kept.{IsReadableFile, FileKept, FilesKept, KeptFrom, KeepsTable}
use Rattle.lake_script.specs.Keeps.{IsOwn, HasNoOther}
use Rattle.lake_script.proofs.KeptNames.{first_in}

-- ---- what stood still stands

module _ (objects : Objects) (name bytes : List ℕ) where
  -- an object keeps its bytes
  pub Stands-put : (other : List ℕ) (P : List ℕ → Type 0) → Stands objects other P → Stands (with_object objects name bytes) other P
  Stands-put other P stands = (stands.0, object_at-with_object_kept objects name bytes other stands.0 stands.1, stands.2)

  -- and so does a batch's file
  FileKept-put : (schema : Tree) (b : Batch) → FileKept objects schema b → FileKept (with_object objects name bytes) schema b
  FileKept-put schema b kept = Stands-put (data_file_name b.application b.number) (IsReadableFile schema b) kept

  -- and so do those of several
  each_put : (schema : Tree) (bs : List Batch) → AllByRecursion (FileKept objects schema) bs → AllByRecursion (FileKept (with_object objects name bytes) schema) bs
  each_put schema [] kept = tt
  each_put schema (b ∷ bs) kept = (FileKept-put schema b kept.0, each_put schema bs kept.1)

  -- a put takes nothing away
  KeptFrom-put : (schema : Tree) (version : ℕ) (entries : List Entry) → KeptFrom objects schema version entries → KeptFrom (with_object objects name bytes) schema version entries
  KeptFrom-put schema version [] kept = tt
  KeptFrom-put schema version (entry ∷ entries) kept =
      (Stands-put (commit_name version) (IsCommitOf schema entry) kept.0, each_put schema (batches_of entry) kept.1, KeptFrom-put schema (suc version) entries kept.2)

  -- what is put under a free name stands
  pub put_stands : object_at objects name ≡ None → object_at (with_object objects name bytes) name ≡ Some bytes
  put_stands free = object_at-with_object_same objects name bytes ∙ ap (λ (found : Option (List ℕ)). Some (unwrap_or found bytes)) free

  -- a name that stands stood before, or is the one that was put
  named_put : (P : List ℕ → Type 0) → ((other : List ℕ) → IsSome (object_at objects other) → P other) → P name → (other : List ℕ) → IsSome (object_at (with_object objects name bytes) other) → P other
  named_put P before put other some = by_name (bytes_eq other name) refl
    where
      by_name : (same : Bool) → bytes_eq other name ≡ same → P other
      by_name true is = subst P (sym ((bytes_eq-Decides other name).0 is)) put
      by_name false is = before other (ap is_some (sym (object_at-with_object_other objects name bytes other (λ e. let one = (bytes_eq-Decides other name).1 e in cc))) ∙ some)

-- the next version's commit, with its files, is one entry more
KeptFrom-push : (objects : Objects) (schema : Tree) (version next : ℕ) (entries : List Entry) (entry : Entry) → next ≡ version + length entries → KeptFrom objects schema version entries
    → Stands objects (commit_name next) (IsCommitOf schema entry) → FilesKept objects schema entry → KeptFrom objects schema version (entries ++ entry ∷ [])
KeptFrom-push objects schema version next [] entry at kept commit files =
    let same : next ≡ version = omega (arith, at) in
    (subst (λ (v : ℕ). Stands objects (commit_name v) (IsCommitOf schema entry)) same commit, files, tt)
KeptFrom-push objects schema version next (first ∷ entries) entry at kept commit files =
    (kept.0, kept.1, KeptFrom-push objects schema (suc version) next entries entry (omega (arith, at)) kept.2 commit files)

-- ---- the end of the log

-- where no commit stands from a version on, none does behind the put of another name
ends_put : (objects : Objects) (name bytes : List ℕ) (end : ℕ) → ((version : ℕ) → version ≤ greatest_version → commit_name version ≢ name)
    → ((version : ℕ) → end ≤ version → version ≤ greatest_version → object_at objects (commit_name version) ≡ None)
    → (version : ℕ) → end ≤ version → version ≤ greatest_version → object_at (with_object objects name bytes) (commit_name version) ≡ None
ends_put objects name bytes end apart ends version past small = object_at-with_object_other objects name bytes (commit_name version) (apart version small) ∙ ends version past small

-- and behind that of its commit none does from the next one on
ends_behind : (objects : Objects) (bytes : List ℕ) (end : ℕ) → ((version : ℕ) → end ≤ version → version ≤ greatest_version → object_at objects (commit_name version) ≡ None)
    → (version : ℕ) → suc end ≤ version → version ≤ greatest_version → object_at (with_object objects (commit_name end) bytes) (commit_name version) ≡ None
ends_behind objects bytes end ends version past small =
    object_at-with_object_other objects (commit_name end) bytes (commit_name version) (λ same. let one : version ≡ end = commit_name-once version end (omega (arith, small)) same in omega (arith, one, past))
    ∙ ends version (omega (arith, past)) small

-- ---- one file more

-- A data file that is put changes nothing of the table that is kept.
pub kept_file : (objects : Objects) (schema : Tree) (entries : List Entry) (application : List ℕ) (number : ℕ) (file : List ℕ) → KeepsTable objects schema entries
    → KeepsTable (with_object objects (data_file_name application number) file) schema entries
kept_file objects schema entries application number file kept =
    let name = data_file_name application number in
    record {
      kept = KeptFrom-put objects name file schema 0 entries kept.kept;
      rest = kept.rest;
      begins = kept.begins;
      lawful = kept.lawful;
      fits = kept.fits;
      ends = ends_put objects name file (length entries) (λ version small. commit_name-data_file_name version application number) kept.ends;
    }

-- ---- one checkpoint more

-- no data file has the name of a checkpoint
no_data_file : (version : ℕ) (name : List ℕ) (application : List ℕ) (number : ℕ) → IsCheckpointName version name → data_file_name application number ≢ name
no_data_file version name application number named same =
    let first : 112 ≡ 95 = ap (λ (text : List ℕ). get_or text 0 0) (same ∙ named.is) in
    omega (arith, first)

module _ (objects : Objects) (version : ℕ) (name bytes : List ℕ) (checkpoint : IsCheckpointName version name) where
  -- A checkpoint that is put changes nothing of the table that is kept.
  pub kept_checkpoint : (schema : Tree) (entries : List Entry) → KeepsTable objects schema entries → KeepsTable (with_object objects name bytes) schema entries
  kept_checkpoint schema entries kept = record {
    kept = KeptFrom-put objects name bytes schema 0 entries kept.kept;
    rest = kept.rest;
    begins = kept.begins;
    lawful = kept.lawful;
    fits = kept.fits;
    ends = ends_put objects name bytes (length entries) (λ other small. no_checkpoint version name checkpoint other) kept.ends;
  }

  -- the data files stay as they are
  pub same_files : (application : List ℕ) (number : ℕ) → object_at (with_object objects name bytes) (data_file_name application number) ≡ object_at objects (data_file_name application number)
  same_files application number = object_at-with_object_other objects name bytes (data_file_name application number) (no_data_file version name application number checkpoint)

-- ---- one entry more

-- Where the files of an entry stand, the next version's commit, put under a free name, is that entry more.
pub kept_entry : (objects : Objects) (schema : Tree) (entries : List Entry) (entry : Entry) (commit : List ℕ) → KeepsTable objects schema entries → length entries ≤ greatest_version → IsLawful (entries ++ entry ∷ [])
    → FilesKept objects schema entry → object_at objects (commit_name (length entries)) ≡ None → IsCommitOf schema entry commit
    → KeepsTable (with_object objects (commit_name (length entries)) commit) schema (entries ++ entry ∷ [])
kept_entry objects schema entries entry commit kept few lawful files free is_commit =
    let next = commit_name (length entries) in
    let more : length (entries ++ entry ∷ []) ≡ length entries + 1 = length-append entries (entry ∷ []) in
    record {
      kept = KeptFrom-push (with_object objects next commit) schema 0 (length entries) entries entry (omega arith) (KeptFrom-put objects next commit schema 0 entries kept.kept)
          (commit, put_stands objects next commit free, is_commit) (each_put objects next commit schema (batches_of entry) files);
      rest = kept.rest ++ entry ∷ [];
      begins = ap (λ (es : List Entry). es ++ entry ∷ []) kept.begins;
      lawful = lawful;
      fits = omega (arith, more, few);
      ends = λ version past small. ends_behind objects commit (length entries) kept.ends version (omega (arith, more, past)) small;
    }

-- The commit of a close is one entry more.
pub kept_close : (objects : Objects) (schema : Tree) (entries : List Entry) (application commit : List ℕ) → KeepsTable objects schema entries → length entries ≤ greatest_version → is_stream_closed application entries ≡ false
    → object_at objects (commit_name (length entries)) ≡ None → IsCommitOf schema (close application) commit
    → KeepsTable (with_object objects (commit_name (length entries)) commit) schema (entries ++ close application ∷ [])
kept_close objects schema entries application commit kept few open_still free is_commit =
    let after : IsLawful (with_close application entries) =
    subst (λ (es : List Entry). IsLawful (with_close application es)) (sym kept.begins) (close_keeps application creation kept.rest (subst IsLawful kept.begins kept.lawful)) in
    let lawful : IsLawful (entries ++ close application ∷ []) = rw open_still at after in
    kept_entry objects schema entries (close application) commit kept few lawful tt free is_commit

-- And no data file stands then that is no batch's, where none stood before.
pub no_other_close : (objects : Objects) (entries : List Entry) (application commit : List ℕ) → HasNoOther objects entries → HasNoOther (with_object objects (commit_name (length entries)) commit) (entries ++ close application ∷ [])
no_other_close objects entries closed commit own application number utf8 small some =
    named_put objects (commit_name (length entries)) commit IsOwned old none (data_file_name application number) some refl
  where
    IsOwned : List ℕ → Type 0
    IsOwned other = other ≡ data_file_name application number → IsOwn (entries ++ close closed ∷ []) application number

    old : (other : List ℕ) → IsSome (object_at objects other) → IsOwned other
    old other some is =
        let found = own application number utf8 small (subst (λ (name : List ℕ). IsSome (object_at objects name)) is some) in
        (found.0, rw batches-append (Contains-append_left (batches entries) [] found.0 found.1), found.2, found.3)

    none : IsOwned (commit_name (length entries))
    none is = absurd (commit_name-data_file_name (length entries) application number is)

-- ---- one batch more

-- Where a batch's file stands, the next version's commit, put under a free name, is one entry more.
pub kept_commit : (objects : Objects) (schema : Tree) (entries : List Entry) (b : Batch) (commit : List ℕ) → KeepsTable objects schema entries → length entries ≤ greatest_version → IsLawful (entries ++ group (b ∷ []) ∷ [])
    → FileKept objects schema b → object_at objects (commit_name (length entries)) ≡ None → IsCommitOf schema (group (b ∷ [])) commit
    → KeepsTable (with_object objects (commit_name (length entries)) commit) schema (entries ++ group (b ∷ []) ∷ [])
kept_commit objects schema entries b commit kept few lawful file free is_commit = kept_entry objects schema entries (group (b ∷ [])) commit kept few lawful (file, tt) free is_commit

-- A batch's file and then the next version's commit, put under free names, are one entry more.
pub kept_more : (objects : Objects) (schema : Tree) (entries : List Entry) (b : Batch) (file commit : List ℕ) → KeepsTable objects schema entries → length entries ≤ greatest_version → IsLawful (entries ++ group (b ∷ []) ∷ [])
    → object_at objects (data_file_name b.application b.number) ≡ None → object_at objects (commit_name (length entries)) ≡ None → IsReadableFile schema b file → IsCommitOf schema (group (b ∷ [])) commit
    → KeepsTable (with_object (with_object objects (data_file_name b.application b.number) file) (commit_name (length entries)) commit) schema (entries ++ group (b ∷ []) ∷ [])
kept_more objects schema entries b file commit kept few lawful no_file no_commit is_file is_commit =
    let name = data_file_name b.application b.number in
    let next = commit_name (length entries) in
    let filed : Objects = with_object objects name file in
    let free : object_at filed next ≡ None = object_at-with_object_other objects name file next (commit_name-data_file_name (length entries) b.application b.number) ∙ no_commit in
    kept_commit filed schema entries b commit (kept_file objects schema entries b.application b.number file kept) few lawful (file, put_stands objects name file no_file, is_file) free is_commit

-- And no data file stands then that is no batch's, where none stood before.
pub no_other_more : (objects : Objects) (entries : List Entry) (b : Batch) (file commit : List ℕ) → IsUtf8 b.application → HasNoOther objects entries
    → HasNoOther (with_object (with_object objects (data_file_name b.application b.number) file) (commit_name (length entries)) commit) (entries ++ group (b ∷ []) ∷ [])
no_other_more objects entries b file commit text own application number utf8 small some =
    let name = data_file_name b.application b.number in
    let next = commit_name (length entries) in
    named_put (with_object objects name file) next commit IsOwned (named_put objects name file IsOwned old new) none (data_file_name application number) some refl
  where
    IsOwned : List ℕ → Type 0
    IsOwned other = other ≡ data_file_name application number → IsOwn (entries ++ group (b ∷ []) ∷ []) application number

    old : (other : List ℕ) → IsSome (object_at objects other) → IsOwned other
    old other some is =
        let found = own application number utf8 small (subst (λ (name : List ℕ). IsSome (object_at objects name)) is some) in
        (found.0, rw batches-append (Contains-append_left (batches entries) (b ∷ []) found.0 found.1), found.2, found.3)

    new : IsOwned (data_file_name b.application b.number)
    new is =
        let parts = data_file_name-once application b.application number b.number utf8 text (omega (arith, small)) (sym is) in
        (b, rw batches-append (Contains-append_right (batches entries) (b ∷ []) b (first_in b [])), sym parts.0, sym parts.1)

    none : IsOwned (commit_name (length entries))
    none is = absurd (commit_name-data_file_name (length entries) application number is)
