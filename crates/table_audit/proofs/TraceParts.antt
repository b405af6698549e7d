-- What a function's calls read, where it made one more of them, or none.
use Rattle.std.proofs.Common.{◌≡◌, ◌⊎◌, ◌+◌, ◌<◌, ◌++◌, ◌∷◌, [], ℕ, suc, List, Option, Some, append-nil, length, get_or, take, refl, sym, ap, subst, ◌∙◌, arith, inl, inr}
use Rattle.std.specs.List.{filter_map}
use Rattle.std.proofs.lemmas.List.{take_more}
use Rattle.std.proofs.lemmas.List.Sorted.{IsPermutation-refl}
use Rattle.delta_actions.specs.Action.{Action}
use Rattle.delta_actions.specs.Commit.{IsCommit}
use Rattle.store_core.specs.Names.{commit_name}
use Rattle.table_store.specs.Commits.{without_commit_info}
use Rattle.table_store.specs.Groups.{added}
use Rattle.table_audit.specs.Audits.{AreCheckpointsOf, Audits, LooksBeside, ReadCommits, ReadFiles, ReadFront, ReadInTurn, ReadLog, ReadToEnd, ReadVersions, names_of_files}
use Rattle.table_audit.specs.Calls.{ReaderCall, ReaderTraced, lists, reads}
use Rattle.table_audit.specs.Listed as listed
use Rattle.table_audit.proofs.CallParts.{GoesOnTo, files_front, goes_on_behind, goes_to_end, last_read, log_first, log_to_end, none_to_end, traced_on, traced_once, turn_on, turn_once, version_read, versions_more}

module _ {R : Type 0} (makes : R → ReaderCall → R → Type 0) where
  -- the name of what was read
  pub read_named : (old new : R) (name key : List ℕ) (told : Option (Option (List ℕ))) → key ≡ name → makes old (reads key told) new → (t : Option (Option (List ℕ))) × makes old (reads name t) new
  read_named old new name key told is made = (told, subst (λ (n : List ℕ). makes old (reads n told) new) is made)

  -- ---- files

  -- one file more of those that are to be read
  pub turn_more : (old mid new : R) (names : List (List ℕ)) (i : ℕ) (key : List ℕ) → i < length names → key ≡ get_or names i key
      → (calls : List ReaderCall) × ReaderTraced makes old calls mid × ReadInTurn (take i names) calls → (told : Option (Option (List ℕ))) × makes mid (reads key told) new
      → (calls : List ReaderCall) × ReaderTraced makes old calls new × ReadInTurn (take (i + 1) names) calls
  turn_more old mid new names i key more at front one =
      let seen : take (i + 1) names ≡ take i names ++ key ∷ [] = take_more names i key more ∙ ap (λ (last : List ℕ). take i names ++ last ∷ []) (sym at) in
      let calls = front.0 ++ reads key one.0 ∷ [] in (
        calls,
        traced_on makes old mid new front.0 (reads key one.0 ∷ []) front.1 (traced_once makes mid new (reads key one.0) one.1),
        subst (λ (ns : List (List ℕ)). ReadInTurn ns calls) (sym seen) (turn_on (take i names) (key ∷ []) front.0 (reads key one.0 ∷ []) front.2 (turn_once key one.0)),
      )

  -- one more at most
  pub front_more : (old mid new : R) (names : List (List ℕ)) (i : ℕ) (key : List ℕ) → i < length names → key ≡ get_or names i key
      → (calls : List ReaderCall) × ReaderTraced makes old calls mid × ReadInTurn (take i names) calls → (new ≡ mid) ⊎ ((told : Option (Option (List ℕ))) × makes mid (reads key told) new)
      → (calls : List ReaderCall) × ReaderTraced makes old calls new × ReadFront names calls
  front_more old mid new names i key more at front (inl same) = (front.0, subst (λ (r : R). ReaderTraced makes old front.0 r) (sym same) front.1, (i, front.2))
  front_more old mid new names i key more at front (inr one) = let all = turn_more old mid new names i key more at front one in (all.0, all.1, (i + 1, all.2))

  -- of a commit's files
  pub files_of : (old new : R) (bytes : List ℕ) (made beside : List Action) → IsCommit bytes made → beside ≡ without_commit_info made
      → (calls : List ReaderCall) × ReaderTraced makes old calls new × ReadFront (names_of_files (added beside)) calls → (calls : List ReaderCall) × ReaderTraced makes old calls new × ReadFiles bytes calls
  files_of old new bytes made beside is same some =
      (some.0, some.1, files_front bytes made some.0 is (subst (λ (actions : List Action). ReadFront (names_of_files (added actions)) some.0) same some.2))

  -- ---- versions

  -- these were read from a version on, and that one comes next
  abbrev pub HaveRead : (old new : R) (from next : ℕ) → Type 0
  HaveRead old new from next = (count : ℕ) × (calls : List ReaderCall) × ReaderTraced makes old calls new × ReadVersions from count calls × (next ≡ from + count)

  -- no other commit was
  pub read_to_end : (old new : R) (from next : ℕ) → HaveRead old new from next → (calls : List ReaderCall) × ReaderTraced makes old calls new × ReadToEnd from calls
  read_to_end old new from next front = (front.1, front.2, (front.0, front.1, [], front.3, inl refl, sym (append-nil front.1)))

  -- the next one was, and nothing behind it
  pub read_last : (old mid new : R) (from next : ℕ) (name : List ℕ) (told : Option (Option (List ℕ))) → HaveRead old mid from next → name ≡ commit_name next → makes mid (reads name told) new
      → (calls : List ReaderCall) × ReaderTraced makes old calls new × ReadToEnd from calls
  read_last old mid new from next name told front is made = (
    front.1 ++ reads name told ∷ [],
    traced_on makes old mid new front.1 (reads name told ∷ []) front.2 (traced_once makes mid new (reads name told) made),
    (front.0, front.1, reads name told ∷ [], front.3, last_read (from + front.0) name told (is ∙ ap commit_name front.4), refl),
  )

  -- the next one was, and files
  pub read_more : (old mid read new : R) (from next at : ℕ) (name bytes : List ℕ) → HaveRead old mid from next → at ≡ suc next → name ≡ commit_name next → makes mid (reads name (Some (Some bytes))) read
      → (calls : List ReaderCall) × ReaderTraced makes read calls new × ReadFiles bytes calls → HaveRead old new from at
  read_more old mid read new from next at name bytes front behind is made files =
      let one = reads name (Some (Some bytes)) ∷ files.0 in (
        suc front.0,
        front.1 ++ one,
        traced_on makes old mid new front.1 one front.2 (read, made, files.1),
        versions_more from front.0 next front.1 one front.4 front.3 (version_read next name bytes files.0 is files.2),
        omega (arith, behind, front.4),
      )

  -- ---- the log

  -- calls that are a whole log's, of checkpoints in some order
  abbrev pub ReadsSome : (old new : R) (names : List (List ℕ)) (from : ℕ) → Type 0
  ReadsSome old new names from = (calls : List ReaderCall) × (checkpoints : List (ℕ × List ℕ)) × ReaderTraced makes old calls new × AreCheckpointsOf names checkpoints × ReadLog checkpoints from calls

  module _ (names : List (List ℕ)) where
    -- no call was made
    pub reads_none : (old : R) (from : ℕ) → ReadsSome old old names from
    reads_none old from = let all = filter_map listed.told names in ([], all, refl, IsPermutation-refl all, log_to_end all from [] (none_to_end from))

    module _ (old mid : R) (ahead all : List (ℕ × List ℕ)) (next from : ℕ) (are : AreCheckpointsOf names all) (front : (calls : List ReaderCall) × ReaderTraced makes old calls mid × GoesOnTo ahead next all from calls) where
      -- commits were read to an end
      pub reads_to_end : (new : R) → (calls : List ReaderCall) × ReaderTraced makes mid calls new × ReadToEnd next calls → ReadsSome old new names from
      reads_to_end new more = (front.0 ++ more.0, all, traced_on makes old mid new front.0 more.0 front.1 more.1, are, front.2 more.0 (log_to_end ahead next more.0 more.2))

    -- and a checkpoint behind them
    pub goes_on : (old mid walked new : R) (checkpoint : ℕ × List ℕ) (before ahead all : List (ℕ × List ℕ)) (next from count at : ℕ) (calls : List ReaderCall) → before ≡ checkpoint ∷ ahead
        → (calls : List ReaderCall) × ReaderTraced makes old calls mid × GoesOnTo before next all from calls
        → ReaderTraced makes mid calls walked → ReadVersions next count calls → next + count ≡ suc checkpoint.0 → at ≡ suc checkpoint.0
        → (told : Option (Option (List ℕ))) × makes walked (reads checkpoint.1 told) new
        → (calls : List ReaderCall) × ReaderTraced makes old calls new × GoesOnTo ahead at all from calls
    goes_on old mid walked new checkpoint before ahead all next from count at calls here front traced versions is behind one =
        let last = calls ++ reads checkpoint.1 one.0 ∷ [] in (
          front.0 ++ last,
          traced_on makes old mid new front.0 last front.1 (traced_on makes mid walked new calls (reads checkpoint.1 one.0 ∷ []) traced (traced_once makes walked new (reads checkpoint.1 one.0) one.1)),
          goes_on_behind checkpoint ahead all next from count at front.0 calls one.0 (subst (λ (cs : List (ℕ × List ℕ)). GoesOnTo cs next all from front.0) here front.2) versions is behind,
        )

    -- it ends there
    pub reads_ended : (old new : R) (ahead all : List (ℕ × List ℕ)) (next from : ℕ) → AreCheckpointsOf names all → (calls : List ReaderCall) × ReaderTraced makes old calls new × GoesOnTo ahead next all from calls → ReadsSome old new names from
    reads_ended old new ahead all next from are front = (front.0, all, front.1, are, goes_to_end ahead all next from front.0 front.2)

  -- ---- an audit

  pub audits : (old mid new : R) (names : List (List ℕ)) → makes old (lists (Some names)) mid → ReadsSome mid new names 0 → (calls : List ReaderCall) × ReaderTraced makes old calls new × Audits calls
  audits old mid new names made some = (lists (Some names) ∷ some.0, (mid, made, some.2), (Some names, some.0, refl, (some.1, some.3, some.4)))

  -- the first commit was read, and no other
  pub audits_first : (old mid new : R) (names : List (List ℕ)) (name : List ℕ) (told : Option (Option (List ℕ))) → makes old (lists (Some names)) mid → name ≡ commit_name 0 → makes mid (reads name told) new
      → (calls : List ReaderCall) × ReaderTraced makes old calls new × Audits calls
  audits_first old mid new names name told made is read =
      let all = filter_map listed.told names in
      let first = reads name told ∷ [] in
      audits old mid new names made (first, all, traced_once makes mid new (reads name told) read, IsPermutation-refl all, log_to_end all 0 first (0, [], first, refl, last_read 0 name told is, refl))

  -- and then the log behind it
  pub audits_more : (old mid read new : R) (names given : List (List ℕ)) (name bytes : List ℕ) (next : ℕ) → makes old (lists (Some names)) mid → name ≡ commit_name 0 → makes mid (reads name (Some (Some bytes))) read
      → given ≡ names → next ≡ 1 → ReadsSome read new given next → (calls : List ReaderCall) × ReaderTraced makes old calls new × Audits calls
  audits_more old mid read new names given name bytes next made is first same at some =
      let one = reads name (Some (Some bytes)) ∷ [] in
      audits old mid new names made (
        one ++ some.0,
        some.1,
        traced_on makes mid read new one some.0 (traced_once makes mid read (reads name (Some (Some bytes))) first) some.2,
        subst (λ (ns : List (List ℕ)). AreCheckpointsOf ns some.1) same some.3,
        log_first some.1 0 one some.0 (version_read 0 name bytes [] is tt) (subst (λ (v : ℕ). ReadLog some.1 v some.0) at some.4),
      )

  -- ---- what lies beside a table

  pub looks_beside : (old mid new : R) (names given : List (List ℕ)) → makes old (lists (Some names)) mid → given ≡ names
      → (calls : List ReaderCall) × ReaderTraced makes mid calls new × ReadCommits (Some given) calls → (calls : List ReaderCall) × ReaderTraced makes old calls new × LooksBeside calls
  looks_beside old mid new names given made same some = (lists (Some names) ∷ some.0, (mid, made, some.1), (Some names, some.0, refl, subst (λ (ns : List (List ℕ)). ReadCommits (Some ns) some.0) same some.2))
