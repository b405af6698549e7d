-- Behind an append, the same request is one that repeats.
use Rattle.std.proofs.Common.{◌≡◌, ◌≢◌, inl, inr, ℕ, zero, suc, ◌+◌, ◌≤◌, ◌<◌, ◌==◌, true, false, List, [], ◌∷◌, ◌++◌, length, Option, Some, None, IsSome, unwrap_or, Result, Ok, refl, sym, ap, subst, ◌∙◌, arith}
use Rattle.std.specs.Prelude.{codes, nat_lt, option_and_then, option_map}
use Rattle.std.specs.Option.{option_or}
use Rattle.std.proofs.lemmas.Bool.{cases_eq, ltb-false}
use Rattle.std.proofs.lemmas.Bool.Decides.{nat_tests}
use Rattle.std.proofs.lemmas.Slice.Eq.{bytes_eq-Decides}
use Rattle.outcomes.specs.Results.{◌>>=◌, or_refusal, refused_as, refused_if}
use Rattle.serde_json.specs.Events.{items_len}
use Rattle.serde_json.specs.Data.{Items}
use Rattle.schema_tree.specs.Tree.{Tree}
use Rattle.store_core.specs.Objects.{Objects, object_at, with_object}
use Rattle.store_core.specs.ObjectLaws.{object_at-with_object_other, object_at-with_object_same}
use Rattle.delta_actions.specs.Commit.{IsCommit}
use Rattle.delta_actions.specs.Action as actions
use Rattle.delta_actions.specs.In.{meta_data_in, protocol_in, txn_in}
use Rattle.store_core.specs.Names.{commit_name, greatest_version}
use Rattle.delta_actions.specs.Names.{data_file_name}
use Rattle.delta_replay.specs.Keys.{Key, the_meta_data, the_protocol, number_of, kept, newest, last_number}
use Rattle.delta_replay.specs.Support.{Unsupported, feature, has_key_inside, no_protocol, readable_by, writable, writable_protocol}
use Rattle.table_log.specs.Counts.{commit_count}
use Rattle.table_log.specs.Restoring.{replayed}
use Rattle.table_log.specs.Versions.{Version, missing, unreadable, commit, commits_in, commits_of, log_of, version_at, version_by, version_read, versions_from, versions_of}
use Rattle.table_log.proofs.Callers.{count_is, of_commit as read_commit, stands_below}
use Rattle.log_reading.proofs.Callers.{or_none, or_regroup}
use Rattle.table_store.proofs.HoldingNames.{commit_name-data_file_name}
use Rattle.table_store.proofs.NamesOnce.{commit_name-once}
use Rattle.batch_core.specs.Committing.{appending}
use Rattle.batch_core.specs.Requests.{SinkRequest, checked, is_repeat, request_behind}
use Rattle.sink_core.specs.Appending.{EncodedBatch, IsWellMade, batch_of, is_past, puts, request_of, with_append, with_file}
use Rattle.batch_core.specs.Refusals.{bad_log, read_only}
use Rattle.batch_core.specs.RowsIn.{rows_from, takes_rows}
use Rattle.commit_core.proofs.Callers.{newest-cons, of_commit}
use Rattle.job_laws.proofs.OwnSteps.{batch_own}
use Rattle.batch_core.proofs.Callers.{behind_number, behind_rows, behind_schema}
use Rattle.job_laws.proofs.Requests.{IsTaken, batch_asked, both_done, given, taken, told_done}

-- ---- the newest actions behind one more commit

-- a commit at the end tells the newest where it has one
newest_behind : (key : Key) (made : List actions.Action) (commits : List (List actions.Action)) → newest key (commits ++ made ∷ []) ≡ option_or (of_commit key made) (newest key commits)
newest_behind key made [] = newest-cons key made [] ∙ sym (or_none (of_commit key made))
newest_behind key made (first ∷ commits) =
    newest-cons key first (commits ++ made ∷ [])
    ∙ ap (λ (found : Option actions.Action). option_or found (of_commit key first)) (newest_behind key made commits)
    ∙ or_regroup (of_commit key made) (newest key commits) (of_commit key first)
    ∙ ap (λ (found : Option actions.Action). option_or (of_commit key made) found) (sym (newest-cons key first commits))

-- the schema of a table that is written, by its protocol and its metadata
abbrev written_by : (protocol metadata : Option actions.Action) → Result Tree Unsupported
written_by protocol metadata = do
  schema ← readable_by (option_and_then protocol_in (kept protocol)) (option_and_then meta_data_in (kept metadata))
  p ← or_refusal (option_and_then protocol_in (kept protocol)) no_protocol
  known ← writable_protocol p
  plain ← refused_if (has_key_inside (codes "delta.invariants") schema) (feature (codes "invariants"))
  Ok schema

module _ (application : List ℕ) (number at : ℕ) (name : List ℕ) (size rows : ℕ) (commits : List (List actions.Action)) where
  -- the actions of an append
  abbrev own : List actions.Action
  own = appending application number at name size rows

  -- they leave the protocol
  same_protocol : newest the_protocol (commits ++ own ∷ []) ≡ newest the_protocol commits
  unfolding appending
  same_protocol = newest_behind the_protocol own commits

  -- and the metadata
  same_meta_data : newest the_meta_data (commits ++ own ∷ []) ≡ newest the_meta_data commits
  unfolding appending
  same_meta_data = newest_behind the_meta_data own commits

  -- so the table is written as before
  same_writable : writable (commits ++ own ∷ []) ≡ writable commits
  same_writable =
      ap (λ (p : Option actions.Action). written_by p (newest the_meta_data (commits ++ own ∷ []))) same_protocol
      ∙ ap (λ (m : Option actions.Action). written_by (newest the_protocol commits) m) same_meta_data

  -- the application has come to the number
  number_behind : last_number application (commits ++ own ∷ []) ≡ Some number
  unfolding appending
  number_behind =
      ap (λ (e : Option actions.Action). option_map (λ t. t.version) (option_and_then txn_in (kept e))) (newest_behind (number_of application) own commits)
      ∙ rw ((bytes_eq-Decides application application).1 refl) refl

-- ---- the request behind one more commit

-- a number is the last one again
repeats_itself : (number : ℕ) → is_repeat number (Some number) ≡ Ok true
repeats_itself number =
    let over : nat_lt number number ≡ false = grind (arith, nat_tests) in
    let same : (number == number) ≡ true = grind (arith, nat_tests) in
    rw (over, same) refl

-- a step that gave this is followed by the next
goes_to : {A B E : Type 0} (first : Result A E) (next : A → Result B E) (x : A) → first ≡ Ok x → (first >>= next) ≡ next x
goes_to first next x is = ap (λ (r : Result _ _). r >>= next) is

module _ (next later : ℕ) (commits more : List (List actions.Action)) (application : List ℕ) (number : ℕ) (items : Items)
    (written : writable more ≡ writable commits) (last : last_number application more ≡ Some number) where
  -- the request as one that repeats
  abbrev again : SinkRequest → SinkRequest
  again request = record { version = later; schema = request.schema; rows = request.rows; repeats = true }

  -- the number is the last one, and so the request repeats
  request_again : (request : SinkRequest) → IsTaken next commits application number items request → request_behind later more application number items ≡ Ok (again request)
  unfolding request_behind
  request_again request taken =
      goes_to (refused_as read_only (writable more)) (behind_schema later more application number items) request.schema (ap (λ (r : Result Tree Unsupported). refused_as read_only r) (written ∙ taken.schema))
      ∙ goes_to (takes_rows request.schema) (λ supported. rows_from 0 request.schema items >>= behind_rows later more application number items request.schema) tt taken.supported
      ∙ goes_to (rows_from 0 request.schema items) (behind_rows later more application number items request.schema) request.rows taken.rows
      ∙ goes_to (is_repeat number (last_number application more)) (behind_number later more application number items request.schema request.rows) true (ap (λ (n : Option ℕ). is_repeat number n) last ∙ repeats_itself number)

-- ---- the log behind one more commit

-- one version more is the last
one_more_version : (objects : Objects) (count version : ℕ) → versions_from (suc count) version objects ≡ versions_from count version objects ++ version_at objects (version + count) ∷ []
unfolding versions_from
one_more_version objects zero version =
    let same : version ≡ version + 0 = omega arith in
    ap (λ (v : ℕ). version_at objects v ∷ []) same
one_more_version objects (suc count) version =
    let same : version + 1 + count ≡ version + suc count = omega arith in
    ap (λ (more : List Version). version_at objects version ∷ more) (one_more_version objects count (version + 1))
    ∙ ap (λ (v : ℕ). version_at objects version ∷ (versions_from count (version + 1) objects ++ version_at objects v ∷ [])) same

-- the commits of versions with one more
commits_with : (made : List actions.Action) (version : ℕ) (versions : List Version) (commits : List (List actions.Action)) → commits_in version versions ≡ Ok commits → commits_in version (versions ++ commit made ∷ []) ≡ Ok (commits ++ made ∷ [])
commits_with made version [] commits is =
    let none : [] ≡ commits = given {E = ℕ} [] commits is in
    subst (λ (cs : List (List actions.Action)). commits_in version ([] ++ commit made ∷ []) ≡ Ok (cs ++ made ∷ [])) none refl
commits_with made version (missing ∷ versions) commits is = absurd cc
commits_with made version (unreadable ∷ versions) commits is = absurd cc
commits_with made version (commit first ∷ versions) commits is =
    let a = both_done (commits_in (suc version) versions) (λ rest. Ok (first ∷ rest)) commits is in
    let same : first ∷ a.0 ≡ commits = given {E = ℕ} (first ∷ a.0) commits a.2 in
    subst (λ (cs : List (List actions.Action)). commits_in version (commit first ∷ (versions ++ commit made ∷ [])) ≡ Ok (cs ++ made ∷ [])) same
    (goes_to (commits_in (suc version) (versions ++ commit made ∷ [])) (λ rest. Ok (first ∷ rest)) (a.0 ++ made ∷ []) (commits_with made (suc version) versions a.0 a.1))

all_with : (made : List actions.Action) (versions : List Version) (commits : List (List actions.Action)) → commits_of versions ≡ Ok commits → commits_of (versions ++ commit made ∷ []) ≡ Ok (commits ++ made ∷ [])
all_with made [] commits is = absurd cc
all_with made (first ∷ versions) commits is = commits_with made 0 (first ∷ versions) commits is

module _ (objects : Objects) (name file bytes : List ℕ) (apart : (version : ℕ) → commit_name version ≢ name) (small : commit_count objects ≤ greatest_version) where
  -- the next version
  abbrev next : ℕ
  next = commit_count objects

  -- the objects with a file and the commit of the next version
  abbrev with_both : Objects
  with_both = with_object (with_object objects name file) (commit_name next) bytes

  -- what stands at another version is as it was
  other_version : (version : ℕ) → version ≢ next → object_at with_both (commit_name version) ≡ object_at objects (commit_name version)
  other_version version differs =
      object_at-with_object_other (with_object objects name file) (commit_name next) bytes (commit_name version) (λ same. differs (sym (commit_name-once next version (omega (arith, small)) (sym same))))
      ∙ object_at-with_object_other objects name file (commit_name version) (apart version)

  -- nothing stands at the next version
  next_free : object_at objects (commit_name next) ≡ None
  next_free = by_found (object_at objects (commit_name next)) refl
    where
      by_found : (found : Option (List ℕ)) → object_at objects (commit_name next) ≡ found → object_at objects (commit_name next) ≡ None
      by_found None is = is
      by_found (Some old) is =
          let there : IsSome (object_at objects (commit_name next)) = rw is refl in
          let below : next < next = stands_below objects next small there in
          absurd (omega (arith, below))

  -- so the commit stands there
  next_stands : object_at with_both (commit_name next) ≡ Some bytes
  next_stands =
      object_at-with_object_same (with_object objects name file) (commit_name next) bytes
      ∙ ap (λ (found : Option (List ℕ)). Some (unwrap_or found bytes)) (object_at-with_object_other objects name file (commit_name next) (apart next) ∙ next_free)

  -- there is one version more
  one_more : commit_count with_both ≡ suc next
  one_more = count_is with_both (suc next) (omega (arith, small)) below newest_one
    where
      below : (version : ℕ) → version ≤ greatest_version → IsSome (object_at with_both (commit_name version)) → version < suc next
      below version fits there =
          elim (cases_eq version next) [
            | inl same ↦ omega (arith, same)
            | inr differs ↦
                let before : IsSome (object_at objects (commit_name version)) = subst (λ (found : Option (List ℕ)). IsSome found) (other_version version differs) there in
                let low : version < next = stands_below objects version fits before in
                omega (arith, low)
          ]

      newest_one : (version : ℕ) → suc version ≡ suc next → IsSome (object_at with_both (commit_name version))
      newest_one version is =
          let same : next ≡ version = omega (arith, is) in
          subst (λ (v : ℕ). IsSome (object_at with_both (commit_name v))) same (subst (λ (found : Option (List ℕ)). IsSome found) (sym next_stands) refl)

  -- the earlier versions are as they were
  same_before : (count version : ℕ) → version + count ≤ next → versions_from count version with_both ≡ versions_from count version objects
  unfolding versions_from
  same_before zero version low = refl
  same_before (suc count) version low =
      let differs : version ≢ next = λ same. omega (arith, low, same) in
      ap (λ (found : Option (List ℕ)). version_by found ∷ versions_from count (version + 1) with_both) (other_version version differs)
      ∙ ap (λ (more : List Version). version_at objects version ∷ more) (same_before count (version + 1) (omega (arith, low)))

  -- The log has one commit more.
  log_with : (made : List actions.Action) → IsCommit bytes made → (commits : List (List actions.Action)) → log_of objects ≡ Ok commits → log_of with_both ≡ Ok (commits ++ made ∷ [])
  unfolding log_of
  log_with made well commits is =
      let place : 0 + next ≡ next = omega arith in
      let last_is : version_at with_both (0 + next) ≡ commit made = ap (version_at with_both) place ∙ ap version_by next_stands ∙ ap version_read (read_commit bytes made well) in
      let versions : versions_of with_both ≡ versions_of objects ++ commit made ∷ [] =
      ap (λ (n : ℕ). versions_from n 0 with_both) one_more
      ∙ one_more_version with_both next 0
      ∙ ap (λ (vs : List Version). vs ++ version_at with_both (0 + next) ∷ []) (same_before next 0 (omega arith))
      ∙ ap (λ (v : Version). versions_of objects ++ v ∷ []) last_is in
      ap commits_of versions ∙ all_with made (versions_of objects) commits is

-- ---- the request behind an append

-- a batch's file has no commit's name
pub file_apart : (application : List ℕ) (number : ℕ) (name : List ℕ) → name ≡ data_file_name application number → (version : ℕ) → commit_name version ≢ name
file_apart application number name named version same = commit_name-data_file_name version application number (same ∙ named)

module _ (objects : Objects) (application : List ℕ) (number at : ℕ) (batch : EncodedBatch) (well : IsWellMade application number at batch) where
  -- the objects behind the append
  abbrev behind : Objects
  behind = with_append objects (Ok (puts batch))

  -- the commit is put
  whole_behind : is_past batch.version ≡ false → behind ≡ with_object (with_file objects batch) (commit_name batch.version) batch.commit
  whole_behind small = rw small refl

  -- the log has the batch's commit
  log_behind : batch.version ≡ commit_count objects → is_past batch.version ≡ false → batch.name ≡ data_file_name application number → (commits : List (List actions.Action)) → log_of objects ≡ Ok commits
      → log_of behind ≡ Ok (commits ++ appending application number at batch.name well.size (length batch.rows) ∷ [])
  log_behind version small named commits is =
      ap log_of (whole_behind small)
      ∙ subst (λ (v : ℕ). log_of (with_object (with_object objects batch.name batch.file) (commit_name v) batch.commit) ≡ Ok (commits ++ appending application number at batch.name well.size (length batch.rows) ∷ [])) (sym version)
      (log_with objects batch.name batch.file batch.commit (file_apart application number batch.name named) (omega (arith, version, ltb-false greatest_version batch.version small)) (appending application number at batch.name well.size (length batch.rows)) well.commit commits is)

-- Behind an append, the same request is one that repeats.
pub appended_request : (objects : Objects) (application : List ℕ) (number at : ℕ) (items : Items) (found : Option (List ℕ)) (request : SinkRequest) (batch : EncodedBatch)
    → request_of false objects application number items ≡ Ok request → request.repeats ≡ false → batch_of found request application number at ≡ Ok batch → is_past batch.version ≡ false → IsWellMade application number at batch
    → (next : ℕ) × (request_of false (with_append objects (Ok (puts batch))) application number items ≡ Ok (record { version = next; schema = request.schema; rows = request.rows; repeats = true }))
unfolding request_of
appended_request objects application number at items found request batch is new asks small well =
    let after = with_append objects (Ok (puts batch)) in
    let a = both_done (checked application number (items_len items)) (λ fine. refused_as bad_log (replayed false objects) >>= λ commits. request_behind (commit_count objects) commits application number items) request is in
    let b = both_done (refused_as bad_log (replayed false objects)) (λ commits. request_behind (commit_count objects) commits application number items) request a.2 in
    let log : log_of objects ≡ Ok b.0 = told_done bad_log (replayed false objects) b.0 b.1 in
    let taken_is = taken (commit_count objects) b.0 application number items request b.2 in
    let own = batch_own found request application number at batch asks in
    let version : batch.version ≡ commit_count objects = (batch_asked found request application number at batch asks).version ∙ taken_is.version in
    let made = appending application number at batch.name well.size (length batch.rows) in
    let more = b.0 ++ made ∷ [] in
    let log_more : log_of after ≡ Ok more = log_behind objects application number at batch well version small own.name b.0 log in
    let behind_more : request_behind (commit_count after) more application number items ≡ Ok (record { version = commit_count after; schema = request.schema; rows = request.rows; repeats = true }) =
    request_again (commit_count objects) (commit_count after) b.0 more application number items (same_writable application number at batch.name well.size (length batch.rows) b.0)
    (number_behind application number at batch.name well.size (length batch.rows) b.0) request taken_is in (
      commit_count after,
      goes_to (checked application number (items_len items)) (λ fine. refused_as bad_log (replayed false after) >>= λ commits. request_behind (commit_count after) commits application number items) a.0 a.1
          ∙ goes_to (refused_as bad_log (replayed false after)) (λ commits. request_behind (commit_count after) commits application number items) more (ap (λ (r : Result (List (List actions.Action)) ℕ). refused_as bad_log r) log_more)
          ∙ behind_more,
    )
