-- A candidate that doesn't conflict with the commit of its version is admissible behind it.
use Rattle.std.proofs.Common.{◌≡◌, ℕ, suc, ◌+◌, ◌≤◌, true, List, [], ◌∷◌, ◌++◌, length, map, Some, Contains, refl, sym, ap, ap₂, subst, ◌∙◌, length-append, arith}
use Rattle.std.specs.List.{filter_map}
use Rattle.std.proofs.lemmas.List.Elements.{Contains-append_left, Contains-append_right}
use Rattle.std.proofs.lemmas.Simd.{map-map}
use Rattle.store_core.specs.Objects.{Objects, object_at}
use Rattle.delta_actions.specs.Action as actions
use Rattle.delta_actions.specs.Action.{AddAction, TxnAction}
use Rattle.delta_actions.specs.Kinds.{PathAndKey}
use Rattle.delta_actions.specs.In.{protocol_in, txn_in}
use Rattle.delta_actions.specs.Commit.{IsCommit}
use Rattle.store_core.specs.Names.{commit_name, greatest_version}
use Rattle.delta_actions.specs.Names.{data_file_name, stream_domain}
use Rattle.table_model.specs.Lawful.{Begins, IsLawful}
use Rattle.table_model.specs.Table.{FileName, Batch, ToldNumber, batch_file, told_of, Entry, creation, group, close, batches_of, closes_of, has_protocol, names}
use Rattle.table_model.proofs.Callers.{AreApart, goes_on as goes_behind, tells-batches, writes}
use Rattle.table_store.specs.Commits.{without_commit_info, table_protocol, StandFor, IsCommitOf}
use Rattle.table_store.specs.Conflicts.{applications_written, domain_in, domains_written, path_in, paths_written, Candidate, Conflicts, ReadsItsOwn}
use Rattle.table_store.specs.Groups.{AreTxnsAndAdds, AreFilesOf, added, numbers}
use Rattle.table_store.specs.Holds.{Stands, FilesStand, HoldsFirst, HoldsFrom, Holds, IsLawfulStore}
use Rattle.table_store.specs.Schema.{Schema, path_name}
use Rattle.table_store.specs.Sound.{IsAdmissible}
use Rattle.table_store.proofs.ConflictLemmas.{by_written_application, by_written_domain, by_written_key, by_written_protocol, none_contained, told_through, Contains-first, Contains-map}
use Rattle.table_store.proofs.HeldLemmas.{HoldsFirst-push}
use Rattle.table_store.proofs.HoldingEnds.{none_at_end}
use Rattle.table_store.proofs.HoldingLogs.{numbers-without_commit_info, numbers_of_entry, told-without_commit_info}
use Rattle.table_store.proofs.HoldingOne.{named, one_commit, one_entry, one_list, one_object, some_is}
use Rattle.table_store.proofs.HoldingSchema.{one_creation_of}

-- ---- what the commit of an entry writes

-- the applications of which it tells numbers
applications_told : (schema : Schema) (entry : Entry) (made : List actions.Action) → StandFor schema entry (without_commit_info made) → applications_written made ≡ writes entry
applications_told schema entry made stand =
    told_through (λ (t : TxnAction). t.app_id) txn_in made
    ∙ sym (map-map (λ (n : List ℕ × ℕ). n.0) (λ (t : TxnAction). (t.app_id, t.version)) (filter_map txn_in made))
    ∙ ap (map (λ (n : List ℕ × ℕ). n.0)) (sym (numbers-without_commit_info made) ∙ numbers_of_entry schema entry (without_commit_info made) stand)
    ∙ map-map (λ (n : List ℕ × ℕ). n.0) named (batches_of entry)
    ∙ sym (ap (map (λ (t : ToldNumber). t.application)) (tells-batches entry) ∙ map-map (λ (t : ToldNumber). t.application) told_of (batches_of entry))

-- the keys of the files that a group adds
keys_told : (ns : List (List ℕ × ℕ)) (bs : List Batch) (files : List AddAction) → ns ≡ map named bs → AreFilesOf ns files → map (λ a. a.path.key) files ≡ map path_name (map (λ f. f.path) (map batch_file bs))
keys_told [] [] [] is are = refl
keys_told [] [] (file ∷ files) is are = absurd are
keys_told [] (b ∷ bs) files is are = absurd cc
keys_told (n ∷ ns) [] files is are = absurd cc
keys_told (n ∷ ns) (b ∷ bs) [] is are = absurd are
keys_told (n ∷ ns) (b ∷ bs) (file ∷ files) is are =
    let first : n ≡ named b = cc in
    let rest : ns ≡ map named bs = cc in
    ap₂ (λ (k : List ℕ) (ks : List (List ℕ)). k ∷ ks) (are.0 ∙ ap (λ (m : List ℕ × ℕ). data_file_name m.0 m.1) first) (keys_told ns bs files rest are.2)

-- a `txn` and an `add` write the paths of the files that join
paths_added : (beside : List actions.Action) → AreTxnsAndAdds beside → paths_written beside ≡ map (λ a. a.path) (added beside)
paths_added [] only = refl
paths_added (actions.txn t ∷ beside) only = paths_added beside only
paths_added (actions.add a ∷ beside) only = ap (λ (ps : List PathAndKey). a.path ∷ ps) (paths_added beside only)
paths_added (_ ∷ beside) only = absurd cc

-- the keys of the paths that it names
names_told : (schema : Schema) (entry : Entry) (made : List actions.Action) → StandFor schema entry (without_commit_info made) → map (λ p. p.key) (paths_written made) ≡ map path_name (names entry)
names_told schema entry made stand = ap (map (λ (p : PathAndKey). p.key)) (sym (told-without_commit_info path_in (λ d. refl) made)) ∙ by_kind entry (without_commit_info made) stand
  where
    by_kind : (entry : Entry) (beside : List actions.Action) → StandFor schema entry beside → map (λ p. p.key) (paths_written beside) ≡ map path_name (names entry)
    by_kind creation beside stand = rw stand.actions refl
    by_kind (group bs) beside stand =
        ap (map (λ (p : PathAndKey). p.key)) (paths_added beside stand.only) ∙ map-map (λ (p : PathAndKey). p.key) (λ (a : AddAction). a.path) (added beside)
        ∙ keys_told (numbers beside) bs (added beside) stand.numbered stand.files
    by_kind (close application) beside stand = rw stand.actions refl

-- the domain of the stream that it closes
closes_told : (schema : Schema) (entry : Entry) (made : List actions.Action) (application : List ℕ) → StandFor schema entry (without_commit_info made) → Contains (closes_of entry) application
    → Contains (domains_written made) (stream_domain application)
closes_told schema creation made application stand closes = absurd (none_contained application closes)
closes_told schema (group bs) made application stand closes = absurd (none_contained application closes)
closes_told schema (close closed) made application stand closes =
    let all : domains_written made ≡ stream_domain closed ∷ [] =
    sym (told-without_commit_info domain_in (λ d. refl) made) ∙ ap domains_written stand.actions in
    rw all (Contains-map (λ (a : List ℕ). stream_domain a) (closed ∷ []) application closes)

-- the protocol of a creation
creates : (schema : Schema) (made : List actions.Action) → StandFor schema creation (without_commit_info made) → Contains (filter_map protocol_in made) table_protocol
creates schema made stand =
    let all : filter_map protocol_in made ≡ table_protocol ∷ [] = sym (told-without_commit_info protocol_in (λ d. refl) made) ∙ ap (filter_map protocol_in) stand.actions in
    rw all (Contains-first table_protocol [])

-- so an entry that tells a protocol writes one
protocol_told : (schema : Schema) (entry : Entry) (made : List actions.Action) → StandFor schema entry (without_commit_info made) → has_protocol entry ≡ true → Contains (filter_map protocol_in made) table_protocol
protocol_told schema creation made stand has = creates schema made stand
protocol_told schema (group bs) made stand has = absurd cc
protocol_told schema (close application) made stand has = absurd cc

-- ---- the entry of a commit that stands

module _ (objects : Objects) where
  -- a table whose first commit is the creation's has its schema
  creation_schema : (schema second : Schema) (table : List Entry) → Stands objects (commit_name 0) (IsCommitOf schema creation) → Holds objects second table → schema ≡ second
  creation_schema schema second [] p q = absurd (none_at_end objects 0 p.0 q (omega arith) p.1)
  creation_schema schema second (found ∷ others) p q =
      let bytes : p.0 ≡ q.0.0 = one_object objects (commit_name 0) (commit_name 0) _ _ p q.0 refl in
      one_creation_of p.0 q.0.0 schema second found bytes p.2 q.0.2

  first_schema : (schema second : Schema) (first : Entry) (entries table : List Entry) → Begins (first ∷ entries) → Stands objects (commit_name 0) (IsCommitOf schema first) → Holds objects second table → schema ≡ second
  first_schema schema second creation entries table begins p q = creation_schema schema second table p q
  first_schema schema second (group bs) entries table begins p q = absurd begins
  first_schema schema second (close application) entries table begins p q = absurd begins

  module _ (schema : Schema) where
    -- the entries whose commits and files stand come first
    table_front : (version : ℕ) (entries table : List Entry) → version + length entries ≤ greatest_version → HoldsFirst objects schema version entries → HoldsFrom objects schema version table
        → (later : List Entry) × (table ≡ entries ++ later)
    table_front version [] table fits p q = (table, refl)
    table_front version (entry ∷ entries) [] fits p q = absurd (none_at_end objects version p.0.0 q (omega (arith, fits)) p.0.1)
    table_front version (entry ∷ entries) (found ∷ table) fits p q =
        let bytes : p.0.0 ≡ q.0.0 = one_object objects (commit_name version) (commit_name version) _ _ p.0 q.0 refl in
        let lists = one_list p.0.0 q.0.0 schema schema entry found bytes p.0.2 q.0.2 in
        let stand : StandFor schema entry (without_commit_info q.0.2.actions) = subst (λ (made : List actions.Action). StandFor schema entry (without_commit_info made)) lists p.0.2.stand in
        let first : entry ≡ found = one_entry objects schema entry found (without_commit_info q.0.2.actions) stand q.0.2.stand p.1.given q.1.given in
        let behind = table_front (suc version) entries table (omega (arith, fits)) p.3 q.3 in
        (behind.0, ap₂ (λ e es. e ∷ es) (sym first) behind.1)

    -- what stands behind them
    behind_front : (version next : ℕ) (entries later : List Entry) → next ≡ version + length entries → HoldsFrom objects schema version (entries ++ later) → HoldsFrom objects schema next later
    behind_front version next [] later at holds = subst (λ (v : ℕ). HoldsFrom objects schema v later) (let same : version ≡ next = omega (arith, at) in same) holds
    behind_front version next (entry ∷ entries) later at holds = behind_front (suc version) next entries later (omega (arith, at)) holds.3

    later_stands : (version : ℕ) (entries later table : List Entry) → version ≡ length entries → table ≡ entries ++ later → Holds objects schema table → HoldsFrom objects schema version later
    later_stands version entries later table at parts holds = behind_front 0 version entries later (omega (arith, at)) (subst (λ (es : List Entry). Holds objects schema es) parts holds)

module _ (objects : Objects) (version : ℕ) (won : List ℕ) (winner : List actions.Action) (stands : object_at objects (commit_name version) ≡ Some won) (is_winner : IsCommit won winner) (fits : suc version ≤ greatest_version) where
  -- the first of these entries is the one that the commit stands for
  record Won (schema : Schema) (later : List Entry) : Type 0 where
    entry : Entry
    more : List Entry
    parts : later ≡ entry ∷ more
    commit : Stands objects (commit_name version) (IsCommitOf schema entry)
    files : FilesStand objects schema entry
    told : StandFor schema entry (without_commit_info winner)

  won_entry : (schema : Schema) (later : List Entry) → HoldsFrom objects schema version later → Won schema later
  won_entry schema [] holds = absurd (none_at_end objects version won holds (omega (arith, fits)) stands)
  won_entry schema (entry ∷ more) holds =
      let bytes : holds.0.0 ≡ won = some_is holds.0.0 won (sym holds.0.1 ∙ stands) in
      let lists : holds.0.2.actions ≡ winner = one_commit won holds.0.2.actions winner (subst (λ (b : List ℕ). IsCommit b holds.0.2.actions) bytes holds.0.2.commit) is_winner in
      record {
        entry = entry;
        more = more;
        parts = refl;
        commit = holds.0;
        files = holds.1;
        told = subst (λ (made : List actions.Action). StandFor schema entry (without_commit_info made)) lists holds.0.2.stand;
      }

  module _ (candidate : Candidate) (own : ReadsItsOwn candidate) (none : Conflicts candidate winner → ⊥) where
    -- the commit of version 0 conflicts: it is a creation
    first_conflicts : (table : List Entry) (schema : Schema) → version ≡ 0 → Begins table → Holds objects schema table → ⊥
    first_conflicts table schema at begins holds =
        let here : HoldsFrom objects schema version table = subst (λ (v : ℕ). HoldsFrom objects schema v table) (sym at) holds in
        let found = won_entry schema table here in
        by_entry found.entry found.more (subst Begins found.parts begins) found.told
      where
        by_entry : (entry : Entry) (more : List Entry) → Begins (entry ∷ more) → StandFor schema entry (without_commit_info winner) → ⊥
        by_entry creation more begins told = none (by_written_protocol candidate winner table_protocol (creates schema winner told))
        by_entry (group bs) more begins told = begins
        by_entry (close application) more begins told = begins

    -- without a conflict the two entries have nothing in common
    apart : (schema : Schema) (between last : Entry) → StandFor schema between (without_commit_info winner) → StandFor schema last (without_commit_info candidate.actions) → AreApart between last
    apart schema between last told stand = record {
      protocol = λ has. none (by_written_protocol candidate winner table_protocol (protocol_told schema between winner told has));
      applications = λ application in_between in_last. none (by_written_application candidate winner application (wrote application in_between)
          (Contains-append_right candidate.applications (applications_written candidate.actions) application (wrote_last application in_last)));
      closes = λ application closed in_last. none (by_written_domain candidate winner (stream_domain application) (closes_told schema between winner application told closed)
          (Contains-append_left candidate.domains (domains_written candidate.actions) (stream_domain application) (own.domains application (wrote_last application in_last))));
      paths = λ path in_between in_last. none (by_written_key candidate winner (path_name path)
          (among_names between winner told path in_between) (among_names last candidate.actions stand path in_last));
    }
      where
        wrote : (application : List ℕ) → Contains (writes between) application → Contains (applications_written winner) application
        wrote application among = subst (λ (seen : List (List ℕ)). Contains seen application) (sym (applications_told schema between winner told)) among

        wrote_last : (application : List ℕ) → Contains (writes last) application → Contains (applications_written candidate.actions) application
        wrote_last application among = subst (λ (seen : List (List ℕ)). Contains seen application) (sym (applications_told schema last candidate.actions stand)) among

        among_names : (entry : Entry) (made : List actions.Action) → StandFor schema entry (without_commit_info made) → (path : FileName) → Contains (names entry) path → Contains (map (λ p. p.key) (paths_written made)) (path_name path)
        among_names entry made stand path among = subst (λ (keys : List (List ℕ)). Contains keys (path_name path)) (sym (names_told schema entry made stand)) (Contains-map path_name (names entry) path among)

    module _ (bytes : List ℕ) (made : IsCommit bytes candidate.actions) (lawful : IsLawfulStore objects) where
      -- behind the entries of the table that the store holds
      goes_on_in : (first : Entry) (entries : List Entry) (entry : Entry) → HoldsFirst objects lawful.schema 0 (first ∷ entries) → length (first ∷ entries) ≡ version → IsCommitOf lawful.schema entry bytes
          → FilesStand objects lawful.schema entry → IsLawful ((first ∷ entries) ++ entry ∷ []) → IsAdmissible objects (suc version) bytes
      goes_on_in first entries entry stand at commit files good =
          let front = table_front objects lawful.schema 0 (first ∷ entries) lawful.entries (omega (arith, at, fits)) stand lawful.holds in
          let later = later_stands objects lawful.schema version (first ∷ entries) front.0 lawful.entries (sym at) front.1 lawful.holds in
          let found = won_entry lawful.schema front.0 later in
          let parts : lawful.entries ≡ (first ∷ entries) ++ found.entry ∷ found.more = front.1 ∙ ap (λ (es : List Entry). (first ∷ entries) ++ es) found.parts in
          let same : commit.actions ≡ candidate.actions = one_commit bytes commit.actions candidate.actions commit.commit made in
          let told : StandFor lawful.schema entry (without_commit_info candidate.actions) = subst (λ (others : List actions.Action). StandFor lawful.schema entry (without_commit_info others)) same commit.stand in
          record {
            schema = lawful.schema;
            entries = (first ∷ entries) ++ found.entry ∷ [];
            entry = entry;
            stand = HoldsFirst-push objects lawful.schema 0 version (first ∷ entries) found.entry (omega (arith, at)) stand found.commit found.files;
            at = length-append (first ∷ entries) (found.entry ∷ []) ∙ (omega (arith, at));
            fits = fits;
            commit = commit;
            files = files;
            tells = tt;
            lawful = goes_behind (first ∷ entries) found.entry entry (apart lawful.schema found.entry entry found.told told) found.more (subst IsLawful parts lawful.lawful) good;
          }

      -- behind all entries
      goes_on_from : (schema : Schema) (entries : List Entry) (entry : Entry) → HoldsFirst objects schema 0 entries → length entries ≡ version → IsCommitOf schema entry bytes → FilesStand objects schema entry
          → IsLawful (entries ++ entry ∷ []) → IsAdmissible objects (suc version) bytes
      goes_on_from schema [] entry stand at commit files good = absurd (first_conflicts lawful.entries lawful.schema (sym at) lawful.lawful.begins lawful.holds)
      goes_on_from schema (first ∷ entries) entry stand at commit files good =
          let same : schema ≡ lawful.schema = first_schema objects schema lawful.schema first (entries ++ entry ∷ []) lawful.entries good.begins stand.0 lawful.holds in
          goes_on_in first entries entry (subst (λ (s : Schema). HoldsFirst objects s 0 (first ∷ entries)) same stand) at (subst (λ (s : Schema). IsCommitOf s entry bytes) same commit)
          (subst (λ (s : Schema). FilesStand objects s entry) same files) good

      pub goes_on : IsAdmissible objects version bytes → IsAdmissible objects (suc version) bytes
      goes_on new = goes_on_from new.schema new.entries new.entry new.stand new.at new.commit new.files new.lawful
