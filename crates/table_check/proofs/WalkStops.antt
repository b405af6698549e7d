-- Where a walk can't go on, the store isn't sound.
use Rattle.std.proofs.Common.{◌≡◌, ℕ, suc, ◌+◌, ◌<◌, ◌≤◌, List, [], ◌∷◌, ◌++◌, length, map, None, Some, refl, sym, ap, ap₂, subst, ◌∙◌, arith, inl, inr, length-append}
use Rattle.std.specs.List.{AllByRecursion}
use Rattle.std.specs.Str.{IsUtf8}
use Rattle.std.proofs.lemmas.Bool.{cases_lt}
use Rattle.std.proofs.lemmas.Simd.{map-map}
use Rattle.delta_actions.specs.Action.{Action}
use Rattle.delta_actions.specs.Commit.{IsCommit}
use Rattle.store_core.specs.Names.{commit_name, greatest_version}
use Rattle.delta_replay.specs.Keys.{last_number}
use Rattle.store_core.specs.Objects.{Objects, object_at}
use Rattle.table_model.specs.Lawful.{IsLawful}
use Rattle.table_model.specs.Table as tables
use Rattle.table_model.specs.Table.{Batch, Entry, creation, group, close, batches_of}
use Rattle.table_model.proofs.Callers.{last_number as last_of_numbers}
use Rattle.table_store.specs.Commits.{IsCommitOf, StandFor, without_commit_info}
use Rattle.table_store.specs.Groups.{numbers}
use Rattle.table_store.specs.Holds.{FilesStand, HoldsFirst, Stands}
use Rattle.table_store.specs.Schema.{Schema}
use Rattle.table_store.proofs.HoldingOne.{named, one_commit, one_entry, one_list, one_object, some_is}
use Rattle.table_store.proofs.HoldingSchema.{one_creation_of}
use Rattle.log_laws.proofs.Callers.{log_closed, log_last}
use Rattle.table_check.specs.Below.{IsSoundBelow}
use Rattle.table_check.specs.Following.{IsAboveLast, IsNewToTable, IsNewIn, MayFollow}
use Rattle.table_check.specs.Walked.{IsWalked}
use Rattle.table_check.proofs.LawfulNext.{group_is_new, no_creation_behind}
use Rattle.table_check.proofs.WalkLemmas.{made_for}

-- ---- what stands first in a store stands in each table that it holds

module _ (objects : Objects) (schema : Schema) where
  -- of two lists of entries whose commits stand the shorter is a front of the longer
  front_is : (version : ℕ) (entries others : List Entry) → HoldsFirst objects schema version entries → HoldsFirst objects schema version others → length entries ≤ length others
      → (rest : List Entry) × (others ≡ entries ++ rest)
  front_is version [] others p q long = (others, refl)
  front_is version (entry ∷ entries) [] p q long = absurd (omega (arith, long))
  front_is version (entry ∷ entries) (found ∷ others) p q long =
      let bytes : p.0.0 ≡ q.0.0 = one_object objects (commit_name version) (commit_name version) _ _ p.0 q.0 refl in
      let lists = one_list p.0.0 q.0.0 schema schema entry found bytes p.0.2 q.0.2 in
      let stand : StandFor schema entry (without_commit_info q.0.2.actions) = subst (λ (actions : List Action). StandFor schema entry (without_commit_info actions)) lists p.0.2.stand in
      let first : entry ≡ found = one_entry objects schema entry found (without_commit_info q.0.2.actions) stand q.0.2.stand p.1.given q.1.given in
      let later = front_is (suc version) entries others p.3 q.3 (omega (arith, long)) in
      (later.0, ap₂ (λ (e : Entry) (es : List Entry). e ∷ es) (sym first) later.1)

  -- the last of several entries stands
  last_of : (version next : ℕ) (entries : List Entry) (entry : Entry) → next ≡ version + length entries → HoldsFirst objects schema version (entries ++ entry ∷ [])
      → Stands objects (commit_name next) (IsCommitOf schema entry) × FilesStand objects schema entry
  last_of version next [] entry at stand =
      let here : version ≡ next = omega (arith, at) in
      (subst (λ (v : ℕ). Stands objects (commit_name v) (IsCommitOf schema entry)) here stand.0, stand.1)
  last_of version next (first ∷ entries) entry at stand = last_of (suc version) next entries entry (omega (arith, at)) stand.3

  -- An entry whose commit has these bytes, and which stands behind others in a lawful table.
  pub record Next (entries : List Entry) (bytes : List ℕ) : Type 0 where
    pub entry : Entry
    pub commit : IsCommitOf schema entry bytes
    pub files : FilesStand objects schema entry
    pub lawful : IsLawful (entries ++ entry ∷ [])

  next_by : (version : ℕ) (entries all rest : List Entry) (bytes : List ℕ) → version ≡ length entries → object_at objects (commit_name version) ≡ Some bytes → HoldsFirst objects schema 0 all → IsLawful all
      → all ≡ entries ++ rest → length rest ≡ 1 → Next entries bytes
  next_by version entries all [] bytes at there stand lawful is one = absurd (omega (arith, one))
  next_by version entries all (entry ∷ []) bytes at there stand lawful is one =
      let last = last_of 0 version entries entry (omega (arith, at)) (subst (HoldsFirst objects schema 0) is stand) in
      let same : last.0.0 ≡ bytes = some_is last.0.0 bytes (sym last.0.1 ∙ there) in
      record {
        entry = entry;
        commit = subst (IsCommitOf schema entry) same last.0.2;
        files = last.1;
        lawful = subst IsLawful is lawful;
      }
  next_by version entries all (entry ∷ other ∷ rest) bytes at there stand lawful is one = absurd (omega (arith, one))

-- ---- a store that is sound below a version has as many entries, where its commit stands

module _ (objects : Objects) (version : ℕ) (bytes : List ℕ) (there : object_at objects (commit_name version) ≡ Some bytes) (fits : version ≤ greatest_version) (sound : IsSoundBelow objects (suc version)) where
  long_enough : length sound.entries ≡ suc version
  long_enough =
      elim (cases_lt version (length sound.entries)) [
        | inl long ↦ omega (arith, long, sound.few)
        | inr short ↦
            let none = sound.ends version short (omega arith) fits in
            let wrong : None ≡ Some bytes = sym none ∙ there in absurd cc
      ]

-- a lawful table of one entry at least begins with the creation
first_created : (objects : Objects) (bytes : List ℕ) (schema : Schema) (entries : List Entry) → object_at objects (commit_name 0) ≡ Some bytes → HoldsFirst objects schema 0 entries → IsLawful entries → 0 < length entries
    → IsCommitOf schema creation bytes
first_created objects bytes schema [] there stand lawful some = absurd (omega (arith, some))
first_created objects bytes schema (creation ∷ entries) there stand lawful some = subst (IsCommitOf schema creation) (some_is stand.0.0 bytes (sym stand.0.1 ∙ there)) stand.0.2
first_created objects bytes schema (group bs ∷ entries) there stand lawful some = absurd lawful.begins
first_created objects bytes schema (close application ∷ entries) there stand lawful some = absurd lawful.begins

-- Where the first commit is no creation's, the store isn't sound.
pub not_created : (objects : Objects) (bytes : List ℕ) → object_at objects (commit_name 0) ≡ Some bytes → ((schema : Schema) → IsCommitOf schema creation bytes → ⊥) → IsSoundBelow objects 1 → ⊥
not_created objects bytes there none sound =
    none sound.schema (first_created objects bytes sound.schema sound.entries there sound.stand sound.lawful (omega (arith, long_enough objects 0 bytes there (omega arith) sound)))

module _ (objects : Objects) (schema : Schema) (version : ℕ) (log : List (List Action)) (walked : IsWalked objects schema version log) where
  -- a table of the store has the schema of the walk
  same_schema : (second : Schema) (others : List Entry) → 0 < length others → HoldsFirst objects second 0 others → schema ≡ second
  same_schema second [] some stand = absurd (omega (arith, some))
  same_schema second (found ∷ others) some stand =
      let bytes = one_object objects (commit_name 0) (commit_name 0) _ _ walked.stand.0 stand.0 refl in
      one_creation_of walked.stand.0.0 stand.0.0 schema second found bytes walked.stand.0.2 stand.0.2

  next : (bytes : List ℕ) → object_at objects (commit_name version) ≡ Some bytes → version ≤ greatest_version → IsSoundBelow objects (suc version) → Next objects schema (creation ∷ walked.later) bytes
  next bytes there fits sound =
      let long = long_enough objects version bytes there fits sound in
      let same : schema ≡ sound.schema = same_schema sound.schema sound.entries (omega (arith, long)) sound.stand in
      let stand : HoldsFirst objects schema 0 sound.entries = subst (λ (s : Schema). HoldsFirst objects s 0 sound.entries) (sym same) sound.stand in
      let front = front_is objects schema 0 (creation ∷ walked.later) sound.entries walked.stand stand (omega (arith, long, walked.at)) in
      let one : length front.0 ≡ 1 = omega (arith, long, walked.at, ap length front.1, length-append (creation ∷ walked.later) front.0) in
      next_by objects schema version (creation ∷ walked.later) sound.entries front.0 bytes (sym walked.at) there stand sound.lawful front.1 one

  -- ---- what is new in the table is new in the log

  new_in : (bs : List Batch) → AllByRecursion (λ n. IsUtf8 n.0) (map named bs) → AllByRecursion (IsNewToTable (creation ∷ walked.later)) bs → AllByRecursion (IsNewIn log) (map named bs)
  new_in [] texts new = tt
  new_in (b ∷ bs) texts new =
      let entries = creation ∷ walked.later in
      let made = made_for objects schema version log walked in
      let last : tables.last_item (tables.numbers_by b.application entries) ≡ last_number b.application log =
      last_of_numbers b.application entries ∙ sym (log_last objects schema b.application entries log made) in
      ((subst (IsAboveLast b.number) last new.0.0, log_closed objects schema b.application entries log made texts.0 ∙ new.0.1), new_in bs texts.1 new.1)

  some_named : (bs : List Batch) → (bs ≡ [] → ⊥) → map named bs ≡ [] → ⊥
  some_named [] some none = some refl
  some_named (b ∷ bs) some none = absurd cc

  may_follow : (entry : Entry) → AllByRecursion (λ n. IsUtf8 n.0) (map named (batches_of entry)) → IsLawful ((creation ∷ walked.later) ++ entry ∷ []) → MayFollow log entry
  may_follow creation texts lawful = absurd (no_creation_behind walked.later lawful)
  may_follow (group bs) texts lawful =
      let new = group_is_new (creation ∷ walked.later) bs lawful in
      (some_named bs new.0.0, rw (map-map (λ (n : List ℕ × ℕ). n.0) named bs) new.0.1, new_in bs texts new.1)
  may_follow (close application) texts lawful = tt

  -- the applications of an entry are those of its commit's numbers
  texts_of : (entry : Entry) (beside : List Action) → StandFor schema entry beside → AllByRecursion (λ n. IsUtf8 n.0) (numbers beside) → AllByRecursion (λ n. IsUtf8 n.0) (map named (batches_of entry))
  texts_of creation beside stand texts = tt
  texts_of (group bs) beside stand texts = subst (AllByRecursion (λ (n : List ℕ × ℕ). IsUtf8 n.0)) stand.numbered texts
  texts_of (close application) beside stand texts = tt

  -- Where the next version's commit stands, and is of no entry that may follow, the store isn't sound.
  pub not_followed : (bytes : List ℕ) (made : List Action) → version ≤ greatest_version → object_at objects (commit_name version) ≡ Some bytes → IsCommit bytes made → AllByRecursion (λ n. IsUtf8 n.0) (numbers (without_commit_info made))
      → ((entry : Entry) → StandFor schema entry (without_commit_info made) → FilesStand objects schema entry → MayFollow log entry → ⊥) → IsSoundBelow objects (suc version) → ⊥
  not_followed bytes made fits there lines texts none sound =
      let n = next bytes there fits sound in
      let same : n.commit.actions ≡ made = one_commit bytes n.commit.actions made n.commit.commit lines in
      let stand : StandFor schema n.entry (without_commit_info made) = subst (λ (actions : List Action). StandFor schema n.entry (without_commit_info actions)) same n.commit.stand in
      none n.entry stand n.files (may_follow n.entry (texts_of n.entry (without_commit_info made) stand texts) n.lawful)

  -- So it is where it is no commit.
  pub not_read : (bytes : List ℕ) → version ≤ greatest_version → object_at objects (commit_name version) ≡ Some bytes → ((made : List Action) → IsCommit bytes made → ⊥) → IsSoundBelow objects (suc version) → ⊥
  not_read bytes fits there none sound = let n = next bytes there fits sound in none n.commit.actions n.commit.commit
