-- What a good put leaves: a sound store, whose data files and whose batches were handed in.
use Rattle.std.proofs.Common.{◌≡◌, ◌≢◌, ◌⊎◌, ◌∙◌, ℕ, suc, List, [], ◌∷◌, ◌++◌, length, Option, Some, None, true, false, Contains, inl, inr, refl, sym, ap, subst, arith}
use Rattle.std.specs.Prelude.{bytes_eq, unwrap_or}
use Rattle.std.specs.List.{AllByRecursion}
use Rattle.std.proofs.lemmas.Bool.{cases_Bool, false≢true}
use Rattle.std.proofs.lemmas.Slice.Eq.{bytes_eq-Decides}
use Rattle.std.proofs.lemmas.List.Elements.{Contains-append_cases}
use Rattle.outcomes.specs.Bytes.{IsBytes}
use Rattle.store_core.specs.Objects.{AreBytes, HasObjectsOf, Objects, object_at, with_object}
use Rattle.store_core.specs.ObjectLaws.{object_at-with_object_kept, object_at-with_object_other, object_at-with_object_same, with_object_stands}
use Rattle.delta_actions.specs.Action as actions
use Rattle.delta_actions.specs.Names.{data_file_name}
use Rattle.table_log.specs.Restoring.{IsSoundCheckpoint, checkpoint_version}
use Rattle.store_core.specs.Names.{commit_name}
use Rattle.table_log.proofs.Callers.{commit_is_none, data_file_is_none}
use Rattle.table_model.specs.Lawful.{Begins}
use Rattle.table_model.specs.Table.{Batch, Entry, batches, batches_of, close, creation, group}
use Rattle.table_model.proofs.Callers.{batches-append, each_has}
use Rattle.table_store.specs.Commits.{IsClose, IsCommitOf, IsCreation, IsGroupOf, StandFor, without_commit_info}
use Rattle.table_store.specs.Holds.{FileStands, FilesStand, Holds, HoldsFirst, HoldsFrom, IsFreeIn}
use Rattle.table_store.specs.Schema.{Schema}
use Rattle.table_store.specs.Sound.{IsAdmissible, IsSound}
use Rattle.table_store.proofs.Callers.{all_free, commit_name-data_file_name, commit_name-once, files_stand}
use Rattle.table_store.proofs.HeldLemmas.{HoldsFirst-end}
use Rattle.table_store.proofs.HoldingOne.{close_no_creation, one_entry, one_list, one_object}
use Rattle.table_store.proofs.HoldingSchema.{one_creation_of, one_schema, only_table}
use Rattle.table_store.proofs.HoldingKept.{Stands-kept}
use Rattle.table_store.proofs.HoldingPuts.{FilesStand-put, HoldsFrom-commit}
use Rattle.log_laws.specs.Sound.{IsSoundStore}
use Rattle.session_laws.specs.CreateSessions.{CreateJob, IsCreationOf}
use Rattle.session_laws.specs.Jobs as jobs
use Rattle.stream_model.specs.Events.{Event}
use Rattle.stream_model.specs.Puts.{HasTable, IsBatchOfJob, IsGoodPut, IsCommitMade, IsSubmittedBatch, IsSubmittedFile, WasBegun, a_checkpoint, a_commit, a_file, appends, closes, creates}
use Rattle.stream_model.proofs.Growing.{lawful_held, table_grows}

-- ---- objects

-- what stood stands
pub put_grew : (objects : Objects) (name bytes : List ℕ) → HasObjectsOf objects (with_object objects name bytes)
put_grew objects name bytes = λ other found is. object_at-with_object_kept objects name bytes other found is

-- two names are the same, or not
same_or_other : (one other : List ℕ) → (one ≡ other) ⊎ (one ≢ other)
same_or_other one other = elim (cases_Bool (bytes_eq one other)) [
  | inl same ↦ inl ((bytes_eq-Decides one other).0 same)
  | inr apart ↦ inr (λ is. false≢true (sym apart ∙ (bytes_eq-Decides one other).1 is))
]

-- what stands behind a put stood, or was put
pub stood_or_put : (objects : Objects) (name bytes other found : List ℕ) → object_at (with_object objects name bytes) other ≡ Some found → (object_at objects other ≡ Some found) ⊎ ((other ≡ name) × (found ≡ bytes))
stood_or_put objects name bytes other found is = by_old (object_at objects other) refl
  where
    by_old : (old : Option (List ℕ)) → object_at objects other ≡ old → (object_at objects other ≡ Some found) ⊎ ((other ≡ name) × (found ≡ bytes))
    by_old (Some kept) was =
        let both = sym (object_at-with_object_kept objects name bytes other kept was) ∙ is in
        let same : kept ≡ found = cc in
        inl (was ∙ ap (λ (b : List ℕ). Some b) same)
    by_old None was =
        elim (same_or_other other name) [
          | inl here ↦
              let put : object_at (with_object objects name bytes) other ≡ Some bytes = subst (λ (n : List ℕ). object_at (with_object objects name bytes) n ≡ Some bytes) (sym here) (object_at-with_object_same objects name bytes ∙ ap (λ (o : Option (List ℕ)). Some (unwrap_or o bytes)) (sym (ap (object_at objects) here) ∙ was)) in
              let both = sym put ∙ is in
              let same : bytes ≡ found = cc in
              inr (here, sym same)
          | inr apart ↦ let both = sym (object_at-with_object_other objects name bytes other apart ∙ was) ∙ is in absurd cc
        ]

-- each object is of bytes
pub put_bytes : (objects : Objects) (name bytes : List ℕ) → AreBytes objects → IsBytes bytes → AreBytes (with_object objects name bytes)
put_bytes objects name bytes are of_bytes =
    λ other found is. elim (stood_or_put objects name bytes other found is) [
      | inl stood ↦ are other found stood
      | inr (here, same) ↦ subst IsBytes (sym same) of_bytes
    ]

-- ---- which batches a commit adds

-- so were all batches of the table that a store holds
abbrev pub AreSubmitted : List Event → Objects → Type 0
AreSubmitted events objects = (schema : Schema) (entries : List Entry) → Holds objects schema entries → (b : Batch) → Contains (batches entries) b → IsSubmittedBatch events schema b

-- bytes are the commit of a creation that was handed in
abbrev pub CreatesAsAsked : List Event → (bytes : List ℕ) → Type 0
CreatesAsAsked events bytes = (job : CreateJob) × WasBegun events (jobs.creates job) × IsCreationOf job bytes

-- so is the commit of version 0, where it stands
abbrev pub IsBegunAsAsked : List Event → Objects → Type 0
IsBegunAsAsked events objects = (bytes : List ℕ) → object_at objects (commit_name 0) ≡ Some bytes → CreatesAsAsked events bytes

-- a list of no entries is empty
none_long : (entries : List Entry) → length entries ≡ 0 → entries ≡ []
none_long [] long = refl
none_long (entry ∷ entries) long = absurd cc

-- an empty list has nothing
pub none_in : {A : Type 0} (x : A) → Contains [] x → ⊥
none_in x has = omega (arith, has.1)

-- a close is no group of batches
group_no_close : (application : List ℕ) (bs : List Batch) (beside : List actions.Action) → IsGroupOf bs beside → IsClose application beside → ⊥
group_no_close application bs beside p q = let no : false ≡ true = rw q.actions at p.only in absurd cc

-- a table with one entry more has the schema of each table that the store holds
schema_held : (objects : Objects) (schema second : Schema) (entries : List Entry) (entry : Entry) (others : List Entry) → Begins (entries ++ entry ∷ []) → Holds objects schema (entries ++ entry ∷ []) → Holds objects second others → schema ≡ second
schema_held objects schema second [] entry others begins p q = one_schema objects schema second entry [] others begins p q
schema_held objects schema second (first ∷ entries) entry others begins p q = one_schema objects schema second first (entries ++ entry ∷ []) others begins p q

module _ (events : List Event) (objects : Objects) (sound : IsSound objects) (version : ℕ) (bytes : List ℕ) (new : IsAdmissible objects version bytes) where
  -- a table that begins with the same commit has the same schema
  same_table : (schema : Schema) → HasTable objects schema → (first : Entry) (rest : List Entry) → new.entries ≡ first ∷ rest → schema ≡ new.schema
  same_table schema (creation, others, holds) first rest is =
      let stand : HoldsFirst objects new.schema 0 (first ∷ rest) = subst (HoldsFirst objects new.schema 0) is new.stand in
      one_creation_of holds.0.0 stand.0.0 schema new.schema first (one_object objects (commit_name 0) (commit_name 0) _ _ holds.0 stand.0 refl) holds.0.2 stand.0.2
  same_table schema (group bs, others, holds) first rest is = absurd (lawful_held objects schema (group bs ∷ others) sound holds).begins
  same_table schema (close application, others, holds) first rest is = absurd (lawful_held objects schema (close application ∷ others) sound holds).begins

  -- the first entry of a table has no batch
  first_none : new.entries ≡ [] → (b : Batch) → Contains (batches_of new.entry) b → ⊥
  first_none is b has = by_entry new.entry (subst (λ (es : List Entry). Begins (es ++ new.entry ∷ [])) is new.lawful.begins) has
    where
      by_entry : (entry : Entry) → Begins (entry ∷ []) → Contains (batches_of entry) b → ⊥
      by_entry creation begins none = none_in b none
      by_entry (group bs) begins some = begins
      by_entry (close application) begins none = none_in b none

  close_none : (schema : Schema) (application : List ℕ) → IsCommitOf schema (close application) bytes → (b : Batch) → Contains (batches_of new.entry) b → ⊥
  close_none schema application commit b has = by_entry new.entry new.commit has
    where
      by_entry : (entry : Entry) → IsCommitOf new.schema entry bytes → Contains (batches_of entry) b → ⊥
      by_entry creation is none = none_in b none
      by_entry (close other) is none = none_in b none
      by_entry (group bs) is some =
          let lists = one_list bytes bytes new.schema schema (group bs) (close application) refl is commit in
          group_no_close application bs (without_commit_info commit.actions) (subst (λ (made : List actions.Action). IsGroupOf bs (without_commit_info made)) lists is.stand) commit.stand

  group_only : (schema : Schema) (bs : List Batch) → HasTable objects schema → IsCommitOf schema (group bs) bytes → AllByRecursion (FileStands objects schema) bs → (entries : List Entry) → new.entries ≡ entries → (b : Batch) → Contains (batches_of new.entry) b → (schema ≡ new.schema) × Contains bs b
  group_only schema bs table commit files [] is b has = absurd (first_none is b has)
  group_only schema bs table commit files (first ∷ rest) is b has =
      let same : schema ≡ new.schema = same_table schema table first rest is in
      let own : IsCommitOf new.schema (group bs) bytes = subst (λ (s : Schema). IsCommitOf s (group bs) bytes) same commit in
      let own_files : FilesStand objects new.schema (group bs) = files_stand objects new.schema (group bs) (subst (λ (s : Schema). AllByRecursion (FileStands objects s) bs) same files) in
      let lists = one_list bytes bytes new.schema new.schema new.entry (group bs) refl new.commit own in
      let entry : new.entry ≡ group bs = one_entry objects new.schema new.entry (group bs) (without_commit_info own.actions) (subst (λ (made : List actions.Action). StandFor new.schema new.entry (without_commit_info made)) lists new.commit.stand) own.stand new.files.given own_files.given in
      (same, subst (λ (e : Entry). Contains (batches_of e) b) entry has)

  -- the batches of the entry that an admissible commit of a job adds were handed in
  pub added_submitted : IsCommitMade events objects version bytes → (b : Batch) → Contains (batches_of new.entry) b → IsSubmittedBatch events new.schema b
  added_submitted (creates job begun is made) b has = absurd (first_none (none_long new.entries (new.at ∙ is)) b has)
  added_submitted (closes schema item submitted task commit) b has = absurd (close_none schema item.application commit b has)
  added_submitted (appends schema job bs table begun of_job commit files) b has =
      let both = group_only schema bs table commit files new.entries refl b has in
      let one = each_has (IsBatchOfJob schema job) bs b of_job both.1 in
      subst (λ (s : Schema). IsSubmittedBatch events s b) both.0 (one.0, (job, begun, one.1), one.2)

  -- So are all batches then.
  pub commit_submitted : AreSubmitted events objects → IsSound (with_object objects (commit_name version) bytes) → IsCommitMade events objects version bytes → AreSubmitted events (with_object objects (commit_name version) bytes)
  commit_submitted all later made = by_name (object_at objects (commit_name version)) refl
    where
      by_name : (found : Option (List ℕ)) → object_at objects (commit_name version) ≡ found → AreSubmitted events (with_object objects (commit_name version) bytes)
      by_name (Some taken) is = subst (AreSubmitted events) (sym (with_object_stands objects (commit_name version) bytes (rw is refl))) all
      by_name None is = λ schema entries held b has.
          let before : Holds objects new.schema new.entries = HoldsFirst-end objects new.schema 0 version new.entries (omega (arith, new.at)) new.stand (omega (arith, new.fits), λ fits. is) in
          let as_long : length sound.entries ≡ length new.entries = ap length (only_table objects sound.schema new.schema sound.entries new.entries sound.lawful.begins sound.holds before) in
          let behind : Holds (with_object objects (commit_name version) bytes) new.schema (new.entries ++ new.entry ∷ []) =
          HoldsFrom-commit objects new.schema 0 version new.entries new.entry bytes (omega (arith, new.at)) before new.commit new.files (omega (arith, new.fits), λ fits. sound.ends (suc version) (omega (arith, as_long, new.at)) fits) in
          let begins = (lawful_held (with_object objects (commit_name version) bytes) schema entries later held).begins in
          let same : entries ≡ new.entries ++ new.entry ∷ [] = only_table (with_object objects (commit_name version) bytes) schema new.schema entries (new.entries ++ new.entry ∷ []) begins held behind in
          let schema_is : new.schema ≡ schema = schema_held (with_object objects (commit_name version) bytes) new.schema schema new.entries new.entry entries new.lawful.begins behind held in
          let parts : batches (new.entries ++ new.entry ∷ []) ≡ batches new.entries ++ batches (new.entry ∷ []) = batches-append new.entries (new.entry ∷ []) in
          let has_so : Contains (batches new.entries ++ batches (new.entry ∷ [])) b = subst (λ (bs : List Batch). Contains bs b) (ap batches same ∙ parts) has in
          subst (λ (s : Schema). IsSubmittedBatch events s b) schema_is (elim (Contains-append_cases (batches new.entries) (batches (new.entry ∷ [])) b has_so) [
            | inl old ↦ all new.schema new.entries before b old
            | inr added ↦ added_submitted made b (elim (Contains-append_cases (batches_of new.entry) [] b added) [
              | inl own ↦ own
              | inr none ↦ absurd (none_in b none)
            ])
          ])

  -- no close is put as version 0
  no_first_close : (schema : Schema) (application : List ℕ) → IsCommitOf schema (close application) bytes → new.entries ≡ [] → ⊥
  no_first_close schema application commit is = by_entry new.entry (subst (λ (es : List Entry). Begins (es ++ new.entry ∷ [])) is new.lawful.begins) new.commit
    where
      by_entry : (entry : Entry) → Begins (entry ∷ []) → IsCommitOf new.schema entry bytes → ⊥
      by_entry creation begins own =
          let lists = one_list bytes bytes new.schema schema creation (close application) refl own commit in
          close_no_creation new.schema application (without_commit_info commit.actions) commit.stand (subst (λ (made : List actions.Action). IsCreation new.schema (without_commit_info made)) lists own.stand)
      by_entry (group bs) begins own = begins
      by_entry (close other) begins own = begins

  -- The commit of version 0 stays one of a creation that was handed in.
  pub commit_created : IsBegunAsAsked events objects → IsCommitMade events objects version bytes → IsBegunAsAsked events (with_object objects (commit_name version) bytes)
  commit_created all made = λ found is. elim (stood_or_put objects (commit_name version) bytes (commit_name 0) found is) [
    | inl stood ↦ all found stood
    | inr (here, same) ↦ subst (CreatesAsAsked events) (sym same) (by_made made (commit_name-once 0 version (omega arith) here) (subst (λ (b : List ℕ). object_at (with_object objects (commit_name version) bytes) (commit_name 0) ≡ Some b) same is))
  ]
    where
      by_made : IsCommitMade events objects version bytes → 0 ≡ version → object_at (with_object objects (commit_name version) bytes) (commit_name 0) ≡ Some bytes → CreatesAsAsked events bytes
      by_made (creates job begun zero made) at is = (job, begun, made)
      by_made (appends schema job bs (first, rest, holds) begun of_job commit files) at is =
          let stands = object_at-with_object_kept objects (commit_name version) bytes (commit_name 0) holds.0.0 holds.0.1 in
          let both = sym stands ∙ is in
          let same : holds.0.0 ≡ bytes = cc in
          subst (CreatesAsAsked events) same (all holds.0.0 holds.0.1)
      by_made (closes schema item submitted task commit) at is = absurd (no_first_close schema item.application commit (none_long new.entries (new.at ∙ sym at)))

-- ---- data files

-- each data file was handed in, for the table that stands
abbrev pub AreFilesSubmitted : List Event → Objects → Type 0
AreFilesSubmitted events objects = (application : List ℕ) (number : ℕ) (bytes : List ℕ) → object_at objects (data_file_name application number) ≡ Some bytes
    → (schema : Schema) × HasTable objects schema × IsSubmittedFile events schema (data_file_name application number) bytes

-- what a put adds under another name than a data file's leaves them
other_files : (events : List Event) (objects : Objects) (name bytes : List ℕ) → IsSound objects → IsSound (with_object objects name bytes) → ((application : List ℕ) (number : ℕ) → data_file_name application number ≡ name → ⊥) → AreFilesSubmitted events objects
    → AreFilesSubmitted events (with_object objects name bytes)
other_files events objects name bytes sound later apart all =
    λ application number found is. elim (stood_or_put objects name bytes (data_file_name application number) found is) [
      | inl stood ↦
          let was = all application number found stood in
          (was.0, table_grows objects (with_object objects name bytes) sound later (put_grew objects name bytes) was.0 was.1, was.2)
      | inr (here, same) ↦ absurd (apart application number here)
    ]

file_files : (events : List Event) (objects : Objects) (name bytes : List ℕ) (schema : Schema) → IsSound objects → IsSound (with_object objects name bytes) → HasTable objects schema → IsSubmittedFile events schema name bytes → AreFilesSubmitted events objects
    → AreFilesSubmitted events (with_object objects name bytes)
file_files events objects name bytes schema sound later table file all =
    λ application number found is. elim (stood_or_put objects name bytes (data_file_name application number) found is) [
      | inl stood ↦
          let was = all application number found stood in
          (was.0, table_grows objects (with_object objects name bytes) sound later (put_grew objects name bytes) was.0 was.1, was.2)
      | inr (here, same) ↦ (
        schema,
        table_grows objects (with_object objects name bytes) sound later (put_grew objects name bytes) schema table,
        subst (λ (n : List ℕ). IsSubmittedFile events schema n found) (sym here) (subst (λ (b : List ℕ). IsSubmittedFile events schema name b) (sym same) file),
      )
    ]

-- ---- puts beside the commits

module _ (objects : Objects) (name bytes : List ℕ) (apart : (version : ℕ) → commit_name version ≢ name) where
  -- they leave the table
  held_beside : (schema : Schema) (version : ℕ) (entries : List Entry) → HoldsFrom objects schema version entries → HoldsFrom (with_object objects name bytes) schema version entries
  held_beside schema version [] ends = (ends.0, λ fits. object_at-with_object_other objects name bytes (commit_name version) (apart version) ∙ ends.1 fits)
  held_beside schema version (entry ∷ entries) holds = (
    Stands-kept objects (with_object objects name bytes) (put_grew objects name bytes) (commit_name version) _ holds.0,
    FilesStand-put objects name bytes schema entry (all_free (entry ∷ []) name) holds.1,
    holds.2,
    held_beside schema (suc version) entries holds.3,
  )

  -- and the commit of version 0
  beside_created : (events : List Event) → IsBegunAsAsked events objects → IsBegunAsAsked events (with_object objects name bytes)
  beside_created events all = λ found is. elim (stood_or_put objects name bytes (commit_name 0) found is) [
    | inl stood ↦ all found stood
    | inr (here, same) ↦ absurd (apart 0 here)
  ]

  -- and so its batches
  beside_submitted : (events : List Event) → IsSound objects → AreSubmitted events objects → AreSubmitted events (with_object objects name bytes)
  beside_submitted events sound all = λ schema entries held b has. by_entries sound.entries sound.holds sound.lawful.begins schema entries held b has
    where
      by_entries : (own : List Entry) → Holds objects sound.schema own → Begins own → (schema : Schema) (entries : List Entry) → Holds (with_object objects name bytes) schema entries → (b : Batch) → Contains (batches entries) b → IsSubmittedBatch events schema b
      by_entries [] holds begins schema entries held b has =
          let same : [] ≡ entries = only_table (with_object objects name bytes) sound.schema schema [] entries begins (held_beside sound.schema 0 [] holds) held in
          absurd (none_in b (subst (λ (es : List Entry). Contains (batches es) b) (sym same) has))
      by_entries (first ∷ rest) holds begins schema entries held b has =
          let here = held_beside sound.schema 0 (first ∷ rest) holds in
          let same : first ∷ rest ≡ entries = only_table (with_object objects name bytes) sound.schema schema (first ∷ rest) entries begins here held in
          let schema_is : sound.schema ≡ schema = one_schema (with_object objects name bytes) sound.schema schema first rest entries begins here held in
          subst (λ (s : Schema). IsSubmittedBatch events s b) schema_is (all sound.schema (first ∷ rest) holds b (subst (λ (es : List Entry). Contains (batches es) b) (sym same) has))

-- ---- whatever is put

-- What is so of a store.
pub record IsGoodStore (events : List Event) (objects : Objects) : Type 0 where
  pub sound : IsSoundStore objects
  pub bytes : AreBytes objects
  pub created : IsBegunAsAsked events objects
  pub files : AreFilesSubmitted events objects
  pub submitted : AreSubmitted events objects

-- a checkpoint has neither a commit's name nor a data file's
checkpoint_apart : (name : List ℕ) (other : ℕ) → checkpoint_version name ≡ Some other → (version : ℕ) → commit_name version ≢ name
checkpoint_apart name other is version same = let none : ◌≡◌ {A = Option ℕ} None (Some other) = sym (commit_is_none version) ∙ ap checkpoint_version same ∙ is in absurd cc

checkpoint_no_file : (name : List ℕ) (other : ℕ) → checkpoint_version name ≡ Some other → (application : List ℕ) (number : ℕ) → data_file_name application number ≡ name → ⊥
checkpoint_no_file name other is application number same = let none : ◌≡◌ {A = Option ℕ} None (Some other) = sym (data_file_is_none application number) ∙ ap checkpoint_version same ∙ is in absurd cc

module _ (commit_lands : (objects : Objects) (version : ℕ) (bytes : List ℕ) → IsSoundStore objects → IsAdmissible objects version bytes → IsSoundStore (with_object objects (commit_name version) bytes))
    (file_lands : (objects : Objects) (application bytes : List ℕ) (number : ℕ) → IsFreeIn objects (data_file_name application number) → IsSoundStore objects → IsSoundStore (with_object objects (data_file_name application number) bytes))
    (checkpoint_lands : (objects : Objects) (name bytes : List ℕ) (version : ℕ) → checkpoint_version name ≡ Some version → IsSoundStore objects → IsSoundCheckpoint objects version bytes → IsSoundStore (with_object objects name bytes)) where
  -- A good put leaves a store of which that is so.
  pub put_lands : (events : List Event) (objects : Objects) (name bytes : List ℕ) → IsGoodStore events objects → IsGoodPut events objects name bytes → IsBytes bytes → IsGoodStore events (with_object objects name bytes)
  put_lands events objects name bytes good (a_commit version named new made) of_bytes = subst (λ (n : List ℕ). IsGoodStore events (with_object objects n bytes)) (sym named) behind
    where
      later : IsSoundStore (with_object objects (commit_name version) bytes)
      later = commit_lands objects version bytes good.sound new

      behind : IsGoodStore events (with_object objects (commit_name version) bytes)
      behind = record {
        sound = later;
        bytes = put_bytes objects (commit_name version) bytes good.bytes of_bytes;
        files = other_files events objects (commit_name version) bytes good.sound.table later.table (λ application number same. commit_name-data_file_name version application number (sym same)) good.files;
        created = commit_created events objects good.sound.table version bytes new good.created made;
        submitted = commit_submitted events objects good.sound.table version bytes new good.submitted later.table made;
      }
  put_lands events objects name bytes good (a_checkpoint version named one) of_bytes =
      let later = checkpoint_lands objects name bytes version named good.sound one in
      record {
        sound = later;
        bytes = put_bytes objects name bytes good.bytes of_bytes;
        files = other_files events objects name bytes good.sound.table later.table (checkpoint_no_file name version named) good.files;
        created = beside_created objects name bytes (checkpoint_apart name version named) events good.created;
        submitted = beside_submitted objects name bytes (checkpoint_apart name version named) events good.sound.table good.submitted;
      }
  put_lands events objects name bytes good (a_file schema table file free) of_bytes = subst (λ (n : List ℕ). IsGoodStore events (with_object objects n bytes)) (sym named) behind
    where
      batch : Batch
      batch = file.2.0

      named : name ≡ data_file_name batch.application batch.number
      named = file.2.2

      later : IsSoundStore (with_object objects (data_file_name batch.application batch.number) bytes)
      later = file_lands objects batch.application bytes batch.number (subst (IsFreeIn objects) named free) good.sound

      behind : IsGoodStore events (with_object objects (data_file_name batch.application batch.number) bytes)
      behind = record {
        sound = later;
        bytes = put_bytes objects (data_file_name batch.application batch.number) bytes good.bytes of_bytes;
        files = file_files events objects (data_file_name batch.application batch.number) bytes schema good.sound.table later.table table (subst (λ (n : List ℕ). IsSubmittedFile events schema n bytes) named file) good.files;
        created = beside_created objects (data_file_name batch.application batch.number) bytes (λ version same. commit_name-data_file_name version batch.application batch.number same) events good.created;
        submitted = beside_submitted objects (data_file_name batch.application batch.number) bytes (λ version same. commit_name-data_file_name version batch.application batch.number same) events good.sound.table good.submitted;
      }
