-- What a read's talk shows in a world: the store as it stood when its names were listed.
use Rattle.std.proofs.Common.{◌≡◌, ◌≢◌, ◌⊎◌, ◌∙◌, ℕ, List, [], ◌∷◌, ◌++◌, length, Option, Some, None, IsSome, inl, inr, refl, sym, ap, subst}
use Rattle.std.specs.Prelude.{slice_get}
use Rattle.store_core.specs.Objects.{HasObjectsOf, Objects, names_of, object_at, with_object}
use Rattle.session_core.specs.Shown.{Shows}
use Rattle.session_core.specs.Talks.{Asked, Bears, Talk, Told, get_object, list_names, put_commit, put_file, told_lost, told_memory, told_names, told_object}
use Rattle.store_core.specs.Names.{commit_name}
use Rattle.table_log.specs.Counts.{commit_count}
use Rattle.table_log.specs.Versions.{Version, commit}
use Rattle.table_model.specs.Lawful.{Begins}
use Rattle.table_model.specs.Table.{Entry}
use Rattle.table_store.specs.Schema.{Schema, IsFileOf}
use Rattle.table_store.specs.Sound.{IsSound}
use Rattle.table_store.proofs.HoldingOne.{one_file}
use Rattle.table_store.proofs.HoldingSchema.{one_schema}
use Rattle.log_laws.proofs.Callers.{count_held, held_first}
use Rattle.session_laws.specs.ParquetFile.{KeepsLimits}
use Rattle.row_core.specs.Rows.{Row}
use Rattle.source_core.specs.SourceSessions.{HasNewFiles, IsNewFile, SourceAsks, SourceJob}
use Rattle.session_laws.proofs.Callers.{kept_files, sound_kept, batch_file, no_versions}
use Rattle.session_laws.specs.Rows.{IsReadable, ListsFirst}
use Rattle.session_laws.specs.Jobs.{Asks, Job, creates, reads}
use Rattle.stream_model.specs.Events.{Event}
use Rattle.session_core.specs.CallEffects.{left_by_call, told_by_call}
use Rattle.stream_model.proofs.Growing.{begun_more, file_more, lawful_held, submitted_more}
use Rattle.stream_model.proofs.Landing.{IsGoodStore, put_grew}

-- Where a read listed names, the store was good as it stood then, bore what was known before, has grown since, and the talk shows it.
pub record WasSeen (events : List Event) (objects : Objects) (before talk : Talk) (names : List (List ℕ)) : Type 0 where
  pub listed : Objects
  pub good : IsGoodStore events listed
  pub grown : HasObjectsOf listed objects
  pub same : names ≡ names_of listed
  pub earlier : Bears listed before
  pub shown : Shows talk listed

-- so it is where the job is a read
abbrev pub SeesWell : List Event → Objects → Job → (before talk : Talk) → Type 0
SeesWell events objects job before talk = (read : SourceJob) → job ≡ reads read → (names : List (List ℕ)) → ListsFirst talk names → WasSeen events objects before talk names

-- ---- what stays

pub store_more : (events : List Event) (event : Event) (objects : Objects) → IsGoodStore events objects → IsGoodStore (events ++ event ∷ []) objects
store_more events event objects good = record {
  sound = good.sound;
  bytes = good.bytes;
  created = λ bytes is. let one = good.created bytes is in (one.0, begun_more events event (creates one.0) one.1, one.2);
  files = λ application number bytes is. let file = good.files application number bytes is in (file.0, file.1, file_more events event file.0 _ bytes file.2);
  submitted = λ schema entries holds b has. let one = good.submitted schema entries holds b has in (one.0, submitted_more events event one.0 one.1, one.2);
}

-- by more events, and by more objects
pub seen_more : (events : List Event) (event : Event) (objects : Objects) (job : Job) (before talk : Talk) → SeesWell events objects job before talk → SeesWell (events ++ event ∷ []) objects job before talk
seen_more events event objects job before talk seen = λ read is names lists.
    let was = seen read is names lists in
    record { listed = was.listed; good = store_more events event was.listed was.good; grown = was.grown; same = was.same; earlier = was.earlier; shown = was.shown }

pub seen_lasts : (events : List Event) (objects more : Objects) (job : Job) (before talk : Talk) → HasObjectsOf objects more → SeesWell events objects job before talk → SeesWell events more job before talk
seen_lasts events objects more job before talk grown seen = λ read is names lists.
    let was = seen read is names lists in
    record { listed = was.listed; good = was.good; grown = λ name bytes stands. grown name bytes (was.grown name bytes stands); same = was.same; earlier = was.earlier; shown = was.shown }

-- a session that has asked for nothing has listed nothing
pub none_seen : (events : List Event) (objects : Objects) (job : Job) (before : Talk) → SeesWell events objects job before []
none_seen events objects job before = λ read is names lists. let none = lists.1 in absurd cc

-- ---- the files of a good store

-- Where each data file is one that was handed in, those of its batches can be read.
module _ (events : List Event) (objects : Objects) (good : IsGoodStore events objects) where
  pub good_readable : IsReadable objects
  good_readable = λ schema entries holds b bytes has stands.
      let file = good.files b.application b.number bytes stands in
      let table = file.1 in
      let made = file.2.2 in
      let begins : Begins (table.0 ∷ table.1) = (lawful_held objects file.0 (table.0 ∷ table.1) good.sound.table table.2).begins in
      let schemas : file.0 ≡ schema = one_schema objects file.0 schema table.0 table.1 entries begins table.2 holds in
      let own = batch_file objects schema 0 entries b (held_first objects schema 0 entries holds) has in
      let bytes_are : own.0 ≡ bytes = same_bytes own.0 bytes (sym own.1 ∙ stands) in
      let rows_are : made.0.rows ≡ b.rows = one_file bytes bytes schema made.0.rows b.rows refl (subst (λ (s : Schema). IsFileOf s bytes made.0.rows) schemas made.3) (subst (λ (bs : List ℕ). IsFileOf schema bs b.rows) bytes_are own.2) in
      subst (λ (rs : List Row). KeepsLimits bytes rs) rows_are made.4
    where
      same_bytes : (one other : List ℕ) → ◌≡◌ {A = Option (List ℕ)} (Some one) (Some other) → one ≡ other
      same_bytes one other is = cc

  -- and they stand
  pub good_files : (from : ℕ) → HasNewFiles from objects
  good_files from = by_entries good.sound.table.entries refl
    where
      table : IsSound objects
      table = good.sound.table

      by_entries : (entries : List Entry) → table.entries ≡ entries → HasNewFiles from objects
      by_entries [] is = λ name new.
          let count : commit_count objects ≡ 0 = count_held objects table table.schema table.entries table.holds ∙ ap length is in
          absurd (none_new new.version (commit new.actions) (ap (λ (vs : List Version). slice_get vs new.version) (sym (no_versions objects count)) ∙ new.stands))
        where
          none_new : (version : ℕ) (found : Version) → slice_get [] version ≡ Some found → ⊥
          none_new version found is = absurd cc
      by_entries (first ∷ rest) is =
          let some : table.entries ≢ [] = λ none. let wrong = sym is ∙ none in absurd cc in
          kept_files objects table.schema table.entries (sound_kept objects table some (good_readable table.schema table.entries table.holds)) from

-- ---- one call more

-- what is shown with one call more
shown_with : (listed : Objects) (talk : Talk) (call : Asked × Told) → Shows talk listed → Shows (call ∷ []) listed → Shows (talk ++ call ∷ []) listed
shown_with listed [] call shown one = one
shown_with listed (first ∷ talk) call shown one = (shown.0, shown_with listed talk call shown.1 one)

-- the answer that was told first
abbrev pub told_first : Talk → Told
told_first [] = told_lost
told_first (call ∷ talk) = call.1

-- the names that are listed first, where one call more was told
same_names : (talk gets : Talk) (names others : List (List ℕ)) (call : Asked × Told) → talk ≡ (list_names, told_names names) ∷ gets → ListsFirst (talk ++ call ∷ []) others → names ≡ others
same_names talk gets names others call is lists =
    let told : told_names names ≡ told_names others = ap told_first (ap (λ (t : Talk). t ++ call ∷ []) (sym is) ∙ lists.1) in
    cc

-- of a talk that begins with a list it is what was told of that
listed_told : (talk : Talk) (told : Told) (names : List (List ℕ)) → talk ≡ [] → ListsFirst (talk ++ (list_names, told) ∷ []) names → told ≡ told_names names
listed_told talk told names is lists = ap told_first (ap (λ (t : Talk). t ++ (list_names, told) ∷ []) (sym is) ∙ lists.1)

module _ (events : List Event) (objects : Objects) (read : SourceJob) (before talk : Talk) (seen : SeesWell events objects (reads read) before talk) where
  -- an answer that tells nothing
  lost_one : (call : Asked) (told : Told) → (told ≡ told_lost) ⊎ (told ≡ told_memory) → SourceAsks read before talk call → (names : List (List ℕ)) → ListsFirst (talk ++ (call, told) ∷ []) names → WasSeen events objects before (talk ++ (call, told) ∷ []) names
  lost_one list_names told (inl is) asks names lists = let wrong = sym is ∙ listed_told talk told names asks lists in absurd cc
  lost_one list_names told (inr is) asks names lists = let wrong = sym is ∙ listed_told talk told names asks lists in absurd cc
  lost_one (put_file name bytes) told none asks names lists = absurd asks
  lost_one (put_commit version bytes) told none asks names lists = absurd asks
  lost_one (get_object name) told none asks names lists =
      let same = same_names talk asks.listed.gets asks.names names (get_object name, told) asks.listed.talked lists in
      let was = seen read refl names (asks.listed.gets, subst (λ (ns : List (List ℕ)). talk ≡ (list_names, told_names ns) ∷ asks.listed.gets) same asks.listed.talked) in
      record { listed = was.listed; good = was.good; grown = was.grown; same = was.same; earlier = was.earlier; shown = shown_with was.listed talk (get_object name, told) was.shown (nothing was.listed none) }
    where
      nothing : (listed : Objects) → (told ≡ told_lost) ⊎ (told ≡ told_memory) → Shows ((get_object name, told) ∷ []) listed
      nothing listed (inl is) = rw is (tt, tt)
      nothing listed (inr is) = rw is (tt, tt)

  -- and one that tells what stands
  told_one : (call : Asked) → IsGoodStore events objects → Bears objects before → SourceAsks read before talk call → (names : List (List ℕ)) → ListsFirst (talk ++ (call, told_by_call objects call) ∷ []) names → WasSeen events objects before (talk ++ (call, told_by_call objects call) ∷ []) names
  told_one list_names good earlier asks names lists =
      let talked : talk ++ (list_names, told_names (names_of objects)) ∷ [] ≡ (list_names, told_names (names_of objects)) ∷ [] = ap (λ (t : Talk). t ++ (list_names, told_names (names_of objects)) ∷ []) asks in
      let told = listed_told talk (told_names (names_of objects)) names asks lists in
      let same : names_of objects ≡ names = cc in
      record { listed = objects; good = good; grown = λ name bytes stands. stands; same = sym same; earlier = earlier; shown = subst (λ (t : Talk). Shows t objects) (sym talked) (refl, tt) }
  told_one (put_file name bytes) good earlier asks names lists = absurd asks
  told_one (put_commit version bytes) good earlier asks names lists = absurd asks
  told_one (get_object name) good earlier asks names lists =
      let same = same_names talk asks.listed.gets asks.names names (get_object name, told_object (object_at objects name)) asks.listed.talked lists in
      let was = seen read refl names (asks.listed.gets, subst (λ (ns : List (List ℕ)). talk ≡ (list_names, told_names ns) ∷ asks.listed.gets) same asks.listed.talked) in
      let stood : IsSome (object_at was.listed name) = stood_then was.listed was.good (asks.sought was.listed was.earlier was.shown) in
      record { listed = was.listed; good = was.good; grown = was.grown; same = was.same; earlier = was.earlier; shown = shown_with was.listed talk (get_object name, told_object (object_at objects name)) was.shown (stands_still was.listed was.grown (object_at was.listed name) refl stood, tt) }
    where
      stood_then : (listed : Objects) → IsGoodStore events listed → IsSome (object_at listed name) ⊎ IsNewFile read.place.version listed name → IsSome (object_at listed name)
      stood_then listed was (inl some) = some
      stood_then listed was (inr new) = good_files events listed was read.place.version name new

      stands_still : (listed : Objects) → HasObjectsOf listed objects → (found : Option (List ℕ)) → object_at listed name ≡ found → IsSome found → object_at objects name ≡ object_at listed name
      stands_still listed grown None is none = absurd cc
      stands_still listed grown (Some bytes) is some = grown name bytes is ∙ sym is

-- the same of any job
pub seen_lost : (events : List Event) (objects : Objects) (job : Job) (before talk : Talk) (call : Asked) (told : Told) → (told ≡ told_lost) ⊎ (told ≡ told_memory) → Asks job before talk call → SeesWell events objects job before talk
    → SeesWell events objects job before (talk ++ (call, told) ∷ [])
seen_lost events objects job before talk call told none asks seen = λ read is.
    lost_one events objects read before talk (subst (λ (j : Job). SeesWell events objects j before talk) is seen) call told none (subst (λ (j : Job). Asks j before talk call) is asks)

pub seen_told : (events : List Event) (objects : Objects) (job : Job) (before talk : Talk) (call : Asked) → IsGoodStore events objects → Bears objects before → Asks job before talk call → SeesWell events objects job before talk
    → SeesWell events objects job before (talk ++ (call, told_by_call objects call) ∷ [])
seen_told events objects job before talk call good earlier asks seen = λ read is.
    told_one events objects read before talk (subst (λ (j : Job). SeesWell events objects j before talk) is seen) call good earlier (subst (λ (j : Job). Asks j before talk call) is asks)

-- over what the call leaves
pub seen_left : (events : List Event) (objects : Objects) → IsGoodStore events objects → (job : Job) (before talk : Talk) (call : Asked) → Bears objects before → Asks job before talk call → SeesWell events objects job before talk
    → SeesWell events (left_by_call objects call) job before (talk ++ (call, told_by_call objects call) ∷ [])
seen_left events objects good job before talk list_names earlier asks seen = seen_told events objects job before talk list_names good earlier asks seen
seen_left events objects good job before talk (get_object name) earlier asks seen = seen_told events objects job before talk (get_object name) good earlier asks seen
seen_left events objects good job before talk (put_file name bytes) earlier asks seen =
    seen_lasts events objects (with_object objects name bytes) job before (talk ++ (put_file name bytes, told_by_call objects (put_file name bytes)) ∷ []) (put_grew objects name bytes)
    (seen_told events objects job before talk (put_file name bytes) good earlier asks seen)
seen_left events objects good job before talk (put_commit version bytes) earlier asks seen =
    seen_lasts events objects (with_object objects (commit_name version) bytes) job before (talk ++ (put_commit version bytes, told_by_call objects (put_commit version bytes)) ∷ []) (put_grew objects (commit_name version) bytes)
    (seen_told events objects job before talk (put_commit version bytes) good earlier asks seen)
