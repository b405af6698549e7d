-- What a read of rows may ask for, and what it may tell.
use Rattle.std.proofs.Common.{◌≡◌, ◌≢◌, ◌∙◌, ℕ, zero, suc, List, [], ◌∷◌, ◌++◌, length, take, true, Result, Ok, Err, refl, sym, ap, subst}
use Rattle.std.proofs.Math.Seq.{take-append_seam}
use Rattle.outcomes.specs.Results.{◌>>=◌}
use Rattle.store_core.specs.Objects.{Objects, names_of}
use Rattle.session_core.specs.Sessions.{AllAsked}
use Rattle.session_core.specs.Shown.{AllGets}
use Rattle.session_core.specs.Talks.{Asked, Talk, Told, get_object, list_names, put_commit, put_file, told_names}
use Rattle.schema_tree.specs.Tree.{Tree}
use Rattle.table_log.specs.Counts.{commit_count, count_in}
use Rattle.table_log.specs.Restoring.{RestoresWell}
use Rattle.table_log.specs.Versions.{Version, versions_from, versions_of}
use Rattle.table_model.specs.Lawful.{Begins}
use Rattle.table_model.specs.Table.{Entry}
use Rattle.table_store.specs.Holds.{Holds}
use Rattle.table_store.specs.Schema.{Schema}
use Rattle.table_store.specs.Sound.{IsSound}
use Rattle.table_store.proofs.HoldingGrown.{front, same_schema}
use Rattle.commit_core.specs.SoundStores.{IsSoundStore}
use Rattle.commit_core.proofs.Callers.{count_held}
use Rattle.log_reading.specs.FromCheckpoints.{Start, first_read, from_version, looked_at, start_if}
use Rattle.source_core.specs.SourceSessions.{SourceAsks, SourceEnds, SourceJob, is_lost_read, loses, read_told, read_view}
use Rattle.source_core.specs.TailFaults.{ReadGives}
use Rattle.source_core.specs.Tailing.{ReadRefusal, ReadRows, bad_log, handed_by, schema_for, versions_at}
use Rattle.log_rows.specs.declared.read_state.ReadRows as code
use Rattle.source_core.specs.declared.source_session.ReadEnd.{ReadEnd}
use Rattle.log_rows.specs.declared.tail_fault.TailFault.{TailFault}
use Rattle.log_rows.specs.declared.tail_fault.TailFault.TheVariants as faults
use Rattle.read_laws.specs.Kept.{KeepsTable}
use Rattle.read_laws.proofs.Callers.{read_may, sound_kept}
use Rattle.session_laws.specs.May.{MayAsk}
use Rattle.session_laws.specs.Rows.{MayTellOfRead, TellsOfListed, TellsOfNone, WasListed, next_version}
use Rattle.table_jobs.specs.Jobs.{reads}
use Rattle.session_laws.specs.Moves.{HasAsked, ends_lost}
use Rattle.session_laws.proofs.NextVersions.{gets_next}

-- ---- what it asks for

pub read_asks : (objects : Objects) (schema : Schema) (job : SourceJob) (before talk : Talk) (asked : Asked) → SourceAsks job before talk asked → MayAsk objects schema (reads job) talk asked
read_asks objects schema job before talk list_names asks = tt
read_asks objects schema job before talk (get_object name) asks = tt
read_asks objects schema job before talk (put_file name bytes) asks = absurd asks
read_asks objects schema job before talk (put_commit version bytes) asks = absurd asks

-- behind its list it only gets
gets_behind : (job : SourceJob) (before : Talk) (first : Asked × Told) (front gets : Talk) → AllAsked (SourceAsks job before) (first ∷ front) gets → AllGets gets
gets_behind job before first front [] asked = tt
gets_behind job before first front ((get_object name, told) ∷ gets) asked = (tt, gets_behind job before first (front ++ (get_object name, told) ∷ []) gets asked.1)
gets_behind job before first front ((list_names, told) ∷ gets) asked = let wrong = asked.0 in absurd cc
gets_behind job before first front ((put_file name bytes, told) ∷ gets) asked = absurd asked.0
gets_behind job before first front ((put_commit version bytes, told) ∷ gets) asked = absurd asked.0

-- so that the version which comes next is the one behind those listed
pub listed_count : (job : SourceJob) (before talk gets : Talk) (names : List (List ℕ)) → HasAsked (reads job) before talk → talk ≡ (list_names, told_names names) ∷ gets → next_version talk ≡ count_in names
listed_count job before talk gets names asked is =
    let all : AllAsked (SourceAsks job before) [] ((list_names, told_names names) ∷ gets) = subst (AllAsked (SourceAsks job before) []) is asked in
    ap next_version is ∙ gets_next (count_in names) gets (gets_behind job before (list_names, told_names names) [] gets all.1)

-- ---- a log without versions

from_nothing : (first : ℕ) → from_version first [] ≡ []
from_nothing zero = refl
from_nothing (suc first) = refl

pub no_versions : (objects : Objects) → commit_count objects ≡ 0 → versions_of objects ≡ []
unfolding versions_from
no_versions objects none = ap (λ (count : ℕ). versions_from count 0 objects) none

-- a read of it is told that version 0 is missing
pub none_told : (job : SourceJob) (objects : Objects) → commit_count objects ≡ 0 → read_told job objects ≡ Err (bad_log 0)
unfolding schema_for
none_told job objects none = ap by_versions none_at
  where
    from : Start
    from = start_if job.use_checkpoints job.place.version objects

    none_at : versions_at job.use_checkpoints objects job.place ≡ []
    none_at = ap (λ (versions : List Version). looked_at job.place.version from versions) (no_versions objects none) ∙ from_nothing (first_read job.place.version from)

    by_versions : List Version → Result (Tree × ReadRows) ReadRefusal
    by_versions versions = schema_for from versions job.place >>= λ told. handed_by objects told (versions_at job.use_checkpoints objects job.place) job.max job.place >>= λ handed. Ok (told.schema, handed)

-- what is said of it
none_said : (answer : Result code.ReadRows TailFault) → ReadGives read_view answer (Err (bad_log 0)) → TellsOfNone answer
none_said (Ok handed) gives = absurd cc
none_said (Err faults.BadOffsetText) gives = absurd cc
none_said (Err (faults.Unsupported fault)) gives = absurd cc
none_said (Err (faults.BeyondLog next)) gives = absurd cc
none_said (Err (faults.VersionGone first)) gives = absurd cc
none_said (Err (faults.RowsRemoved version)) gives = absurd cc
none_said (Err (faults.SchemaChanged version)) gives = absurd cc
none_said (Err (faults.BadPlace version)) gives = absurd cc
none_said (Err (faults.MissingFile path)) gives = absurd cc
none_said (Err (faults.BadFile version file fault)) gives = absurd cc
none_said (Err (faults.BadLog version)) gives = let same : version ≡ 0 = cc in same
none_said (Err faults.Lost) gives = tt
none_said (Err faults.Memory) gives = tt

-- ---- what it tells

module _ (objects : Objects) (schema : Schema) (entries : List Entry) (sound : IsSoundStore objects) (holds : Holds objects schema entries) (job : SourceJob) (before talk : Talk) (asked : HasAsked (reads job) before talk) (end : ReadEnd)
    (ends : SourceEnds job before talk end) where
  -- a lost call is told behind one
  lost_told : is_lost_read end ≡ ends_lost talk → end.answer ≡ Err faults.Lost → ends_lost talk ≡ true
  lost_told same is = sym same ∙ ap loses is

  module _ (listed : Objects) (was : WasListed objects before talk listed) where
    table : IsSound listed
    table = was.sound.table

    -- the table that stood then
    as_listed : next_version talk ≡ length table.entries
    unfolding commit_count
    as_listed = listed_count job before talk was.lists.0 (names_of listed) asked was.lists.1 ∙ count_held listed table table.schema table.entries table.holds

    front_is : take (next_version talk) entries ≡ table.entries
    front_is =
        let later = front listed objects table.schema was.grown schema table.entries entries table.lawful.begins table.holds holds in
        ap (λ (n : ℕ). take n entries) as_listed ∙ ap (λ (es : List Entry). take (length table.entries) es) later.1 ∙ take-append_seam table.entries later.0

    restores : RestoresWell job.use_checkpoints listed
    restores = λ uses name version bytes named stands asked_so. was.sound.checkpoints name version bytes named stands tt

    -- where it had an entry, it is of the same schema
    schema_is : (first : Entry) (rest : List Entry) → table.entries ≡ first ∷ rest → table.schema ≡ schema
    schema_is first rest is =
        same_schema listed objects table.schema was.grown schema first rest entries (subst Begins is table.lawful.begins) (subst (Holds listed table.schema) is table.holds) holds

    of_table : (own : List Entry) → table.entries ≡ own → TellsOfListed schema own job end.answer
    of_table [] is =
        let none : commit_count listed ≡ 0 = count_held listed table table.schema table.entries table.holds ∙ ap length is in
        none_said end.answer (subst (ReadGives read_view end.answer) (none_told job listed none) (ends.told listed was.earlier was.shown))
    of_table (first ∷ rest) is =
        let some : table.entries ≢ [] = λ none. let wrong = sym is ∙ none in absurd cc in
        let kept : KeepsTable listed table.schema (first ∷ rest) = subst (KeepsTable listed table.schema) is (sound_kept listed table some (was.readable table.schema table.entries table.holds)) in
        let same : KeepsTable listed schema (first ∷ rest) = subst (λ (t : Schema). KeepsTable listed t (first ∷ rest)) (schema_is first rest is) kept in
        read_may schema job.place (first ∷ rest) (record { max = job.max; use_checkpoints = job.use_checkpoints; known = job.known; before = before; talk = talk; end = end; listed = listed; more = [] })
        (record { known = was.earlier; shown = was.shown; told = ends; restores = restores; keeps = same })

    told_of_listed : TellsOfListed schema (take (next_version talk) entries) job end.answer
    told_of_listed = subst (λ (es : List Entry). TellsOfListed schema es job end.answer) (sym front_is) (of_table table.entries refl)

  pub read_tells : is_lost_read end ≡ ends_lost talk → MayTellOfRead objects schema entries job before talk end.answer
  read_tells same = record { lost = lost_told same; told = told_of_listed }
