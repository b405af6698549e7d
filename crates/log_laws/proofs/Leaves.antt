-- What the log of a sound store leaves, read whole or from a checkpoint on.
use Rattle.std.proofs.Common.{◌≡◌, ◌∙◌, ℕ, suc, Bool, true, false, List, [], ◌∷◌, map, length, Contains, Some, Result, Ok, Err, refl, sym, ap, subst, add-one, arith}
use Rattle.std.specs.Str.{IsUtf8}
use Rattle.std.specs.Prelude.{option_map, ◌↔◌}
use Rattle.store_core.specs.Objects.{Objects}
use Rattle.delta_actions.specs.Action as actions
use Rattle.delta_replay.specs.Closes as logs
use Rattle.delta_actions.specs.Action.{AddAction, add}
use Rattle.delta_replay.specs.Keys.{Key, at, file_of, last_number}
use Rattle.delta_replay.specs.Support.{readable, writable}
use Rattle.table_log.specs.Counts.{commit_count}
use Rattle.table_log.specs.Restoring.{AreAlike, RestoresWell, replayed}
use Rattle.table_log.specs.Versions.{commit, commits_of, log_of, versions_from, versions_of}
use Rattle.table_log.proofs.Callers.{of_commit, same_values, replayed_alike, well_sound}
use Rattle.table_model.specs.Lawful.{Begins}
use Rattle.table_model.specs.Live.{live}
use Rattle.table_model.specs.Table.{Entry, creation, group, close, is_stream_closed, last_told}
use Rattle.table_store.specs.Holds.{Holds, HoldsFrom}
use Rattle.table_store.specs.Logs.{IsLog, LogFrom}
use Rattle.table_store.specs.Schema.{Schema}
use Rattle.table_store.specs.Sound.{IsSound}
use Rattle.table_store.proofs.LawfulLogLemmas.{AreMadeFor, made_for}
use Rattle.log_laws.specs.Sound.{IsSoundStore}
use Rattle.log_laws.proofs.Growth.{lawful_table, sound_table}
use Rattle.log_laws.proofs.LogCloses.{log_closed, log_open}
use Rattle.log_laws.proofs.LogEntries.{are_made, held_first, made_length, made_of, some_commits, sound_count}
use Rattle.log_laws.proofs.LogFiles.{log_files, names_of_files}
use Rattle.log_laws.proofs.LogNumbers.{log_last}
use Rattle.log_laws.proofs.LogSchema.{log_readable, one_writable}

-- ---- the log that stands is the one that is read

-- the commits of a log are what the versions have
log_stands : (objects : Objects) (version : ℕ) (commits : List (List actions.Action)) → LogFrom objects version commits → versions_from (length commits) version objects ≡ map commit commits
unfolding versions_from
log_stands objects version [] log = refl
log_stands objects version (made ∷ commits) log =
    let more : versions_from (length commits) (suc version) objects ≡ map commit commits = log_stands objects (suc version) commits log.1 in
    rw (log.0.1, of_commit log.0.0 made log.0.2, add-one, more) refl

-- the commits that stand for all entries are a log
stand_as_log : (objects : Objects) (schema : Schema) (version : ℕ) (entries : List Entry) (holds : HoldsFrom objects schema version entries)
    → LogFrom objects version (made_of objects schema version entries (held_first objects schema version entries holds))
stand_as_log objects schema version [] holds = holds
stand_as_log objects schema version (entry ∷ entries) holds = ((holds.0.0, holds.0.1, holds.0.2.commit), stand_as_log objects schema (suc version) entries holds.3)

module _ (objects : Objects) (sound : IsSound objects) where
  -- A sound store has as many versions as the table that it holds has entries.
  pub count_held : (schema : Schema) (entries : List Entry) → Holds objects schema entries → commit_count objects ≡ length entries
  count_held schema entries holds = sound_count objects sound ∙ ap (λ (es : List Entry). length es) (sound_table objects sound schema entries holds)

  -- its versions are those of its log
  versions_are : (commits : List (List actions.Action)) → IsLog objects commits → versions_of objects ≡ map commit commits
  versions_are commits log =
      let made : AreMadeFor objects sound.schema sound.entries commits = made_for objects sound.schema 0 sound.entries commits sound.holds log in
      let count : commit_count objects ≡ length commits = sound_count objects sound ∙ sym (made_length objects sound.schema sound.entries commits made) in
      ap (λ (n : ℕ). versions_from n 0 objects) count ∙ log_stands objects 0 commits log

  -- A log that stands is read.
  pub log_whole : (first : List actions.Action) (commits : List (List actions.Action)) → IsLog objects (first ∷ commits) → log_of objects ≡ Ok (first ∷ commits)
  unfolding log_of
  log_whole first commits log = ap commits_of (versions_are (first ∷ commits) log) ∙ some_commits (first ∷ commits) (omega arith)

  pub log_empty : IsLog objects [] → log_of objects ≡ Err 0
  unfolding log_of
  log_empty log = ap commits_of (versions_are [] log)

  -- A log that is read stands.
  pub log_stood : (commits : List (List actions.Action)) → log_of objects ≡ Ok commits → IsLog objects commits
  log_stood commits read = by_made (made_of objects sound.schema 0 sound.entries (held_first objects sound.schema 0 sound.entries sound.holds)) (stand_as_log objects sound.schema 0 sound.entries sound.holds)
    where
      by_made : (made : List (List actions.Action)) → IsLog objects made → IsLog objects commits
      by_made [] log = let wrong = sym (log_empty log) ∙ read in absurd cc
      by_made (first ∷ made) log =
          let both = sym (log_whole first made log) ∙ read in
          let same : first ∷ made ≡ commits = cc in
          subst (IsLog objects) same log

  -- One that isn't read has no version.
  pub log_none : (version : ℕ) → log_of objects ≡ Err version → (version ≡ 0) × (commit_count objects ≡ 0)
  log_none version read = by_made (made_of objects sound.schema 0 sound.entries (held_first objects sound.schema 0 sound.entries sound.holds)) (stand_as_log objects sound.schema 0 sound.entries sound.holds) (made_length objects sound.schema sound.entries _ (are_made objects sound.schema 0 sound.entries (held_first objects sound.schema 0 sound.entries sound.holds)))
    where
      by_made : (made : List (List actions.Action)) → IsLog objects made → length made ≡ length sound.entries → (version ≡ 0) × (commit_count objects ≡ 0)
      by_made [] log long =
          let both : ◌≡◌ {A = Result (List (List actions.Action)) ℕ} (Err 0) (Err version) = sym (log_empty log) ∙ read in
          let same : 0 ≡ version = cc in
          (sym same, sound_count objects sound ∙ sym long)
      by_made (first ∷ made) log long =
          let wrong : ◌≡◌ {A = Result (List (List actions.Action)) ℕ} (Ok (first ∷ made)) (Err version) = sym (log_whole first made log) ∙ read in
          absurd cc

-- ---- what a log leaves

module _ (objects : Objects) (schema : Schema) (entries : List Entry) (holds : Holds objects schema entries) where
  -- the commits of the log are made for the entries
  made_by_log : (commits : List (List actions.Action)) → IsLog objects commits → AreMadeFor objects schema entries commits
  made_by_log commits log = made_for objects schema 0 entries commits holds log

  -- The number that an application has come to is that told last of it.
  pub number_left : (commits : List (List actions.Action)) (application : List ℕ) → IsLog objects commits → last_number application commits ≡ option_map (λ t. t.number) (last_told application entries)
  number_left commits application log = log_last objects schema application entries commits (made_by_log commits log)

  -- Its stream is closed where the table has it closed.
  pub closed_left : (commits : List (List actions.Action)) (application : List ℕ) → IsUtf8 application → IsLog objects commits → logs.is_closed application commits ≡ is_stream_closed application entries
  closed_left commits application text log = log_closed objects schema application entries commits (made_by_log commits log) text

  pub open_left : (commits : List (List actions.Action)) (application : List ℕ) → IsLog objects commits → logs.is_closed application commits ≡ false → is_stream_closed application entries ≡ false
  open_left commits application log opened = log_open objects schema application entries commits (made_by_log commits log) opened

  -- A file is left just where its name is that of one that the table's entries leave.
  pub files_left : (commits : List (List actions.Action)) (name : List ℕ) → IsLog objects commits → ((a : AddAction) × (at (file_of name) commits ≡ Some (add a))) ↔ Contains (names_of_files (live entries)) name
  files_left commits name log = log_files objects schema name entries commits (made_by_log commits log)

-- by entries that begin with their creation
pub read_by : (objects : Objects) (schema : Schema) (entries : List Entry) (first : List actions.Action) (commits : List (List actions.Action)) → Begins entries → AreMadeFor objects schema entries (first ∷ commits)
    → readable (first ∷ commits) ≡ Ok schema
read_by objects schema [] first commits begins made = absurd made
read_by objects schema (creation ∷ rest) first commits begins made = log_readable objects schema rest (first ∷ commits) made
read_by objects schema (group bs ∷ rest) first commits begins made = absurd begins
read_by objects schema (close application ∷ rest) first commits begins made = absurd begins

pub written_by : (objects : Objects) (schema found : Schema) (entries : List Entry) (commits : List (List actions.Action)) → Begins entries → AreMadeFor objects schema entries commits → writable commits ≡ Ok found
    → found ≡ schema
written_by objects schema found [] [] begins made is = absurd cc
written_by objects schema found [] (first ∷ commits) begins made is = absurd made
written_by objects schema found (creation ∷ rest) commits begins made is = one_writable objects schema rest commits made found is
written_by objects schema found (group bs ∷ rest) commits begins made is = absurd begins
written_by objects schema found (close application ∷ rest) commits begins made is = absurd begins

-- The schema by which a sound table is read is its own.
pub read_left : (objects : Objects) (schema : Schema) (entries : List Entry) (first : List actions.Action) (commits : List (List actions.Action)) → IsSound objects → Holds objects schema entries → IsLog objects (first ∷ commits)
    → readable (first ∷ commits) ≡ Ok schema
read_left objects schema entries first commits sound holds log =
    read_by objects schema entries first commits (lawful_table objects sound schema entries holds).begins (made_by_log objects schema entries holds (first ∷ commits) log)

-- So is the one by which it is written.
pub written_left : (objects : Objects) (schema found : Schema) (entries : List Entry) (commits : List (List actions.Action)) → IsSound objects → Holds objects schema entries → IsLog objects commits → writable commits ≡ Ok found
    → found ≡ schema
written_left objects schema found entries commits sound holds log is =
    written_by objects schema found entries commits (lawful_table objects sound schema entries holds).begins (made_by_log objects schema entries holds commits log) is

-- ---- from a checkpoint on

-- a log that is read like another one
abbrev HasLog : Objects → List (List actions.Action) → Type 0
HasLog objects commits = (log : List (List actions.Action)) × (log_of objects ≡ Ok log) × ((key : Key) → at key commits ≡ at key log)

-- a sound store's checkpoints are sound
restores : (use_checkpoints : Bool) (objects : Objects) → IsSoundStore objects → RestoresWell use_checkpoints objects
restores use_checkpoints objects sound = λ is. well_sound true objects sound.checkpoints

alike_log : (objects : Objects) (commits : List (List actions.Action)) (read : Result (List (List actions.Action)) ℕ) → log_of objects ≡ read → AreAlike (Ok commits) read → HasLog objects commits
alike_log objects commits (Ok log) is alike = (log, is, alike)
alike_log objects commits (Err version) is alike = absurd alike

alike_refused : (objects : Objects) (version : ℕ) (read : Result (List (List actions.Action)) ℕ) → log_of objects ≡ read → AreAlike (Err version) read → log_of objects ≡ Err version
alike_refused objects version (Ok log) is alike = absurd alike
alike_refused objects version (Err other) is alike = is ∙ ap (λ (v : ℕ). Err v) (sym alike)

module _ (use_checkpoints : Bool) (objects : Objects) (sound : IsSoundStore objects) where
  -- what is seen is read like the whole log
  alike : {read : Result (List (List actions.Action)) ℕ} → replayed use_checkpoints objects ≡ read → AreAlike read (log_of objects)
  alike is = subst (λ (read : Result (List (List actions.Action)) ℕ). AreAlike read (log_of objects)) is (replayed_alike use_checkpoints objects (restores use_checkpoints objects sound))

  -- It leaves what all commits leave.
  pub seen_leaves : (commits : List (List actions.Action)) → replayed use_checkpoints objects ≡ Ok commits → HasLog objects commits
  seen_leaves commits is = alike_log objects commits (log_of objects) refl (alike is)

  -- It is refused where they are.
  pub seen_refused : (version : ℕ) → replayed use_checkpoints objects ≡ Err version → log_of objects ≡ Err version
  seen_refused version is = alike_refused objects version (log_of objects) refl (alike is)

  module _ (schema : Schema) (entries : List Entry) (holds : Holds objects schema entries) (commits : List (List actions.Action)) (is : replayed use_checkpoints objects ≡ Ok commits) where
    -- the log that stands
    whole : (log : List (List actions.Action)) × IsLog objects log × ((key : Key) → at key commits ≡ at key log)
    whole = let found = seen_leaves commits is in (found.0, log_stood objects sound.table found.0 found.1, found.2)

    pub seen_number : (application : List ℕ) → last_number application commits ≡ option_map (λ t. t.number) (last_told application entries)
    seen_number application = (same_values commits whole.0 whole.2).numbers application ∙ number_left objects schema entries holds whole.0 application whole.1

    pub seen_closed : (application : List ℕ) → IsUtf8 application → logs.is_closed application commits ≡ is_stream_closed application entries
    seen_closed application text = (same_values commits whole.0 whole.2).closed application ∙ closed_left objects schema entries holds whole.0 application text whole.1

    pub seen_read : readable commits ≡ Ok schema
    unfolding whole seen_leaves
    seen_read = (same_values commits whole.0 whole.2).read ∙ by_log whole.0 (seen_leaves commits is).1 whole.1
      where
        by_log : (log : List (List actions.Action)) → log_of objects ≡ Ok log → IsLog objects log → readable log ≡ Ok schema
        by_log [] read log = let wrong = sym (log_empty objects sound.table log) ∙ read in absurd cc
        by_log (first ∷ later) read log = read_left objects schema entries first later sound.table holds log

    pub seen_written : (found : Schema) → writable commits ≡ Ok found → found ≡ schema
    seen_written found written = written_left objects schema found entries whole.0 sound.table holds whole.1 (sym (same_values commits whole.0 whole.2).written ∙ written)
