-- What a close puts over a sound store leaves it sound: its commit is admissible.
use Rattle.std.proofs.Common.{◌≡◌, ◌∙◌, ℕ, ◌≤◌, Bool, true, false, List, [], ◌∷◌, ◌++◌, Option, None, Some, Result, Ok, Err, inl, inr, refl, sym, ap, subst, if◌then◌else◌}
use Rattle.std.specs.Str.{IsUtf8}
use Rattle.std.proofs.lemmas.Bool.{ltb-false}
use Rattle.outcomes.specs.Results.{◌>>=◌, refused_as}
use Rattle.store_core.specs.Objects.{Objects, with_object}
use Rattle.schema_tree.specs.Tree.{Tree}
use Rattle.delta_actions.specs.Action.{Action}
use Rattle.delta_actions.specs.Commit.{IsCommit}
use Rattle.store_core.specs.Names.{commit_name, greatest_version}
use Rattle.delta_replay.specs.Closes as logs
use Rattle.delta_replay.specs.Support.{writable}
use Rattle.table_log.specs.Counts.{commit_count}
use Rattle.table_log.specs.Restoring.{replayed}
use Rattle.table_log.specs.Versions.{log_of}
use Rattle.table_model.specs.Appends.{with_close}
use Rattle.table_model.specs.Lawful.{IsLawful}
use Rattle.table_model.specs.Table.{Entry, close, creation, is_stream_closed}
use Rattle.table_model.proofs.Kept.{close_keeps}
use Rattle.table_store.specs.Commits.{IsCommitOf}
use Rattle.table_store.specs.Schema.{Schema}
use Rattle.table_store.specs.Sound.{IsAdmissible, IsSound}
use Rattle.table_store.proofs.Callers.{files_stand}
use Rattle.table_store.proofs.SoundLemmas.{sound_commit}
use Rattle.batch_core.specs.Closing.{close_actions}
use Rattle.batch_core.specs.Refusals.{SinkRefusal, bad_log, read_only}
use Rattle.batch_core.specs.Requests.{SinkRequest, close_behind, named}
use Rattle.sink_core.specs.Appending.{is_past}
use Rattle.sink_core.specs.Closes as closes
use Rattle.sink_core.specs.Closes.{MayClose, ClosesWell, close_of, close_plan, close_text, closing_version}
use Rattle.commit_core.proofs.Callers.{IsLogOfEntries, held_first, log_open, sound_count, sound_log}
use Rattle.job_laws.proofs.Requests.{both_done, given, told_done}

-- A close that is put: the commits of the log, by which the table is written and the stream open, and the version behind them.
record PutsClose (objects : Objects) (application : List ℕ) (version : ℕ) : Type 0 where
  commits : List (List Action)
  log : log_of objects ≡ Ok commits
  open_stream : logs.is_closed application commits ≡ false
  is_next : version ≡ commit_count objects

-- a request that puts a close is of an open stream
puts_open : (closed : Bool) (count version : ℕ) → (if closed then None else Some count) ≡ Some version → (closed ≡ false) × (version ≡ count)
puts_open true count version is = absurd cc
puts_open false count version is = let same : count ≡ version = cc in (refl, sym same)

puts_close : (objects : Objects) (application : List ℕ) (version : ℕ) → close_plan false objects application ≡ Ok (Some version) → PutsClose objects application version
unfolding close_of close_behind
puts_close objects application version is =
    let a = both_done (close_of false objects application) (λ (request : SinkRequest). Ok (closing_version request)) (Some version) is in
    let b = both_done (named application) (λ (fine : Unit {0}). refused_as bad_log (replayed false objects) >>= λ (commits : List (List Action)). close_behind (commit_count objects) commits application) a.0 a.1 in
    let c = both_done (refused_as bad_log (replayed false objects)) (λ (commits : List (List Action)). close_behind (commit_count objects) commits application) a.0 b.2 in
    let d = both_done (refused_as read_only (writable c.0)) (λ (schema : Tree). Ok (asked schema c.0)) a.0 c.2 in
    let same : asked d.0 c.0 ≡ a.0 = given {E = SinkRefusal} (asked d.0 c.0) a.0 d.2 in
    let version_is : closing_version a.0 ≡ Some version = given {E = SinkRefusal} (closing_version a.0) (Some version) a.2 in
    let parts = puts_open (logs.is_closed application c.0) (commit_count objects) version (ap closing_version same ∙ version_is) in
    record { commits = c.0; log = told_done bad_log (replayed false objects) c.0 c.1; open_stream = parts.0; is_next = parts.1 }
  where
    asked : Tree → List (List Action) → SinkRequest
    asked schema commits = record { version = commit_count objects; schema = schema; rows = []; repeats = logs.is_closed application commits }

-- a close's commit is one of the stream's
close_made : (schema : Schema) (application : List ℕ) (at : ℕ) → IsUtf8 application → IsCommit (close_text application at) (close_actions application at) → IsCommitOf schema (close application) (close_text application at)
unfolding close_actions
close_made schema application at text well = record { actions = close_actions application at; commit = well; stand = record { actions = refl; text = text } }

module _ (objects : Objects) (sound : IsSound objects) (application : List ℕ) (at : ℕ) (text : IsUtf8 application) where
  -- the table with one close more is lawful
  closed_lawful : (entries rest : List Entry) → entries ≡ creation ∷ rest → IsLawful entries → is_stream_closed application entries ≡ false → IsLawful (entries ++ close application ∷ [])
  closed_lawful entries rest begins lawful still =
      let kept : IsLawful (with_close application entries) = subst (λ (es : List Entry). IsLawful (with_close application es)) (sym begins) (close_keeps application creation rest (subst IsLawful begins lawful)) in
      rw still at kept

  -- its commit is admissible
  admissible : (version : ℕ) → version ≤ greatest_version → PutsClose objects application version → IsCommit (close_text application at) (close_actions application at) → IsAdmissible objects version (close_text application at)
  admissible version fits puts well =
      let log : IsLogOfEntries objects sound.schema sound.entries puts.commits = sound_log objects sound puts.commits puts.log in
      let still : is_stream_closed application sound.entries ≡ false = log_open objects sound.schema application sound.entries puts.commits log.made puts.open_stream in
      record {
        schema = sound.schema;
        entries = sound.entries;
        entry = close application;
        stand = held_first objects sound.schema 0 sound.entries sound.holds;
        at = sym (sound_count objects sound) ∙ sym puts.is_next;
        fits = fits;
        commit = close_made sound.schema application at text well;
        files = files_stand objects sound.schema (close application) tt;
        tells = tt;
        lawful = closed_lawful sound.entries log.rest log.begins sound.lawful still;
      }

  -- whatever the step puts
  whole_sound : (step : Result (Option ℕ) SinkRefusal) → close_plan false objects application ≡ step → ClosesWell application at step → IsSound (closes.with_close_commit objects application at step)
  whole_sound (Ok (Some version)) is well = by_version (is_past version) refl
    where
      by_version : (past : Bool) → is_past version ≡ past → IsSound (if past then objects else with_object objects (commit_name version) (close_text application at))
      by_version true past = sound
      by_version false small = sound_commit objects version (close_text application at) sound (admissible version (ltb-false greatest_version version small) (puts_close objects application version is) well)
  whole_sound (Ok None) is well = sound
  whole_sound (Err why) is well = sound

  -- whatever a close puts
  pub close_sound : (new : Objects) → MayClose application at (close_plan false objects application) objects new → IsSound new
  close_sound new (inl same) = subst IsSound (sym same) sound
  close_sound new (inr (well, whole)) = subst IsSound (sym whole) (whole_sound (close_plan false objects application) refl well)
