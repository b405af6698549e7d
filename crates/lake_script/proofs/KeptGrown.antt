-- However the lines of a script end, they leave a sound store sound, where none puts another tool's commit.
use Rattle.std.proofs.Common.{◌≡◌, ◌⊎◌, inl, inr, ℕ, suc, ◌+◌, ◌≤◌, List, [], ◌∷◌, length, Option, None, Some, IfSome, Result, Ok, Err, Bool, true, false, refl, sym, ap, subst, ◌∙◌, arith}
use Rattle.std.specs.Prelude.{is_some}
use Rattle.std.specs.Str.{IsUtf8}
use Rattle.serde_json.specs.Events.{items_len}
use Rattle.serde_json.specs.Data.{Items}
use Rattle.delta_actions.specs.Commit.{lines_of}
use Rattle.delta_actions.specs.Action.{Action}
use Rattle.store_core.specs.Objects.{Objects, with_object}
use Rattle.store_core.specs.ObjectLaws.{with_object_absent}
use Rattle.commit_core.specs.SoundTables.{IsSound}
use Rattle.table_model.specs.Table.{creation}
use Rattle.commit_core.proofs.Callers.{lawful_log}
use Rattle.batch_core.specs.Requests.{checked, named}
use Rattle.sink_core.specs.Appending.{append_plan, with_append, with_file_alone}
use Rattle.sink_core.specs.Closes.{close_plan, with_close_commit, MayClose}
use Rattle.store_core.specs.Names.{commit_name}
use Rattle.commit_core.specs.Creating as creations
use Rattle.commit_core.specs.Creating.{creation_from, with_creation}
use Rattle.sink_core.specs.Appending.{MayAppend}
use Rattle.lake_script.specs.Growth.{MayPut}
use Rattle.table_log.specs.Restoring.{AreCheckpointsSound, HasOnlySoundCheckpoints, replayed}
use Rattle.snapshot_core.specs.Taking.{HasPut}
use Rattle.script_lines.specs.Lines.{append, checkpoint, close, Statement, create, task, foreign, Reading, skipped, bad, asks, reading_of}
use Rattle.batch_core.specs.Refusals.{SinkRefusal}
use Rattle.lake_script.specs.Runs.{Replies, RunsInPart, waits, begins, follows}
use Rattle.lake_script.specs.Told.{IsPutHere, ArePutHere}
use Rattle.commit_core.specs.Creating.{CreatesWell}
use Rattle.commit_core.proofs.Callers.{log_of_nothing, nothing_sound}
use Rattle.lake_script.proofs.KeptAppend.{step_of_nothing, nothing_is}
use Rattle.lake_script.proofs.KeptClose.{close_goes_on, close_nothing_is, close_over_nothing}
use Rattle.lake_script.proofs.KeptCreate.{kept_creation, no_data_file, first_commit, left_table}
use Rattle.lake_script.proofs.KeptHolds.{kept_sound}
use Rattle.lake_script.proofs.KeptPuts.{kept_checkpoint, same_files}
use Rattle.lake_script.specs.Keeps.{KeepsBeside}
use Rattle.lake_script.specs.Scripts.{StaysSound}
use Rattle.lake_script.specs.Tables.{TableState, entries_of_state}
use Rattle.lake_script.proofs.KeptPlan.{Stays, bare, keeps, GoesOn, append_goes_on, ends, starts}

-- ---- a line

-- what stays, stays also where more entries may be
more_room : (least most : ℕ) (objects : Objects) → least ≤ most → Stays least objects → Stays most objects
more_room least most objects up (bare none) = bare none
more_room least most objects up (keeps schema entries kept files few) = keeps schema entries kept files (omega (arith, up, few))

still : (most : ℕ) (objects : Objects) → Stays most objects → Stays (suc most) objects
still most objects stays = more_room most (suc most) objects (omega arith) stays

-- a creation where nothing stands
created_over_nothing : (most at : ℕ) (text : List ℕ) (commit : Result (List ℕ) creations.CreateRefusal) → CreatesWell at text commit → Stays (suc most) (with_creation [] commit)
created_over_nothing most at text (Err fault) well = bare refl
created_over_nothing most at text (Ok bytes) well =
    let name = commit_name 0 in
    let one : with_object [] name bytes ≡ (name, bytes) ∷ [] = with_object_absent [] name bytes refl in
    rw one (keeps well.read (creation ∷ []) (kept_creation name at text well.read bytes refl well.described well)
    (λ application number found utf8 small stands. absurd (no_data_file name bytes refl application number (ap is_some stands))) (omega arith))

-- a creation
created_stays : (most : ℕ) (objects : Objects) (at : ℕ) (text : List ℕ) (commit : Result (List ℕ) creations.CreateRefusal) → CreatesWell at text commit → Stays most objects → Stays (suc most) (with_creation objects commit)
created_stays most objects at text commit well (bare none) = rw none (created_over_nothing most at text commit well)
created_stays most objects at text commit well (keeps schema entries kept files up) =
    rw (left_table objects commit (first_commit objects schema entries kept)) (keeps schema entries kept files (omega (arith, up)))

-- an append where nothing stands
append_over_nothing : (most : ℕ) (application : List ℕ) (number at : ℕ) (fine : Result (Unit {0}) SinkRefusal) → GoesOn (suc most) [] (step_of_nothing application number at fine)
append_over_nothing most application number at (Ok passed) = (bare refl, bare refl)
append_over_nothing most application number at (Err why) = (bare refl, bare refl)

-- an append
append_stays : (most : ℕ) (objects : Objects) (application : List ℕ) (number at : ℕ) (items : Items) (new : Objects) → IsUtf8 application
    → MayAppend application number at (append_plan false objects application number at items) objects new → Stays most objects → Stays (suc most) new
append_stays most objects application number at items new utf8 (inl same) stays = rw same (still most objects stays)
append_stays most objects application number at items new utf8 (inr (well, put)) stays = by_put put (goes stays)
  where
    goes : Stays most objects → GoesOn (suc most) objects (append_plan false objects application number at items)
    goes (bare none) = rw (none, nothing_is application number at items) (append_over_nothing most application number at (checked application number (items_len items)))
    goes (keeps schema entries kept files up) = append_goes_on objects schema entries kept files most up application number at items utf8 well

    by_put : (new ≡ with_file_alone objects (append_plan false objects application number at items)) ⊎ (new ≡ with_append objects (append_plan false objects application number at items))
        → GoesOn (suc most) objects (append_plan false objects application number at items) → Stays (suc most) new
    by_put (inl alone) goes = subst (Stays (suc most)) (sym alone) goes.0
    by_put (inr whole) goes = subst (Stays (suc most)) (sym whole) goes.1

-- a close
close_stays : (most : ℕ) (objects : Objects) (application : List ℕ) (at : ℕ) (new : Objects) → IsUtf8 application → MayClose application at (close_plan false objects application) objects new → Stays most objects → Stays (suc most) new
close_stays most objects application at new utf8 (inl same) stays = rw same (still most objects stays)
close_stays most objects application at new utf8 (inr (well, put)) stays = subst (Stays (suc most)) (sym put) (goes stays)
  where
    goes : Stays most objects → Stays (suc most) (with_close_commit objects application at (close_plan false objects application))
    goes (bare none) = rw (none, close_nothing_is application) (close_over_nothing most application at (named application))
    goes (keeps schema entries kept files up) = close_goes_on objects schema entries kept files most up application at utf8 well

-- what can't be read isn't read
not_read : (commits : List (List Action)) (version : ℕ) (read : Result (List (List Action)) ℕ) → read ≡ Err version → read ≡ Ok commits → ⊥
not_read commits version (Ok found) wrong is = absurd cc
not_read commits version (Err first) wrong is = absurd cc

-- a store of nothing has no log that is read
no_log : (commits : List (List Action)) → replayed false [] ≡ Ok commits → ⊥
no_log commits is = not_read commits 0 (replayed false []) log_of_nothing is

-- a checkpoint
checkpoint_stays : (most : ℕ) (objects new : Objects) (version : ℕ) → HasPut false version objects new → Stays most objects → Stays (suc most) new
checkpoint_stays most objects new version put (bare none) = absurd (no_log put.puts.commits (subst (λ (o : Objects). replayed false o ≡ Ok put.puts.commits) none put.puts.read))
checkpoint_stays most objects new version put (keeps schema entries kept files few) =
    let named = put.puts.found in
    rw put.put (keeps schema entries (kept_checkpoint objects version put.name put.bytes named schema entries kept)
    (λ application number found utf8 small stands. files application number found utf8 small (sym (same_files objects version put.name put.bytes named application number) ∙ stands)) (omega (arith, few)))

-- what a line asks for
put_stays : (most : ℕ) (old : Objects) (statement : Statement) (new : Objects) → IsPutHere (asks statement) → MayPut old statement new → Stays most old → Stays (suc most) new
put_stays most old (create id at schema) new here (inl same) stays = rw same (still most old stays)
put_stays most old (create id at schema) new here (inr (printed, put)) stays = rw put.1 (created_stays most old at schema (creation_from id at schema printed) put.0 stays)
put_stays most old (task (append application number at items)) new here put stays = append_stays most old application number at items new put.0 put.1 stays
put_stays most old (task (close application at)) new here put stays = close_stays most old application at new put.0 put.1 stays
put_stays most old (task checkpoint) new here (inl same) stays = rw same (still most old stays)
put_stays most old (task checkpoint) new here (inr (version, put)) stays = checkpoint_stays most old new version put stays
put_stays most old (foreign version action) new here put stays = absurd here
put_stays most old _ new here put stays = rw put (still most old stays)

-- any line
line_stays : (most number : ℕ) (old : Objects) (r : Reading) (reply : List ℕ) (new : Objects) → IsPutHere r → Replies number old r reply new → Stays most old → Stays (suc most) new
line_stays most number old skipped reply new here is stays = rw is.1 (still most old stays)
line_stays most number old bad reply new here is stays = rw is.1 (still most old stays)
line_stays most number old (asks statement) reply new here is stays = put_stays most old statement new here is.1 stays

-- ---- lines

-- behind lines there are as many entries more as lines, at most
lines_stay : (most number : ℕ) (old : Objects) (lines : List (List ℕ)) (written : List ℕ) (new : Objects) → ArePutHere lines → Stays most old → RunsInPart number old lines written new
    → Stays (most + length lines) new
lines_stay most number old lines written new here stays waits = more_room most (most + length lines) old (omega arith) stays
lines_stay most number old (line ∷ lines) written new here stays (begins is) =
    more_room (suc most) (most + length (line ∷ lines)) new (omega arith) (line_stays most number old (reading_of line) written new here.0 is stays)
lines_stay most number old (line ∷ lines) written new here stays (follows reply rest after goes_on is others) =
    let first = line_stays most number old (reading_of line) reply after here.0 is stays in
    more_room (suc most + length lines) (most + length (line ∷ lines)) new (omega arith) (lines_stay (suc most) (number + 1) after lines rest new here.1 first others)

-- what stays is sound
stays_sound : (most : ℕ) (objects : Objects) → Stays most objects → IsSound objects
stays_sound most objects (bare none) = subst IsSound (sym none) nothing_sound
stays_sound most objects (keeps schema entries kept files up) = kept_sound objects schema entries kept

-- Over a store that keeps a table and whose checkpoints are sound, lines that put no other tool's commit leave such a store,
-- however many of them are answered.
pub part_is_sound : (state : TableState) (old : Objects) (lines : List (List ℕ)) (written : List ℕ) (new : Objects) → KeepsBeside old state → HasOnlySoundCheckpoints old
    → ArePutHere lines → RunsInPart 1 old lines written new → ((every : Bool) → AreCheckpointsSound every old → AreCheckpointsSound every new) → StaysSound state (length lines) new
part_is_sound state old lines written new kept sound here runs keeps_sound =
    let most = length (entries_of_state state) + length lines in
    let stays = lines_stay (length (entries_of_state state)) 1 old lines written new here (starts old state kept) runs in
    let table = stays_sound most new stays in
    record {
      sound = record { table = table; checkpoints = keeps_sound true sound };
      lawful = lawful_log new (record { schema = table.schema; entries = table.entries; holds = table.holds; lawful = table.lawful });
      keeps = ends most new stays;
    }

-- Where a text isn't read, such a store stays as it is.
pub unread_is_sound : (known : Option (List ℕ)) (state : TableState) (objects : Objects) → KeepsBeside objects state → HasOnlySoundCheckpoints objects
    → IfSome known (λ text. ArePutHere (lines_of text) → StaysSound state (length (lines_of text)) objects)
unread_is_sound None state objects kept sound = tt
unread_is_sound (Some text) state objects kept sound = λ here.
    let still = part_is_sound state objects [] [] objects kept sound tt waits (λ every same. same) in
    record { sound = still.sound; lawful = still.lawful; keeps = (still.keeps.0, still.keeps.1, omega (arith, still.keeps.2)) }
