-- A line that closes a stream, over a store that keeps what a script made so far.
use Rattle.std.proofs.Common.{◌≡◌, ℕ, suc, ◌≤◌, Bool, true, false, List, [], ◌∷◌, ◌++◌, length, Option, Some, None, Result, Ok, Err, inl, inr, refl, arith, length-append}
use Rattle.std.specs.Prelude.{codes, cond}
use Rattle.std.specs.Str.{IsUtf8}
use Rattle.std.proofs.lemmas.Bool.{cases_lt, lt-ltb}
use Rattle.schema_tree.specs.Tree.{Tree}
use Rattle.store_core.specs.Objects.{Objects, with_object}
use Rattle.store_core.specs.Names.{commit_name, greatest_version}
use Rattle.delta_replay.specs.Support.{has_key_inside}
use Rattle.table_model.specs.Table.{Entry, close, is_stream_closed}
use Rattle.table_model.specs.declared.table.Closing.TheVariants.{Closed, AlreadyClosed}
use Rattle.commit_core.specs.TableCommits.{IsCommitOf}
use Rattle.batch_core.specs.Requests.{SinkRequest, named}
use Rattle.batch_core.specs.Refusals.{SinkRefusal, bad_log}
use Rattle.sink_core.specs.Closes.{close_of, close_answer, close_plan, close_text, closing_version, with_close_commit, ClosesWell}
use Rattle.script_lines.specs.Lines.{close as closes, task}
use Rattle.outcomes.specs.Lines.{with_newline}
use Rattle.outcomes.specs.Results.{◌>>=◌}
use Rattle.commit_core.proofs.Callers.{log_of_nothing}
use Rattle.read_laws.specs.Kept.{KeepsTable}
use Rattle.lake_script.specs.Keeps.{AreFiles, Keeps}
use Rattle.lake_script.specs.Sound.{IsSoundStatement}
use Rattle.lake_script.specs.Tables as tables
use Rattle.lake_script.specs.Tables.{TableState, nothing, table}
use Rattle.lake_script.specs.Told.{reply_to_statement, left_by_statement, sink_reply}
use Rattle.lake_script.proofs.KeptAppend.{version_fits}
use Rattle.lake_script.proofs.KeptHolds.{close_stands}
use Rattle.read_laws.proofs.Callers.{made_of, are_made, none_behind, count_kept, log_kept}
use Rattle.lake_script.proofs.KeptPlan.{Stays, bare, keeps, files_commit}
use Rattle.lake_script.proofs.KeptPuts.{kept_close, no_other_close}
use Rattle.lake_script.proofs.KeptRequest.{asked, close_request_is, unless_invariant}

-- ---- what a close does

-- what a close does over a kept table, behind its tests
abbrev pub close_step : (schema : Tree) (entries : List Entry) (application : List ℕ) → Result (Unit {0}) SinkRefusal → (barred : Bool) → Result (Option ℕ) SinkRefusal
close_step schema entries application fine barred =
    (fine >>= λ passed. unless_invariant barred >>= λ plain. Ok (asked (length entries) schema [] (is_stream_closed application entries))) >>= λ request. Ok (closing_version request)

-- that is what it does over the objects
pub close_is : (objects : Objects) (schema : Tree) (entries : List Entry) (application : List ℕ) → IsUtf8 application → KeepsTable objects schema entries
    → close_plan false objects application ≡ close_step schema entries application (named application) (has_key_inside (codes "delta.invariants") schema)
unfolding close_of
close_is objects schema entries application utf8 kept =
    let commits = made_of objects schema 0 entries kept.kept in
    rw (log_kept objects schema entries kept, count_kept objects schema entries kept, close_request_is objects (length entries) schema entries kept.rest commits application utf8 kept.begins (are_made objects schema 0 entries kept.kept)) refl

-- what it does behind its test where nothing stands
abbrev pub close_of_nothing : Result (Unit {0}) SinkRefusal → Result (Option ℕ) SinkRefusal
close_of_nothing fine = ◌>>=◌ {B = SinkRequest} fine (λ passed. Err (bad_log 0)) >>= λ request. Ok (closing_version request)

pub close_nothing_is : (application : List ℕ) → close_plan false [] application ≡ close_of_nothing (named application)
unfolding close_of
close_nothing_is application = rw log_of_nothing refl

-- ---- a line that closes a stream

-- what a close does agrees with what the plain table answers
abbrev Agrees : (objects : Objects) (schema : Tree) (entries : List Entry) (application : List ℕ) (at : ℕ) → Result (Option ℕ) SinkRefusal → Result (Unit {0}) SinkRefusal → Type 0
Agrees objects schema entries application at plan answer =
    (sink_reply (plan >>= close_answer) ≡ tables.closed_reply (table schema entries) application answer) × Keeps (with_close_commit objects application at plan) (tables.with_closed (table schema entries) application answer)

-- where a table is kept, the answer is the plain table's
table_agrees : (objects : Objects) (schema : Tree) (entries : List Entry) (application : List ℕ) (at : ℕ) (fine : Result (Unit {0}) SinkRefusal) (barred : Bool) → Keeps objects (table schema entries)
    → length entries ≤ greatest_version → IsUtf8 application → ClosesWell application at (close_step schema entries application fine barred)
    → Agrees objects schema entries application at (close_step schema entries application fine barred) (fine >>= λ passed. unless_invariant barred)
table_agrees objects schema entries application at (Err why) barred kept few utf8 well = (refl, kept)
table_agrees objects schema entries application at (Ok passed) true kept few utf8 well = (refl, kept)
table_agrees objects schema entries application at (Ok passed) false kept few utf8 well = by_close (is_stream_closed application entries) refl well
  where
    by_close : (closed : Bool) → is_stream_closed application entries ≡ closed → ClosesWell application at (Ok (cond closed None (Some (length entries))))
        → (sink_reply (close_answer (cond closed None (Some (length entries)))) ≡ with_newline (tables.closing_text (cond closed AlreadyClosed (Closed (length entries)))))
        × Keeps (with_close_commit objects application at (Ok (cond closed None (Some (length entries))))) (table schema (cond closed entries (entries ++ close application ∷ [])))
    by_close true is well = (refl, kept)
    by_close false is well =
        let free = none_behind objects schema entries kept.0 few in
        let is_commit : IsCommitOf schema (close application) (close_text application at) = close_stands schema application at (close_text application at) utf8 well in
        rw (version_fits entries few)
        (refl, (kept_close objects schema entries application (close_text application at) kept.0 few is free is_commit, no_other_close objects entries application (close_text application at) kept.1))

-- no stream is closed where nothing stands
nothing_agrees : (application : List ℕ) (at : ℕ) (fine : Result (Unit {0}) SinkRefusal)
    → (sink_reply (close_of_nothing fine >>= close_answer) ≡ tables.closed_reply nothing application (fine >>= λ passed. Err (bad_log 0))) × (with_close_commit [] application at (close_of_nothing fine) ≡ [])
nothing_agrees application at (Err why) = (refl, refl)
nothing_agrees application at (Ok passed) = (refl, refl)

-- the reply to a line that closes a stream is the plain table's, and the store goes on to keep it
pub close_told : (objects : Objects) (state : TableState) (application : List ℕ) (at : ℕ) (printed : List ℕ) → Keeps objects state → length (tables.entries_of_state state) ≤ greatest_version
    → IsSoundStatement objects (task (closes application at)) printed
    → (reply_to_statement objects (task (closes application at)) printed ≡ tables.table_reply_to_statement state (task (closes application at)))
    × Keeps (left_by_statement objects (task (closes application at)) printed) (tables.table_left_by_statement state (task (closes application at)))
close_told objects nothing application at printed kept few sound = rw (kept, close_nothing_is application) (nothing_agrees application at (named application))
close_told objects (table schema entries) application at printed kept few sound =
    let is = close_is objects schema entries application sound.0 kept.0 in
    let well : ClosesWell application at (close_plan false objects application) = sound.1 in
    let told = table_agrees objects schema entries application at (named application) (has_key_inside (codes "delta.invariants") schema) kept few sound.0 (rw is at well) in
    rw is told

-- ---- what a close leaves

-- where nothing stands, nothing is put
pub close_over_nothing : (most : ℕ) (application : List ℕ) (at : ℕ) (fine : Result (Unit {0}) SinkRefusal) → Stays (suc most) (with_close_commit [] application at (close_of_nothing fine))
close_over_nothing most application at (Ok passed) = bare refl
close_over_nothing most application at (Err why) = bare refl

-- A close over a table that is kept leaves one that is kept.
pub close_goes_on : (objects : Objects) (schema : Tree) (entries : List Entry) → KeepsTable objects schema entries → AreFiles objects schema → (most : ℕ) → length entries ≤ most → (application : List ℕ) (at : ℕ) → IsUtf8 application
    → ClosesWell application at (close_plan false objects application) → Stays (suc most) (with_close_commit objects application at (close_plan false objects application))
close_goes_on objects schema entries kept files most up application at utf8 well =
    let is = close_is objects schema entries application utf8 kept in
    rw is (by_tests (named application) (has_key_inside (codes "delta.invariants") schema) (rw is at well))
  where
    unchanged : Stays (suc most) objects
    unchanged = keeps schema entries kept files (omega (arith, up))

    by_close : (closed : Bool) → is_stream_closed application entries ≡ closed → ClosesWell application at (Ok (cond closed None (Some (length entries))))
        → Stays (suc most) (with_close_commit objects application at (Ok (cond closed None (Some (length entries)))))
    by_close true is well = unchanged
    by_close false is well =
        let bytes = close_text application at in
        let is_commit : IsCommitOf schema (close application) bytes = close_stands schema application at bytes utf8 well in
        let whole : length entries ≤ greatest_version → Stays (suc most) (with_object objects (commit_name (length entries)) bytes) =
        λ few. keeps schema (entries ++ close application ∷ []) (kept_close objects schema entries application bytes kept few is (none_behind objects schema entries kept few) is_commit)
        (files_commit objects schema (length entries) bytes files) (omega (arith, up, length-append entries (close application ∷ []))) in
        elim (cases_lt greatest_version (length entries)) [
          | inl past ↦ rw (lt-ltb greatest_version (length entries) past) unchanged
          | inr few ↦ rw (version_fits entries few) (whole few)
        ]

    by_tests : (fine : Result (Unit {0}) SinkRefusal) (barred : Bool) → ClosesWell application at (close_step schema entries application fine barred) → Stays (suc most) (with_close_commit objects application at (close_step schema entries application fine barred))
    by_tests (Err why) barred well = unchanged
    by_tests (Ok passed) true well = unchanged
    by_tests (Ok passed) false well = by_close (is_stream_closed application entries) refl well
