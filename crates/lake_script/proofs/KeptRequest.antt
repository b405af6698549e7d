-- What is asked of a table that is kept.
use Rattle.std.proofs.Common.{◌≡◌, ℕ, ◌&&◌, Bool, true, false, not, List, [], ◌∷◌, Option, Result, Ok, refl, subst}
use Rattle.std.specs.Prelude.{codes, option_map}
use Rattle.serde_json.specs.Data.{Items}
use Rattle.std.specs.Str.{IsUtf8}
use Rattle.schema_tree.specs.Tree.{Tree}
use Rattle.store_core.specs.Objects.{Objects}
use Rattle.delta_actions.specs.Action as actions
use Rattle.delta_replay.specs.Support.{feature, has_key_inside}
use Rattle.row_core.specs.Rows.{Row}
use Rattle.table_model.specs.Table.{ToldNumber, Entry, creation, is_stream_closed, last_told}
use Rattle.batch_core.specs.Requests.{SinkRequest, close_behind, is_repeat, request_behind}
use Rattle.batch_core.specs.Refusals.{SinkRefusal, read_only, stream_closed}
use Rattle.batch_core.specs.RowsIn.{rows_from, takes_rows}
use Rattle.outcomes.specs.Results.{◌>>=◌, refused_if, refused_as}
use Rattle.commit_core.proofs.Callers.{AreMadeFor}
use Rattle.commit_core.proofs.Callers.{log_closed, log_last, log_writable}

-- what is asked of a table
abbrev pub asked : (version : ℕ) (schema : Tree) (rows : List Row) (repeats : Bool) → SinkRequest
asked version schema rows repeats = record { version = version; schema = schema; rows = rows; repeats = repeats }

-- the reason why a table isn't written of which a field has invariants
abbrev pub unless_invariant : (barred : Bool) → Result (Unit {0}) SinkRefusal
unless_invariant barred = refused_if barred (read_only (feature (codes "invariants")))

-- a new number is refused where the stream is closed
abbrev pub goes_on : (closed repeats : Bool) → Result (Unit {0}) SinkRefusal
goes_on closed repeats = refused_if (not repeats && closed) stream_closed

-- the request behind the commits of a table's entries
pub request_is : (objects : Objects) (next : ℕ) (schema : Tree) (entries rest : List Entry) (commits : List (List actions.Action)) (application : List ℕ) (number : ℕ) (items : Items) → IsUtf8 application
    → entries ≡ creation ∷ rest → AreMadeFor objects schema entries commits
    → request_behind next commits application number items
    ≡ (unless_invariant (has_key_inside (codes "delta.invariants") schema) >>= λ plain. takes_rows schema >>= λ supported. rows_from 0 schema items >>= λ rows. is_repeat number (option_map (λ (t : ToldNumber). t.number) (last_told application entries)) >>= λ repeats.
    goes_on (is_stream_closed application entries) repeats >>= λ open_. Ok (asked next schema rows repeats))
unfolding request_behind
request_is objects next schema entries rest commits application number items utf8 begins made =
    rw (log_writable objects schema rest commits (subst (λ (es : List Entry). AreMadeFor objects schema es commits) begins made), log_last objects schema application entries commits made, log_closed objects schema application entries commits made utf8)
    (by_fields (has_key_inside (codes "delta.invariants") schema))
  where
    last : Option ℕ
    last = option_map (λ (t : ToldNumber). t.number) (last_told application entries)

    by_fields : (barred : Bool)
        → (refused_as read_only (refused_if barred (feature (codes "invariants")) >>= λ plain. Ok schema) >>= λ (schema : Tree). takes_rows schema >>= λ supported. rows_from 0 schema items >>= λ rows.
        is_repeat number last >>= λ repeats. goes_on (is_stream_closed application entries) repeats >>= λ open_. Ok (asked next schema rows repeats))
        ≡ (unless_invariant barred >>= λ plain. takes_rows schema >>= λ supported. rows_from 0 schema items >>= λ rows. is_repeat number last >>= λ repeats.
        goes_on (is_stream_closed application entries) repeats >>= λ open_. Ok (asked next schema rows repeats))
    by_fields true = refl
    by_fields false = refl

-- the request of a close behind them
pub close_request_is : (objects : Objects) (next : ℕ) (schema : Tree) (entries rest : List Entry) (commits : List (List actions.Action)) (application : List ℕ) → IsUtf8 application
    → entries ≡ creation ∷ rest → AreMadeFor objects schema entries commits
    → close_behind next commits application ≡ (unless_invariant (has_key_inside (codes "delta.invariants") schema) >>= λ plain. Ok (asked next schema [] (is_stream_closed application entries)))
unfolding close_behind
close_request_is objects next schema entries rest commits application utf8 begins made =
    rw (log_writable objects schema rest commits (subst (λ (es : List Entry). AreMadeFor objects schema es commits) begins made), log_closed objects schema application entries commits made utf8)
    (by_fields (has_key_inside (codes "delta.invariants") schema))
  where
    by_fields : (barred : Bool)
        → (refused_as read_only (refused_if barred (feature (codes "invariants")) >>= λ plain. Ok schema) >>= λ (schema : Tree). Ok (asked next schema [] (is_stream_closed application entries)))
        ≡ (unless_invariant barred >>= λ plain. Ok (asked next schema [] (is_stream_closed application entries)))
    by_fields true = refl
    by_fields false = refl
