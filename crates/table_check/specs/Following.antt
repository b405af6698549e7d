-- Which entries may stand behind a log that was begun.
use Rattle.std.specs.Prelude.{◌≡◌, ◌≢◌, ◌<◌, ℕ, List, [], false, map, Option, Some, None}
use Rattle.std.specs.List.{AllByRecursion}
use Rattle.delta_actions.specs.Action.{Action}
use Rattle.delta_replay.specs.Closes.{is_closed}
use Rattle.delta_replay.specs.Keys.{last_number}
use Rattle.table_model.specs.Lawful.{AreDifferent}
use Rattle.table_model.specs.Table as tables
use Rattle.table_model.specs.Table.{Batch, Entry, creation, group, close, last_item, numbers_by}

-- a number is above the one before it, if there is one
abbrev pub IsAboveLast : ℕ → Option ℕ → Type 0
IsAboveLast number None = Unit {0}
IsAboveLast number (Some before) = before < number

-- A batch's number is above its application's last one in a table, and its stream is open there.
abbrev pub IsNewToTable : List Entry → Batch → Type 0
IsNewToTable entries b = IsAboveLast b.number (last_item (numbers_by b.application entries)) × (tables.is_stream_closed b.application entries ≡ false)

-- An application's number is above the one that it has come to in a log, and its stream is open there.
abbrev pub IsNewIn : List (List Action) → List ℕ × ℕ → Type 0
IsNewIn log n = IsAboveLast n.1 (last_number n.0 log) × (is_closed n.0 log ≡ false)

-- Numbers of different applications, one at least, each of which is new in a log.
abbrev pub AreNewIn : List (List Action) → List (List ℕ × ℕ) → Type 0
AreNewIn log ns = (ns ≢ []) × AreDifferent (map (λ n. n.0) ns) × AllByRecursion (IsNewIn log) ns

-- Behind a log that was begun a group may stand where it has at least one batch, its batches are of different
-- applications, and each is new in the log. A close always may, and a creation never.
abbrev pub MayFollow : List (List Action) → Entry → Type 0
MayFollow log creation = ⊥
MayFollow log (group bs) = AreNewIn log (map (λ b. (b.application, b.number)) bs)
MayFollow log (close application) = Unit {0}
