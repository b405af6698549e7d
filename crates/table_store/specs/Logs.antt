-- The log of a store as its commits' actions, and the batches and the rows that this log tells of (Delta PROTOCOL.md,
-- "Delta Log Entries").
use Rattle.std.specs.Prelude.{◌≡◌, ℕ, suc, List, [], ◌∷◌, ◌++◌}
use Rattle.std.specs.List.{flat_map}
use Rattle.store_core.specs.Objects.{Objects}
use Rattle.delta_actions.specs.Action as actions
use Rattle.delta_actions.specs.Kinds.{PathAndKey}
use Rattle.delta_actions.specs.Commit.{IsCommit}
use Rattle.store_core.specs.Names.{commit_name}
use Rattle.delta_actions.specs.Names.{data_file_name}
use Rattle.row_core.specs.Rows.{Row}
use Rattle.table_store.specs.Schema.{Schema, IsFileOf}
use Rattle.table_store.specs.Groups.{numbers, new_files}
use Rattle.table_store.specs.Holds.{EndsAt, Stands}
use Rattle.table_model.specs.Table.{Batch}

-- From this version on the commits of these actions stand, and the log ends behind them.
abbrev pub LogFrom : Objects → ℕ → List (List actions.Action) → Type 0
LogFrom objects version [] = EndsAt objects version
LogFrom objects version (made ∷ log) = Stands objects (commit_name version) (λ bytes. IsCommit bytes made) × LogFrom objects (suc version) log

-- The store's log: the actions of the commits of versions 0, 1, 2 and so on, up to the first name that isn't there
-- or to the greatest version that a commit can have.
abbrev pub IsLog : Objects → List (List actions.Action) → Type 0
IsLog objects log = LogFrom objects 0 log

-- For each number in order stands the batch of that application and number, with the rows of the file named for them.
abbrev pub AreBatchesOf : Objects → Schema → List (List ℕ × ℕ) → List Batch → Type 0
AreBatchesOf objects schema [] [] = Unit {0}
AreBatchesOf objects schema [] (b ∷ bs) = ⊥
AreBatchesOf objects schema (n ∷ ns) [] = ⊥
AreBatchesOf objects schema (n ∷ ns) (b ∷ bs) = (b.application ≡ n.0) × (b.number ≡ n.1) × Stands objects (data_file_name n.0 n.1) (λ bytes. IsFileOf schema bytes b.rows)
    × AreBatchesOf objects schema ns bs

-- the batches that a log tells of, in the order of its numbers
abbrev pub AreBatches : Objects → Schema → List (List actions.Action) → List Batch → Type 0
AreBatches objects schema log bs = AreBatchesOf objects schema (flat_map numbers log) bs

-- the rows of these files, one file behind the other
abbrev pub AreRowsOf : Objects → Schema → List PathAndKey → List Row → Type 0
AreRowsOf objects schema [] rows = rows ≡ []
AreRowsOf objects schema (path ∷ paths) rows =
    (first others : List Row) × Stands objects path.key (λ bytes. IsFileOf schema bytes first) × AreRowsOf objects schema paths others × (rows ≡ first ++ others)

-- the rows that a log tells of, in the order of its new files
abbrev pub AreRows : Objects → Schema → List (List actions.Action) → List Row → Type 0
AreRows objects schema log rows = AreRowsOf objects schema (flat_map new_files log) rows
