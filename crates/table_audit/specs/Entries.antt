-- Which actions may follow a log, as those of a commit.
use Rattle.std.specs.Prelude.{ℕ, List, map}
use Rattle.std.specs.List.{AllByRecursion}
use Rattle.delta_actions.specs.Action.{Action, AddAction}
use Rattle.row_core.specs.Rows.{Row}
use Rattle.store_core.specs.Objects.{Objects}
use Rattle.table_check.specs.Following.{AreNewIn, MayFollow}
use Rattle.table_model.specs.Table.{Batch, Entry}
use Rattle.table_store.specs.Commits.{IsGroupOf, StandFor}
use Rattle.table_store.specs.Groups.{AreFilesOf}
use Rattle.table_store.specs.Holds.{FileStands, FilesStand}
use Rattle.table_store.specs.Schema.{Schema}

-- The actions stand for an entry that may follow the log, and its files stand.
pub record EntryFollows (objects : Objects) (schema : Schema) (log : List (List Action)) (beside : List Action) : Type 0 where
  pub entry : Entry
  pub stand : StandFor schema entry beside
  pub files : FilesStand objects schema entry
  pub may : MayFollow log entry

-- They stand for a group that may.
pub record GroupFollows (objects : Objects) (schema : Schema) (log : List (List Action)) (beside : List Action) : Type 0 where
  pub bs : List Batch
  pub stand : IsGroupOf bs beside
  pub files : AllByRecursion (FileStands objects schema) bs
  pub new : AreNewIn log (map (λ b. (b.application, b.number)) bs)

-- the file of a number stands, and is one of some rows
abbrev pub HasFile : Objects → Schema → List ℕ × ℕ → Type 0
HasFile objects schema n = (rows : List Row) × FileStands objects schema (record { application = n.0; number = n.1; rows = rows })

-- the file of each of these numbers is added, stands, and is one of some rows
abbrev pub HaveFiles : Objects → Schema → List (List ℕ × ℕ) → List AddAction → Type 0
HaveFiles objects schema ns files = AreFilesOf ns files × AllByRecursion (HasFile objects schema) ns
