-- What a script begins with and leaves: a store that keeps a table, with no data file of another batch, or such files too;
-- or nothing stands.
use Rattle.std.specs.Prelude.{◌≡◌, ◌≤◌, ℕ, List, [], IsSome, Some}
use Rattle.std.specs.List.{Contains}
use Rattle.std.specs.Str.{IsUtf8}
use Rattle.store_core.specs.Objects.{Objects, object_at}
use Rattle.delta_actions.specs.Names.{data_file_name}
use Rattle.table_model.specs.Table.{Batch, Entry, batches}
use Rattle.batch_core.specs.Committing.{greatest_number}
use Rattle.commit_core.specs.TableSchema.{Schema}
use Rattle.read_laws.specs.Kept.{KeepsTable, IsReadableFile}
use Rattle.lake_script.specs.Tables.{TableState, nothing, table}

-- the table has a batch of this application and number
abbrev pub IsOwn : List Entry → (application : List ℕ) (number : ℕ) → Type 0
IsOwn entries application number = (b : Batch) × Contains (batches entries) b × (b.application ≡ application) × (b.number ≡ number)

-- whatever stands under the name of the data file of an application, whose id is text, and a number of at most twelve
-- digits is the file of one of the table's batches
abbrev pub HasNoOther : Objects → List Entry → Type 0
HasNoOther objects entries = (application : List ℕ) (number : ℕ) → IsUtf8 application → number ≤ greatest_number
    → IsSome (object_at objects (data_file_name application number)) → IsOwn entries application number

-- The store keeps this table, or nothing stands, and it has no data file of a batch that the table hasn't.
abbrev pub Keeps : Objects → TableState → Type 0
Keeps objects nothing = objects ≡ []
Keeps objects (table schema entries) = KeepsTable objects schema entries × HasNoOther objects entries

-- whatever stands under such a name is a file of some rows
abbrev pub AreFiles : Objects → Schema → Type 0
AreFiles objects schema = (application : List ℕ) (number : ℕ) (bytes : List ℕ) → IsUtf8 application → number ≤ greatest_number
    → object_at objects (data_file_name application number) ≡ Some bytes → (b : Batch) × IsReadableFile schema b bytes

-- The same where data files of other batches may stand, as they do where an append was cut off.
abbrev pub KeepsBeside : Objects → TableState → Type 0
KeepsBeside objects nothing = objects ≡ []
KeepsBeside objects (table schema entries) = KeepsTable objects schema entries × AreFiles objects schema
