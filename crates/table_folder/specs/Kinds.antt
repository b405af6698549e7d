-- What a table's file is for, by its name (Delta PROTOCOL.md, "Delta Log Entries" and "Checkpoints").
use Rattle.std.specs.Prelude.{ℕ, List, Bool, ◌&&◌, not, drop, nat_eq, codes}
use Rattle.std.specs.List.{starts_with, ends_with}
unfoldable pub use Rattle.store_core.specs.Names.{has_version, is_commit}
use Rattle.table_folder.specs.declared.kind.FileKind.{FileKind}
use Rattle.table_folder.specs.declared.kind.FileKind.TheVariants.{Data, Commit, Checkpoint}

-- a checkpoint: what follows the digits begins with `.checkpoint.` and ends with `.json`
unfoldable pub is_checkpoint : List ℕ → Bool
is_checkpoint name =
    has_version name && starts_with nat_eq (drop 31 name) (codes ".checkpoint.") && ends_with nat_eq name (codes ".json")

-- every other name is a data file's
abbrev pub is_data : List ℕ → Bool
is_data name = not (is_commit name) && not (is_checkpoint name)

-- the file of this name is of this kind
abbrev pub is_file_of_kind : FileKind → List ℕ → Bool
is_file_of_kind Data name = is_data name
is_file_of_kind Commit name = is_commit name
is_file_of_kind Checkpoint name = is_checkpoint name
