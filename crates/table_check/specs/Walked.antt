-- What a walk over the first commits of a log has found.
use Rattle.std.specs.Prelude.{◌≡◌, ℕ, suc, List, ◌∷◌, length, Ok}
use Rattle.std.specs.List.{AllByRecursion}
use Rattle.delta_actions.specs.Action.{Action}
use Rattle.delta_actions.specs.Printing.{IsPrintable}
use Rattle.store_core.specs.Objects.{Objects}
use Rattle.table_log.specs.Versions.{commits_in, versions_from}
use Rattle.table_model.specs.Lawful.{IsLawful}
use Rattle.table_model.specs.Table.{Entry, creation}
use Rattle.table_store.specs.Holds.{HoldsFirst}
use Rattle.table_store.specs.Schema.{Schema}

-- The commits of the versions below one stand for a lawful table that begins with its creation, each with its files.
-- These are their actions, and each of them can be printed.
pub record IsWalked (objects : Objects) (schema : Schema) (version : ℕ) (log : List (List Action)) : Type 0 where
  pub later : List Entry
  pub stand : HoldsFirst objects schema 0 (creation ∷ later)
  pub lawful : IsLawful (creation ∷ later)
  pub at : suc (length later) ≡ version
  pub read : commits_in 0 (versions_from version 0 objects) ≡ Ok log
  pub printable : AllByRecursion (AllByRecursion IsPrintable) log
