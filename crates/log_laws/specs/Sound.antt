-- Which stores are sound, their checkpoints too.
use Rattle.store_core.specs.Objects.{Objects}
use Rattle.table_log.specs.Restoring.{HasOnlySoundCheckpoints}
use Rattle.table_store.specs.Sound.{IsSound}

-- A store is sound where it holds a lawful table, no commit stands past the end of its log, and whatever has the name of
-- a version's checkpoint is one of the log's commits up to that version.
pub record IsSoundStore (objects : Objects) : Type 0 where
  pub table : IsSound objects
  pub checkpoints : HasOnlySoundCheckpoints objects
