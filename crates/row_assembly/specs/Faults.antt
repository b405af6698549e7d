-- Why columns are not those of any rows.
use Rattle.std.specs.Prelude.{◌≡◌, ℕ, List, ◌++◌, None, codes}
use Rattle.outcomes.specs.Outcome.{Said, refuses, says_nothing}
use Rattle.schema_tree.specs.Fault.{Path, path_of, path_inside}
use Rattle.schema_tree.specs.FaultTexts.{path_text}
use Rattle.row_assembly.specs.declared.fault.CellMismatch.{CellMismatch}
use Rattle.row_assembly.specs.declared.fault.ShredError.{ShredError}
use Rattle.row_assembly.specs.declared.fault.ShredError.TheVariants as errors

pub data Fault : Type 0 where
  -- another number of columns, of levels or of values than belong together
  uneven_columns : Fault
  -- the cells of a row are no row's, up to the leaf of this path
  level_mismatch : Path → Fault

-- the fault of what stands inside the field of this name
abbrev pub inside : List ℕ → Fault → Fault
inside name uneven_columns = uneven_columns
inside name (level_mismatch path) = level_mismatch (path_inside name path)

-- what each error of the code says
abbrev pub says : ShredError → Said Fault
says errors.Memory = says_nothing
says errors.UnevenColumns = refuses uneven_columns
says (errors.LevelMismatch path) = refuses (level_mismatch (path_of path))

-- what a cell that isn't its row's says, at the leaf itself
abbrev pub says_mismatch : CellMismatch → Said Fault
says_mismatch mismatch = refuses (level_mismatch None)

-- What is said from outside the field of this name: the fault as it is told there, or nothing, as where memory ran out.
abbrev pub SaysOutside : List ℕ → Said Fault → Said Fault → Type 0
SaysOutside name old says_nothing = Unit {0}
SaysOutside name (refuses fault) (refuses told) = told ≡ inside name fault
SaysOutside name _ _ = ⊥

-- the printed form of an error
abbrev pub error_text : ShredError → List ℕ
error_text errors.Memory = codes "out of memory"
error_text errors.UnevenColumns = codes "H1 UnevenColumns"
error_text (errors.LevelMismatch path) = codes "H2 LevelMismatch " ++ path_text (path_of path)
