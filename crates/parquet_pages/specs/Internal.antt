-- What private contracts speak of.
use Rattle.std.specs.Prelude.{◌≡◌, ℕ, List, length, Ok}
use Rattle.shred.specs.Columns.{Column}
use Rattle.page_cells.specs.Levels.{present}
use Rattle.page_cells.specs.Plain.{plain_at}
use Rattle.parquet_pages.specs.Pages.{Leaf, highest}
use Rattle.parquet_pages.specs.declared.pages.Page.{Page}

-- The page's levels and values are this part of the column, and these bytes are left behind its values.
pub record HasCells (l : Leaf) (page : Page) (c : Column) (behind : List ℕ) : Type 0 where
  pub counted : page.num_values ≡ length c.levels
  pub present_each : page.present ≡ present (highest l) c.levels
  pub levels : page.levels ≡ c.levels
  pub values : plain_at l.leaf_type (present (highest l) c.levels) page.values.now ≡ Ok (c.values, behind)
