-- What the types of the code stand for.
use Rattle.std.specs.Prelude.{◌≡◌, ℕ, [], length, Ok}
use Rattle.shred.specs.Columns.{Column}
use Rattle.parquet_pages.specs.Headers.{Header, Content, data_page, dictionary_page, other_page}
use Rattle.parquet_pages.specs.Pages as pages
use Rattle.parquet_pages.specs.Pages.{highest}
use Rattle.page_cells.specs.Levels.{present}
use Rattle.page_cells.specs.Plain.{plain_at}
use Rattle.parquet_pages.specs.declared.header.PageHeader.{PageHeader}
use Rattle.parquet_pages.specs.declared.header.PageContent.{PageContent}
use Rattle.parquet_pages.specs.declared.header.PageContent.TheVariants as content
use Rattle.parquet_pages.specs.declared.leaf.Leaf.{Leaf}
use Rattle.parquet_pages.specs.declared.pages.Page.{Page}

abbrev pub content_view : PageContent → Content
content_view (content.Data num_values encoding level_encoding) = data_page num_values encoding level_encoding
content_view (content.Dictionary num_values encoding) = dictionary_page num_values encoding
content_view content.Other = other_page

abbrev pub header_view : PageHeader → Header
header_view h = record { page_type = h.page_type; uncompressed_page_size = h.uncompressed_page_size; compressed_page_size = h.compressed_page_size; content = content_view h.content }

abbrev pub leaf_view : Leaf → pages.Leaf
leaf_view l = record { leaf_type = l.leaf_type; nullable = l.nullable.now }

-- The page's levels and values are this part of the column.
pub record IsCells (l : pages.Leaf) (page : Page) (c : Column) : Type 0 where
  pub counted : page.num_values ≡ length c.levels
  pub present_each : page.present ≡ present (highest l) c.levels
  pub levels : page.levels ≡ c.levels
  pub values : plain_at l.leaf_type (present (highest l) c.levels) page.values.now ≡ Ok (c.values, [])

-- The page is this part of the column, and ends at this place.
abbrev pub IsPageOf : pages.Leaf → Page → Column × ℕ → Type 0
IsPageOf l page x = IsCells l page x.0 × (page.next ≡ x.1)
