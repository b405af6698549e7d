-- Reading the pages of a column: this part of it, or the first fault in the order of the tests.
use Rattle.std.specs.Prelude.{ℕ, zero, suc, ◌+◌, ◌-◌, ◌==◌, ◌||◌, not, ℤ, pos, List, length, take, drop, Bool, nat_lt, unsigned_abs, Option, Some, None, Result, Ok, Err, if◌then◌else◌}
use Rattle.std.specs.Int.Signed.{le_z}
use Rattle.std.specs.List.{list_all, list_any}
use Rattle.std.specs.Ordering.{int_eq}
use Rattle.outcomes.specs.Results.{◌>>=◌, refused_as, refused_if}
use Rattle.lake_bytes.specs.declared.fault.ByteFault.{ByteFault}
use Rattle.thrift_core.specs.Reading.{struct_at}
use Rattle.row_core.specs.Conforms.{is_leaf_value}
use Rattle.shred.specs.Columns.{Column}
use Rattle.parquet_pages.specs.Headers.{Header, Content, data_page, dictionary_page, other_page, header_of}
use Rattle.page_cells.specs.Levels.{levels_at, may_stand, present}
use Rattle.parquet_pages.specs.Pages.{Leaf, highest, has_levels, joined, no_cells}
use Rattle.page_cells.specs.Outcome.{in_page}
use Rattle.page_cells.specs.Texts.{is_proper, is_too_long}
use Rattle.page_cells.specs.Plain.{plain_at}
use Rattle.page_cells.specs.Types.{primitive_of}
use Rattle.parquet_footer.specs.declared.fault.FileFault.{FileFault}
use Rattle.parquet_footer.specs.declared.fault.FileFault.TheVariants.{Encoding, PageKind, BadOffset, CountMismatch, SchemaMismatch, TooLarge, NotUtf8, BadPage}
use Rattle.page_cells.specs.declared.types.LeafType.{LeafType}

-- ---- the header

-- How many values the page has, if it is a data page in PLAIN whose levels, if it has any, are in RLE.
abbrev pub level_encoding_fault : Option ℤ → Option FileFault
level_encoding_fault None = None
level_encoding_fault (Some encoding) = if int_eq encoding (pos 3) then None else Some (Encoding encoding)

abbrev pub encoding_fault : (encoding : ℤ) → Option ℤ → Option FileFault
encoding_fault encoding level_encoding = if int_eq encoding (pos 0) then level_encoding_fault level_encoding else Some (Encoding encoding)

abbrev pub unless_fault : {A : Type 0} → Option FileFault → A → Result A FileFault
unless_fault None x = Ok x
unless_fault (Some fault) x = Err fault

-- what a data page says of its values; of another page what it is
pub record DataPage : Type 0 where
  pub num_values : ℕ
  pub encoding : ℤ
  pub level_encoding : Option ℤ

abbrev pub data_page_by : ℤ → Content → Result DataPage FileFault
data_page_by page_type (data_page num_values encoding level_encoding) = Ok (record { num_values = num_values; encoding = encoding; level_encoding = level_encoding })
data_page_by page_type (dictionary_page num_values encoding) = Err (PageKind page_type)
data_page_by page_type other_page = Err (PageKind page_type)

abbrev pub data_page_in : Header → Result DataPage FileFault
data_page_in header = data_page_by header.page_type header.content

-- how many values a data page has
abbrev pub num_values_in : Header → Result ℕ FileFault
num_values_in header = data_page_in header >>= λ page. Ok page.num_values

-- the header of a page, and the bytes behind it
unfoldable pub header_at : (has_levels : Bool) → List ℕ → Result (Header × List ℕ) FileFault
header_at has_levels given = do
  read ← refused_as BadPage (struct_at given)
  header ← refused_as BadPage (header_of has_levels read.0)
  Ok (header, read.1)

-- how many values a page with this header has, and its body, which stands in front of these bytes
unfoldable pub body_at : Header → List ℕ → Result (ℕ × List ℕ) FileFault
body_at header behind = do
  page ← data_page_in header
  ends ← refused_if (nat_lt (length behind) header.compressed_page_size) BadOffset
  agrees ← refused_if (not (header.uncompressed_page_size == header.compressed_page_size)) CountMismatch
  unless_fault (encoding_fault page.encoding page.level_encoding) (page.num_values, take header.compressed_page_size behind)

-- ---- the body

-- so many levels, the values of the highest, and the bytes behind them
unfoldable pub cells_at : LeafType → (top count : ℕ) → List ℕ → Result (Column × List ℕ) ByteFault
cells_at type top count body = do
  levels ← levels_at top count body
  values ← plain_at type (present top levels.0) levels.1
  Ok (record { levels = levels.0; values = values.0 }, values.1)

-- a value out of its type's range, or a null where the table has none
abbrev pub has_mismatch : Leaf → Column → Bool
has_mismatch l c = not (list_all (may_stand l.nullable) c.levels) || not (list_all (is_leaf_value (primitive_of l.leaf_type)) c.values)

-- A part of a column, where so many levels are left of it and these bytes stand behind it: what is wrong with it.
unfoldable pub tested : Leaf → (left : ℕ) → Column → List ℕ → Result Column FileFault
tested l left c behind = do
  short ← refused_if (list_any is_too_long c.values) TooLarge
  whole ← refused_if (not (length behind == 0) || nat_lt left (length c.levels)) CountMismatch
  texts ← refused_if (not (list_all is_proper c.values)) NotUtf8
  suits ← refused_if (has_mismatch l c) SchemaMismatch
  Ok c

-- the column's part in a page's body
unfoldable pub column_in : Leaf → (left count : ℕ) → List ℕ → Result Column FileFault
column_in l left count body = do
  cells ← refused_as in_page (cells_at l.leaf_type (highest l) count body)
  tested l left cells.0 cells.1

-- ---- pages

-- the part of the column in the page at this place, of which so many levels are left, and the place behind the page
unfoldable pub page_at : Leaf → List ℕ → (place left : ℕ) → Result (Column × ℕ) FileFault
page_at l given place left = do
  begins ← refused_if (not (nat_lt place (length given))) BadOffset
  header ← header_at (has_levels l) (drop place given)
  body ← body_at header.0 header.1
  column ← column_in l left body.0 body.1
  Ok (column, length given - length header.1 + length body.1)

-- The column in the pages from this place on, until it has so many levels. Each page takes a byte at least, so there are
-- at most as many as there are bytes, and `most` never runs out before the place is past the end.
unfoldable pub pages_at : (most : ℕ) → Leaf → List ℕ → (place left : ℕ) → Result Column FileFault
pages_at most l given place zero = Ok no_cells
pages_at zero l given place (suc left) = Err BadOffset
pages_at (suc most) l given place (suc left) = do
  page ← page_at l given place (suc left)
  others ← pages_at most l given page.1 (suc left - length page.0.levels)
  Ok (joined page.0 others)

-- a chunk's first page may not begin before byte 4
unfoldable pub first_place : ℤ → Result ℕ FileFault
first_place stated = if le_z (pos 4) stated then Ok (unsigned_abs stated) else Err BadOffset

-- the column of so many levels that a chunk's pages hold
unfoldable pub chunk_at : Leaf → List ℕ → (stated : ℤ) (num_values : ℕ) → Result Column FileFault
chunk_at l given stated num_values =
    if num_values == 0 then Ok no_cells else
    (first_place stated >>= λ place. pages_at (length given) l given place num_values)
