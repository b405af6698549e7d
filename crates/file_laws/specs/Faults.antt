-- What each fault of reading a file says is wrong with its bytes (Apache Parquet, File Format and parquet.thrift).
use Rattle.std.specs.Prelude.{◌≡◌, ℕ, ◌+◌, ◌<◌, ◌≤◌, ℤ, pos, List, ◌++◌, length, drop, Contains, true, false, Option, Some, None, Err}
use Rattle.std.specs.Int.Signed.{◌<ℤ◌}
use Rattle.std.specs.List.{AllZip}
use Rattle.std.specs.Str.{is_utf8}
use Rattle.lake_bytes.specs.declared.fault.ByteFault.{ByteFault}
use Rattle.lake_bytes.specs.declared.fault.ByteFault.TheVariants.{Short}
use Rattle.thrift_core.specs.Tree as thrift
use Rattle.thrift_values.specs.declared.fault.ThriftFault.{ThriftFault}
use Rattle.thrift_values.specs.declared.fault.ThriftFault.TheVariants.{Bytes}
use Rattle.row_core.specs.Conforms.{is_leaf_value}
use Rattle.row_core.specs.Rows.{Value, Row, text}
use Rattle.schema_tree.specs.Tree.{Tree}
use Rattle.row_assembly.specs.Columns.{Column, AreColumnsOf}
use Rattle.row_assembly.specs.Shape.{Shape}
use Rattle.parquet_footer.specs.Frame.{FramedAs, footer_length, magic}
use Rattle.parquet_footer.specs.Metadata.{ColumnChunk, RowGroup, FileMetaData, metadata_of}
use Rattle.parquet_footer.specs.declared.fault.FileFault.{FileFault}
use Rattle.parquet_footer.specs.declared.fault.FileFault.TheVariants.{BadMagic, BadFooter, Codec, Encoding, PageKind, BadOffset, CountMismatch, SchemaMismatch, TooLarge, NotUtf8, BadPage}
use Rattle.parquet_pages.specs.Headers.{Header, data_page, header_of}
use Rattle.parquet_pages.specs.Pages.{has_levels}
use Rattle.page_cells.specs.Levels.{may_stand}
use Rattle.parquet_pages.specs.Reading.{cells_at}
use Rattle.page_cells.specs.Texts.{is_too_long}
use Rattle.page_cells.specs.Types.{primitive_of}
use Rattle.parquet_schema.specs.Fitting.{fitted_list}
use Rattle.parquet_schema.specs.Leaves.{LeafIn, leaves_in}
use Rattle.parquet_file.specs.File.{leaf_of}
use Rattle.parquet_file.specs.Reading.{claimed_rows}
use Rattle.file_laws.specs.Places.{HasNoStruct, HoldsSuiting, BeginsWithStruct, Opens, HasGroup, HasLeaf, HasChunk, PagePlace, MeetsPage, HasHeader, HasBody, HasPageCells}

-- ---- the frame and the footer

-- There is no frame.
pub data HasNoFrame (bytes : List ℕ) : Type 0 where
  -- under 12 bytes
  too_short : length bytes < 12 → HasNoFrame bytes
  -- PAR1 isn't at the beginning
  begins_otherwise : ((rest : List ℕ) → bytes ≡ magic ++ rest → ⊥) → HasNoFrame bytes
  -- PAR1 isn't at the end
  ends_otherwise : ((front : List ℕ) → bytes ≡ front ++ magic → ⊥) → HasNoFrame bytes

-- The footer isn't FileMetaData.
pub data HasBadFooter (bytes : List ℕ) (fault : ThriftFault) : Type 0 where
  -- the length that stands before the last PAR1 is above the file's, less the 12 bytes of the frame
  ends_early : length bytes < footer_length bytes + 12 → fault ≡ Bytes Short → HasBadFooter bytes fault
  -- it doesn't begin with a struct
  is_no_struct : (front footer : List ℕ) → FramedAs bytes front footer → HasNoStruct footer fault → HasBadFooter bytes fault
  -- the struct lacks a field that is needed, or has it of another kind, or a count in it is negative
  lacks_field : (front footer behind : List ℕ) (tree : thrift.Tree) → FramedAs bytes front footer → BeginsWithStruct footer tree behind
      → metadata_of tree ≡ Err fault → HasBadFooter bytes fault

-- ---- sizes

-- Something is larger than what is read.
pub data HasTooMuch (bytes : List ℕ) (t : Tree) : Type 0 where
  -- the file is over 64 MiB
  file_too_long : 67108864 < length bytes → HasTooMuch bytes t
  -- the footer claims more than 4,194,304 rows of the file
  claims_rows : (given : List ℕ) (metadata : FileMetaData) → Opens bytes given metadata → 4194304 < metadata.num_rows → HasTooMuch bytes t
  -- or of one of its row groups
  group_claims_rows : (given : List ℕ) (metadata : FileMetaData) (group : RowGroup) → Opens bytes given metadata
      → Contains metadata.row_groups group → 4194304 < group.num_rows → HasTooMuch bytes t
  -- a page has a text or bytes of over 1 MiB
  value_too_long : (p : PagePlace) (c : Column) (rest : List ℕ) (v : Value) → HasPageCells bytes t p c rest → Contains c.values v
      → is_too_long v ≡ true → HasTooMuch bytes t

-- ---- chunks and pages

-- The chunk of a leaf has this codec, which isn't UNCOMPRESSED.
pub record HasCodec (bytes : List ℕ) (t : Tree) (n : ℤ) : Type 0 where
  pub given : List ℕ
  pub group : RowGroup
  pub leaf : LeafIn
  pub chunk : ColumnChunk
  pub has : HasChunk bytes t given group leaf chunk
  pub codec : chunk.codec ≡ n
  pub other : n ≡ pos 0 → ⊥

-- A data page has this encoding.
pub data HasEncoding (bytes : List ℕ) (t : Tree) (n : ℤ) : Type 0 where
  -- its values have, and it isn't PLAIN
  values_encoded : (p : PagePlace) (header : Header) (behind : List ℕ) (count : ℕ) (level_encoding : Option ℤ) → HasHeader bytes t p header behind
      → header.content ≡ data_page count n level_encoding → (n ≡ pos 0 → ⊥) → HasEncoding bytes t n
  -- its definition levels have, and it isn't RLE
  levels_encoded : (p : PagePlace) (header : Header) (behind : List ℕ) (count : ℕ) (encoding : ℤ) → HasHeader bytes t p header behind
      → header.content ≡ data_page count encoding (Some n) → (n ≡ pos 3 → ⊥) → HasEncoding bytes t n

-- A page is of this type, which isn't DATA_PAGE.
pub record HasPageKind (bytes : List ℕ) (t : Tree) (n : ℤ) : Type 0 where
  pub page : PagePlace
  pub header : Header
  pub behind : List ℕ
  pub has : HasHeader bytes t page header behind
  pub kind : header.page_type ≡ n
  pub other : n ≡ pos 0 → ⊥

-- A page that begins before the footer can't be read.
pub data HasBadPage (bytes : List ℕ) (t : Tree) (fault : ThriftFault) : Type 0 where
  -- it doesn't begin with a struct
  header_is_no_struct : (p : PagePlace) → MeetsPage bytes t p → p.place < length p.given → HasNoStruct (drop p.place p.given) fault → HasBadPage bytes t fault
  -- its header lacks a field that is needed, or has it of another kind, or a count in it is negative
  header_lacks_field : (p : PagePlace) (tree : thrift.Tree) (behind : List ℕ) → MeetsPage bytes t p → p.place < length p.given
      → BeginsWithStruct (drop p.place p.given) tree behind
      → header_of (has_levels (leaf_of p.leaf)) tree ≡ Err fault → HasBadPage bytes t fault
  -- its levels or its values can't be read
  cells_are_bad : (p : PagePlace) (count : ℕ) (body : List ℕ) (inner : ByteFault) → HasBody bytes t p count body
      → cells_at p.leaf.leaf_type (length p.leaf.nullable) count body ≡ Err inner → fault ≡ Bytes inner → HasBadPage bytes t fault

-- A page doesn't lie between the first PAR1 and the footer.
pub data HasBadOffset (bytes : List ℕ) (t : Tree) : Type 0 where
  -- the chunk has values, and its first page is said to begin before byte 4
  begins_early : (given : List ℕ) (group : RowGroup) (leaf : LeafIn) (chunk : ColumnChunk) → HasChunk bytes t given group leaf chunk
      → 0 < chunk.num_values → chunk.data_page_offset <ℤ pos 4 → HasBadOffset bytes t
  -- the page would begin in the footer or behind it
  begins_late : (p : PagePlace) → MeetsPage bytes t p → length p.given ≤ p.place → HasBadOffset bytes t
  -- the page runs into the footer
  ends_late : (p : PagePlace) (header : Header) (behind : List ℕ) → HasHeader bytes t p header behind → length behind < header.compressed_page_size
      → HasBadOffset bytes t

-- Two counts that should be the same aren't.
pub data HasCountMismatch (bytes : List ℕ) (t : Tree) : Type 0 where
  -- the two sizes of a page, which isn't compressed
  sizes_differ : (p : PagePlace) (header : Header) (behind : List ℕ) → HasHeader bytes t p header behind
      → (header.uncompressed_page_size ≡ header.compressed_page_size → ⊥) → HasCountMismatch bytes t
  -- a page has bytes behind its values
  bytes_are_left : (p : PagePlace) (c : Column) (rest : List ℕ) → HasPageCells bytes t p c rest → 0 < length rest → HasCountMismatch bytes t
  -- a page has more values than are left of its chunk's
  values_are_many : (p : PagePlace) (c : Column) (rest : List ℕ) → HasPageCells bytes t p c rest → p.left < length c.levels → HasCountMismatch bytes t
  -- the chunk of a leaf hasn't as many values as its row group has rows
  chunk_differs : (given : List ℕ) (group : RowGroup) (leaf : LeafIn) (chunk : ColumnChunk) → HasChunk bytes t given group leaf chunk
      → (chunk.num_values ≡ group.num_rows → ⊥) → HasCountMismatch bytes t
  -- the rows of the row groups don't add up to the file's
  groups_differ : (given : List ℕ) (metadata : FileMetaData) → Opens bytes given metadata
      → (claimed_rows metadata.row_groups ≡ metadata.num_rows → ⊥) → HasCountMismatch bytes t

-- A page has a text that isn't UTF-8.
pub record HasBadText (bytes : List ℕ) (t : Tree) : Type 0 where
  pub page : PagePlace
  pub column : Column
  pub rest : List ℕ
  pub has : HasPageCells bytes t page column rest
  pub content : List ℕ
  pub inside : Contains column.values (text content)
  pub bad : is_utf8 content ≡ false

-- The file's columns aren't the table's, or what they hold isn't.
pub data HasSchemaMismatch (bytes : List ℕ) (t : Tree) : Type 0 where
  -- the footer's list of nodes is no tree with the table's names and physical types
  columns_differ : (given : List ℕ) (metadata : FileMetaData) → Opens bytes given metadata → fitted_list t metadata.schema ≡ None → HasSchemaMismatch bytes t
  -- a row group has no chunk with the path of one of the table's leaves
  chunk_is_missing : (given : List ℕ) (group : RowGroup) (leaf : LeafIn) → HasLeaf bytes t given group leaf
      → ((chunk : ColumnChunk) → Contains group.columns chunk → chunk.path_in_schema ≡ leaf.names → ⊥) → HasSchemaMismatch bytes t
  -- a page has a null where the table has none
  null_is_out_of_place : (p : PagePlace) (c : Column) (rest : List ℕ) (level : ℕ) → HasPageCells bytes t p c rest → Contains c.levels level
      → may_stand p.leaf.nullable level ≡ false → HasSchemaMismatch bytes t
  -- a page has a value out of its type's range
  value_is_out_of_range : (p : PagePlace) (c : Column) (rest : List ℕ) (v : Value) → HasPageCells bytes t p c rest → Contains c.values v
      → is_leaf_value (primitive_of p.leaf.leaf_type) v ≡ false → HasSchemaMismatch bytes t
  -- the leaves of a row group differ on whether a struct above them is null: no rows have these columns
  structs_differ : (given : List ℕ) (shape : Shape) (group : RowGroup) (columns : List Column) → HasGroup bytes t given shape group
      → AllZip (HoldsSuiting given group) (leaves_in t shape) columns → ((rows : List Row) → AreColumnsOf shape rows columns → ⊥)
      → HasSchemaMismatch bytes t

-- ---- all of them

-- What a fault says is so of these bytes, as a file for a table of this schema. Several may stand in the same bytes.
abbrev pub FaultStands : (bytes : List ℕ) → (t : Tree) → FileFault → Type 0
FaultStands bytes t BadMagic = HasNoFrame bytes
FaultStands bytes t (BadFooter fault) = HasBadFooter bytes fault
FaultStands bytes t (Codec n) = HasCodec bytes t n
FaultStands bytes t (Encoding n) = HasEncoding bytes t n
FaultStands bytes t (PageKind n) = HasPageKind bytes t n
FaultStands bytes t BadOffset = HasBadOffset bytes t
FaultStands bytes t CountMismatch = HasCountMismatch bytes t
FaultStands bytes t SchemaMismatch = HasSchemaMismatch bytes t
FaultStands bytes t TooLarge = HasTooMuch bytes t
FaultStands bytes t NotUtf8 = HasBadText bytes t
FaultStands bytes t (BadPage fault) = HasBadPage bytes t fault
