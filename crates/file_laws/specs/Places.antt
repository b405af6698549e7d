-- Where in a file something is looked at: a leaf's chunk in a row group, a page in a chunk, a page's header, and the
-- levels and values in a page (Apache Parquet, File Format).
use Rattle.std.specs.Prelude.{◌≡◌, ℕ, ◌-◌, ◌<◌, ◌≤◌, pos, List, ◌++◌, length, drop, Contains, Some, Ok, Err}
use Rattle.thrift_core.specs.Reading.{struct_at}
use Rattle.thrift_core.specs.Spelling.{SpellsStruct}
use Rattle.thrift_core.specs.Tree as thrift
use Rattle.thrift_values.specs.declared.fault.ThriftFault.{ThriftFault}
use Rattle.schema_tree.specs.Tree.{Tree}
use Rattle.row_assembly.specs.Columns.{Column}
use Rattle.row_assembly.specs.Shape.{Shape}
use Rattle.parquet_footer.specs.Footer.{FooterSays}
use Rattle.parquet_footer.specs.Frame.{FramedAs}
use Rattle.parquet_footer.specs.Metadata.{ColumnChunk, RowGroup, FileMetaData}
use Rattle.parquet_pages.specs.Headers.{Header, header_of}
use Rattle.parquet_pages.specs.Pages.{IsPage, Leaf, Suits, has_levels, plain_header}
use Rattle.parquet_pages.specs.Reading.{cells_at}
use Rattle.parquet_schema.specs.Fitting.{fitted_list}
use Rattle.parquet_schema.specs.Leaves.{LeafIn, leaves_in}
use Rattle.parquet_file.specs.File.{HoldsColumn, IsChunkOf, leaf_of}

-- ---- structs

-- No front of the bytes is a Thrift struct, and this fault is the first one from the left.
pub record HasNoStruct (bytes : List ℕ) (fault : ThriftFault) : Type 0 where
  pub none : (front rest : List ℕ) (tree : thrift.Tree) → bytes ≡ front ++ rest → SpellsStruct front tree → ⊥
  pub first : struct_at bytes ≡ Err fault

-- A front of the bytes is this Thrift struct, and these bytes stand behind it.
pub record BeginsWithStruct (bytes : List ℕ) (tree : thrift.Tree) (behind : List ℕ) : Type 0 where
  pub front : List ℕ
  pub spelled : SpellsStruct front tree
  pub parts : bytes ≡ front ++ behind

-- ---- chunks

-- The file is framed, these bytes stand before its footer, and the footer says this of the file.
pub record Opens (bytes given : List ℕ) (metadata : FileMetaData) : Type 0 where
  pub footer : List ℕ
  pub framed : FramedAs bytes given footer
  pub says : FooterSays footer metadata

-- The file's columns are the table's, whose rows have this shape in the file. This is one of its row groups.
pub record HasGroup (bytes : List ℕ) (t : Tree) (given : List ℕ) (shape : Shape) (group : RowGroup) : Type 0 where
  pub metadata : FileMetaData
  pub opens : Opens bytes given metadata
  pub fits : fitted_list t metadata.schema ≡ Some shape
  pub inside : Contains metadata.row_groups group

-- This is one of the table's leaves, in a row group.
pub record HasLeaf (bytes : List ℕ) (t : Tree) (given : List ℕ) (group : RowGroup) (l : LeafIn) : Type 0 where
  pub shape : Shape
  pub has : HasGroup bytes t given shape group
  pub inside : Contains (leaves_in t shape) l

-- This is the chunk of one of the table's leaves in a row group: the group's first chunk with the leaf's path.
pub record HasChunk (bytes : List ℕ) (t : Tree) (given : List ℕ) (group : RowGroup) (l : LeafIn) (chunk : ColumnChunk) : Type 0 where
  pub leaf : HasLeaf bytes t given group l
  pub found : IsChunkOf l.names group.columns chunk

-- The pages of the leaf's chunk hold this column, which suits the leaf.
abbrev pub HoldsSuiting : (given : List ℕ) → RowGroup → LeafIn → Column → Type 0
HoldsSuiting given group l c = HoldsColumn given group.columns l c × Suits (leaf_of l) c

-- ---- pages

-- A place in the bytes before the footer at which a page of a leaf begins, and how many of its chunk's values no page
-- before it has.
pub record PagePlace : Type 0 where
  pub given : List ℕ
  pub leaf : LeafIn
  pub place : ℕ
  pub left : ℕ

-- From a chunk's first place, where all its values are left, data pages that suit the table stand one behind the other
-- up to this place, where so many values are left.
pub data IsReached (l : Leaf) (given : List ℕ) (first all : ℕ) : (place left : ℕ) → Type 0 where
  at_first : IsReached l given first all first all
  behind_page : (place left next : ℕ) (c : Column) → IsReached l given first all place left → IsPage l given place c next → Suits l c
      → length c.levels ≤ left → IsReached l given first all next (left - length c.levels)

-- Here a page is looked for: its chunk isn't compressed, the chunk's first page begins at byte 4 or behind it, the
-- pages up to here can be read, and a value is left.
pub record MeetsPage (bytes : List ℕ) (t : Tree) (p : PagePlace) : Type 0 where
  pub group : RowGroup
  pub chunk : ColumnChunk
  pub has : HasChunk bytes t p.given group p.leaf chunk
  pub uncompressed : chunk.codec ≡ pos 0
  pub first : ℕ
  pub stated : chunk.data_page_offset ≡ pos first
  pub behind_magic : 4 ≤ first
  pub reached : IsReached (leaf_of p.leaf) p.given first chunk.num_values p.place p.left
  pub wanted : 0 < p.left

-- A page begins here, before the footer, with this header, and these bytes stand behind the header.
pub record HasHeader (bytes : List ℕ) (t : Tree) (p : PagePlace) (header : Header) (behind : List ℕ) : Type 0 where
  pub met : MeetsPage bytes t p
  pub inside : p.place < length p.given
  pub tree : thrift.Tree
  pub begins : BeginsWithStruct (drop p.place p.given) tree behind
  pub says : header_of (has_levels (leaf_of p.leaf)) tree ≡ Ok header

-- The page is an uncompressed data page of so many values, nulls counted, in PLAIN, with its definition levels in RLE,
-- if the leaf has any. This is its body, which ends before the footer.
pub record HasBody (bytes : List ℕ) (t : Tree) (p : PagePlace) (count : ℕ) (body : List ℕ) : Type 0 where
  pub header : Header
  pub behind : List ℕ
  pub has : HasHeader bytes t p header behind
  pub plain : header ≡ plain_header (leaf_of p.leaf) count (length body)
  pub after : List ℕ
  pub parts : behind ≡ body ++ after

-- The body of the page has these levels and values, and these bytes behind them.
pub record HasPageCells (bytes : List ℕ) (t : Tree) (p : PagePlace) (c : Column) (rest : List ℕ) : Type 0 where
  pub count : ℕ
  pub body : List ℕ
  pub has : HasBody bytes t p count body
  pub cells : cells_at p.leaf.leaf_type (length p.leaf.nullable) count body ≡ Ok (c, rest)
