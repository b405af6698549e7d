-- Which bytes are the data pages of a column (Apache Parquet, "Data Pages" and "Column Chunks").
use Rattle.std.specs.Prelude.{◌≡◌, ℕ, ◌+◌, ◌<◌, ◌≤◌, ◌==◌, ℤ, pos, List, [], ◌++◌, length, All, Bool, true, not, Option, Some, None, Ok, if◌then◌else◌}
use Rattle.thrift_core.specs.Spelling.{SpellsStruct}
use Rattle.thrift_core.specs.Tree.{Tree}
use Rattle.row_core.specs.Conforms.{is_leaf_value}
use Rattle.shred.specs.Columns.{Column}
use Rattle.parquet_pages.specs.Headers.{Header, data_page, header_of}
use Rattle.page_cells.specs.Levels.{AreLevels, may_stand, present}
use Rattle.page_cells.specs.Plain.{IsPlain}
use Rattle.page_cells.specs.Texts.{is_proper}
use Rattle.page_cells.specs.Types.{physical_type, primitive_of}
use Rattle.page_cells.specs.declared.types.LeafType.{LeafType}

-- The values of a leaf in a file: its type, and for each node on the way to it that may be null in the file, from the
-- top, whether the table lets it be null. The highest level is their number.
pub record Leaf : Type 0 where
  pub leaf_type : LeafType
  pub nullable : List Bool

abbrev pub highest : Leaf → ℕ
highest l = length l.nullable

-- These bytes are the levels of this part of the column, and then its values: one for each highest level.
pub record IsBody (l : Leaf) (body : List ℕ) (c : Column) : Type 0 where
  pub level_bytes : List ℕ
  pub value_bytes : List ℕ
  pub parts : body ≡ level_bytes ++ value_bytes
  pub levels : AreLevels (highest l) level_bytes c.levels
  pub values : IsPlain (physical_type l.leaf_type) value_bytes c.values
  pub value_each : present (highest l) c.levels ≡ length c.values

-- RLE, where there are levels
abbrev pub rle_where : (has_levels : Bool) → Option ℤ
rle_where has_levels = if has_levels then Some (pos 3) else None

abbrev pub has_levels : Leaf → Bool
has_levels l = not (highest l == 0)

-- the header of an uncompressed data page of so many values in PLAIN, of so many bytes
abbrev pub plain_header : Leaf → (num_values size : ℕ) → Header
plain_header l num_values size = record { page_type = pos 0; uncompressed_page_size = size; compressed_page_size = size; content = data_page num_values (pos 0) (rle_where (has_levels l)) }

-- In these bytes a data page begins at this place, which holds this part of the column and nothing behind it; what
-- follows it begins at `next`.
pub record IsPage (l : Leaf) (given : List ℕ) (place : ℕ) (c : Column) (next : ℕ) : Type 0 where
  pub before : List ℕ
  pub header : List ℕ
  pub body : List ℕ
  pub behind : List ℕ
  pub parts : given ≡ before ++ (header ++ (body ++ behind))
  pub tree : Tree
  pub spelled : SpellsStruct header tree
  pub says : header_of (has_levels l) tree ≡ Ok (plain_header l (length c.levels) (length body))
  pub holds : IsBody l body c
  pub begins : place ≡ length before
  pub ends : next ≡ place + length header + length body

-- a part of a column, and one behind it
abbrev pub joined : Column → Column → Column
joined a b = record { levels = a.levels ++ b.levels; values = a.values ++ b.values }

abbrev pub no_cells : Column
no_cells = record { levels = []; values = [] }

-- In these bytes pages stand one behind the other from this place on, which hold this column. Behind the last level no
-- page is looked at.
pub data ArePages (l : Leaf) (given : List ℕ) : ℕ → Column → Type 0 where
  no_page : (place : ℕ) → ArePages l given place no_cells
  page : (place next : ℕ) (first others : Column) → IsPage l given place first next → ArePages l given next others
      → 0 < length (joined first others).levels → ArePages l given place (joined first others)

-- The pages of a chunk hold this column. They begin at the place that the chunk states, which isn't before byte 4. A
-- chunk without levels has no page.
pub data ChunkHolds (l : Leaf) (given : List ℕ) (stated : ℤ) : Column → Type 0 where
  without_rows : ChunkHolds l given stated no_cells
  from_place : (place : ℕ) (c : Column) → stated ≡ pos place → 4 ≤ place → ArePages l given place c → ChunkHolds l given stated c

-- ---- what a table lets a leaf hold

-- The values are of the leaf's type, in its range, and their texts are UTF-8; nulls stand where the table has them.
pub record Suits (l : Leaf) (c : Column) : Type 0 where
  pub of_type : All (λ v. is_leaf_value (primitive_of l.leaf_type) v ≡ true) c.values
  pub proper : All (λ v. is_proper v ≡ true) c.values
  pub nulls : All (λ level. may_stand l.nullable level ≡ true) c.levels
