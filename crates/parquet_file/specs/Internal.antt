-- What private contracts speak of.
use Rattle.std.specs.Prelude.{◌≡◌, ℕ, ◌<◌, ◌≤◌, pos, All, List, [], ◌∷◌, length, map, ◌==◌, ◌&&◌, not, Bool, true, false, Option, Some, None, Result, Ok}
use Rattle.std.specs.List.{list_all}
use Rattle.std.specs.Ordering.{int_eq}
use Rattle.outcomes.specs.Results.{◌>>=◌, or_refusal, refused_if}
use Rattle.parquet_footer.specs.Metadata.{ColumnChunk, RowGroup}
use Rattle.parquet_footer.specs.declared.fault.FileFault.{FileFault}
use Rattle.parquet_footer.specs.declared.fault.FileFault.TheVariants.{Codec, SchemaMismatch}
use Rattle.parquet_schema.specs.Leaves.{LeafIn, leaves_in}
use Rattle.row_core.specs.Rows.{Row}
use Rattle.row_core.specs.declared.value.Value.{Value}
use Rattle.schema_tree.specs.Tree.{Tree}
use Rattle.shred.specs.Columns.{Column, column}
use Rattle.shred.specs.Parts.{ArePlain}
use Rattle.shred.specs.Shape.{Shape, leaf, struct, Fields, no_fields, field}
use Rattle.shred.specs.Ways.{Step, highest, ways}
use Rattle.shred.specs.declared.columns.ColumnPart.{ColumnPart}
use Rattle.parquet_pages.specs.Held.{at_hand, AreLeft}
use Rattle.parquet_pages.specs.Parts.{IsPartOf}
use Rattle.parquet_pages.specs.declared.reader.ColumnReader.{ColumnReader}
use Rattle.parquet_file.specs.File.{leaf_of}
use Rattle.parquet_file.specs.Reading.{chunk_named}

-- the first chunk with this path, which isn't compressed
abbrev pub plain_chunk_named : List (List ℕ) → List ColumnChunk → Result ColumnChunk FileFault
plain_chunk_named path chunks = or_refusal (chunk_named path chunks) SchemaMismatch >>= λ chunk. refused_if (not (int_eq chunk.codec (pos 0))) (Codec chunk.codec) >>= λ plain. Ok chunk

-- whether there is a chunk of the leaf, which has as many values as the group has rows
abbrev pub counts : ℕ → Option ColumnChunk → Bool
counts rows None = false
counts rows (Some chunk) = chunk.num_values == rows

abbrev pub is_counted : RowGroup → LeafIn → Bool
is_counted group l = counts group.num_rows (chunk_named l.names group.columns)

abbrev pub are_counted : RowGroup → List LeafIn → Bool
are_counted group leaves = list_all (is_counted group) leaves

-- This is kept of the leaves' columns, one for each leaf.
abbrev pub ArePartsOf : (first most : ℕ) → List LeafIn → List (ColumnPart Value) → List Column → Type 0
ArePartsOf first most [] [] [] = Unit {0}
ArePartsOf first most (l ∷ ls) (p ∷ ps) (c ∷ cs) = IsPartOf (leaf_of l) first most p c × ArePartsOf first most ls ps cs
ArePartsOf first most _ _ _ = ⊥

-- Each reader, one for each leaf, has the column of its leaf left.
abbrev pub AreAllLeft : List LeafIn → List ColumnReader → List Column → Type 0
AreAllLeft [] [] [] = Unit {0}
AreAllLeft (l ∷ ls) (r ∷ rs) (c ∷ cs) = AreLeft (leaf_of l) r c × AreAllLeft ls rs cs
AreAllLeft _ _ _ = ⊥

-- Each reader has so many cells at hand.
abbrev pub AreAtHand : ℕ → List ColumnReader → Type 0
AreAtHand count readers = All (λ r. count ≤ at_hand r) readers

abbrev pub HasLevels : Column → Type 0
HasLevels c = 0 < length c.levels

-- the highest level of each leaf
abbrev pub levels_of : List LeafIn → List ℕ
levels_of leaves = map (λ l. length l.nullable) leaves

-- The leaves of a table in a file where its rows have this shape: one for each way, of the way's highest level, and at
-- least one.
pub record AreLeavesOf (t : Tree) (shape : Shape) (leaves : List LeafIn) : Type 0 where
  pub are : leaves ≡ leaves_in t shape
  pub levels : levels_of leaves ≡ map highest (ways shape)
  pub some : 0 < length leaves

-- the column that was found, or that of no rows
abbrev pub column_or_none : Option Column → Column
column_or_none (Some c) = c
column_or_none None = record { levels = []; values = [] }

-- the column of the leaf at the end of a way, and those at the ends of several
abbrev pub column_along : List Step → List Row → Column
column_along way rows = column_or_none (column way rows)

abbrev pub columns_along : List (List Step) → List Row → List Column
columns_along ways rows = map (λ way. column_along way rows) ways

-- ---- rows whose columns stand side by side

abbrev pub is_leaf : Shape → Bool
is_leaf leaf = true
is_leaf (struct fs) = false

abbrev pub are_leaves : Fields → Bool
are_leaves no_fields = true
are_leaves (field name optional s fs) = is_leaf s && are_leaves fs

-- no field is a struct
abbrev pub is_flat : Shape → Bool
is_flat leaf = false
is_flat (struct fs) = are_leaves fs

-- No level is above the highest, and no value is null or a struct.
pub record IsSoundColumn (top : ℕ) (c : Column) : Type 0 where
  pub below : All (λ level. level ≤ top) c.levels
  pub plain : ArePlain c

-- each column is sound, one for each highest level
abbrev pub AreSoundColumns : List ℕ → List Column → Type 0
AreSoundColumns [] [] = Unit {0}
AreSoundColumns (top ∷ tops) (c ∷ cs) = IsSoundColumn top c × AreSoundColumns tops cs
AreSoundColumns _ _ = ⊥
