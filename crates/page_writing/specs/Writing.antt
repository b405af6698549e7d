-- The bytes that are written for a column.
use Rattle.std.specs.Prelude.{◌≡◌, ◌≤◌, ℕ, zero, suc, ◌+◌, ◌*◌, ◌^◌, ◌==◌, ℤ, pos, All, List, [], ◌∷◌, ◌++◌, length, take, drop, flat_map, true, nat_lt, Result, Ok, Err, if◌then◌else◌}
use Rattle.std.specs.Int.{w32, w64, to_le_bytes, cast_unsigned}
use Rattle.outcomes.specs.Results.{◌>>=◌}
use Rattle.lake_bytes.specs.Hybrid.{hybrid_bytes, low_bytes}
use Rattle.thrift_core.specs.Form.{Form, int32_form, struct_form, forms}
use Rattle.thrift_core.specs.Tree.{Tree, integer, struct, fields_of}
use Rattle.thrift_core.specs.Writing.{written}
use Rattle.row_core.specs.Rows.{Value, truth, whole, text, bytes}
use Rattle.shred.specs.Columns.{Column}
use Rattle.page_cells.specs.Levels.{width_of, present}
use Rattle.row_core.specs.Conforms.{is_leaf_value, is_within}
use Rattle.parquet_pages.specs.Pages.{Leaf, highest}
use Rattle.page_cells.specs.Plain.{behind_length, bytes_for_bits}
use Rattle.page_cells.specs.Types.{physical_type, primitive_of}
use Rattle.parquet_footer.specs.declared.fault.FileFault.{FileFault}
use Rattle.parquet_footer.specs.declared.fault.FileFault.TheVariants.{TooLarge}
use Rattle.page_cells.specs.declared.types.LeafType.{LeafType}
use Rattle.page_cells.specs.declared.types.PhysicalType.{PhysicalType}
use Rattle.page_cells.specs.declared.types.PhysicalType.TheVariants.{Boolean, Int32, Int64, ByteArray}

-- ---- values

-- a value that isn't a truth value; nothing of one that isn't of the type
abbrev pub value_bytes : PhysicalType → Value → List ℕ
value_bytes Int32 (whole z) = if is_within (2 ^ 31) z then to_le_bytes w32 (cast_unsigned w32 z) else []
value_bytes Int64 (whole z) = to_le_bytes w64 (cast_unsigned w64 z)
value_bytes ByteArray (text s) = behind_length s
value_bytes ByteArray (bytes s) = behind_length s
value_bytes type v = []

-- the bit of a truth value
abbrev pub bit_of : Value → ℕ
bit_of (truth true) = 1
bit_of v = 0

-- the bits of truth values as a number, the first one lowest
abbrev pub packed_bits : List Value → ℕ
packed_bits [] = 0
packed_bits (v ∷ vs) = bit_of v + 2 * packed_bits vs

abbrev pub plain_bytes : PhysicalType → List Value → List ℕ
plain_bytes Boolean values = low_bytes (bytes_for_bits (length values)) (packed_bits values)
plain_bytes type values = flat_map (value_bytes type) values

-- ---- levels

-- behind their length, where there are levels
unfoldable pub level_bytes : (top : ℕ) → List ℕ → List ℕ
level_bytes top levels = if top == 0 then [] else behind_length (hybrid_bytes (width_of top) levels)

-- ---- a page

abbrev pub header_form : Form
header_form = struct_form (forms ((pos 1, int32_form) ∷ (pos 2, int32_form) ∷ (pos 3, int32_form) ∷ (
  pos 5,
  struct_form (forms ((pos 1, int32_form) ∷ (pos 2, int32_form) ∷ (pos 3, int32_form) ∷ (pos 4, int32_form) ∷ [])),
) ∷ []))

abbrev pub number_field : (id number : ℕ) → ℤ × Tree
number_field id number = (pos id, integer (pos number))

-- An uncompressed data page of so many values in PLAIN, of so many bytes. Both kinds of levels are given as RLE.
abbrev pub header_tree : (num_values size : ℕ) → Tree
header_tree num_values size = struct (fields_of (number_field 1 0 ∷ number_field 2 size ∷ number_field 3 size ∷ (
  pos 5,
  struct (fields_of (number_field 1 num_values ∷ number_field 2 0 ∷ number_field 3 3 ∷ number_field 4 3 ∷ [])),
) ∷ []))

abbrev pub body_bytes : LeafType → (top : ℕ) → Column → List ℕ
body_bytes type top c = level_bytes top c.levels ++ plain_bytes (physical_type type) c.values

abbrev pub page_bytes : LeafType → (top : ℕ) → Column → List ℕ
page_bytes type top c =
    written header_form (header_tree (length c.levels) (length (body_bytes type top c))) ++ body_bytes type top c

-- ---- a chunk

-- the first levels, as many as one page has at most, and their values
abbrev pub first_page : (top : ℕ) → Column → Column
first_page top c = record { levels = take 4096 c.levels; values = take (present top (take 4096 c.levels)) c.values }

abbrev pub other_pages : (top : ℕ) → Column → Column
other_pages top c = record { levels = drop 4096 c.levels; values = drop (present top (take 4096 c.levels)) c.values }

-- a page's bytes, but for a page whose body passes 64 MiB
unfoldable pub page_written : LeafType → (top : ℕ) → Column → Result (List ℕ) FileFault
page_written type top c =
    if nat_lt 67108864 (length (body_bytes type top c)) then Err TooLarge else Ok (page_bytes type top c)

-- Pages of 4,096 rows, and a last one with the rest. There are at most as many as levels.
unfoldable pub pages_written : (most : ℕ) → LeafType → (top : ℕ) → Column → Result (List ℕ) FileFault
pages_written zero type top c = Ok []
pages_written (suc most) type top c = if length c.levels == 0 then Ok [] else (do
  first ← page_written type top (first_page top c)
  others ← pages_written most type top (other_pages top c)
  Ok (first ++ others))

abbrev pub chunk_written : LeafType → (top : ℕ) → Column → Result (List ℕ) FileFault
chunk_written type top c = pages_written (length c.levels) type top c

-- A column that pages can hold: no level is above the highest, each highest level has a value, and these are of the
-- leaf's type, in its range.
pub record IsWhole (l : Leaf) (c : Column) : Type 0 where
  pub none_above : All (λ level. level ≤ highest l) c.levels
  pub value_each : present (highest l) c.levels ≡ length c.values
  pub of_type : All (λ v. is_leaf_value (primitive_of l.leaf_type) v ≡ true) c.values
