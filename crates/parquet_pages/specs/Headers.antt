-- What the header of a page says (Apache Parquet, parquet.thrift: PageHeader, DataPageHeader, DictionaryPageHeader).
use Rattle.std.specs.Prelude.{ℕ, ℤ, pos, Bool, true, false, Option, Some, None, Result, Ok, if◌then◌else◌}
use Rattle.std.specs.Ordering.{int_eq}
use Rattle.outcomes.specs.Results.{◌>>=◌}
use Rattle.thrift_core.specs.Tree.{Tree}
use Rattle.thrift_values.specs.declared.fault.ThriftFault.{ThriftFault}
use Rattle.thrift_core.specs.Fields.{as_integer, as_struct, needed, count}

-- The header of a page by its type. Of a data page: how many values it has, nulls among them, their encoding, and where
-- the column has levels the encoding of these.
pub data Content : Type 0 where
  data_page : (num_values : ℕ) (encoding : ℤ) (level_encoding : Option ℤ) → Content
  dictionary_page : (num_values : ℕ) (encoding : ℤ) → Content
  other_page : Content

pub record Header : Type 0 where
  pub page_type : ℤ
  pub uncompressed_page_size : ℕ
  pub compressed_page_size : ℕ
  pub content : Content

-- the encoding of the levels, which is looked at where there are levels
abbrev pub level_encoding_of : (has_levels : Bool) → Tree → Result (Option ℤ) ThriftFault
level_encoding_of true t = needed as_integer (pos 3) t >>= λ encoding. Ok (Some encoding)
level_encoding_of false t = Ok None

unfoldable pub data_page_of : (has_levels : Bool) → Tree → Result Content ThriftFault
data_page_of has_levels t = do
  num_values ← count (pos 1) t
  encoding ← needed as_integer (pos 2) t
  level_encoding ← level_encoding_of has_levels t
  Ok (data_page num_values encoding level_encoding)

unfoldable pub dictionary_page_of : Tree → Result Content ThriftFault
dictionary_page_of t = do
  num_values ← count (pos 1) t
  encoding ← needed as_integer (pos 2) t
  Ok (dictionary_page num_values encoding)

-- PageType: DATA_PAGE 0, DICTIONARY_PAGE 2. Nothing is asked of another page.
unfoldable pub content_of : (has_levels : Bool) → (page_type : ℤ) → Tree → Result Content ThriftFault
content_of has_levels page_type t =
    if int_eq page_type (pos 0) then (needed as_struct (pos 5) t >>= data_page_of has_levels) else
    (if int_eq page_type (pos 2) then (needed as_struct (pos 7) t >>= dictionary_page_of) else Ok other_page)

-- The fields are looked at by rising ids, each with its inside.
unfoldable pub header_of : (has_levels : Bool) → Tree → Result Header ThriftFault
header_of has_levels t = do
  page_type ← needed as_integer (pos 1) t
  uncompressed_page_size ← count (pos 2) t
  compressed_page_size ← count (pos 3) t
  content ← content_of has_levels page_type t
  Ok (record { page_type = page_type; uncompressed_page_size = uncompressed_page_size; compressed_page_size = compressed_page_size; content = content })
