-- The frame of a file: the two parts between its magic bytes, found from its end (Parquet, File Format).
use Rattle.std.specs.Prelude.{◌≡◌, ℕ, ◌-◌, ◌<◌, ◌^◌, List, ◌++◌, length, take, drop, Bool, not, ◌&&◌, nat_lt, bytes_eq, codes, Result, Ok, Err, if◌then◌else◌}
use Rattle.std.specs.Int.{w32, to_le_bytes, from_le_bytes}
use Rattle.lake_bytes.specs.declared.fault.ByteFault.TheVariants.{Short}
use Rattle.thrift_values.specs.declared.fault.ThriftFault.TheVariants.{Bytes}
use Rattle.parquet_footer.specs.declared.fault.FileFault.{FileFault}
use Rattle.parquet_footer.specs.declared.fault.FileFault.TheVariants.{BadMagic, BadFooter, TooLarge}

-- the bytes at both ends of a file
abbrev pub magic : List ℕ
magic = codes "PAR1"

-- The file is `magic`, the pages, the footer, its length in four bytes, and `magic`.
abbrev pub framed : List ℕ → List ℕ → List ℕ
framed pages footer = magic ++ (pages ++ (footer ++ (to_le_bytes w32 (length footer) ++ magic)))

-- The bytes are framed: this front is the magic bytes and the pages, and this is the footer.
pub record FramedAs (bytes front footer : List ℕ) : Type 0 where
  pub pages : List ℕ
  pub begins : front ≡ magic ++ pages
  pub frame : bytes ≡ framed pages footer
  pub length_fits : length footer < 2 ^ 32

-- at least the 12 bytes of a frame, with the magic bytes at both ends
abbrev pub is_framed : List ℕ → Bool
is_framed bytes = not (nat_lt (length bytes) 12) && (bytes_eq (take 4 bytes) magic && bytes_eq (drop (length bytes - 4) bytes) magic)

-- the bytes before the footer's length
abbrev pub front_of : List ℕ → List ℕ
front_of bytes = take (length bytes - 8) bytes

-- the footer's length, as the file states it
abbrev pub footer_length : List ℕ → ℕ
footer_length bytes = from_le_bytes w32 (take 4 (drop (length bytes - 8) bytes))

-- The bytes before the footer, with the magic bytes in front, and the footer.
unfoldable pub frame_of : List ℕ → Result (List ℕ × List ℕ) FileFault
frame_of bytes =
    if nat_lt 67108864 (length bytes) then Err TooLarge else
    (if not (is_framed bytes) then Err BadMagic else
    (if nat_lt (length bytes - 12) (footer_length bytes) then Err (BadFooter (Bytes Short)) else
    Ok (take (length bytes - 8 - footer_length bytes) bytes, drop (length bytes - 8 - footer_length bytes) (front_of bytes))))
