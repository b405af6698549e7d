-- The hybrid of equal and of packed values, from its first run on (Apache Parquet, "Run Length Encoding / Bit-Packing
-- Hybrid").
use Rattle.std.specs.Prelude.{◌≡◌, ℕ, zero, suc, ◌+◌, ◌-◌, ◌*◌, ◌/◌, ◌%◌, ◌^◌, ◌<◌, ◌≤◌, ◌==◌, List, [], ◌∷◌, ◌++◌, length, take, replicate, flat_map, Result, Ok, Err, if◌then◌else◌, Vec}
use Rattle.lake_bytes.specs.Reading.{bytes_at}
use Rattle.outcomes.specs.Results.{◌>>=◌}
use Rattle.lake_bytes.specs.Varint.{SpellsNumber, varint_at, varint_bytes}
use Rattle.lake_bytes.specs.declared.fault.ByteFault.{ByteFault}
use Rattle.lake_bytes.specs.declared.fault.ByteFault.TheVariants.{BadRun}
use Rattle.lake_bytes.specs.declared.run.HybridError.{HybridError}
use Rattle.lake_bytes.specs.declared.run.HybridError.TheVariants.{Memory, Fault}
use Rattle.lake_bytes.specs.declared.run.Run.{Run}
use Rattle.std.specs.declared.alloc.Global.{Global}

-- how many whole bytes a value of so many bits takes
abbrev pub bytes_for : (width : ℕ) → ℕ
bytes_for width = (width + 7) / 8

-- the number that bytes stand for, the low byte first
abbrev pub low_first : List ℕ → ℕ
low_first [] = 0
low_first (byte ∷ bytes) = byte + 256 * low_first bytes

-- so many values of so many bits each, from the low end of a number on
unfoldable pub unpacked : (width count : ℕ) → ℕ → List ℕ
unpacked width zero packed = []
unpacked width (suc count) packed = packed % 2 ^ width ∷ unpacked width count (packed / 2 ^ width)

-- These bytes are one run of values of so many bits: a varint, and behind it a value that stands so often as half the
-- varint says; or, where the varint is odd, so many groups of eight packed values. No run is empty.
pub data IsRun (width : ℕ) : List ℕ → List ℕ → Type 0 where
  repeated : (count : ℕ) (header body : List ℕ) → 0 < count → SpellsNumber header (2 * count)
      → length body ≡ bytes_for width → IsRun width (header ++ body) (replicate count (low_first body))
  packed : (groups : ℕ) (header body : List ℕ) → 0 < groups → SpellsNumber header (2 * groups + 1)
      → length body ≡ groups * width → IsRun width (header ++ body) (unpacked width (8 * groups) (low_first body))

-- These bytes are runs of these values, one behind the other.
pub data AreRuns (width : ℕ) : List ℕ → List ℕ → Type 0 where
  no_run : AreRuns width [] []
  run : (first others values more : List ℕ) → IsRun width first values → AreRuns width others more
      → AreRuns width (first ++ others) (values ++ more)

-- A front of the bytes is runs of at least so many values, and these are the first so many.
pub record HoldsValues (width count : ℕ) (bytes values : List ℕ) : Type 0 where
  pub front : List ℕ
  pub rest : List ℕ
  pub all : List ℕ
  pub split : bytes ≡ front ++ rest
  pub runs : AreRuns width front all
  pub enough : count ≤ length all
  pub first : values ≡ take count all

-- ---- reading from the left

-- the values of the run in front, and the bytes behind it
unfoldable pub run_at : (width : ℕ) → List ℕ → Result (List ℕ × List ℕ) ByteFault
run_at width bytes = do
  header ← varint_at bytes
  if header.0 / 2 == 0 then Err BadRun else (if header.0 % 2 == 0
      then (bytes_at (bytes_for width) header.1 >>= λ body. Ok (replicate (header.0 / 2) (low_first body.0), body.1))
      else (bytes_at (header.0 / 2 * width) header.1
      >>= λ body. Ok (unpacked width (8 * (header.0 / 2)) (low_first body.0), body.1)))

-- So many values, and the bytes behind the run that has the last of them. No run is empty, so there are at most as
-- many runs as values.
unfoldable pub runs_at : (most width wanted : ℕ) → List ℕ → Result (List ℕ × List ℕ) ByteFault
runs_at most width zero bytes = Ok ([], bytes)
runs_at zero width (suc wanted) bytes = Err BadRun
runs_at (suc most) width (suc wanted) bytes = do
  first ← run_at width bytes
  others ← runs_at most width (suc wanted - length first.0) first.1
  Ok (take (suc wanted) first.0 ++ others.0, others.1)

abbrev pub hybrid_at : (width count : ℕ) → List ℕ → Result (List ℕ × List ℕ) ByteFault
hybrid_at width count bytes = runs_at count width count bytes

-- ---- values as the code keeps them

-- the values of runs
abbrev pub values_of : List Run → List ℕ
values_of runs = flat_map (λ equal. replicate equal.count equal.value) runs

-- what a call of a cursor answered, and the bytes that are left, are what reading gives, unless memory ran out; a
-- refusal leaves all bytes
abbrev pub Reads : Result (List ℕ × List ℕ) ByteFault → List ℕ → Result (Vec Run Global) HybridError → List ℕ → Type 0
Reads read old (Ok runs) new = read ≡ Ok (values_of runs.items, new)
Reads read old (Err Memory) new = new ≡ old
Reads read old (Err (Fault fault)) new = (read ≡ Err fault) × (new ≡ old)

-- ---- what is written

-- so many bytes of a number, the low byte first
unfoldable pub low_bytes : (count : ℕ) → ℕ → List ℕ
low_bytes zero number = []
low_bytes (suc count) number = number % 256 ∷ low_bytes count (number / 256)

-- so many equal values
abbrev pub run_bytes : (width : ℕ) → Run → List ℕ
run_bytes width equal = varint_bytes (2 * equal.count) ++ low_bytes (bytes_for width) equal.value

-- a value in front of runs: one more of the first run where it is the same
abbrev pub with_value : ℕ → List Run → List Run
with_value value [] = record { value = value; count = 1 } ∷ []
with_value value (equal ∷ runs) = if equal.value == value
    then record { value = value; count = suc equal.count } ∷ runs
    else record { value = value; count = 1 } ∷ equal ∷ runs

-- the values as runs of equal ones, as few as there can be
abbrev pub grouped : List ℕ → List Run
grouped [] = []
grouped (value ∷ values) = with_value value (grouped values)

-- the bytes of these values, as runs of equal ones
unfoldable pub hybrid_bytes : (width : ℕ) → List ℕ → List ℕ
hybrid_bytes width values = flat_map (run_bytes width) (grouped values)
