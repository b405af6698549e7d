-- Signed numbers as varints, by zigzag: 0, -1, 1, -2 are 0, 1, 2, 3.
use Rattle.std.specs.Prelude.{◌≡◌, ℕ, ◌+◌, ◌*◌, ◌/◌, ◌%◌, ◌^◌, ◌<◌, ◌≤◌, ◌++◌, ◌==◌, List, Result, Ok, Err, nat_lt, if◌then◌else◌, ℤ, pos, negsuc}
use Rattle.outcomes.specs.Results.{◌>>=◌}
use Rattle.lake_bytes.specs.Varint.{SpellsNumber, varint_at}
use Rattle.lake_bytes.specs.declared.fault.ByteFault.{ByteFault}
use Rattle.lake_bytes.specs.declared.fault.ByteFault.TheVariants.{OutOfRange}

-- the number that stands for z; `negsuc n` is the number -(n + 1)
abbrev pub zigzag : ℤ → ℕ
zigzag (pos n) = 2 * n
zigzag (negsuc n) = 2 * n + 1

-- the signed number that n stands for
abbrev pub unzigzag : ℕ → ℤ
unzigzag n = if n % 2 == 0 then pos (n / 2) else negsuc (n / 2)

-- These bytes spell z, which fits so many bits.
pub record SpellsSigned (width : ℕ) (bytes : List ℕ) (z : ℤ) : Type 0 where
  pub number : SpellsNumber bytes (zigzag z)
  pub fits : zigzag z < 2 ^ width

-- a front spells a number that needs more than so many bits
pub record IsTooWide (width : ℕ) (bytes : List ℕ) : Type 0 where
  pub front : List ℕ
  pub rest : List ℕ
  pub number : ℕ
  pub spelled : SpellsNumber front number
  pub past : 2 ^ width ≤ number
  pub split : bytes ≡ front ++ rest

-- Reading a signed number of so many bits: the varint of its zigzag number, which has to fit them.
unfoldable pub signed_at : ℕ → List ℕ → Result (ℤ × List ℕ) ByteFault
signed_at width bytes = do
  number ← varint_at bytes
  if nat_lt number.0 (2 ^ width) then Ok (unzigzag number.0, number.1) else Err OutOfRange
