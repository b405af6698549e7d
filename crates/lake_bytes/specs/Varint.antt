-- Unsigned varints, as in the Thrift compact protocol (ULEB128): seven bits a byte, the low group first.
use Rattle.std.specs.Prelude.{◌≡◌, ℕ, zero, suc, ◌+◌, ◌-◌, ◌*◌, ◌/◌, ◌%◌, ◌^◌, ◌<◌, ◌≤◌, List, [], ◌∷◌, ◌++◌, length, take, All, Result, Ok, Err, nat_lt, if◌then◌else◌}
use Rattle.outcomes.specs.Results.{◌>>=◌}
use Rattle.lake_bytes.specs.declared.fault.ByteFault.{ByteFault}
use Rattle.lake_bytes.specs.declared.fault.ByteFault.TheVariants.{Short, VarintTooLong, OutOfRange}

-- These bytes spell n. A byte below 128 is the last one, and stands for itself. A byte from 128 on has the
-- low seven bits, and the bytes after it spell the rest.
abbrev pub IsVarint : List ℕ → ℕ → Type 0
IsVarint [] n = ⊥
IsVarint (b ∷ []) n = (b < 128) × (n ≡ b)
IsVarint (b ∷ c ∷ bytes) n = (128 ≤ b) × (b < 256) × (high : ℕ) × IsVarint (c ∷ bytes) high × (n ≡ (b - 128) + 128 * high)

-- These bytes spell n within the limits: at most ten bytes, and a number of 64 bits.
pub record SpellsNumber (bytes : List ℕ) (n : ℕ) : Type 0 where
  pub varint : IsVarint bytes n
  pub within_ten : length bytes ≤ 10
  pub in_range : n < 2 ^ 64

-- each byte says that another one follows
abbrev pub AllContinue : List ℕ → Type 0
AllContinue bytes = All (λ b. 128 ≤ b) bytes

-- the bytes end before the varint does
pub record IsCutShort (bytes : List ℕ) : Type 0 where
  pub continues : AllContinue bytes
  pub below_ten : length bytes < 10

-- the tenth byte says that another one follows
pub record GoesPastTen (bytes : List ℕ) : Type 0 where
  pub ten : 10 ≤ length bytes
  pub continues : AllContinue (take 10 bytes)

-- a front of at most ten bytes spells a number that needs more than 64 bits
pub record IsTooLarge (bytes : List ℕ) : Type 0 where
  pub front : List ℕ
  pub rest : List ℕ
  pub number : ℕ
  pub varint : IsVarint front number
  pub within_ten : length front ≤ 10
  pub past : 2 ^ 64 ≤ number
  pub split : bytes ≡ front ++ rest

-- Reading a varint of at most so many bytes from the left: the number and the bytes behind it, or the fault.
unfoldable pub groups_at : ℕ → List ℕ → Result (ℕ × List ℕ) ByteFault
groups_at zero bytes = Err VarintTooLong
groups_at (suc most) [] = Err Short
groups_at (suc most) (b ∷ bytes) = if nat_lt b 128 then Ok (b, bytes) else (do
  high ← groups_at most bytes
  if nat_lt ((b - 128) + 128 * high.0) (2 ^ 64) then Ok ((b - 128) + 128 * high.0, high.1) else Err OutOfRange)

unfoldable pub varint_at : List ℕ → Result (ℕ × List ℕ) ByteFault
varint_at bytes = groups_at 10 bytes

-- the shortest spelling of n, in at most so many bytes
unfoldable pub groups_of : ℕ → ℕ → List ℕ
groups_of zero n = []
groups_of (suc most) n = if nat_lt n 128 then n ∷ [] else (128 + n % 128) ∷ groups_of most (n / 128)

-- the shortest spelling of a number of 64 bits
unfoldable pub varint_bytes : ℕ → List ℕ
varint_bytes n = groups_of 10 n
