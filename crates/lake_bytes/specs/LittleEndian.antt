-- Numbers of four and eight bytes, the low byte first.
use Rattle.std.specs.Prelude.{ℕ, List, length, take, drop, Result, Ok, Err, nat_lt, if◌then◌else◌, ℤ}
use Rattle.std.specs.Int.{Width, byte_len, from_le_bytes, cast_signed}
use Rattle.outcomes.specs.Results.{◌>>=◌}
use Rattle.lake_bytes.specs.declared.fault.ByteFault.{ByteFault}
use Rattle.lake_bytes.specs.declared.fault.ByteFault.TheVariants.{Short}

-- the number in the first bytes, as many as its width has, and the bytes behind them
unfoldable pub little_at : Width → List ℕ → Result (ℕ × List ℕ) ByteFault
little_at width bytes = if nat_lt (length bytes) (byte_len width) then Err Short else Ok (from_le_bytes width (take (byte_len width) bytes), drop (byte_len width) bytes)

-- the same in two's complement
unfoldable pub signed_little_at : Width → List ℕ → Result (ℤ × List ℕ) ByteFault
signed_little_at width bytes = do
  number ← little_at width bytes
  Ok (cast_signed width number.0, number.1)
