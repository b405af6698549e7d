-- What the private functions of this crate promise one another.
use Rattle.std.specs.Prelude.{ℕ, ◌+◌, ◌*◌, ◌^◌, ◌<◌}
use Rattle.lake_bytes.specs.Hybrid.{low_first}
use Rattle.outcomes.specs.Outcome.{Said, refuses, says_nothing}
use Rattle.lake_bytes.specs.declared.fault.ByteFault.{ByteFault}
use Rattle.lake_bytes.specs.declared.hybrid.Bits.{Bits}
use Rattle.lake_bytes.specs.declared.run.HybridError.{HybridError}
use Rattle.lake_bytes.specs.declared.run.HybridError.TheVariants.{Memory, Fault}

-- what a bit reader has left: the bits that it holds, and behind them its bytes
abbrev pub number_left : Bits → ℕ
number_left bits = bits.buffer + 2 ^ bits.held * low_first bits.rest.now

-- it holds no other bits than it says, and no more than a call asks for and one byte
pub record IsHeld (bits : Bits) : Type 0 where
  pub fits : bits.buffer < 2 ^ bits.held
  pub few : bits.held < 40

-- what an error says of the bytes
abbrev pub says : HybridError → Said ByteFault
says Memory = says_nothing
says (Fault fault) = refuses fault
