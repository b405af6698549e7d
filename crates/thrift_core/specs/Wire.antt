-- The types that the Thrift compact protocol numbers.
use Rattle.std.specs.Prelude.{◌≡◌, ℕ, ◌<◌, Result, Ok, Err, ◌==◌, ◌||◌, if◌then◌else◌}
use Rattle.thrift_values.specs.declared.fault.ThriftFault.{ThriftFault}
use Rattle.thrift_values.specs.declared.fault.ThriftFault.TheVariants.{BadType}
use Rattle.thrift_core.specs.declared.wire.WireType.{WireType}
use Rattle.thrift_core.specs.declared.wire.WireType.TheVariants as wire

-- the type that a number announces
unfoldable pub announced : ℕ → Result WireType ThriftFault
announced n =
    if n == 1 || n == 2 then Ok wire.Boolean else
    (if n == 3 then Ok wire.Byte else
    (if n == 4 then Ok wire.Int16 else
    (if n == 5 then Ok wire.Int32 else
    (if n == 6 then Ok wire.Int64 else
    (if n == 7 then Ok wire.Double else
    (if n == 8 then Ok wire.Binary else
    (if n == 9 || n == 10 then Ok wire.List else
    (if n == 11 then Ok wire.Map else
    (if n == 12 then Ok wire.Struct else Err BadType)))))))))

-- a number of four bits that announces the type
pub record Announces (number : ℕ) (type : WireType) : Type 0 where
  pub fits : number < 16
  pub is : announced number ≡ Ok type
