-- The rows of the program, without where they lie in memory.
use Rattle.std.specs.Prelude.{List, map, string_bytes}
use Rattle.row_core.specs.Rows as rows
use Rattle.row_core.specs.Rows.{Row, values_of}
use Rattle.row_core.specs.declared.value.Value.{Value, fold-Value}
use Rattle.row_core.specs.declared.value.Value.TheOpen.{Value-F}

-- one level, with each value inside already seen
abbrev pub value_step : Value-F Row → Row
value_step Value-F.Null = rows.null
value_step (Value-F.Bool b) = rows.truth b
value_step (Value-F.Int z) = rows.whole z
value_step (Value-F.Text t) = rows.text (string_bytes t)
value_step (Value-F.Bytes v) = rows.bytes v.items
value_step (Value-F.Struct vs) = rows.structure (values_of vs.items)

abbrev pub value_view : Value → Row
value_view = fold-Value Row value_step

abbrev pub row_views : List Value → List Row
row_views values = map value_view values
