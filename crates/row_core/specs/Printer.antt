-- What is printed by a layout that was made once for many rows.
use Rattle.std.specs.Prelude.{◌≡◌, ℕ, zero, suc, List, [], ◌∷◌, ◌||◌, true, map, String, string_bytes}
use Rattle.std.specs.declared.alloc.Global.{Global}
use Rattle.serde_json.specs.Data as json
use Rattle.serde_json.specs.Data.{Data, Members, no_members, member}
use Rattle.schema_tree.specs.Tree.{Tree}
use Rattle.row_core.specs.Conforms.{Conforms, is_null, is_value}
use Rattle.row_core.specs.Printing.{leaf_data, data_of, data_of_row}
use Rattle.row_core.specs.Rows.{Value, Values, Row, null, truth, whole, text, bytes, structure, no_values, value}
use Rattle.row_core.specs.declared.printer.Layout.{Layout, fold-Layout}
use Rattle.row_core.specs.declared.printer.Layout.TheOpen.{Layout-F}
use Rattle.row_core.specs.declared.printer.RowPrinter.{RowPrinter}

-- the value at a place, or null where there is none
abbrev pub value_at : ℕ → Values → Value
value_at i no_values = null
value_at zero (value v vs) = v
value_at (suc i) (value v vs) = value_at i vs

-- where a value stands among those of its struct, and what it is printed as
pub record Member : Type 0 where
  pub place : ℕ
  pub printed : Value → Data

-- each value under its name, in the order of the members
abbrev pub members_data : List (String Global × Member) → Values → Members
members_data [] vs = no_members
members_data (m ∷ ms) vs = member (string_bytes m.0) (m.1.printed (value_at m.1.place vs)) (members_data ms vs)

-- a struct as an object of these members, any other value by what it is
abbrev pub data_by : List (String Global × Member) → Value → Data
data_by ms null = leaf_data null
data_by ms (truth b) = leaf_data (truth b)
data_by ms (whole z) = leaf_data (whole z)
data_by ms (text s) = leaf_data (text s)
data_by ms (bytes s) = leaf_data (bytes s)
data_by ms (structure vs) = json.object (members_data ms vs)

-- one level, with each layout inside already seen
abbrev pub layout_step : Layout-F Member → Member
layout_step l = record { place = l.place; printed = data_by l.members.entries }

abbrev pub layout_view : Layout → Member
layout_view = fold-Layout Member layout_step

abbrev pub layout_views : List (String Global × Layout) → List (String Global × Member)
layout_views ls = map (λ l. (l.0, layout_view l.1)) ls

-- the values of a type, and nulls, are printed as the type says
abbrev pub PrintsType : (Value → Data) → Tree → Type 0
PrintsType print t = (v : Value) → is_null v || is_value t v ≡ true → print v ≡ data_of t v

-- what a printer writes of a row
unfoldable pub printed : RowPrinter → Row → Data
printed p = (layout_view p.row).printed

-- each row of the schema is printed as itself
abbrev pub PrintsRows : RowPrinter → Tree → Type 0
PrintsRows p t = (row : Row) → Conforms t row → printed p row ≡ data_of_row t row
