-- The data that a value stands for.
use Rattle.std.specs.Prelude.{ℕ, List, [], ◌∷◌, map}
use Rattle.std.specs.Borrow.{Bor}
use Rattle.serde_json.specs.Data.{Data, null, boolean, number, string, array, object, Items, Members, no_members, member, put}
use Rattle.serde_json.specs.View.{number_view, items_of}
use Rattle.json_text.specs.declared.value.Value.{Value, fold-Value}
use Rattle.json_text.specs.declared.value.Value.TheOpen.{Value-F}

-- The members go in one after another, so the last value of a name stays.
abbrev pub members_onto : List (Bor (List ℕ) × Data) → Members → Members
members_onto [] found = found
members_onto (m ∷ ms) found = members_onto ms (put m.0.now m.1 found)

-- one level, with each value inside already seen as its data
abbrev pub view_step : Value-F Data → Data
view_step Value-F.Null = null
view_step (Value-F.Bool b) = boolean b
view_step (Value-F.Number x) = number (number_view x)
view_step (Value-F.String s) = string s.now
view_step (Value-F.Array v) = array (items_of v.items)
view_step (Value-F.Object v) = object (members_onto v.items no_members)

abbrev pub view : Value → Data
view = fold-Value Data view_step

abbrev pub items_view : List Value → Items
items_view vs = items_of (map view vs)

-- the members of an object, the last value of each name
abbrev pub members_view : List (Bor (List ℕ) × Value) → Members
members_view ms = members_onto (map (λ m. (m.0, view m.1)) ms) no_members

-- members that stand in order of their names
abbrev pub named_of : List (Bor (List ℕ) × Data) → Members
named_of [] = no_members
named_of (m ∷ ms) = member m.0.now m.1 (named_of ms)

abbrev pub named_view : List (Bor (List ℕ) × Bor Value) → Members
named_view ms = named_of (map (λ m. (m.0, view m.1.now)) ms)
