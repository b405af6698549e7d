-- The tree that a `TValue` stands for.
use Rattle.std.specs.Prelude.{ℕ, List, ℤ, map, Vec}
use Rattle.thrift_values.specs.Tree as tree
use Rattle.thrift_values.specs.Tree.{Tree}
use Rattle.thrift_values.specs.declared.value.TValue.{TValue, fold-TValue}
use Rattle.thrift_values.specs.declared.value.TValue.TheOpen.{TValue-F, MapEntry-F, Field-F}
use Rattle.thrift_values.specs.declared.value.MapEntry.{MapEntry, fold-MapEntry}
use Rattle.thrift_values.specs.declared.value.Field.{Field, fold-Field}

-- one level, with each value inside already seen as its tree
abbrev pub view_step : {A : Type 0} → TValue-F A Tree (ℤ × Tree) (Tree × Tree) → Tree
view_step (TValue-F.Bool b) = tree.boolean b
view_step (TValue-F.Int z) = tree.integer z
view_step (TValue-F.Bytes v) = tree.binary v.items
view_step (TValue-F.List v) = tree.list (tree.trees_of v.items)
view_step (TValue-F.Map v) = tree.map (tree.entries_of v.items)
view_step (TValue-F.Struct v) = tree.struct (tree.fields_of v.items)
view_step TValue-F.Skipped = tree.skipped

abbrev pub entry_step : {A : Type 0} → MapEntry-F A Tree (ℤ × Tree) (Tree × Tree) → Tree × Tree
entry_step e = (e.key, e.value)

abbrev pub field_step : {A : Type 0} → Field-F A Tree (ℤ × Tree) (Tree × Tree) → ℤ × Tree
field_step f = (f.id, f.value)

abbrev pub view : {A : Type 0} → TValue A → Tree
view {A = A} = fold-TValue A Tree (ℤ × Tree) (Tree × Tree) view_step field_step entry_step

abbrev pub entry_view : {A : Type 0} → MapEntry A → Tree × Tree
entry_view {A = A} = fold-MapEntry A Tree (ℤ × Tree) (Tree × Tree) view_step field_step entry_step

abbrev pub field_view : {A : Type 0} → Field A → ℤ × Tree
field_view {A = A} = fold-Field A Tree (ℤ × Tree) (Tree × Tree) view_step field_step entry_step

abbrev pub views : {A : Type 0} → List (TValue A) → List Tree
views vs = map view vs

abbrev pub entry_views : {A : Type 0} → List (MapEntry A) → List (Tree × Tree)
entry_views es = map entry_view es

abbrev pub field_views : {A : Type 0} → List (Field A) → List (ℤ × Tree)
field_views fs = map field_view fs

abbrev pub texts_view : {A : Type 0} → List (Vec ℕ A) → List (List ℕ)
texts_view ts = map (λ t. t.items) ts
