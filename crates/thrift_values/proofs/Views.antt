-- A value, level by level.
use Rattle.std.proofs.Common.{◌≡◌, Vec, rules}
use Rattle.thrift_values.specs.Tree as tree
use Rattle.thrift_values.specs.View.{view, views, entry_view, entry_views, field_views}
use Rattle.thrift_values.specs.declared.value.TValue.{TValue, the_lemmas}
use Rattle.thrift_values.specs.declared.value.TValue as values
use Rattle.thrift_values.specs.declared.value.MapEntry.{MapEntry, out-MapEntry}
use Rattle.thrift_values.specs.declared.value.Field.{Field}

pub view-List : {A : Type 0} → (v : Vec (TValue A) A) → view (values.List v) ≡ tree.list (tree.trees_of (views v.items))
view-List v = search (rules, the_lemmas)

pub view-Map : {A : Type 0} → (v : Vec (MapEntry A) A) → view (values.Map v) ≡ tree.map (tree.entries_of (entry_views v.items))
view-Map v = search (rules, the_lemmas)

pub view-Struct : {A : Type 0} → (v : Vec (Field A) A) → view (values.Struct v) ≡ tree.struct (tree.fields_of (field_views v.items))
view-Struct v = search (rules, the_lemmas)

-- an entry, part by part
pub key_seen : {A : Type 0} → (e : MapEntry A) → view (out-MapEntry A e).key ≡ (entry_view e).0
key_seen {A} e = search (rules, the_lemmas)

pub value_seen : {A : Type 0} → (e : MapEntry A) → view (out-MapEntry A e).value ≡ (entry_view e).1
value_seen {A} e = search (rules, the_lemmas)
