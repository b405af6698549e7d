-- What contracts see of lists of texts, of maps of texts and of objects that are written.
use Rattle.std.specs.Prelude.{ℕ, List, map, String, string_bytes, Vec}
use Rattle.std.specs.declared.alloc.Global.{Global}
use Rattle.serde_json.specs.Data.{Data, Members}
use Rattle.serde_json.specs.View.{view, members_view}
use Rattle.json_fields.specs.declared.object.Object.{Object}
use Rattle.json_fields.specs.declared.text_map.TextMap.{TextMap}

abbrev pub text_views : Vec (String Global) Global → List (List ℕ)
text_views v = map (λ s. string_bytes s) v.items

abbrev pub map_view : TextMap → Data
map_view m = view m.object

abbrev pub object_view : Object → Members
object_view o = members_view o.members.entries
