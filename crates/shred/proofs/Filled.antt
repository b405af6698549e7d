-- Each struct of a schema has a field.
use Rattle.std.proofs.Common.{◌≡◌, ◌&&◌, true, not, is_some}
use Rattle.std.proofs.lemmas.Bool.{false≢true, and_parts}
use Rattle.serde_json.specs.Find.{as_object}
use Rattle.schema_tree.specs.Tree as tree
use Rattle.schema_tree.specs.Tree.{Tree}
use Rattle.schema_tree.specs.Limits.{is_sound, are_sound, has_field, is_named}
use Rattle.shred.specs.Shape.{HasFields, HaveFields, shape_of, shapes_of, struct}

some_field : (fs : tree.Fields) → has_field fs ≡ true → HaveFields (shapes_of fs) → HasFields (struct (shapes_of fs))
some_field tree.no_fields has have = absurd (false≢true has)
some_field (tree.field name t nullable metadata fs) has have = have

mutual
  pub sound_filled : (t : Tree) → is_sound t ≡ true → HasFields (shape_of t)
  sound_filled (tree.leaf p) sound = tt
  sound_filled (tree.struct fs) sound =
      let parts = and_parts (has_field fs) (are_sound fs) sound in
      some_field fs parts.0 (sound_fields fs parts.1)
  sound_filled (tree.array t nullable) sound = tt
  sound_filled (tree.map k v nullable) sound = tt

  sound_fields : (fs : tree.Fields) → are_sound fs ≡ true → HaveFields (shapes_of fs)
  sound_fields tree.no_fields sound = tt
  sound_fields (tree.field name t nullable metadata fs) sound =
      let one = and_parts (not (is_named name fs) && is_some (as_object metadata) && is_sound t) (are_sound fs) sound in
      let two = and_parts (not (is_named name fs) && is_some (as_object metadata)) (is_sound t) one.0 in
      (sound_filled t two.1, sound_fields fs one.1)
