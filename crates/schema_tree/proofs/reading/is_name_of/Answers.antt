use Rattle.std.proofs.Common.{◌≡◌, ◌||◌, List, [], ◌∷◌, map, ℕ, bytes_eq, Global, refl, ap, ◌∙◌, rules, tests}
use Rattle.std.specs.List.{list_any}
use Rattle.std.proofs.lemmas.Iterator.{YieldsList-from_slice}
use Rattle.std.proofs.lemmas.Iterator.Search.{any_from_yields_List}
use Rattle.schema_tree.specs.declared.node.Field.{Field}
use Rattle.schema_tree.specs.declared.node.Node.{the_lemmas}
use Rattle.schema_tree.specs.View.{field_view, field_views}
use Rattle.schema_tree.proofs.reading.is_name_of.Goals as goal

any_named : (name : List ℕ) (fs : List (Field Global)) → list_any (λ (f : Field Global). bytes_eq name (field_view f).name) fs ≡ list_any (bytes_eq name) (map (λ c. c.name) (field_views fs))
any_named name [] = refl
any_named name (f ∷ fs) = ap (λ b. bytes_eq name (field_view f).name || b) (any_named name fs)

pub returns : goal.returns
returns c =
    let name = c.args.name.now in
    any_from_yields_List (λ (f : Field Global). bytes_eq name (field_view f).name) _ _ c.any.result c.any.ensures.ran
    (YieldsList-from_slice c.args.fields.now c.iter.ensures.rest) (λ x b q k. search (rules, tests, the_lemmas))
    ∙ any_named name c.args.fields.now
