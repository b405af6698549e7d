use Rattle.std.proofs.Common.{rules, tests, ap, ◌∙◌, option_map, bytes_eq}
use Rattle.std.proofs.lemmas.Iterator.{YieldsList-from_slice}
use Rattle.std.proofs.lemmas.Iterator.Search.{find_from_yields_List}
use Rattle.parquet_schema.specs.Views.{field_view}
use Rattle.parquet_schema.proofs.FitFields.{found_named, map_twice, name_seen}
use Rattle.parquet_schema.proofs.fitting.field_named.Goals as goal

pub returns : goal.returns
returns c =
    let found = find_from_yields_List (λ f. bytes_eq (field_view f).name c.args.name.now) _ _ c.find.result c.find.ensures.ran (YieldsList-from_slice c.args.fields.now cc) (λ x b q k. search (rules, tests, name_seen)) in
    map_twice field_view (λ x. x.now) c.find.result ∙ ap (option_map field_view) found ∙ found_named c.args.name.now c.args.fields.now
