use Rattle.std.proofs.Common.{rules, tests, ap, ◌∙◌, map, option_map, string_bytes}
use Rattle.std.proofs.lemmas.Iterator.{YieldsList-from_slice}
use Rattle.std.proofs.lemmas.Iterator.Search.{find_from_yields_List}
use Rattle.parquet_footer.specs.Views.{chunk_view}
use Rattle.parquet_file.specs.Reading.{same_path}
use Rattle.parquet_file.proofs.CodeColumns.{found_named}
use Rattle.parquet_file.proofs.CodeSteps.{map_twice}
use Rattle.parquet_file.proofs.columns.chunk_named.Goals as goal

pub returns : goal.returns
returns g c =
    let path = map string_bytes c.args.path.now in
    let found = find_from_yields_List (λ x. same_path (chunk_view x).path_in_schema path) _ _ c.find.result c.find.ensures.ran (YieldsList-from_slice c.args.chunks.now cc) (λ x b q k. search (rules, tests)) in
    map_twice chunk_view (λ x. x.now) c.find.result ∙ ap (option_map chunk_view) found ∙ found_named path c.args.chunks.now
