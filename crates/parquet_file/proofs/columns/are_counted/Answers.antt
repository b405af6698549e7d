use Rattle.std.proofs.Common.{rules, tests, sym, ◌∙◌}
use Rattle.std.proofs.lemmas.Iterator.{YieldsList-from_slice}
use Rattle.std.proofs.lemmas.Iterator.Search.{all_from_yields_List}
use Rattle.std.proofs.lemmas.List.Folds.{list_all-map}
use Rattle.parquet_footer.specs.Views.{group_view}
use Rattle.parquet_schema.specs.Views.{leaf_view}
use Rattle.parquet_file.specs.Internal.{is_counted}
use Rattle.parquet_file.proofs.columns.are_counted.Goals as goal

pub returns : goal.returns
returns g c =
    let group = group_view c.args.group.now in
    all_from_yields_List (λ leaf. is_counted group (leaf_view leaf)) _ _ c.all.result c.all.ensures.ran (YieldsList-from_slice c.args.leaves.now cc) (λ x b q k. search (rules, tests)) ∙ sym (list_all-map (is_counted group) leaf_view c.args.leaves.now)
