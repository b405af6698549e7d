use Rattle.std.proofs.Common.{rules, tests, ◌∙◌, not, nat_lt}
use Rattle.std.proofs.lemmas.Iterator.{YieldsList-from_slice}
use Rattle.std.proofs.lemmas.Iterator.Search.{all_from_yields_List}
use Rattle.parquet_footer.proofs.Members.{within_limit}
use Rattle.parquet_footer.proofs.metadata.claims_within_limit.Goals as goal

pub returns : goal.returns
returns g c =
    all_from_yields_List (λ g. not (nat_lt 4194304 g.num_rows)) _ _ c.all.result c.all.ensures.ran (YieldsList-from_slice c.args.groups.now cc) (λ x b q k. search (rules, tests)) ∙ within_limit c.args.groups.now
