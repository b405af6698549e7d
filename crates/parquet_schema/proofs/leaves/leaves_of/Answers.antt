use Rattle.std.proofs.Common.{◌++◌, List, Bor, ℕ, map, ap, ◌∙◌}
use Rattle.parquet_schema.specs.Leaves.{leaves_under}
use Rattle.parquet_schema.specs.Views.{leaf_views}
use Rattle.parquet_schema.proofs.PutLeaves.{from_above, each_leaves}
use Rattle.parquet_schema.proofs.leaves.leaves_of.Goals as goal

pub returns : goal.returns
returns g c =
    let all = each_leaves c.args.fields.now c.args.shapes.now in
    let top = map (λ (n : Bor (List ℕ)). n.now) c.new.result.items in
    let none = c.new-2.result.items in
    c.in_ok-put_fields.ensures.put ∙ (ap (λ ls. leaf_views ls ++ leaves_under top none all) c.new-leaves.ensures.items ∙ from_above top none (ap (λ (ns : List (Bor (List ℕ))). map (λ n. n.now) ns) c.new.ensures.items) c.new-2.ensures.items all)
