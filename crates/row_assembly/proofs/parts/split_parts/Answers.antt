use Rattle.std.proofs.Common.{drop, length, ap, ◌∙◌, arith}
use Rattle.shred.specs.Views.{column_views, part_views}
use Rattle.row_assembly.specs.Neighbours.{tops_in}
use Rattle.row_assembly.specs.Views.{leaf_views, level_views}
use Rattle.row_assembly.proofs.LevelLoops.{kept_end, tests_end}
use Rattle.row_assembly.proofs.RowLoops.{nothing_left}
use Rattle.row_assembly.proofs.parts.split_parts.Goals as goal

pub returns-in_default-clause-levels : goal.returns-in_default-clause-levels
returns-in_default-clause-levels c =
    let none = nothing_left c.loop-leaf.parts.items (c.in_default.ensures.items ∙ c.in_default.ensures.rest) in
    tests_end (tops_in (leaf_views (drop c.loop-leaf.leaf-index c.args.leaves.now))) (part_views c.loop-leaf.parts.items) (level_views c.loop-leaf.left.items) _ (ap part_views none) c.loop-leaf.invariant.levels

pub returns-in_default-clause-kept : goal.returns-in_default-clause-kept
returns-in_default-clause-kept c =
    let none = nothing_left c.loop-leaf.parts.items (c.in_default.ensures.items ∙ c.in_default.ensures.rest) in
    kept_end (tops_in (leaf_views (drop c.loop-leaf.leaf-index c.args.leaves.now))) (part_views c.loop-leaf.parts.items) (column_views c.loop-leaf.kept.items) _ (ap part_views none) c.loop-leaf.invariant.kept

pub returns-in_default-clause-leaves : goal.returns-in_default-clause-leaves
returns-in_default-clause-leaves c enough =
    let none = ap length (nothing_left c.loop-leaf.parts.items (c.in_default.ensures.items ∙ c.in_default.ensures.rest)) in
    absurd (omega (arith, none, enough, c.loop-leaf.invariant.passed, c.loop-leaf-test.true))
