use Rattle.std.proofs.Common.{◌<◌, length, drop, sym, ap, ◌∙◌, arith}
use Rattle.std.proofs.lemmas.List.{length-map}
use Rattle.row_assembly.specs.Views.{level_view, level_views, reader_leaf, reader_leaves}
use Rattle.row_assembly.proofs.LevelLoops.{changed_on, set_same}
use Rattle.row_assembly.proofs.parts.pass_rows.Goals as goal

pub loop-reader-preserved : goal.loop-reader-preserved
loop-reader-preserved c =
    let css = level_views c.args.readers.now in
    let now = c.loop-reader.readers in
    let i = c.loop-reader.reader-index in
    let below : i < length now = omega (arith, c.loop-reader.auto.readers, c.loop-reader-test.true) in
    let long = length-map c.args.readers.now level_view in
    let within : i < length css = omega (arith, long, c.loop-reader-test.true) in
    record {
      left = changed_on level_view (drop c.args.rows) now css i c.reader-item.result c.pass.new.self below within c.reader-item.is (c.pass.ensures.left ∙ ap (λ r. drop c.args.rows (level_view r)) (sym c.reader-item.is)) c.loop-reader.invariant.left;
      leaves = set_same reader_leaf now (reader_leaves c.args.readers.now) i c.reader-item.result c.pass.new.self c.loop-reader.invariant.leaves below c.reader-item.is (c.pass.ensures.leaf ∙ ap reader_leaf (sym c.reader-item.is));
    }
