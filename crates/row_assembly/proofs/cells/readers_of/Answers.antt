use Rattle.std.proofs.Common.{◌≡◌, ◌++◌, ◌∷◌, [], ap, sym, ◌∙◌}
use Rattle.std.proofs.lemmas.List.{map_push}
use Rattle.shred.specs.Views.{column_view, column_views}
use Rattle.row_assembly.specs.Views.{reader_view, reader_views}
use Rattle.row_assembly.proofs.RowLoops.{no_column, column_on}
use Rattle.row_assembly.proofs.cells.readers_of.Goals as goal

pub returns-in_default : goal.returns-in_default
returns-in_default c =
    no_column column_view c.args.rows c.args.tops.now c.loop-top.top-index c.loop-top.columns.items c.pop_front.new.self.items (reader_views c.loop-top.readers.items) _ c.loop-top-test.true c.in_default.ensures.items c.in_default.ensures.rest c.loop-top.invariant

pub loop-top-preserved : goal.loop-top-preserved
loop-top-preserved c =
    let more : reader_views c.push.new.self.items ≡ reader_views c.loop-top.readers.items ++ reader_view c.in-Some-open.reader ∷ [] = ap reader_views c.in_ok-push.ensures.items ∙ map_push reader_view c.loop-top.readers.items c.in-Some-open.reader in
    rw more (column_on c.args.rows c.args.tops.now c.loop-top.top-index (column_views c.loop-top.columns.items) (column_views c.pop_front.new.self.items) (column_view c.in-Some.column) (reader_view c.in-Some-open.reader) (reader_views c.loop-top.readers.items) _ c.loop-top-test.true (ap column_views c.in-Some.ensures.items) (sym c.in-Some-open.ensures) c.loop-top.invariant)
