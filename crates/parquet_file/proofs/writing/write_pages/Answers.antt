use Rattle.std.proofs.Common.{length, ◌∙◌}
use Rattle.std.proofs.lemmas.Result.{err_from_is_err_and}
use Rattle.row_core.specs.Views.{row_views}
use Rattle.shred.specs.Views.{borrowed_column, way_view}
use Rattle.page_writing.proofs.Callers.{all_written, none_left, nothing_written, page_more, page_refused}
use Rattle.parquet_file.specs.Internal.{column_along}
use Rattle.parquet_file.proofs.PagesOfRows.{column_long, page_cut, page_found, page_short, page_there}
use Rattle.parquet_file.proofs.writing.write_pages.Goals as goal

pub loop-rows-init : goal.loop-rows-init
loop-rows-init c = record {
  written = nothing_written c.args.leaf_type c.args.highest
      (column_along (way_view c.args.way.now) (row_views c.args.rows.now)) c.args.out.now.items;
  found = c.requires.found;
}

pub unreachable-requires : goal.unreachable-requires
unreachable-requires c =
    let way = way_view c.args.way.now in
    let rows = c.loop-rows.rows.now in
    let cut = page_cut way c.args.highest rows c.split_at.result.0.now c.split_at.result.1.now c.min.result
    c.is_empty.result c.requires.level c.loop-rows.invariant.found c.is_empty.ensures c.loop-rows-test.true c.min.ensures
    c.split_at.ensures.front c.split_at.ensures.back in
    page_there way c.args.highest rows _ _ _ c.in-None.is c.in_ok-column.ensures cut

pub write_page-requires : goal.write_page-requires
write_page-requires c =
    let way = way_view c.args.way.now in
    let rows = c.loop-rows.rows.now in
    let cut = page_cut way c.args.highest rows c.split_at.result.0.now c.split_at.result.1.now c.min.result
    c.is_empty.result c.requires.level c.loop-rows.invariant.found c.is_empty.ensures c.loop-rows-test.true c.min.ensures
    c.split_at.ensures.front c.split_at.ensures.back in
    let is = page_found way c.args.highest rows _ _ _ c.in-Some.column c.in-Some.is c.in_ok-column.ensures cut in
    page_short way c.args.highest rows c.in-Some.column is

pub returns-in_err-write_page-in-Some : goal.returns-in_err-write_page-in-Some
returns-in_err-write_page-in-Some c =
    let way = way_view c.args.way.now in
    let rows = c.loop-rows.rows.now in
    let cut = page_cut way c.args.highest rows c.split_at.result.0.now c.split_at.result.1.now c.min.result
    c.is_empty.result c.requires.level c.loop-rows.invariant.found c.is_empty.ensures c.loop-rows-test.true c.min.ensures
    c.split_at.ensures.front c.split_at.ensures.back in
    let is = page_found way c.args.highest rows _ _ _ c.in-Some.column c.in-Some.is c.in_ok-column.ensures cut in
    let p = err_from_is_err_and c.from_residual-in_err-write_page-in-Some.result c.from_residual-in_err-write_page-in-Some.ensures.1 in
    rw (p.1, p.2) (page_refused c.args.leaf_type c.args.highest (column_along way (row_views c.args.rows.now))
    c.args.out.now.items c.loop-rows.out.items c.write_page.new.out.items (column_along way (row_views rows))
    (borrowed_column c.in-Some.column) c.in_err-write_page-in-Some.field-0.0 cut.some is c.in_err-write_page-in-Some.ensures.exact
    c.loop-rows.invariant.written)

pub loop-rows-preserved : goal.loop-rows-preserved
loop-rows-preserved c =
    let way = way_view c.args.way.now in
    let rows = c.loop-rows.rows.now in
    let behind = c.split_at.result.1.now in
    let cut = page_cut way c.args.highest rows c.split_at.result.0.now behind c.min.result
    c.is_empty.result c.requires.level c.loop-rows.invariant.found c.is_empty.ensures c.loop-rows-test.true c.min.ensures
    c.split_at.ensures.front c.split_at.ensures.back in
    let is = page_found way c.args.highest rows _ _ _ c.in-Some.column c.in-Some.is c.in_ok-column.ensures cut in
    record {
      written = page_more c.args.leaf_type c.args.highest (column_along way (row_views c.args.rows.now))
          c.args.out.now.items c.loop-rows.out.items (column_along way (row_views rows))
          (borrowed_column c.in-Some.column) (column_along way (row_views behind)) c.write_page.new.out.items cut.some is
          cut.others c.in_ok-write_page-in-Some.ensures.exact c.loop-rows.invariant.written;
      found = cut.found;
    }

pub returns : goal.returns
returns c =
    let way = way_view c.args.way.now in
    let rows = c.loop-rows.rows.now in
    all_written c.args.leaf_type c.args.highest (column_along way (row_views c.args.rows.now)) c.args.out.now.items
    c.loop-rows.out.items (column_along way (row_views rows))
    (column_long way rows c.loop-rows.invariant.found
    ∙ none_left (length rows) c.is_empty.result c.is_empty.ensures c.loop-rows-test.false)
    c.loop-rows.invariant.written
