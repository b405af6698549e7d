use Rattle.std.proofs.Common.{sym, ◌∙◌}
use Rattle.std.proofs.lemmas.List.{length-map}
use Rattle.row_core.specs.Views.{value_view, row_views}
use Rattle.row_core.proofs.Same.{same_rows-lengths}
use Rattle.row_core.proofs.value.+compare.Goals as goal

pub same_rows-returns-then-rows-others : goal.same_rows-returns-then-rows-others
same_rows-returns-then-rows-others t c =
    same_rows-lengths (row_views c.args.rows.now) (row_views c.args.others.now) (λ e. c.if-rows-others.true (sym (length-map c.args.rows.now value_view) ∙ e ∙ length-map c.args.others.now value_view))
