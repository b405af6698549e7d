use Rattle.std.proofs.Common.{◌+◌, ◌++◌, ◌∷◌, [], List, ℕ, Vec, Global, map, take, ap, sym, subst, ◌∙◌}
use Rattle.std.proofs.lemmas.List.{map_push}
use Rattle.delta_actions.specs.Action.{Action, view, views}
use Rattle.delta_actions.proofs.PrintedLines.{are_printable}
use Rattle.table_check.specs.Lines.{ArePrintedOf}
use Rattle.table_store.proofs.ActionLemmas.{views_more}
use Rattle.table_audit.proofs.CheckpointParts.{line_items, printed_more}
use Rattle.table_audit.proofs.checkpoint.lines_of.Goals as goal

pub print_line-requires : goal.print_line-requires
print_line-requires c = rw c.action-item.is (are_printable c.args.actions.now c.requires c.loop-action.action-index _ c.loop-action-test.true)

pub loop-action-preserved : goal.loop-action-preserved
loop-action-preserved c =
    let i = c.loop-action.action-index in
    let actions = c.args.actions.now in
    let action = c.action-item.result in
    let pushed = ap (λ (ls : List (Vec ℕ Global)). map line_items ls) c.in_ok-push.ensures.items ∙ map_push line_items _ _ in
    let seen = views_more actions i action c.loop-action-test.true c.action-item.is in
    subst (λ (ls : List (List ℕ)). ArePrintedOf ls (views (take (i + 1) actions))) (sym pushed)
    (subst (λ (xs : List Action). ArePrintedOf (map line_items c.loop-action.lines.items ++ c.in_ok-line.line.items ∷ []) xs) (sym seen) (printed_more (map line_items c.loop-action.lines.items) (views (take i actions)) c.in_ok-line.line.items (view action) c.loop-action.invariant c.in_ok-line.ensures.printed c.in_ok-line.ensures.reads))
