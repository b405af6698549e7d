use Rattle.std.proofs.Common.{◌≤◌, false, ap, sym, ◌∙◌, arith, subst, option_map}
use Rattle.row_core.specs.Views.{value_view}
use Rattle.shred.specs.Views.{borrowed_cell}
use Rattle.shred.proofs.Walks.{met_nothing, met_null, met_value, met_end, flag_small}
use Rattle.shred.proofs.shredding.cell_of.Goals as goal

pub returns-in_err-value : goal.returns-in_err-value
returns-in_err-value c =
    let none = met_nothing c.args.way.now c.loop-step.step-index (record { place = 0; optional = false }) c.loop-step.level (value_view c.loop-step.value.now) _ c.loop-step-test.true (sym c.in_err-value.ensures) c.loop-step.invariant.leads in
    ap (option_map borrowed_cell) c.from_residual.ensures ∙ none

pub returns-then-is_null : goal.returns-then-is_null
returns-then-is_null c =
    c.null_cell.ensures ∙ met_null c.args.way.now c.loop-step.step-index (record { place = 0; optional = false }) c.loop-step.level (value_view c.loop-step.value.now) (value_view c.in_ok-value.value.now) _ c.loop-step-test.true (sym c.in_ok-value.ensures) (sym c.if-is_null.ensures) c.loop-step.invariant.leads

pub overflow_add-level : goal.overflow_add-level
overflow_add-level c =
    let one : c.from-level.result ≤ 1 = subst (λ n. n ≤ 1) (sym c.from-level.ensures) (flag_small _) in
    let small = c.loop-step.invariant.small in
    let here = c.loop-step-test.true in
    grind arith

pub loop-step-preserved : goal.loop-step-preserved
loop-step-preserved c =
    let one : c.from-level.result ≤ 1 = subst (λ n. n ≤ 1) (sym c.from-level.ensures) (flag_small _) in
    record {
      leads = met_value c.args.way.now c.loop-step.step-index (record { place = 0; optional = false }) c.loop-step.level c.from-level.result (value_view c.loop-step.value.now) (value_view c.in_ok-value.value.now) _ c.loop-step-test.true (sym c.in_ok-value.ensures) (sym c.if-is_null.ensures) c.from-level.ensures c.loop-step.invariant.leads;
      small = omega (arith, one, c.loop-step.invariant.small);
    }

pub returns : goal.returns
returns c = met_end c.args.way.now c.loop-step.step-index c.loop-step.level (value_view c.loop-step.value.now) _ c.loop-step-test.false c.loop-step.invariant.leads
