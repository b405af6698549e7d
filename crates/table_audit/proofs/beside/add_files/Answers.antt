use Rattle.std.proofs.Common.{◌||◌, Bool, sym, ap, ◌∙◌}
use Rattle.std.specs.BTreeSet.{contains_text}
use Rattle.delta_actions.specs.Action.{view}
use Rattle.table_audit.specs.Beside.{adds}
use Rattle.table_audit.proofs.BesideParts.{any_more, or_more}
use Rattle.table_audit.proofs.beside.add_files.Goals as goal

pub loop-action-preserved : goal.loop-action-preserved
loop-action-preserved c = λ file.
    let old = contains_text c.args.files.now file in
    let action = c.action-item.result in
    c.in_ok-add_file.ensures file
    ∙ (ap (λ (found : Bool). found || adds file (view action)) (c.loop-action.invariant file)
    ∙ (or_more old _ (adds file (view action)) ∙ ap (λ (found : Bool). old || found) (sym (any_more (adds file) view c.args.actions.now c.loop-action.action-index action c.loop-action-test.true c.action-item.is))))
