use Rattle.std.proofs.Common.{◌≡◌, ◌∙◌, Bool, true, sym, ap}
use Rattle.std.specs.Prelude.{◌&&◌}
use Rattle.store_core.specs.Names.{commit_version}
use Rattle.table_log.specs.Restoring.{checkpoint_version}
use Rattle.front_reads.specs.Fronts.{is_in_front}
use Rattle.front_reads.proofs.VisibleNames.{below_all}
use Rattle.front_reads.proofs.visibility.is_kept.Goals as goal

pub returns : goal.returns
returns c =
    let name = c.args.name.now in
    let first : is_in_front c.args.front (commit_version name) ≡ true = ap (is_in_front c.args.front) (sym c.commit_version.ensures) ∙ sym c.is_in_front.ensures ∙ c.if-not-is_in_front.false in
    c.is_in_front-2.ensures
    ∙ ap (is_in_front c.args.front) (c.in_ok-checkpoint.ensures.told ∙ below_all name)
    ∙ sym (ap (λ (b : Bool). b && is_in_front c.args.front (checkpoint_version name)) first)
