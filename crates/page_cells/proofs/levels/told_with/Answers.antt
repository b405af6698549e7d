use Rattle.std.proofs.Common.{◌≡◌, ◌+◌, ◌<◌, ◌^◌, ◌==◌, ◌&&◌, length, Bool, true, false, sym, ap, ◌∙◌, arith}
use Rattle.page_cells.specs.Levels.{may_stand}
use Rattle.page_cells.proofs.LevelsSeen.{all_on, not_cut, present_on}
use Rattle.page_cells.proofs.levels.told_with.Goals as goal
use Rattle.page_cells.proofs.levels.told_with.Goals.{then-run-nullable, else-run-nullable}

pub returns-then-told : goal.returns-then-told
returns-then-told c front told = record {
  present = λ few.
      let flags = c.args.nullable.now in
      let cut : c.args.told.present + c.args.run.count < 2 ^ 64 =
      not_cut flags front c.args.told.present c.args.run.count c.args.run.value told.present few in
      elim c.if-run-nullable.branch [
        | then-run-nullable w ↦
            let yes : (c.args.run.value == length flags) ≡ true = grind (arith, w.if-run-nullable.true) in
            present_on flags front c.args.told.present c.if-run-nullable.present c.args.run.count c.args.run.value
            (rw yes (omega (arith, cut, w.present-is, w.saturating_add-present.ensures))) told.present few
        | else-run-nullable w ↦
            let no : (c.args.run.value == length flags) ≡ false = grind (arith, w.if-run-nullable.false) in
            present_on flags front c.args.told.present c.if-run-nullable.present c.args.run.count c.args.run.value
            (rw no (omega (arith, w.present-is))) told.present few
      ];
  nulls = c.may_stand.ensures
      ∙ sym (all_on (may_stand c.args.nullable.now) front c.args.run.count c.args.run.value c.requires
      ∙ ap (λ (b : Bool). b && may_stand c.args.nullable.now c.args.run.value) (sym told.nulls ∙ c.if-told.true));
}
