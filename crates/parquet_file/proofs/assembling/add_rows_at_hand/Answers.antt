use Rattle.std.proofs.Common.{◌≡◌, ◌++◌, List, ap, ◌∙◌, arith}
use Rattle.std.proofs.lemmas.List.{map-append}
use Rattle.std.proofs.lemmas.Result.{err_from_is_err_and}
use Rattle.row_core.specs.Rows.{Row}
use Rattle.row_core.specs.Views.{row_views, value_view}
use Rattle.shred.specs.Views.{shape_view}
use Rattle.row_assembly.specs.Assembly.{assembled}
use Rattle.row_assembly.specs.Parts.{fronts}
use Rattle.parquet_footer.specs.Outcome.{says}
use Rattle.parquet_footer.specs.declared.fault.FileFault.TheVariants.{SchemaMismatch}
use Rattle.parquet_file.specs.Internal.{levels_of}
use Rattle.parquet_file.proofs.PartSteps.{kept_of_made, made_fails}
use Rattle.parquet_file.proofs.RowsAtHand.{front_parts}
use Rattle.parquet_file.proofs.assembling.add_rows_at_hand.Goals as goal

pub returns-in_err-added-clause-added : goal.returns-in_err-added-clause-added
returns-in_err-added-clause-added c = λ leaves given held at_hand same even less.
    let shape = shape_view c.args.shape.now in
    let n = c.args.count in
    let first = c.args.first in
    let most = c.args.most in
    let front = fronts n (levels_of leaves) given in
    let ps = c.in_ok-parts.parts.items in
    let few = c.ranges.count.fits in
    let kept = c.in_ok-parts.ensures leaves given held at_hand in
    let may = front_parts first most n shape leaves ps given same even less (omega (arith, few)) kept.0 in
    let e = c.in_err-added.field-0.0 in
    let from = c.from_residual-in_err-added in
    let p = err_from_is_err_and from.result from.ensures.1 in
    let said = c.in_err-added.ensures most front may.parts may.even may.plain may.few in
    rw (p.1, p.2) (made_fails (says e) SchemaMismatch first most (assembled shape front) said)

pub returns-clause-added : goal.returns-clause-added
returns-clause-added c = λ leaves given held at_hand same even less.
    let shape = shape_view c.args.shape.now in
    let n = c.args.count in
    let first = c.args.first in
    let most = c.args.most in
    let front = fronts n (levels_of leaves) given in
    let ps = c.in_ok-parts.parts.items in
    let few = c.ranges.count.fits in
    let kept = c.in_ok-parts.ensures leaves given held at_hand in
    let may = front_parts first most n shape leaves ps given same even less (omega (arith, few)) kept.0 in
    let old = c.args.rows.now.items in
    let added = c.in_ok-added.added.items in
    let gives = c.in_ok-added.ensures most front may.parts may.even may.plain may.few in
    let made = kept_of_made SchemaMismatch first most (assembled shape front) (row_views added) gives in
    let whole : row_views c.append.new.self.items ≡ row_views old ++ row_views added =
    ap row_views c.in_ok-append.ensures.items ∙ map-append value_view old added in
    (made.0, made.1, whole ∙ ap (λ (rows : List Row). row_views old ++ rows) made.2)
