use Rattle.std.proofs.Common.{◌≡◌, ◌<◌, ◌-◌, ◌++◌, ◌∷◌, List, [], ℕ, Err, ap, ◌∙◌}
use Rattle.std.proofs.lemmas.List.{map-append}
use Rattle.std.proofs.lemmas.Result.{err_from_is_err_and}
use Rattle.row_core.specs.Rows.{Value}
use Rattle.row_core.specs.Views.{row_views, value_view}
use Rattle.page_cells.specs.Internal.{TakesValue}
use Rattle.page_cells.specs.Outcome.{AddsValues}
use Rattle.page_cells.specs.Texts.{is_proper}
use Rattle.page_cells.specs.Plain.{value_at, values_at}
use Rattle.parquet_footer.specs.declared.fault.FileError.{FileError}
use Rattle.parquet_footer.specs.declared.fault.FileError.TheVariants as errors
use Rattle.page_cells.specs.declared.types.LeafType.{LeafType}
use Rattle.page_cells.proofs.CodeValues.{Read, add_goes_on, add_done, test_goes_on, test_refuses, tested}
use Rattle.page_cells.proofs.plain.add_each.Goals as goal

-- a value that is refused refuses all
refused : (type : LeafType) (e : FileError) (count i : ℕ) (cursor after : List ℕ) (old new : List Value) (read : Read)
    → i < count → TakesValue (value_at type cursor) (Err e) after
    → tested is_proper (values_at type (count - i) cursor) ≡ tested is_proper read → AddsValues read old (Err e) new
refused type errors.Memory count i cursor after old new read lt h so_far = tt
refused type (errors.Fault fault) count i cursor after old new read lt h so_far =
    λ values rest is fine. test_refuses type is_proper count i cursor values rest read lt h so_far is fine

pub returns-in_err-value : goal.returns-in_err-value
returns-in_err-value c =
    let p = err_from_is_err_and c.from_residual.result c.from_residual.ensures.1 in
    rw (p.1, p.2) (refused c.args.leaf_type c.in_err-value.field-0.0 c.args.count c.loop-value._value
    c.loop-value.cursor c.value.new.cursor (row_views c.args.out.now.items) (row_views c.loop-value.out.items)
    (values_at c.args.leaf_type c.args.count c.args.cursor.now) c.loop-value-test.true c.in_err-value.ensures
    c.loop-value.invariant.proper)

pub loop-value-preserved : goal.loop-value-preserved
loop-value-preserved c =
    let v = value_view c.in_ok-value.value in
    let given = c.in_ok-value.ensures.0 in
    let pushed : row_views c.push.new.self.items ≡ row_views c.loop-value.out.items ++ v ∷ [] =
    ap row_views c.in_ok-push.ensures.items
    ∙ map-append value_view c.loop-value.out.items (c.in_ok-value.value ∷ []) in
    record {
      added = rw pushed (add_goes_on c.args.leaf_type (row_views c.loop-value.out.items) c.args.count
          c.loop-value._value c.loop-value.cursor c.value.new.cursor v _ c.loop-value-test.true given
          c.loop-value.invariant.added);
      proper = test_goes_on c.args.leaf_type is_proper c.args.count c.loop-value._value c.loop-value.cursor
          c.value.new.cursor v _ c.loop-value-test.true given c.in_ok-value.ensures.1 c.loop-value.invariant.proper;
    }

pub returns : goal.returns
returns c =
    let a = add_done c.args.leaf_type (row_views c.args.out.now.items) (row_views c.loop-value.out.items) c.args.count
    c.loop-value._value c.loop-value.cursor (values_at c.args.leaf_type c.args.count c.args.cursor.now)
    c.loop-value-test.false c.loop-value.invariant.added in
    (a.0, c.loop-value.cursor, a.1, a.2)
