use Rattle.std.proofs.Common.{◌≡◌, ◌<◌, length, get_or, map, arith, sym, ap, ◌∙◌}
use Rattle.std.proofs.lemmas.List.{get_or-map, length-map}
use Rattle.std.proofs.lemmas.Result.{err_from_is_err_and}
use Rattle.shred.specs.Views.{borrowed_value}
use Rattle.page_writing.specs.Writing.{value_bytes}
use Rattle.page_writing.proofs.Kept.{keeps_each, keeps_more}
use Rattle.page_writing.proofs.WrittenPlain.{value_within, value_written}
use Rattle.page_writing.proofs.plain.write_plain.Goals as goal

pub write_value-requires : goal.write_value-requires
write_value-requires c =
    let values = c.args.values.now in
    let i = c.loop-value.value-index in
    let v = borrowed_value c.value-item.result in
    let within : i < length (map borrowed_value values) = omega (arith, length-map values borrowed_value) in
    let same : get_or (map borrowed_value values) i v ≡ v =
    get_or-map borrowed_value values i c.value-item.result v c.loop-value-test.true
    ∙ ap borrowed_value (sym c.value-item.is) in
    omega (
      arith,
      value_within c.args.physical_type (map borrowed_value values) i v c.in_default.not-Boolean within,
      ap (λ x. length (value_bytes c.args.physical_type x)) same,
    )

pub loop-value-preserved : goal.loop-value-preserved
loop-value-preserved c = record {
  ok = value_written c.args.physical_type borrowed_value c.args.values.now c.loop-value.value-index c.value-item.result
      c.loop-value.out.items c.write_value.new.out.items _ c.in_default.not-Boolean c.loop-value-test.true
      (sym c.value-item.is) c.in_ok-write_value.ensures.ok c.loop-value.invariant.ok;
  keeps = keeps_more c.args.out.now.items c.loop-value.out.items c.write_value.new.out.items _
      c.loop-value.invariant.keeps c.in_ok-write_value.ensures.ok;
}

pub returns-in_err-write_value : goal.returns-in_err-write_value
returns-in_err-write_value c =
    let p = err_from_is_err_and c.from_residual.result c.from_residual.ensures.1 in
    rw p.1 (record {
      ok = tt;
      keeps = keeps_each c.args.out.now.items c.loop-value.out.items c.write_value.new.out.items c.loop-value.invariant.keeps c.in_err-write_value.ensures.keeps;
    })
