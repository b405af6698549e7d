use Rattle.std.proofs.Common.{◌-◌, ◌*◌, ◌++◌, ℕ, ap, length, map, arith, ◌∙◌}
use Rattle.std.proofs.lemmas.List.{length-map}
use Rattle.lake_bytes.specs.Hybrid.{low_bytes}
use Rattle.shred.specs.Views.{borrowed_value}
use Rattle.page_cells.specs.Plain.{bytes_for_bits}
use Rattle.page_writing.specs.Writing.{packed_bits}
use Rattle.page_writing.proofs.Kept.{keeps_more}
use Rattle.page_writing.proofs.WrittenBits.{bits_written, eight_values, no_bits_left}
use Rattle.page_writing.proofs.plain.write_bits.Goals as goal

pub loop-index-preserved : goal.loop-index-preserved
loop-index-preserved c =
    let values = c.args.values.now in
    let index = c.loop-index.index in
    record {
      ok = bits_written (bytes_for_bits (length values)) index (map borrowed_value values) c.packed_byte.result
          c.loop-index.out.items c.push.new.self.items _ (omega (arith, c.div_ceil-index-end.ensures))
          (c.packed_byte.ensures ∙ eight_values borrowed_value values (8 * index) c.min-end.result c.min-end.ensures)
          c.in_ok-push.ensures.items c.loop-index.invariant.ok;
      keeps = keeps_more c.args.out.now.items c.loop-index.out.items c.push.new.self.items _
          c.loop-index.invariant.keeps c.in_ok-push.ensures.items;
    }

pub returns-clause-ok : goal.returns-clause-ok
returns-clause-ok c =
    let values = c.args.values.now in
    let all = c.args.out.now.items in
    no_bits_left (bytes_for_bits (length values) - c.loop-index.index) _ c.loop-index.out.items _
    (omega (arith, c.div_ceil-index-end.ensures)) c.loop-index.invariant.ok
    ∙ ap (λ (n : ℕ). all ++ low_bytes (bytes_for_bits n) (packed_bits (map borrowed_value values)))
    (omega (arith, length-map values borrowed_value))
