use Rattle.std.proofs.Common.{ℕ, ◌*◌, ◌/◌, replicate, ◌∙◌, sym, ap, arith}
use Rattle.std.proofs.lemmas.List.{length-replicate}
use Rattle.lake_bytes.specs.Hybrid.{low_first, unpacked}
use Rattle.lake_bytes.proofs.BitLemmas.{take-unpacked}
use Rattle.lake_bytes.proofs.RunLemmas.{length-unpacked, packed_read, repeated_read}
use Rattle.lake_bytes.proofs.ValueLemmas.{take-equal}
use Rattle.lake_bytes.proofs.hybrid_reader.begin_run.Goals as goal

pub returns-in_ok-body-clause-given : goal.returns-in_ok-body-clause-given
returns-in_ok-body-clause-given c =
    let count = c.in_ok-header.header / 2 in
    let value = low_first c.in_ok-body.body.now in record {
      values = replicate count value;
      read = repeated_read c.args.width c.in_ok-header.header c.bytes_for.result c.args.ahead.now c.varint.new.self
          c.in_ok-body.body.now c.take.new.self c.in_ok-header.ensures.exact c.if-count-eq0.false c.if-header-eq0.true
          c.bytes_for.ensures c.in_ok-body.ensures.exact;
      wanted_of = take-equal c.args.wanted c.min.result count c.low_first.result value c.min.ensures
          c.low_first.ensures.value;
      counted = omega (arith, c.min.ensures, length-replicate count value);
      some = omega (arith, c.min.ensures, c.if-count-eq0.false, c.requires.wanted);
      held = tt;
    }

pub returns-in_ok-body-2-clause-given : goal.returns-in_ok-body-2-clause-given
returns-in_ok-body-2-clause-given c =
    let groups = c.in_ok-header.header / 2 in
    let number = low_first c.in_ok-body-2.body.now in record {
      values = unpacked c.args.width (8 * groups) number;
      read = packed_read c.args.width c.in_ok-header.header c.args.ahead.now c.varint.new.self c.in_ok-body-2.body.now
          c.take_groups.new.cursor c.in_ok-header.ensures.exact c.if-count-eq0.false c.if-header-eq0.false
          c.in_ok-body-2.ensures;
      wanted_of = c.packed_values.ensures.values c.values_in.result
          ∙ ap (λ (n : ℕ). unpacked c.args.width n number) c.values_in.ensures
          ∙ sym (take-unpacked c.args.width c.args.wanted (8 * groups) number);
      counted = omega (arith, c.values_in.ensures, length-unpacked c.args.width (8 * groups) number);
      some = omega (arith, c.values_in.ensures, c.if-count-eq0.false, c.requires.wanted);
      held = c.packed_values.ensures.held;
    }
