use Rattle.std.proofs.Common.{ℕ, sym, ap, ◌∙◌}
use Rattle.lake_bytes.specs.Hybrid.{low_first, unpacked}
use Rattle.lake_bytes.proofs.BitLemmas.{unpacked-none}
use Rattle.lake_bytes.proofs.hybrid_reader.packed_values.Goals as goal

pub returns-then-width-eq0-clause-values : goal.returns-then-width-eq0-clause-values
returns-then-width-eq0-clause-values c count =
    sym (unpacked-none count (low_first c.args.body.now))
    ∙ ap (λ (w : ℕ). unpacked w count (low_first c.args.body.now)) (sym c.if-width-eq0.true)

pub returns-clause-values : goal.returns-clause-values
returns-clause-values c count = ap (unpacked c.args.width count) c.new.ensures.left
