use Rattle.std.proofs.Common.{◌≡◌, ℕ, ◌+◌, ◌*◌, ◌%◌, ◌^◌, ◌<◌, ◌∙◌, sym, ap, arith}
use Rattle.std.proofs.lemmas.Nat.{shl_whole}
use Rattle.lake_bytes.specs.Hybrid.{low_first}
use Rattle.lake_bytes.proofs.BitLemmas.{byte_fits, byte_taken}
use Rattle.lake_bytes.proofs.hybrid.Bits.fill.Goals as goal

pub loop-self-preserved : goal.loop-self-preserved
loop-self-preserved c =
    let old = c.loop-self.self in
    let byte = c.from.result in
    let low = low_first c.in-Some.rest.now in
    let small : byte < 256 = omega arith in
    let whole : (byte * 2 ^ old.held) % 2 ^ 64 ≡ byte * 2 ^ old.held =
    shl_whole byte 8 old.held 64 small (omega arith) in
    let first : byte + 256 * low ≡ low_first old.rest.now = ap (λ (n : ℕ). n + 256 * low) c.from.ensures
    ∙ sym (ap low_first c.in-Some.ensures.cases.0) in
    record {
      held = record {
        fits = rw whole (byte_fits old.buffer old.held byte c.loop-self.invariant.held.fits small);
        few =
            omega arith;
      };
      left = rw whole (byte_taken old.buffer old.held byte low ∙ ap (λ (n : ℕ). old.buffer + 2 ^ old.held * n) first
          ∙ c.loop-self.invariant.left);
    }
