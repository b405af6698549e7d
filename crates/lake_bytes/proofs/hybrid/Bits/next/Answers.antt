use Rattle.std.proofs.Common.{◌≡◌, ◌⊎◌, inl, inr, ℕ, [], ◌-◌, ◌*◌, ◌/◌, ◌%◌, ◌^◌, ◌≤◌, ◌∙◌, sym, ap, arith}
use Rattle.std.proofs.Math.Nat.{div-mul-le_self, mod-eq-sub-div-mul, mod-eq_of_lt, pow-le-pow_right}
use Rattle.lake_bytes.specs.Hybrid.{low_first}
use Rattle.lake_bytes.specs.Internal.{IsHeld}
use Rattle.lake_bytes.specs.declared.hybrid.Bits.{Bits}
use Rattle.lake_bytes.proofs.BitLemmas.{Given, given}
use Rattle.lake_bytes.proofs.hybrid.Bits.next.Goals as goal

by_bits : (width : ℕ) (bits : Bits) → IsHeld bits → (width ≤ bits.held) ⊎ (bits.rest.now ≡ [])
    → Given width bits.held bits.buffer (low_first bits.rest.now)
by_bits width bits held (inl enough) =
    given width bits.held bits.buffer (low_first bits.rest.now) held.fits (inl enough)
by_bits width bits held (inr none) =
    given width bits.held bits.buffer (low_first bits.rest.now) held.fits (inr (ap low_first none))

-- the low bits are what is left without the others
low_bits : (width : ℕ) (bits : Bits) → IsHeld bits
    → bits.buffer - bits.buffer / 2 ^ width * 2 ^ width % 2 ^ 64 ≡ bits.buffer % 2 ^ width
low_bits width bits held =
    let less : 2 ^ bits.held ≤ 2 ^ 40 = pow-le-pow_right {n = 2} (omega arith) {i = bits.held} {j = 40} (omega (arith, held.few)) in
    let others : bits.buffer / 2 ^ width * 2 ^ width ≤ bits.buffer = div-mul-le_self bits.buffer (2 ^ width) in
    let same : bits.buffer / 2 ^ width * 2 ^ width % 2 ^ 64 ≡ bits.buffer / 2 ^ width * 2 ^ width =
    mod-eq_of_lt (omega (arith, less, others, held.fits)) in
    rw same (sym (mod-eq-sub-div-mul bits.buffer (2 ^ width)))

pub returns-clause-value : goal.returns-clause-value
returns-clause-value c =
    let g = by_bits c.args.width c.fill.new.self c.fill.ensures.held c.fill.ensures.enough in
    low_bits c.args.width c.fill.new.self c.fill.ensures.held ∙ g.value
    ∙ ap (λ (n : ℕ). n % 2 ^ c.args.width) c.fill.ensures.left

pub returns-clause-left : goal.returns-clause-left
returns-clause-left c =
    let g = by_bits c.args.width c.fill.new.self c.fill.ensures.held c.fill.ensures.enough in
    rw (c.saturating_sub-self.ensures) (g.left ∙ ap (λ (n : ℕ). n / 2 ^ c.args.width) c.fill.ensures.left)

pub returns-clause-held : goal.returns-clause-held
returns-clause-held c =
    let g = by_bits c.args.width c.fill.new.self c.fill.ensures.held c.fill.ensures.enough in
    record { fits = rw (c.saturating_sub-self.ensures) g.fits; few = omega arith }
