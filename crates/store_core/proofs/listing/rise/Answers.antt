use Rattle.std.proofs.Common.{◌≡◌, ◌∙◌, ◌+◌, ◌-◌, ℕ, suc, false, ap, slice_index_or, string_bytes, subst, arith}
use Rattle.std.specs.declared.cmp.Ordering.TheVariants.{Less}
use Rattle.std.specs.Ordering.{is_ge}
use Rattle.std.specs.String.{string_cmp}
use Rattle.store_core.specs.Objects.{name_order}
use Rattle.store_core.proofs.Placing.{rises_from, rises_next}
use Rattle.store_core.proofs.listing.rise.Goals as goal

pub returns-then-ge : goal.returns-then-ge
returns-then-ge c = λ rises.
    let names = c.args.names.now in
    let place = c.loop-place.place in
    let here = c.index-names-place.result in
    let there = c.index-names-place-in-loop-place.result in
    let next : place ≡ suc (place - 1) = omega (arith, c.loop-place.invariant.some) in
    let below : is_ge (string_cmp here there) ≡ false =
    ap (λ x. is_ge (string_cmp x there)) c.index-names-place.is
    ∙ (ap (λ y. is_ge (string_cmp (slice_index_or names (place - 1) here) y)) (c.index-names-place-in-loop-place.is ∙ ap (λ n. slice_index_or names n there) next)
    ∙ rises_next names rises (place - 1) here there (omega (arith, next, c.loop-place-test.true))) in
    cc (c.if-ge.ensures ∙ below)

pub returns : goal.returns
returns c =
    let names = c.args.names.now in
    rises_from names (λ k d within.
    let next : k + 1 ≡ suc k = omega arith in
    subst (λ (n : ℕ). name_order (string_bytes (slice_index_or names k d)) (string_bytes (slice_index_or names n d)) ≡ Less) next (c.loop-place.invariant.rising k d (omega (arith, within, c.loop-place-test.false))))
