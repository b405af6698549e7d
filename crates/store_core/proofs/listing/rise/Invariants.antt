use Rattle.std.proofs.Common.{◌≡◌, ◌+◌, ◌<◌, ◌≤◌, ◌-◌, ℕ, String, Global, slice_index_or, length, string_bytes}
use Rattle.std.specs.declared.cmp.Ordering.TheVariants.{Less}
use Rattle.store_core.specs.Objects.{name_order}
use Rattle.store_core.proofs.listing.rise.Given as goal

abbrev pub invariant-loop-place : goal.invariant-loop-place
invariant-loop-place l = record {
  some : 1 ≤ l.place;
  rising : (k : ℕ) (d : String Global) → k + 1 < l.place → name_order (string_bytes (slice_index_or l.names k d)) (string_bytes (slice_index_or l.names (k + 1) d)) ≡ Less;
}

abbrev pub decreases-loop-place : goal.decreases-loop-place
decreases-loop-place l = length l.names - l.place
