use Rattle.std.proofs.Common.{◌≡◌, drop, map, string_bytes}
use Rattle.delta_replay.specs.Support.{has_feature}
use Rattle.delta_replay.proofs.writable.has_feature.Given as goal

-- it is among those that are left, or not at all
abbrev pub invariant-loop-feature : goal.invariant-loop-feature
invariant-loop-feature l = has_feature l.name (map (λ s. string_bytes s) l.features) ≡ has_feature l.name (map (λ s. string_bytes s) (drop l.feature-index l.features))
