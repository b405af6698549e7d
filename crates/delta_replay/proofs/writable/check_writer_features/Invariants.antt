use Rattle.std.proofs.Common.{◌≡◌, drop, map, string_bytes}
use Rattle.delta_replay.specs.Support.{first_unknown, is_known_to_writers}
use Rattle.delta_replay.proofs.writable.check_writer_features.Given as goal

-- all features seen so far are known
abbrev pub invariant-loop-feature : goal.invariant-loop-feature
invariant-loop-feature l = first_unknown is_known_to_writers (map (λ s. string_bytes s) l.features) ≡ first_unknown is_known_to_writers (map (λ s. string_bytes s) (drop l.feature-index l.features))
