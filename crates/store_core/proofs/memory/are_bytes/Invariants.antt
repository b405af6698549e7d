use Rattle.std.specs.List.{AllByRecursion}
use Rattle.outcomes.specs.Bytes.{IsBytes}
use Rattle.store_core.proofs.memory.are_bytes.Given as goal

-- each so far is of bytes
abbrev pub invariant-loop-bytes : goal.invariant-loop-bytes
invariant-loop-bytes l = AllByRecursion (λ bytes. IsBytes bytes.now.items) l.yielded
