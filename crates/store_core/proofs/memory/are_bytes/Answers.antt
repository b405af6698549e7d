use Rattle.std.proofs.Common.{rules, ◌≡◌, map, subst}
use Rattle.std.specs.BTreeMap.{values}
use Rattle.std.specs.List.{AllByRecursion}
use Rattle.std.specs.Map.Iter.{deref}
use Rattle.std.proofs.lemmas.Map.Iter.{iter_end}
use Rattle.outcomes.specs.Bytes.{IsBytes}
use Rattle.store_core.proofs.Trees.{bytes_of_borrowed, bytes_of_tree}
use Rattle.store_core.proofs.memory.are_bytes.Goals as goal

pub returns : goal.returns
returns c =
    let all : map deref c.loop-bytes.yielded ≡ values c.args.objects.now = search (rules, iter_end) in
    bytes_of_tree c.args.objects.now.entries (subst (AllByRecursion (λ bytes. IsBytes bytes.items)) all (bytes_of_borrowed c.loop-bytes.yielded c.loop-bytes.invariant))
