use Rattle.std.proofs.Common.{rules, ◌≡◌, ◌∙◌, ap, sym, map}
use Rattle.std.specs.Map.{keys_of}
use Rattle.std.specs.Map.Iter.{deref}
use Rattle.std.specs.String.{string_bytes}
use Rattle.std.proofs.lemmas.Map.Iter.{iter_end}
use Rattle.store_core.proofs.Trees.{names_of_tree}
use Rattle.store_core.proofs.memory.names_in.Goals as goal

pub returns-clause-names : goal.returns-clause-names
returns-clause-names c =
    let all : map deref c.loop-name.yielded ≡ keys_of c.args.objects.now.entries = search (rules, iter_end) in
    c.loop-name.invariant ∙ ap (map string_bytes) all ∙ sym (names_of_tree c.args.objects.now.entries)
