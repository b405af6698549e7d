use Rattle.std.proofs.Common.{◌≡◌, codes}
use Rattle.lake_hints.specs.Meanings.{IsMeaning}
use Rattle.lake_command.specs.Checks.{too_large_text}
use Rattle.lake_command.proofs.CheckLemmas.{told_then}
use Rattle.lake_command.proofs.checking.tell_large.Goals as goal

pub returns : goal.returns
returns g c =
    told_then g.W.Write.contents g.E.Write.contents (λ text. text ≡ too_large_text c.args.name.now) (IsMeaning (codes "P9")) 1 c.args.output.now c.tell_large_name-exit.new.output c.args.err.now c.tell_large_name-exit.new.err c.explain.new.err c.tell_large_name-exit.result
    c.tell_large_name-exit.ensures c.explain.ensures
