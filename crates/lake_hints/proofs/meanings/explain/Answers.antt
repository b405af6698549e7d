use Rattle.std.proofs.Common.{[], sym}
use Rattle.lake_hints.specs.Meanings.{entry, unlisted}
use Rattle.lake_hints.proofs.ErrorLemmas.{told_nothing}
use Rattle.lake_hints.proofs.meanings.explain.Goals as goal

pub returns-in-Some : goal.returns-in-Some
returns-in-Some g c = (_, entry c.in-Some.refusal.now c.in-Some.ensures.code, c.say.ensures)

pub returns-in_default : goal.returns-in_default
returns-in_default g c = ([], unlisted (sym c.in_default.ensures.listed), told_nothing g.E.Write.contents c.args.err.now)
