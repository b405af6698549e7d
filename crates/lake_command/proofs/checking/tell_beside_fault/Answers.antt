use Rattle.std.proofs.Common.{codes}
use Rattle.outcomes.specs.Lines.{with_newline}
use Rattle.commit_core.specs.Texts.{refused}
use Rattle.folder_check.specs.Faults.{check_text}
use Rattle.lake_hints.specs.Meanings.{IsMeaning}
use Rattle.lake_hints.proofs.Callers.{told_behind}
use Rattle.lake_command.proofs.checking.tell_beside_fault.Goals as goal

pub returns : goal.returns
returns g c = told_behind g.E.Write.contents (IsMeaning (codes "F1")) c.args.err.now c.say.new.self c.explain.new.err (with_newline (refused (check_text c.args.fault.now))) c.say.ensures c.explain.ensures
