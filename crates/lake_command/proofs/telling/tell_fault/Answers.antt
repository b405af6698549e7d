use Rattle.outcomes.specs.Lines.{with_newline}
use Rattle.commit_core.specs.Texts.{refused}
use Rattle.lake_script.specs.Replies.{fault_text}
use Rattle.lake_hints.specs.Meanings.{IsMeaning}
use Rattle.lake_hints.proofs.Callers.{told_behind}
use Rattle.lake_command.proofs.telling.tell_fault.Goals as goal

pub returns : goal.returns
returns g c = told_behind g.E.Write.contents (IsMeaning c.args.code.now) c.args.err.now c.say.new.self c.explain.new.err (with_newline (refused (fault_text c.args.fault))) c.say.ensures c.explain.ensures
