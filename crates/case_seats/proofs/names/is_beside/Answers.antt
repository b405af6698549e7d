use Rattle.std.proofs.Common.{◌∙◌, sym}
use Rattle.case_seats.proofs.Beside.{beside}
use Rattle.case_seats.proofs.names.is_beside.Goals as goal

pub returns-in-None-2 : goal.returns-in-None-2
returns-in-None-2 c = λ is objects. beside objects c.args.name.now (sym c.commit_version.ensures ∙ c.in-None.is) (sym c.in_ok-_version-in-None.ensures ∙ c.in-None-2.is)
