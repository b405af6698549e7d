use Rattle.std.proofs.Common.{◌∙◌, ap, subst, sym}
use Rattle.script_lines.specs.Lines.{IsTimely, reading_view, statement_view}
use Rattle.script_lines.proofs.Callers.{reading_timely}
use Rattle.seat_cases.proofs.jobs.asked_by.Goals as goal

-- what a line asks for has a moment that fits
pub creation_of-requires : goal.creation_of-requires
creation_of-requires c = subst (λ line. IsTimely (statement_view line)) c.in-Asks-Create.field-0-is (reading_timely _ _ (ap reading_view (sym c.in-Asks-Create.is) ∙ c.in_ok-id.ensures))

pub job_of_task-requires-clause-timely : goal.job_of_task-requires-clause-timely
job_of_task-requires-clause-timely c = subst (λ line. IsTimely (statement_view line)) c.in-Asks-Job.field-0-is (reading_timely _ _ (ap reading_view (sym c.in-Asks-Job.is) ∙ c.in_ok-id.ensures))
