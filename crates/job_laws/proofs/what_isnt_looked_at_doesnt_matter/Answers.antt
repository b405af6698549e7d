-- What a line is told, and what it puts, over the log and the files that it may look at.
use Rattle.job_laws.proofs.Left.{executed}
use Rattle.job_laws.proofs.SameLogs.{restores}
use Rattle.job_laws.proofs.SameReplies.{same_reply}
use Rattle.job_laws.proofs.SavedFronts.{saved}
use Rattle.job_laws.proofs.what_isnt_looked_at_doesnt_matter.Goals as goal

pub returns-clause-reply : goal.returns-clause-reply
returns-clause-reply c objects statement files printed within = same_reply objects statement files printed within

pub returns-clause-executes : goal.returns-clause-executes
returns-clause-executes c objects after statement files reply order within was_executed = executed objects after statement files reply order within was_executed

pub returns-clause-saved : goal.returns-clause-saved
returns-clause-saved c objects after new statement files order within put front = saved objects after new statement files order within put front

pub returns-clause-restores : goal.returns-clause-restores
returns-clause-restores c objects files use_checkpoints well = restores objects files use_checkpoints well
