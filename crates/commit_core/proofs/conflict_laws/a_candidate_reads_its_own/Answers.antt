use Rattle.commit_core.specs.Conflicts.{candidate_view}
use Rattle.commit_core.proofs.CandidateLemmas.{own_read}
use Rattle.commit_core.proofs.conflict_laws.a_candidate_reads_its_own.Goals as goal

pub returns : goal.returns
returns c = λ candidate. own_read (candidate_view candidate) candidate.own_are_read
