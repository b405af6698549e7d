use Rattle.std.proofs.Common.{◌∙◌, ap, length, arith}
use Rattle.std.proofs.lemmas.List.{append-nil, length-map}
use Rattle.commit_core.specs.CommitSessions.{Winner, taken}
use Rattle.commit_core.proofs.RaceLaws.{holds_of_commit, put_admissible}
use Rattle.commit_core.proofs.commit_laws.what_a_commit_may.Goals as goal

pub returns-clause-asks : goal.returns-clause-asks
returns-clause-asks c = λ objects job before talk version bytes lawful borne here made own asks.
    put_admissible objects job.bytes job.candidate
    (λ at won winner good stands is free fits. c.a_candidate_without_conflict_goes_on.ensures objects at job.bytes won job.candidate winner lawful good made own stands is free fits)
    version before talk job.tries bytes job.version here borne asks

pub returns-clause-tells : goal.returns-clause-tells
returns-clause-tells c = λ objects job before talk result borne ends. holds_of_commit objects job talk borne before result ends

pub returns-clause-versions : goal.returns-clause-versions
returns-clause-versions c = λ job before talk version bytes asks.
    let comes = asks.1 in
    (comes.winners, comes.told ∙ append-nil (taken job.version job.bytes comes.winners), comes.at, omega (arith, asks.3, ap length comes.won, length-map comes.winners (λ (winner : Winner). winner.commit)))
