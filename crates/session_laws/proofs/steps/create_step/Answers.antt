use Rattle.std.proofs.Common.{refl, subst}
use Rattle.session_core.specs.Sessions.{Goes}
use Rattle.session_core.specs.Talks.{Talk}
use Rattle.commit_core.specs.CreateSessions.{CreateFits, job_of, creation_tells_lost}
use Rattle.session_laws.specs.May.{move_of}
use Rattle.table_jobs.specs.Jobs.{Asks, Ends, creation, creates}
use Rattle.session_laws.proofs.NextSteps.{does_step, heard_now}
use Rattle.session_laws.proofs.steps.create_step.Goals as goal

pub returns-clause-may : goal.returns-clause-may
returns-clause-may c = λ objects schema entries before talk now asked fit hears amid.
    let old = c.args.session.now in
    let job = creates (job_of old) in
    let both = heard_now talk asked _ now hears in
    let goes = subst (λ (t : Talk). Goes (CreateFits before) (Asks job before) (λ u outcome. Ends job before u (creation outcome)) c.next.new.self t c.next.result) both.0 (c.next.ensures.goes before talk asked fit) in
    let does = does_step job creation creation_tells_lost (CreateFits before) before now _ c.next.new.self c.next.result (λ outcome. refl) both.1 goes c.next.ensures.told in (
      c.what_a_session_may.ensures.may objects schema entries job before now (move_of creation c.next.result) amid tt does,
      c.what_a_session_may.ensures.created job before now (move_of creation c.next.result) amid.asked does,
    )
