use Rattle.std.proofs.Common.{◌∙◌, of_calls, option_map, refl, subst}
use Rattle.session_core.specs.Talks.{asked_view, heard, told_view}
use Rattle.table_jobs.specs.Jobs.{Asks, Ends, Job}
use Rattle.table_jobs.specs.Sessions.{end_view, job_of}
use Rattle.lake_workers.proofs.Going.{goes_on, is_driven, may_be_made, starts}
use Rattle.lake_workers.proofs.driving.drive_with.Goals as goal

pub calls-init : goal.calls-init
calls-init g c = record {
  callable = c.requires.callable;
  unended = c.requires.unended;
  answered = rw c.requires.new tt;
  kept = refl;
  job = refl;
  going = λ before fits earlier. starts before (job_of c.args.session.now) c.args.seat.now c.args.session.now fits;
}

pub returns-in-Done-clause-driven : goal.returns-in-Done-clause-driven
returns-in-Done-clause-driven g c before fits earlier =
    let i = c.calls.invariant in
    let r = i.going before fits earlier in
    let job = job_of c.args.session.now in
    let ended = subst (λ (j : Job). Ends j before (heard r.taken r.asked (option_map told_view c.calls.reply)) (end_view c.in-Done.end)) i.job (c.in-Done.ensures.goes before r.taken r.asked r.fit) in
    is_driven before job c.args.seat.now c.calls.seat c.calls.session (option_map told_view c.calls.reply) c.calls.receipt earlier r c.what_a_session_may.ensures.may c.what_a_session_may.ensures.created c.requires.valid
    (record { end = c.in-Done.end; receipt = c.calls.receipt }) refl ended (c.in-Done.ensures.told ∙ i.kept)

pub ask-answer-requires : goal.ask-answer-requires
ask-answer-requires g c =
    let i = c.calls.invariant in
    let fits = c.requires.fits in
    let before = fits.0 in
    let r = i.going before fits.1 fits.2 in
    let job = job_of c.args.session.now in
    let step = c.in-Ask.ensures.goes before r.taken r.asked r.fit in
    let wants = subst (λ (j : Job). Asks j before (heard r.taken r.asked (option_map told_view c.calls.reply)) (asked_view c.in-Ask.request)) i.job step.1 in
    may_be_made before job c.args.seat.now c.calls.seat c.calls.session (option_map told_view c.calls.reply) c.calls.receipt fits.2 r c.what_a_session_may.ensures.may c.requires.valid (asked_view c.in-Ask.request) wants

pub calls-preserved : goal.calls-preserved
calls-preserved g c =
    let i = c.calls.invariant in
    let steps = c.in-Ask.ensures.steps in
    record {
      callable = search of_calls;
      unended = steps.2;
      answered = rw steps.0 c.ask-answer.ensures.answers;
      kept = c.ask-answer.ensures.kept;
      job = c.in-Ask.ensures.same ∙ i.job;
      going = λ before fits earlier.
          let r = i.going before fits earlier in
          let step = c.in-Ask.ensures.goes before r.taken r.asked r.fit in
          let wants = subst (λ (j : Job). Asks j before (heard r.taken r.asked (option_map told_view c.calls.reply)) (asked_view c.in-Ask.request)) i.job step.1 in
          goes_on before (job_of c.args.session.now) c.args.seat.now c.calls.seat c.calls.session (option_map told_view c.calls.reply) c.calls.receipt earlier r c.what_a_session_may.ensures.created
          c.next.new.self c.ask-answer.new.seat (asked_view c.in-Ask.request) (told_view c.ask-answer.result.reply) c.ask-answer.result.receipt step.0 wants c.ask-answer.ensures;
    }
