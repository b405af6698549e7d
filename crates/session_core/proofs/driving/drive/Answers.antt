use Rattle.std.proofs.Common.{◌≡◌, ◌+◌, ◌≤◌, ◌<◌, [], ◌∷◌, ◌++◌, length, Option, Some, None, option_map, Bool, refl, sym, ap, subst, ◌∙◌, arith, length-append}
use Rattle.std.specs.Prelude.{◌||◌}
use Rattle.session_core.specs.Sessions.{Drives}
use Rattle.session_core.specs.Stores.{Answers, MakesCall, MayAnswer}
use Rattle.session_core.specs.Talks.{Asked, Talk, Told, asked_view, told_view, heard, is_lost}
use Rattle.session_core.proofs.Bearing.{bears_grows, talk_alone, talk_borne, talk_grows}
use Rattle.session_core.proofs.MoreCalls.{asked_more, talked_more, counted_more, lost_more}
use Rattle.session_core.proofs.driving.drive.Goals as goal

pub calls-init : goal.calls-init
calls-init g c = record {
  unended = c.requires.unended;
  answered = rw c.requires.new tt;
  job = refl;
  reliable = λ reliable. reliable;
  driven = λ before fits. record {
    talk = [];
    taken = [];
    asked = None;
    fit = fits;
    all = refl;
    talked = refl;
    called = refl;
    exact = λ reliable. refl;
    asked_for = tt;
    counted = ((λ e. absurd cc), (λ e. refl));
    heard = refl;
    few = omega arith;
  };
}

pub returns-in-Done-clause-driven : goal.returns-in-Done-clause-driven
returns-in-Done-clause-driven g c = λ before fits.
    let i = c.calls.invariant.driven before fits in
    let step = c.in-Done.ensures.goes before i.taken i.asked i.fit in
    record {
      talk = i.talk;
      talked = i.talked;
      called = i.called;
      exact = i.exact;
      asked = i.asked_for;
      borne = talk_borne _ _ i.talk (talk_alone _ _ i.talk i.talked);
      still_borne = bears_grows _ _ before (talk_grows _ _ i.talk (talk_alone _ _ i.talk i.talked));
      ended = rw c.calls.invariant.job at (rw i.all at step);
      counted = i.counted;
      told = c.in-Done.ensures.told ∙ sym i.heard;
      few = omega (arith, i.few);
    }

pub calls-preserved : goal.calls-preserved
calls-preserved g c =
    let steps = c.in-Ask.ensures.steps in
    let asked : Asked = asked_view c.in-Ask.request in
    let told : Told = told_view c.ask.result in
    record {
      unended = steps.2;
      answered = rw steps.0 c.ask.ensures.kind;
      job = c.in-Ask.ensures.same ∙ c.calls.invariant.job;
      reliable = λ reliable. c.ask.ensures.reliable (c.calls.invariant.reliable reliable);
      driven = λ before fits.
          let i = c.calls.invariant.driven before fits in
          let step = c.in-Ask.ensures.goes before i.taken i.asked i.fit in
          record {
            talk = i.talk ++ (asked, told) ∷ [];
            taken = heard i.taken i.asked (option_map told_view c.calls.reply);
            asked = Some asked;
            fit = step.0;
            all = ap (λ (t : Talk). t ++ (asked, told) ∷ []) i.all;
            talked = talked_more MayAnswer _ _ _ i.talk asked told i.talked c.ask.ensures.answer;
            called = talked_more (MakesCall g.S.Store.makes) _ _ _ i.talk asked told i.called c.ask.ensures.called;
            exact = λ reliable. talked_more Answers _ _ _ i.talk asked told (i.exact reliable) (c.ask.ensures.exact (c.calls.invariant.reliable reliable));
            asked_for = asked_more (g.N.Session.asks (g.N.Session.job c.args.session.now) before) [] i.talk asked told i.asked_for (rw c.calls.invariant.job at (rw i.all at step.1));
            counted = counted_more i.talk asked told _ _ _ i.counted c.ask.ensures.counted;
            heard = lost_more i.talk asked told ∙ ap (λ (b : Bool). b || is_lost told) (i.heard ∙ c.in-Ask.ensures.told);
            few = let longer = length-append i.talk ((asked, told) ∷ []) in omega (arith, i.few, steps.1, longer);
          };
    }
