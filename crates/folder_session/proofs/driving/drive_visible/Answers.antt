use Rattle.std.proofs.Common.{ℕ, List, Option, [], ◌∷◌, ◌++◌, Some, None, option_map, refl, sym, ap, subst, ◌∙◌, arith, length-append}
use Rattle.store_core.specs.Objects.{Objects}
use Rattle.session_core.specs.Talks.{Asked, Talk, Told, asked_view, told_view, heard}
use Rattle.session_core.specs.Shown.{IsExact}
use Rattle.session_core.proofs.Callers.{asked_more}
use Rattle.front_reads.specs.Fronts.{visible}
use Rattle.table_folder.proofs.Callers.{traced_on}
use Rattle.folder_session.specs.Driving.{AreNames}
use Rattle.folder_session.specs.Visible.{FailsVisible, HearsVisible, given_after, given_names}
use Rattle.folder_session.proofs.Showing.{shows_also, unlost_also}
use Rattle.folder_session.proofs.VisibleTalks.{given_more, heard_also, on_fault}
use Rattle.folder_session.proofs.driving.drive_visible.Goals as goal

pub calls-init : goal.calls-init
calls-init g c = record {
  unended = c.requires.unended;
  answered = rw c.requires.new tt;
  never_lost = refl;
  job = refl;
  steady = λ steady. steady;
  untouched = λ steady. refl;
  faults = refl;
  reliable = λ reliable. reliable;
  names = λ objects are. are;
  talks = λ before fits. record {
    talk = [];
    taken = [];
    asked = None;
    fit = fits;
    all = refl;
    asked_for = tt;
    unlost = refl;
    few = omega arith;
    same = refl;
    calls = [];
    heard_by = refl;
    made = refl;
  };
  driven = λ steady are before fits. record {
    talk = [];
    taken = [];
    asked = None;
    fit = fits;
    all = refl;
    shown = tt;
    asked_for = tt;
    unlost = refl;
    few = omega arith;
  };
}

pub calls-preserved : goal.calls-preserved
calls-preserved g c =
    let steps = c.in-Ask.ensures.steps in
    let told = c.in_ok-ask-in-Ask.ensures in
    let i = c.calls.invariant in
    let asked : Asked = asked_view c.in-Ask.request in
    let reply : Told = told_view c.in_ok-ask-in-Ask.field-0 in
    record {
      unended = steps.2;
      answered = rw steps.0 told.kind;
      never_lost = told.never_lost;
      job = c.in-Ask.ensures.same ∙ i.job;
      steady = λ steady. told.steady (i.steady steady);
      untouched = λ steady. told.untouched (i.steady steady) ∙ i.untouched steady;
      faults = told.faults ∙ i.faults;
      reliable = λ reliable. told.stays_reliable (i.reliable reliable);
      names = λ objects are. told.names objects (i.names objects are);
      talks = λ before fits.
          let d = i.talks before fits in
          let step = c.in-Ask.ensures.goes before d.taken d.asked d.fit in
          let one = told.heard in
          record {
            talk = d.talk ++ (asked, reply) ∷ [];
            taken = heard d.taken d.asked (option_map told_view c.calls.reply);
            asked = Some asked;
            fit = step.0;
            all = ap (λ (t : Talk). t ++ (asked, reply) ∷ []) d.all;
            asked_for = asked_more (g.N.Session.asks (g.N.Session.job c.args.session.now) before) [] d.talk asked reply d.asked_for (rw i.job at (rw d.all at step.1));
            unlost = unlost_also d.talk asked reply d.unlost told.never_lost;
            few = let longer = length-append d.talk ((asked, reply) ∷ []) in omega (arith, d.few, steps.1, longer);
            same = told.given ∙ (ap (λ (given : Option (List (List ℕ))). given_after given asked) d.same ∙ sym (given_more (given_names c.args.names) d.talk asked reply));
            calls = d.calls ++ one.0;
            heard_by = heard_also c.args.front (given_names c.args.names) d.talk asked reply d.calls one.0 d.heard_by (subst (λ (given : Option (List (List ℕ))). HearsVisible c.args.front given asked reply one.0) d.same one.2);
            made = traced_on g.F.Folder.makes c.args.folder.now c.calls.folder c.ask.new.folder d.calls one.0 d.made one.1;
          };
      driven = λ steady are before fits.
          let d = i.driven steady are before fits in
          let step = c.in-Ask.ensures.goes before d.taken d.asked d.fit in
          record {
            talk = d.talk ++ (asked, reply) ∷ [];
            taken = heard d.taken d.asked (option_map told_view c.calls.reply);
            asked = Some asked;
            fit = step.0;
            all = ap (λ (t : Talk). t ++ (asked, reply) ∷ []) d.all;
            shown = shows_also _ d.talk asked reply d.shown (subst (λ (o : Objects). IsExact (visible c.args.front o) asked reply) (i.untouched steady) (told.exact (i.steady steady) (subst (λ (o : Objects). AreNames c.calls.names o) (sym (i.untouched steady)) (i.names _ are))));
            asked_for = asked_more (g.N.Session.asks (g.N.Session.job c.args.session.now) before) [] d.talk asked reply d.asked_for (rw i.job at (rw d.all at step.1));
            unlost = unlost_also d.talk asked reply d.unlost told.never_lost;
            few = let longer = length-append d.talk ((asked, reply) ∷ []) in omega (arith, d.few, steps.1, longer);
          };
    }

pub returns-in-Done-clause-talks : goal.returns-in-Done-clause-talks
returns-in-Done-clause-talks g c = λ before fits.
    let i = c.calls.invariant.talks before fits in
    let step = c.in-Done.ensures.goes before i.taken i.asked i.fit in
    record {
      talk = i.talk;
      asked = i.asked_for;
      unlost = i.unlost;
      ended = rw c.calls.invariant.job at (rw i.all at step);
      few = omega (arith, i.few);
      calls = i.calls;
      heard = i.heard_by;
      made = i.made;
    }

-- ---- where a call of the folder fails

pub returns-in_err-ask-in-Ask-clause-talks : goal.returns-in_err-ask-in-Ask-clause-talks
returns-in_err-ask-in-Ask-clause-talks g c = λ before fits.
    let steps = c.in-Ask.ensures.steps in
    let asked : Asked = asked_view c.in-Ask.request in
    let d = c.calls.invariant.talks before fits in
    let step = c.in-Ask.ensures.goes before d.taken d.asked d.fit in
    let last = c.in_err-ask-in-Ask.ensures.heard in
    on_fault _ _ _ c.from_residual.result c.from_residual.ensures.1
    (record {
      talk = d.talk;
      asked = d.asked_for;
      last = asked;
      asked_last = rw c.calls.invariant.job at (rw d.all at step.1);
      few = omega (arith, d.few, steps.1);
      calls = d.calls;
      heard = d.heard_by;
      behind = last.0;
      failed = subst (λ (given : Option (List (List ℕ))). FailsVisible c.args.front given asked last.0) d.same last.2;
      made = traced_on g.F.Folder.makes c.args.folder.now c.calls.folder c.ask.new.folder d.calls last.0 d.made last.1;
    })
