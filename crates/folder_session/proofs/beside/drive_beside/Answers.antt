use Rattle.std.proofs.Common.{◌≡◌, ℕ, List, Option, [], ◌∷◌, ◌++◌, Some, None, true, false, map, option_map, String, Vec, refl, sym, ap, subst, ◌∙◌, arith, length-append}
use Rattle.std.specs.Prelude.{MatchOption, string_bytes}
use Rattle.std.specs.Global.{Global}
use Rattle.store_core.specs.Listed.{listed}
use Rattle.store_core.specs.Memory.{stored_objects}
use Rattle.store_core.specs.Objects.{Objects, names_of}
use Rattle.store_core.specs.declared.names.Names.{Names}
use Rattle.session_core.specs.Stores.{Answers, State, Talked}
use Rattle.session_core.specs.Talks.{Asked, Talk, Told, asked_view, told_view, has_lost, heard}
use Rattle.session_core.specs.declared.asking.Reply.{Reply}
use Rattle.session_core.proofs.Callers.{asked_more, bears_grows, exact_never_lost, talk_alone, talk_borne, talk_grows}
use Rattle.table_folder.specs.Traces.{lists}
use Rattle.table_folder.proofs.Callers.{none_made_on, traced_on}
use Rattle.folder_session.specs.Beside.{AreApart, HearsCall, put_so, with_beside}
use Rattle.folder_session.proofs.BesideLemmas.{answered_more, heard_more, hears_makes_none, looked_once, put_more, traced_once, unlost_more}
use Rattle.folder_session.proofs.LookLemmas.{counts_as_load, counts_handed_on, counts_short, fails_as_load, fails_handed_on, fails_short}
use Rattle.folder_session.proofs.VisibleTalks.{on_fault}
use Rattle.folder_session.proofs.beside.drive_beside.Goals as goal

pub calls-init : goal.calls-init
calls-init g c =
    let objects : Objects = g.F.Folder.objects c.args.folder.now in
    let none = c.new-added.ensures in
    let first = rising c.in_ok-names-2.field-0 c.in-Some.names _ c.in-Some.is c.in_ok-names-2.ensures in
    let listed_first = subst (λ (ns : List (List ℕ)). g.F.Folder.makes c.args.folder.now (lists (Some ns)) c.names.new.self) (sym first) c.in_ok-names.ensures.called in
    let same : ◌≡◌ {A = State} (with_beside objects (stored_objects c.new-added.result), []) (objects, []) = λ i. (with_beside objects (none i), []) in
    record {
      unended = c.requires.unended;
      answered = rw c.requires.new tt;
      never_lost = refl;
      job = refl;
      apart = λ steady name stands. let wrong = rw none at stands in absurd cc;
      steady = λ steady. c.in_ok-names.ensures.steady steady;
      untouched = λ steady. c.in_ok-names.ensures.untouched steady;
      faults = c.in_ok-names.ensures.faults;
      reliable = λ reliable. c.in_ok-names.ensures.stays_reliable reliable;
      listed = λ steady. rising c.in_ok-names-2.field-0 c.in-Some.names _ c.in-Some.is c.in_ok-names-2.ensures ∙ c.in_ok-names.ensures.names steady;
      talks = λ before fits. record {
        talk = [];
        taken = [];
        asked = None;
        fit = fits;
        all = refl;
        asked_for = tt;
        unlost = refl;
        few = omega arith;
        put = none;
        calls = [];
        heard_by = refl;
        made = traced_once g.F.Folder.makes c.args.folder.now c.names.new.self (lists (Some (listed c.in-Some.names))) listed_first;
      };
      looked = (lists (Some (listed c.in-Some.names)) ∷ [], traced_once g.F.Folder.makes c.args.folder.now c.names.new.self (lists (Some (listed c.in-Some.names))) listed_first, (tt, tt));
      driven = λ steady before fits. record {
        talk = [];
        taken = [];
        asked = None;
        fit = fits;
        all = refl;
        talked = same;
        called = tt;
        exact = λ reliable. same;
        asked_for = tt;
        counted = ((λ e. absurd cc), (λ e. refl));
        heard = refl;
        few = omega arith;
      };
    }
  where
    rising : (found : Option Names) (names : Names) (P : Type 0) {told : List (List ℕ)} → found ≡ Some names → MatchOption found P (λ shared. listed shared ≡ told) → listed names ≡ told
    rising found names P {told} is some = subst (λ (o : Option Names). MatchOption o P (λ shared. listed shared ≡ told)) is some

pub returns-in-Done-clause-driven : goal.returns-in-Done-clause-driven
returns-in-Done-clause-driven g c = λ steady before fits.
    let i = c.calls.invariant.driven steady before fits in
    let step = c.in-Done.ensures.goes before i.taken i.asked i.fit in
    record {
      drives = record {
        talk = i.talk;
        talked = i.talked;
        called = tt;
        exact = i.exact;
        asked = i.asked_for;
        borne = talk_borne _ _ i.talk (talk_alone _ _ i.talk i.talked);
        still_borne = bears_grows _ _ before (talk_grows _ _ i.talk (talk_alone _ _ i.talk i.talked));
        ended = rw c.calls.invariant.job at (rw i.all at step);
        counted = i.counted;
        told = c.in-Done.ensures.told ∙ sym i.heard;
        few = omega (arith, i.few);
      };
      apart = c.calls.invariant.apart steady;
    }

pub returns-in-Done-clause-talks : goal.returns-in-Done-clause-talks
returns-in-Done-clause-talks g c = λ before fits.
    let i = c.calls.invariant.talks before fits in
    let step = c.in-Done.ensures.goes before i.taken i.asked i.fit in
    record {
      talk = i.talk;
      asked = i.asked_for;
      unlost = i.unlost;
      ended = rw c.calls.invariant.job at (rw i.all at step);
      few = omega (arith, i.few);
      put = i.put;
      names = listed c.in-Some.names;
      calls = i.calls;
      heard = i.heard_by;
      made = i.made;
    }

pub calls-preserved : goal.calls-preserved
calls-preserved g c =
    let objects : Objects = g.F.Folder.objects c.args.folder.now in
    let steps = c.in-Ask.ensures.steps in
    let answered = c.in_ok-ask_beside-in-Ask.ensures in
    let i = c.calls.invariant in
    let asked : Asked = asked_view c.in-Ask.request in
    let told : Told = told_view c.in_ok-ask_beside-in-Ask.field-0 in
    record {
      unended = steps.2;
      answered = rw steps.0 answered.kind;
      never_lost = answered.never_lost;
      job = c.in-Ask.ensures.same ∙ i.job;
      apart = λ steady. subst (λ (o : Objects). AreApart o (stored_objects c.ask_beside.new.added)) (i.untouched steady) (answered.apart (i.steady steady) (subst (λ (o : Objects). AreApart o (stored_objects c.calls.added)) (sym (i.untouched steady)) (i.apart steady)));
      steady = λ steady. answered.steady (i.steady steady);
      untouched = λ steady. answered.untouched (i.steady steady) ∙ i.untouched steady;
      faults = answered.faults ∙ i.faults;
      listed = i.listed;
      talks = λ before fits.
          let d = i.talks before fits in
          let step = c.in-Ask.ensures.goes before d.taken d.asked d.fit in
          let talk : Talk = d.talk ++ (asked, told) ∷ [] in
          record {
            talk = talk;
            taken = heard d.taken d.asked (option_map told_view c.calls.reply);
            asked = Some asked;
            fit = step.0;
            all = ap (λ (t : Talk). t ++ (asked, told) ∷ []) d.all;
            asked_for = asked_more (g.N.Session.asks (g.N.Session.job c.args.session.now) before) [] d.talk asked told d.asked_for (rw i.job at (rw d.all at step.1));
            unlost = unlost_more d.talk asked told d.unlost answered.never_lost;
            few = let longer = length-append d.talk ((asked, told) ∷ []) in omega (arith, d.few, steps.1, longer);
            put = answered.put ∙ (ap (λ (o : Objects). put_so o asked told) d.put ∙ sym (put_more [] d.talk asked told));
            calls = d.calls ++ answered.heard.0;
            heard_by = heard_more (listed c.in-Some.names) [] d.talk asked told d.calls answered.heard.0 d.heard_by (subst (λ (o : Objects). HearsCall (listed c.in-Some.names) o asked told answered.heard.0) d.put answered.heard.2);
            made = traced_on g.F.Folder.makes c.args.folder.now c.calls.folder c.ask_beside.new.folder (lists (Some (listed c.in-Some.names)) ∷ d.calls) answered.heard.0 d.made answered.heard.1;
          };
      looked = (
        i.looked.0 ++ answered.heard.0,
        traced_on g.F.Folder.makes c.args.folder.now c.calls.folder c.ask_beside.new.folder i.looked.0 answered.heard.0 i.looked.1 answered.heard.1,
        none_made_on i.looked.0 answered.heard.0 i.looked.2 (hears_makes_none (listed c.in-Some.names) (stored_objects c.calls.added) asked told answered.heard.0 answered.heard.2),
      );
      reliable = λ reliable. answered.stays_reliable (i.reliable reliable);
      driven = λ steady before fits.
          let d = i.driven steady before fits in
          let step = c.in-Ask.ensures.goes before d.taken d.asked d.fit in
          let talk : Talk = d.talk ++ (asked, told) ∷ [] in
          let answers = subst (λ (o : Objects). Answers (with_beside o (stored_objects c.calls.added), []) asked told (with_beside o (stored_objects c.ask_beside.new.added), [])) (i.untouched steady) (answered.answers (i.steady steady) (i.listed steady ∙ sym (ap names_of (i.untouched steady)))) in
          let exact : Talked Answers (objects, []) talk (with_beside objects (stored_objects c.ask_beside.new.added), []) = answered_more _ _ _ d.talk asked told (d.exact tt) answers in
          let unlost : has_lost talk ≡ false = exact_never_lost _ _ talk exact in
          record {
            talk = talk;
            taken = heard d.taken d.asked (option_map told_view c.calls.reply);
            asked = Some asked;
            fit = step.0;
            all = ap (λ (t : Talk). t ++ (asked, told) ∷ []) d.all;
            called = tt;
            talked = c.a_store_answers_as_any_store_may.ensures _ _ talk exact;
            exact = λ reliable. exact;
            asked_for = asked_more (g.N.Session.asks (g.N.Session.job c.args.session.now) before) [] d.talk asked told d.asked_for (rw i.job at (rw d.all at step.1));
            counted = ((λ lost. absurd (has_not talk unlost lost)), (λ e. refl));
            heard = unlost ∙ sym answered.never_lost;
            few = let longer = length-append d.talk ((asked, told) ∷ []) in omega (arith, d.few, steps.1, longer);
          };
    }
  where
    has_not : (talk : Talk) → has_lost talk ≡ false → has_lost talk ≡ true → ⊥
    has_not talk unlost lost = let wrong : false ≡ true = sym unlost ∙ lost in cc

-- ---- where a call of the folder fails

pub returns-in_err-names-clause-talks : goal.returns-in_err-names-clause-talks
returns-in_err-names-clause-talks g c =
    on_fault _ _ _ c.from_residual.result c.from_residual.ensures.1 (looked_once g.F.Folder.makes c.args.folder.now c.names.new.self (lists None) c.in_err-names.ensures.called tt)

pub returns-in_err-names-2-clause-talks : goal.returns-in_err-names-2-clause-talks
returns-in_err-names-2-clause-talks g c =
    on_fault _ _ _ c.from_residual-in_err-names-2.result c.from_residual-in_err-names-2.ensures.1
    (looked_once g.F.Folder.makes c.args.folder.now c.names.new.self (lists (Some (map string_bytes c.in_ok-names.field-0.items))) c.in_ok-names.ensures.called tt)

pub returns-in_default-clause-talks : goal.returns-in_default-clause-talks
returns-in_default-clause-talks g c = looked_once g.F.Folder.makes c.args.folder.now c.names.new.self (lists (Some (map string_bytes c.in_ok-names.field-0.items))) c.in_ok-names.ensures.called tt

pub returns-in_err-ask_beside-in-Ask-clause-talks : goal.returns-in_err-ask_beside-in-Ask-clause-talks
returns-in_err-ask_beside-in-Ask-clause-talks g c =
    let before = c.calls.invariant.looked in
    let behind = c.in_err-ask_beside-in-Ask.ensures.looked in
    on_fault _ _ _ c.from_residual-in_err-ask_beside-in-Ask.result c.from_residual-in_err-ask_beside-in-Ask.ensures.1
    (before.0 ++ behind.0, traced_on g.F.Folder.makes c.args.folder.now c.calls.folder c.ask_beside.new.folder before.0 behind.0 before.1 behind.1, none_made_on before.0 behind.0 before.2 behind.2)

-- ---- what the folder is then

pub returns-in_err-names-clause-over : goal.returns-in_err-names-clause-over
returns-in_err-names-clause-over g c = record {
  untouched = c.in_err-names.ensures.untouched;
  steady = c.in_err-names.ensures.steady;
  faults = counts_as_load _ (Vec (String Global) Global) c.in_err-names.field-0.0 c.from_residual.result _ _ c.from_residual.ensures.1 c.in_err-names.ensures.faults;
  never_fails = λ reliable. fails_as_load _ (Vec (String Global) Global) c.in_err-names.field-0.0 c.from_residual.result c.from_residual.ensures.1 (c.in_err-names.ensures.never_fails reliable);
  stays_reliable = c.in_err-names.ensures.stays_reliable;
}

pub returns-in_err-names-2-clause-over : goal.returns-in_err-names-2-clause-over
returns-in_err-names-2-clause-over g c = record {
  untouched = c.in_ok-names.ensures.untouched;
  steady = c.in_ok-names.ensures.steady;
  faults = counts_short _ c.from_residual-in_err-names-2.result _ _ c.from_residual-in_err-names-2.ensures.1 c.in_ok-names.ensures.faults;
  never_fails = λ reliable. fails_short _ c.from_residual-in_err-names-2.result c.from_residual-in_err-names-2.ensures.1;
  stays_reliable = c.in_ok-names.ensures.stays_reliable;
}

pub returns-in_default-clause-over : goal.returns-in_default-clause-over
returns-in_default-clause-over g c = record {
  untouched = c.in_ok-names.ensures.untouched;
  steady = c.in_ok-names.ensures.steady;
  faults = c.in_ok-names.ensures.faults;
  never_fails = λ reliable not. not;
  stays_reliable = c.in_ok-names.ensures.stays_reliable;
}

pub returns-in_err-ask_beside-in-Ask-clause-over : goal.returns-in_err-ask_beside-in-Ask-clause-over
returns-in_err-ask_beside-in-Ask-clause-over g c =
    let i = c.calls.invariant in
    let failed = c.in_err-ask_beside-in-Ask.ensures in
    record {
      untouched = λ steady. failed.untouched (i.steady steady) ∙ i.untouched steady;
      steady = λ steady. failed.steady (i.steady steady);
      faults = counts_handed_on _ Reply c.in_err-ask_beside-in-Ask.field-0.0 c.from_residual-in_err-ask_beside-in-Ask.result _ _ _ c.from_residual-in_err-ask_beside-in-Ask.ensures.1 i.faults failed.faults;
      never_fails = λ reliable. fails_handed_on _ Reply c.in_err-ask_beside-in-Ask.field-0.0 c.from_residual-in_err-ask_beside-in-Ask.result c.from_residual-in_err-ask_beside-in-Ask.ensures.1 (failed.never_fails (i.reliable reliable));
      stays_reliable = λ reliable. failed.stays_reliable (i.reliable reliable);
    }

pub returns-in-Done-clause-over : goal.returns-in-Done-clause-over
returns-in-Done-clause-over g c =
    let i = c.calls.invariant in
    record {
      untouched = i.untouched;
      steady = i.steady;
      faults = i.faults;
      never_fails = λ reliable not. not;
      stays_reliable = i.reliable;
    }
