use Rattle.std.proofs.Common.{rules, arith, ◌≡◌, ◌∙◌, true, ℕ, List, IfSome, refl, subst, sym}
use Rattle.lake_script.specs.Streams.{unread}
use Rattle.lake_script.specs.Told.{first_bad}
use Rattle.world_script.specs.KeptLines.{IsBadKept}
use Rattle.world_script.specs.Words.{needs_world}
use Rattle.world_script.proofs.Known.{finishes_if, finishes_known, finishes_such, if_kept, of_any, with_known}
use Rattle.world_script.proofs.running.run.Goals as goal

pub returns-in-Ok-clause-runs : goal.returns-in-Ok-clause-runs
returns-in-Ok-clause-runs g c = λ read reliable.
    let ran = c.run_any-ran.ensures.runs reliable in
    with_known (unread g.R.Read.remaining c.args.input.now) c.as_slice.result.now _
    (subst (λ (text : List ℕ). IfSome (unread g.R.Read.remaining c.args.input.now) (λ known. text ≡ known)) (sym c.as_slice.ensures.value) c.in-Ok.ensures.all)
    (record { plain = ran.plain; played = ran.played })

pub returns-in-Ok-clause-headline : goal.returns-in-Ok-clause-headline
returns-in-Ok-clause-headline g c = λ reliable nothing.
    finishes_such c.run_any-ran.result.outcome.end (unread g.R.Read.remaining c.args.input.now) c.as_slice.result.now (λ text. needs_world text ≡ true) _
    (subst (λ (text : List ℕ). IfSome (unread g.R.Read.remaining c.args.input.now) (λ known. text ≡ known)) (sym c.as_slice.ensures.value) c.in-Ok.ensures.all)
    (λ is. finishes_if c.run_any-ran.result.outcome.end _ _ (λ here. c.run_any-ran.ensures.headline is reliable nothing here))

pub returns-in-Ok-clause-input : goal.returns-in-Ok-clause-input
returns-in-Ok-clause-input g c = record {
  nothing = λ none. absurd (c.run_any-ran.ensures.ends.read none);
  not_read = λ none. absurd (c.run_any-ran.ensures.ends.read none);
  broken_input = λ broken. absurd (let wrong = sym c.in-Ok.ensures.unbroken ∙ broken in cc);
  too_long = with_known (unread g.R.Read.remaining c.args.input.now) c.as_slice.result.now _
      (subst (λ (text : List ℕ). IfSome (unread g.R.Read.remaining c.args.input.now) (λ known. text ≡ known)) (sym c.as_slice.ensures.value) c.in-Ok.ensures.all)
      (λ long. absurd (omega (arith, long, c.in-Ok.ensures.bounded)));
  bad = finishes_known c.run_any-ran.result.outcome.end (unread g.R.Read.remaining c.args.input.now) c.as_slice.result.now (λ bad text. bad ≡ first_bad text)
      (subst (λ (text : List ℕ). IfSome (unread g.R.Read.remaining c.args.input.now) (λ known. text ≡ known)) (sym c.as_slice.ensures.value) c.in-Ok.ensures.all)
      c.run_any-ran.ensures.ends.finished;
}

pub returns-in-Ok-clause-ends : goal.returns-in-Ok-clause-ends
returns-in-Ok-clause-ends g c = c.run_any-ran.ensures.ends.output

pub returns-in-Ok-clause-kept_of : goal.returns-in-Ok-clause-kept_of
returns-in-Ok-clause-kept_of g c =
    if_kept c.bad_line.result _ _
    (λ kept bad. with_known (unread g.R.Read.remaining c.args.input.now) c.as_slice-in-Ok.result.now (λ text. IsBadKept c.run_any-ran.result.outcome.end text kept.items)
    (subst (λ (text : List ℕ). IfSome (unread g.R.Read.remaining c.args.input.now) (λ known. text ≡ known)) (sym c.as_slice-in-Ok.ensures.value) c.in-Ok.ensures.all) bad)
    c.bad_line.ensures.bad

-- ---- where the input isn't read to its end

pub returns-in-Err-clause-runs : goal.returns-in-Err-clause-runs
returns-in-Err-clause-runs g c = λ read. absurd (read c.not_run.ensures.end)

pub returns-in-Err-clause-headline : goal.returns-in-Err-clause-headline
returns-in-Err-clause-headline g c = λ reliable nothing. rw c.not_run.ensures.end tt

pub returns-in-Err-clause-reliable : goal.returns-in-Err-clause-reliable
returns-in-Err-clause-reliable g c = λ reliable. rw c.not_run.ensures.store reliable

pub returns-in-Err-clause-input : goal.returns-in-Err-clause-input
returns-in-Err-clause-input g c = record {
  nothing = λ none. (refl, c.not_run.ensures.store);
  not_read = search rules;
  broken_input = λ broken. c.not_run.ensures.end;
  too_long = of_any (unread g.R.Read.remaining c.args.input.now) _ (λ text long. c.not_run.ensures.end);
  bad = rw c.not_run.ensures.end tt;
}

pub returns-in-Err-clause-ends : goal.returns-in-Err-clause-ends
returns-in-Err-clause-ends g c = record {
  nothing_waits = rw c.not_run.ensures.end tt;
  behind = rw c.not_run.ensures.end tt;
  broken_output = rw c.not_run.ensures.end tt;
  not_written = λ cut. absurd (let wrong = sym c.not_run.ensures.end ∙ cut in cc);
}
