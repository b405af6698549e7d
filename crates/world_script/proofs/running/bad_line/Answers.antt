use Rattle.std.proofs.Common.{rules, tests, arith, ◌≡◌, ◌+◌, Option, Some, Result, Ok, Err, IfSome, option_map, subst, sym}
use Rattle.std.specs.Prelude.{IfOk}
use Rattle.std.specs.Result.{result_ok}
use Rattle.std.proofs.lemmas.Result.{IfOk-weaker}
use Rattle.std.specs.List.{slice_get}
use Rattle.std.proofs.lemmas.Iterator.Splits.{YieldsList-from_slice_split}
use Rattle.std.proofs.lemmas.Iterator.Consumers.{nth_from_yields_List}
use Rattle.delta_actions.specs.Commit.{lines_of}
use Rattle.world_script.specs.KeptLines.{IsKeptOf}
use Rattle.world_script.proofs.running.bad_line.Goals as goal

-- what is so of a value that there was room for is so of the one that is kept
kept_some : {A E : Type 0} (made : Result A E) (found : Option A) (P : A → Type 0) → found ≡ result_ok made → IfOk made P → IfSome found P
kept_some (Ok value) found P is has = subst (λ (o : Option _). IfSome o P) (sym is) has
kept_some (Err error) found P is has = subst (λ (o : Option _). IfSome o P) (sym is) tt

pub returns-clause-bad : goal.returns-clause-bad
returns-clause-bad c =
    let number : c.in-BadLine.number ≡ c.in_ok-before.before + 1 = omega (arith, c.in_ok-before.ensures) in
    let all = YieldsList-from_slice_split _ _ _ c.split.ensures.rest c.split.ensures.done c.split.ensures.closure (λ x r q k. search (rules, tests)) in
    let found : option_map (λ b. b.now) (Some c.in_ok-line.line) ≡ slice_get (lines_of c.args.text.now) c.in_ok-before.before = nth_from_yields_List (Some c.in_ok-line.line) c.nth.new.self c.in_ok-before.before c.in_ok-line.ensures.ran all in
    rw c.in-BadLine.is (kept_some c.from_slice.result c.ok.result _ c.ok.ensures.value
    (IfOk-weaker c.from_slice.result _ _ (λ kept items. (c.in_ok-before.before, number, c.in_ok-line.line.now, sym found, subst (IsKeptOf c.in_ok-line.line.now) (sym items) c.kept_part.ensures.part)) c.from_slice.ensures.items))
