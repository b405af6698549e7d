-- What an append that has a plan answers and leaves, and what its request and its file say.
use Rattle.std.proofs.Common.{◌≡◌, ◌≢◌, ◌≤◌, ◌<◌, ◌&&◌, ℕ, List, not, Bool, true, false, is_some, Option, Some, None, Result, Ok, Err, refl, sym, ap, subst, inl, inr, arith}
use Rattle.std.proofs.lemmas.Bool.Decides.{nat_tests}
use Rattle.std.specs.Prelude.{◌||◌, nat_lt}
use Rattle.outcomes.specs.Outcome.{refuses}
use Rattle.outcomes.specs.Results.{◌>>=◌, refused_as, refused_if}
use Rattle.serde_json.specs.Data.{Items}
use Rattle.store_core.specs.Calls.{put_told}
use Rattle.store_core.specs.Objects.{Objects, with_object}
use Rattle.store_core.specs.declared.store.Put.TheVariants.{Created, Exists}
use Rattle.row_core.specs.Rows.{Row}
use Rattle.schema_tree.specs.Tree.{Tree}
use Rattle.delta_actions.specs.Action.{Action}
use Rattle.store_core.specs.Names.{commit_name, greatest_version}
use Rattle.delta_replay.specs.Closes.{is_closed}
use Rattle.delta_replay.specs.Keys.{last_number}
use Rattle.delta_replay.specs.Support.{writable}
use Rattle.batch_core.specs.Committing.{greatest_number}
use Rattle.batch_core.specs.Refusals.{SinkRefusal, SinkGives, differs, read_only, sink_refusal_view, says, stream_closed, too_large}
use Rattle.batch_core.specs.Requests.{SinkRequest, checked, has_same, is_repeat, named, request_behind, unless_other_rows, where_same}
use Rattle.batch_core.specs.RowsIn.{rows_from, takes_rows}
use Rattle.batch_core.specs.declared.fault.SinkFault.{SinkFault}
use Rattle.batch_core.specs.declared.fault.SinkFault.TheVariants as faults
use Rattle.sink_core.specs.Appending.{EncodedBatch, AppendPlan, puts, stands, IsWellMade, MayAppend, MayHoldFile, PutsWell, is_past, plan_answer, with_append, with_file}
use Rattle.sink_core.specs.SinkSessions.{appends}
use Rattle.sink_core.specs.declared.sink_state.SinkOutcome.{SinkOutcome}
use Rattle.sink_core.specs.declared.sink_state.SinkOutcome.TheVariants.{Committed, Already}

-- ---- what a plan answers and leaves

-- what an append that has this plan answered and left
pub record Appended (application : List ℕ) (number at : ℕ) (old new : Objects) (plan : Result AppendPlan SinkRefusal) (answer : Result SinkOutcome SinkFault) : Type 0 where
  pub told : SinkGives (λ given. given) answer (plan >>= plan_answer number)
  pub left : answer ≢ Err faults.Memory → new ≡ with_append old plan
  pub short : answer ≡ Err faults.Memory → MayHoldFile old plan new
  pub well_put : answer ≢ Err faults.Memory → PutsWell application number at plan
  pub grows : MayAppend application number at plan old new

small_past : (version : ℕ) → version ≤ greatest_version → is_past version ≡ false
small_past version small = grind (arith, nat_tests)

great_past : (version : ℕ) → greatest_version < version → is_past version ≡ true
great_past version great = grind (arith, nat_tests)

module _ (application : List ℕ) (number at : ℕ) (old new : Objects) where
  pub refused : (refusal : SinkRefusal) (fault : SinkFault) (plan : Result AppendPlan SinkRefusal) → plan ≡ Err refusal → new ≡ old → says (sink_refusal_view fault) ≡ refuses refusal → Appended application number at old new plan (Err fault)
  refused refusal fault plan is same told =
      let of : Appended application number at old new (Err refusal) (Err fault) = record { told = rw told refl; left = λ other. same; short = λ memory. inl same; well_put = λ other. tt; grows = inl same } in
      subst (λ (p : Result AppendPlan SinkRefusal). Appended application number at old new p (Err fault)) (sym is) of

  pub stood : (plan : Result AppendPlan SinkRefusal) → plan ≡ Ok stands → new ≡ old → Appended application number at old new plan (Ok (Already number))
  stood plan is same =
      let of : Appended application number at old new (Ok stands) (Ok (Already number)) = record { told = refl; left = λ other. same; short = λ memory. inl same; well_put = λ other. tt; grows = inl same } in
      subst (λ (p : Result AppendPlan SinkRefusal). Appended application number at old new p (Ok (Already number))) (sym is) of

  pub nothing : (plan : Result AppendPlan SinkRefusal) → new ≡ old → Appended application number at old new plan (Err faults.Memory)
  nothing plan same = record { told = tt; left = λ other. absurd (other refl); short = λ memory. inl same; well_put = λ other. absurd (other refl); grows = inl same }

  module _ (batch : EncodedBatch) (made : IsWellMade application number at batch) (plan : Result AppendPlan SinkRefusal) (is : plan ≡ Ok (puts batch)) where
    pub committed : (version : ℕ) → batch.version ≡ version → version ≤ greatest_version → new ≡ with_object (with_file old batch) (commit_name version) batch.commit
        → Appended application number at old new plan (Ok (Committed version))
    committed version same small put =
        let past : is_past batch.version ≡ false = rw same (small_past version small) in
        let answers : plan_answer number (puts batch) ≡ Ok (Committed version) = rw (past, same) refl in
        let leaves : new ≡ with_append old (Ok (puts batch)) = rw (past, same) put in
        let of : Appended application number at old new (Ok (puts batch)) (Ok (Committed version)) = record { told = answers; left = λ other. leaves; short = λ memory. absurd cc; well_put = λ other. made; grows = inr (made, inr leaves) } in
        subst (λ (p : Result AppendPlan SinkRefusal). Appended application number at old new p (Ok (Committed version))) (sym is) of

    pub passed : greatest_version < batch.version → new ≡ with_file old batch → Appended application number at old new plan (Err faults.TooLarge)
    passed great put =
        let past : is_past batch.version ≡ true = great_past batch.version great in
        let answers : plan_answer number (puts batch) ≡ Err too_large = rw past refl in
        let leaves : new ≡ with_append old (Ok (puts batch)) = rw past put in
        let of : Appended application number at old new (Ok (puts batch)) (Err faults.TooLarge) = record { told = answers; left = λ other. leaves; short = λ memory. inr put; well_put = λ other. made; grows = inr (made, inl put) } in
        subst (λ (p : Result AppendPlan SinkRefusal). Appended application number at old new p (Err faults.TooLarge)) (sym is) of

    pub unfinished : new ≡ with_file old batch → Appended application number at old new plan (Err faults.Memory)
    unfinished put =
        let of : Appended application number at old new (Ok (puts batch)) (Err faults.Memory) = record { told = tt; left = λ other. absurd (other refl); short = λ memory. inr put; well_put = λ other. absurd (other refl); grows = inr (made, inl put) } in
        subst (λ (p : Result AppendPlan SinkRefusal). Appended application number at old new p (Err faults.Memory)) (sym is) of

-- ---- requests

numbered_version : (next : ℕ) (schema : Tree) (rows : List Row) (closed : Bool) (request : SinkRequest) (repeat : Result Bool SinkRefusal)
    → (repeat >>= λ repeats. refused_if (not repeats && closed) stream_closed >>= λ goes_on. Ok (record { version = next; schema = schema; rows = rows; repeats = repeats })) ≡ Ok request → request.version ≡ next
numbered_version next schema rows closed request (Err refusal) is = absurd cc
numbered_version next schema rows closed request (Ok repeats) is = by_test (not repeats && closed) is
  where
    by_test : (test : Bool) → (refused_if test stream_closed >>= λ goes_on. Ok (record { version = next; schema = schema; rows = rows; repeats = repeats })) ≡ Ok request → request.version ≡ next
    by_test true told = absurd cc
    by_test false told = let made : SinkRequest = record { version = next; schema = schema; rows = rows; repeats = repeats } in let same : made ≡ request = cc in ap (λ (r : SinkRequest). r.version) (sym same)

-- a request is for the version that comes next
pub request_version : (next : ℕ) (log : List (List Action)) (application : List ℕ) (number : ℕ) (items : Items) (request : SinkRequest) → request_behind next log application number items ≡ Ok request → request.version ≡ next
unfolding request_behind
request_version next log application number items request is = by_schema (refused_as read_only (writable log)) is
  where
    by_rows : (schema : Tree) (rows : Result (List Row) SinkRefusal) → (rows >>= λ (rows : List Row). is_repeat number (last_number application log) >>= λ repeats. refused_if (not repeats && is_closed application log) stream_closed
        >>= λ goes_on. Ok (record { version = next; schema = schema; rows = rows; repeats = repeats })) ≡ Ok request → request.version ≡ next
    by_rows schema (Err refusal) told = absurd cc
    by_rows schema (Ok rows) told = numbered_version next schema rows (is_closed application log) request (is_repeat number (last_number application log)) told

    by_takes : (schema : Tree) (takes : Result (Unit {0}) SinkRefusal) → (takes >>= λ supported. rows_from 0 schema items >>= λ (rows : List Row). is_repeat number (last_number application log) >>= λ repeats. refused_if (not repeats && is_closed application log) stream_closed
        >>= λ goes_on. Ok (record { version = next; schema = schema; rows = rows; repeats = repeats })) ≡ Ok request → request.version ≡ next
    by_takes schema (Err refusal) told = absurd cc
    by_takes schema (Ok x) told = by_rows schema (rows_from 0 schema items) told

    by_schema : (schema : Result Tree SinkRefusal) → (schema >>= λ (schema : Tree). takes_rows schema >>= λ supported. rows_from 0 schema items >>= λ (rows : List Row). is_repeat number (last_number application log)
        >>= λ repeats. refused_if (not repeats && is_closed application log) stream_closed >>= λ goes_on. Ok (record { version = next; schema = schema; rows = rows; repeats = repeats })) ≡ Ok request → request.version ≡ next
    by_schema (Err refusal) told = absurd cc
    by_schema (Ok schema) told = by_takes schema (takes_rows schema) told

-- a number that may be one
pub checked_small : (application : List ℕ) (number rows : ℕ) → checked application number rows ≡ Ok tt → number ≤ greatest_number
unfolding checked
checked_small application number rows is = by_named (named application) is
  where
    by_test : (large : Bool) → nat_lt greatest_number number ≡ large → refused_if (large || nat_lt 65_536 rows) too_large ≡ Ok tt → number ≤ greatest_number
    by_test true told fine = absurd cc
    by_test false told fine = grind (arith, nat_tests)

    by_named : (fine : Result (Unit {0}) SinkRefusal) → (fine >>= λ (x : Unit {0}). refused_if (nat_lt greatest_number number || nat_lt 65_536 rows) too_large) ≡ Ok tt → number ≤ greatest_number
    by_named (Err refusal) told = absurd cc
    by_named (Ok x) told = by_test (nat_lt greatest_number number) refl told

-- ---- what stands under a name

pub same_fits : (schema : Tree) (rows : List Row) (name : List ℕ) (found : Option (List ℕ)) → has_same schema rows found ≡ true → where_same schema rows name found ≡ Ok tt
same_fits schema rows name None is = absurd cc
same_fits schema rows name (Some old) is = ap (λ (b : Bool). refused_if (not b) (differs name)) is

pub other_where : (schema : Tree) (rows : List Row) (name : List ℕ) (found : Option (List ℕ)) → has_same schema rows found ≡ false → where_same schema rows name found ≡ Err (differs name)
other_where schema rows name None is = refl
other_where schema rows name (Some old) is = ap (λ (b : Bool). refused_if (not b) (differs name)) is

pub other_unless : (schema : Tree) (rows : List Row) (name : List ℕ) (found : Option (List ℕ)) → is_some found ≡ true → has_same schema rows found ≡ false → unless_other_rows schema rows name found ≡ Err (differs name)
other_unless schema rows name None some is = absurd cc
other_unless schema rows name (Some old) some is = ap (λ (b : Bool). refused_if (not b) (differs name)) is

pub exists_some : (found : Option (List ℕ)) → Exists ≡ put_told found → is_some found ≡ true
exists_some None told = absurd cc
exists_some (Some bytes) told = refl

pub created_none : (found : Option (List ℕ)) → Created ≡ put_told found → found ≡ None
created_none None told = refl
created_none (Some bytes) told = absurd cc

pub same_number : (number other : ℕ) (items others : Items) → appends number items ≡ appends other others → other ≡ number
same_number number other items others is = cc
