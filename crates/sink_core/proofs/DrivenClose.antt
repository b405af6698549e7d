-- What a close that was driven over a store at rest, which loses no call, answers and leaves.
use Rattle.std.proofs.Common.{◌≡◌, ◌≢◌, ◌≤◌, ◌<◌, ◌∙◌, ℕ, List, [], Bool, true, false, Option, Some, None, Result, Ok, Err, Vec, Global, string_bytes, if◌then◌else◌, refl, sym, ap, subst, inl, inr, arith}
use Rattle.std.proofs.lemmas.Bool.Decides.{nat_tests}
use Rattle.outcomes.specs.Outcome.{refuses}
use Rattle.outcomes.specs.Results.{◌>>=◌, refused_as}
use Rattle.store_core.specs.Objects.{Objects, with_object}
use Rattle.session_core.specs.Sessions.{AllAsked}
use Rattle.session_core.specs.Stores.{State, Answers, MayAnswer, Talked}
use Rattle.session_core.specs.Talks.{Talk, Bears}
use Rattle.schema_tree.specs.Tree.{Tree}
use Rattle.delta_actions.specs.Action.{Action}
use Rattle.delta_actions.specs.declared.action.Action as actions
use Rattle.store_core.specs.Names.{commit_name, greatest_version}
use Rattle.delta_actions.specs.Commit.{IsCommit}
use Rattle.delta_replay.specs.Closes.{is_closed}
use Rattle.delta_replay.specs.Support.{writable}
use Rattle.table_log.specs.Counts.{commit_count}
use Rattle.table_log.specs.Loads.{IsLoaded}
use Rattle.table_log.specs.LoadSessions.{IsBadBehind}
use Rattle.table_log.specs.Restoring.{replayed}
use Rattle.table_log.specs.declared.loading.Loaded.{Loaded}
use Rattle.commit_core.specs.CommitSessions.{CommitEnds}
use Rattle.commit_core.specs.declared.commit_fault.CommitFault.TheVariants as commit_faults
use Rattle.commit_core.specs.declared.commit_state.CommitOutcome.TheVariants as outcomes
use Rattle.batch_core.specs.Closing.{close_actions}
use Rattle.batch_core.specs.Refusals.{SinkRefusal, SinkGives, bad_log, read_only, sink_refusal_view, says, too_large}
use Rattle.batch_core.specs.Requests.{SinkRequest, close_behind, named}
use Rattle.batch_core.specs.declared.fault.SinkFault.{SinkFault}
use Rattle.batch_core.specs.declared.fault.SinkFault.TheVariants as faults
use Rattle.sink_core.specs.Appending.{is_past}
use Rattle.sink_core.specs.Closes.{ClosesWell, MayClose, close_answer, close_of, close_plan, close_text, closing_version, with_close_commit}
use Rattle.sink_core.specs.SinkSessions.{AnswerEnds, HoldsOf, InRace, IsFineJob, IsUnput, LooksAt, Reaches, Readied, SinkAsks, SinkJob, appends, asked_of, close_job, closes, filed, only_read, raced, ready, repeated, rules, taken}
use Rattle.sink_core.specs.declared.sink_state.SinkOutcome.{SinkOutcome}
use Rattle.sink_core.specs.declared.sink_state.SinkOutcome.TheVariants.{Committed, Already, Closed, AlreadyClosed}
use Rattle.sink_core.proofs.Driven.{asked_behind, listed_quiet, raced_quiet, reads_quiet, ruled_quiet, undecided_quiet, unfine_behind, unread_behind}
use Rattle.sink_core.proofs.Quiet.{QuietReady, quiet_reaches, talked_behind}
use Rattle.sink_core.proofs.ReachLemmas.{reaches_fine}

-- ---- what a plan answers and leaves

-- what a close that has this plan answered and left
pub record IsClosedSo (application : List ℕ) (at : ℕ) (old new : Objects) (plan : Result (Option ℕ) SinkRefusal) (answer : Result SinkOutcome SinkFault) : Type 0 where
  pub told : SinkGives (λ given. given) answer (plan >>= close_answer)
  pub left : answer ≢ Err faults.Memory → new ≡ with_close_commit old application at plan
  pub short : answer ≡ Err faults.Memory → new ≡ old
  pub well_put : answer ≢ Err faults.Memory → ClosesWell application at plan
  pub grows : MayClose application at plan old new

small_past : (version : ℕ) → version ≤ greatest_version → is_past version ≡ false
small_past version small = grind (arith, nat_tests)

great_past : (version : ℕ) → greatest_version < version → is_past version ≡ true
great_past version great = grind (arith, nat_tests)

module _ (application : List ℕ) (at : ℕ) (old new : Objects) where
  refused : (refusal : SinkRefusal) (fault : SinkFault) (plan : Result (Option ℕ) SinkRefusal) → plan ≡ Err refusal → new ≡ old → says (sink_refusal_view fault) ≡ refuses refusal → IsClosedSo application at old new plan (Err fault)
  refused refusal fault plan is same told =
      let of : IsClosedSo application at old new (Err refusal) (Err fault) = record { told = rw told refl; left = λ other. same; short = λ memory. same; well_put = λ other. tt; grows = inl same } in
      subst (λ (p : Result (Option ℕ) SinkRefusal). IsClosedSo application at old new p (Err fault)) (sym is) of

  stood : (plan : Result (Option ℕ) SinkRefusal) → plan ≡ Ok None → new ≡ old → IsClosedSo application at old new plan (Ok AlreadyClosed)
  stood plan is same =
      let of : IsClosedSo application at old new (Ok None) (Ok AlreadyClosed) = record { told = refl; left = λ other. same; short = λ memory. same; well_put = λ other. tt; grows = inl same } in
      subst (λ (p : Result (Option ℕ) SinkRefusal). IsClosedSo application at old new p (Ok AlreadyClosed)) (sym is) of

  nothing : (plan : Result (Option ℕ) SinkRefusal) → new ≡ old → IsClosedSo application at old new plan (Err faults.Memory)
  nothing plan same = record { told = tt; left = λ other. absurd (other refl); short = λ memory. same; well_put = λ other. absurd (other refl); grows = inl same }

  module _ (version : ℕ) (made : IsCommit (close_text application at) (close_actions application at)) (plan : Result (Option ℕ) SinkRefusal) (is : plan ≡ Ok (Some version)) where
    committed : version ≤ greatest_version → new ≡ with_object old (commit_name version) (close_text application at) → IsClosedSo application at old new plan (Ok (Closed version))
    committed small put =
        let past : is_past version ≡ false = small_past version small in
        let answers : close_answer (Some version) ≡ Ok (Closed version) = rw past refl in
        let leaves : new ≡ with_close_commit old application at (Ok (Some version)) = rw past put in
        let of : IsClosedSo application at old new (Ok (Some version)) (Ok (Closed version)) = record { told = answers; left = λ other. leaves; short = λ memory. absurd cc; well_put = λ other. made; grows = inr (made, leaves) } in
        subst (λ (p : Result (Option ℕ) SinkRefusal). IsClosedSo application at old new p (Ok (Closed version))) (sym is) of

    passed : greatest_version < version → new ≡ old → IsClosedSo application at old new plan (Err faults.TooLarge)
    passed great same =
        let past : is_past version ≡ true = great_past version great in
        let answers : close_answer (Some version) ≡ Err too_large = rw past refl in
        let leaves : new ≡ with_close_commit old application at (Ok (Some version)) = rw past same in
        let of : IsClosedSo application at old new (Ok (Some version)) (Err faults.TooLarge) = record { told = answers; left = λ other. leaves; short = λ memory. same; well_put = λ other. made; grows = inl same } in
        subst (λ (p : Result (Option ℕ) SinkRefusal). IsClosedSo application at old new p (Err faults.TooLarge)) (sym is) of

-- a request is for the version that comes next
request_version : (next : ℕ) (log : List (List Action)) (application : List ℕ) (request : SinkRequest) → close_behind next log application ≡ Ok request → request.version ≡ next
unfolding close_behind
request_version next log application request is = by_schema (refused_as read_only (writable log)) is
  where
    by_schema : (schema : Result Tree SinkRefusal) → (schema >>= λ (schema : Tree). Ok (record { version = next; schema = schema; rows = []; repeats = is_closed application log })) ≡ Ok request → request.version ≡ next
    by_schema (Err refusal) told = absurd cc
    by_schema (Ok schema) told = let made : SinkRequest = record { version = next; schema = schema; rows = []; repeats = is_closed application log } in let same : made ≡ request = cc in ap (λ (r : SinkRequest). r.version) (sym same)

-- ---- over a store

module _ (application : List ℕ) (at tries : ℕ) (use_checkpoints : Bool) (first : Loaded) (before : Talk) (old : State) (bears : Bears old.0 before) where
  abbrev job : SinkJob
  job = close_job application at tries use_checkpoints first

  abbrev request_here : Result SinkRequest SinkRefusal
  request_here = close_of use_checkpoints old.0 application

  abbrev plan : Result (Option ℕ) SinkRefusal
  plan = close_plan use_checkpoints old.0 application

  abbrev asks : List (List Action) → Result SinkRequest SinkRefusal
  asks commits = close_behind (commit_count old.0) commits application

  -- the rules over the log that was loaded
  request_at : (known : Loaded) → IsFineJob job → (is : IsLoaded use_checkpoints old.0 known) (said : Result SinkRequest SinkRefusal) → close_behind known.next is.commits application ≡ said → request_here ≡ said
  unfolding close_of
  request_at known fine is said asked =
      asked_behind (named application) (replayed use_checkpoints old.0) asks is.commits fine is.read
      ∙ (ap (λ (next : ℕ). close_behind next is.commits application) (sym is.next) ∙ asked)

  request_is : (known : Loaded) → IsFineJob job → IsLoaded use_checkpoints old.0 known → (said : Result SinkRequest SinkRefusal) → HoldsOf known (λ log. asked_of job known.next log ≡ said) → request_here ≡ said
  request_is known fine is said asked = request_at known fine is said (asked is.commits is.snapshot)

  unread : (version : ℕ) → IsFineJob job → replayed use_checkpoints old.0 ≡ Err version → request_here ≡ Err (bad_log version)
  unfolding close_of
  unread version fine is = unread_behind (named application) (replayed use_checkpoints old.0) asks version fine is

  unfine : (refusal : SinkRefusal) → named application ≡ Err refusal → request_here ≡ Err refusal
  unfolding close_of
  unfine refusal is = unfine_behind (named application) (replayed use_checkpoints old.0) asks refusal is

  version_is : (known : Loaded) (request : SinkRequest) → IsLoaded use_checkpoints old.0 known → HoldsOf known (λ log. asked_of job known.next log ≡ Ok request) → request.version ≡ known.next
  version_is known request is asked = request_version known.next is.commits application request (asked is.commits is.snapshot)

  plan_for : (request : Result SinkRequest SinkRefusal) → request_here ≡ request → plan ≡ (request >>= λ (r : SinkRequest). Ok (closing_version r))
  plan_for request is = ap (λ (r : Result SinkRequest SinkRefusal). r >>= λ (one : SinkRequest). Ok (closing_version one)) is

  refused_plan : (refusal : SinkRefusal) → request_here ≡ Err refusal → plan ≡ Err refusal
  refused_plan refusal is = plan_for (Err refusal) is

  asked_plan : (request : SinkRequest) (repeats : Bool) → request_here ≡ Ok request → request.repeats ≡ repeats → plan ≡ Ok (if repeats then None else Some request.version)
  asked_plan request repeats is told = plan_for (Ok request) is ∙ ap (λ (b : Bool). Ok (if b then None else Some request.version)) told

  -- The close that is put where its commit may be.
  pub record IsPut (now : State) (known : Loaded) (readied : Readied) : Type 0 where
    pub is : plan ≡ Ok (Some known.next)
    pub made : IsCommit (close_text application at) (close_actions application at)
    pub same : now ≡ old

  ready_put : (now : State) (known : Loaded) (count : ℕ) (readied : Readied) → IsFineJob job → QuietReady job old now known count readied → IsPut now known readied
  ready_put now known count readied fine is =
      let request = is.request in
      let here = request_is known fine is.is (Ok request) is.asked in
      record {
        is = asked_plan request false here is.new ∙ ap (λ (v : ℕ). Ok (Some v)) (version_is known request is.is is.asked);
        made = is.reads;
        same = is.needs.1;
      }

  module _ (some : 1 ≤ tries) (new : State) where
    abbrev After : Result SinkOutcome SinkFault → Type 0
    After answer = IsClosedSo application at old.0 new.0 plan answer

    -- ---- the puts of its commit

    module _ (talk : Talk) (told : Talked Answers old talk new) (asked : AllAsked (SinkAsks job before) [] talk) where
      after_closed : (version : ℕ) → (race : InRace job before talk (λ put race. (winners : Vec (Vec actions.Action Global) Global) × CommitEnds put before race (Ok (outcomes.Committed version winners)))) → After (Ok (Closed version))
      after_closed version race =
          let raced = raced_quiet job before old refl bears some _ new talk race told asked (Ok (outcomes.Committed version race.holds.0)) race.holds.1 in
          let fine = reaches_fine job before race.front race.known race.tries (ready race.readied) race.reaches in
          let put = ready_put raced.0 race.known race.tries race.readied fine raced.1 in
          let ends = raced.3 in
          let planned : plan ≡ Ok (Some version) = put.is ∙ ap (λ (v : ℕ). Ok (Some v)) (sym ends.0) in
          let landed : new.0 ≡ with_object old.0 (commit_name version) (close_text application at) = ap (λ (s : State). s.0) ends.2 ∙ ap (λ (s : State). with_object s.0 (commit_name version) (close_text application at)) put.same in
          committed application at old.0 new.0 version put.made plan planned ends.1 landed

      after_past : InRace job before talk (λ put race. CommitEnds put before race (Err commit_faults.PastLimit)) → After (Err faults.TooLarge)
      after_past race =
          let raced = raced_quiet job before old refl bears some _ new talk race told asked (Err commit_faults.PastLimit) race.holds in
          let fine = reaches_fine job before race.front race.known race.tries (ready race.readied) race.reaches in
          let put = ready_put raced.0 race.known race.tries race.readied fine raced.1 in
          passed application at old.0 new.0 race.known.next put.made plan put.is raced.3.0 (ap (λ (s : State). s.0) (raced.3.1 ∙ put.same))

    module _ (talk : Talk) (told : Talked Answers old talk new) (may : Talked MayAnswer old talk new) where
      -- ---- the rules

      after_rules : (refusal : SinkRefusal) (fault : SinkFault) (known : Loaded) (left : ℕ) (readied : Option Readied) → Reaches job before talk known left (rules readied) → HoldsOf known (λ log. asked_of job known.next log ≡ Err refusal)
          → says (sink_refusal_view fault) ≡ refuses refusal → After (Err fault)
      after_rules refusal fault known left readied reaches asked told_as =
          let quiet = ruled_quiet job before old refl bears some new talk known left readied reaches told in
          let fine = reaches_fine job before talk known left (rules readied) reaches in
          refused application at old.0 new.0 refusal fault plan (refused_plan refusal (request_is known fine quiet.1 (Err refusal) asked)) (ap (λ (s : State). s.0) quiet.0) told_as

      after_bad : (version : ℕ) → IsFineJob job → IsBadBehind job.load before talk version → After (Err (faults.BadLog version))
      after_bad version fine bad =
          let quiet = listed_quiet old new talk bad.names bad.listed may in
          refused application at old.0 new.0 (bad_log version) (faults.BadLog version) plan (refused_plan (bad_log version) (unread version fine (bad.whole old.0 bears quiet.0))) quiet.1.0 refl

      after_unfine : (refusal : SinkRefusal) (fault : SinkFault) → talk ≡ [] → named application ≡ Err refusal → says (sink_refusal_view fault) ≡ refuses refusal → After (Err fault)
      after_unfine refusal fault none wrong told_as =
          let same : new ≡ old = subst (λ (t : Talk). Talked Answers old t new) none told in
          refused application at old.0 new.0 refusal fault plan (refused_plan refusal (unfine refusal wrong)) (ap (λ (s : State). s.0) same) told_as

      after_already : AnswerEnds job before talk (Ok AlreadyClosed) → After (Ok AlreadyClosed)
      after_already ends =
          let ruled = ends.1.1 in
          let quiet = ruled_quiet job before old refl bears some new talk ruled.known ruled.tries ends.1.0 ruled.reaches told in
          let fine = reaches_fine job before talk ruled.known ruled.tries (rules ends.1.0) ruled.reaches in
          let asked = (ruled.says quiet.1.commits quiet.1.snapshot).1 in
          let here : request_here ≡ Ok asked.0 = request_at ruled.known fine quiet.1 (Ok asked.0) asked.1 in
          stood application at old.0 new.0 plan (asked_plan asked.0 true here asked.2) (ap (λ (s : State). s.0) quiet.0)

      after_unput : (unput : IsUnput job before talk) → After (Err faults.Memory)
      after_unput (only_read _ reads) = nothing application at old.0 new.0 plan (reads_quiet old new talk reads told)
      after_unput (filed front rest _ other request file answered is written reads talked) = let wrong : closes ≡ appends other is.items = is.task in absurd cc
      after_unput (raced front rest _ race reads talked) =
          let parts = talked_behind Answers old new front rest (subst (λ (t : Talk). Talked Answers old t new) talked told) in
          let quiet = undecided_quiet job before old refl bears some parts.0 front race parts.1 in
          let fine = reaches_fine job before race.front race.known race.tries (ready race.readied) race.reaches in
          let put = ready_put quiet.0 race.known race.tries race.readied fine quiet.1 in
          nothing application at old.0 new.0 plan (reads_quiet parts.0 new rest reads parts.2 ∙ ap (λ (s : State). s.0) (quiet.2 ∙ put.same))

    -- a close looks at no file
    never_looked : (looked : List ℕ) (request : SinkRequest) (front : Talk) → LooksAt job before front looked request → ⊥
    never_looked _ _ front (repeated _ other request is) = let wrong : closes ≡ appends other is.items = is.task in absurd cc
    never_looked _ _ front (taken start _ other request file is written put) = let wrong : closes ≡ appends other is.items = is.task in absurd cc

    -- ---- each answer

    pub closed_so : (talk : Talk) → Talked Answers old talk new → Talked MayAnswer old talk new → AllAsked (SinkAsks job before) [] talk → (answer : Result SinkOutcome SinkFault) → ((version : Option ℕ) → answer ≢ Err (faults.Lost version)) → AnswerEnds job before talk answer → After answer
    closed_so talk told may asked (Ok (Committed version)) never ends = let wrong : closes ≡ appends ends.0.0 ends.0.1 = ends.0.2 in absurd cc
    closed_so talk told may asked (Ok (Closed version)) never ends = after_closed talk told asked version ends.1
    closed_so talk told may asked (Ok (Already other)) never ends = let wrong : closes ≡ appends other ends.3.items = ends.3.task in absurd cc
    closed_so talk told may asked (Ok AlreadyClosed) never ends = after_already talk told may ends
    closed_so talk told may asked (Err faults.BadApp) never ends = after_unfine talk told may _ faults.BadApp ends.0 ends.1 refl
    closed_so talk told may asked (Err faults.TooLarge) never (inl ends) = after_unfine talk told may _ faults.TooLarge ends.0 ends.1 refl
    closed_so talk told may asked (Err faults.TooLarge) never (inr race) = after_past talk told asked race
    closed_so talk told may asked (Err faults.FileTooLarge) never ends = let wrong : closes ≡ appends ends.number ends.is.items = ends.is.task in absurd cc
    closed_so talk told may asked (Err (faults.BadLog version)) never (inl ends) = after_bad talk told may version ends.0 ends.1
    closed_so talk told may asked (Err (faults.BadLog version)) never (inr race) = absurd (raced_quiet job before old refl bears some _ new talk race told asked (Err (commit_faults.BadLog version)) race.holds).3
    closed_so talk told may asked (Err (faults.ReadOnly fault)) never ends = after_rules talk told may _ (faults.ReadOnly fault) ends.1.known ends.1.tries ends.0 ends.1.reaches ends.1.says refl
    closed_so talk told may asked (Err (faults.BadRow index fault)) never ends = after_rules talk told may _ (faults.BadRow index fault) ends.1.known ends.1.tries ends.0 ends.1.reaches (λ log is. (ends.1.says log is).1) refl
    closed_so talk told may asked (Err (faults.Stale last)) never ends = after_rules talk told may _ (faults.Stale last) ends.1.known ends.1.tries ends.0 ends.1.reaches (λ log is. (ends.1.says log is).1) refl
    closed_so talk told may asked (Err faults.StreamClosed) never ends = after_rules talk told may _ faults.StreamClosed ends.1.known ends.1.tries ends.0 ends.1.reaches (λ log is. (ends.1.says log is).1) refl
    closed_so talk told may asked (Err (faults.Differs other)) never ends = absurd (never_looked (string_bytes other) ends.0 ends.1.front ends.1.looks)
    closed_so talk told may asked (Err (faults.SchemaChanged version)) never ends = let none = (ruled_quiet job before old refl bears some new talk ends.0.1.known ends.0.1.tries (Some ends.0.0) ends.0.1.reaches told).2 in absurd cc
    closed_so talk told may asked (Err (faults.Contended newest)) never (inl ends) = let given = (quiet_reaches job before old refl bears some talk ends.0 0 (ready ends.1) ends.2 new told).given in absurd (omega (arith, given, some))
    closed_so talk told may asked (Err (faults.Contended newest)) never (inr race) = absurd (raced_quiet job before old refl bears some _ new talk race told asked (Ok (outcomes.Contended newest race.holds.0)) race.holds.1).3
    closed_so talk told may asked (Err (faults.Lost version)) never ends = absurd (never version refl)
    closed_so talk told may asked (Err faults.Memory) never ends = after_unput talk told may ends

-- the job of a close whose texts are the same
pub close_job_same : (mine : SinkJob) (application other : List ℕ) (at tries : ℕ) (use_checkpoints : Bool) (first known : Loaded) → mine ≡ close_job other at tries use_checkpoints known → other ≡ application → known ≡ first → mine ≡ close_job application at tries use_checkpoints first
close_job_same mine application other at tries use_checkpoints first known own is same = own ∙ λ i. close_job (is i) at tries use_checkpoints (same i)
