-- What an append that was driven over a store at rest, which loses no call, answers and leaves.
use Rattle.std.proofs.Common.{◌≡◌, ◌≢◌, ◌≤◌, ◌<◌, ◌^◌, ◌∙◌, ℕ, List, [], ◌∷◌, ◌++◌, length, Bool, true, false, is_some, Option, Some, None, Result, Ok, Err, Vec, Global, string_bytes, if◌then◌else◌, refl, sym, ap, subst, inl, inr, arith}
use Rattle.std.specs.Str.{IsUtf8}
use Rattle.outcomes.specs.Outcome.{refuses}
use Rattle.outcomes.specs.Results.{◌>>=◌}
use Rattle.serde_json.specs.Events.{items_len}
use Rattle.serde_json.specs.Data.{Items}
use Rattle.store_core.specs.Objects.{Objects, object_at, with_object}
use Rattle.store_core.specs.ObjectLaws.{with_object_stands}
use Rattle.store_core.specs.declared.store.Put.TheVariants.{Created, Exists}
use Rattle.session_core.specs.Sessions.{AllAsked}
use Rattle.session_core.specs.Shown.{AllReads}
use Rattle.session_core.specs.Stores.{State, Answers, MayAnswer, Talked}
use Rattle.session_core.specs.Talks.{get_object, put_file, Told, told_names, told_object, told_put, told_lost, told_memory, Talk, Bears}
use Rattle.session_core.proofs.Callers.{talked_last}
use Rattle.batch_core.specs.ParquetWriting.{written_file}
use Rattle.delta_actions.specs.Action.{Action}
use Rattle.delta_actions.specs.declared.action.Action as actions
use Rattle.store_core.specs.Names.{commit_name, greatest_version}
use Rattle.delta_actions.specs.Commit.{IsCommit}
use Rattle.table_log.specs.Counts.{commit_count}
use Rattle.table_log.specs.Loads.{IsLoaded}
use Rattle.table_log.specs.LoadSessions.{IsBadBehind}
use Rattle.table_log.specs.Restoring.{replayed}
use Rattle.table_log.specs.declared.loading.Loaded.{Loaded}
use Rattle.commit_core.specs.Commits.{commit_text}
use Rattle.commit_core.specs.CommitSessions.{CommitEnds}
use Rattle.commit_core.specs.declared.commit_fault.CommitFault.TheVariants as commit_faults
use Rattle.commit_core.specs.declared.commit_state.CommitOutcome.TheVariants as outcomes
use Rattle.batch_core.specs.Committing.{batch_actions, batch_file_name}
use Rattle.batch_core.specs.Refusals.{SinkRefusal, bad_log, differs, file_too_large, sink_refusal_view, says}
use Rattle.batch_core.specs.Requests.{SinkRequest, IsFileTooLarge, IsWrittenFor, checked, has_same, request_behind, unless_other_rows, where_same}
use Rattle.batch_core.specs.declared.fault.SinkFault.{SinkFault}
use Rattle.batch_core.specs.declared.fault.SinkFault.TheVariants as faults
use Rattle.sink_core.specs.Appending.{EncodedBatch, AppendPlan, puts, stands, IsWellMade, append_plan, batch_of, new_plan, plan_of, put_plan, repeated_plan, request_of, size_behind, with_file}
use Rattle.sink_core.specs.SinkSessions.{AnswerEnds, HoldsOf, InRace, IsFineJob, IsNewBatch, IsOldBatch, IsUnput, LooksAt, Reaches, Readied, SinkAsks, SinkJob, commit_actions, append_job, asked_of, filed, only_read, raced, ready, repeated, rules, readied_by, taken}
use Rattle.sink_core.specs.declared.sink_state.SinkOutcome.{SinkOutcome}
use Rattle.sink_core.specs.declared.sink_state.SinkOutcome.TheVariants.{Committed, Already, Closed, AlreadyClosed}
use Rattle.sink_core.proofs.Driven.{asked_behind, listed_quiet, loaded_quiet, raced_quiet, reads_quiet, ruled_quiet, undecided_quiet, unfine_behind, unread_behind}
use Rattle.sink_core.proofs.Quiet.{QuietReady, quiet_reaches, talked_behind}
use Rattle.sink_core.proofs.ReachLemmas.{reaches_fine}
use Rattle.batch_core.proofs.Callers.{batch_reads}
use Rattle.sink_core.proofs.DrivenPlans.{Appended, checked_small, committed, created_none, exists_some, nothing, other_unless, other_where, passed, refused, request_version, same_fits, same_number, stood, unfinished}

-- ---- over a store

module _ (application : List ℕ) (number : ℕ) (items : Items) (at tries : ℕ) (use_checkpoints : Bool) (first : Loaded) (before : Talk) (old : State) (bears : Bears old.0 before) where
  abbrev job : SinkJob
  job = append_job application number items at tries use_checkpoints first

  abbrev name : List ℕ
  name = batch_file_name application number

  abbrev found : Option (List ℕ)
  found = object_at old.0 name

  abbrev request_here : Result SinkRequest SinkRefusal
  request_here = request_of use_checkpoints old.0 application number items

  abbrev plan : Result AppendPlan SinkRefusal
  plan = append_plan use_checkpoints old.0 application number at items

  abbrev asks : List (List Action) → Result SinkRequest SinkRefusal
  asks commits = request_behind (commit_count old.0) commits application number items

  -- the rules over the log that was loaded
  request_is : (known : Loaded) → IsFineJob job → IsLoaded use_checkpoints old.0 known → (said : Result SinkRequest SinkRefusal) → HoldsOf known (λ log. asked_of job known.next log ≡ said) → request_here ≡ said
  unfolding request_of
  request_is known fine is said asked =
      asked_behind (checked application number (items_len items)) (replayed use_checkpoints old.0) asks is.commits fine is.read
      ∙ (ap (λ (next : ℕ). request_behind next is.commits application number items) (sym is.next) ∙ asked is.commits is.snapshot)

  unread : (version : ℕ) → IsFineJob job → replayed use_checkpoints old.0 ≡ Err version → request_here ≡ Err (bad_log version)
  unfolding request_of
  unread version fine is = unread_behind (checked application number (items_len items)) (replayed use_checkpoints old.0) asks version fine is

  unfine : (refusal : SinkRefusal) → checked application number (items_len items) ≡ Err refusal → request_here ≡ Err refusal
  unfolding request_of
  unfine refusal is = unfine_behind (checked application number (items_len items)) (replayed use_checkpoints old.0) asks refusal is

  version_is : (known : Loaded) (request : SinkRequest) → IsLoaded use_checkpoints old.0 known → HoldsOf known (λ log. asked_of job known.next log ≡ Ok request) → request.version ≡ known.next
  version_is known request is asked = request_version known.next is.commits application number items request (asked is.commits is.snapshot)

  -- ---- plans

  plan_for : (request : Result SinkRequest SinkRefusal) → request_here ≡ request → plan ≡ (request >>= plan_of old.0 application number at)
  plan_for request is = ap (λ (r : Result SinkRequest SinkRefusal). r >>= plan_of old.0 application number at) is

  refused_plan : (refusal : SinkRefusal) → request_here ≡ Err refusal → plan ≡ Err refusal
  refused_plan refusal is = plan_for (Err refusal) is

  by_repeats : (request : SinkRequest) (repeats : Bool) → request.repeats ≡ repeats → plan_of old.0 application number at request ≡ (if repeats then repeated_plan old.0 request application number else new_plan old.0 request application number at)
  by_repeats request repeats is = ap (λ (b : Bool). if b then repeated_plan old.0 request application number else new_plan old.0 request application number at) is

  -- the number is the last one again
  repeated_as : (request : SinkRequest) (fits : Result (Unit {0}) SinkRefusal) → request_here ≡ Ok request → request.repeats ≡ true → where_same request.schema request.rows name found ≡ fits → plan ≡ (fits >>= λ same. Ok stands)
  repeated_as request fits is again same = plan_for (Ok request) is ∙ (by_repeats request true again ∙ ap (λ (f : Result (Unit {0}) SinkRefusal). f >>= λ same. Ok stands) same)

  -- the batch that is put
  abbrev batch_with : SinkRequest → (file : List ℕ) → EncodedBatch
  batch_with request file = record {
    version = request.version;
    schema = request.schema;
    rows = request.rows;
    name = name;
    file = file;
    commit = commit_text (batch_actions application number at (size_behind file found) (length request.rows));
  }

  batch_is : (request : SinkRequest) (file : List ℕ) → written_file request.schema request.rows ≡ Ok file → batch_of found request application number at ≡ Ok (batch_with request file)
  unfolding batch_of
  batch_is request file written = rw written refl

  batch_large : (request : SinkRequest) → IsFileTooLarge request.schema request.rows → batch_of found request application number at ≡ Err file_too_large
  unfolding batch_of
  batch_large request large = rw large.1 refl

  new_as : (request : SinkRequest) (batch : Result EncodedBatch SinkRefusal) → request_here ≡ Ok request → request.repeats ≡ false → batch_of found request application number at ≡ batch → plan ≡ (batch >>= put_plan old.0)
  new_as request batch is new made = plan_for (Ok request) is ∙ (by_repeats request false new ∙ ap (λ (b : Result EncodedBatch SinkRefusal). b >>= put_plan old.0) made)

  large_as : (request : SinkRequest) → request_here ≡ Ok request → request.repeats ≡ false → IsFileTooLarge request.schema request.rows → plan ≡ Err file_too_large
  large_as request is new large = new_as request (Err file_too_large) is new (batch_large request large)

  put_as : (request : SinkRequest) (file : List ℕ) (fits : Result (Unit {0}) SinkRefusal) → request_here ≡ Ok request → request.repeats ≡ false → written_file request.schema request.rows ≡ Ok file → unless_other_rows request.schema request.rows name found ≡ fits
      → plan ≡ (fits >>= λ fits. Ok (puts (batch_with request file)))
  put_as request file fits is new written other =
      new_as request (Ok (batch_with request file)) is new (batch_is request file written) ∙ ap (λ (f : Result (Unit {0}) SinkRefusal). f >>= λ fits. Ok (puts (batch_with request file))) other

  -- what is put is well made
  made_of : (request : SinkRequest) (file : List ℕ) → IsWrittenFor request.schema request.rows file
      → IsCommit (commit_text (batch_actions application number at (size_behind file found) (length request.rows))) (batch_actions application number at (size_behind file found) (length request.rows))
      → IsWellMade application number at (batch_with request file)
  made_of request file written reads = record { size = size_behind file found; commit = reads; file = written.is_file; limits = written.limits }

  -- The batch that is put where its commit may be.
  pub record IsPut (now : State) (known : Loaded) (readied : Readied) : Type 0 where
    pub batch : EncodedBatch
    pub is : plan ≡ Ok (puts batch)
    pub made : IsWellMade application number at batch
    pub version : batch.version ≡ known.next
    pub commit : commit_text (commit_actions job readied) ≡ batch.commit
    pub file : now.0 ≡ with_file old.0 batch

  ready_put : (now : State) (known : Loaded) (count : ℕ) (readied : Readied) → IsFineJob job → QuietReady job old now known count readied → IsPut now known readied
  ready_put now known count readied fine is =
      let request = is.request in
      let file = is.needs.0 in
      let here = request_is known fine is.is (Ok request) is.asked in
      let readied_is : readied ≡ readied_by request (size_behind file found) = is.needs.3 in
      record {
        batch = batch_with request file;
        is = put_as request file (Ok tt) here is.new is.needs.1.written is.needs.2;
        made = made_of request file is.needs.1 (subst (λ (s : Readied). IsCommit (commit_text (commit_actions job s)) (commit_actions job s)) readied_is is.reads);
        version = version_is known request is.is is.asked;
        commit = ap (λ (s : Readied). commit_text (commit_actions job s)) readied_is;
        file = ap (λ (s : State). s.0) is.needs.4;
      }

  -- a file of a new batch that would be too large, whatever calls are lost
  pub driven_large : (new : State) (talk : Talk) → Talked MayAnswer old talk new → AnswerEnds job before talk (Err faults.FileTooLarge) → plan ≡ Err file_too_large
  driven_large new talk told ends =
      let quiet = loaded_quiet job before old new refl bears talk ends.is.known ends.is.tries ends.is.reaches told in
      let fine = reaches_fine job before talk ends.is.known ends.is.tries (rules None) ends.is.reaches in
      large_as ends.request (request_is ends.is.known fine quiet.0 (Ok ends.request) ends.is.asked) ends.is.new ends.large

  module _ (some : 1 ≤ tries) (utf8 : IsUtf8 application) (at_small : at < 2 ^ 63) (new : State) where
    abbrev After : Result SinkOutcome SinkFault → Type 0
    After answer = Appended application number at old.0 new.0 plan answer

    -- ---- the puts of its commit

    module _ (talk : Talk) (told : Talked Answers old talk new) (asked : AllAsked (SinkAsks job before) [] talk) where
      after_committed : (version : ℕ) → (race : InRace job before talk (λ put race. (winners : Vec (Vec actions.Action Global) Global) × CommitEnds put before race (Ok (outcomes.Committed version winners)))) → After (Ok (Committed version))
      after_committed version race =
          let raced = raced_quiet job before old refl bears some _ new talk race told asked (Ok (outcomes.Committed version race.holds.0)) race.holds.1 in
          let fine = reaches_fine job before race.front race.known race.tries (ready race.readied) race.reaches in
          let put = ready_put raced.0 race.known race.tries race.readied fine raced.1 in
          let ends = raced.3 in
          let same : put.batch.version ≡ version = put.version ∙ sym ends.0 in
          let landed : new.0 ≡ with_object raced.0.0 (commit_name version) put.batch.commit = ap (λ (s : State). s.0) ends.2 ∙ ap (with_object raced.0.0 (commit_name version)) put.commit in
          committed application number at old.0 new.0 put.batch put.made plan put.is version same ends.1
          (subst (λ (o : Objects). new.0 ≡ with_object o (commit_name version) put.batch.commit) put.file landed)

      after_past : InRace job before talk (λ put race. CommitEnds put before race (Err commit_faults.PastLimit)) → After (Err faults.TooLarge)
      after_past race =
          let raced = raced_quiet job before old refl bears some _ new talk race told asked (Err commit_faults.PastLimit) race.holds in
          let fine = reaches_fine job before race.front race.known race.tries (ready race.readied) race.reaches in
          let put = ready_put raced.0 race.known race.tries race.readied fine raced.1 in
          let great : greatest_version < put.batch.version = rw put.version raced.3.0 in
          passed application number at old.0 new.0 put.batch put.made plan put.is great (ap (λ (s : State). s.0) raced.3.1 ∙ put.file)

    module _ (talk : Talk) (told : Talked Answers old talk new) (may : Talked MayAnswer old talk new) where
      -- ---- the rules

      after_rules : (refusal : SinkRefusal) (fault : SinkFault) (known : Loaded) (left : ℕ) (readied : Option Readied) → Reaches job before talk known left (rules readied) → HoldsOf known (λ log. asked_of job known.next log ≡ Err refusal)
          → says (sink_refusal_view fault) ≡ refuses refusal → After (Err fault)
      after_rules refusal fault known left readied reaches asked told_as =
          let quiet = ruled_quiet job before old refl bears some new talk known left readied reaches told in
          let fine = reaches_fine job before talk known left (rules readied) reaches in
          refused application number at old.0 new.0 refusal fault plan (refused_plan refusal (request_is known fine quiet.1 (Err refusal) asked)) (ap (λ (s : State). s.0) quiet.0) told_as

      after_bad : (version : ℕ) → IsFineJob job → IsBadBehind job.load before talk version → After (Err (faults.BadLog version))
      after_bad version fine bad =
          let quiet = listed_quiet old new talk bad.names bad.listed may in
          refused application number at old.0 new.0 (bad_log version) (faults.BadLog version) plan (refused_plan (bad_log version) (unread version fine (bad.whole old.0 bears quiet.0))) quiet.1.0 refl

      after_unfine : (refusal : SinkRefusal) (fault : SinkFault) → talk ≡ [] → checked application number (items_len items) ≡ Err refusal → says (sink_refusal_view fault) ≡ refuses refusal → After (Err fault)
      after_unfine refusal fault none wrong told_as =
          let same : new ≡ old = subst (λ (t : Talk). Talked Answers old t new) none told in
          refused application number at old.0 new.0 refusal fault plan (refused_plan refusal (unfine refusal wrong)) (ap (λ (s : State). s.0) same) told_as

      after_large : AnswerEnds job before talk (Err faults.FileTooLarge) → After (Err faults.FileTooLarge)
      after_large ends =
          let quiet = loaded_quiet job before old new refl bears talk ends.is.known ends.is.tries ends.is.reaches may in
          refused application number at old.0 new.0 file_too_large faults.FileTooLarge plan (driven_large new talk may ends) quiet.1.0 refl

      -- ---- the file

      -- what stands under the name of the last number's file is what was found, and nothing changed
      old_found : (front : Talk) (other : ℕ) (request : SinkRequest) (is : IsOldBatch job before front other request) (got : Option (List ℕ)) → talk ≡ front ++ (get_object (batch_file_name application other), told_object got) ∷ []
          → (other ≡ number) × (request_here ≡ Ok request) × (got ≡ found) × (new.0 ≡ old.0)
      old_found front other request is got talked =
          let same : other ≡ number = same_number number other items is.items is.task in
          let last = talked_last Answers old new front (get_object (batch_file_name application other)) (told_object got) (subst (λ (t : Talk). Talked Answers old t new) talked told) in
          let quiet = ruled_quiet job before old refl bears some last.0 front is.known is.tries is.old is.reaches last.1 in
          let fine = reaches_fine job before front is.known is.tries (rules is.old) is.reaches in (
            same,
            request_is is.known fine quiet.1 (Ok request) is.asked,
            last.2.0 ∙ (ap (λ (s : State). object_at s.0 (batch_file_name application other)) quiet.0 ∙ ap (λ (n : ℕ). object_at old.0 (batch_file_name application n)) same),
            last.2.1.0 ∙ ap (λ (s : State). s.0) quiet.0,
          )

      after_already : (other : ℕ) → AnswerEnds job before talk (Ok (Already other)) → After (Ok (Already other))
      after_already other ends =
          let front = ends.0 in
          let request = ends.1 in
          let got = ends.2 in
          let is = ends.3 in
          let here = old_found front other request is got ends.4 in
          let same : has_same request.schema request.rows found ≡ true = subst (λ (f : Option (List ℕ)). has_same request.schema request.rows f ≡ true) here.2 ends.5 in
          subst (λ (n : ℕ). After (Ok (Already n))) (sym here.0)
          (stood application number at old.0 new.0 plan (repeated_as request (Ok tt) here.1 is.again (same_fits request.schema request.rows name found same)) here.3)

      -- the put of a new batch's file, from what stood
      new_found : (front : Talk) (other : ℕ) (request : SinkRequest) (mid : State) → IsNewBatch job before front other request → Talked Answers old front mid
          → (other ≡ number) × (request_here ≡ Ok request) × (mid ≡ old)
      new_found front other request mid is reached =
          let same : other ≡ number = same_number number other items is.items is.task in
          let quiet = ruled_quiet job before old refl bears some mid front is.known is.tries None is.reaches reached in
          let fine = reaches_fine job before front is.known is.tries (rules None) is.reaches in
          (same, request_is is.known fine quiet.1 (Ok request) is.asked, quiet.0)

      after_looked : (front : Talk) (looked : List ℕ) (request : SinkRequest) (got : Option (List ℕ)) → LooksAt job before front looked request → talk ≡ front ++ (get_object looked, told_object got) ∷ []
          → has_same request.schema request.rows got ≡ false → (plan ≡ Err (differs looked)) × (new.0 ≡ old.0)
      after_looked front _ _ got (repeated _ other request is) talked unlike =
          let here = old_found front other request is got talked in
          let unlike_here : has_same request.schema request.rows found ≡ false = subst (λ (f : Option (List ℕ)). has_same request.schema request.rows f ≡ false) here.2 unlike in
          let named : differs name ≡ differs (batch_file_name application other) = ap (λ (n : ℕ). differs (batch_file_name application n)) (sym here.0) in
          (repeated_as request (Err (differs name)) here.1 is.again (other_where request.schema request.rows name found unlike_here) ∙ ap (λ (r : SinkRefusal). Err r) named, here.3)
      after_looked front _ _ got (taken start _ other request file is written put) talked unlike =
          let own = batch_file_name application other in
          let last = talked_last Answers old new front (get_object own) (told_object got) (subst (λ (t : Talk). Talked Answers old t new) talked told) in
          let call = talked_last Answers old last.0 start (put_file own file) (told_put Exists) (subst (λ (t : Talk). Talked Answers old t last.0) put last.1) in
          let here = new_found start other request call.0 is call.1 in
          let some_stood : is_some (object_at call.0.0 own) ≡ true = exists_some (object_at call.0.0 own) call.2.0 in
          let kept : last.0.0 ≡ old.0 = call.2.1.0 ∙ (with_object_stands call.0.0 own file some_stood ∙ ap (λ (s : State). s.0) here.2) in
          let own_found : object_at old.0 own ≡ found = ap (λ (n : ℕ). object_at old.0 (batch_file_name application n)) here.0 in
          let is_found : got ≡ found = last.2.0 ∙ (ap (λ (o : Objects). object_at o own) kept ∙ own_found) in
          let stands_here : is_some found ≡ true = ap is_some (sym (ap (λ (s : State). object_at s.0 own) here.2 ∙ own_found)) ∙ some_stood in
          let unlike_here : has_same request.schema request.rows found ≡ false = subst (λ (f : Option (List ℕ)). has_same request.schema request.rows f ≡ false) is_found unlike in
          let named : differs name ≡ differs own = ap (λ (n : ℕ). differs (batch_file_name application n)) (sym here.0) in (
            put_as request file (Err (differs name)) here.1 is.new written.written (other_unless request.schema request.rows name found stands_here unlike_here) ∙ ap (λ (r : SinkRefusal). Err r) named,
            last.2.1.0 ∙ kept,
          )

      -- ---- where memory ran out

      after_filed : (front rest : Talk) (other : ℕ) (request : SinkRequest) (file : List ℕ) (answered : Told) → IsNewBatch job before front other request → IsWrittenFor request.schema request.rows file → AllReads rest
          → talk ≡ front ++ (put_file (batch_file_name application other) file, answered) ∷ rest → After (Err faults.Memory)
      after_filed front rest other request file answered is written reads talked =
          let own = batch_file_name application other in
          let parts = talked_behind Answers old new front ((put_file own file, answered) ∷ rest) (subst (λ (t : Talk). Talked Answers old t new) talked told) in
          let put = parts.2 in
          let here = new_found front other request parts.0 is parts.1 in
          let rested : new.0 ≡ put.0.0 = reads_quiet put.0 new rest reads put.2 in
          by_told answered parts.0 put.0 here rested put.1
        where
          by_told : (answered : Told) (mid behind : State) → (other ≡ number) × (request_here ≡ Ok request) × (mid ≡ old) → new.0 ≡ behind.0 → Answers mid (put_file (batch_file_name application other) file) answered behind → After (Err faults.Memory)
          by_told (told_names names) mid behind here rested is_told = absurd is_told
          by_told (told_object got) mid behind here rested is_told = absurd is_told
          by_told told_lost mid behind here rested is_told = absurd is_told
          by_told told_memory mid behind here rested is_told = nothing application number at old.0 new.0 plan (rested ∙ (is_told.0 ∙ ap (λ (s : State). s.0) here.2))
          by_told (told_put Exists) mid behind here rested is_told =
              let own = batch_file_name application other in
              let kept : behind.0 ≡ mid.0 = is_told.1.0 ∙ with_object_stands mid.0 own file (exists_some (object_at mid.0 own) is_told.0) in
              nothing application number at old.0 new.0 plan (rested ∙ (kept ∙ ap (λ (s : State). s.0) here.2))
          by_told (told_put Created) mid behind here rested is_told =
              let own = batch_file_name application other in
              let same_name : own ≡ name = ap (λ (n : ℕ). batch_file_name application n) here.0 in
              let none : found ≡ None = ap (object_at old.0) (sym same_name) ∙ (ap (λ (s : State). object_at s.0 own) (sym here.2) ∙ created_none (object_at mid.0 own) is_told.0) in
              let size : size_behind file found ≡ length file = ap (size_behind file) none in
              let fine = reaches_fine job before front is.known is.tries (rules None) is.reaches in
              let reads_so : IsCommit (commit_text (batch_actions application number at (size_behind file found) (length request.rows))) (batch_actions application number at (size_behind file found) (length request.rows))
              = batch_reads application number at (size_behind file found) (length request.rows) utf8 (checked_small application number (items_len items) fine) at_small (rw size (omega (arith, written.limits.size))) (omega (arith, written.limits.most_rows)) in
              let fits : unless_other_rows request.schema request.rows name found ≡ Ok tt = ap (unless_other_rows request.schema request.rows name) none in
              let landed : new.0 ≡ with_object old.0 name file = rested ∙ (is_told.1.0 ∙ (ap (λ (s : State). with_object s.0 own file) here.2 ∙ ap (λ (n : List ℕ). with_object old.0 n file) same_name)) in
              unfinished application number at old.0 new.0 (batch_with request file) (made_of request file written reads_so) plan (put_as request file (Ok tt) here.1 is.new written.written fits) landed

      after_unput : (unput : IsUnput job before talk) → After (Err faults.Memory)
      after_unput (only_read _ reads) = nothing application number at old.0 new.0 plan (reads_quiet old new talk reads told)
      after_unput (filed front rest _ other request file answered is written reads talked) = after_filed front rest other request file answered is written reads talked
      after_unput (raced front rest _ race reads talked) =
          let parts = talked_behind Answers old new front rest (subst (λ (t : Talk). Talked Answers old t new) talked told) in
          let quiet = undecided_quiet job before old refl bears some parts.0 front race parts.1 in
          let fine = reaches_fine job before race.front race.known race.tries (ready race.readied) race.reaches in
          let put = ready_put quiet.0 race.known race.tries race.readied fine quiet.1 in
          unfinished application number at old.0 new.0 put.batch put.made plan put.is (reads_quiet parts.0 new rest reads parts.2 ∙ (ap (λ (s : State). s.0) quiet.2 ∙ put.file))

    -- ---- each answer

    pub appended : (talk : Talk) → Talked Answers old talk new → Talked MayAnswer old talk new → AllAsked (SinkAsks job before) [] talk → (answer : Result SinkOutcome SinkFault) → ((version : Option ℕ) → answer ≢ Err (faults.Lost version)) → AnswerEnds job before talk answer → After answer
    appended talk told may asked (Ok (Committed version)) never ends = after_committed talk told asked version ends.1
    appended talk told may asked (Ok (Closed version)) never ends = absurd cc
    appended talk told may asked (Ok (Already other)) never ends = after_already talk told may other ends
    appended talk told may asked (Ok AlreadyClosed) never ends = absurd cc
    appended talk told may asked (Err faults.BadApp) never ends = after_unfine talk told may _ faults.BadApp ends.0 ends.1 refl
    appended talk told may asked (Err faults.TooLarge) never (inl ends) = after_unfine talk told may _ faults.TooLarge ends.0 ends.1 refl
    appended talk told may asked (Err faults.TooLarge) never (inr race) = after_past talk told asked race
    appended talk told may asked (Err faults.FileTooLarge) never ends = after_large talk told may ends
    appended talk told may asked (Err (faults.BadLog version)) never (inl ends) = after_bad talk told may version ends.0 ends.1
    appended talk told may asked (Err (faults.BadLog version)) never (inr race) = absurd (raced_quiet job before old refl bears some _ new talk race told asked (Err (commit_faults.BadLog version)) race.holds).3
    appended talk told may asked (Err (faults.ReadOnly fault)) never ends = after_rules talk told may _ (faults.ReadOnly fault) ends.1.known ends.1.tries ends.0 ends.1.reaches ends.1.says refl
    appended talk told may asked (Err (faults.BadRow index fault)) never ends = after_rules talk told may _ (faults.BadRow index fault) ends.1.known ends.1.tries ends.0 ends.1.reaches (λ log is. (ends.1.says log is).1) refl
    appended talk told may asked (Err (faults.Stale last)) never ends = after_rules talk told may _ (faults.Stale last) ends.1.known ends.1.tries ends.0 ends.1.reaches (λ log is. (ends.1.says log is).1) refl
    appended talk told may asked (Err faults.StreamClosed) never ends = after_rules talk told may _ faults.StreamClosed ends.1.known ends.1.tries ends.0 ends.1.reaches (λ log is. (ends.1.says log is).1) refl
    appended talk told may asked (Err (faults.Differs other)) never ends =
        let looked = ends.1 in
        let here = after_looked talk told may looked.front (string_bytes other) ends.0 looked.found looked.looks looked.talked looked.is in
        refused application number at old.0 new.0 (differs (string_bytes other)) (faults.Differs other) plan here.0 here.1 refl
    appended talk told may asked (Err (faults.SchemaChanged version)) never ends = let none = (ruled_quiet job before old refl bears some new talk ends.0.1.known ends.0.1.tries (Some ends.0.0) ends.0.1.reaches told).2 in absurd cc
    appended talk told may asked (Err (faults.Contended newest)) never (inl ends) = let given = (quiet_reaches job before old refl bears some talk ends.0 0 (ready ends.1) ends.2 new told).given in absurd (omega (arith, given, some))
    appended talk told may asked (Err (faults.Contended newest)) never (inr race) = absurd (raced_quiet job before old refl bears some _ new talk race told asked (Ok (outcomes.Contended newest race.holds.0)) race.holds.1).3
    appended talk told may asked (Err (faults.Lost version)) never ends = absurd (never version refl)
    appended talk told may asked (Err faults.Memory) never ends = after_unput talk told may ends

-- the job of an append whose texts are the same
pub append_job_same : (mine : SinkJob) (application other : List ℕ) (number : ℕ) (items : Items) (at tries : ℕ) (use_checkpoints : Bool) (first known : Loaded) → mine ≡ append_job other number items at tries use_checkpoints known → other ≡ application → known ≡ first → mine ≡ append_job application number items at tries use_checkpoints first
append_job_same mine application other number items at tries use_checkpoints first known own is same = own ∙ λ i. append_job (is i) number items at tries use_checkpoints (same i)
