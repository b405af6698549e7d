-- What the talk of a sink's session tells of stores: which commit and which file it puts, and what stands there; and what it tells behind a
-- put that created its commit.
use Rattle.std.proofs.Common.{◌≡◌, ◌∙◌, ◌⊎◌, ℕ, suc, List, [], ◌∷◌, ◌++◌, length, append_assoc, true, false, Option, Some, None, Result, Ok, Err, Vec, Global, refl, sym, ap, subst, inl, inr}
use Rattle.serde_json.specs.Data.{Items}
use Rattle.store_core.specs.Objects.{Objects, object_at}
use Rattle.store_core.specs.declared.store.Put.TheVariants.{Created, Exists}
use Rattle.store_core.specs.Names.{commit_name}
use Rattle.session_core.specs.Talks.{Asked, Bears, Told, Talk, list_names, get_object, put_file, put_commit, told_object, told_put, told_lost}
use Rattle.delta_actions.specs.Action.{Action}
use Rattle.delta_actions.specs.declared.action.Action.{Action as CodeAction}
use Rattle.delta_replay.specs.Keys.{last_number}
use Rattle.delta_replay.specs.Support.{writable}
use Rattle.table_log.specs.Loads.{IsFront, checkpoint_of}
use Rattle.table_log.specs.declared.loading.Loaded.{Loaded}
use Rattle.commit_core.specs.Commits.{commit_text}
use Rattle.commit_core.specs.CommitSessions.{CommitEnds, CommitJob, ComesTo, HoldsOfCommit, IsUnfinished, commits_view, got_told, put_told_at, taken}
use Rattle.commit_core.specs.declared.commit_fault.CommitFault.{CommitFault}
use Rattle.commit_core.specs.declared.commit_state.CommitOutcome.{CommitOutcome}
use Rattle.commit_core.specs.declared.commit_state.CommitOutcome.TheVariants as outcomes
use Rattle.commit_core.proofs.Callers.{bears_end, bears_front}
use Rattle.batch_core.specs.Requests.{SinkRequest, has_same, numbered_behind}
use Rattle.batch_core.specs.RowsIn.{rows_from}
use Rattle.batch_core.specs.declared.fault.SinkFault.{SinkFault}
use Rattle.batch_core.specs.declared.fault.SinkFault.TheVariants as faults
use Rattle.batch_core.proofs.Callers.{HasRead, asked_parts, numbered_parts, reads_as_file, repeats_last}
use Rattle.sink_core.specs.SinkLaws.{FileOfItems, HadSchema, IsCommittedIn, IsCommitOfJob, IsFileOfJob, BatchStandsIn, TellsCommit, WasSo}
use Rattle.sink_core.specs.SinkSessions.{AnswerEnds, HoldsOf, InRace, IsOldBatch, IsNoCommitPut, LooksAt, Point, PutsFile, Reaches, Readied, Readies, SinkAsks, SinkJob, SinkTask, commit_actions, anew, appends, asked_of, closes, conflicts, file_of, goes_on, knew, loaded, race_of, ready, repeated, rules, readied_by, readies, stood}
use Rattle.sink_core.specs.SinkSessions as talks
use Rattle.sink_core.specs.declared.sink_state.SinkOutcome.{SinkOutcome}
use Rattle.sink_core.specs.declared.sink_state.SinkOutcome.TheVariants.{Already, AlreadyClosed, Closed, Committed}
use Rattle.sink_core.proofs.ReachLemmas.{NotCreated, created_behind, listed_uncreated, more_uncreated, file_uncreated, race_uncreated, reaches_known, reaches_uncreated, unput_uncreated}

-- ---- the store's log

-- what holds of the commits that are known was so of the store's log
was_so : (objects : Objects) (P : List (List Action) → Type 0) (known : Loaded) (front : IsFront objects known) → P front.1.commits → WasSo objects P
was_so objects P known front holds = record {
  next = known.next;
  within = front.1.within;
  checkpoint = checkpoint_of known;
  restored = front.0;
  from = front.1.checkpoint;
  log = front.1.commits;
  read = front.1.read;
  holds = holds;
}

-- ---- the batch's file stands

module _ (objects : Objects) (job : SinkJob) (before : Talk) (number : ℕ) (items : Items) (task : job.task ≡ appends number items) (borne : Bears objects before) where
  -- what is known of its log, of which the rules say what is asked for
  known_front : (talk : Talk) (known : Loaded) (tries : ℕ) (point : Point) → Bears objects talk → Reaches job before talk known tries point → IsFront objects known
  known_front talk known tries point bears reaches = reaches_known job before talk known tries point reaches objects borne bears

  asked_here : (known : Loaded) (request : SinkRequest) (front : IsFront objects known) → HoldsOf known (λ log. asked_of job known.next log ≡ Ok request)
      → HasRead front.1.commits items request.schema request.rows × (numbered_behind front.1.commits job.application number ≡ Ok request.repeats) × (request.version ≡ known.next)
  asked_here known request front asked =
      asked_parts known.next front.1.commits job.application number items request
      (subst (λ (t : SinkTask). asked_of (record job { task = t }) known.next front.1.commits ≡ Ok request) task (asked front.1.commits front.1.snapshot))

  -- the rows of a request are spelled by the items for a schema that the table had
  rows_spelled : (talk : Talk) (known : Loaded) (tries : ℕ) (point : Point) (request : SinkRequest) → Bears objects talk → Reaches job before talk known tries point → HoldsOf known (λ log. asked_of job known.next log ≡ Ok request)
      → HadSchema objects request.schema × (rows_from 0 request.schema items ≡ Ok request.rows)
  rows_spelled talk known tries point request bears reaches asked =
      let front = known_front talk known tries point bears reaches in
      let made = asked_here known request front asked in
      (was_so objects (λ log. writable log ≡ Ok request.schema) known front made.0.written, made.0.spelled)

  -- where the rules say that the number is the last one again, it was the application's last one
  number_last : (talk : Talk) (known : Loaded) (tries : ℕ) (point : Point) (request : SinkRequest) → Bears objects talk → Reaches job before talk known tries point → HoldsOf known (λ log. asked_of job known.next log ≡ Ok request)
      → request.repeats ≡ true → WasSo objects (λ log. last_number job.application log ≡ Some number)
  number_last talk known tries point request bears reaches asked again =
      let front = known_front talk known tries point bears reaches in
      let made = asked_here known request front asked in
      was_so objects (λ log. last_number job.application log ≡ Some number) known front
      (repeats_last number (last_number job.application front.1.commits) ((numbered_parts front.1.commits job.application number request.repeats made.1).0 ∙ ap Ok again))

  -- by the calls of its file it stands
  puts_stands : (front calls : Talk) (request : SinkRequest) (size : ℕ) → Bears objects (front ++ calls) → HadSchema objects request.schema × (rows_from 0 request.schema items ≡ Ok request.rows) → PutsFile (file_of job number) request calls size
      → FileOfItems objects (file_of job number) items size (length request.rows)
  puts_stands front calls request size bears spelled (anew file written) = record {
    schema = request.schema;
    values = request.rows;
    had = spelled.0;
    spelled = spelled.1;
    count = refl;
    bytes = file;
    stands = (bears_end objects front calls bears).0;
    sized = refl;
    same = reads_as_file request.schema request.rows file written.is_file.within written.is_file.file written.limits;
  }
  puts_stands front calls request size bears spelled (stood file bytes written same) = record {
    schema = request.schema;
    values = request.rows;
    had = spelled.0;
    spelled = spelled.1;
    count = refl;
    bytes = bytes;
    stands = (bears_end objects front calls bears).1.0;
    sized = refl;
    same = same;
  }

  -- where its commit may be put, or may be put again, the file that was readied stands
  pub file_stands : (talk : Talk) (known : Loaded) (tries : ℕ) (point : Point) (readied : Readied) → (point ≡ ready readied) ⊎ (point ≡ rules (Some readied)) → Bears objects talk → Reaches job before talk known tries point
      → FileOfItems objects (file_of job number) items readied.size (length readied.rows)
  file_stands talk known tries point readied (inl is) bears (loaded _ _ fine loads load) = absurd cc
  file_stands talk known tries point readied (inr is) bears (loaded _ _ fine loads load) = absurd cc
  file_stands talk known tries point readied (inl is) bears (knew _ fine loads knows some) = absurd cc
  file_stands talk known tries point readied (inr is) bears (knew _ fine loads knows some) = absurd cc
  file_stands talk known tries point readied (inl is) bears (readies front calls _ _ _ request size reaches asked new readied_so reads talked) =
      let all = subst (Bears objects) talked bears in
      let spelled = rows_spelled front known tries (rules None) request (bears_front objects front calls all) reaches asked in
      let same : readied_by request size ≡ readied = cc in
      subst (λ (s : Readied). FileOfItems objects (file_of job number) items s.size (length s.rows)) same
      (puts_stands front calls request size all spelled (subst (λ (t : SinkTask). Readies (record job { task = t }) request calls size) task readied_so))
  file_stands talk known tries point readied (inr is) bears (readies front calls _ _ _ request size reaches asked new readied_so reads talked) = absurd cc
  file_stands talk known tries point readied (inl is) bears (goes_on _ _ _ other reaches asked) =
      let same : other ≡ readied = cc in file_stands talk known tries (rules (Some other)) readied (inr (ap (λ (s : Readied). rules (Some s)) same)) bears reaches
  file_stands talk known tries point readied (inr is) bears (goes_on _ _ _ other reaches asked) = absurd cc
  file_stands talk known tries point readied (inl is) bears (conflicts front race _ old _ some left newest other winners reaches few ends talked rest next front_known) = absurd cc
  file_stands talk known tries point readied (inr is) bears (conflicts front race _ old _ some left newest other winners reaches few ends talked rest next front_known) =
      let same : other ≡ readied = cc in file_stands front old some (ready other) readied (inl (ap ready same)) (bears_front objects front race (subst (Bears objects) talked bears)) reaches

-- ---- what it puts

module _ (objects : Objects) (job : SinkJob) (before : Talk) (borne : Bears objects before) where
  -- its commit is that of its job, with the size of the file that stands
  pub commit_of_job : (talk : Talk) (known : Loaded) (tries : ℕ) (readied : Readied) → Bears objects talk → Reaches job before talk known tries (ready readied) → IsCommitOfJob objects job (commit_text (commit_actions job readied))
  commit_of_job talk known tries readied bears reaches = by_task job.task refl
    where
      by_task : (task : SinkTask) → job.task ≡ task → IsCommitOfJob objects job (commit_text (commit_actions job readied))
      by_task (appends number items) is =
          subst (λ (t : SinkTask). IsCommitOfJob objects (record job { task = t }) (commit_text (commit_actions (record job { task = t }) readied))) (sym is)
          (readied.size, length readied.rows, refl, file_stands objects job before number items is borne talk known tries (ready readied) readied (inl refl) bears reaches)
      by_task closes is = subst (λ (t : SinkTask). IsCommitOfJob objects (record job { task = t }) (commit_text (commit_actions (record job { task = t }) readied))) (sym is) refl

  pub puts_own_commit : (talk : Talk) (version : ℕ) (bytes : List ℕ) → Bears objects talk → SinkAsks job before talk (put_commit version bytes) → IsCommitOfJob objects job bytes
  puts_own_commit talk version bytes bears asks =
      let r = asks.1 in
      let own = commit_of_job r.front r.known r.tries r.readied (bears_front objects r.front r.race (subst (Bears objects) r.talked bears)) r.reaches in
      subst (IsCommitOfJob objects job) (sym r.holds.2) own

  -- its file is written for the rows of its items, under the batch's name
  pub puts_own_file : (talk : Talk) (name bytes : List ℕ) → Bears objects talk → SinkAsks job before talk (put_file name bytes) → IsFileOfJob objects job name bytes
  puts_own_file talk name bytes bears asks =
      let puts = asks.1 in
      let is = puts.is in
      let spelled = rows_spelled objects job before puts.number is.items is.task borne talk is.known is.tries (rules None) puts.request bears is.reaches is.asked in
      subst (λ (t : SinkTask). IsFileOfJob objects (record job { task = t }) name bytes) (sym is.task) (puts.request.schema, puts.request.rows, spelled.0, spelled.1, puts.written, puts.named)

  -- ---- what stands where it tells so

  -- its commit stands at the version that it tells
  committed_stands : (talk : Talk) (P : CommitJob → Talk → Type 0) (r : InRace job before talk P) (version : ℕ) → Bears objects talk → object_at objects (commit_name version) ≡ Some (race_of job r.readied r.known.next r.tries).bytes → IsCommittedIn objects job version
  committed_stands talk P r version bears stands =
      (commit_text (commit_actions job r.readied), stands, commit_of_job r.front r.known r.tries r.readied (bears_front objects r.front r.race (subst (Bears objects) r.talked bears)) r.reaches)

  -- what stands under the name that was got has the rows of the batch
  found_stands : (talk front : Talk) (number : ℕ) (request : SinkRequest) (found : Option (List ℕ)) → IsOldBatch job before front number request → Bears objects (front ++ (get_object (file_of job number), told_object found) ∷ [])
      → has_same request.schema request.rows found ≡ true → BatchStandsIn objects job number
  found_stands talk front number request None is bears same = absurd cc
  found_stands talk front number request (Some bytes) is bears same =
      let call : Talk = (get_object (file_of job number), told_object (Some bytes)) ∷ [] in
      let own = bears_front objects front call bears in
      let spelled = rows_spelled objects job before number is.items is.task borne front is.known is.tries (rules is.old) request own is.reaches is.asked in
      let last = number_last objects job before number is.items is.task borne front is.known is.tries (rules is.old) request own is.reaches is.asked is.again in (
        is.items,
        is.task,
        last,
        (
          length bytes,
          length request.rows,
          record {
            schema = request.schema;
            values = request.rows;
            had = spelled.0;
            spelled = spelled.1;
            count = refl;
            bytes = bytes;
            stands = (bears_end objects front call bears).0;
            sized = refl;
            same = same;
          },
        ),
      )

  -- where it tells that its batch stands already, such a file stands
  pub already_stands : (talk : Talk) (number : ℕ) → Bears objects talk → AnswerEnds job before talk (Ok (Already number)) → BatchStandsIn objects job number
  already_stands talk number bears ends = found_stands talk ends.0 number ends.1 ends.2 ends.3 (subst (Bears objects) ends.4 bears) ends.5

  -- where it tells that its commit was put, that stands; the puts of a commit tell no less
  module _ (tells : (put : CommitJob) (talk : Talk) (result : Result CommitOutcome CommitFault) → Bears objects talk → CommitEnds put before talk result → HoldsOfCommit objects put result) (talk : Talk) (bears : Bears objects talk) where
    race_stands : (at version : ℕ) → at ≡ version → InRace job before talk (λ put race. (winners : Vec (Vec CodeAction Global) Global) × CommitEnds put before race (Ok (outcomes.Committed at winners))) → IsCommittedIn objects job version
    race_stands at version same r =
        let own = bears_end objects r.front r.race (subst (Bears objects) r.talked bears) in
        let put = race_of job r.readied r.known.next r.tries in
        let stands = (tells put r.race (Ok (outcomes.Committed at r.holds.0)) own r.holds.1).2 in
        subst (IsCommittedIn objects job) same (committed_stands talk _ r at bears stands)

    pub committed_told : (version : ℕ) (answer : Result SinkOutcome SinkFault) → AnswerEnds job before talk answer → TellsCommit answer version → IsCommittedIn objects job version
    committed_told version (Ok (Committed at)) ends same = race_stands at version same ends.1
    committed_told version (Ok (Closed at)) ends same = race_stands at version same ends.1
    committed_told version (Ok (Already number)) ends same = absurd same
    committed_told version (Ok AlreadyClosed) ends same = absurd same
    committed_told version (Err fault) ends same = absurd same

-- ---- behind a put that created its commit

-- the version of the last put of a commit; without a call it is as before
abbrev version_last : (before : ℕ) → Talk → ℕ
version_last before [] = before
version_last before ((put_commit version bytes, told) ∷ talk) = version_last version talk
version_last before (call ∷ talk) = version_last before talk

version_end : (before : ℕ) (front : Talk) (version : ℕ) (bytes : List ℕ) (told : Told) → version_last before (front ++ (put_commit version bytes, told) ∷ []) ≡ version
version_end before [] version bytes told = refl
version_end before ((list_names, other) ∷ front) version bytes told = version_end before front version bytes told
version_end before ((get_object name, other) ∷ front) version bytes told = version_end before front version bytes told
version_end before ((put_file name more, other) ∷ front) version bytes told = version_end before front version bytes told
version_end before ((put_commit at more, other) ∷ front) version bytes told = version_end at front version bytes told

-- behind a lost call that is no put of a commit it wasn't created
other_uncreated : (front : Talk) (asked : Asked) → IsNoCommitPut asked → NotCreated (front ++ (asked, told_lost) ∷ [])
other_uncreated front list_names other = more_uncreated front list_names told_lost tt
other_uncreated front (get_object name) other = more_uncreated front (get_object name) told_lost tt
other_uncreated front (put_file name bytes) other = file_uncreated front name bytes told_lost
other_uncreated front (put_commit version bytes) other = absurd other

module _ (job : SinkJob) (before talk : Talk) (version : ℕ) (bytes : List ℕ) where
  abbrev created : Talk
  created = talk ++ (put_commit version bytes, told_put Created) ∷ []

  never : NotCreated created → ⊥
  never free = let no : true ≡ false = sym (created_behind false talk ((put_commit version bytes, told_put Created) ∷ [])) ∙ free in absurd cc

  -- it has come to no point
  at_no_point : (known : Loaded) (tries : ℕ) (point : Point) → Reaches job before created known tries point → ⊥
  at_no_point known tries point reaches = never (reaches_uncreated job before created known tries point reaches)

  -- nor is it behind a look at a file
  looks_never : (front : Talk) (name : List ℕ) (found : Option (List ℕ)) → created ≡ front ++ (get_object name, told_object found) ∷ [] → ⊥
  looks_never front name found is = never (subst NotCreated (sym is) (more_uncreated front (get_object name) (told_object found) tt))

  module _ (P : CommitJob → Talk → Type 0) (r : InRace job before created P) where
    abbrev own_put : CommitJob
    own_put = race_of job r.readied r.known.next r.tries

    -- nor is its commit being put
    race_never : (at : ℕ) (commits : List (List Action)) (behind : Talk) → ComesTo own_put r.race at commits behind → IsUnfinished own_put at behind → ⊥
    race_never at commits behind comes is =
        never (subst NotCreated (sym r.talked) (race_uncreated own_put r.front r.race at commits behind (reaches_uncreated job before r.front r.known r.tries (ready r.readied) r.reaches) comes is))

    -- where its commit was put, that is the put which created it
    race_ends : (at : ℕ) (commits : List (List Action)) → ComesTo own_put r.race at commits (put_told_at own_put at (told_put Created)) → at ≡ version
    race_ends at commits comes =
        let put = (put_commit at own_put.bytes, told_put Created) ∷ [] in
        let gone = taken own_put.version own_put.bytes comes.winners in
        sym (sym (version_end 0 talk version bytes (told_put Created))
        ∙ (ap (version_last 0) (r.talked ∙ (ap (λ (t : Talk). r.front ++ t) comes.told ∙ sym (append_assoc r.front gone put)))
        ∙ version_end 0 (r.front ++ gone) at own_put.bytes (told_put Created)))

  pub created_told : (answer : Result SinkOutcome SinkFault) → AnswerEnds job before created answer → TellsCommit answer version
  created_told (Ok (Committed at)) ends = race_ends _ ends.1 at (commits_view ends.1.holds.0) ends.1.holds.1
  created_told (Ok (Closed at)) ends = race_ends _ ends.1 at (commits_view ends.1.holds.0) ends.1.holds.1
  created_told (Ok (Already number)) ends = looks_never ends.0 (file_of job number) ends.2 ends.4
  created_told (Ok AlreadyClosed) ends = at_no_point ends.1.1.known ends.1.1.tries (rules ends.1.0) ends.1.1.reaches
  created_told (Err faults.BadApp) ends = never (subst NotCreated (sym ends.0) refl)
  created_told (Err faults.TooLarge) (inl none) = never (subst NotCreated (sym none.0) refl)
  created_told (Err faults.TooLarge) (inr r) = race_never _ r r.holds.0 r.holds.1 [] r.holds.2 (inl refl)
  created_told (Err faults.FileTooLarge) ends = at_no_point ends.is.known ends.is.tries (rules None) ends.is.reaches
  created_told (Err (faults.BadLog at)) (inl bad) = never (listed_uncreated created bad.1.names bad.1.listed)
  created_told (Err (faults.BadLog at)) (inr r) = race_never _ r at r.holds.0 (got_told (race_of job r.readied r.known.next r.tries) at (told_object r.holds.1)) r.holds.2 (inr (inr (told_object r.holds.1, refl)))
  created_told (Err (faults.ReadOnly fault)) ends = at_no_point ends.1.known ends.1.tries (rules ends.0) ends.1.reaches
  created_told (Err (faults.BadRow index fault)) ends = at_no_point ends.1.known ends.1.tries (rules ends.0) ends.1.reaches
  created_told (Err (faults.Stale last)) ends = at_no_point ends.1.known ends.1.tries (rules ends.0) ends.1.reaches
  created_told (Err faults.StreamClosed) ends = at_no_point ends.1.known ends.1.tries (rules ends.0) ends.1.reaches
  created_told (Err (faults.Differs name)) ends = looks_never ends.1.front _ ends.1.found ends.1.talked
  created_told (Err (faults.SchemaChanged at)) ends = at_no_point ends.0.1.known ends.0.1.tries (rules (Some ends.0.0)) ends.0.1.reaches
  created_told (Err (faults.Contended newest)) (inl ready_for) = at_no_point ready_for.0 0 (ready ready_for.1) ready_for.2
  created_told (Err (faults.Contended newest)) (inr r) = race_never _ r (suc newest) (commits_view r.holds.0) [] r.holds.1.0 (inl refl)
  created_told (Err (faults.Lost (Some at))) r = race_never _ r at r.holds.0 (put_told_at (race_of job r.readied r.known.next r.tries) at told_lost) r.holds.1 (inr (inl (told_lost, (λ e. absurd cc), refl)))
  created_told (Err (faults.Lost None)) ends = never (subst NotCreated (sym ends.talked) (other_uncreated ends.front ends.asked ends.other))
  created_told (Err faults.Memory) ends = never (unput_uncreated job before created ends)

  -- it asks for nothing more
  pub created_quiet : (asked : Asked) → SinkAsks job before created asked → ⊥
  created_quiet list_names (fine, asks) = never (subst NotCreated (sym asks.1) refl)
  created_quiet (get_object name) (fine, inl asks) = never (listed_uncreated created asks.1.names asks.1.listed)
  created_quiet (get_object name) (fine, inr (inl (request, repeated _ number _ is))) = at_no_point is.known is.tries (rules is.old) is.reaches
  created_quiet (get_object name) (fine, inr (inl (request, talks.taken front _ number _ file is written talked))) =
      never (subst NotCreated (sym talked) (file_uncreated front (file_of job number) file (told_put Exists)))
  created_quiet (get_object name) (fine, inr (inr r)) =
      race_never _ r r.holds.0 r.holds.1 (put_told_at (race_of job r.readied r.known.next r.tries) r.holds.0 (told_put Exists)) r.holds.2 (inr (inl (told_put Exists, (λ e. absurd cc), refl)))
  created_quiet (put_file name file) (fine, puts) = at_no_point puts.is.known puts.is.tries (rules None) puts.is.reaches
  created_quiet (put_commit at text) (fine, r) = race_never _ r at r.holds.0 [] r.holds.1 (inl refl)
