-- A sink's session over one store that is at rest, and loses no call: nothing but the session's own puts changes it, and it meets no
-- winner.
use Rattle.std.proofs.Common.{◌≡◌, ◌≢◌, ◌⊎◌, ◌≤◌, ◌<◌, ◌∙◌, ℕ, suc, List, [], ◌∷◌, ◌++◌, length, not, Bool, true, false, Option, Some, None, Result, Ok, Err, Vec, Global, IsSome, refl, sym, ap, subst, inl, inr, arith}
use Rattle.std.proofs.lemmas.Bool.{cases_lt}
use Rattle.std.proofs.lemmas.List.{length-map}
use Rattle.outcomes.specs.Results.{refused_if}
use Rattle.store_core.specs.Names.{commit_name, greatest_version}
use Rattle.session_core.specs.Sessions.{AllAsked}
use Rattle.session_core.specs.Shown.{AllReads, IsRead}
use Rattle.session_core.specs.Stores.{State, Answers, AnswersPut, MayAnswer, Talked}
use Rattle.session_core.specs.Talks.{Asked, list_names, get_object, put_file, put_commit, Told, told_names, told_object, told_put, told_lost, told_memory, Talk, Bears}
use Rattle.session_core.proofs.Callers.{gets_read, reads_shown, reads_untouched}
use Rattle.store_core.specs.Calls.{put_told as told_of_put}
use Rattle.store_core.specs.Objects.{object_at, with_object}
use Rattle.store_core.specs.ObjectLaws.{object_at-with_object_other, with_object_stands}
use Rattle.store_core.specs.declared.store.Put.TheVariants.{Created, Exists}
use Rattle.delta_actions.specs.Action.{Action}
use Rattle.delta_actions.specs.Commit.{IsCommit}
use Rattle.delta_actions.specs.declared.action.Action as actions
use Rattle.table_log.specs.Counts.{commit_count}
use Rattle.table_log.specs.Loads.{IsLoaded}
use Rattle.table_log.specs.LoadSessions.{HasListed}
use Rattle.table_log.specs.declared.loading.Loaded.{Loaded}
use Rattle.commit_core.proofs.Callers.{commit_name-data_file_name}
use Rattle.commit_core.specs.Commits.{commit_text}
use Rattle.commit_core.specs.CommitSessions.{CommitEnds, CommitJob, ComesTo, IsUnfinished, Winner, got_told, put_told_at, taken}
use Rattle.commit_core.specs.declared.commit_fault.CommitFault.{CommitFault}
use Rattle.commit_core.specs.declared.commit_fault.CommitFault.TheVariants as commit_faults
use Rattle.commit_core.specs.declared.commit_state.CommitOutcome.{CommitOutcome}
use Rattle.commit_core.specs.declared.commit_state.CommitOutcome.TheVariants as outcomes
use Rattle.batch_core.specs.Committing.{batch_file_name}
use Rattle.batch_core.specs.Refusals.{SinkRefusal, differs}
use Rattle.batch_core.specs.Requests.{SinkRequest, IsWrittenFor, unless_other_rows}
use Rattle.sink_core.specs.Appending.{size_behind}
use Rattle.sink_core.specs.SinkSessions.{HoldsOf, IsUndecided, Point, PutsFile, Reaches, Readied, Readies, SinkAsks, SinkJob, SinkTask, commit_actions, anew, appends, asked_of, closes, conflicts, file_of, goes_on, knew, loaded, race_of, ready, rules, readied_by, readies, stood}
use Rattle.sink_core.proofs.LogEnd.{log_end}

-- what its commit needs is readied: the batch's file stands besides what stood, and where one stood it has the same rows; for a close
-- nothing was put
abbrev pub QuietReadied : SinkJob → (old now : State) → SinkRequest → Readied → Type 0
QuietReadied job old now request readied = by_task job.task
  where
    by_task : SinkTask → Type 0
    by_task (appends number items) = (file : List ℕ) × IsWrittenFor request.schema request.rows file × (unless_other_rows request.schema request.rows (file_of job number) (object_at old.0 (file_of job number)) ≡ Ok tt)
        × (readied ≡ readied_by request (size_behind file (object_at old.0 (file_of job number)))) × (now ≡ (with_object old.0 (file_of job number) file, old.1))
    by_task closes = (readied ≡ readied_by request 0) × (now ≡ old)

-- its commit may be put for the first time
pub record QuietReady (job : SinkJob) (old now : State) (known : Loaded) (tries : ℕ) (readied : Readied) : Type 0 where
  pub request : SinkRequest
  pub is : IsLoaded job.load.use_checkpoints old.0 known
  pub given : tries ≡ job.tries
  pub asked : HoldsOf known (λ log. asked_of job known.next log ≡ Ok request)
  pub new : request.repeats ≡ false
  pub needs : QuietReadied job old now request readied
  pub reads : IsCommit (commit_text (commit_actions job readied)) (commit_actions job readied)

-- What stands where a session has come to a point: behind the load what stood, and once its commit may be put its file besides. It
-- doesn't come to the rules again.
abbrev pub QuietAt : SinkJob → (old now : State) → Loaded → (tries : ℕ) → Point → Type 0
QuietAt job old now known tries (rules None) = (now ≡ old) × IsLoaded job.load.use_checkpoints old.0 known × (tries ≡ job.tries)
QuietAt job old now known tries (rules (Some readied)) = ⊥
QuietAt job old now known tries (ready readied) = QuietReady job old now known tries readied

-- how the puts of a commit end where no commit has their first version
abbrev pub QuietRace : CommitJob → (mid new : State) → Result CommitOutcome CommitFault → Type 0
QuietRace put mid new (Ok (outcomes.Committed version winners)) = (version ≡ put.version) × (version ≤ greatest_version) × (new ≡ (with_object mid.0 (commit_name version) put.bytes, mid.1))
QuietRace put mid new (Ok (outcomes.Conflicted version winners)) = ⊥
QuietRace put mid new (Ok (outcomes.Contended newest winners)) = ⊥
QuietRace put mid new (Err commit_faults.PastLimit) = (greatest_version < put.version) × (new ≡ mid)
QuietRace put mid new (Err (commit_faults.BadLog version)) = ⊥
QuietRace put mid new (Err (commit_faults.Lost version)) = ⊥
QuietRace put mid new (Err commit_faults.Memory) = new ≡ mid

-- no commit is put at a version that none can have
abbrev pub IsSmall : Asked → Type 0
IsSmall (put_commit version bytes) = version ≤ greatest_version
IsSmall asked = Unit {0}

-- so is each call of a talk
abbrev pub AllSmall : Talk → Type 0
AllSmall [] = Unit {0}
AllSmall (call ∷ talk) = IsSmall call.0 × AllSmall talk

one_small : (job : SinkJob) (before talk : Talk) (asked : Asked) → SinkAsks job before talk asked → IsSmall asked
one_small job before talk list_names asks = tt
one_small job before talk (get_object name) asks = tt
one_small job before talk (put_file name bytes) asks = tt
one_small job before talk (put_commit version bytes) asks = asks.1.holds.4

-- each call that a sink's session asks for is so
pub asked_small : (job : SinkJob) (before front talk : Talk) → AllAsked (SinkAsks job before) front talk → AllSmall talk
asked_small job before front [] asked = tt
asked_small job before front (call ∷ talk) asked = (one_small job before front call.0 asked.0, asked_small job before (front ++ call ∷ []) talk asked.1)

-- and each one behind others
pub small_behind : (front more : Talk) → AllSmall (front ++ more) → AllSmall more
small_behind [] more small = small
small_behind (call ∷ front) more small = small_behind front more small.1

-- so are the puts of a race behind the rest of its talk
pub race_small : (job : SinkJob) (before front race talk : Talk) → AllAsked (SinkAsks job before) [] talk → talk ≡ front ++ race → AllSmall race
race_small job before front race talk asked talked = small_behind front race (subst AllSmall talked (asked_small job before [] talk asked))

-- ---- talks over a store at rest

-- the calls of a talk were answered one part behind the other
pub talked_behind : (answers : State → Asked → Told → State → Type 0) (old new : State) (front more : Talk) → Talked answers old (front ++ more) new → (mid : State) × Talked answers old front mid × Talked answers mid more new
talked_behind answers old new [] more is = (old, refl, is)
talked_behind answers old new (call ∷ front) more is =
    let rest = talked_behind answers is.0 new front more is.2 in
    (rest.0, (is.0, is.1, rest.1), rest.2)

exists_stood : (found : Option (List ℕ)) → Exists ≡ told_of_put found → IsSome found
exists_stood None told = absurd cc
exists_stood (Some bytes) told = refl

created_free : (found : Option (List ℕ)) → Created ≡ told_of_put found → found ≡ None
created_free None told = refl
created_free (Some bytes) told = absurd cc

none_stands : (found : Option (List ℕ)) → found ≡ None → IsSome found → ⊥
none_stands None none some = absurd cc
none_stands (Some bytes) none some = cc

-- a name that a put found taken was taken, and nothing changed
found_taken : (old new : State) (name bytes : List ℕ) → AnswersPut old name bytes (told_put Exists) new → IsSome (object_at old.0 name) × (new ≡ old)
found_taken old new name bytes is =
    let some = exists_stood (object_at old.0 name) is.0 in
    let kept : new.0 ≡ old.0 = is.1.0 ∙ with_object_stands old.0 name bytes some in
    (some, λ i. (kept i, is.1.1 i))

-- a put that isn't known to have created something changed nothing
put_leaves : (old new : State) (name bytes : List ℕ) (told : Told) → told ≢ told_put Created → AnswersPut old name bytes told new → new ≡ old
put_leaves old new name bytes (told_names names) other is = absurd is
put_leaves old new name bytes (told_object found) other is = absurd is
put_leaves old new name bytes (told_put Created) other is = absurd (other refl)
put_leaves old new name bytes (told_put Exists) other is = (found_taken old new name bytes is).1
put_leaves old new name bytes told_lost other is = absurd is
put_leaves old new name bytes told_memory other is = λ i. (is.0 i, is.1 i)

-- nor did a get
get_leaves : (old new : State) (name : List ℕ) (told : Told) → Answers old (get_object name) told new → new ≡ old
get_leaves old new name (told_names names) is = absurd is
get_leaves old new name (told_object found) is = λ i. (is.1.0 i, is.1.1 i)
get_leaves old new name (told_put put) is = absurd is
get_leaves old new name told_lost is = absurd is
get_leaves old new name told_memory is = λ i. (is.0 i, is.1 i)

-- what reads are told here, they may be told of any store
read_may : (old new : State) (asked : Asked) (told : Told) → IsRead asked → Answers old asked told new → MayAnswer old asked told new
read_may old new list_names (told_names names) read is = is
read_may old new list_names (told_object found) read is = absurd is
read_may old new list_names (told_put put) read is = absurd is
read_may old new list_names told_lost read is = absurd is
read_may old new list_names told_memory read is = is
read_may old new (get_object name) (told_names names) read is = absurd is
read_may old new (get_object name) (told_object found) read is = is
read_may old new (get_object name) (told_put put) read is = absurd is
read_may old new (get_object name) told_lost read is = absurd is
read_may old new (get_object name) told_memory read is = is
read_may old new (put_file name bytes) told read is = absurd read
read_may old new (put_commit version bytes) told read is = absurd read

reads_may : (old new : State) (talk : Talk) → AllReads talk → Talked Answers old talk new → Talked MayAnswer old talk new
reads_may old new [] reads is = is
reads_may old new (call ∷ talk) reads is = (is.0, read_may old is.0 call.0 call.1 reads.0 is.1, reads_may is.0 new talk reads.1 is.2)

-- ---- races

-- versions that are taken are left as they were
taken_leaves : (version : ℕ) (bytes : List ℕ) (winners : List Winner) (old new : State) → Talked Answers old (taken version bytes winners) new → new ≡ old
taken_leaves version bytes [] old new is = is
taken_leaves version bytes (winner ∷ winners) old new is =
    let put = found_taken old is.0 (commit_name version) bytes is.1 in
    let got = get_leaves is.0 is.2.0 (commit_name version) (told_object (Some winner.bytes)) is.2.1 in
    taken_leaves (suc version) bytes winners is.2.0 new is.2.2 ∙ (got ∙ put.1)

-- where nothing stands at the first of them, there are none
taken_free : (version : ℕ) (bytes : List ℕ) (winners : List Winner) (behind : Talk) (old new : State) → object_at old.0 (commit_name version) ≡ None → Talked Answers old (taken version bytes winners ++ behind) new → winners ≡ []
taken_free version bytes [] behind old new free is = refl
taken_free version bytes (winner ∷ winners) behind old new free is =
    let put = found_taken old is.0 (commit_name version) bytes is.1 in
    absurd (none_stands (object_at old.0 (commit_name version)) free put.0)

-- how the puts of a commit go behind the winners that they met
module _ (put : CommitJob) (race : Talk) (mid new : State) (told : Talked Answers mid race new) where
  -- these left all as it was
  behind_winners : (version : ℕ) (commits : List (List Action)) (behind : Talk) → ComesTo put race version commits behind → Talked Answers mid behind new
  behind_winners version commits behind comes =
      let met = taken put.version put.bytes comes.winners in
      let parts = talked_behind Answers mid new met behind (subst (λ (t : Talk). Talked Answers mid t new) comes.told told) in
      let same : parts.0 ≡ mid = taken_leaves put.version put.bytes comes.winners mid parts.0 parts.1 in
      subst (λ (s : State). Talked Answers s behind new) same parts.2

  -- each put behind them is at a version that a commit can have
  small_last : (version : ℕ) (commits : List (List Action)) (behind : Talk) → AllSmall race → ComesTo put race version commits behind → AllSmall behind
  small_last version commits behind small comes = small_behind (taken put.version put.bytes comes.winners) behind (subst AllSmall comes.told small)

  -- where no commit has the first version, there were none
  at_first : object_at mid.0 (commit_name put.version) ≡ None → (version : ℕ) (commits : List (List Action)) (behind : Talk) → ComesTo put race version commits behind → version ≡ put.version
  at_first free version commits behind comes =
      let none = taken_free put.version put.bytes comes.winners behind mid new free (subst (λ (t : Talk). Talked Answers mid t new) comes.told told) in
      omega (arith, comes.at, ap length none)

  -- so that version isn't taken
  not_taken : object_at mid.0 (commit_name put.version) ≡ None → (version : ℕ) (commits : List (List Action)) (got : Told) → ComesTo put race version commits (got_told put version got) → ⊥
  not_taken free version commits got comes =
      let last = behind_winners version commits (got_told put version got) comes in
      let stood = (found_taken mid last.0 (commit_name version) put.bytes last.1).0 in
      let here : IsSome (object_at mid.0 (commit_name put.version)) = subst (λ (v : ℕ). IsSome (object_at mid.0 (commit_name v))) (at_first free version commits (got_told put version got) comes) stood in
      none_stands (object_at mid.0 (commit_name put.version)) free here

  -- what is unfinished changed nothing
  unfinished_leaves : (version : ℕ) (behind : Talk) → IsUnfinished put version behind → Talked Answers mid behind new → new ≡ mid
  unfinished_leaves version behind (inl none) is = subst (λ (t : Talk). Talked Answers mid t new) none is
  unfinished_leaves version behind (inr (inl (one, other, talked))) is =
      let last : Talked Answers mid (put_told_at put version one) new = subst (λ (t : Talk). Talked Answers mid t new) talked is in
      last.2 ∙ put_leaves mid last.0 (commit_name version) put.bytes one other last.1
  unfinished_leaves version behind (inr (inr (one, talked))) is =
      let last : Talked Answers mid (got_told put version one) new = subst (λ (t : Talk). Talked Answers mid t new) talked is in
      last.2.2 ∙ (get_leaves last.0 last.2.0 (commit_name version) one last.2.1 ∙ (found_taken mid last.0 (commit_name version) put.bytes last.1).1)

-- the puts of a commit where no commit has their first version
module _ (put : CommitJob) (before race : Talk) (mid new : State) (some : 1 ≤ put.tries) (free : put.version ≤ greatest_version → object_at mid.0 (commit_name put.version) ≡ None) (told : Talked Answers mid race new) where
  -- no winner conflicts
  no_conflict : (version : ℕ) (winners : Vec (Vec actions.Action Global) Global) → CommitEnds put before race (Ok (outcomes.Conflicted version winners)) → ⊥
  no_conflict version winners ends =
      let small : put.version ≤ greatest_version = omega (arith, ends.2.at, ends.5) in
      not_taken put race mid new told (free small) version ends.0 (told_object (Some ends.1.bytes)) ends.2

  -- where it isn't known that they created it, nothing changed
  pub quiet_undecided : IsUndecided put race → new ≡ mid
  quiet_undecided undecided = unfinished_leaves put race mid new told undecided.0 undecided.2 undecided.4 (behind_winners put race mid new told undecided.0 undecided.1 undecided.2 undecided.3)

  -- they create it at that version, or end without it
  pub quiet_race : AllSmall race → (outcome : Result CommitOutcome CommitFault) → CommitEnds put before race outcome → QuietRace put mid new outcome
  quiet_race small (Ok (outcomes.Committed version winners)) ends =
      let behind = put_told_at put version (told_put Created) in
      let last = behind_winners put race mid new told version _ behind ends in
      let fits : version ≤ greatest_version = (small_last put race mid new told version _ behind small ends).0 in
      let first : version ≡ put.version = at_first put race mid new told (free (omega (arith, ends.at, fits))) version _ behind ends in
      let landed : last.0 ≡ (with_object mid.0 (commit_name version) put.bytes, mid.1) = λ i. (last.1.1.0 i, last.1.1.1 i) in
      (first, fits, last.2 ∙ landed)
  quiet_race small (Ok (outcomes.Conflicted version winners)) ends = no_conflict version winners ends
  quiet_race small (Ok (outcomes.Contended newest winners)) ends =
      let met : 1 ≤ length ends.0.winners = omega (arith, ap length ends.0.won, length-map ends.0.winners (λ (winner : Winner). winner.commit), ends.1, some) in
      let first : suc newest ≡ put.version = at_first put race mid new told (free (omega (arith, ends.0.at, met, ends.2))) (suc newest) _ [] ends.0 in
      omega (arith, ends.0.at, met, first)
  quiet_race small (Err commit_faults.PastLimit) ends = (by_version (cases_lt greatest_version put.version), behind_winners put race mid new told ends.0 ends.1 [] ends.2)
    where
      by_version : (greatest_version < put.version) ⊎ (put.version ≤ greatest_version) → greatest_version < put.version
      by_version (inl past) = past
      by_version (inr fits) = let first = at_first put race mid new told (free fits) ends.0 ends.1 [] ends.2 in omega (arith, first, ends.4)
  quiet_race small (Err (commit_faults.BadLog version)) ends =
      let behind = got_told put version (told_object ends.1) in
      let fits : version ≤ greatest_version = (small_last put race mid new told version ends.0 behind small ends.2).0 in
      not_taken put race mid new told (free (omega (arith, ends.2.at, fits))) version ends.0 (told_object ends.1) ends.2
  quiet_race small (Err (commit_faults.Lost (Some version))) ends = (behind_winners put race mid new told version ends.0 (put_told_at put version told_lost) ends.1).1
  quiet_race small (Err (commit_faults.Lost None)) ends = (behind_winners put race mid new told ends.0 ends.1 (got_told put ends.0 told_lost) ends.2).2.1
  quiet_race small (Err commit_faults.Memory) ends = quiet_undecided ends

-- ---- points

-- no commit is named as a batch's file
commit_apart : (version : ℕ) (application : List ℕ) (number : ℕ) → commit_name version ≢ batch_file_name application number
unfolding batch_file_name
commit_apart version application number = commit_name-data_file_name version application number

-- no commit stands besides a batch's file where none stood
needs_free : (job : SinkJob) (old now : State) (request : SinkRequest) (readied : Readied) (version : ℕ) → QuietReadied job old now request readied → object_at old.0 (commit_name version) ≡ None → object_at now.0 (commit_name version) ≡ None
needs_free job old now request readied version needs free = by_task job.task needs
  where
    by_task : (task : SinkTask) → QuietReadied (record job { task = task }) old now request readied → object_at now.0 (commit_name version) ≡ None
    by_task (appends number items) is =
        ap (λ (s : State). object_at s.0 (commit_name version)) is.4
        ∙ (object_at-with_object_other old.0 (file_of job number) is.0 (commit_name version) (commit_apart version job.application number) ∙ free)
    by_task closes is = ap (λ (s : State). object_at s.0 (commit_name version)) is.1 ∙ free

-- a file that was put stands besides what stood, or one of the same rows stood there
module _ (name : List ℕ) (request : SinkRequest) (old now : State) where
  -- what is so of the file that was put, and of the size of the one that stands
  abbrev QuietFile : (size : ℕ) → Type 0
  QuietFile size = (file : List ℕ) × IsWrittenFor request.schema request.rows file × (unless_other_rows request.schema request.rows name (object_at old.0 name) ≡ Ok tt)
      × (readied_by request size ≡ readied_by request (size_behind file (object_at old.0 name))) × (now ≡ (with_object old.0 name file, old.1))

  quiet_file : (calls : Talk) (size : ℕ) → PutsFile name request calls size → Talked Answers old calls now → QuietFile size
  quiet_file calls size (anew file written) told =
      let none : object_at old.0 name ≡ None = created_free (object_at old.0 name) told.1.0 in
      let landed : told.0 ≡ (with_object old.0 name file, old.1) = λ i. (told.1.1.0 i, told.1.1.1 i) in (
        file,
        written,
        ap (λ (found : Option (List ℕ)). unless_other_rows request.schema request.rows name found) none,
        ap (λ (found : Option (List ℕ)). readied_by request (size_behind file found)) (sym none),
        told.2 ∙ landed,
      )
  quiet_file calls size (stood file bytes written same) told =
      let put = found_taken old told.0 name file told.1 in
      let landed : told.0 ≡ (with_object old.0 name file, old.1) = λ i. (told.1.1.0 i, told.1.1.1 i) in
      let found : object_at old.0 name ≡ Some bytes = ap (λ (s : State). object_at s.0 name) (sym put.1) ∙ sym told.2.1.0 in
      let left : told.2.0 ≡ told.0 = get_leaves told.0 told.2.0 name (told_object (Some bytes)) told.2.1 in (
        file,
        written,
        ap (λ (kept : Option (List ℕ)). unless_other_rows request.schema request.rows name kept) found ∙ ap (λ (b : Bool). refused_if {E = SinkRefusal} (not b) (differs name)) same,
        ap (λ (kept : Option (List ℕ)). readied_by request (size_behind file kept)) (sym found),
        told.2.2 ∙ (left ∙ landed),
      )

-- what was readied is so
needs_so : (job : SinkJob) (request : SinkRequest) (old now : State) (calls : Talk) (size : ℕ) → Readies job request calls size → Talked Answers old calls now → QuietReadied job old now request (readied_by request size)
needs_so job request old now calls size readied told = by_task job.task readied
  where
    by_task : (task : SinkTask) → Readies (record job { task = task }) request calls size → QuietReadied (record job { task = task }) old now request (readied_by request size)
    by_task (appends number items) puts = quiet_file (file_of job number) request old now calls size puts told
    by_task closes none = (ap (λ (s : ℕ). readied_by request s) none.1, subst (λ (t : Talk). Talked Answers old t now) none.0 told)

-- a load only reads
listed_reads : (talk : Talk) (names : List (List ℕ)) → HasListed talk names → AllReads talk
listed_reads talk names listed = subst AllReads (sym listed.talked) (tt, gets_read listed.gets listed.only)

-- the log is loaded
module _ (job : SinkJob) (before : Talk) (old : State) (is_loading : job.loads ≡ true) (bears : Bears old.0 before) (some : 1 ≤ job.tries) where
  -- no commit stands at the version behind the log that is known, nor once the batch's file stands
  pub quiet_free : (now : State) (known : Loaded) (tries : ℕ) (readied : Readied) → QuietReady job old now known tries readied → known.next ≤ greatest_version → object_at now.0 (commit_name known.next) ≡ None
  quiet_free now known tries readied is small =
      let next : known.next ≡ commit_count old.0 = is.is.next in
      let free = subst (λ (version : ℕ). version ≤ greatest_version → object_at old.0 (commit_name version) ≡ None) (sym next) (log_end old.0) in
      needs_free job old now is.request readied known.next is.needs (free small)

  -- where it has come to a point
  pub quiet_reaches : (talk : Talk) (known : Loaded) (tries : ℕ) (point : Point) → Reaches job before talk known tries point → (now : State) → Talked Answers old talk now → QuietAt job old now known tries point
  quiet_reaches talk known tries point (loaded _ _ fine loads load) now told =
      let reads = listed_reads talk load.names load.listed in
      let may = reads_may old now talk reads told in
      let here = reads_untouched old now talk reads may in
      (λ i. (here.0 i, here.1 i), load.whole old.0 bears (reads_shown old now talk reads may), refl)
  quiet_reaches talk known tries point (knew _ fine loads knows one) now told = absurd cc
  quiet_reaches talk known tries point (readies front calls _ _ _ request size reaches asked new readied reads talked) now told =
      let parts = talked_behind Answers old now front calls (subst (λ (t : Talk). Talked Answers old t now) talked told) in
      let at = quiet_reaches front known tries (rules None) reaches parts.0 parts.1 in
      let rest : Talked Answers old calls now = subst (λ (s : State). Talked Answers s calls now) at.0 parts.2 in
      record { request = request; is = at.1; given = at.2; asked = asked; new = new; needs = needs_so job request old now calls size readied rest; reads = reads }
  quiet_reaches talk known tries point (goes_on _ _ _ readied reaches asked) now told = absurd (quiet_reaches talk known tries (rules (Some readied)) reaches now told)
  quiet_reaches talk known tries point (conflicts front race _ first _ more left newest readied winners reaches few ends talked rest next front_known) now told =
      let parts = talked_behind Answers old now front race (subst (λ (t : Talk). Talked Answers old t now) talked told) in
      let at = quiet_reaches front first more (ready readied) reaches parts.0 parts.1 in
      no_conflict (race_of job readied first.next more) before race parts.0 now few (quiet_free parts.0 first more readied at) parts.2 newest winners ends
