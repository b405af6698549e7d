-- How many calls the talk of a sink's session has, and how many of them are puts of a commit that found their version taken.
use Rattle.std.proofs.Common.{◌≡◌, ◌∙◌, ◌+◌, ◌*◌, ◌≤◌, ℕ, suc, List, [], ◌∷◌, ◌++◌, length, length-append, append-nil, append_assoc, Bool, true, false, Option, Some, None, Result, Err, Vec, Global, refl, sym, ap, subst, inl, inr, arith}
use Rattle.std.proofs.lemmas.List.{length-map}
use Rattle.store_core.specs.declared.store.Put.TheVariants.{Created, Exists}
use Rattle.session_core.specs.Sessions.{AllAsked}
use Rattle.session_core.specs.Shown.{AllGets}
use Rattle.session_core.specs.Talks.{Asked, Told, Talk, list_names, get_object, put_file, put_commit, told_names, told_object, told_put, told_lost, told_memory}
use Rattle.delta_actions.specs.Action.{Action, views}
use Rattle.delta_actions.specs.declared.action.Action.{Action as CodeAction}
use Rattle.table_log.specs.LoadSessions.{HasListed}
use Rattle.table_log.specs.declared.loading.Loaded.{Loaded}
use Rattle.commit_core.specs.CommitSessions.{CommitJob, ComesTo, Winner, commits_view, got_told, taken}
use Rattle.commit_core.proofs.Callers.{came_by}
use Rattle.batch_core.specs.Requests.{SinkRequest}
use Rattle.batch_core.specs.declared.fault.SinkFault.{SinkFault}
use Rattle.batch_core.specs.declared.fault.SinkFault.TheVariants as faults
use Rattle.sink_core.specs.SinkLaws.{versions_taken}
use Rattle.sink_core.specs.SinkSessions.{AnswerEnds, LooksAt, Point, PutsFile, Reaches, Readied, Readies, SinkAsks, SinkJob, SinkTask, anew, appends, closes, conflicts, file_of, goes_on, knew, loaded, race_of, ready, repeated, rules, readies, stood}
use Rattle.sink_core.specs.SinkSessions as talks
use Rattle.sink_core.specs.declared.sink_state.SinkOutcome.{SinkOutcome}

-- ---- how many versions it tried

taken_both : (front more : Talk) → versions_taken (front ++ more) ≡ versions_taken front + versions_taken more
taken_both [] more = omega arith
taken_both ((list_names, told) ∷ front) more = taken_both front more
taken_both ((get_object name, told) ∷ front) more = taken_both front more
taken_both ((put_file name bytes, told) ∷ front) more = taken_both front more
taken_both ((put_commit version bytes, told_names names) ∷ front) more = taken_both front more
taken_both ((put_commit version bytes, told_object found) ∷ front) more = taken_both front more
taken_both ((put_commit version bytes, told_put Created) ∷ front) more = taken_both front more
taken_both ((put_commit version bytes, told_put Exists) ∷ front) more = omega (arith, taken_both front more)
taken_both ((put_commit version bytes, told_lost) ∷ front) more = taken_both front more
taken_both ((put_commit version bytes, told_memory) ∷ front) more = taken_both front more

-- a load tries none
gets_none : (gets : Talk) → AllGets gets → versions_taken gets ≡ 0
gets_none [] only = refl
gets_none ((list_names, told) ∷ gets) only = absurd only.0
gets_none ((get_object name, told) ∷ gets) only = gets_none gets only.1
gets_none ((put_file name bytes, told) ∷ gets) only = absurd only.0
gets_none ((put_commit version bytes, told) ∷ gets) only = absurd only.0

-- nor do the calls of a file
puts_none : (name : List ℕ) (request : SinkRequest) (calls : Talk) (size : ℕ) → PutsFile name request calls size → versions_taken calls ≡ 0
puts_none name request calls size (anew file written) = refl
puts_none name request calls size (stood file bytes written same) = refl

readies_none : (job : SinkJob) (request : SinkRequest) (calls : Talk) (size : ℕ) → Readies job request calls size → versions_taken calls ≡ 0
readies_none job request calls size readied = by_task job.task readied
  where
    by_task : (task : SinkTask) → Readies (record job { task = task }) request calls size → versions_taken calls ≡ 0
    by_task (appends number items) puts = puts_none (file_of job number) request calls size puts
    by_task closes none = ap versions_taken none.0

-- a race tries one for each winner, and that which it tries at last
winners_taken : (version : ℕ) (bytes : List ℕ) (winners : List Winner) → versions_taken (taken version bytes winners) ≡ length winners
winners_taken version bytes [] = refl
winners_taken version bytes (winner ∷ winners) = ap suc (winners_taken (suc version) bytes winners)

race_taken : (put : CommitJob) (race : Talk) (version : ℕ) (commits : List (List Action)) (behind : Talk) → ComesTo put race version commits behind → versions_taken race ≡ length commits + versions_taken behind
race_taken put race version commits behind comes =
    let gone = taken put.version put.bytes comes.winners in
    let won : length commits ≡ length comes.winners = ap (λ (cs : List (List Action)). length cs) comes.won ∙ length-map comes.winners (λ (winner : Winner). winner.commit) in
    ap versions_taken comes.told ∙ (taken_both gone behind
    ∙ ap (λ (n : ℕ). n + versions_taken behind) (winners_taken put.version put.bytes comes.winners ∙ sym won))

module _ (job : SinkJob) (before : Talk) where
  -- the tries that are left are those that weren't used
  reaches_taken : (talk : Talk) (known : Loaded) (tries : ℕ) (point : Point) → Reaches job before talk known tries point → versions_taken talk + tries ≡ job.tries
  reaches_taken talk known tries point (loaded _ _ fine loads load) =
      omega (arith, ap versions_taken load.listed.talked, gets_none load.listed.gets load.listed.only)
  reaches_taken talk known tries point (knew _ fine loads knows some) = omega arith
  reaches_taken talk known tries point (readies front calls _ _ _ request size reaches asked new readied reads talked) =
      omega (arith, reaches_taken front known tries (rules None) reaches, ap versions_taken talked, taken_both front calls, readies_none job request calls size readied)
  reaches_taken talk known tries point (goes_on _ _ _ readied reaches asked) = reaches_taken talk known tries (rules (Some readied)) reaches
  reaches_taken talk known tries point (conflicts front race _ old _ some left newest readied winners reaches few ends talked rest next front_known) =
      let put = race_of job readied old.next some in
      let tried = race_taken put race newest ends.0 (got_told put newest (told_object (Some ends.1.bytes))) ends.2 in
      let won : length (commits_view winners) ≡ length winners.items = length-map winners.items (λ (commit : Vec CodeAction Global). views commit.items) in
      omega (arith, reaches_taken front old some (ready readied) reaches, tried, won, rest, ap (λ (cs : List (List Action)). length cs) ends.4, length-append ends.0 (ends.1.commit ∷ []), ap versions_taken talked, taken_both front race)

  -- where it tells that it was contended, none are left
  contended_taken : (talk : Talk) (newest : ℕ) → AnswerEnds job before talk (Err (faults.Contended newest)) → versions_taken talk ≡ job.tries
  contended_taken talk newest (inl ready_for) = omega (arith, reaches_taken talk ready_for.0 0 (ready ready_for.1) ready_for.2)
  contended_taken talk newest (inr r) =
      let put = race_of job r.readied r.known.next r.tries in
      let tried = race_taken put r.race (suc newest) (commits_view r.holds.0) [] r.holds.1.0 in
      omega (arith, reaches_taken r.front r.known r.tries (ready r.readied) r.reaches, tried, r.holds.1.1, ap versions_taken r.talked, taken_both r.front r.race)

  pub all_tried : (talk : Talk) (answer : Result SinkOutcome SinkFault) (newest : ℕ) → AnswerEnds job before talk answer → answer ≡ Err (faults.Contended newest) → versions_taken talk ≡ job.tries
  all_tried talk answer newest ends is = contended_taken talk newest (subst (λ (a : Result SinkOutcome SinkFault). AnswerEnds job before talk a) is ends)

-- ---- how many calls it makes

-- the names that a talk begins with
abbrev names_first : Talk → List (List ℕ)
names_first [] = []
names_first ((asked, told_names names) ∷ talk) = names
names_first (call ∷ talk) = []

-- Calls of the load, at most: where the log is loaded it lists the names, and gets no more objects than those.
abbrev of_load : (loads : Bool) → Talk → ℕ
of_load true talk = suc (length (names_first talk))
of_load false talk = 0

load_listed : (loads : Bool) (talk : Talk) (names : List (List ℕ)) → loads ≡ true → HasListed talk names → of_load loads talk ≡ suc (length names)
load_listed loads talk names is listed = ap (λ (l : Bool). of_load l talk) is ∙ ap (λ (t : Talk). of_load true t) listed.talked

-- more calls leave room for no fewer
load_grows : (loads : Bool) (front more : Talk) → of_load loads front ≤ of_load loads (front ++ more)
load_grows false front more = omega arith
load_grows true [] more = omega arith
load_grows true ((asked, told_names names) ∷ front) more = omega arith
load_grows true ((asked, told_object found) ∷ front) more = omega arith
load_grows true ((asked, told_put put) ∷ front) more = omega arith
load_grows true ((asked, told_lost) ∷ front) more = omega arith
load_grows true ((asked, told_memory) ∷ front) more = omega arith

-- calls for the batch's file, at most: one puts it, and one looks at what stands
abbrev of_file : Point → ℕ
of_file (rules None) = 0
of_file (rules (Some readied)) = 2
of_file (ready readied) = 2

rules_two : (old : Option Readied) → of_file (rules old) ≤ 2
rules_two None = omega arith
rules_two (Some readied) = omega arith

puts_two : (name : List ℕ) (request : SinkRequest) (calls : Talk) (size : ℕ) → PutsFile name request calls size → length calls ≤ 2
puts_two name request calls size (anew file written) = omega arith
puts_two name request calls size (stood file bytes written same) = omega arith

readies_two : (job : SinkJob) (request : SinkRequest) (calls : Talk) (size : ℕ) → Readies job request calls size → length calls ≤ 2
readies_two job request calls size readied = by_task job.task readied
  where
    by_task : (task : SinkTask) → Readies (record job { task = task }) request calls size → length calls ≤ 2
    by_task (appends number items) puts = puts_two (file_of job number) request calls size puts
    by_task closes none = omega (arith, ap (λ (t : Talk). length t) none.0)

-- whether the last call is the put of a commit; without a call it is as before
abbrev is_commit : Asked → Bool
is_commit (put_commit version bytes) = true
is_commit asked = false

abbrev commit_last : (before : Bool) → Talk → Bool
commit_last before [] = before
commit_last before (call ∷ talk) = commit_last (is_commit call.0) talk

commit_end : (before : Bool) (front : Talk) (asked : Asked) (told : Told) → commit_last before (front ++ (asked, told) ∷ []) ≡ is_commit asked
commit_end before [] asked told = refl
commit_end before (call ∷ front) asked told = commit_end (is_commit call.0) front asked told

module _ (job : SinkJob) (before : Talk) where
  -- a talk that is another one with more calls
  talk_longer : (talk front more : Talk) → talk ≡ front ++ more → (length talk ≡ length front + length more) × (of_load job.loads front ≤ of_load job.loads talk)
  talk_longer talk front more is = (
    ap (λ (t : Talk). length t) is ∙ length-append front more,
    subst (λ (t : Talk). of_load job.loads front ≤ of_load job.loads t) (sym is) (load_grows job.loads front more),
  )

  -- to a point it comes with the calls of its load, of its file, and two for each version that was tried
  reaches_few : (talk : Talk) (known : Loaded) (tries : ℕ) (point : Point) → Reaches job before talk known tries point → length talk + 2 * tries ≤ of_load job.loads talk + 2 * job.tries + of_file point
  reaches_few talk known tries point (loaded _ _ fine loads load) =
      omega (arith, ap (λ (t : Talk). length t) load.listed.talked, load.few, load_listed job.loads talk load.names loads load.listed)
  reaches_few talk known tries point (knew _ fine loads knows some) = omega arith
  reaches_few talk known tries point (readies front calls _ _ _ request size reaches asked new readied reads talked) =
      let longer = talk_longer talk front calls talked in
      omega (arith, reaches_few front known tries (rules None) reaches, readies_two job request calls size readied, longer.0, longer.1)
  reaches_few talk known tries point (goes_on _ _ _ readied reaches asked) = reaches_few talk known tries (rules (Some readied)) reaches
  reaches_few talk known tries point (conflicts front race _ old _ some left newest readied winners reaches few ends talked rest next front_known) =
      let longer = talk_longer talk front race talked in
      let put = race_of job readied old.next some in
      let calls = came_by put before race newest ends.0 (got_told put newest (told_object (Some ends.1.bytes))) ends.2 in
      let won : length (commits_view winners) ≡ length winners.items = length-map winners.items (λ (commit : Vec CodeAction Global). views commit.items) in
      omega (arith, reaches_few front old some (ready readied) reaches, calls, won, rest, ap (λ (cs : List (List Action)). length cs) ends.4, length-append ends.0 (ends.1.commit ∷ []), longer.0, longer.1)

  -- so many calls it makes at most
  abbrev most : Talk → ℕ
  most talk = of_load job.loads talk + 2 * job.tries + 3

  -- and one more looks at a file
  looks_few : (talk : Talk) (name : List ℕ) (request : SinkRequest) → LooksAt job before talk name request → suc (length talk) ≤ most talk
  looks_few talk name request (repeated _ number _ is) = omega (arith, reaches_few talk is.known is.tries (rules is.old) is.reaches, rules_two is.old)
  looks_few talk name request (talks.taken front _ number _ file is written talked) =
      let longer = talk_longer talk front ((put_file (file_of job number) file, told_put Exists) ∷ []) talked in
      omega (arith, reaches_few front is.known is.tries (rules None) is.reaches, longer.0, longer.1)

  -- a call more stays within it, and behind the put of a commit one more does
  asks_few : (talk : Talk) (asked : Asked) → SinkAsks job before talk asked → (commit_last false talk ≡ true → suc (length talk) ≤ most talk)
      → (suc (length talk) ≤ most talk) × (is_commit asked ≡ true → suc (suc (length talk)) ≤ most talk)
  asks_few talk list_names (fine, asks) room = (omega (arith, ap (λ (t : Talk). length t) asks.1), (λ e. absurd cc))
  asks_few talk (get_object name) (fine, inl asks) room =
      let asks_for = asks.1 in
      (omega (arith, asks_for.fewer, load_listed job.loads talk asks_for.names asks.0 asks_for.listed, ap (λ (t : Talk). length t) asks_for.listed.talked), (λ e. absurd cc))
  asks_few talk (get_object name) (fine, inr (inl looks)) room = (looks_few talk name looks.0 looks.1, (λ e. absurd cc))
  asks_few talk (get_object name) (fine, inr (inr r)) room =
      let comes = r.holds.2 in
      let job_put = race_of job r.readied r.known.next r.tries in
      let put : Asked = put_commit r.holds.0 job_put.bytes in
      let gone = taken job_put.version job_put.bytes comes.winners in
      let ends : commit_last false talk ≡ true =
      ap (commit_last false) (r.talked ∙ (ap (λ (t : Talk). r.front ++ t) comes.told ∙ sym (append_assoc r.front gone ((put, told_put Exists) ∷ []))))
      ∙ commit_end false (r.front ++ gone) put (told_put Exists) in
      (room ends, (λ e. absurd cc))
  asks_few talk (put_file name bytes) (fine, puts) room = (omega (arith, reaches_few talk puts.is.known puts.is.tries (rules None) puts.is.reaches), (λ e. absurd cc))
  asks_few talk (put_commit version bytes) (fine, r) room =
      let put = race_of job r.readied r.known.next r.tries in
      let front = reaches_few r.front r.known r.tries (ready r.readied) r.reaches in
      let calls = came_by put before r.race version r.holds.0 [] r.holds.1 in
      let longer = talk_longer talk r.front r.race r.talked in
      let two : suc (suc (length talk)) ≤ most talk = omega (arith, front, calls, r.holds.3, longer.0, longer.1) in
      (omega (arith, two), λ e. two)

  all_few : (front talk : Talk) → AllAsked (SinkAsks job before) front talk → length front ≤ most front → (commit_last false front ≡ true → suc (length front) ≤ most front) → length (front ++ talk) ≤ most (front ++ talk)
  all_few front [] asked few room = subst (λ (t : Talk). length t ≤ most t) (sym (append-nil front)) few
  all_few front (call ∷ talk) asked few room =
      let more = asks_few front call.0 asked.0 room in
      let longer = talk_longer (front ++ call ∷ []) front (call ∷ []) refl in
      subst (λ (t : Talk). length t ≤ most t) (append_assoc front (call ∷ []) talk)
      (all_few (front ++ call ∷ []) talk asked.1 (omega (arith, longer.0, longer.1, more.0)) (λ e. omega (arith, longer.0, longer.1, more.1 (sym (commit_end false front call.0 call.1) ∙ e))))

  -- the calls of its load, two for a file, two for each try, and one look at a file
  talk_few : (talk : Talk) → AllAsked (SinkAsks job before) [] talk → length talk ≤ most talk
  talk_few talk asked = all_few [] talk asked (omega arith) (λ e. absurd cc)

-- the names, no more objects than names, and the rest
pub sink_few : (job : SinkJob) (before talk rest : Talk) (names : List (List ℕ)) → AllAsked (SinkAsks job before) [] talk → talk ≡ (list_names, told_names names) ∷ rest → length talk ≤ length names + 2 * job.tries + 4
sink_few job before talk rest names asked is = omega (arith, talk_few job before talk asked, of_names job.loads)
  where
    of_names : (loads : Bool) → of_load loads talk ≤ suc (length names)
    of_names true = omega (arith, ap (λ (t : Talk). length (names_first t)) is)
    of_names false = omega arith

-- the rest alone, where it loads nothing
pub knowing_few : (job : SinkJob) (before talk : Talk) → AllAsked (SinkAsks job before) [] talk → job.loads ≡ false → length talk ≤ 2 * job.tries + 3
knowing_few job before talk asked is = omega (arith, talk_few job before talk asked, ap (λ (loads : Bool). of_load loads talk) is)
