-- The version that comes next by the talk of a stream's session: that behind what it knows of the log, and behind the winners of a race.
use Rattle.std.proofs.Common.{◌≡◌, ◌∙◌, ◌+◌, ◌<◌, ℕ, suc, if◌then◌else◌, List, [], ◌∷◌, ◌++◌, length, Bool, Some, None, refl, sym, ap, arith}
use Rattle.session_core.specs.Shown.{AllGets}
use Rattle.session_core.specs.Talks.{Talk, list_names, get_object, put_file, put_commit, Told, told_names, told_object, told_put, told_lost, told_memory}
use Rattle.store_core.specs.declared.store.Put.TheVariants.{Created, Exists}
use Rattle.delta_actions.specs.Action.{Action}
use Rattle.table_log.specs.Counts.{count_in}
use Rattle.table_log.specs.LoadSessions.{HasListed}
use Rattle.table_log.specs.declared.loading.Loaded.{Loaded}
use Rattle.commit_core.specs.CommitSessions.{CommitJob, ComesTo, Winner, got_told, taken}
use Rattle.batch_core.specs.Requests.{SinkRequest}
use Rattle.sink_core.specs.SinkSessions.{InRace, Point, PutsFile, Reaches, Readies, SinkJob, SinkTask, anew, appends, closes, conflicts, file_of, goes_on, knew, loaded, race_of, ready, rules, readies, stood}
use Rattle.session_laws.specs.Rows.{next_after_talk, next_of_stream}

-- ---- talks

pub next_both : (next : ℕ) (front more : Talk) → next_after_talk next (front ++ more) ≡ next_after_talk (next_after_talk next front) more
next_both next [] more = refl
next_both next ((list_names, told_names names) ∷ front) more = next_both _ front more
next_both next ((list_names, told_object found) ∷ front) more = next_both next front more
next_both next ((list_names, told_put put) ∷ front) more = next_both next front more
next_both next ((list_names, told_lost) ∷ front) more = next_both next front more
next_both next ((list_names, told_memory) ∷ front) more = next_both next front more
next_both next ((get_object name, told) ∷ front) more = next_both next front more
next_both next ((put_file name bytes, told) ∷ front) more = next_both next front more
next_both next ((put_commit version bytes, told_names names) ∷ front) more = next_both next front more
next_both next ((put_commit version bytes, told_object found) ∷ front) more = next_both next front more
next_both next ((put_commit version bytes, told_put Created) ∷ front) more = next_both next front more
next_both next ((put_commit version bytes, told_put Exists) ∷ front) more = next_both (suc version) front more
next_both next ((put_commit version bytes, told_lost) ∷ front) more = next_both next front more
next_both next ((put_commit version bytes, told_memory) ∷ front) more = next_both next front more

-- gets leave it
pub gets_next : (next : ℕ) (gets : Talk) → AllGets gets → next_after_talk next gets ≡ next
gets_next next [] only = refl
gets_next next ((list_names, told) ∷ gets) only = absurd only.0
gets_next next ((get_object name, told) ∷ gets) only = gets_next next gets only.1
gets_next next ((put_file name bytes, told) ∷ gets) only = absurd only.0
gets_next next ((put_commit version bytes, told) ∷ gets) only = absurd only.0

-- a get, and the put of a file
pub get_next : (next : ℕ) (front : Talk) (name : List ℕ) (told : Told) → next_after_talk next (front ++ (get_object name, told) ∷ []) ≡ next_after_talk next front
get_next next front name told = next_both next front ((get_object name, told) ∷ [])

pub file_next : (next : ℕ) (front : Talk) (name bytes : List ℕ) (told : Told) → next_after_talk next (front ++ (put_file name bytes, told) ∷ []) ≡ next_after_talk next front
file_next next front name bytes told = next_both next front ((put_file name bytes, told) ∷ [])

-- behind a load it is the version behind the newest that was listed, whichever came next before
pub listed_next : (next : ℕ) (talk : Talk) (names : List (List ℕ)) → (listed : HasListed talk names) → next_after_talk next talk ≡ count_in names
listed_next next talk names listed = ap (next_after_talk next) listed.talked ∙ gets_next (count_in names) listed.gets listed.only

-- ---- the calls of a file

puts_next : (name : List ℕ) (request : SinkRequest) (calls : Talk) (size next : ℕ) → PutsFile name request calls size → next_after_talk next calls ≡ next
puts_next name request calls size next (anew file written) = refl
puts_next name request calls size next (stood file bytes written same) = refl

readies_next : (job : SinkJob) (request : SinkRequest) (calls : Talk) (size next : ℕ) → Readies job request calls size → next_after_talk next calls ≡ next
readies_next job request calls size next readied = by_task job.task readied
  where
    by_task : (task : SinkTask) → Readies (record job { task = task }) request calls size → next_after_talk next calls ≡ next
    by_task (appends number items) puts = puts_next (file_of job number) request calls size next puts
    by_task closes none = ap (next_after_talk next) none.0

-- ---- races

-- behind winners it is the version behind the last of them
winners_next : (version : ℕ) (bytes : List ℕ) (winners : List Winner) → next_after_talk version (taken version bytes winners) ≡ version + length winners
winners_next version bytes [] = omega arith
winners_next version bytes (winner ∷ winners) = omega (arith, winners_next (suc version) bytes winners)

-- a race that has come to a version, from the one that comes next
pub race_next : (next : ℕ) (put : CommitJob) (front race behind : Talk) (version : ℕ) (commits : List (List Action)) → put.version ≡ next_after_talk next front → (comes : ComesTo put race version commits behind)
    → next_after_talk next (front ++ race) ≡ next_after_talk version behind
race_next next put front race behind version commits from comes =
    let met = taken put.version put.bytes comes.winners in
    next_both next front race
    ∙ (ap (λ (n : ℕ). next_after_talk n race) (sym from)
    ∙ (ap (next_after_talk put.version) comes.told
    ∙ (next_both put.version met behind
    ∙ ap (λ (n : ℕ). next_after_talk n behind) (winners_next put.version put.bytes comes.winners ∙ sym comes.at))))

-- ---- points

module _ (job : SinkJob) (before : Talk) where
  -- the version that comes next where nothing was asked for
  abbrev first_next : ℕ
  first_next = next_of_stream job []

  -- What is known of the log ends below the version that comes next.
  pub reaches_next : (talk : Talk) (known : Loaded) (tries : ℕ) (point : Point) → Reaches job before talk known tries point → known.next ≡ next_of_stream job talk
  reaches_next talk known tries point (loaded _ _ fine loads load) = load.next ∙ sym (listed_next first_next talk load.names load.listed)
  reaches_next talk known tries point (knew _ fine unloaded knows some) = sym knows.so_many ∙ sym (ap (λ (loads : Bool). if loads then 0 else job.load.known) unloaded)
  reaches_next talk known tries point (readies front calls _ _ _ request size reaches asked new readied reads talked) =
      reaches_next front known tries (rules None) reaches
      ∙ (sym (readies_next job request calls size (next_of_stream job front) readied)
      ∙ (sym (next_both first_next front calls) ∙ ap (next_of_stream job) (sym talked)))
  reaches_next talk known tries point (goes_on _ _ _ readied reaches asked) = reaches_next talk known tries (rules (Some readied)) reaches
  reaches_next talk known tries point (conflicts front race _ old _ some left newest readied winners reaches few ends talked rest next front_known) =
      let told = told_object (Some ends.1.bytes) in
      let put = race_of job readied old.next some in
      let from = reaches_next front old some (ready readied) reaches in
      next ∙ (sym (race_next first_next put front race (got_told put newest told) newest ends.0 from ends.2) ∙ ap (next_of_stream job) (sym talked))

  -- Some version is known.
  pub reaches_some : (talk : Talk) (known : Loaded) (tries : ℕ) (point : Point) → Reaches job before talk known tries point → 0 < known.next
  reaches_some talk known tries point (loaded _ _ fine loads load) = omega (arith, load.some, load.next)
  reaches_some talk known tries point (knew _ fine unloaded knows some) = some
  reaches_some talk known tries point (readies front calls _ _ _ request size reaches asked new readied reads talked) = reaches_some front known tries (rules None) reaches
  reaches_some talk known tries point (goes_on _ _ _ readied reaches asked) = reaches_some talk known tries (rules (Some readied)) reaches
  reaches_some talk known tries point (conflicts front race _ old _ some left newest readied winners reaches few ends talked rest next front_known) = omega (arith, next)

  -- where its puts have come to a version, that follows from the talk
  pub in_race_next : (talk : Talk) (P : CommitJob → Talk → Type 0) (r : InRace job before talk P) (version : ℕ) (commits : List (List Action)) (behind : Talk)
      → ComesTo (race_of job r.readied r.known.next r.tries) r.race version commits behind → next_of_stream job talk ≡ next_after_talk version behind
  in_race_next talk P r version commits behind comes =
      ap (next_of_stream job) r.talked ∙ race_next first_next (race_of job r.readied r.known.next r.tries) r.front r.race behind version commits (reaches_next r.front r.known r.tries (ready r.readied) r.reaches) comes
