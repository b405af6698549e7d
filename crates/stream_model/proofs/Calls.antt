-- What sessions ask for is good in a sound store that bears their talk, and what is answered is borne.
use Rattle.std.proofs.Common.{◌≡◌, ◌∙◌, ◌<◌, ℕ, zero, suc, List, [], ◌∷◌, ◌++◌, length, Option, Some, None, Contains, refl, sym, ap, subst, arith}
use Rattle.std.specs.Prelude.{slice_get, unwrap_or}
use Rattle.outcomes.specs.Bytes.{IsBytes}
use Rattle.serde_json.specs.Data.{Items}
use Rattle.store_core.specs.Calls.{StandsAfter, put_told}
use Rattle.store_core.specs.Objects.{Objects, object_at, with_object}
use Rattle.store_core.specs.ObjectLaws.{listed_iff_stands, object_at-with_object_kept, object_at-with_object_same}
use Rattle.store_core.specs.Names.{commit_name}
use Rattle.session_core.specs.Talks.{Asked, Bears, IsBorne, Talk, Told, get_object, list_names, put_commit, put_file, told_lost, told_memory, told_object}
use Rattle.delta_actions.specs.Commit.{IsCommit}
use Rattle.table_log.specs.LoadSessions.{LoadJob}
use Rattle.table_model.specs.Table.{Entry}
use Rattle.table_store.specs.Holds.{Holds}
use Rattle.table_store.specs.Schema.{Schema}
use Rattle.log_laws.specs.Sound.{IsSoundStore}
use Rattle.batch_core.specs.Committing.{batch_actions}
use Rattle.sink_core.specs.SinkSessions.{Point, Reaches, SinkAsks, SinkJob, SinkTask, appends, closes}
use Rattle.session_laws.specs.May.{MayAsk}
use Rattle.session_laws.specs.Jobs.{IsValidJob, Asks, Job, checkpoints, creates, loads, reads, streams}
use Rattle.session_laws.specs.Rows.{IsBatchOf, IsJobCommit}
use Rattle.session_laws.specs.Moves.{Does, HasAsked, asks}
use Rattle.session_core.proofs.Callers.{asked_more}
use Rattle.session_laws.proofs.Callers.{batch_commit, close_commit, reached_front, reaches_some, bears_front}
use Rattle.stream_model.specs.Events.{Event, IsOfBytes}
use Rattle.stream_model.specs.Puts.{HasTable, IsGoodPut, IsCommitMade, Submitted, WasBegun, a_checkpoint, a_commit, a_file}
use Rattle.stream_model.specs.Puts as made
use Rattle.session_core.specs.CallEffects.{left_by_call, told_by_call}
use Rattle.stream_model.specs.Worlds.{IsBegunAs}
use Rattle.stream_model.proofs.Begun.{batch_begun}

-- ---- what is asked for

-- a call's put is good, and of bytes
abbrev pub IsGoodCall : List Event → Objects → Asked → Type 0
IsGoodCall events objects (put_file name bytes) = IsGoodPut events objects name bytes × IsBytes bytes
IsGoodCall events objects (put_commit version bytes) = IsGoodPut events objects (commit_name version) bytes × IsBytes bytes
IsGoodCall events objects asked = Unit {0}

module _ (events : List Event) (objects : Objects) (schema : Schema) (entries : List Entry) (sound : IsSoundStore objects) (holds : Holds objects schema entries) where
  -- where a stream has come to a point, a table stands
  some_table : (job : SinkJob) (before talk : Talk) (earlier : Bears objects before) (borne : Bears objects talk) → {known : _} {tries : ℕ} {point : Point} → Reaches job before talk known tries point → HasTable objects schema
  some_table job before talk earlier borne {known = known} {tries = tries} {point = point} reaches =
      let front = (reached_front objects schema entries sound holds job before talk known tries point earlier borne reaches).front in
      by_firsts front.firsts front.later front.split (omega (arith, front.long, reaches_some job before talk known tries point reaches)) holds
    where
      by_firsts : (firsts later : List Entry) → entries ≡ firsts ++ later → 0 < length firsts → Holds objects schema entries → HasTable objects schema
      by_firsts [] later split long held = absurd (omega (arith, long))
      by_firsts (first ∷ rest) later split long held = (first, rest ++ later, subst (Holds objects schema) split held)

  module _ (job : SinkJob) (load : LoadJob) (begun : WasBegun events (streams job)) (well : IsValidJob (streams job)) (before talk : Talk) (earlier : Bears objects before) (borne : Bears objects talk) where
    -- the job with what its session knew of the log
    abbrev job_begun : SinkJob
    job_begun = record job { load = load }

    same_number : (number other : ℕ) (items others : Items) → appends number items ≡ appends other others → number ≡ other
    same_number number other items others is = cc

    -- it is an item of itself
    own_item : Contains (job ∷ []) job
    own_item = (0, omega arith, refl)

    submitted : Submitted events job
    submitted = (streams job, begun, own_item)

    -- what its commit holds
    commit_made : HasTable objects schema → (version : ℕ) (bytes : List ℕ) → IsJobCommit objects schema job_begun bytes → IsCommitMade events objects version bytes
    commit_made table version bytes commit = by_task job.task refl commit
      where
        by_task : (task : SinkTask) → job.task ≡ task → IsJobCommit objects schema (record job_begun { task = task }) bytes → IsCommitMade events objects version bytes
        by_task (appends number items) is (b, of_job, file) =
            let task : job.task ≡ appends b.number of_job.items = is ∙ of_job.task in
            let number_is : number ≡ b.number = same_number number b.number items of_job.items of_job.task in
            let own : IsBatchOf schema job b = record { items = of_job.items; task = task; application = of_job.application; spelled = of_job.spelled } in
            let reads : IsCommit bytes (batch_actions b.application b.number job.at (length file.0) (length b.rows)) =
            subst (λ (n : ℕ). IsCommit bytes (batch_actions b.application n job.at (length file.0) (length b.rows))) number_is
            (subst (λ (a : List ℕ). IsCommit bytes (batch_actions a number job.at (length file.0) (length b.rows))) (sym of_job.application) file.2.1.1) in
            made.appends schema (streams job) (b ∷ []) table begun ((job, own_item, own), tt) (batch_commit schema b job.at (length file.0) bytes reads) ((file.0, file.1, file.2.0), tt)
        by_task closes is text = made.closes schema job submitted is (close_commit schema job.application job.at bytes well.0 text.1)

    stream_good : (asked : Asked) → SinkAsks job_begun before talk asked → MayAsk objects schema (streams job_begun) talk asked → IsOfBytes asked → IsGoodCall events objects asked
    stream_good list_names asks_so may of_bytes = tt
    stream_good (get_object name) asks_so may of_bytes = tt
    stream_good (put_file name bytes) asks_so may of_bytes =
        let file = may.1 in
        (a_file schema (some_table job_begun before talk earlier borne asks_so.1.is.reaches) (job, submitted, (file.0, batch_begun schema job load file.0 file.1, file.2, file.3, file.4)) may.2, of_bytes)
    stream_good (put_commit version bytes) asks_so may of_bytes =
        let r = asks_so.1 in
        let table = some_table job_begun before r.front earlier (bears_front objects r.front r.race (subst (Bears objects) r.talked borne)) r.reaches in
        (a_commit version refl may.1.0 (commit_made table version bytes may.2), of_bytes)

  -- Whatever a session asks for is good.
  pub call_good : (job begun : Job) → WasBegun events job → IsBegunAs job begun → (before talk : Talk) → Bears objects before → Bears objects talk → (asked : Asked) → Does begun before talk (asks asked) → MayAsk objects schema begun talk asked → IsOfBytes asked
      → IsGoodCall events objects asked
  call_good job begun was same before talk earlier borne list_names does may of_bytes = tt
  call_good job begun was same before talk earlier borne (get_object name) does may of_bytes = tt
  call_good (streams job) begun was same before talk earlier borne (put_file name bytes) does may of_bytes =
      stream_good job same.0 was was.0.0 before talk earlier borne (put_file name bytes) (subst (λ (j : Job). Asks j before talk (put_file name bytes)) same.2 does.0) (subst (λ (j : Job). MayAsk objects schema j talk (put_file name bytes)) same.2 may) of_bytes
  call_good (streams job) begun was same before talk earlier borne (put_commit version bytes) does may of_bytes =
      stream_good job same.0 was was.0.0 before talk earlier borne (put_commit version bytes) (subst (λ (j : Job). Asks j before talk (put_commit version bytes)) same.2 does.0)
      (subst (λ (j : Job). MayAsk objects schema j talk (put_commit version bytes)) same.2 may) of_bytes
  call_good (checkpoints job) begun was same before talk earlier borne (put_file name bytes) does may of_bytes =
      let put = subst (λ (j : Job). MayAsk objects schema j talk (put_file name bytes)) same.2 may in
      (a_checkpoint put.0 put.1 put.2, of_bytes)
  call_good (checkpoints job) begun was same before talk earlier borne (put_commit version bytes) does may of_bytes = absurd (subst (λ (j : Job). MayAsk objects schema j talk (put_commit version bytes)) same.2 may)
  call_good (creates job) begun was same before talk earlier borne (put_file name bytes) does may of_bytes = absurd (subst (λ (j : Job). MayAsk objects schema j talk (put_file name bytes)) same may)
  call_good (creates job) begun was same before talk earlier borne (put_commit version bytes) does may of_bytes =
      let asks_so = subst (λ (j : Job). Asks j before talk (put_commit version bytes)) same does.0 in
      let put = subst (λ (j : Job). MayAsk objects schema j talk (put_commit version bytes)) same may in
      (a_commit version refl put.0.0 (made.creates job was asks_so.0 put.1), of_bytes)
  call_good (loads job) begun was same before talk earlier borne (put_file name bytes) does may of_bytes = absurd (subst (λ (j : Job). MayAsk objects schema j talk (put_file name bytes)) same.2 may)
  call_good (loads job) begun was same before talk earlier borne (put_commit version bytes) does may of_bytes = absurd (subst (λ (j : Job). MayAsk objects schema j talk (put_commit version bytes)) same.2 may)
  call_good (reads job) begun was same before talk earlier borne (put_file name bytes) does may of_bytes = absurd (subst (λ (j : Job). MayAsk objects schema j talk (put_file name bytes)) same.1 may)
  call_good (reads job) begun was same before talk earlier borne (put_commit version bytes) does may of_bytes = absurd (subst (λ (j : Job). MayAsk objects schema j talk (put_commit version bytes)) same.1 may)

-- ---- what is answered

-- of a lost call, and of one without memory, nothing is said
pub lost_borne : (objects : Objects) (asked : Asked) → IsBorne objects asked told_lost
lost_borne objects list_names = tt
lost_borne objects (get_object name) = tt
lost_borne objects (put_file name bytes) = tt
lost_borne objects (put_commit version bytes) = tt

pub memory_borne : (objects : Objects) (asked : Asked) → IsBorne objects asked told_memory
memory_borne objects list_names = tt
memory_borne objects (get_object name) = tt
memory_borne objects (put_file name bytes) = tt
memory_borne objects (put_commit version bytes) = tt

-- behind a put its object stands
put_borne : (objects : Objects) (name bytes : List ℕ) → StandsAfter (put_told (object_at objects name)) bytes (object_at (with_object objects name bytes) name)
put_borne objects name bytes = by_old (object_at objects name) refl
  where
    by_old : (old : Option (List ℕ)) → object_at objects name ≡ old → StandsAfter (put_told old) bytes (object_at (with_object objects name bytes) name)
    by_old None is = object_at-with_object_same objects name bytes ∙ ap (λ (o : Option (List ℕ)). Some (unwrap_or o bytes)) is
    by_old (Some kept) is = rw (object_at-with_object_kept objects name bytes name kept is) refl

got_borne : (objects : Objects) (name : List ℕ) (found : Option (List ℕ)) → object_at objects name ≡ found → IsBorne objects (get_object name) (told_object found)
got_borne objects name None is = tt
got_borne objects name (Some bytes) is = is

-- What a call that takes effect tells is borne by what it leaves.
pub told_borne : (objects : Objects) (asked : Asked) → IsBorne (left_by_call objects asked) asked (told_by_call objects asked)
told_borne objects list_names = λ name has. (listed_iff_stands objects name).0 has
told_borne objects (get_object name) = got_borne objects name (object_at objects name) refl
told_borne objects (put_file name bytes) = put_borne objects name bytes
told_borne objects (put_commit version bytes) = put_borne objects (commit_name version) bytes

-- ---- talks

-- what a session has heard is borne, and was asked for
pub heard_so : ((objects : Objects) (talk more : Talk) → Bears objects talk → Bears objects more → Bears objects (talk ++ more))
    → (objects : Objects) (job : Job) (before talk : Talk) (asked : Asked) (told : Told) → Bears objects talk → HasAsked job before talk → IsBorne objects asked told → Asks job before talk asked
    → Bears objects (talk ++ (asked, told) ∷ []) × HasAsked job before (talk ++ (asked, told) ∷ [])
heard_so bears_both objects job before talk asked told borne all one own = (bears_both objects talk ((asked, told) ∷ []) borne (one, tt), asked_more (Asks job before) [] talk asked told all own)

-- ---- places

pub got_one : {A : Type 0} (xs : List A) (place : ℕ) (x : A) → slice_get xs place ≡ Some x → Contains xs x
got_one [] place x is = absurd cc
got_one {A = A} (y ∷ xs) zero x is =
    let same : y ≡ x = cc in
    (0, omega arith, same)
got_one (y ∷ xs) (suc place) x is =
    let later = got_one xs place x is in
    (suc later.0, omega (arith, later.1), later.2)
