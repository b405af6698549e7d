-- Which commit a stream's session lacks, and what it tells at all.
use Rattle.std.proofs.Common.{◌≡◌, ◌∙◌, ℕ, suc, List, [], ◌∷◌, ◌++◌, true, false, Some, None, Result, Ok, Err, append_assoc, inl, inr, refl, sym, ap, subst, arith, string_bytes}
use Rattle.std.specs.Str.{IsUtf8}
use Rattle.store_core.specs.Objects.{AreBytes, Objects}
use Rattle.store_core.specs.declared.store.Put.TheVariants.{Exists}
use Rattle.session_core.specs.Sessions.{AllAsked}
use Rattle.session_core.specs.Talks.{Asked, Bears, Talk, get_object, put_commit, told_object, told_put}
use Rattle.session_core.specs.Shown.{AllGets}
use Rattle.delta_actions.specs.Names as names
use Rattle.store_core.specs.Names.{commit_name}
use Rattle.table_log.specs.LoadSessions.{HasListed, LoadAsks}
use Rattle.table_model.specs.Table.{Entry}
use Rattle.table_store.specs.Holds.{Holds}
use Rattle.table_store.specs.Schema.{Schema}
use Rattle.table_store.proofs.Callers.{commit_name-data_file_name}
use Rattle.commit_core.specs.SoundStores.{IsSoundStore}
use Rattle.commit_core.proofs.Callers.{asked_last}
use Rattle.commit_core.specs.CommitSessions.{CommitEnds, CommitJob, ComesTo, HoldsOfCommit, got_told, put_told_at, taken}
use Rattle.commit_core.specs.declared.commit_fault.CommitFault.{CommitFault}
use Rattle.commit_core.specs.declared.commit_state.CommitOutcome.{CommitOutcome}
use Rattle.batch_core.specs.Refusals.{sink_refusal_view}
use Rattle.batch_core.specs.Requests.{SinkRequest}
use Rattle.batch_core.specs.declared.fault.SinkFault.{SinkFault}
use Rattle.batch_core.specs.declared.fault.SinkFault.TheVariants as faults
use Rattle.sink_core.specs.SinkSessions as sinks
use Rattle.sink_core.specs.SinkSessions.{AnswerEnds, LooksAt, SinkAsks, SinkJob, race_of, repeated, rules}
use Rattle.sink_core.specs.declared.sink_state.SinkOutcome.{SinkOutcome}
use Rattle.sink_core.specs.declared.sink_state.SinkOutcome.TheVariants.{Already, AlreadyClosed, Closed, Committed}
use Rattle.sink_core.proofs.SinkCounts.{all_tried}
use Rattle.session_laws.specs.Rows.{LacksCommit, MayTellOfStream, next_of_stream}
use Rattle.session_laws.proofs.NextVersions.{in_race_next}
use Rattle.session_laws.proofs.Lacks.{begins_with_list, listed_front, load_lacks, winner_lacks}
use Rattle.session_laws.proofs.Ready.{file_named}
use Rattle.session_laws.proofs.StreamRefused.{contended_next, differs_tells, file_too_large_tells, lost_tells, ruled, schema_tells, stale_tells, stream_closed_tells, too_large_tells}
use Rattle.session_laws.proofs.StreamTold.{already_closed_tells, already_tells, closed_tells, committed_tells}

-- ---- talks

-- of a talk whose calls were all asked for, so were those of its front
pub asked_front : (asks : Talk → Asked → Type 0) (first front more : Talk) → AllAsked asks first (front ++ more) → AllAsked asks first front
asked_front asks first [] more asked = tt
asked_front asks first (call ∷ front) more asked = (asked.0, asked_front asks (first ++ call ∷ []) front more asked.1)

-- gets are no puts
gets_no_put : (front more : Talk) (version : ℕ) (bytes : List ℕ) → AllGets (front ++ (put_commit version bytes, told_put Exists) ∷ more) → ⊥
gets_no_put [] more version bytes only = only.0
gets_no_put (call ∷ front) more version bytes only = gets_no_put front more version bytes only.1

-- a load puts nothing
load_no_put : (talk front more : Talk) (names : List (List ℕ)) (version : ℕ) (bytes : List ℕ) → HasListed talk names → talk ≡ front ++ (put_commit version bytes, told_put Exists) ∷ more → ⊥
load_no_put talk [] more names version bytes listed is = let wrong : true ≡ false = ap begins_with_list (sym listed.talked ∙ is) in absurd cc
load_no_put talk (call ∷ front) more names version bytes listed is =
    let both = sym listed.talked ∙ is in
    let rest : listed.gets ≡ front ++ (put_commit version bytes, told_put Exists) ∷ more = cc in
    gets_no_put front more version bytes (subst AllGets rest listed.only)

-- no commit has the name of a batch's file
other_name : (version : ℕ) (application : List ℕ) (number : ℕ) → commit_name version ≡ names.data_file_name application number → ⊥
other_name version application number is = commit_name-data_file_name version application number is

module _ (job : SinkJob) (before : Talk) where
  -- what is looked at is a file
  looks_at_file : (front : Talk) (name : List ℕ) (request : SinkRequest) → LooksAt job before front name request → (number : ℕ) × (name ≡ names.data_file_name job.application number)
  looks_at_file front name request (repeated _ number _ is) = (number, file_named job.application number)
  looks_at_file front name request (sinks.taken begun _ number _ file is written talked) = (number, file_named job.application number)

  -- behind the names that were listed, and gets alone, a commit is asked for by the load
  load_asked : (front : Talk) (names : List (List ℕ)) (version : ℕ) → HasListed front names → SinkAsks job before front (get_object (commit_name version)) → LoadAsks job.load before front (get_object (commit_name version))
  load_asked front listed_names version listed (fine, inl asks) = asks.1
  load_asked front listed_names version listed (fine, inr (inl (request, looks))) =
      let file = looks_at_file front (commit_name version) request looks in
      absurd (other_name version job.application file.0 file.1)
  load_asked front listed_names version listed (fine, inr (inr r)) =
      let put = race_of job r.readied r.known.next r.tries in
      let comes : ComesTo put r.race r.holds.0 r.holds.1 (put_told_at put r.holds.0 (told_put Exists)) = r.holds.2 in
      let met = taken put.version put.bytes comes.winners in
      let call : Talk = put_told_at put r.holds.0 (told_put Exists) in
      let whole : front ≡ (r.front ++ met) ++ call = r.talked ∙ (ap (λ (t : Talk). r.front ++ t) comes.told ∙ sym (append_assoc r.front met call)) in
      absurd (load_no_put front (r.front ++ met) [] listed_names r.holds.0 put.bytes listed whole)

-- ---- a commit that is lacked

module _ (objects : Objects) (sound : IsSoundStore objects) (job : SinkJob) (before talk : Talk) (borne : Bears objects talk) (asked : AllAsked (SinkAsks job before) [] talk) where
  pub lacks_tells : (version : ℕ) → AnswerEnds job before talk (Err (faults.BadLog version)) → LacksCommit (next_of_stream job talk) talk version
  lacks_tells version (inl bad) =
      load_lacks objects sound talk borne (next_of_stream job []) job.load before version (λ front found talked.
      let last = asked_last (SinkAsks job before) [] front (get_object (commit_name version), told_object found) (subst (AllAsked (SinkAsks job before) []) talked asked) in
      load_asked job before front bad.1.names version (listed_front talk front bad.1.names (commit_name version) found bad.1.listed talked) last) bad.1
  lacks_tells version (inr r) =
      let put = race_of job r.readied r.known.next r.tries in
      let found = r.holds.1 in
      let comes : ComesTo put r.race version r.holds.0 (got_told put version (told_object found)) = r.holds.2 in
      let met = taken put.version put.bytes comes.winners in
      let first : Talk = (put_commit version put.bytes, told_put Exists) ∷ [] in
      let last : Talk = (get_object (commit_name version), told_object found) ∷ [] in
      let whole : talk ≡ (r.front ++ met) ++ (first ++ last) = r.talked ∙ (ap (λ (t : Talk). r.front ++ t) comes.told ∙ sym (append_assoc r.front met (first ++ last))) in
      let parts : talk ≡ ((r.front ++ met) ++ first) ++ last = whole ∙ sym (append_assoc (r.front ++ met) first last) in
      let asks = asked_last (SinkAsks job before) [] (r.front ++ met) (put_commit version put.bytes, told_put Exists) (asked_front (SinkAsks job before) [] ((r.front ++ met) ++ first) last (subst (AllAsked (SinkAsks job before) []) parts asked)) in
      let next : next_of_stream job talk ≡ suc version = in_race_next job before talk _ r version r.holds.0 (got_told put version (told_object found)) comes in
      winner_lacks objects sound talk borne (next_of_stream job talk) version ((r.front ++ met) ++ first) found asks.1.holds.4 (omega (arith, next)) parts r.holds.3

-- ---- whatever is told

module _ (objects : Objects) (schema : Schema) (entries : List Entry) (sound : IsSoundStore objects) (are : AreBytes objects) (holds : Holds objects schema entries) (job : SinkJob) (before : Talk) (known_before : Bears objects before)
    (tells : (put : CommitJob) (race : Talk) (result : Result CommitOutcome CommitFault) → Bears objects race → CommitEnds put before race result → HoldsOfCommit objects put result) (talk : Talk) (borne : Bears objects talk)
    (asked : AllAsked (SinkAsks job before) [] talk) (text : IsUtf8 job.application) where
  pub stream_tells : (answer : Result SinkOutcome SinkFault) → AnswerEnds job before talk answer → MayTellOfStream objects schema entries job talk answer
  stream_tells (Ok (Committed version)) ends = committed_tells objects schema entries sound are holds job before known_before tells talk borne asked version ends
  stream_tells (Ok (Already number)) ends = already_tells objects schema entries sound are holds job before known_before tells talk borne asked number ends
  stream_tells (Ok (Closed version)) ends = (ends.0, closed_tells objects schema entries sound are holds job before known_before tells talk borne asked text version ends)
  stream_tells (Ok AlreadyClosed) ends = (ends.0, already_closed_tells objects schema entries sound are holds job before known_before tells talk borne asked text ends)
  stream_tells (Err (faults.Stale last)) ends = stale_tells objects schema entries sound holds job before known_before talk borne last ends
  stream_tells (Err faults.StreamClosed) ends = stream_closed_tells objects schema entries sound holds job before known_before talk borne text ends
  stream_tells (Err (faults.Differs name)) ends = differs_tells objects schema entries sound holds job before known_before talk borne (string_bytes name) ends.0 ends.1
  stream_tells (Err (faults.Contended newest)) ends = (all_tried job before talk (Err (faults.Contended newest)) newest ends refl, contended_next objects schema entries sound holds job before known_before talk borne newest ends)
  stream_tells (Err (faults.Lost (Some version))) ends = lost_tells objects schema entries sound holds job before known_before talk borne version ends
  stream_tells (Err (faults.Lost None)) ends = ends
  stream_tells (Err (faults.BadLog version)) ends = lacks_tells objects sound job before talk borne asked version ends
  stream_tells (Err (faults.ReadOnly fault)) ends = ruled objects schema entries sound holds job before known_before talk borne ends.1.known ends.1.tries (rules ends.0) ends.1.reaches (Err (sink_refusal_view (faults.ReadOnly fault))) ends.1.says
  stream_tells (Err (faults.BadRow index fault)) ends =
      ruled objects schema entries sound holds job before known_before talk borne ends.1.known ends.1.tries (rules ends.0) ends.1.reaches (Err (sink_refusal_view (faults.BadRow index fault))) (λ log of. (ends.1.says log of).1)
  stream_tells (Err faults.BadApp) ends = ends.1
  stream_tells (Err faults.TooLarge) ends = too_large_tells objects schema entries sound holds job before known_before talk borne ends
  stream_tells (Err faults.FileTooLarge) ends = file_too_large_tells objects schema entries sound holds job before known_before talk borne ends
  stream_tells (Err (faults.SchemaChanged version)) ends = schema_tells objects schema entries sound holds job before known_before talk borne tells version ends
  stream_tells (Err faults.Memory) ends = tt
