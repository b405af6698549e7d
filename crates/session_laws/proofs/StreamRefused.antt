-- Why a stream's session does nothing more: what it tells is so of the table, of the rules over the commits that are known, or of its talk.
use Rattle.std.proofs.Common.{◌≡◌, ◌∙◌, ◌⊎◌, ◌<◌, ◌≤◌, ℕ, suc, List, [], ◌∷◌, ◌++◌, true, false, Option, Some, None, Result, Ok, Err, IsSome, append_assoc, inl, inr, refl, sym, ap, ap₂, subst, arith}
use Rattle.std.specs.Str.{IsUtf8}
use Rattle.serde_json.specs.Data.{Items}
use Rattle.outcomes.specs.Results.{◌>>=◌, refused_as}
use Rattle.store_core.specs.Objects.{Objects, object_at}
use Rattle.store_core.specs.declared.store.Put.TheVariants.{Exists}
use Rattle.store_core.specs.Names.{greatest_version}
use Rattle.session_core.specs.Talks.{Bears, Talk, get_object, put_file, told_lost, told_object, told_put}
use Rattle.session_core.proofs.Callers.{bears_more}
use Rattle.schema_tree.specs.Tree.{Tree}
use Rattle.source_core.specs.ParquetFile.{KeepsLimits}
use Rattle.delta_actions.specs.Action.{Action}
use Rattle.delta_actions.specs.Names.{data_file_name}
use Rattle.delta_replay.specs.Closes.{is_closed}
use Rattle.delta_replay.specs.Support.{Unsupported, writable}
use Rattle.table_log.specs.Versions.{commits_in, versions_from}
use Rattle.table_log.specs.declared.loading.Loaded.{Loaded}
use Rattle.table_model.specs.Appends.{TellsAppend}
use Rattle.table_model.specs.Lawful.{IsLawful}
use Rattle.table_model.specs.Table.{Batch, Entry}
use Rattle.table_model.specs.declared.table.AppendAnswer.{AppendAnswer}
use Rattle.table_model.specs.declared.table.AppendAnswer.TheVariants as appended
use Rattle.table_store.specs.Holds.{FileStands, Holds, Stands}
use Rattle.table_store.specs.Schema.{Schema, IsFileOf}
use Rattle.commit_core.specs.SoundStores.{IsSoundStore}
use Rattle.table_store.proofs.HoldingSchema.{only_table}
use Rattle.sink_core.proofs.ReachLemmas.{reaches_fine}
use Rattle.commit_core.specs.CommitSessions.{ComesTo, CommitEnds, CommitJob, HoldsOfCommit, commits_view, put_told_at, taken}
use Rattle.commit_core.specs.declared.commit_fault.CommitFault.{CommitFault}
use Rattle.commit_core.specs.declared.commit_state.CommitOutcome.{CommitOutcome}
use Rattle.commit_core.specs.declared.commit_state.CommitOutcome.TheVariants as outcomes
use Rattle.commit_core.proofs.Callers.{bears_end, bears_front}
use Rattle.batch_core.specs.Refusals.{SinkRefusal, read_only, sink_refusal_view, stale, stream_closed}
use Rattle.batch_core.specs.Requests.{SinkRequest, close_behind, has_same, numbered_behind, request_behind}
use Rattle.batch_core.specs.declared.fault.SinkFault.TheVariants as faults
use Rattle.batch_core.specs.RowsIn.{rows_from}
use Rattle.batch_core.proofs.Callers.{IsOfNumber, asked_parts, close_parts, reads_as_file, refused_parts}
use Rattle.sink_core.specs.SinkSessions as sinks
use Rattle.sink_core.specs.SinkSessions.{AnswerEnds, HasLooked, HoldsOf, LooksAt, Point, Reaches, SinkJob, SinkTask, appends, asked_of, closes, file_of, race_of, ready, repeated, rules, tell_metadata}
use Rattle.session_laws.specs.Rows.{GotNone, HasLargeFile, HasOtherFile, IsBatchOf, LosesCommit, RulesSay, TellsOfBatch, name_of, next_of_stream}
use Rattle.session_laws.proofs.Entries.{batch_file}
use Rattle.session_laws.proofs.Fronts.{IsKnownFront, reached_front}
use Rattle.session_laws.proofs.NextVersions.{in_race_next, reaches_next, reaches_some}
use Rattle.session_laws.proofs.PlainWinners.{plain_commits}
use Rattle.session_laws.proofs.Ready.{batch_by, file_named, ruled_batch}
use Rattle.session_laws.proofs.TableAnswers.{again_answer, closed_answer, stale_answer, written_front}

-- a close isn't refused for a number
close_of_number : (next : ℕ) (log : List (List Action)) (application : List ℕ) (why : SinkRefusal) → IsOfNumber why → close_behind next log application ≡ Err why → ⊥
unfolding close_behind
close_of_number next log application why of is = by_table (writable log) is
  where
    made : Tree → SinkRequest
    made schema = record { version = next; schema = schema; rows = []; repeats = is_closed application log }

    by_table : (table : Result Tree Unsupported) → (refused_as read_only table >>= λ (schema : Tree). Ok (made schema)) ≡ Err why → ⊥
    by_table (Ok schema) told = absurd cc
    by_table (Err fault) told = let same : read_only fault ≡ why = cc in subst IsOfNumber (sym same) of

-- what is asked for is of a table that is written by its schema
pub asked_written : (job : SinkJob) (next : ℕ) (log : List (List Action)) (request : SinkRequest) → asked_of job next log ≡ Ok request → writable log ≡ Ok request.schema
asked_written job next log request asked = by_task job.task asked
  where
    by_task : (task : SinkTask) → asked_of (record job { task = task }) next log ≡ Ok request → writable log ≡ Ok request.schema
    by_task (appends number items) is = (asked_parts next log job.application number items request is).0.written
    by_task closes is = (close_parts next log job.application request is).0

-- one task has one number and one list of items
same_items : (number other : ℕ) (items others : Items) → appends number items ≡ appends other others → items ≡ others
same_items number other items others is = cc

module _ (objects : Objects) (schema : Schema) (entries : List Entry) (sound : IsSoundStore objects) (holds : Holds objects schema entries) (job : SinkJob) (before : Talk) (known_before : Bears objects before) (talk : Talk) (borne : Bears objects talk) where
  -- ---- by the rules

  abbrev known_here : (known : Loaded) (tries : ℕ) (point : Point) → Reaches job before talk known tries point → IsKnownFront objects schema entries known
  known_here known tries point reaches = reached_front objects schema entries sound holds job before talk known tries point known_before borne reaches

  -- the rules say it of the commits that were listed, or known, and of the winners that were read
  pub ruled : (known : Loaded) (tries : ℕ) (point : Point) (reaches : Reaches job before talk known tries point) (said : Result SinkRequest SinkRefusal) → HoldsOf known (λ log. asked_of job known.next log ≡ said) → RulesSay objects job talk said
  ruled known tries point reaches said says =
      let here = known_here known tries point reaches in
      let next = reaches_next job before talk known tries point reaches in
      let some = reaches_some job before talk known tries point reaches in
      record {
        seen = reaches_fine job before talk known tries point reaches;
        log = here.log;
        stand = (subst (λ (n : ℕ). 0 < n) next some, subst (λ (n : ℕ). commits_in 0 (versions_from n 0 objects) ≡ Ok here.log) next here.front.read);
        says = subst (λ (n : ℕ). asked_of job n here.log ≡ said) next (says here.log here.snapshot);
      }

  -- a refusal for a number is one of a batch, and so of the table
  numbered_tells : (known : Loaded) (tries : ℕ) (point : Point) (reaches : Reaches job before talk known tries point) (why : SinkRefusal) → IsOfNumber why → HoldsOf known (λ log. asked_of job known.next log ≡ Err why) → (answer : AppendAnswer)
      → ((here : IsKnownFront objects schema entries known) (b : Batch) → b.application ≡ job.application → numbered_behind here.log b.application b.number ≡ Err why → TellsAppend answer b entries) → TellsOfBatch schema entries job answer
  numbered_tells known tries point reaches why of says answer tells = by_task job.task refl
    where
      here : IsKnownFront objects schema entries known
      here = known_here known tries point reaches

      by_task : (task : SinkTask) → job.task ≡ task → TellsOfBatch schema entries job answer
      by_task closes is =
          absurd (close_of_number known.next here.log job.application why of (subst (λ (t : SinkTask). asked_of (record job { task = t }) known.next here.log ≡ Err why) is (says here.log here.snapshot)))
      by_task (appends number items) is =
          let asked : request_behind known.next here.log job.application number items ≡ Err why = subst (λ (t : SinkTask). asked_of (record job { task = t }) known.next here.log ≡ Err why) is (says here.log here.snapshot) in
          let parts = refused_parts known.next here.log job.application number items why of asked in
          let same : parts.0 ≡ schema = written_front objects schema entries known.next here.log here.front parts.0 parts.2.written in
          let b = batch_by job number parts.1 in
          let of_job : IsBatchOf schema job b = record { items = items; task = is; application = refl; spelled = subst (λ (t : Tree). rows_from 0 t items ≡ Ok parts.1) same parts.2.spelled } in
          (b, of_job, tells here b refl parts.3)

  -- a greater number stands
  pub stale_tells : (last : ℕ) → AnswerEnds job before talk (Err (faults.Stale last)) → TellsOfBatch schema entries job (appended.Stale last)
  stale_tells last (old, is) =
      numbered_tells is.known is.tries (rules old) is.reaches (stale last) tt (λ log of. (is.says log of).1) (appended.Stale last)
      (λ here b own told. stale_answer objects schema entries is.known.next here.log here.front b last told)

  -- the stream is closed, and all its numbers are below
  pub stream_closed_tells : IsUtf8 job.application → AnswerEnds job before talk (Err faults.StreamClosed) → TellsOfBatch schema entries job appended.StreamClosed × IsLawful entries
  stream_closed_tells text (old, is) = (
    numbered_tells is.known is.tries (rules old) is.reaches stream_closed tt (λ log of. (is.says log of).1) appended.StreamClosed
        (λ here b own told. closed_answer objects schema entries is.known.next here.log here.front b (subst IsUtf8 (sym own) text) told),
    subst IsLawful (only_table objects sound.table.schema schema sound.table.entries entries sound.table.lawful.begins sound.table.holds holds) sound.table.lawful,
  )

  -- its file would be too large
  pub file_too_large_tells : AnswerEnds job before talk (Err faults.FileTooLarge) → HasLargeFile objects job talk
  file_too_large_tells ends = record { request = ends.request; ruled = ruled ends.is.known ends.is.tries (rules None) ends.is.reaches (Ok ends.request) ends.is.asked; new = ends.is.new; large = ends.large }

  -- ---- another file

  -- what was looked at stands, under the name of the job's batch
  record IsLookedAt (name : List ℕ) (request : SinkRequest) : Type 0 where
    number : ℕ
    schema_is : request.schema ≡ schema
    of_job : IsBatchOf schema job (batch_by job number request.rows)
    named : name ≡ name_of (batch_by job number request.rows)
    stands : IsSome (object_at objects name)

  looked_stands : (front : Talk) (name : List ℕ) (request : SinkRequest) → Bears objects front → LooksAt job before front name request → IsLookedAt name request
  looked_stands front name request own (repeated _ number _ is) =
      let own_batch = ruled_batch objects schema entries sound holds job before front known_before own is.known is.tries (rules is.old) is.reaches number is.items request is.task is.asked in
      let b = batch_by job number request.rows in
      let last = again_answer objects schema entries is.known.next own_batch.front.log own_batch.front.front b (own_batch.numbered_so ∙ ap (λ r. Ok r) is.again) in
      let there : FileStands objects schema last.batch = batch_file objects schema 0 own_batch.front.front.firsts last.batch own_batch.front.front.stand last.stands in
      let name_is : data_file_name last.batch.application last.batch.number ≡ file_of job number = ap₂ data_file_name last.application_is last.number_is ∙ sym (file_named job.application number) in
      let stands : object_at objects (file_of job number) ≡ Some there.0 = ap (object_at objects) (sym name_is) ∙ there.1 in
      record { number = number; schema_is = own_batch.schema_is; of_job = own_batch.of_job; named = file_named job.application number; stands = rw stands refl }
  looked_stands front name request own (sinks.taken begun _ number _ file is written talked) =
      let call : Talk = (put_file (file_of job number) file, told_put Exists) ∷ [] in
      let both = subst (Bears objects) talked own in
      let own_batch = ruled_batch objects schema entries sound holds job before begun known_before (bears_front objects begun call both) is.known is.tries (rules None) is.reaches number is.items request is.task is.asked in
      record {
        number = number;
        schema_is = own_batch.schema_is;
        of_job = own_batch.of_job;
        named = file_named job.application number;
        stands = (bears_more objects begun (put_file (file_of job number) file) (told_put Exists) both).1;
      }

  -- what was found there isn't a file of the batch's rows, or nothing was found
  other_found : (front : Talk) (name : List ℕ) (request : SinkRequest) (found : Option (List ℕ)) → talk ≡ front ++ (get_object name, told_object found) ∷ [] → has_same request.schema request.rows found ≡ false → request.schema ≡ schema
      → GotNone talk name ⊎ Stands objects name (λ bytes. KeepsLimits bytes request.rows → IsFileOf schema bytes request.rows → ⊥)
  other_found front name request None talked other same = inl (front, talked)
  other_found front name request (Some bytes) talked other same =
      let stands = (bears_more objects front (get_object name) (told_object (Some bytes)) (subst (Bears objects) talked borne)).1 in
      inr (
        bytes,
        stands,
        λ limits file.
            let alike : has_same schema request.rows (Some bytes) ≡ true = reads_as_file schema request.rows bytes file.within file.file limits in
            let wrong : true ≡ false = sym alike ∙ subst (λ (t : Schema). has_same t request.rows (Some bytes) ≡ false) same other in
            absurd cc,
      )

  pub differs_tells : (name : List ℕ) (request : SinkRequest) → HasLooked job before talk name request false → HasOtherFile objects schema job talk name
  differs_tells name request looked =
      let own = bears_front objects looked.front ((get_object name, told_object looked.found) ∷ []) (subst (Bears objects) looked.talked borne) in
      let at = looked_stands looked.front name request own looked.looks in
      record { batch = batch_by job at.number request.rows; of_job = at.of_job; named = at.named; stands = at.stands; why = other_found looked.front name request looked.found looked.talked looked.is at.schema_is }

  -- ---- the schema

  -- no winner has a metadata
  pub schema_tells : ((put : CommitJob) (race : Talk) (result : Result CommitOutcome CommitFault) → Bears objects race → CommitEnds put before race result → HoldsOfCommit objects put result) → (version : ℕ) → AnswerEnds job before talk (Err (faults.SchemaChanged version)) → ⊥
  schema_tells tells version ends =
      let r = ends.1 in
      let put = race_of job r.readied r.known.next r.tries in
      let winners = r.holds.1 in
      let raced = bears_end objects r.front r.race (subst (Bears objects) r.talked borne) in
      let held = tells put r.race (Ok (outcomes.Conflicted r.holds.0 winners)) raced r.holds.2 in
      let some : 0 < r.known.next = reaches_some job before r.front r.known r.tries (ready r.readied) r.reaches in
      let last : r.holds.0 ≤ greatest_version = r.holds.2.5 in
      let plain : tell_metadata (commits_view winners) ≡ false = plain_commits objects sound.table r.known.next (commits_view winners) some (omega (arith, held.1, last)) held.0 in
      let wrong : true ≡ false = sym r.holds.3 ∙ plain in
      absurd cc

  -- ---- its talk

  -- no version is left
  pub too_large_tells : AnswerEnds job before talk (Err faults.TooLarge) → (sinks.fine job ≡ Err (sink_refusal_view faults.TooLarge)) ⊎ (greatest_version < next_of_stream job talk)
  too_large_tells (inl large) = inl large.1
  too_large_tells (inr r) =
      let next : next_of_stream job talk ≡ r.holds.0 = in_race_next job before talk _ r r.holds.0 r.holds.1 [] r.holds.2 in
      inr (subst (λ (n : ℕ). greatest_version < n) (sym next) r.holds.4)

  -- the put of its commit was lost
  pub lost_tells : (version : ℕ) → AnswerEnds job before talk (Err (faults.Lost (Some version))) → LosesCommit talk version
  lost_tells version r =
      let put = race_of job r.readied r.known.next r.tries in
      let comes : ComesTo put r.race version r.holds.0 (put_told_at put version told_lost) = r.holds.1 in
      let met = taken put.version put.bytes comes.winners in
      (r.front ++ met, put.bytes, r.talked ∙ (ap (λ (t : Talk). r.front ++ t) comes.told ∙ sym (append_assoc r.front met (put_told_at put version told_lost))))

  -- the version that it tells at last is the one in front of the next
  pub contended_next : (newest : ℕ) → AnswerEnds job before talk (Err (faults.Contended newest)) → next_of_stream job talk ≡ suc newest
  contended_next newest (inl (known, readied, reaches, next)) = sym (reaches_next job before talk known 0 (ready readied) reaches) ∙ next
  contended_next newest (inr r) = in_race_next job before talk _ r (suc newest) _ [] r.holds.1.0
