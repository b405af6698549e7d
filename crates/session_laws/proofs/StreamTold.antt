-- What a stream's session tells that was done, or stands already, is so of the table.
use Rattle.std.proofs.Common.{◌≡◌, ◌∙◌, ◌≤◌, ℕ, List, [], ◌∷◌, ◌++◌, true, Option, Some, None, Result, Ok, Contains, Vec, Global, append_assoc, inl, refl, sym, ap, ap₂, subst, arith}
use Rattle.std.specs.Str.{IsUtf8}
use Rattle.store_core.specs.Objects.{AreBytes, Objects, object_at}
use Rattle.store_core.specs.declared.store.Put.TheVariants.{Created}
use Rattle.store_core.specs.Names.{commit_name, greatest_version}
use Rattle.session_core.specs.Sessions.{AllAsked}
use Rattle.session_core.specs.Talks.{Bears, Talk, get_object, put_commit, told_object, told_put}
use Rattle.row_core.specs.Rows.{Row}
use Rattle.delta_actions.specs.Commit.{IsCommit}
use Rattle.delta_actions.specs.Names.{data_file_name}
use Rattle.delta_actions.specs.declared.action.Action.{Action as CodeAction}
use Rattle.table_model.specs.Appends.{TellsClose}
use Rattle.table_model.specs.Table.{Batch, Entry, batches, close, group}
use Rattle.table_model.specs.declared.table.AppendAnswer.TheVariants as appended
use Rattle.table_model.specs.declared.table.Closing.TheVariants as closed
use Rattle.table_model.proofs.Callers.{batch_lasts, batch_told}
use Rattle.table_store.specs.Holds.{FileStands, Holds, Stands}
use Rattle.table_store.specs.Schema.{Schema, IsFileOf}
use Rattle.table_store.proofs.Callers.{files_stand}
use Rattle.table_store.proofs.HoldingOne.{one_file, one_object}
use Rattle.commit_core.specs.SoundStores.{IsSoundStore}
use Rattle.commit_core.proofs.Callers.{asked_last}
use Rattle.commit_core.specs.Commits.{commit_text}
use Rattle.commit_core.specs.CommitSessions.{CommitEnds, CommitJob, ComesTo, HoldsOfCommit, commits_view, put_told_at, taken}
use Rattle.commit_core.specs.declared.commit_fault.CommitFault.{CommitFault}
use Rattle.commit_core.specs.declared.commit_state.CommitOutcome.{CommitOutcome}
use Rattle.commit_core.specs.declared.commit_state.CommitOutcome.TheVariants as outcomes
use Rattle.commit_core.proofs.Callers.{bears_end, bears_front}
use Rattle.batch_core.specs.Requests.{close_behind, has_same}
use Rattle.batch_core.proofs.Callers.{close_parts}
use Rattle.sink_core.specs.SinkSessions.{AnswerEnds, InRace, SinkAsks, SinkJob, SinkTask, commit_actions, asked_of, file_of, race_of, ready, rules}
use Rattle.sink_core.specs.declared.sink_state.SinkOutcome.TheVariants.{Already, AlreadyClosed, Closed, Committed}
use Rattle.sink_core.proofs.ReachLemmas.{reaches_reads}
use Rattle.session_laws.specs.Rows.{TellsOfBatch}
use Rattle.session_laws.proofs.Entries.{batch_file, has_entry}
use Rattle.session_laws.proofs.Files.{same_file}
use Rattle.session_laws.proofs.Fronts.{IsFrontOf, reached_front}
use Rattle.session_laws.proofs.Ready.{batch_by, file_named, ready_batch, ruled_batch}
use Rattle.session_laws.proofs.StreamPuts.{batch_commit, batch_made, close_commit, close_made}
use Rattle.session_laws.proofs.TableAnswers.{HasBatch, again_answer, close_answer}

-- of batches with the same names, whose files stand, the rows are the same
same_rows_stand : (objects : Objects) (schema : Schema) (b c : Batch) → b.application ≡ c.application → b.number ≡ c.number → FileStands objects schema b → FileStands objects schema c → b ≡ c
same_rows_stand objects schema b c application number file other =
    let name : data_file_name b.application b.number ≡ data_file_name c.application c.number = ap₂ data_file_name application number in
    let bytes : file.0 ≡ other.0 = one_object objects (data_file_name b.application b.number) (data_file_name c.application c.number) _ _ file other name in
    let rows : b.rows ≡ c.rows = one_file file.0 other.0 schema b.rows c.rows bytes file.2 other.2 in
    λ i. record { application = application i; number = number i; rows = rows i }

module _ (objects : Objects) (schema : Schema) (entries : List Entry) (sound : IsSoundStore objects) (are : AreBytes objects) (holds : Holds objects schema entries) (job : SinkJob) (before : Talk) (known_before : Bears objects before)
    (tells : (put : CommitJob) (race : Talk) (result : Result CommitOutcome CommitFault) → Bears objects race → CommitEnds put before race result → HoldsOfCommit objects put result) (talk : Talk) (borne : Bears objects talk)
    (asked : AllAsked (SinkAsks job before) [] talk) where
  -- ---- its commit was put

  -- That its commit was put is told behind the put, of a version that commits can have, and it stands.
  abbrev IsPut : (version : ℕ) → Type 0
  IsPut version = InRace job before talk (λ put race. (winners : Vec (Vec CodeAction Global) Global) × CommitEnds put before race (Ok (outcomes.Committed version winners)))

  put_small : (version : ℕ) (r : IsPut version) → version ≤ greatest_version
  put_small version r =
      let put = race_of job r.readied r.known.next r.tries in
      let comes : ComesTo put r.race version (commits_view r.holds.0) (put_told_at put version (told_put Created)) = r.holds.1 in
      let met = taken put.version put.bytes comes.winners in
      let call : Talk = put_told_at put version (told_put Created) in
      let whole : talk ≡ (r.front ++ met) ++ call = r.talked ∙ (ap (λ (t : Talk). r.front ++ t) comes.told ∙ sym (append_assoc r.front met call)) in
      let asks = asked_last (SinkAsks job before) [] (r.front ++ met) (put_commit version put.bytes, told_put Created) (subst (AllAsked (SinkAsks job before) []) whole asked) in
      asks.1.holds.4

  put_stands : (version : ℕ) (r : IsPut version) → object_at objects (commit_name version) ≡ Some (commit_text (commit_actions job r.readied))
  put_stands version r =
      let own = bears_end objects r.front r.race (subst (Bears objects) r.talked borne) in
      (tells (race_of job r.readied r.known.next r.tries) r.race (Ok (outcomes.Committed version r.holds.0)) own r.holds.1).2

  front_borne : (version : ℕ) (r : IsPut version) → Bears objects r.front
  front_borne version r = bears_front objects r.front r.race (subst (Bears objects) r.talked borne)

  put_reads : (version : ℕ) (r : IsPut version) → IsCommit (commit_text (commit_actions job r.readied)) (commit_actions job r.readied)
  put_reads version r = reaches_reads job before r.front r.known r.tries (ready r.readied) r.readied (inl refl) r.reaches

  -- the table has the batch at that version
  pub committed_tells : (version : ℕ) → AnswerEnds job before talk (Ok (Committed version)) → TellsOfBatch schema entries job (appended.Committed version)
  committed_tells version (task, r) =
      let own = ready_batch objects schema entries sound holds job before r.front known_before (front_borne version r) r.known r.tries r.readied r.reaches are task.0 task.1 task.2 in
      let b = batch_by job task.0 r.readied.rows in
      let text = commit_text (commit_actions job r.readied) in
      let made = batch_commit schema b job.at r.readied.size text (subst (IsCommit text) (batch_made job r.readied task.0 task.1 task.2) (put_reads version r)) in
      let is = has_entry objects schema entries sound.table holds version text made.actions (group (b ∷ [])) (put_small version r) (put_stands version r) made.commit made.stand (files_stand objects schema (group (b ∷ [])) ((own.file.0, own.file.1, own.file.2.0), tt)) in
      (b, own.of_job, (group (b ∷ []), is, (0, omega arith, refl)))

  -- or the close
  pub closed_tells : IsUtf8 job.application → (version : ℕ) → AnswerEnds job before talk (Ok (Closed version)) → TellsClose (closed.Closed version) job.application entries
  closed_tells utf8 version (task, r) =
      let text = commit_text (commit_actions job r.readied) in
      let made = close_commit schema job.application job.at text utf8 (subst (IsCommit text) (close_made job r.readied task) (put_reads version r)) in
      let is = has_entry objects schema entries sound.table holds version text made.actions (close job.application) (put_small version r) (put_stands version r) made.commit made.stand (files_stand objects schema (close job.application) tt) in
      (close job.application, is, (0, omega arith, refl))

  -- ---- it stands already

  -- the batch of the application's last number, where the job's own rows stand under its name
  last_is_own : (number next : ℕ) (log : List _) (front : IsFrontOf objects schema entries next log) (rows : List Row) → HasBatch job.application number front.firsts
      → Stands objects (data_file_name job.application number) (λ file. IsFileOf schema file rows) → Contains (batches entries) (batch_by job number rows)
  last_is_own number next log front rows last file =
      let there : FileStands objects schema last.batch = batch_file objects schema 0 front.firsts last.batch front.stand last.stands in
      let same : last.batch ≡ batch_by job number rows = same_rows_stand objects schema last.batch (batch_by job number rows) last.application_is last.number_is there file in
      let has = batch_lasts last.batch front.firsts front.later last.stands in
      subst (λ (b : Batch). Contains (batches entries) b) same (subst (λ (es : List Entry). Contains (batches es) last.batch) (sym front.split) has)

  pub already_tells : (number : ℕ) → AnswerEnds job before talk (Ok (Already number)) → TellsOfBatch schema entries job (appended.Already number)
  already_tells number (front, request, found, is, talked, same) = by_found found talked same
    where
      by_found : (got : Option (List ℕ)) → talk ≡ front ++ (get_object (file_of job number), told_object got) ∷ [] → has_same request.schema request.rows got ≡ true → TellsOfBatch schema entries job (appended.Already number)
      by_found None behind alike = absurd cc
      by_found (Some bytes) behind alike =
          let call : Talk = (get_object (file_of job number), told_object (Some bytes)) ∷ [] in
          let both = subst (Bears objects) behind borne in
          let own = bears_front objects front call both in
          let got : object_at objects (file_of job number) ≡ Some bytes = (bears_end objects front call both).0 in
          let ruled = ruled_batch objects schema entries sound holds job before front known_before own is.known is.tries (rules is.old) is.reaches number is.items request is.task is.asked in
          let b = batch_by job number request.rows in
          let last = again_answer objects schema entries is.known.next ruled.front.log ruled.front.front b (ruled.numbered_so ∙ ap (λ r. Ok r) is.again) in
          let there : FileStands objects schema last.batch = batch_file objects schema 0 ruled.front.front.firsts last.batch ruled.front.front.stand last.stands in
          let alike_here : has_same schema request.rows (Some bytes) ≡ true = subst (λ (t : Schema). has_same t request.rows (Some bytes) ≡ true) ruled.schema_is alike in
          let file : IsFileOf schema bytes request.rows = same_file schema request.rows bytes there.2.within (are (file_of job number) bytes got) alike_here in
          let named = file_named job.application number in
          let has = last_is_own number is.known.next ruled.front.log ruled.front.front request.rows last (bytes, ap (object_at objects) (sym named) ∙ got, file) in
          (b, ruled.of_job, (refl, batch_told entries b has))

  pub already_closed_tells : IsUtf8 job.application → AnswerEnds job before talk (Ok AlreadyClosed) → TellsClose closed.AlreadyClosed job.application entries
  already_closed_tells utf8 (task, (old, is)) =
      let here = reached_front objects schema entries sound holds job before talk is.known is.tries (rules old) known_before borne is.reaches in
      let says = is.says here.log here.snapshot in
      let request = says.1.0 in
      let asked_so : close_behind is.known.next here.log job.application ≡ Ok request = subst (λ (t : SinkTask). asked_of (record job { task = t }) is.known.next here.log ≡ Ok request) task says.1.1 in
      let shut = (close_parts is.known.next here.log job.application request asked_so).1 ∙ says.1.2 in
      close_answer objects schema entries is.known.next here.log here.front job.application utf8 shut
