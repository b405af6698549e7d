-- What a stream's session puts: its batch's file, and its commit, which is admissible at the version that comes next.
use Rattle.std.proofs.Common.{◌≡◌, ◌∙◌, ◌≤◌, ℕ, List, [], ◌∷◌, ◌++◌, length, false, None, Ok, inl, refl, sym, ap, subst, arith}
use Rattle.std.specs.Str.{IsUtf8}
use Rattle.serde_json.specs.Data.{Items}
use Rattle.store_core.specs.Objects.{AreBytes, Objects}
use Rattle.session_core.specs.Talks.{Bears, Talk, put_commit, put_file}
use Rattle.delta_actions.specs.Action.{Action}
use Rattle.delta_actions.specs.Commit.{IsCommit}
use Rattle.store_core.specs.Names.{greatest_version}
use Rattle.delta_actions.specs.Names.{stream_domain}
use Rattle.delta_replay.specs.Support.{writable}
use Rattle.table_log.specs.declared.loading.Loaded.{Loaded}
use Rattle.table_model.specs.Appends.{appended}
use Rattle.table_model.specs.Lawful.{IsLawful}
use Rattle.table_model.specs.Table.{Batch, Entry, close, group, is_stream_closed}
use Rattle.table_model.specs.declared.table.AppendAnswer.TheVariants.{Committed}
use Rattle.table_store.specs.Commits.{IsCommitOf}
use Rattle.table_store.specs.Conflicts.{ReadsItsOwn}
use Rattle.table_store.specs.Holds.{FileStands, Holds, HoldsFirst, IsLawfulStore}
use Rattle.table_store.specs.Schema.{Schema, IsFileOf}
use Rattle.table_store.specs.Sound.{IsAdmissible}
use Rattle.table_store.proofs.LawfulLogLemmas.{AreMadeFor}
use Rattle.commit_core.specs.SoundStores.{IsSoundStore}
use Rattle.commit_core.proofs.Callers.{batch_admissible, close_admissible}
use Rattle.commit_core.specs.Commits.{commit_text}
use Rattle.commit_core.specs.CommitSessions.{CommitAsks, CommitJob, ComesTo}
use Rattle.commit_core.proofs.Callers.{bears_end, bears_front, own_read}
use Rattle.commit_core.proofs.CandidateLemmas.{reading_reads}
use Rattle.batch_core.specs.Closing.{close_candidate, close_actions}
use Rattle.batch_core.specs.Committing.{append_candidate, appending, batch_actions}
use Rattle.sink_core.specs.SinkSessions.{Reaches, Readied, SinkAsks, SinkJob, SinkTask, commit_actions, appends, candidate_of_job, closes, race_of, ready, rules}
use Rattle.sink_core.proofs.ReachLemmas.{reaches_reads}
use Rattle.session_laws.specs.Rows.{IsBatchOf, IsJobCommit, IsJobFile, MayPutNext, next_of_stream}
use Rattle.session_laws.proofs.Fronts.{reached_front}
use Rattle.session_laws.proofs.NextVersions.{in_race_next}
use Rattle.session_laws.proofs.TableAnswers.{written_front}
use Rattle.session_laws.proofs.Ready.{batch_by, file_named, ready_batch, ready_close, ready_for, ruled_batch, ruled_close}

-- ---- the commit of what is readied

-- its actions, of a batch and of a close
pub batch_made : (job : SinkJob) (readied : Readied) (number : ℕ) (items : Items) → job.task ≡ appends number items → commit_actions job readied ≡ batch_actions job.application number job.at readied.size (length readied.rows)
batch_made job readied number items task = ap (λ (t : SinkTask). commit_actions (record job { task = t }) readied) task

pub close_made : (job : SinkJob) (readied : Readied) → job.task ≡ closes → commit_actions job readied ≡ close_actions job.application job.at
close_made job readied task = ap (λ (t : SinkTask). commit_actions (record job { task = t }) readied) task

-- they are a commit of the batch's entry, or of the close's
pub batch_commit : (schema : Schema) (b : Batch) (at size : ℕ) (bytes : List ℕ) → IsCommit bytes (batch_actions b.application b.number at size (length b.rows)) → IsCommitOf schema (group (b ∷ [])) bytes
unfolding appending
batch_commit schema b at size bytes commit = record {
  actions = batch_actions b.application b.number at size (length b.rows);
  commit = commit;
  stand = record { only = refl; numbered = refl; files = (file_named b.application b.number, refl, tt) };
}

pub close_commit : (schema : Schema) (application : List ℕ) (at : ℕ) (bytes : List ℕ) → IsUtf8 application → IsCommit bytes (close_actions application at) → IsCommitOf schema (close application) bytes
unfolding close_actions
close_commit schema application at bytes text commit = record { actions = close_actions application at; commit = commit; stand = record { actions = refl; text = text } }

-- a stream's candidate reads what it is to
own_candidate : (job : SinkJob) (readied : Readied) → ReadsItsOwn (candidate_of_job job readied)
own_candidate job readied = by_task job.task refl
  where
    by_task : (task : SinkTask) → job.task ≡ task → ReadsItsOwn (candidate_of_job (record job { task = task }) readied)
    by_task (appends number items) is = own_read (append_candidate job.application number job.at readied.size (length readied.rows)) (reading_reads (batch_actions job.application number job.at readied.size (length readied.rows)) [] [])
    by_task closes is = own_read (close_candidate job.application job.at) (reading_reads (close_actions job.application job.at) [] (stream_domain job.application ∷ []))

-- its candidate has the same actions
candidate_reads : (job : SinkJob) (readied : Readied) → IsCommit (commit_text (commit_actions job readied)) (commit_actions job readied) → IsCommit (commit_text (commit_actions job readied)) (candidate_of_job job readied).actions
candidate_reads job readied reads = subst (IsCommit (commit_text (commit_actions job readied))) (by_task job.task) reads
  where
    by_task : (task : SinkTask) → commit_actions (record job { task = task }) readied ≡ (candidate_of_job (record job { task = task }) readied).actions
    by_task (appends number items) = refl
    by_task closes = refl

-- ---- entries that may come next

-- a table that is written has entries, for which its first commits stand
none_written : (objects : Objects) (schema : Schema) (log : List (List Action)) (found : Schema) → AreMadeFor objects schema [] log → writable log ≡ Ok found → ⊥
none_written objects schema [] found made written = absurd cc
none_written objects schema (first ∷ log) found made written = absurd made

module _ (objects : Objects) (schema : Schema) (version : ℕ) (small : version ≤ greatest_version) (log : List (List Action)) (written : writable log ≡ Ok schema) where
  -- the batch that a table takes behind its first entries
  batch_next : (firsts : List Entry) → HoldsFirst objects schema 0 firsts → IsLawful firsts → length firsts ≡ version → AreMadeFor objects schema firsts log → (b : Batch) (bytes : List ℕ) → appended b firsts ≡ Committed (length firsts)
      → IsCommitOf schema (group (b ∷ [])) bytes → FileStands objects schema b → IsAdmissible objects version bytes
  batch_next [] stand lawful long made b bytes taken commit file = absurd (none_written objects schema log schema made written)
  batch_next (first ∷ rest) stand lawful long made b bytes taken commit file =
      subst (λ (v : ℕ). IsAdmissible objects v bytes) long (batch_admissible objects schema first rest stand lawful (omega (arith, long, small)) b bytes taken commit file)

  -- the close of a stream that is open there
  close_next : (firsts : List Entry) → HoldsFirst objects schema 0 firsts → IsLawful firsts → length firsts ≡ version → AreMadeFor objects schema firsts log → (application bytes : List ℕ) → is_stream_closed application firsts ≡ false
      → IsCommitOf schema (close application) bytes → IsAdmissible objects version bytes
  close_next [] stand lawful long made application bytes still_open commit = absurd (none_written objects schema log schema made written)
  close_next (first ∷ rest) stand lawful long made application bytes still_open commit =
      subst (λ (v : ℕ). IsAdmissible objects v bytes) long (close_admissible objects schema first rest stand lawful (omega (arith, long, small)) application bytes still_open commit)

-- ---- what is put

module _ (objects : Objects) (schema : Schema) (entries : List Entry) (sound : IsSoundStore objects) (are : AreBytes objects) (holds : Holds objects schema entries) (job : SinkJob) (before : Talk) (known_before : Bears objects before) where
  -- the file of its batch
  pub puts_file : (talk : Talk) (name bytes : List ℕ) → Bears objects talk → SinkAsks job before talk (put_file name bytes) → IsJobFile schema job name bytes
  puts_file talk name bytes borne asks =
      let puts = asks.1 in
      let is = puts.is in
      let ruled = ruled_batch objects schema entries sound holds job before talk known_before borne is.known is.tries (rules None) is.reaches puts.number is.items puts.request is.task is.asked in (
        batch_by job puts.number puts.request.rows,
        ruled.of_job,
        puts.named ∙ file_named job.application puts.number,
        subst (λ (t : Schema). IsFileOf t bytes puts.request.rows) ruled.schema_is puts.written.is_file,
        puts.written.limits,
      )

  module _ (text : IsUtf8 job.application) (talk : Talk) (borne : Bears objects talk) (known : Loaded) (tries : ℕ) (readied : Readied) (reaches : Reaches job before talk known tries (ready readied)) where
    -- where its commit may be put, it is admissible behind what is known
    pub first_admissible : known.next ≤ greatest_version → IsAdmissible objects known.next (commit_text (commit_actions job readied))
    first_admissible small = by_task job.task refl
      where
        reads : IsCommit (commit_text (commit_actions job readied)) (commit_actions job readied)
        reads = reaches_reads job before talk known tries (ready readied) readied (inl refl) reaches

        by_task : (task : SinkTask) → job.task ≡ task → IsAdmissible objects known.next (commit_text (commit_actions job readied))
        by_task (appends number items) is =
            let own = ready_batch objects schema entries sound holds job before talk known_before borne known tries readied reaches are number items is in
            let front = own.front.front in
            batch_next objects schema known.next small own.front.log own.written front.firsts front.stand front.lawful front.long front.made (batch_by job number readied.rows) (commit_text (commit_actions job readied)) own.taken
            (batch_commit schema (batch_by job number readied.rows) job.at readied.size (commit_text (commit_actions job readied)) (subst (IsCommit (commit_text (commit_actions job readied))) (batch_made job readied number items is) reads))
            (own.file.0, own.file.1, own.file.2.0)
        by_task closes is =
            let wants = ready_for job before talk known tries readied (ready readied) refl reaches in
            let here = reached_front objects schema entries sound holds job before talk known tries (ready readied) known_before borne reaches in
            let parts = ruled_close objects schema entries sound holds job before talk known_before borne known tries (ready readied) reaches wants.request is wants.asked in
            let same : wants.request.schema ≡ schema = written_front objects schema entries known.next here.log here.front wants.request.schema parts.0 in
            let front = here.front in
            close_next objects schema known.next small here.log (parts.0 ∙ ap (λ (t : Schema). Ok t) same) front.firsts front.stand front.lawful front.long front.made job.application (commit_text (commit_actions job readied))
            (ready_close objects schema entries sound holds job before talk known_before borne known tries readied reaches is)
            (close_commit schema job.application job.at (commit_text (commit_actions job readied)) text (subst (IsCommit (commit_text (commit_actions job readied))) (close_made job readied is) reads))

    -- it is the job's, to the byte
    pub own_commit : IsJobCommit objects schema job (commit_text (commit_actions job readied))
    own_commit = by_task job.task refl
      where
        reads : IsCommit (commit_text (commit_actions job readied)) (commit_actions job readied)
        reads = reaches_reads job before talk known tries (ready readied) readied (inl refl) reaches

        by_task : (task : SinkTask) → job.task ≡ task → IsJobCommit objects schema job (commit_text (commit_actions job readied))
        by_task (appends number items) is =
            let own = ready_batch objects schema entries sound holds job before talk known_before borne known tries readied reaches are number items is in
            let text = commit_text (commit_actions job readied) in
            let made : commit_actions job readied ≡ batch_actions job.application number job.at (length own.file.0) (length readied.rows) =
            batch_made job readied number items is ∙ ap (λ (size : ℕ). batch_actions job.application number job.at size (length readied.rows)) own.file.2.1 in
            subst (λ (t : SinkTask). IsJobCommit objects schema (record job { task = t }) text) (sym is) (
              batch_by job number readied.rows,
              subst (λ (t : SinkTask). IsBatchOf schema (record job { task = t }) (batch_by job number readied.rows)) is own.of_job,
              (own.file.0, own.file.1, (own.file.2.0, (ap commit_text made, subst (IsCommit text) made reads))),
            )
        by_task closes is =
            let made = close_made job readied is in
            subst (λ (t : SinkTask). IsJobCommit objects schema (record job { task = t }) (commit_text (commit_actions job readied))) (sym is)
            (ap commit_text made, subst (IsCommit (commit_text (commit_actions job readied))) made reads)

  -- its commit, as the version that comes next
  pub puts_commit : ((put : CommitJob) (race : Talk) (version : ℕ) (bytes : List ℕ) → IsLawfulStore objects → Bears objects race → IsAdmissible objects put.version put.bytes → IsCommit put.bytes put.candidate.actions → ReadsItsOwn put.candidate
      → CommitAsks put before race (put_commit version bytes) → IsAdmissible objects version bytes) → IsUtf8 job.application
      → (talk : Talk) (version : ℕ) (bytes : List ℕ) → Bears objects talk → SinkAsks job before talk (put_commit version bytes) → MayPutNext objects (next_of_stream job talk) version bytes × IsJobCommit objects schema job bytes
  puts_commit stays text talk version bytes borne asks =
      let r = asks.1 in
      let put = race_of job r.readied r.known.next r.tries in
      let both : Bears objects (r.front ++ r.race) = subst (Bears objects) r.talked borne in
      let own_front = bears_front objects r.front r.race both in
      let comes : ComesTo put r.race version r.holds.0 [] = r.holds.1 in
      let small : r.known.next ≤ greatest_version = omega (arith, comes.at, r.holds.4) in
      let first = first_admissible text r.front own_front r.known r.tries r.readied r.reaches small in
      let reads = reaches_reads job before r.front r.known r.tries (ready r.readied) r.readied (inl refl) r.reaches in
      let lawful : IsLawfulStore objects = record { schema = sound.table.schema; entries = sound.table.entries; holds = sound.table.holds; lawful = sound.table.lawful } in
      let admissible = stays put r.race version bytes lawful (bears_end objects r.front r.race both) first (candidate_reads job r.readied reads) (own_candidate job r.readied) r.holds in
      let next : version ≡ next_of_stream job talk = sym (in_race_next job before talk _ r version r.holds.0 [] comes) in
      ((admissible, next), subst (IsJobCommit objects schema job) (sym r.holds.2) (own_commit text r.front own_front r.known r.tries r.readied r.reaches))
