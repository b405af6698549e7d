-- Where the commit of a stream's session may be put: what the table tells of its batch or its close, and the file that stands.
use Rattle.std.proofs.Common.{◌≡◌, ◌∙◌, ◌⊎◌, ℕ, List, length, false, Some, Ok, inl, inr, refl, sym, ap, subst}
use Rattle.serde_json.specs.Data.{Items}
use Rattle.store_core.specs.Objects.{AreBytes, Objects}
use Rattle.session_core.specs.Talks.{Bears, Talk}
use Rattle.delta_actions.specs.Names.{data_file_name as plain_file_name}
use Rattle.delta_replay.specs.Closes as logs
use Rattle.delta_replay.specs.Support.{writable}
use Rattle.row_core.specs.Rows.{Row}
use Rattle.schema_tree.specs.Limits.{IsWithinLimits}
use Rattle.schema_tree.specs.Tree.{Tree}
use Rattle.table_log.specs.declared.loading.Loaded.{Loaded}
use Rattle.table_model.specs.Appends.{appended}
use Rattle.table_model.specs.Table.{Batch, Entry, is_stream_closed}
use Rattle.table_model.specs.declared.table.AppendAnswer.TheVariants.{Committed}
use Rattle.table_store.specs.Holds.{Holds, Stands}
use Rattle.table_store.specs.Schema.{Schema, IsFileOf}
use Rattle.commit_core.specs.SoundStores.{IsSoundStore}
use Rattle.commit_core.proofs.Callers.{log_open}
use Rattle.batch_core.specs.Committing.{batch_file_name}
use Rattle.batch_core.specs.Requests.{SinkRequest, numbered_behind, request_behind}
use Rattle.batch_core.specs.RowsIn.{rows_from}
use Rattle.sink_core.specs.SinkSessions.{HoldsOf, Point, PutsFile, Reaches, Readied, Readies, SinkJob, SinkTask, anew, appends, asked_again, asked_of, closes, conflicts, file_of, goes_on, knew, loaded, ready, rules, readied_by, readies, stood}
use Rattle.sink_core.proofs.SinkTalks.{file_stands}
use Rattle.session_laws.specs.Rows.{IsBatchOf, name_of}
use Rattle.session_laws.proofs.Files.{spelled_file}
use Rattle.session_laws.proofs.Fronts.{IsKnownFront, reached_front}
use Rattle.batch_core.proofs.Callers.{asked_parts, close_parts}
use Rattle.session_laws.proofs.TableAnswers.{new_answer, written_front}

-- what the rules asked for, where they let its commit be put
pub record IsReadyFor (job : SinkJob) (known : Loaded) (readied : Readied) : Type 0 where
  pub request : SinkRequest
  pub asked : HoldsOf known (λ log. asked_of job known.next log ≡ Ok request)
  pub new : request.repeats ≡ false
  pub schema : request.schema ≡ readied.schema
  pub rows : request.rows ≡ readied.rows

pub ready_for : (job : SinkJob) (before talk : Talk) (known : Loaded) (tries : ℕ) (readied : Readied) (point : Point) → point ≡ ready readied → Reaches job before talk known tries point → IsReadyFor job known readied
ready_for job before talk known tries readied point is (loaded _ _ fine loads load) = absurd cc
ready_for job before talk known tries readied point is (knew _ fine unloaded knows some) = absurd cc
ready_for job before talk known tries readied point is (readies front calls _ _ _ request size reaches asked new readied_so reads talked) =
    let same : readied_by request size ≡ readied = cc in
    record { request = request; asked = asked; new = new; schema = ap (λ (s : Readied). s.schema) same; rows = ap (λ (s : Readied). s.rows) same }
ready_for job before talk known tries readied point is (goes_on _ _ _ other reaches asked) =
    let same : other ≡ readied = cc in
    record { request = asked_again other known.next false; asked = asked; new = refl; schema = ap (λ (s : Readied). s.schema) same; rows = ap (λ (s : Readied). s.rows) same }
ready_for job before talk known tries readied point is (conflicts front race _ old _ some left newest other winners reaches few ends talked rest next front_known) = absurd cc

-- a table whose batch was written has a schema that tables may have
puts_within : (name : List ℕ) (request : SinkRequest) (calls : Talk) (size : ℕ) → PutsFile name request calls size → IsWithinLimits request.schema
puts_within name request calls size (anew file written) = written.is_file.within
puts_within name request calls size (stood file bytes written same) = written.is_file.within

readied_within : (job : SinkJob) (before : Talk) (number : ℕ) (items : Items) → job.task ≡ appends number items → (talk : Talk) (known : Loaded) (tries : ℕ) (point : Point) (readied : Readied) → (point ≡ ready readied) ⊎ (point ≡ rules (Some readied))
    → Reaches job before talk known tries point → IsWithinLimits readied.schema
readied_within job before number items task talk known tries point readied (inl is) (loaded _ _ fine loads load) = absurd cc
readied_within job before number items task talk known tries point readied (inr is) (loaded _ _ fine loads load) = absurd cc
readied_within job before number items task talk known tries point readied (inl is) (knew _ fine unloaded knows some) = absurd cc
readied_within job before number items task talk known tries point readied (inr is) (knew _ fine unloaded knows some) = absurd cc
readied_within job before number items task talk known tries point readied (inl is) (readies front calls _ _ _ request size reaches asked new readied_so reads talked) =
    let same : readied_by request size ≡ readied = cc in
    subst (λ (s : Readied). IsWithinLimits s.schema) same
    (puts_within (file_of job number) request calls size (subst (λ (t : SinkTask). Readies (record job { task = t }) request calls size) task readied_so))
readied_within job before number items task talk known tries point readied (inr is) (readies front calls _ _ _ request size reaches asked new readied_so reads talked) = absurd cc
readied_within job before number items task talk known tries point readied (inl is) (goes_on _ _ _ other reaches asked) =
    let same : other ≡ readied = cc in readied_within job before number items task talk known tries (rules (Some other)) readied (inr (ap (λ (s : Readied). rules (Some s)) same)) reaches
readied_within job before number items task talk known tries point readied (inr is) (goes_on _ _ _ other reaches asked) = absurd cc
readied_within job before number items task talk known tries point readied (inl is) (conflicts front race _ old _ some left newest other winners reaches few ends talked rest next front_known) = absurd cc
readied_within job before number items task talk known tries point readied (inr is) (conflicts front race _ old _ some left newest other winners reaches few ends talked rest next front_known) =
    let same : other ≡ readied = cc in readied_within job before number items task front old some (ready other) readied (inl (ap ready same)) reaches

-- rows that items spell are one list
pub one_rows : (schema : Tree) (items : Items) (rows others : List Row) → rows_from 0 schema items ≡ Ok rows → rows_from 0 schema items ≡ Ok others → rows ≡ others
one_rows schema items rows others is was = let both = sym is ∙ was in cc

-- the name of a batch's file
pub file_named : (application : List ℕ) (number : ℕ) → batch_file_name application number ≡ plain_file_name application number
unfolding batch_file_name
file_named application number = refl

-- the batch of a job with these rows
abbrev pub batch_by : SinkJob → (number : ℕ) → List Row → Batch
batch_by job number rows = record { application = job.application; number = number; rows = rows }

module _ (objects : Objects) (schema : Schema) (entries : List Entry) (sound : IsSoundStore objects) (holds : Holds objects schema entries) (job : SinkJob) (before talk : Talk) (known_before : Bears objects before) (borne : Bears objects talk)
    (known : Loaded) (tries : ℕ) (point : Point) (reaches : Reaches job before talk known tries point) where
  abbrev pub here : IsKnownFront objects schema entries known
  here = reached_front objects schema entries sound holds job before talk known tries point known_before borne reaches

  -- What the rules asked for is the job's batch, for the table's own schema.
  pub record IsRuledBatch (number : ℕ) (request : SinkRequest) : Type 0 where
    pub front : IsKnownFront objects schema entries known
    pub schema_is : request.schema ≡ schema
    pub of_job : IsBatchOf schema job (batch_by job number request.rows)
    pub numbered_so : numbered_behind front.log job.application number ≡ Ok request.repeats
    pub written : writable front.log ≡ Ok request.schema

  pub ruled_batch : (number : ℕ) (items : Items) (request : SinkRequest) → job.task ≡ appends number items → HoldsOf known (λ log. asked_of job known.next log ≡ Ok request) → IsRuledBatch number request
  ruled_batch number items request task asked =
      let own : request_behind known.next here.log job.application number items ≡ Ok request = subst (λ (t : SinkTask). asked_of (record job { task = t }) known.next here.log ≡ Ok request) task (asked here.log here.snapshot) in
      let parts = asked_parts known.next here.log job.application number items request own in
      let same : request.schema ≡ schema = written_front objects schema entries known.next here.log here.front request.schema parts.0.written in
      record {
        front = here;
        schema_is = same;
        of_job = record { items = items; task = task; application = refl; spelled = subst (λ (t : Tree). rows_from 0 t items ≡ Ok request.rows) same parts.0.spelled };
        numbered_so = parts.1;
        written = parts.0.written;
      }

  -- What they asked for of a close: whether its stream is closed.
  pub ruled_close : (request : SinkRequest) → job.task ≡ closes → HoldsOf known (λ log. asked_of job known.next log ≡ Ok request) → (writable here.log ≡ Ok request.schema) × (logs.is_closed job.application here.log ≡ request.repeats)
  ruled_close request task asked =
      close_parts known.next here.log job.application request (subst (λ (t : SinkTask). asked_of (record job { task = t }) known.next here.log ≡ Ok request) task (asked here.log here.snapshot))

module _ (objects : Objects) (schema : Schema) (entries : List Entry) (sound : IsSoundStore objects) (holds : Holds objects schema entries) (job : SinkJob) (before talk : Talk) (known_before : Bears objects before) (borne : Bears objects talk)
    (known : Loaded) (tries : ℕ) (readied : Readied) (reaches : Reaches job before talk known tries (ready readied)) where
  -- The table takes the job's batch behind its first entries, and the batch's file stands, of the size that is readied.
  pub record IsReadyBatch (number : ℕ) : Type 0 where
    pub of_job : IsBatchOf schema job (batch_by job number readied.rows)
    pub front : IsKnownFront objects schema entries known
    pub written : writable front.log ≡ Ok schema
    pub taken : appended (batch_by job number readied.rows) front.front.firsts ≡ Committed (length front.front.firsts)
    pub file : Stands objects (name_of (batch_by job number readied.rows)) (λ file. IsFileOf schema file readied.rows × (readied.size ≡ length file))

  pub ready_batch : AreBytes objects → (number : ℕ) (items : Items) → job.task ≡ appends number items → IsReadyBatch number
  ready_batch are number items task =
      let wants = ready_for job before talk known tries readied (ready readied) refl reaches in
      let ruled = ruled_batch objects schema entries sound holds job before talk known_before borne known tries (ready readied) reaches number items wants.request task wants.asked in
      let of_job : IsBatchOf schema job (batch_by job number readied.rows) = subst (λ (rows : List Row). IsBatchOf schema job (batch_by job number rows)) wants.rows ruled.of_job in
      let new : numbered_behind ruled.front.log job.application number ≡ Ok false = ruled.numbered_so ∙ ap (λ b. Ok b) wants.new in
      let within : IsWithinLimits schema = subst IsWithinLimits (sym wants.schema ∙ ruled.schema_is) (readied_within job before number items task talk known tries (ready readied) readied (inl refl) reaches) in
      let file = spelled_file objects schema entries sound holds (file_of job number) items readied.size (length readied.rows) within (are (file_of job number))
      (file_stands objects job before number items task known_before talk known tries (ready readied) readied (inl refl) borne reaches) in
      let own_items : of_job.items ≡ items = same_items number items (sym of_job.task ∙ task) in
      let rows_are : file.values ≡ readied.rows = one_rows schema items file.values readied.rows file.spelled (subst (λ (ds : Items). rows_from 0 schema ds ≡ Ok readied.rows) own_items of_job.spelled) in
      record {
        of_job = of_job;
        front = ruled.front;
        written = ruled.written ∙ ap (λ (t : Tree). Ok t) ruled.schema_is;
        taken = new_answer objects schema entries known.next ruled.front.log ruled.front.front (batch_by job number readied.rows) new;
        file = subst (λ (name : List ℕ). Stands objects name (λ bytes. IsFileOf schema bytes readied.rows × (readied.size ≡ length bytes))) (file_named job.application number)
            (subst (λ (rs : List Row). Stands objects (file_of job number) (λ bytes. IsFileOf schema bytes rs × (readied.size ≡ length bytes))) rows_are file.stands);
      }
    where
      same_items : (n : ℕ) (ds : Items) {es : Items} → appends n es ≡ appends n ds → es ≡ ds
      same_items n ds is = cc

  -- The stream of a close's application is open behind the first entries.
  pub ready_close : job.task ≡ closes → is_stream_closed job.application (reached_front objects schema entries sound holds job before talk known tries (ready readied) known_before borne reaches).front.firsts ≡ false
  ready_close task =
      let wants = ready_for job before talk known tries readied (ready readied) refl reaches in
      let front = reached_front objects schema entries sound holds job before talk known tries (ready readied) known_before borne reaches in
      let parts = ruled_close objects schema entries sound holds job before talk known_before borne known tries (ready readied) reaches wants.request task wants.asked in
      log_open objects schema job.application front.front.firsts front.log front.front.made (parts.1 ∙ wants.new)
