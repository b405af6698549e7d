-- What stays so while a sound store grows: its table, good puts, and what was said of it.
use Rattle.std.proofs.Common.{◌≡◌, ℕ, List, [], ◌∷◌, ◌++◌, sym, subst}
use Rattle.std.specs.List.{AllByRecursion}
use Rattle.std.proofs.lemmas.List.Elements.{Contains-append_left}
use Rattle.store_core.specs.Objects.{HasObjectsOf, Objects}
use Rattle.delta_actions.specs.Names.{data_file_name}
use Rattle.table_log.specs.Restoring.{IsSoundCheckpoint}
use Rattle.table_model.specs.Table.{Batch, Entry}
use Rattle.table_store.specs.Holds.{FileStands, Holds}
use Rattle.table_store.specs.Schema.{Schema}
use Rattle.table_store.specs.Sound.{IsAdmissible, IsSound}
use Rattle.table_store.proofs.Callers.{all_free}
use Rattle.table_store.proofs.HoldingGrown.{front, same_schema}
use Rattle.table_store.proofs.HoldingSchema.{only_table}
use Rattle.table_model.specs.Lawful.{IsLawful}
use Rattle.sink_core.specs.SinkSessions.{SinkJob}
use Rattle.session_laws.specs.Jobs.{Job}
use Rattle.session_laws.specs.Jobs as jobs
use Rattle.stream_model.specs.Events.{Event}
use Rattle.stream_model.specs.Puts.{HasTable, IsGoodPut, IsCommitMade, IsSubmittedFile, Submitted, WasBegun, a_checkpoint, a_commit, a_file, appends, closes, creates}

-- the table of a sound store is lawful, whichever it is said to be
pub lawful_held : (objects : Objects) (schema : Schema) (entries : List Entry) → IsSound objects → Holds objects schema entries → IsLawful entries
lawful_held objects schema entries sound holds = subst IsLawful (only_table objects sound.schema schema sound.entries entries sound.lawful.begins sound.holds holds) sound.lawful

module _ (objects more : Objects) (sound : IsSound objects) (still : IsSound more) (grown : HasObjectsOf objects more) where
  -- a table that was created stands, with its schema
  pub table_grows : (schema : Schema) → HasTable objects schema → HasTable more schema
  table_grows schema (first, rest, holds) =
      let begins = (lawful_held objects schema (first ∷ rest) sound holds).begins in
      let same : schema ≡ still.schema = same_schema objects more schema grown still.schema first rest still.entries begins holds still.holds in
      let later = front objects more schema grown still.schema (first ∷ rest) still.entries begins holds still.holds in
      (first, rest ++ later.0, subst (λ (s : Schema). Holds more s (first ∷ (rest ++ later.0))) (sym same) (subst (Holds more still.schema) later.1 still.holds))

  file_grows : (schema : Schema) (b : Batch) → FileStands objects schema b → FileStands more schema b
  file_grows schema b file = (file.0, grown (data_file_name b.application b.number) file.0 file.1, file.2)

  files_grow : (schema : Schema) (bs : List Batch) → AllByRecursion (FileStands objects schema) bs → AllByRecursion (FileStands more schema) bs
  files_grow schema [] files = tt
  files_grow schema (b ∷ bs) files = (file_grows schema b files.0, files_grow schema bs files.1)

  made_grows : (events : List Event) (version : ℕ) (bytes : List ℕ) → IsCommitMade events objects version bytes → IsCommitMade events more version bytes
  made_grows events version bytes (creates job begun is made) = creates job begun is made
  made_grows events version bytes (appends schema job bs table begun of_job commit files) = appends schema job bs (table_grows schema table) begun of_job commit (files_grow schema bs files)
  made_grows events version bytes (closes schema item submitted task commit) = closes schema item submitted task commit

  -- a good put stays one
  pub put_grows : (events : List Event) (name bytes : List ℕ) → ((version : ℕ) → IsAdmissible objects version bytes → IsAdmissible more version bytes) → ((version : ℕ) → IsSoundCheckpoint objects version bytes → IsSoundCheckpoint more version bytes)
      → IsGoodPut events objects name bytes → IsGoodPut events more name bytes
  put_grows events name bytes commit_stays checkpoint_stays (a_commit version named new made) = a_commit version named (commit_stays version new) (made_grows events version bytes made)
  put_grows events name bytes commit_stays checkpoint_stays (a_checkpoint version named one) = a_checkpoint version named (checkpoint_stays version one)
  put_grows events name bytes commit_stays checkpoint_stays (a_file schema table file free) = a_file schema (table_grows schema table) file (λ other those holds. all_free those name)

-- ---- more events

-- what was begun stays so, and what was handed in
pub begun_more : (events : List Event) (event : Event) (job : Job) → WasBegun events job → WasBegun (events ++ event ∷ []) job
begun_more events event job (can, name, has) = (can, name, Contains-append_left events (event ∷ []) _ has)

pub submitted_more : (events : List Event) (event : Event) (item : SinkJob) → Submitted events item → Submitted (events ++ event ∷ []) item
submitted_more events event item (job, begun, has) = (job, begun_more events event job begun, has)

pub file_more : (events : List Event) (event : Event) (schema : Schema) (name bytes : List ℕ) → IsSubmittedFile events schema name bytes → IsSubmittedFile (events ++ event ∷ []) schema name bytes
file_more events event schema name bytes (job, submitted, file) = (job, submitted_more events event job submitted, file)

made_more : (events : List Event) (event : Event) (objects : Objects) (version : ℕ) (bytes : List ℕ) → IsCommitMade events objects version bytes → IsCommitMade (events ++ event ∷ []) objects version bytes
made_more events event objects version bytes (creates job begun is made) = creates job (begun_more events event (jobs.creates job) begun) is made
made_more events event objects version bytes (appends schema job bs table begun of_job commit files) = appends schema job bs table (begun_more events event job begun) of_job commit files
made_more events event objects version bytes (closes schema item submitted task commit) = closes schema item (submitted_more events event item submitted) task commit

pub put_more : (events : List Event) (event : Event) (objects : Objects) (name bytes : List ℕ) → IsGoodPut events objects name bytes → IsGoodPut (events ++ event ∷ []) objects name bytes
put_more events event objects name bytes (a_commit version named new made) = a_commit version named new (made_more events event objects version bytes made)
put_more events event objects name bytes (a_checkpoint version named one) = a_checkpoint version named one
put_more events event objects name bytes (a_file schema table file free) = a_file schema table (file_more events event schema name bytes file) free
