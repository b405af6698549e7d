-- What is so of each world, and stays so by more events and by more objects.
use Rattle.std.proofs.Common.{◌≡◌, ◌∙◌, ℕ, List, [], ◌∷◌, ◌++◌, Option, Some, Contains, sym, subst}
use Rattle.std.specs.Prelude.{Result, Ok, Err}
use Rattle.outcomes.specs.Bytes.{IsBytes}
use Rattle.store_core.specs.Calls.{Flight}
use Rattle.store_core.specs.Objects.{HasObjectsOf, Objects}
use Rattle.session_core.specs.Talks.{Asked, Bears, IsBorne, Talk, get_object, list_names, put_commit, put_file}
use Rattle.session_core.proofs.Callers.{bears_grows, borne_grows}
use Rattle.store_core.specs.Names.{commit_name}
use Rattle.table_model.specs.Appends.{TellsAppend, TellsClose}
use Rattle.table_model.specs.Lawful.{Begins}
use Rattle.table_model.specs.Table.{Batch, Entry, told_of}
use Rattle.table_model.specs.declared.table.AppendAnswer.{AppendAnswer}
use Rattle.table_model.specs.declared.table.AppendAnswer.TheVariants as appended
use Rattle.table_model.specs.declared.table.Closing.{Closing}
use Rattle.table_model.specs.declared.table.Closing.TheVariants as closed
use Rattle.table_model.proofs.Callers.{append_lasts, close_lasts}
use Rattle.table_store.specs.Holds.{Holds}
use Rattle.table_store.specs.Schema.{Schema}
use Rattle.table_store.specs.Sound.{IsSound}
use Rattle.table_store.proofs.HoldingGrown.{front, same_schema}
use Rattle.batch_core.specs.declared.fault.SinkFault.{SinkFault}
use Rattle.batch_core.specs.declared.fault.SinkFault.TheVariants as faults
use Rattle.sink_core.specs.SinkSessions.{SinkJob}
use Rattle.sink_core.specs.declared.sink_state.SinkOutcome.{SinkOutcome}
use Rattle.sink_core.specs.declared.sink_state.SinkOutcome.TheVariants.{Already, AlreadyClosed, Closed, Committed}
use Rattle.session_laws.specs.Rows.{IsBatchOf, TellsOfBatch}
use Rattle.log_offsets.specs.Offsets.{offset_view}
use Rattle.source_core.specs.SourceSessions.{SourceJob}
use Rattle.log_rows.specs.declared.read_state.ReadRows.{ReadRows}
use Rattle.log_rows.specs.declared.tail_fault.TailFault.{TailFault}
use Rattle.source_core.specs.declared.source_session.ReadEnd.{ReadEnd}
use Rattle.row_core.specs.Views.{row_views}
use Rattle.session_laws.specs.Jobs.{Asks, Job, Outcome, read, reads}
use Rattle.session_laws.specs.Moves.{Does, HasAsked, tells}
use Rattle.stream_model.specs.Events.{Event}
use Rattle.stream_model.specs.Headline.{IsPartOfTable, IsSoOf, WasAnswered}
use Rattle.stream_model.specs.Puts.{IsGoodPut, Submitted, WasBegun}
use Rattle.stream_model.specs.Worlds.{Actor, Hand, IsBegunAs, World, asking, ended, fresh, waiting}
use Rattle.stream_model.proofs.Calls.{IsGoodCall}
use Rattle.stream_model.proofs.Growing.{begun_more, put_grows, put_more, submitted_more}
use Rattle.stream_model.proofs.Landing.{IsGoodStore, none_in}
use Rattle.stream_model.proofs.Lacking.{AllTold, HasVersion, WasTold}
use Rattle.stream_model.proofs.Laws.{AreLaws}
use Rattle.stream_model.proofs.Seen.{SeesWell, seen_lasts, seen_more, store_more}

-- what a session has at hand
abbrev pub IsGoodHand : List Event → Objects → Job → (before talk : Talk) → Hand → Type 0
IsGoodHand events objects job before talk fresh = Unit {0}
IsGoodHand events objects job before talk (asking call) = Asks job before talk call × HasVersion call × IsGoodCall events objects call
IsGoodHand events objects job before talk (waiting call told) = Asks job before talk call × HasVersion call × WasTold talk call told × IsBorne objects call told × SeesWell events objects job before (talk ++ (call, told) ∷ [])
IsGoodHand events objects job before talk (ended outcome) = Does job before talk (tells outcome)

pub record IsGoodActor (events : List Event) (objects : Objects) (actor : Actor) : Type 0 where
  pub begun : WasBegun events actor.job
  pub same : IsBegunAs actor.job actor.begun
  pub earlier : Bears objects actor.before
  pub borne : Bears objects actor.talk
  pub asked : HasAsked actor.begun actor.before actor.talk
  pub told : AllTold [] actor.talk
  pub seen : SeesWell events objects actor.begun actor.before actor.talk
  pub hand : IsGoodHand events objects actor.begun actor.before actor.talk actor.hand

abbrev pub AreGoodPuts : List Event → Objects → Flight → Type 0
AreGoodPuts events objects flight = (put : List ℕ × List ℕ) → Contains flight put → IsGoodPut events objects put.0 put.1 × IsBytes put.1

abbrev pub AreGoodActors : List Event → Objects → (actors : ℕ → Option Actor) → Type 0
AreGoodActors events objects actors = (name : ℕ) (actor : Actor) → actors name ≡ Some actor → IsGoodActor events objects actor

-- what was told is so of the table, whichever a store is said to hold
abbrev pub IsToldSo : Objects → List (Job × Outcome) → Type 0
IsToldSo objects outs = (item : SinkJob) (answer : Result SinkOutcome SinkFault) → WasAnswered outs item answer → (schema : Schema) (entries : List Entry) → Holds objects schema entries → IsSoOf schema entries item answer

-- what reads handed out are parts of it, by its schema
abbrev pub AreReadSo : Objects → List (Job × Outcome) → Type 0
AreReadSo objects outs = (job : SourceJob) (end : ReadEnd) → Contains outs (reads job, read end) → (schema : Schema) (entries : List Entry) → Holds objects schema entries → IsPartOfTable schema entries job end.answer

-- each append and close of which something was told was handed in
abbrev pub AreHandedIn : List Event → List (Job × Outcome) → Type 0
AreHandedIn events outs = (item : SinkJob) (answer : Result SinkOutcome SinkFault) → WasAnswered outs item answer → Submitted events item

pub record IsGoodWorld (events : List Event) (outs : List (Job × Outcome)) (w : World) : Type 0 where
  pub store : IsGoodStore events w.objects
  pub flight : AreGoodPuts events w.objects w.flight
  pub actors : AreGoodActors events w.objects w.actors
  pub told : IsToldSo w.objects outs
  pub handed : AreHandedIn events outs
  pub parts : AreReadSo w.objects outs

-- ---- one event more

module _ (events : List Event) (event : Event) (objects : Objects) where
  call_more : (call : Asked) → IsGoodCall events objects call → IsGoodCall (events ++ event ∷ []) objects call
  call_more list_names good = tt
  call_more (get_object name) good = tt
  call_more (put_file name bytes) good = (put_more events event objects name bytes good.0, good.1)
  call_more (put_commit version bytes) good = (put_more events event objects (commit_name version) bytes good.0, good.1)

  hand_more : (job : Job) (before talk : Talk) (hand : Hand) → IsGoodHand events objects job before talk hand → IsGoodHand (events ++ event ∷ []) objects job before talk hand
  hand_more job before talk fresh good = tt
  hand_more job before talk (asking call) good = (good.0, good.1, call_more call good.2)
  hand_more job before talk (waiting call told) good = (good.0, good.1, good.2, good.3, seen_more events event objects job before (talk ++ (call, told) ∷ []) good.4)
  hand_more job before talk (ended outcome) good = good

  actor_more : (actor : Actor) → IsGoodActor events objects actor → IsGoodActor (events ++ event ∷ []) objects actor
  actor_more actor good = record {
    begun = begun_more events event actor.job good.begun;
    same = good.same;
    earlier = good.earlier;
    borne = good.borne;
    asked = good.asked;
    told = good.told;
    seen = seen_more events event objects actor.begun actor.before actor.talk good.seen;
    hand = hand_more actor.begun actor.before actor.talk actor.hand good.hand;
  }

pub world_more : (events : List Event) (event : Event) (outs : List (Job × Outcome)) (w : World) → IsGoodWorld events outs w → IsGoodWorld (events ++ event ∷ []) outs w
world_more events event outs w good = record {
  store = store_more events event w.objects good.store;
  flight = λ put has. let one = good.flight put has in (put_more events event w.objects put.0 put.1 one.0, one.1);
  actors = λ name actor is. actor_more events event w.objects actor (good.actors name actor is);
  told = good.told;
  handed = λ item answer was. submitted_more events event item (good.handed item answer was);
  parts = good.parts;
}

-- ---- more objects

-- nothing is told of an empty table
none_told : (answer : AppendAnswer) (b : Batch) → TellsAppend answer b [] → ⊥
none_told (appended.Committed version) b facts = let no = facts.1 in absurd cc
none_told (appended.Already number) b facts = none_in (told_of b) facts.1
none_told (appended.Stale last) b facts = none_in last facts.1
none_told appended.Differs b facts = none_in _ facts.2
none_told appended.StreamClosed b facts = none_in b.application facts.0

module _ (laws : AreLaws) (objects more : Objects) (sound : IsSound objects) (still : IsSound more) (grown : HasObjectsOf objects more) where
  put_lasts : (events : List Event) (name bytes : List ℕ) → IsGoodPut events objects name bytes → IsGoodPut events more name bytes
  put_lasts events name bytes good = put_grows objects more sound still grown events name bytes (λ version new. laws.commit_stays objects more version bytes grown new) (λ version one. laws.checkpoint_stays objects more version bytes grown one) good

  call_lasts : (events : List Event) (call : Asked) → IsGoodCall events objects call → IsGoodCall events more call
  call_lasts events list_names good = tt
  call_lasts events (get_object name) good = tt
  call_lasts events (put_file name bytes) good = (put_lasts events name bytes good.0, good.1)
  call_lasts events (put_commit version bytes) good = (put_lasts events (commit_name version) bytes good.0, good.1)

  hand_lasts : (events : List Event) (job : Job) (before talk : Talk) (hand : Hand) → IsGoodHand events objects job before talk hand → IsGoodHand events more job before talk hand
  hand_lasts events job before talk fresh good = tt
  hand_lasts events job before talk (asking call) good = (good.0, good.1, call_lasts events call good.2)
  hand_lasts events job before talk (waiting call told) good =
      (good.0, good.1, good.2, borne_grows objects more call told grown good.3, seen_lasts events objects more job before (talk ++ (call, told) ∷ []) grown good.4)
  hand_lasts events job before talk (ended outcome) good = good

  pub actor_lasts : (events : List Event) (actor : Actor) → IsGoodActor events objects actor → IsGoodActor events more actor
  actor_lasts events actor good = record {
    begun = good.begun;
    same = good.same;
    earlier = bears_grows objects more actor.before grown good.earlier;
    borne = bears_grows objects more actor.talk grown good.borne;
    asked = good.asked;
    told = good.told;
    seen = seen_lasts events objects more actor.begun actor.before actor.talk grown good.seen;
    hand = hand_lasts events actor.begun actor.before actor.talk actor.hand good.hand;
  }

  pub puts_last : (events : List Event) (flight : Flight) → AreGoodPuts events objects flight → AreGoodPuts events more flight
  puts_last events flight good = λ put has. let one = good put has in (put_lasts events put.0 put.1 one.0, one.1)

  batch_lasts_on : (schema : Schema) (entries : List Entry) → Holds more schema entries → (job : SinkJob) (answer : AppendAnswer) → TellsOfBatch sound.schema sound.entries job answer → TellsOfBatch schema entries job answer
  batch_lasts_on schema entries held job answer told = by_entries sound.entries sound.holds sound.lawful.begins told
    where
      by_entries : (own : List Entry) → Holds objects sound.schema own → Begins own → TellsOfBatch sound.schema own job answer → TellsOfBatch schema entries job answer
      by_entries [] holds begins (b, of_job, facts) = absurd (none_told answer b facts)
      by_entries (first ∷ rest) holds begins (b, of_job, facts) =
          let same : sound.schema ≡ schema = same_schema objects more sound.schema grown schema first rest entries begins holds held in
          let later = front objects more sound.schema grown schema (first ∷ rest) entries begins holds held in
          (b, subst (λ (s : Schema). IsBatchOf s job b) same of_job, subst (TellsAppend answer b) (sym later.1) (append_lasts answer b (first ∷ rest) later.0 facts))

  close_lasts_on : (schema : Schema) (entries : List Entry) → Holds more schema entries → (application : List ℕ) (answer : Closing) → TellsClose answer application sound.entries → TellsClose answer application entries
  close_lasts_on schema entries held application answer facts =
      let later = front objects more sound.schema grown schema sound.entries entries sound.lawful.begins sound.holds held in
      subst (TellsClose answer application) (sym later.1) (close_lasts answer application sound.entries later.0 facts)

  so_lasts : (schema : Schema) (entries : List Entry) → Holds more schema entries → (job : SinkJob) (answer : Result SinkOutcome SinkFault) → IsSoOf sound.schema sound.entries job answer → IsSoOf schema entries job answer
  so_lasts schema entries held job (Ok (Committed version)) so = batch_lasts_on schema entries held job (appended.Committed version) so
  so_lasts schema entries held job (Ok (Already number)) so = batch_lasts_on schema entries held job (appended.Already number) so
  so_lasts schema entries held job (Ok (Closed version)) so = (so.0, close_lasts_on schema entries held job.application (closed.Closed version) so.1)
  so_lasts schema entries held job (Ok AlreadyClosed) so = (so.0, close_lasts_on schema entries held job.application closed.AlreadyClosed so.1)
  so_lasts schema entries held job (Err (faults.Stale last)) so = batch_lasts_on schema entries held job (appended.Stale last) so
  so_lasts schema entries held job (Err faults.StreamClosed) so = batch_lasts_on schema entries held job appended.StreamClosed so
  so_lasts schema entries held job (Err (faults.Differs name)) so = tt
  so_lasts schema entries held job (Err (faults.Contended newest)) so = tt
  so_lasts schema entries held job (Err (faults.Lost version)) so = tt
  so_lasts schema entries held job (Err (faults.BadLog version)) so = tt
  so_lasts schema entries held job (Err (faults.ReadOnly fault)) so = tt
  so_lasts schema entries held job (Err (faults.BadRow index fault)) so = tt
  so_lasts schema entries held job (Err faults.BadApp) so = tt
  so_lasts schema entries held job (Err faults.TooLarge) so = tt
  so_lasts schema entries held job (Err faults.FileTooLarge) so = tt
  so_lasts schema entries held job (Err (faults.SchemaChanged version)) so = tt
  so_lasts schema entries held job (Err faults.Memory) so = tt

  pub told_lasts : (outs : List (Job × Outcome)) → IsToldSo objects outs → IsToldSo more outs
  told_lasts outs told = λ item answer was schema entries held. so_lasts schema entries held item answer (told item answer was sound.schema sound.entries sound.holds)

  part_lasts : (schema : Schema) (entries : List Entry) → Holds more schema entries → (job : SourceJob) (answer : Result ReadRows TailFault) → IsPartOfTable sound.schema sound.entries job answer → IsPartOfTable schema entries job answer
  part_lasts schema entries held job (Err fault) part = tt
  part_lasts schema entries held job (Ok out) part = by_entries sound.entries sound.holds sound.lawful.begins part
    where
      -- a table that rows were handed out of has a version, and so its schema stays
      by_entries : (own : List Entry) → Holds objects sound.schema own → Begins own → IsPartOfTable sound.schema own job (Ok out) → IsPartOfTable schema entries job (Ok out)
      by_entries [] holds begins none = absurd none
      by_entries (first ∷ rest) holds begins own =
          let same : sound.schema ≡ schema = same_schema objects more sound.schema grown schema first rest entries begins holds held in
          let later = front objects more sound.schema grown schema (first ∷ rest) entries begins holds held in
          subst (λ (es : List Entry). IsPartOfTable schema es job (Ok out)) (sym later.1) (own.0 ∙ same, laws.part_stays job.max job.place (offset_view out.next) (first ∷ rest) later.0 (row_views out.rows.items) own.1)

  pub parts_last : (outs : List (Job × Outcome)) → AreReadSo objects outs → AreReadSo more outs
  parts_last outs parts = λ job end has schema entries held. part_lasts schema entries held job end.answer (parts job end has sound.schema sound.entries sound.holds)
