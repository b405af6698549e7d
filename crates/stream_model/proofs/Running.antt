-- Whatever happens, it is so of each world; and what follows of it for a table that a store holds.
use Rattle.std.proofs.Common.{refl, Contains, List, Option, Some, None, [], append-nil, append_assoc, subst, suc, sym, zero, ℕ, ◌++◌, ◌∷◌, ◌≡◌}
use Rattle.std.specs.List.{flat_map}
use Rattle.std.specs.Prelude.{Ok, Result, slice_get}
use Rattle.std.proofs.lemmas.List.Elements.{Contains-append_left, Contains-append_right, Contains-push}
use Rattle.schema_tree.specs.Reading.{schema_of}
use Rattle.store_core.specs.Objects.{HasObjectsOf, Objects}
use Rattle.session_core.specs.Talks.{Asked, get_object, list_names, put_commit, put_file}
use Rattle.store_core.specs.Names.{commit_name}
use Rattle.table_model.specs.Table.{Batch, ToldNumber, Entry, batches, tells, told_of}
use Rattle.table_model.proofs.Callers.{batch_of_told}
use Rattle.table_store.specs.Holds.{Holds}
use Rattle.table_store.specs.Schema.{Schema}
use Rattle.table_store.proofs.HoldingSchema.{one_creation_of}
use Rattle.sink_core.specs.SinkSessions.{SinkJob}
use Rattle.batch_core.specs.declared.fault.SinkFault.{SinkFault}
use Rattle.sink_core.specs.declared.sink_state.SinkOutcome.{SinkOutcome}
use Rattle.session_laws.specs.Rows.{IsBatchOf}
use Rattle.session_laws.specs.Jobs.{Job, Outcome, CanBegin}
use Rattle.session_laws.proofs.Callers.{creation_commit}
use Rattle.stream_model.specs.Events.{Event, Happens, IsWorldOf, Ran, acts, at_first, begin, begins, die, dies, ends, goes_on, lands, nothing_happens, then_one, with_told}
use Rattle.stream_model.specs.Headline.{Acknowledges, IsHeadline, IsSoOf, already, committed}
use Rattle.session_core.specs.CallEffects.{left_by_call}
use Rattle.stream_model.specs.Worlds.{How, IsFirstStore, World, first_world, fresh, late, left_how, lost, once, short, twice}
use Rattle.stream_model.proofs.Calls.{got_one}
use Rattle.stream_model.proofs.Good.{IsGoodWorld, world_more}
use Rattle.stream_model.proofs.Growing.{lawful_held}
use Rattle.stream_model.proofs.Landing.{IsBegunAsAsked, none_in, put_grew}
use Rattle.stream_model.proofs.Laws.{AreLaws}
use Rattle.stream_model.proofs.Once.{stands_once}
use Rattle.stream_model.proofs.Readers.{hands_out}
use Rattle.stream_model.proofs.Seen.{none_seen}
use Rattle.stream_model.proofs.Steps.{with_good, without_actor, world_acts, world_asks, world_put, world_tells}
use Rattle.stream_model.specs.Puts.{WasBegun, WasCreated}

-- a job that is begun now was begun
begun_now : (events : List Event) (name : ℕ) (job : Job) → CanBegin job → WasBegun (events ++ begin name job ∷ []) job
begun_now events name job can = (can, name, Contains-push events (begin name job))

-- a store without objects holds no batch
no_batch : (schema : Schema) (entries : List Entry) → Holds [] schema entries → (b : Batch) → Contains (batches entries) b → ⊥
no_batch schema [] holds b has = none_in b has
no_batch schema (entry ∷ entries) holds b has = let none = holds.0.1 in absurd cc

-- in the world of nothing, nothing is amiss
empty_good : AreLaws → IsGoodWorld [] [] (first_world [])
empty_good laws = record {
  store = record {
    sound = laws.empty;
    bytes = λ name bytes is. absurd cc;
    created = λ bytes is. absurd cc;
    files = λ application number bytes is. absurd cc;
    submitted = λ schema entries holds b has. absurd (no_batch schema entries holds b has);
  };
  flight = λ put has. absurd (none_in put has);
  actors = λ name actor is. absurd cc;
  told = λ job end has. absurd (none_in _ has.2);
  handed = λ job end has. absurd (none_in _ has.2);
  parts = λ job end has. absurd (none_in _ has);
}

-- so it is in a first one
first_good : AreLaws → (first : Objects) → IsFirstStore first → IsGoodWorld [] [] (first_world first)
first_good laws first is = subst (λ (objects : Objects). IsGoodWorld [] [] (first_world objects)) (sym is) (empty_good laws)

module _ (laws : AreLaws) where
  -- one event
  world_happens : (events : List Event) (outs : List (Job × Outcome)) (w : World) (event : Event) (told : Option (Job × Outcome)) (later : World) → IsGoodWorld events outs w → Happens w event told later → IsGoodWorld (events ++ event ∷ []) (with_told outs told) later
  world_happens events outs w event told later good happens = by_case event told later happens (world_more events event outs w good)
    where
      by_case : (event : Event) (told : Option (Job × Outcome)) (later : World) → Happens w event told later → IsGoodWorld (events ++ event ∷ []) outs w → IsGoodWorld (events ++ event ∷ []) (with_told outs told) later
      by_case event told later (begins name job begun before can same borne) more = with_good (events ++ begin name job ∷ []) outs w name (record { job = job; begun = begun; before = before; talk = []; hand = fresh }) more (record {
        begun = begun_now events name job can;
        same = same;
        earlier = borne;
        borne = tt;
        asked = tt;
        told = tt;
        seen = none_seen (events ++ begin name job ∷ []) w.objects begun before;
        hand = tt;
      })
      by_case event told later (dies name) more = without_actor (events ++ die name ∷ []) outs w name more
      by_case event told later (acts name how actor call is hand) more = world_acts laws (events ++ event ∷ []) outs w name actor call is hand more how
      by_case event told later (goes_on made name actor now call taken does of_bytes) more = world_asks laws (events ++ event ∷ []) outs w event name actor now taken more call does of_bytes
      by_case event told later (ends made name actor now outcome taken does) more = world_tells laws (events ++ event ∷ []) outs w event name actor now taken more outcome does
      by_case event told later (lands place put is) more =
          let one = more.flight put (got_one w.flight place put is) in
          world_put laws (events ++ event ∷ []) outs w put.0 put.1 more one.0 one.1
      by_case event told later (nothing_happens made unfit) more = more

  -- all events
  ran_good : (first : Objects) → IsFirstStore first → (events : List Event) (outs : List (Job × Outcome)) (w : World) → Ran (first_world first) events outs w → IsGoodWorld events outs w
  ran_good first is events outs w at_first = first_good laws first is
  ran_good first is events outs w (then_one before earlier old event told now ran happens) = world_happens before earlier old event told now (ran_good first is before earlier old ran) happens

  pub world_ran : (events : List Event) (outs : List (Job × Outcome)) (w : World) → IsWorldOf events outs w → IsGoodWorld events outs w
  world_ran events outs w of = ran_good of.0 of.1 events outs w of.2

-- ---- later worlds

-- objects stay through an event
call_grew : (objects : Objects) (call : Asked) → HasObjectsOf objects (left_by_call objects call)
call_grew objects list_names = λ name bytes stands. stands
call_grew objects (get_object asked) = λ name bytes stands. stands
call_grew objects (put_file file bytes) = put_grew objects file bytes
call_grew objects (put_commit version bytes) = put_grew objects (commit_name version) bytes

pub how_grew : (how : How) (objects : Objects) (call : Asked) → HasObjectsOf objects (left_how how objects call)
how_grew once objects call = call_grew objects call
how_grew twice objects call = λ name bytes stands. call_grew (left_by_call objects call) call name bytes (call_grew objects call name bytes stands)
how_grew late objects call = λ name bytes stands. stands
how_grew lost objects call = λ name bytes stands. stands
how_grew short objects call = λ name bytes stands. stands

pub event_grew : (w : World) (event : Event) (told : Option (Job × Outcome)) (later : World) → Happens w event told later → HasObjectsOf w.objects later.objects
event_grew w event told later (begins name job begun before can same borne) = λ name bytes stands. stands
event_grew w event told later (dies name) = λ name bytes stands. stands
event_grew w event told later (acts name how actor call is hand) = how_grew how w.objects call
event_grew w event told later (goes_on made name actor now call taken does of_bytes) = λ name bytes stands. stands
event_grew w event told later (ends made name actor now outcome taken does) = λ name bytes stands. stands
event_grew w event told later (lands place put is) = put_grew w.objects put.0 put.1
event_grew w event told later (nothing_happens made unfit) = λ name bytes stands. stands

-- and through all
pub ran_grew : (w : World) (events : List Event) (outs : List (Job × Outcome)) (later : World) → Ran w events outs later → HasObjectsOf w.objects later.objects
ran_grew w events outs later at_first = λ name bytes stands. stands
ran_grew w events outs later (then_one before earlier old event told now ran happens) = λ name bytes stands. event_grew old event told now happens name bytes (ran_grew w before earlier old ran name bytes stands)

-- events behind others are all of them
ran_on : (first : World) (events : List Event) (outs : List (Job × Outcome)) (w : World) → Ran first events outs w → (more : List Event) (told : List (Job × Outcome)) (later : World) → Ran w more told later → Ran first (events ++ more) (outs ++ told) later
ran_on first events outs w of more told later at_first = subst (λ (es : List Event). Ran first es (outs ++ []) w) (sym (append-nil events)) (subst (λ (os : List (Job × Outcome)). Ran first events os w) (sym (append-nil outs)) of)
ran_on first events outs w of more told later (then_one before earlier old event one now ran happens) =
    subst (λ (es : List Event). Ran first es (outs ++ with_told earlier one) now) (append_assoc events before (event ∷ []))
    (subst (λ (os : List (Job × Outcome)). Ran first ((events ++ before) ++ event ∷ []) os now) (told_behind one) (then_one (events ++ before) (outs ++ earlier) old event one now (ran_on first events outs w of before earlier old ran) happens))
  where
    told_behind : (one : Option (Job × Outcome)) → with_told (outs ++ earlier) one ≡ outs ++ with_told earlier one
    told_behind None = refl
    told_behind (Some told) = append_assoc outs earlier (told ∷ [])

-- ---- the headline

-- what an entry tells is told in the table
told_at : (entries : List Entry) (version : ℕ) (entry : Entry) (t : ToldNumber) → slice_get entries version ≡ Some entry → Contains (tells entry) t → Contains (flat_map tells entries) t
told_at [] version entry t is has = absurd cc
told_at (first ∷ entries) zero entry t is has =
    let same : first ≡ entry = cc in
    Contains-append_left (tells first) (flat_map tells entries) t (subst (λ (e : Entry). Contains (tells e) t) (sym same) has)
told_at (first ∷ entries) (suc version) entry t is has = Contains-append_right (tells first) (flat_map tells entries) t (told_at entries version entry t is has)

-- a batch that was acknowledged stands
acknowledged_stands : (schema : Schema) (entries : List Entry) (item : SinkJob) (answer : Result SinkOutcome SinkFault) → IsSoOf schema entries item answer → Acknowledges answer → (b : Batch) × IsBatchOf schema item b × Contains (batches entries) b
acknowledged_stands schema entries item _ so (committed version) = (so.0, so.1, batch_of_told entries so.0 (told_at entries version so.2.0 (told_of so.0) so.2.1 so.2.2))
acknowledged_stands schema entries item _ so (already number) = (so.0, so.1, batch_of_told entries so.0 so.2.1)

-- the table was created as a job asked that was handed in
was_created : (events : List Event) (objects : Objects) → IsBegunAsAsked events objects → (schema : Schema) (entries : List Entry) → Holds objects schema entries → WasCreated events schema entries
was_created events objects all schema [] holds = tt
was_created events objects all schema (first ∷ rest) holds =
    let one = all holds.0.0 holds.0.1 in
    let made = creation_commit one.0 holds.0.0 one.2 in
    let same : made.0 ≡ schema = one_creation_of holds.0.0 holds.0.0 made.0 schema first refl made.2 holds.0.2 in
    (one.0, one.1, subst (λ (s : Schema). schema_of one.0.schema ≡ Ok s) same made.1)

pub headline_of : AreLaws → (events : List Event) (outs : List (Job × Outcome)) (w : World) → IsGoodWorld events outs w → (schema : Schema) (entries : List Entry) → Holds w.objects schema entries → IsHeadline events outs schema entries
headline_of laws events outs w good schema entries holds = record {
  created = was_created events w.objects good.store.created schema entries holds;
  once = stands_once entries (lawful_held w.objects schema entries good.store.sound.table holds).rises;
  lawful = lawful_held w.objects schema entries good.store.sound.table holds;
  acknowledged = λ item answer was acknowledges. let one = acknowledged_stands schema entries item answer (good.told item answer was schema entries holds) acknowledges in (good.handed item answer was, one.0, one.1, one.2);
  submitted = λ b has. good.store.submitted schema entries holds b has;
  told = λ item answer was. good.told item answer was schema entries holds;
  parts = λ job end has. good.parts job end has schema entries holds;
  handed = hands_out laws outs schema entries (λ job end has. good.parts job end has schema entries holds);
}

-- So a later world is one of all events.
pub later_world : (events : List Event) (outs : List (Job × Outcome)) (w : World) → IsWorldOf events outs w → (more : List Event) (told : List (Job × Outcome)) (later : World) → Ran w more told later → IsWorldOf (events ++ more) (outs ++ told) later
later_world events outs w of more told later ran = (of.0, of.1, ran_on (first_world of.0) events outs w of.2 more told later ran)
