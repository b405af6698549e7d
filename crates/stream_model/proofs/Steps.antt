-- What is so of a world stays so by each event.
use Rattle.std.proofs.Common.{◌∷◌, ◌≡◌, ◌⊎◌, ℕ, ◌==◌, List, [], ◌++◌, Option, Some, None, Contains, inl, inr, refl, sym, ap, subst, arith}
use Rattle.std.specs.Prelude.{Result, Ok, Err}
use Rattle.std.proofs.lemmas.Bool.{cases_Bool}
use Rattle.std.proofs.lemmas.List.Elements.{Contains-append_cases, Contains-push_cases}
use Rattle.outcomes.specs.Bytes.{IsBytes}
use Rattle.store_core.specs.Objects.{HasObjectsOf, Objects, with_object}
use Rattle.session_core.specs.Talks.{Asked, Bears, IsBorne, Talk, Told, get_object, list_names, put_commit, put_file, told_lost, told_memory}
use Rattle.store_core.specs.Names.{commit_name}
use Rattle.table_log.specs.LoadSessions.{LoadJob}
use Rattle.table_model.specs.Table.{Entry}
use Rattle.table_model.specs.declared.table.AppendAnswer.TheVariants as appended
use Rattle.table_store.specs.Holds.{Holds}
use Rattle.table_store.specs.Schema.{Schema}
use Rattle.batch_core.specs.declared.fault.SinkFault.{SinkFault}
use Rattle.batch_core.specs.declared.fault.SinkFault.TheVariants as faults
use Rattle.source_core.specs.SourceSessions.{SourceJob}
use Rattle.source_core.specs.declared.source_session.ReadEnd.{ReadEnd}
use Rattle.sink_core.specs.SinkSessions.{SinkJob}
use Rattle.sink_core.specs.declared.sink_state.SinkEnd.{SinkEnd}
use Rattle.sink_core.specs.declared.sink_state.SinkOutcome.{SinkOutcome}
use Rattle.sink_core.specs.declared.sink_state.SinkOutcome.TheVariants.{Already, AlreadyClosed, Closed, Committed}
use Rattle.session_laws.specs.May.{BearsSession, MayAsk, MayTell}
use Rattle.session_laws.specs.Rows.{MayTellOfStream}
use Rattle.session_laws.specs.Jobs.{Asks, IsValidJob, Job, Outcome, item_answers, checkpoints, creates, loads, read, reads, stream, streams}
use Rattle.session_laws.specs.Moves.{Does, HasAsked, asks, tells}
use Rattle.stream_model.specs.Events.{Event, HasActor, IsOfBytes, ComesToTalk, begins_now, loses, takes, with_told}
use Rattle.stream_model.specs.Headline.{IsPartOfTable, IsSoOf}
use Rattle.stream_model.specs.Puts.{IsGoodPut, WasBegun}
use Rattle.session_core.specs.CallEffects.{left_by_call, told_by_call}
use Rattle.stream_model.specs.Worlds.{Actor, Hand, How, IsBegunAs, World, acted, asking, ended, late, lost, once, sent, short, twice, waiting, with_actor}
use Rattle.stream_model.proofs.Begun.{IsToldAlone, answered_alone, part_begun, told_begun, valid_begun}
use Rattle.stream_model.proofs.Calls.{IsGoodCall, call_good, heard_so, lost_borne, memory_borne, told_borne}
use Rattle.stream_model.proofs.Good.{IsGoodActor, IsGoodHand, IsGoodWorld, actor_lasts, parts_last, puts_last, told_lasts}
use Rattle.stream_model.proofs.Landing.{IsGoodStore, none_in, put_grew, put_lands}
use Rattle.stream_model.proofs.Laws.{AreLaws}
use Rattle.stream_model.proofs.Lacking.{AllTold, HasVersion, WasTold, told_more, was_told}
use Rattle.stream_model.proofs.Readers.{read_part}
use Rattle.stream_model.proofs.Seen.{SeesWell, none_seen, seen_left, seen_lost}

-- ---- actors

-- an actor of a world in which one was changed is that one, or was there
pub actor_was : (w : World) (name : ℕ) (found : Option Actor) (other : ℕ) (actor : Actor) → (with_actor w name found).actors other ≡ Some actor → (found ≡ Some actor) ⊎ (w.actors other ≡ Some actor)
actor_was w name found other actor is = elim (cases_Bool (other == name)) [
  | inl own ↦ let here : found ≡ Some actor = rw own at is in inl here
  | inr apart ↦ let there : w.actors other ≡ Some actor = rw apart at is in inr there
]

pub some_same : {A : Type 0} (x y : A) → Some x ≡ Some y → x ≡ y
some_same x y is = cc

-- one good actor more
pub with_good : (events : List Event) (outs : List (Job × Outcome)) (w : World) (name : ℕ) (actor : Actor) → IsGoodWorld events outs w → IsGoodActor events w.objects actor → IsGoodWorld events outs (with_actor w name (Some actor))
with_good events outs w name actor good own = record {
  store = good.store;
  flight = good.flight;
  actors = λ other one is. elim (actor_was w name (Some actor) other one is) [
    | inl same ↦ subst (IsGoodActor events w.objects) (some_same actor one same) own
    | inr there ↦ good.actors other one there
  ];
  told = good.told;
  handed = good.handed;
  parts = good.parts;
}

pub without_actor : (events : List Event) (outs : List (Job × Outcome)) (w : World) (name : ℕ) → IsGoodWorld events outs w → IsGoodWorld events outs (with_actor w name None)
without_actor events outs w name good = record {
  store = good.store;
  flight = good.flight;
  actors = λ other one is. elim (actor_was w name None other one is) [
    | inl none ↦ absurd cc
    | inr there ↦ good.actors other one there
  ];
  told = good.told;
  handed = good.handed;
  parts = good.parts;
}

module _ (laws : AreLaws) where
  -- ---- puts

  -- a world whose store grew to another good one
  pub world_grows : (events : List Event) (outs : List (Job × Outcome)) (w : World) (more : Objects) → IsGoodWorld events outs w → HasObjectsOf w.objects more → IsGoodStore events more → IsGoodWorld events outs (record w { objects = more })
  world_grows events outs w more good grown store = record {
    store = store;
    flight = puts_last laws w.objects more good.store.sound.table store.sound.table grown events w.flight good.flight;
    actors = λ name actor is. actor_lasts laws w.objects more good.store.sound.table store.sound.table grown events actor (good.actors name actor is);
    told = told_lasts laws w.objects more good.store.sound.table store.sound.table grown outs good.told;
    handed = good.handed;
    parts = parts_last laws w.objects more good.store.sound.table store.sound.table grown outs good.parts;
  }

  pub world_put : (events : List Event) (outs : List (Job × Outcome)) (w : World) (name bytes : List ℕ) → IsGoodWorld events outs w → IsGoodPut events w.objects name bytes → IsBytes bytes → IsGoodWorld events outs (record w { objects = with_object w.objects name bytes })
  world_put events outs w name bytes good put of_bytes =
      world_grows events outs w (with_object w.objects name bytes) good (put_grew w.objects name bytes) (put_lands laws.commit_lands laws.file_lands laws.checkpoint_lands events w.objects name bytes good.store put of_bytes)

  -- a call takes effect, and stays good
  world_call : (events : List Event) (outs : List (Job × Outcome)) (w : World) (call : Asked) → IsGoodWorld events outs w → IsGoodCall events w.objects call → IsGoodWorld events outs (record w { objects = left_by_call w.objects call })
  world_call events outs w list_names good one = good
  world_call events outs w (get_object name) good one = good
  world_call events outs w (put_file name bytes) good one = world_put events outs w name bytes good one.0 one.1
  world_call events outs w (put_commit version bytes) good one = world_put events outs w (commit_name version) bytes good one.0 one.1

  -- ---- a call is answered

  -- the actor that asks stays there while its call takes effect
  hand_asks : (events : List Event) (objects : Objects) (actor : Actor) (call : Asked) → actor.hand ≡ asking call → IsGoodActor events objects actor → Asks actor.begun actor.before actor.talk call × HasVersion call × IsGoodCall events objects call
  hand_asks events objects actor call is good = subst (IsGoodHand events objects actor.begun actor.before actor.talk) is good.hand

  waits : (events : List Event) (objects : Objects) (actor : Actor) (call : Asked) (told : Told) → IsGoodActor events objects actor → Asks actor.begun actor.before actor.talk call → HasVersion call → WasTold actor.talk call told → IsBorne objects call told
      → SeesWell events objects actor.begun actor.before (actor.talk ++ (call, told) ∷ []) → IsGoodActor events objects (record actor { hand = waiting call told })
  waits events objects actor call told good own has was borne seen = record {
    begun = good.begun;
    same = good.same;
    earlier = good.earlier;
    borne = good.borne;
    asked = good.asked;
    told = good.told;
    seen = good.seen;
    hand = (own, has, was, borne, seen);
  }

  module _ (events : List Event) (outs : List (Job × Outcome)) (w : World) (name : ℕ) (actor : Actor) (call : Asked) (is : w.actors name ≡ Some actor) (hand : actor.hand ≡ asking call) (good : IsGoodWorld events outs w) where
    -- the call as it is asked for
    own : Asks actor.begun actor.before actor.talk call × HasVersion call × IsGoodCall events w.objects call
    own = hand_asks events w.objects actor call hand (good.actors name actor is)

    -- where it is answered over these objects
    answered : (objects : Objects) (told : Told) → IsGoodWorld events outs (record w { objects = objects }) → WasTold actor.talk call told → IsBorne objects call told → SeesWell events objects actor.begun actor.before (actor.talk ++ (call, told) ∷ []) → IsGoodWorld events outs (with_actor (record w { objects = objects }) name (Some (record actor { hand = waiting call told })))
    answered objects told behind was borne seen = with_good events outs (record w { objects = objects }) name (record actor { hand = waiting call told }) behind (waits events objects actor call told (behind.actors name actor is) own.0 own.1 was borne seen)

    -- a put in flight more
    put_sent : (put : List ℕ × List ℕ) → (asked : Asked) → IsGoodCall events w.objects asked → Contains (sent asked) put → IsGoodPut events w.objects put.0 put.1 × IsBytes put.1
    put_sent put list_names one has = absurd (none_in put has)
    put_sent put (get_object object) one has = absurd (none_in put has)
    put_sent put (put_file file bytes) one has = elim (Contains-push_cases [] (file, bytes) put has) [
      | inl none ↦ absurd (none_in put none)
      | inr same ↦ subst (λ (p : List ℕ × List ℕ). IsGoodPut events w.objects p.0 p.1 × IsBytes p.1) same one
    ]
    put_sent put (put_commit version bytes) one has = elim (Contains-push_cases [] (commit_name version, bytes) put has) [
      | inl none ↦ absurd (none_in put none)
      | inr same ↦ subst (λ (p : List ℕ × List ℕ). IsGoodPut events w.objects p.0 p.1 × IsBytes p.1) same one
    ]

    call_sent : IsGoodWorld events outs (record w { flight = w.flight ++ sent call })
    call_sent = record {
      store = good.store;
      flight = λ put has. elim (Contains-append_cases w.flight (sent call) put has) [
        | inl was ↦ good.flight put was
        | inr new ↦ put_sent put call own.2 new
      ];
      actors = good.actors;
      told = good.told;
      handed = good.handed;
      parts = good.parts;
    }

    -- a read that is told nothing sees what it saw
    lost_seen : (told : Told) → (told ≡ told_lost) ⊎ (told ≡ told_memory) → SeesWell events w.objects actor.begun actor.before (actor.talk ++ (call, told) ∷ [])
    lost_seen told none = seen_lost events w.objects actor.begun actor.before actor.talk call told none own.0 (good.actors name actor is).seen

    pub world_acts : (how : How) → IsGoodWorld events outs (acted w name actor call how)
    world_acts once =
        let here = good.actors name actor is in
        answered (left_by_call w.objects call) (told_by_call w.objects call) (world_call events outs w call good own.2) (was_told w.objects actor.talk good.store.sound here.borne call) (told_borne w.objects call)
        (seen_left events w.objects good.store actor.begun actor.before actor.talk call here.earlier own.0 here.seen)
    world_acts twice =
        let first = world_call events outs w call good own.2 in
        let there = first.actors name actor is in
        let again = hand_asks events (left_by_call w.objects call) actor call hand there in
        answered (left_by_call (left_by_call w.objects call) call) (told_by_call (left_by_call w.objects call) call) (world_call events outs (record w { objects = left_by_call w.objects call }) call first again.2)
        (was_told (left_by_call w.objects call) actor.talk first.store.sound there.borne call) (told_borne (left_by_call w.objects call) call)
        (seen_left events (left_by_call w.objects call) first.store actor.begun actor.before actor.talk call there.earlier own.0 there.seen)
    world_acts late = with_good events outs (record w { flight = w.flight ++ sent call }) name (record actor { hand = waiting call told_lost }) call_sent (waits events w.objects actor call told_lost (good.actors name actor is) own.0 own.1 tt (lost_borne w.objects call) (lost_seen told_lost (inl refl)))
    world_acts lost = answered w.objects told_lost good tt (lost_borne w.objects call) (lost_seen told_lost (inl refl))
    world_acts short = answered w.objects told_memory good tt (memory_borne w.objects call) (lost_seen told_memory (inr refl))

  -- ---- a session goes on

  -- the talk that it comes to is borne, was asked for, and is what it was told; a read's shows what was listed
  abbrev IsGoodTalk : List Event → Objects → Job → (before now : Talk) → Type 0
  IsGoodTalk events objects job before now = Bears objects now × HasAsked job before now × AllTold [] now × SeesWell events objects job before now

  actor_of : (w : World) (event : Event) (name : ℕ) (actor : Actor) (now : Talk) → ComesToTalk w event name actor now → HasActor w name actor
  actor_of w event name actor now (begins_now called one is hand) = is
  actor_of w event name actor now (takes called one call told is hand) = is
  actor_of w event name actor now (loses called one call told is hand) = is

  heard_of : (events : List Event) (objects : Objects) (actor : Actor) (call : Asked) (waited told : Told) → IsGoodActor events objects actor → actor.hand ≡ waiting call waited → (WasTold actor.talk call waited → WasTold actor.talk call told) → (IsBorne objects call waited → IsBorne objects call told)
      → (IsGoodHand events objects actor.begun actor.before actor.talk (waiting call waited) → SeesWell events objects actor.begun actor.before (actor.talk ++ (call, told) ∷ [])) → IsGoodTalk events objects actor.begun actor.before (actor.talk ++ (call, told) ∷ [])
  heard_of events objects actor call waited told good is was borne seen =
      let hand = subst (IsGoodHand events objects actor.begun actor.before actor.talk) is good.hand in
      let so = heard_so laws.bears_both objects actor.begun actor.before actor.talk call told good.borne good.asked (borne hand.3) hand.0 in
      (so.0, so.1, told_more [] actor.talk call told good.told (was hand.2) hand.1, seen hand)

  taken_so : (events : List Event) (w : World) (actor : Actor) (event : Event) (name : ℕ) (now : Talk) → IsGoodActor events w.objects actor → ComesToTalk w event name actor now → IsGoodTalk events w.objects actor.begun actor.before now
  taken_so events w actor event name now good (begins_now called one is hand) = (tt, tt, tt, none_seen events w.objects actor.begun actor.before)
  taken_so events w actor event name now good (takes called one call told is hand) = heard_of events w.objects actor call told told good hand (λ was. was) (λ borne. borne) (λ waits_so. waits_so.4)
  taken_so events w actor event name now good (loses called one call told is hand) = heard_of events w.objects actor call told told_lost good hand (λ was. tt) (λ borne. lost_borne w.objects call)
      (λ waits_so. seen_lost events w.objects actor.begun actor.before actor.talk call told_lost (inl refl) waits_so.0 good.seen)

  -- a commit is put as a version that one can have
  version_of : (objects : Objects) (schema : Schema) (job : Job) (now : Talk) (call : Asked) → MayAsk objects schema job now call → HasVersion call
  version_of objects schema job now list_names may = tt
  version_of objects schema job now (get_object name) may = tt
  version_of objects schema job now (put_file name bytes) may = tt
  version_of objects schema (streams job) now (put_commit version bytes) may = may.1.0.fits
  version_of objects schema (creates job) now (put_commit version bytes) may = may.0.0.fits
  version_of objects schema (loads job) now (put_commit version bytes) may = absurd may
  version_of objects schema (checkpoints job) now (put_commit version bytes) may = absurd may
  version_of objects schema (reads job) now (put_commit version bytes) may = absurd may

  module _ (events : List Event) (outs : List (Job × Outcome)) (w : World) (event : Event) (name : ℕ) (actor : Actor) (now : Talk) (taken : ComesToTalk w event name actor now) (good : IsGoodWorld events outs w) where
    acting : IsGoodActor events w.objects actor
    acting = good.actors name actor (actor_of w event name actor now taken)

    so : IsGoodTalk events w.objects actor.begun actor.before now
    so = taken_so events w actor event name now acting taken

    -- the store bears the session
    amid : (schema : Schema) (entries : List Entry) → Holds w.objects schema entries → BearsSession w.objects schema entries actor.begun actor.before now
    amid schema entries holds = record {
      sound = good.store.sound;
      bytes = good.store.bytes;
      holds = holds;
      earlier = acting.earlier;
      borne = so.0;
      asked = so.1;
    }

    -- its job is valid
    valid : IsValidJob actor.begun
    valid = valid_begun actor.job actor.begun acting.begun.0 acting.same

    next : (hand : Hand) → IsGoodHand events w.objects actor.begun actor.before now hand → IsGoodActor events w.objects (record actor { talk = now; hand = hand })
    next hand has = record {
      begun = acting.begun;
      same = acting.same;
      earlier = acting.earlier;
      borne = so.0;
      asked = so.1;
      told = so.2;
      seen = so.3;
      hand = has;
    }

    pub world_asks : (call : Asked) → Does actor.begun actor.before now (asks call) → IsOfBytes call → IsGoodWorld events outs (with_actor w name (Some (record actor { talk = now; hand = asking call })))
    world_asks call does of_bytes =
        let table = good.store.sound.table in
        let may = laws.may w.objects table.schema table.entries actor.begun actor.before now (asks call) (amid table.schema table.entries table.holds) valid does in
        let one = call_good events w.objects table.schema table.entries good.store.sound table.holds actor.job actor.begun acting.begun acting.same actor.before now acting.earlier so.0 call does may of_bytes in
        with_good events outs w name (record actor { talk = now; hand = asking call }) good (next (asking call) (does.0, version_of w.objects table.schema actor.begun now call may, one))

    -- ---- what it tells

    stream_so : (schema : Schema) (entries : List Entry) (job : SinkJob) (load : LoadJob) (answer : Result SinkOutcome SinkFault) → MayTellOfStream w.objects schema entries (record job { load = load }) now answer → IsSoOf schema entries job answer
    stream_so schema entries job load (Ok (Committed version)) may = told_begun schema entries job load (appended.Committed version) may
    stream_so schema entries job load (Ok (Already number)) may = told_begun schema entries job load (appended.Already number) may
    stream_so schema entries job load (Ok (Closed version)) may = may
    stream_so schema entries job load (Ok AlreadyClosed) may = may
    stream_so schema entries job load (Err (faults.Stale last)) may = told_begun schema entries job load (appended.Stale last) may
    stream_so schema entries job load (Err faults.StreamClosed) may = told_begun schema entries job load appended.StreamClosed may.0
    stream_so schema entries job load (Err (faults.Differs object)) may = tt
    stream_so schema entries job load (Err (faults.Contended newest)) may = tt
    stream_so schema entries job load (Err (faults.Lost version)) may = tt
    stream_so schema entries job load (Err (faults.BadLog version)) may = tt
    stream_so schema entries job load (Err (faults.ReadOnly fault)) may = tt
    stream_so schema entries job load (Err (faults.BadRow index fault)) may = tt
    stream_so schema entries job load (Err faults.BadApp) may = tt
    stream_so schema entries job load (Err faults.TooLarge) may = tt
    stream_so schema entries job load (Err faults.FileTooLarge) may = tt
    stream_so schema entries job load (Err (faults.SchemaChanged version)) may = tt
    stream_so schema entries job load (Err faults.Memory) may = tt

    -- what it told of a stream's job it might tell
    outcome_so : (schema : Schema) (entries : List Entry) (outcome : Outcome) → MayTell w.objects schema entries actor.begun actor.before now outcome → (job : SinkJob) (end : SinkEnd) → IsBegunAs (streams job) actor.begun → outcome ≡ stream end → IsSoOf schema entries job end.answer
    outcome_so schema entries outcome may job end same as_told =
        stream_so schema entries job same.0 end.answer
        (subst (λ (o : Outcome). MayTell w.objects schema entries (streams (record job { load = same.0 })) actor.before now o) as_told (subst (λ (j : Job). MayTell w.objects schema entries j actor.before now outcome) same.2 may))

    -- what a read tells is a part of the table, by its schema
    part_so : (schema : Schema) (entries : List Entry) → Holds w.objects schema entries → (outcome : Outcome) → MayTell w.objects schema entries actor.begun actor.before now outcome → Does actor.begun actor.before now (tells outcome)
        → (job : SourceJob) (end : ReadEnd) → IsBegunAs (reads job) actor.begun → outcome ≡ read end → IsPartOfTable schema entries job end.answer
    part_so schema entries holds outcome may does job end same as_told = part_begun schema entries job same.0 end.answer (by_read (subst IsAll same.1 (subst IsTold as_told (may, does), so.1, so.3)))
      where
        IsTold : Outcome → Type 0
        IsTold told = MayTell w.objects schema entries actor.begun actor.before now told × Does actor.begun actor.before now (tells told)

        IsAll : Job → Type 0
        IsAll j = (MayTell w.objects schema entries j actor.before now (read end) × Does j actor.before now (tells (read end))) × HasAsked j actor.before now × SeesWell events w.objects j actor.before now

        by_read : IsAll (reads (record job { known = same.0 })) → IsPartOfTable schema entries (record job { known = same.0 }) end.answer
        by_read all = read_part laws events w.objects schema entries good.store holds (record job { known = same.0 }) actor.before now end acting.earlier all.2 all.1 all.0.1.0 all.0.0

    pub world_tells : (outcome : Outcome) → Does actor.begun actor.before now (tells outcome) → IsGoodWorld events (with_told outs (Some (actor.job, outcome))) (with_actor w name (Some (record actor { talk = now; hand = ended outcome })))
    world_tells outcome does =
        let behind = with_good events outs w name (record actor { talk = now; hand = ended outcome }) good (next (ended outcome) does) in
        record {
          store = behind.store;
          flight = behind.flight;
          actors = behind.actors;
          told = λ item answer was schema entries holds. elim (Contains-push_cases outs (actor.job, outcome) (was.0, was.1) was.2) [
            | inl before ↦ good.told item answer (was.0, was.1, before, was.3) schema entries holds
            | inr same ↦
                let alone = told_alone item answer was.0 was.1 same was.3 in
                subst (IsSoOf schema entries item) alone.3 (outcome_so schema entries outcome (may_tell schema entries holds) item alone.0 (begun_as (streams item) alone.1) alone.2)
          ];
          handed = λ item answer was. elim (Contains-push_cases outs (actor.job, outcome) (was.0, was.1) was.2) [
            | inl before ↦ good.handed item answer (was.0, was.1, before, was.3)
            | inr same ↦
                let alone = told_alone item answer was.0 was.1 same was.3 in
                (streams item, subst (WasBegun events) alone.1 acting.begun, (0, omega arith, refl))
          ];
          parts = λ job end has schema entries holds. elim (Contains-push_cases outs (actor.job, outcome) (reads job, read end) has) [
            | inl was ↦ good.parts job end was schema entries holds
            | inr same ↦ part_so schema entries holds outcome (may_tell schema entries holds) does job end (begun_as (reads job) (ap (λ (one : Job × Outcome). one.0) same)) (ap (λ (one : Job × Outcome). one.1) same)
          ];
        }
      where
        may_tell : (schema : Schema) (entries : List Entry) → Holds w.objects schema entries → MayTell w.objects schema entries actor.begun actor.before now outcome
        may_tell schema entries holds = laws.may w.objects schema entries actor.begun actor.before now (tells outcome) (amid schema entries holds) valid does

        -- of an item that was answered now this session was the stream's
        told_alone : (item : SinkJob) (answer : Result SinkOutcome SinkFault) (job : Job) (told : Outcome) → ◌≡◌ {A = Job × Outcome} (actor.job, outcome) (job, told) → Contains (item_answers job told) (item, answer) → IsToldAlone actor.job outcome item answer
        told_alone item answer job told same among = answered_alone actor.job outcome item answer (subst (λ (one : Job × Outcome). Contains (item_answers one.0 one.1) (item, answer)) (sym same) among)

        begun_as : (job : Job) → actor.job ≡ job → IsBegunAs job actor.begun
        begun_as job same = subst (λ (j : Job). IsBegunAs j actor.begun) same acting.same
