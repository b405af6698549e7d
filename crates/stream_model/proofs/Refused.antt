-- Which refusals don't come in a world, or only for some schemas.
use Rattle.std.proofs.Common.{◌≡◌, ◌∙◌, ◌≤◌, ℕ, zero, suc, Bool, true, false, List, [], ◌∷◌, length, take, refl, sym, ap, subst, arith}
use Rattle.std.specs.Prelude.{Err, codes}
use Rattle.delta_actions.specs.Action.{Action}
use Rattle.delta_replay.specs.Support.{Unsupported, checkpointable, fault_of, has_key_inside}
use Rattle.table_log.specs.Counts.{commit_count, count_in}
use Rattle.table_model.specs.Lawful.{Begins}
use Rattle.table_model.specs.Table.{Entry, close, creation, group}
use Rattle.table_store.specs.Holds.{Holds}
use Rattle.table_store.specs.Schema.{Schema}
use Rattle.table_store.specs.Sound.{IsSound}
use Rattle.table_store.proofs.LawfulLogLemmas.{AreMadeFor}
use Rattle.log_laws.proofs.Callers.{count_held, log_checkpointable}
use Rattle.session_laws.specs.May.{MayTell}
use Rattle.source_core.specs.SourceSessions.{SourceJob}
use Rattle.source_core.specs.declared.source_session.ReadEnd.{ReadEnd}
use Rattle.session_laws.specs.Rows.{IsLogBehind, ListsFirst, MayTellOfCheckpoint, MayTellOfRead, MayTellOfStream, TellsOfListed, next_of_stream, next_version}
use Rattle.session_laws.specs.Jobs.{Job, Outcome, checkpoints, creates, loads, read, reads, streams}
use Rattle.session_laws.specs.Moves.{HasAsked, tells}
use Rattle.session_laws.proofs.Callers.{IsFrontOf, front_of, listed_count}
use Rattle.stream_model.specs.Events.{Event, HasActor}
use Rattle.stream_model.specs.Headline.{IsReadSo, ListsCommit, TellsBadLog, TellsSchemaChanged, TellsUnsupported, bad_checkpoint, bad_load, bad_stream, changed, unsupported}
use Rattle.stream_model.specs.Worlds.{Actor, IsBegunAs, World, ended}
use Rattle.stream_model.proofs.Begun.{listed_begun, valid_begun}
use Rattle.stream_model.proofs.Good.{IsGoodActor, IsGoodHand, IsGoodWorld}
use Rattle.stream_model.proofs.Lacking.{next_within, none_lacked}
use Rattle.stream_model.proofs.Laws.{AreLaws}
use Rattle.stream_model.proofs.Readers.{told_of_listed}
use Rattle.stream_model.proofs.Seen.{SeesWell}

module _ (laws : AreLaws) (events : List Event) (outs : List (Job × Outcome)) (w : World) (good : IsGoodWorld events outs w) (name : ℕ) (actor : Actor) (outcome : Outcome) (is : HasActor w name actor) (hand : actor.hand ≡ ended outcome) where
  own : IsGoodActor events w.objects actor
  own = good.actors name actor is

  -- what it told it might tell, of each table that the store is said to hold
  may : (schema : Schema) (entries : List Entry) → Holds w.objects schema entries → MayTell w.objects schema entries actor.begun actor.before actor.talk outcome
  may schema entries holds = laws.may w.objects schema entries actor.begun actor.before actor.talk (tells outcome) (record {
    sound = good.store.sound;
    bytes = good.store.bytes;
    holds = holds;
    earlier = own.earlier;
    borne = own.borne;
    asked = own.asked;
  }) (valid_begun actor.job actor.begun own.begun.0 own.same) (subst (IsGoodHand events w.objects actor.begun actor.before actor.talk) hand own.hand)

  -- Where it listed a commit, it didn't tell that one is missing or can't be read.
  pub no_bad_log : ListsCommit actor.talk → TellsBadLog outcome → ⊥
  no_bad_log listed bad = by_job actor.begun outcome (may table.schema table.entries table.holds) bad
    where
      table : IsSound w.objects
      table = good.store.sound.table

      by_job : (job : Job) (outcome : Outcome) → MayTell w.objects table.schema table.entries job actor.before actor.talk outcome → TellsBadLog outcome → ⊥
      by_job (loads job) outcome told (bad_load version) = none_lacked 0 actor.talk own.told listed version told
      by_job (checkpoints job) outcome told (bad_checkpoint end version is) = none_lacked 0 actor.talk own.told listed version (subst (MayTellOfCheckpoint w.objects actor.talk end.known) is told)
      by_job (streams job) outcome told (bad_stream end version is) = none_lacked (next_of_stream job []) actor.talk own.told listed version (subst (MayTellOfStream w.objects table.schema table.entries job actor.talk) is told)
      by_job (loads job) outcome told (bad_checkpoint end version is) = told
      by_job (loads job) outcome told (bad_stream end version is) = told
      by_job (checkpoints job) outcome told (bad_load version) = told
      by_job (checkpoints job) outcome told (bad_stream end version is) = told
      by_job (streams job) outcome told (bad_load version) = told
      by_job (streams job) outcome told (bad_checkpoint end version is) = told
      by_job (creates job) outcome told (bad_load version) = told
      by_job (creates job) outcome told (bad_checkpoint end version is) = told
      by_job (creates job) outcome told (bad_stream end version is) = told
      by_job (reads job) outcome told (bad_load version) = told
      by_job (reads job) outcome told (bad_checkpoint end version is) = told
      by_job (reads job) outcome told (bad_stream end version is) = told

  -- It didn't tell that a winner changed the schema.
  pub schema_stays : TellsSchemaChanged outcome → ⊥
  schema_stays change = by_job actor.begun outcome (may table.schema table.entries table.holds) change
    where
      table : IsSound w.objects
      table = good.store.sound.table

      by_job : (job : Job) (outcome : Outcome) → MayTell w.objects table.schema table.entries job actor.before actor.talk outcome → TellsSchemaChanged outcome → ⊥
      by_job (streams job) outcome told (changed end version is) = subst (MayTellOfStream w.objects table.schema table.entries job actor.talk) is told
      by_job (loads job) outcome told (changed end version is) = told
      by_job (checkpoints job) outcome told (changed end version is) = told
      by_job (creates job) outcome told (changed end version is) = told
      by_job (reads job) outcome told (changed end version is) = told

  module _ (schema : Schema) (entries : List Entry) (holds : Holds w.objects schema entries) where
    -- the log that a session read asks for no feature but for invariants
    checkpoint_barred : (log : List (List Action)) → IsLogBehind w.objects (next_version actor.talk) log → (fault : Unsupported) → checkpointable log ≡ Err fault → has_key_inside (codes "delta.invariants") schema ≡ true
    checkpoint_barred log stand fault refused = by_firsts front.firsts front.made front.lawful.begins front.long
      where
        within : next_version actor.talk ≤ commit_count w.objects
        within = let count = count_held w.objects good.store.sound.table schema entries holds in omega (arith, count, next_within w.objects good.store.sound.table schema entries holds actor.talk own.told own.borne)

        front : IsFrontOf w.objects schema entries (next_version actor.talk) log
        front = front_of w.objects schema entries good.store.sound holds (next_version actor.talk) log within stand.1

        by_key : (barred : Bool) → has_key_inside (codes "delta.invariants") schema ≡ barred → (rest : List Entry) → AreMadeFor w.objects schema (creation ∷ rest) log → has_key_inside (codes "delta.invariants") schema ≡ true
        by_key true key rest made = key
        by_key false key rest made = let told = sym (log_checkpointable w.objects schema rest log made) ∙ refused in let plain = rw key at told in absurd cc

        by_firsts : (firsts : List Entry) → AreMadeFor w.objects schema firsts log → Begins firsts → length firsts ≡ next_version actor.talk → has_key_inside (codes "delta.invariants") schema ≡ true
        by_firsts [] made begins long = absurd (omega (arith, long, stand.0))
        by_firsts (creation ∷ rest) made begins long = by_key (has_key_inside (codes "delta.invariants") schema) refl rest made
        by_firsts (group bs ∷ rest) made begins long = absurd begins
        by_firsts (close application ∷ rest) made begins long = absurd begins

    -- It told that the table has no checkpoint only where a field has invariants.
    pub schema_invariants : TellsUnsupported outcome → has_key_inside (codes "delta.invariants") schema ≡ true
    schema_invariants barred = by_job actor.begun outcome (may schema entries holds) barred
      where
        by_job : (job : Job) (outcome : Outcome) → MayTell w.objects schema entries job actor.before actor.talk outcome → TellsUnsupported outcome → has_key_inside (codes "delta.invariants") schema ≡ true
        by_job (checkpoints job) outcome told (unsupported end fault is) =
            let row = subst (MayTellOfCheckpoint w.objects actor.talk end.known) is told in
            checkpoint_barred row.1 row.2 (fault_of fault) row.3
        by_job (loads job) outcome told (unsupported end fault is) = absurd told
        by_job (streams job) outcome told (unsupported end fault is) = absurd told
        by_job (creates job) outcome told (unsupported end fault is) = absurd told
        by_job (reads job) outcome told (unsupported end fault is) = absurd told

-- What a read told that listed names is so of the versions that were listed: it told none of the refusals but two, that version 0 is missing
-- where none was listed, that a call was lost, or that memory ran out.
pub read_told_so : (laws : AreLaws) (events : List Event) (outs : List (Job × Outcome)) (w : World) → IsGoodWorld events outs w → (name : ℕ) (actor : Actor) (job : SourceJob) (end : ReadEnd) → HasActor w name actor → actor.job ≡ reads job
    → actor.hand ≡ ended (read end) → (names : List (List ℕ)) → ListsFirst actor.talk names → (schema : Schema) (entries : List Entry) → Holds w.objects schema entries → IsReadSo schema entries job actor.talk names end.answer
read_told_so laws events outs w good name actor job end is of_job hand names lists schema entries holds = record {
  stand = take_length (count_in names) entries within;
  told = listed_begun schema (take (count_in names) entries) job same.0 end.answer (subst (λ (n : ℕ). TellsOfListed schema (take n entries) begun end.answer) count (told_of_listed events w.objects schema entries begun actor.before actor.talk end.answer names lists seen told));
  lost = told.lost;
}
  where
    own : IsGoodActor events w.objects actor
    own = good.actors name actor is

    same : IsBegunAs (reads job) actor.begun
    same = subst (λ (j : Job). IsBegunAs j actor.begun) of_job own.same

    -- the job with what its session knew of the log
    begun : SourceJob
    begun = record job { known = same.0 }

    seen : SeesWell events w.objects (reads begun) actor.before actor.talk
    seen = subst (λ (j : Job). SeesWell events w.objects j actor.before actor.talk) same.1 own.seen

    told : MayTellOfRead w.objects schema entries begun actor.before actor.talk end.answer
    told = subst (λ (j : Job). MayTell w.objects schema entries j actor.before actor.talk (read end)) same.1 (may laws events outs w good name actor (read end) is hand schema entries holds)

    count : next_version actor.talk ≡ count_in names
    count = listed_count begun actor.before actor.talk lists.0 names (subst (λ (j : Job). HasAsked j actor.before actor.talk) same.1 own.asked) lists.1

    within : count_in names ≤ length entries
    within = let so = next_within w.objects good.store.sound.table schema entries holds actor.talk own.told own.borne in omega (arith, count, so)

    take_length : (n : ℕ) (es : List Entry) → n ≤ length es → length (take n es) ≡ n
    take_length zero es short = refl
    take_length (suc n) [] short = absurd (omega (arith, short))
    take_length (suc n) (e ∷ es) short = ap (λ (m : ℕ). suc m) (take_length n es (omega (arith, short)))
