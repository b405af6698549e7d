use Rattle.std.proofs.Common.{[], ◌∷◌, ◌++◌, ◌∙◌, ap, subst}
use Rattle.table_store.proofs.Callers.{all_lack}
use Rattle.session_laws.specs.Jobs.{Job}
use Rattle.stream_model.specs.Worlds.{ended}
use Rattle.stream_model.proofs.Laws.{AreLaws}
use Rattle.stream_model.proofs.Readers.{was_listed}
use Rattle.stream_model.proofs.Seen.{SeesWell}
use Rattle.stream_model.proofs.Refused.{no_bad_log, read_told_so, schema_invariants, schema_stays}
use Rattle.stream_model.proofs.Running.{headline_of, world_ran}
use Rattle.stream_model.proofs.worlds.every_world.Goals as goal

-- the laws that it calls
laws_of : goal.After-a_part_from_the_beginning_is_a_front → AreLaws
laws_of c = record {
  empty = c.an_empty_store_is_sound.ensures;
  commit_lands = c.an_admissible_commit_lands.ensures.now;
  commit_stays = λ objects more version bytes grown new. c.an_admissible_commit_stays_admissible.ensures objects more version bytes grown new (all_lack more (new.entries ++ new.entry ∷ []));
  file_lands = c.a_data_file_lands.ensures.file;
  checkpoint_lands = c.a_sound_checkpoint_lands.ensures.now;
  checkpoint_stays = c.a_sound_checkpoint_stays_sound.ensures;
  bears_both = c.what_is_borne_twice_is_borne_at_once.ensures;
  may = c.what_a_session_may.ensures.may;
  part_none = c.parts_that_follow_are_one.ensures.none;
  part_stays = c.parts_that_follow_are_one.ensures.stays;
  parts_join = c.parts_that_follow_are_one.ensures.joined;
  part_front = c.a_part_from_the_beginning_is_a_front.ensures.front;
}

pub returns-clause-sound : goal.returns-clause-sound
returns-clause-sound c = λ events outs w ran. (world_ran (laws_of c) events outs w ran).store.sound

pub returns-clause-bytes : goal.returns-clause-bytes
returns-clause-bytes c = λ events outs w ran. (world_ran (laws_of c) events outs w ran).store.bytes

pub returns-clause-borne : goal.returns-clause-borne
returns-clause-borne c = λ events outs w ran name actor is.
    let good = (world_ran (laws_of c) events outs w ran).actors name actor is in
    record {
      earlier = good.earlier;
      borne = good.borne;
      asked = good.asked;
      can = good.begun.0;
      begun = good.same;
      shown = λ job of_job names lists. was_listed events w.objects job actor.before actor.talk names lists (subst (λ (j : Job). SeesWell events w.objects j actor.before actor.talk) of_job good.seen);
    }

pub returns-clause-flight : goal.returns-clause-flight
returns-clause-flight c = λ events outs w ran put has. ((world_ran (laws_of c) events outs w ran).flight put has).0

pub returns-clause-files : goal.returns-clause-files
returns-clause-files c = λ events outs w ran. (world_ran (laws_of c) events outs w ran).store.files

pub returns-clause-headline : goal.returns-clause-headline
returns-clause-headline c = λ events outs w ran. headline_of (laws_of c) events outs w (world_ran (laws_of c) events outs w ran)

pub returns-clause-ends : goal.returns-clause-ends
returns-clause-ends c = λ events outs w ran name actor outcome is hand.
    let laws = laws_of c in
    let good = world_ran laws events outs w ran in
    record {
      listed = no_bad_log laws events outs w good name actor outcome is hand;
      schema = schema_stays laws events outs w good name actor outcome is hand;
      supported = λ tree entries holds. schema_invariants laws events outs w good name actor outcome is hand tree entries holds;
      reads = λ job end of_job told. read_told_so laws events outs w good name actor job end is of_job (hand ∙ ap ended told);
    }
