-- What the code of a line does to a scene, as what the line does.
use Rattle.std.proofs.Common.{◌≡◌, ℕ, List, [], ◌∷◌, Bool, true, false, Option, Some, None, Ok, Err, option_and_then, refl, sym, ◌∙◌, ap, subst}
use Rattle.std.specs.BTreeMap.{BTreeMap, get, get_by_text}
use Rattle.std.specs.Ordering.{nat_cmp}
use Rattle.lake_script.specs.Runs.{Executes, IsShort, IsWantOfMemory}
use Rattle.lake_script.specs.Sound.{IsExecuted}
use Rattle.lake_script.specs.Tries.{IsLook}
use Rattle.script_lines.specs.Lines.{Statement, Task}
use Rattle.store_core.specs.Turns.{puts_sent}
use Rattle.session_core.specs.Talks.{Talk}
use Rattle.stream_world.specs.declared.actor.Actor as actor
use Rattle.table_log.specs.Loads.{IsFront}
use Rattle.table_log.specs.Restoring.{RestoresWell}
use Rattle.table_log.specs.declared.loading.Loaded.{Loaded}
use Rattle.table_log.proofs.Callers.{front_grown}
use Rattle.store_core.specs.Objects.{HasObjectsOf, Objects}
use Rattle.table_jobs.specs.Jobs.{Job, Outcome, CanBegin}
use Rattle.stream_world.specs.Events.{Event, HasActor, Happens, begin, die, land, with_told}
use Rattle.store_core.specs.declared.store.Put.{Put}
use Rattle.store_core.specs.declared.store.Put.TheVariants as puts
use Rattle.store_core.specs.declared.fault.StoreFault.{StoreFault}
use Rattle.store_core.specs.declared.fault.StoreFault.TheVariants as store_faults
use Rattle.lake_script.specs.ReplyView.{is_short_reply, reply_text}
use Rattle.lake_script.specs.declared.reply.LineReply.TheVariants as replies
use Rattle.script_lines.specs.Lines as lines
use Rattle.stream_world.specs.Worlds.{World, anew}
use Rattle.table_jobs.specs.Sessions.{end_view}
use Rattle.stream_world.specs.Standing.{HandsBackFront, HasBegunAs, HasHappened, LandsAs, SlotStands, TellsAs, WorldStands, landing_told}
use Rattle.table_jobs.specs.declared.job_session.JobEnd as code_end
use Rattle.stream_world.specs.declared.world.World as code_world
use Rattle.script_lines.specs.declared.kind.Kind.{Kind}
use Rattle.lake_script.specs.LineJobs.{job_of_task}
use Rattle.world_script.specs.Acting.{CameBy, LeadsThrough, hand_at, next_at}
use Rattle.world_script.specs.Doing.{CameThrough, LineComesTo, ComesToAlone, ComesToNamed, ComesToStart, IsReplyAs, IsShortAs, RanJob, TellsIn}
use Rattle.world_script.specs.FallingShort.{IsToldShort, tells_want}
use Rattle.lake_script.specs.Endings.{IsReplyOf, IsShortBy}
use Rattle.world_script.specs.Lines as does
use Rattle.world_script.specs.Lines.{IsReplyIn, deed_does, if_refused, no_actor, no_offset, no_room, ok}
use Rattle.world_script.specs.Scenes.{HasPart, Scene, SceneStands, next_behind_part, part_for}
use Rattle.world_script.specs.declared.named.Deed.{Deed}
use Rattle.world_script.specs.declared.named.Deed.TheVariants as deeds
use Rattle.world_script.specs.declared.acting.Next.{Next}
use Rattle.world_script.specs.declared.acting.Next.TheVariants as nexts
use Rattle.world_script.proofs.Growing.{bearing_grows}
use Rattle.world_script.proofs.Stepping.{begun_steps}
use Rattle.world_script.specs.declared.part.Part.{Part}
use Rattle.world_script.specs.declared.scene.Scene as code

-- the reply of an outcome, as that of what was told in a world
reply_so : (outcome : Option code_end.JobEnd) (told : Option (Job × Outcome)) (reply : List ℕ) → TellsAs outcome told → IsReplyAs outcome reply → IsReplyIn told reply
reply_so None None reply tells is = is
reply_so (Some outcome) (Some told) reply tells is = subst (λ (o : Outcome). IsReplyOf o reply) (sym tells) is
reply_so (Some outcome) None reply tells is = absurd tells
reply_so None (Some told) reply tells is = absurd tells

-- and whether it is short
short_so : (outcome : Option code_end.JobEnd) (told : Option (Job × Outcome)) (reply : List ℕ) (short : Bool) → TellsAs outcome told → IsReplyAs outcome reply → IsShortAs outcome reply short → IsToldShort (with_told [] told) reply short
short_so None None reply short tells is falls = falls ∙ ap tells_want (sym is)
short_so (Some outcome) (Some told) reply short tells is falls = subst (λ (o : Outcome). IsShortBy o reply short) (sym tells) falls
short_so (Some outcome) None reply short tells is falls = absurd tells
short_so None (Some told) reply short tells is falls = absurd tells

-- what is told of a read that was refused when it was started isn't short
refused_fine : (deed : Deed) → tells_want (if_refused deed) ≡ false
refused_fine deeds.Until = refl
refused_fine (deeds.Step kind) = refl
refused_fine deeds.Finish = refl
refused_fine deeds.Die = refl

-- nor is a put in flight that took effect, or isn't there
landing_fine : (found : Option Put) → tells_want (does.landing_reply found) ≡ false
landing_fine None = refl
landing_fine (Some puts.Created) = refl
landing_fine (Some puts.Exists) = refl

-- want of memory to begin is told so
want_told : (statement : Statement) (reply : List ℕ) → IsWantOfMemory statement reply → true ≡ tells_want reply
want_told (lines.create id at schema) reply is = ap tells_want (sym is)
want_told (lines.task (lines.append application number at rows)) reply is = ap tells_want (sym is)
want_told (lines.task (lines.close application at)) reply is = ap tells_want (sym is)
want_told (lines.task (lines.tail max offset)) reply is = ap tells_want (sym is)
want_told (lines.task lines.checkpoint) reply is = ap tells_want (sym is)
want_told (lines.look lines.snapshot) reply is = ap tells_want (sym is)
want_told (lines.look lines.history) reply is = ap tells_want (sym is)
want_told (lines.look (lines.show version)) reply is = ap tells_want (sym is)
want_told (lines.look (lines.hex name)) reply is = ap tells_want (sym is)
want_told (lines.foreign version action) reply is = ap tells_want (sym is)
want_told (lines.tries count) reply is = absurd is
want_told (lines.world line) reply is = absurd is

module _ {S : Type 0} (stored : S → Objects) (old : code.Scene S) (s : Scene) (stands : SceneStands stored old s) where
  -- another world, and all else as it was
  pub with_world : (new : code.Scene S) (w : World) → WorldStands stored new.world w → new.parts ≡ old.parts → new.next ≡ old.next → new.tries ≡ old.tries → new.fault ≡ old.fault → new.use_checkpoints ≡ old.use_checkpoints
      → SceneStands stored new (record s { world = w })
  with_world new w there parts next tries fault uses = record {
    world_stands = there;
    part_so = λ name. ap (λ m. get_by_text m name) parts ∙ stands.part_so name;
    next_so = next ∙ stands.next_so;
    tries_so = tries ∙ stands.tries_so;
    fault_so = fault ∙ stands.fault_so;
    use_so = uses ∙ stands.use_so;
  }

  module _ (name : List ℕ) (deed : Deed) where
    pub named_unknown : get_by_text old.parts name ≡ None → ComesToNamed stored s name deed no_actor false old
    named_unknown none = record { events = []; outs = []; later = s; does = does.unknown (sym (stands.part_so name) ∙ none); falls = refl; stands = stands }

    module _ (part : Part) (found : get_by_text old.parts name ≡ Some part) where
      at_name : s.part name ≡ Some part
      at_name = sym (stands.part_so name) ∙ found

      pub named_gone : part.is_refused ≡ false → next_at (hand_at s.world part.number) ≡ nexts.Nothing → ComesToNamed stored s name deed no_actor false old
      named_gone fine nothing = record { events = []; outs = []; later = s; does = does.gone part at_name fine nothing; falls = refl; stands = stands }

      pub named_done : (new : code.Scene S) (outcome : Option code_end.JobEnd) (reply : List ℕ) (short : Bool) → part.is_refused ≡ false → (next_at (hand_at s.world part.number) ≡ nexts.Nothing → ⊥)
          → CameBy stored (deed_does deed part.number s.world) outcome new.world → IsReplyAs outcome reply → IsShortAs outcome reply short
          → new.parts ≡ old.parts → new.next ≡ old.next → new.tries ≡ old.tries → new.fault ≡ old.fault → new.use_checkpoints ≡ old.use_checkpoints → ComesToNamed stored s name deed reply short new
      named_done new outcome reply short fine alive came is falls parts next tries fault uses = record {
        events = came.events;
        outs = with_told [] came.told;
        later = record s { world = came.later };
        does = does.does_it part came.events came.told came.later reply at_name fine alive came.done (reply_so outcome came.told reply came.tells is);
        falls = short_so outcome came.told reply short came.tells is falls;
        stands = with_world new came.later came.stands parts next tries fault uses;
      }

      pub named_refused : (new : code.Scene S) → part.is_refused ≡ true → new.world ≡ old.world → get_by_text new.parts name ≡ Some (record part { is_refused = false })
          → ((other : List ℕ) → (other ≡ name → ⊥) → get_by_text new.parts other ≡ get_by_text old.parts other)
          → new.next ≡ old.next → new.tries ≡ old.tries → new.fault ≡ old.fault → new.use_checkpoints ≡ old.use_checkpoints → ComesToNamed stored s name deed (if_refused deed) false new
      named_refused new refused world now others next tries fault uses =
          let later : Scene = record s { part = λ other. get_by_text new.parts other } in
          record {
            events = [];
            outs = [];
            later = later;
            does = does.refuses part later at_name refused (record {
              world_now = refl;
              part_now = now;
              others = λ other apart. others other apart ∙ stands.part_so other;
              next_now = refl;
              tries_still = refl;
              fault_still = refl;
              use_still = refl;
            });
            falls = sym (refused_fine deed);
            stands = record {
              world_stands = subst (λ (v : code_world.World S). WorldStands stored v s.world) (sym world) stands.world_stands;
              part_so = λ other. refl;
              next_so = next ∙ stands.next_so;
              tries_so = tries ∙ stands.tries_so;
              fault_so = fault ∙ stands.fault_so;
              use_so = uses ∙ stands.use_so;
            };
          }

  -- ---- an actor that is started

  -- the job that a scene of the code makes of a task
  pub job_at : (job : Task) → job_of_task s.use_checkpoints s.tries job ≡ job_of_task old.use_checkpoints old.tries job
  job_at job = ap (λ (u : Bool). job_of_task u s.tries job) (sym stands.use_so) ∙ ap (λ (n : ℕ). job_of_task old.use_checkpoints n job) (sym stands.tries_so)

  module _ (name : List ℕ) (new : code.Scene S) (part : Part) (next : ℕ) (refused : Bool)
      (is_part : part ≡ part_for (get_by_text old.parts name) old.next) (is_next : next ≡ next_behind_part (get_by_text old.parts name) old.next)
      (now : get_by_text new.parts name ≡ Some (record part { is_refused = refused }))
      (others : (other : List ℕ) → (other ≡ name → ⊥) → get_by_text new.parts other ≡ get_by_text old.parts other)
      (next_is : new.next ≡ next) (tries : new.tries ≡ old.tries) (fault : new.fault ≡ old.fault) (uses : new.use_checkpoints ≡ old.use_checkpoints) where
    pub part_is : part ≡ part_for (s.part name) s.next
    part_is = is_part ∙ (ap (λ (p : Option Part). part_for p old.next) (stands.part_so name) ∙ ap (part_for (s.part name)) stands.next_so)

    next_same : next ≡ next_behind_part (s.part name) s.next
    next_same = is_next ∙ (ap (λ (p : Option Part). next_behind_part p old.next) (stands.part_so name) ∙ ap (next_behind_part (s.part name)) stands.next_so)

    -- the scene that the code stands for then, with this world
    abbrev scene_then : World → Scene
    scene_then w = record s { world = w; part = λ other. get_by_text new.parts other; next = next }

    has_part : (w : World) → HasPart s (scene_then w) name (record (part_for (s.part name) s.next) { is_refused = refused }) (next_behind_part (s.part name) s.next) w
    has_part w = record {
      world_now = refl;
      part_now = subst (λ (p : Part). get_by_text new.parts name ≡ Some (record p { is_refused = refused })) part_is now;
      others = λ other apart. others other apart ∙ stands.part_so other;
      next_now = next_same;
      tries_still = refl;
      fault_still = refl;
      use_still = refl;
    }

    stands_then : (w : World) → WorldStands stored new.world w → SceneStands stored new (scene_then w)
    stands_then w there = record {
      world_stands = there;
      part_so = λ other. refl;
      next_so = next_is;
      tries_so = tries ∙ stands.tries_so;
      fault_so = fault ∙ stands.fault_so;
      use_so = uses ∙ stands.use_so;
    }

    none_told : (told : Option (Job × Outcome)) → TellsAs None told → told ≡ None
    none_told None tells = refl
    none_told (Some told) tells = absurd tells

    begun_one : (one : Job) (met : Event) (told : Option (Job × Outcome)) (later : World) → met ≡ begin part.number one → told ≡ None → Happens s.world met told later
        → Happens s.world (begin (part_for (s.part name) s.next).number one) None later
    begun_one one met told later is none happens =
        subst (λ (p : Part). Happens s.world (begin p.number one) None later) part_is (subst (λ (o : Option (Job × Outcome)). Happens s.world (begin part.number one) o later) none (subst (λ (e : Event). Happens s.world e told later) is happens))

    died_one : (met : Event) (told : Option (Job × Outcome)) (later : World) → met ≡ die part.number → told ≡ None → Happens s.world met told later → Happens s.world (die (part_for (s.part name) s.next).number) None later
    died_one met told later is none happens =
        subst (λ (p : Part). Happens s.world (die p.number) None later) part_is (subst (λ (o : Option (Job × Outcome)). Happens s.world (die part.number) o later) none (subst (λ (e : Event). Happens s.world e told later) is happens))

    pub started_begun : {b : Bool} (job : Task) (one : Job) → job_of_task s.use_checkpoints s.tries job ≡ Some one → CanBegin one → refused ≡ false → HasHappened stored b s.world (begin part.number one) None new.world → ComesToStart stored s name job ok false new
    started_begun job one is can fine was = record {
      events = begin (part_for (s.part name) s.next).number one ∷ [];
      later = scene_then was.later;
      does = does.starts one was.later (scene_then was.later) is can (begun_one one was.met was.told was.later was.is (none_told was.told was.tells) was.happens)
          (subst (λ (p : Part). HasActor was.later p.number (anew one)) part_is was.begins)
          (subst (λ (r : Bool). HasPart s (scene_then was.later) name (record (part_for (s.part name) s.next) { is_refused = r }) (next_behind_part (s.part name) s.next) was.later) fine (has_part was.later));
      falls = refl;
      stands = stands_then was.later was.stands;
    }

    pub started_refused : {b : Bool} (job : Task) → job_of_task s.use_checkpoints s.tries job ≡ None → refused ≡ true → HasHappened stored b s.world (die part.number) None new.world → ComesToStart stored s name job ok false new
    started_refused job is so was = record {
      events = die (part_for (s.part name) s.next).number ∷ [];
      later = scene_then was.later;
      does = does.refuses_it was.later (scene_then was.later) is (died_one was.met was.told was.later was.is (none_told was.told was.tells) was.happens)
          (subst (λ (r : Bool). HasPart s (scene_then was.later) name (record (part_for (s.part name) s.next) { is_refused = r }) (next_behind_part (s.part name) s.next) was.later) so (has_part was.later));
      falls = refl;
      stands = stands_then was.later was.stands;
    }

    pub not_started : (job : Task) → refused ≡ part.is_refused → WorldStands stored new.world s.world → ComesToStart stored s name job no_room true new
    not_started job same there = record {
      events = [];
      later = scene_then s.world;
      does = does.has_no_room_for_it (scene_then s.world)
          (subst (λ (p : Part). HasPart s (scene_then s.world) name p (next_behind_part (s.part name) s.next) s.world) (sym is_same) (has_part s.world));
      falls = refl;
      stands = stands_then s.world there;
    }
      where
        is_same : part_for (s.part name) s.next ≡ record (part_for (s.part name) s.next) { is_refused = refused }
        is_same = ap (λ (r : Bool). record (part_for (s.part name) s.next) { is_refused = r }) (sym (same ∙ ap (λ (p : Part). p.is_refused) part_is))

  -- where nothing but the map of names was made anew
  pub unstarted : (name : List ℕ) (new : code.Scene S) (job : Task) → ((other : List ℕ) → get_by_text new.parts other ≡ get_by_text old.parts other) → new.world ≡ old.world → new.next ≡ old.next → new.tries ≡ old.tries → new.fault ≡ old.fault
      → new.use_checkpoints ≡ old.use_checkpoints → ComesToStart stored s name job no_room true new
  unstarted name new job parts world next tries fault uses = record {
    events = [];
    later = s;
    does = does.has_no_room;
    falls = refl;
    stands = record {
      world_stands = subst (λ (v : code_world.World S). WorldStands stored v s.world) (sym world) stands.world_stands;
      part_so = λ other. parts other ∙ stands.part_so other;
      next_so = next ∙ stands.next_so;
      tries_so = tries ∙ stands.tries_so;
      fault_so = fault ∙ stands.fault_so;
      use_so = uses ∙ stands.use_so;
    };
  }

  -- ---- lines that tell of the objects

  pub tells_so : (new : code.Scene S) (statement : Statement) (reply : List ℕ) (short : Bool) → (RestoresWell old.use_checkpoints (stored old.world.store.store) → Executes (stored old.world.store.store) statement reply (stored new.world.store.store))
      → (RestoresWell old.use_checkpoints (stored old.world.store.store) → short ≡ true → IsShort (stored old.world.store.store) statement reply)
      → (RestoresWell old.use_checkpoints (stored old.world.store.store) → short ≡ false → IsExecuted (stored old.world.store.store) statement reply (stored new.world.store.store))
      → (IsLook statement → stored new.world.store.store ≡ stored old.world.store.store) → HasObjectsOf (stored old.world.store.store) (stored new.world.store.store)
      → puts_sent new.world.store ≡ puts_sent old.world.store → new.world.actors ≡ old.world.actors → new.world.known ≡ old.world.known
      → new.parts ≡ old.parts → new.next ≡ old.next → new.tries ≡ old.tries → new.fault ≡ old.fault → new.use_checkpoints ≡ old.use_checkpoints → TellsIn stored s statement reply short new
  tells_so new statement reply short executes wants whole looks grown flight actors same_known parts next tries fault uses =
      let w : World = record s.world { objects = stored new.world.store.store } in
      record {
        later = record s { world = w };
        tells = does.tells_of reply (stored new.world.store.store) here (λ look. looks look ∙ sym stands.world_stands.objects);
        falls = (wants_here, whole_here);
        stands = with_world new w (record {
          objects = refl;
          flight = stands.world_stands.flight ∙ sym flight;
          actors = λ name. subst (λ (m : BTreeMap ℕ (Option actor.Actor)). SlotStands (option_and_then (λ slot. slot) (get nat_cmp m name)) (s.world.actors name)) (sym actors) (stands.world_stands.actors name);
          borne = bearing_grows s.world (stored new.world.store.store) grown_here stands.world_stands.borne;
          known = subst (λ (l : Loaded). IsFront (stored new.world.store.store) l) (sym same_known)
              (front_grown (stored old.world.store.store) (stored new.world.store.store) grown old.world.known stands.world_stands.known);
        }) parts next tries fault uses;
      }
    where
      grown_here : HasObjectsOf s.world.objects (stored new.world.store.store)
      grown_here = subst (λ (o : Objects). HasObjectsOf o (stored new.world.store.store)) (sym stands.world_stands.objects) grown

      well_there : RestoresWell s.use_checkpoints s.world.objects → RestoresWell old.use_checkpoints (stored old.world.store.store)
      well_there well = subst (λ (u : Bool). RestoresWell u (stored old.world.store.store)) (sym stands.use_so) (subst (RestoresWell s.use_checkpoints) stands.world_stands.objects well)

      wants_here : RestoresWell s.use_checkpoints s.world.objects → short ≡ true → IsShort s.world.objects statement reply
      wants_here well is = subst (λ (o : Objects). IsShort o statement reply) (sym stands.world_stands.objects) (wants (well_there well) is)

      whole_here : RestoresWell s.use_checkpoints s.world.objects → short ≡ false → IsExecuted s.world.objects statement reply (stored new.world.store.store)
      whole_here well is = subst (λ (o : Objects). IsExecuted o statement reply (stored new.world.store.store)) (sym stands.world_stands.objects) (whole (well_there well) is)

      here : RestoresWell s.use_checkpoints s.world.objects → Executes s.world.objects statement reply (stored new.world.store.store)
      here well = subst (λ (o : Objects). Executes o statement reply (stored new.world.store.store)) (sym stands.world_stands.objects)
          (executes (well_there well))

  -- ---- puts in flight that land

  none_landed : (told : Option (Job × Outcome)) → TellsAs None told → told ≡ None
  none_landed None tells = refl
  none_landed (Some told) tells = absurd tells

  pub lands_so : {b : Bool} (new : code.Scene S) (place : ℕ) (found : Option Put) (reply : List ℕ) (short : Bool) → LandsAs stored b s.world place (Ok found) new.world → reply ≡ does.landing_reply found → short ≡ false
      → new.parts ≡ old.parts → new.next ≡ old.next → new.tries ≡ old.tries → new.fault ≡ old.fault → new.use_checkpoints ≡ old.use_checkpoints → LineComesTo stored s (lines.world (lines.land place)) reply short new
  lands_so new place found reply short landed is fine parts next tries fault uses =
      let was = landed.1 in
      let happens : Happens s.world (land place) None was.later = subst (λ (o : Option (Job × Outcome)). Happens s.world (land place) o was.later) (none_landed was.told was.tells) (subst (λ (e : Event). Happens s.world e was.told was.later) was.is was.happens) in
      let same : does.landing_reply (landing_told s.world place) ≡ reply = sym (is ∙ ap does.landing_reply landed.0) in
      record {
        events = land place ∷ [];
        outs = [];
        later = record s { world = was.later };
        does = (refl, subst (λ (r : List ℕ). does.Lands s place (land place ∷ []) r (record s { world = was.later })) same (does.lands_now was.later happens));
        falls = fine ∙ (sym (landing_fine found) ∙ ap tells_want (sym is));
        stands = with_world new was.later was.stands parts next tries fault uses;
      }

  pub no_landing : (new : code.Scene S) (place : ℕ) → WorldStands stored new.world s.world → new.parts ≡ old.parts → new.next ≡ old.next → new.tries ≡ old.tries → new.fault ≡ old.fault → new.use_checkpoints ≡ old.use_checkpoints
      → LineComesTo stored s (lines.world (lines.land place)) no_room true new
  no_landing new place there parts next tries fault uses = record {
    events = [];
    outs = [];
    later = s;
    does = (refl, does.no_room_to_land);
    falls = refl;
    stands = with_world new s.world there parts next tries fault uses;
  }

  pub lands_err : (b : Bool) (new : code.Scene S) (place : ℕ) (fault : StoreFault) → LandsAs stored b s.world place (Err fault) new.world → new.parts ≡ old.parts → new.next ≡ old.next → new.tries ≡ old.tries → new.fault ≡ old.fault
      → new.use_checkpoints ≡ old.use_checkpoints → LineComesTo stored s (lines.world (lines.land place)) (reply_text (replies.Unanswered fault)) (is_short_reply (replies.Unanswered fault)) new
  lands_err b new place store_faults.Memory there parts next tries fault uses = no_landing new place there.0 parts next tries fault uses
  lands_err b new place store_faults.Lost there parts next tries fault uses = absurd there

-- a put that landed is told so
pub land_text : (put : Put) → reply_text (replies.Put put) ≡ does.landing_reply (Some put)
land_text puts.Created = refl
land_text puts.Exists = refl

-- ---- jobs without an actor

alive_of : (next : Next) → next ≡ nexts.Step → next ≡ nexts.Nothing → ⊥
alive_of next is nothing = let wrong : nexts.Step ≡ nexts.Nothing = sym is ∙ nothing in cc

module _ {S : Type 0} (stored : S → Objects) (old : code.Scene S) (s : Scene) (stands : SceneStands stored old s) (job : Job) (mid : code_world.World S) where
  module _ {b : Bool} {one : Job} {before : Talk} (begun : HasBegunAs stored b s.world 0 job one before mid) (can : CanBegin job) where
    pub begun_alive : next_at (hand_at begun.later 0) ≡ nexts.Nothing → ⊥
    begun_alive = alive_of _ (begun_steps s.world 0 job (begin 0 job) None begun.later refl can begun.happens)

    -- It ran to its end, by the fault that the scene has; and its reply, by which the next job knows more of the log, leaves the world as it stands.
    pub ran_job : (new : code.Scene S) (led : code_world.World S) (outcome : code_end.JobEnd) (reply : List ℕ) (short : Bool) → CameThrough stored old.fault begun.later (Some outcome) new.fault led → IsReplyOf (end_view outcome) reply
        → IsShortBy (end_view outcome) reply short → ((w : World) → WorldStands stored led w → HandsBackFront (stored led.store.store) (Some outcome) → WorldStands stored new.world w)
        → new.parts ≡ old.parts → new.next ≡ old.next → new.tries ≡ old.tries → new.use_checkpoints ≡ old.use_checkpoints → RanJob stored s job reply short new
    ran_job new led outcome reply short came is falls behind parts next tries uses = record {
      mid = begun.later;
      can = can;
      begins = begun.happens;
      events = came.events;
      told = came.told;
      left = new.fault;
      w = came.later;
      leads = subst (λ (f : Option Kind). LeadsThrough 0 f begun.later came.events came.told new.fault came.later) stands.fault_so came.leads;
      tells = subst (λ (o : Outcome). IsReplyOf o reply) (sym came.tells) is;
      falls = subst (λ (o : Outcome). IsShortBy o reply short) (sym came.tells) falls;
      stands = record {
        world_stands = behind came.later came.stands came.hands;
        part_so = λ name. ap (λ m. get_by_text m name) parts ∙ stands.part_so name;
        next_so = next ∙ stands.next_so;
        tries_so = tries ∙ stands.tries_so;
        fault_so = refl;
        use_so = uses ∙ stands.use_so;
      };
    }

module _ {S : Type 0} (stored : S → Objects) (s : Scene) (statement : Statement) where
  -- as what the line does
  pub alone_ran : (new : code.Scene S) (one : Job) (reply : List ℕ) (short : Bool) → RanJob stored s one reply short new → ComesToAlone stored s statement (Some one) reply short new
  alone_ran new one reply short ran = record {
    events = begin 0 one ∷ ran.events;
    outs = ran.told ∷ [];
    later = record s { world = ran.w; fault = ran.left };
    does = does.runs one ran.mid ran.events ran.told ran.left ran.w reply refl ran.can ran.begins ran.leads ran.tells;
    falls = ran.falls;
    stands = ran.stands;
  }

  pub alone_short : (new : code.Scene S) (job : Option Job) (reply : List ℕ) (short : Bool) → SceneStands stored new s → IsWantOfMemory statement reply → short ≡ true → ComesToAlone stored s statement job reply short new
  alone_short new job reply short stands wants is = record { events = []; outs = []; later = s; does = does.finds_no_room reply wants; falls = is ∙ want_told statement reply wants; stands = stands }

  pub alone_refused : (new : code.Scene S) (job : Option Job) → SceneStands stored new s → job ≡ None → ComesToAlone stored s statement job no_offset false new
  alone_refused new job stands none = record { events = []; outs = []; later = s; does = does.is_refused none; falls = refl; stands = stands }
