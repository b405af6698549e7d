-- What a script with actors comes to, as what may happen in a world.
use Rattle.std.proofs.Common.{◌≡◌, ℕ, List, [], ◌∷◌, ◌++◌, Bool, true, false, Option, Some, None, refl, sym, ap, subst, append-nil, append_assoc}
use Rattle.delta_actions.specs.Commit.{lines_of}
use Rattle.lake_script.specs.Told.{ArePutHere, IsPutHere, Finishes}
use Rattle.lake_script.specs.Tries.{IsLook}
use Rattle.stream_world.specs.SoundStores.{IsSoundStore}
use Rattle.script_lines.specs.Lines as lines
use Rattle.script_lines.specs.Lines.{Statement, asks, reading_of}
use Rattle.script_lines.specs.declared.kind.Kind.{Kind}
use Rattle.script_lines.specs.declared.kind.Kind.TheVariants.{Pass}
use Rattle.table_jobs.specs.Jobs.{Job, Outcome}
use Rattle.store_core.specs.Objects.{Objects}
use Rattle.stream_world.specs.Events.{Event, Happens, IsWorldOf, Ran, act, answer, begin, die, land, with_told}
use Rattle.stream_world.specs.Events as events
use Rattle.stream_world.specs.Headline.{IsHeadline}
use Rattle.stream_world.specs.Worlds.{IsFirstStore, World}
use Rattle.stream_world.specs.Standing.{taking}
use Rattle.table_model.specs.Table.{Entry}
use Rattle.table_store.specs.Holds.{Holds}
use Rattle.table_store.specs.Schema.{Schema}
use Rattle.world_script.specs.Acting as acting
use Rattle.world_script.specs.Acting.{IsLedOn, Leads, LeadsThrough, ActorMeets, ActorSteps}
use Rattle.world_script.specs.Lines as does
use Rattle.world_script.specs.Lines.{IsDoneToActor, Lands, LineDoes, RunsAlone, Starts, TellsOfObjects, deed_does}
use Rattle.world_script.specs.Playing as plays
use Rattle.world_script.specs.Playing.{HasPlayed, HasPlayedText, IsSoOfTable, Plays, PlaysInPart, PlaysShort, PlaysSo, StaysSo}
use Rattle.world_script.specs.Scenes.{Scene, first_scene, part_for}
use Rattle.lake_script.specs.Runs.{TellsWhole}
use Rattle.lake_script.specs.declared.engine.End.{End}
use Rattle.lake_script.specs.declared.engine.End.TheVariants.{BadLine, Done, NotRead, NotWritten}
use Rattle.world_script.specs.declared.named.Deed.{Deed}
use Rattle.world_script.specs.declared.named.Deed.TheVariants as deeds

-- ---- events that follow one another

told_behind : (outs more : List (Job × Outcome)) (one : Option (Job × Outcome)) → with_told (outs ++ more) one ≡ outs ++ with_told more one
told_behind outs more None = refl
told_behind outs more (Some told) = append_assoc outs more (told ∷ [])

pub ran_on : (first : World) (seen : List Event) (outs : List (Job × Outcome)) (w : World) → Ran first seen outs w → (more : List Event) (told : List (Job × Outcome)) (later : World) → Ran w more told later
    → Ran first (seen ++ more) (outs ++ told) later
ran_on first seen outs w of _ _ _ events.at_first = subst (λ (es : List Event). Ran first es (outs ++ []) w) (sym (append-nil seen)) (subst (λ (os : List (Job × Outcome)). Ran first seen os w) (sym (append-nil outs)) of)
ran_on first seen outs w of _ _ _ (events.then_one before earlier old event one now ran happens) =
    subst (λ (es : List Event). Ran first es (outs ++ with_told earlier one) now) (append_assoc seen before (event ∷ []))
    (subst (λ (os : List (Job × Outcome)). Ran first ((seen ++ before) ++ event ∷ []) os now) (told_behind outs earlier one) (events.then_one (seen ++ before) (outs ++ earlier) old event one now (ran_on first seen outs w of before earlier old ran) happens))

one_ran : (w : World) (event : Event) (told : Option (Job × Outcome)) (later : World) → Happens w event told later → Ran w (event ∷ []) (with_told [] told) later
one_ran w event told later happens = events.then_one [] [] w event told later events.at_first happens

steps_ran : (n : ℕ) (kind : Kind) (w : World) (seen : List Event) (told : Option (Job × Outcome)) (later : World) → ActorSteps n kind w seen told later → Ran w seen (with_told [] told) later
steps_ran n kind w _ _ _ (acting.begins told later next happens) = one_ran w (answer n) told later happens
steps_ran n kind w _ _ _ (acting.calls c how mid told later next met acted happens) =
    events.then_one (act n how ∷ []) [] mid (taking n (acting.loses_how kind how)) told later (one_ran w (act n how) None mid acted) happens

meets_ran : (n : ℕ) (kind : Kind) (w : World) (seen : List Event) (told : Option (Job × Outcome)) (later : World) → ActorMeets n kind w seen told later → Ran w seen (with_told [] told) later
meets_ran n kind w _ _ _ (acting.meets_now c seen told later next steps) = steps_ran n kind w seen told later steps
meets_ran n kind w _ _ _ (acting.ends_before seen told later next steps) = steps_ran n kind w seen (Some told) later steps
meets_ran n kind w _ _ _ (acting.meets_then seen mid more told later next steps then_steps) = ran_on w seen [] mid (steps_ran n kind w seen None mid steps) more (with_told [] told) later (steps_ran n kind mid more told later then_steps)

on_ran : (n : ℕ) (h : Bool) (w : World) (seen : List Event) (later : World) → IsLedOn n h w seen later → Ran w seen [] later
on_ran n h w _ _ acting.at_first = events.at_first
on_ran n h w _ _ (acting.then_one seen mid more later on go_on steps) = ran_on w seen [] mid (on_ran n h w seen mid on) more [] later (steps_ran n Pass mid more None later steps)

leads_ran : (n : ℕ) (h : Bool) (w : World) (seen : List Event) (told : Option (Job × Outcome)) (later : World) → Leads n h w seen told later → Ran w seen (with_told [] told) later
leads_ran n h w _ _ _ (acting.halts seen later may on there) = on_ran n h w seen later on
leads_ran n h w _ _ _ (acting.ends seen mid more told later on go_on steps) = ran_on w seen [] mid (on_ran n h w seen mid on) more (told ∷ []) later (steps_ran n Pass mid more (Some told) later steps)

through_ran : (n : ℕ) (fault : Option Kind) (w : World) (seen : List Event) (told : Job × Outcome) (left : Option Kind) (later : World) → LeadsThrough n fault w seen told left later → Ran w seen (told ∷ []) later
through_ran n _ _ _ _ _ _ (acting.unhindered w seen told later leads) = leads_ran n false w seen (Some told) later leads
through_ran n _ _ _ _ _ _ (acting.in_front kind w seen told later leads) = leads_ran n true w seen (Some told) later leads
through_ran n _ _ _ _ _ _ (acting.by_it kind w seen mid more told later leads steps) = ran_on w seen [] mid (leads_ran n true w seen None mid leads) more (told ∷ []) later (steps_ran n kind mid more (Some told) later steps)
through_ran n _ _ _ _ _ _ (acting.behind kind w seen mid more after rest told later leads steps on) =
    ran_on w (seen ++ more) [] after (ran_on w seen [] mid (leads_ran n true w seen None mid leads) more [] after (steps_ran n kind mid more None after steps)) rest (told ∷ []) later
    (leads_ran n false after rest (Some told) later on)

-- ---- lines

same_ran : (w later : World) → later ≡ w → Ran w [] [] later
same_ran w later same = subst (λ (v : World). Ran w [] [] v) (sym same) events.at_first

deed_ran : (deed : Deed) (n : ℕ) (w : World) (seen : List Event) (told : Option (Job × Outcome)) (later : World) → deed_does deed n w seen told later → Ran w seen (with_told [] told) later
deed_ran deeds.Until n w seen told later leads = leads_ran n true w seen told later leads
deed_ran (deeds.Step kind) n w seen told later meets = meets_ran n kind w seen told later meets
deed_ran deeds.Finish n w seen told later leads = leads_ran n false w seen told later leads
deed_ran deeds.Die n w _ _ _ (does.dies_now later happens) = one_ran w (die n) None later happens

named_ran : (s : Scene) (name : List ℕ) (deed : Deed) (seen : List Event) (outs : List (Job × Outcome)) (reply : List ℕ) (later : Scene) → IsDoneToActor s name deed seen outs reply later → Ran s.world seen outs later.world
named_ran s name deed _ _ _ _ (does.unknown none) = events.at_first
named_ran s name deed _ _ _ _ (does.gone part there was none) = events.at_first
named_ran s name deed _ _ _ _ (does.refuses part later there was now) = same_ran s.world later.world now.world_now
named_ran s name deed _ _ _ _ (does.does_it part seen told w reply there was alive done replied) = deed_ran deed part.number s.world seen told w done

starts_ran : (s : Scene) (name : List ℕ) (job : Option Job) (seen : List Event) (reply : List ℕ) (later : Scene) → Starts s name job seen reply later → Ran s.world seen [] later.world
starts_ran s name job _ _ _ (does.starts one w later is can happens anew_there now) = subst (λ (v : World). Ran s.world (begin (part_for (s.part name) s.next).number one ∷ []) [] v) (sym now.world_now) (one_ran s.world _ None w happens)
starts_ran s name job _ _ _ (does.refuses_it w later is happens now) = subst (λ (v : World). Ran s.world (die (part_for (s.part name) s.next).number ∷ []) [] v) (sym now.world_now) (one_ran s.world _ None w happens)
starts_ran s name job _ _ _ does.has_no_room = events.at_first
starts_ran s name job _ _ _ (does.has_no_room_for_it later now) = same_ran s.world later.world now.world_now

alone_ran : (s : Scene) (statement : Statement) (job : Option Job) (seen : List Event) (outs : List (Job × Outcome)) (reply : List ℕ) (later : Scene) → RunsAlone s statement job seen outs reply later → Ran s.world seen outs later.world
alone_ran s statement job _ _ _ _ (does.runs one mid seen told left w reply is can began leads replied) =
    ran_on s.world (begin 0 one ∷ []) [] mid (one_ran s.world (begin 0 one) None mid began) seen (told ∷ []) w (through_ran 0 s.fault mid seen told left w leads)
alone_ran s statement job _ _ _ _ (does.is_refused none) = events.at_first
alone_ran s statement job _ _ _ _ (does.finds_no_room reply wants) = events.at_first

lands_ran : (s : Scene) (place : ℕ) (seen : List Event) (reply : List ℕ) (later : Scene) → Lands s place seen reply later → Ran s.world seen [] later.world
lands_ran s place _ _ _ (does.lands_now w happens) = one_ran s.world (land place) None w happens
lands_ran s place _ _ _ does.no_room_to_land = events.at_first

tells_ran : (s : Scene) (statement : Statement) (reply : List ℕ) (later : Scene) → IsLook statement → TellsOfObjects s statement reply later → Ran s.world [] [] later.world
tells_ran s statement _ _ look (does.tells_of reply objects told looks) = subst (λ (o : Objects). Ran s.world [] [] (record s.world { objects = o })) (sym (looks look)) events.at_first

none_ran : (w : World) (seen : List Event) (outs : List (Job × Outcome)) (later : World) → seen ≡ [] → outs ≡ [] → Ran w [] [] later → Ran w seen outs later
none_ran w seen outs later e o ran = subst (λ (es : List Event). Ran w es outs later) (sym e) (subst (λ (os : List (Job × Outcome)). Ran w [] os later) (sym o) ran)

outs_none : (w : World) (seen : List Event) (outs : List (Job × Outcome)) (later : World) → outs ≡ [] → Ran w seen [] later → Ran w seen outs later
outs_none w seen outs later o ran = subst (λ (os : List (Job × Outcome)). Ran w seen os later) (sym o) ran

-- what a line does that doesn't put another tool's commit happens in a world
pub line_ran : (statement : Statement) (s : Scene) (seen : List Event) (outs : List (Job × Outcome)) (reply : List ℕ) (later : Scene) → IsPutHere (asks statement) → LineDoes statement s seen outs reply later → Ran s.world seen outs later.world
line_ran (lines.create id at schema) s seen outs reply later here done = alone_ran s _ _ seen outs reply later done
line_ran (lines.task (lines.append application number at rows)) s seen outs reply later here done = alone_ran s _ _ seen outs reply later done
line_ran (lines.task (lines.close application at)) s seen outs reply later here done = alone_ran s _ _ seen outs reply later done
line_ran (lines.task lines.checkpoint) s seen outs reply later here done = alone_ran s _ _ seen outs reply later done
line_ran (lines.task (lines.tail max offset)) s seen outs reply later here done = alone_ran s _ _ seen outs reply later done
line_ran (lines.look line) s seen outs reply later here done = none_ran s.world seen outs later.world done.0 done.1 (tells_ran s _ reply later tt done.2)
line_ran (lines.tries count) s seen outs reply later here done = none_ran s.world seen outs later.world done.0 done.1 (same_ran s.world later.world (ap (λ (l : Scene). l.world) done.3.2))
line_ran (lines.foreign version action) s seen outs reply later here done = absurd here
line_ran (lines.world (lines.start name job)) s seen outs reply later here done = outs_none s.world seen outs later.world done.0 (starts_ran s name _ seen reply later done.1)
line_ran (lines.world (lines.until name)) s seen outs reply later here done = named_ran s name _ seen outs reply later done
line_ran (lines.world (lines.step name kind)) s seen outs reply later here done = named_ran s name _ seen outs reply later done
line_ran (lines.world (lines.finish name)) s seen outs reply later here done = named_ran s name _ seen outs reply later done
line_ran (lines.world (lines.die name)) s seen outs reply later here done = named_ran s name _ seen outs reply later done
line_ran (lines.world (lines.land place)) s seen outs reply later here done = outs_none s.world seen outs later.world done.0 (lands_ran s place seen reply later done.1)
line_ran (lines.world (lines.fault kind)) s seen outs reply later here done = none_ran s.world seen outs later.world done.0 done.1 (same_ran s.world later.world (ap (λ (l : Scene). l.world) done.3))

-- ---- lines that follow one another

front_here : (front rest : List (List ℕ)) → ArePutHere (front ++ rest) → ArePutHere front
front_here [] rest here = tt
front_here (line ∷ front) rest here = (here.0, front_here front rest here.1)

last_here : (front : List (List ℕ)) (line : List ℕ) → ArePutHere (front ++ line ∷ []) → IsPutHere (reading_of line)
last_here [] line here = here.0
last_here (other ∷ front) line here = last_here front line here.1

pub plays_ran : (first : Scene) (those : List (List ℕ)) (written : List ℕ) (seen : List Event) (outs : List (Job × Outcome)) (short : Bool) (last : Scene) → ArePutHere those → Plays first those written seen outs short last → Ran first.world seen outs last.world
plays_ran first _ _ _ _ _ _ here plays.at_first = events.at_first
plays_ran first _ _ _ _ _ _ here (plays.skips_one those line written seen outs short s played is) = plays_ran first those written seen outs short s (front_here those (line ∷ []) here) played
plays_ran first _ _ _ _ _ _ here (plays.plays_one those line written seen outs short s statement more told reply falls later played is done fell) =
    ran_on first.world seen outs s.world (plays_ran first those written seen outs short s (front_here those (line ∷ []) here) played) more told later.world
    (line_ran statement s more told reply later (subst IsPutHere is (last_here those line here)) done)

-- ---- what is so of every world

abbrev pub IsSoundLaw : Type 0
IsSoundLaw = (seen : List Event) (outs : List (Job × Outcome)) (w : World) → IsWorldOf seen outs w → IsSoundStore w.objects

abbrev pub IsHeadlineLaw : Type 0
IsHeadlineLaw = (seen : List Event) (outs : List (Job × Outcome)) (w : World) → IsWorldOf seen outs w → (schema : Schema) (entries : List Entry) → Holds w.objects schema entries → IsHeadline seen outs schema entries

played_so : (uses : Bool) (first : Objects) → IsFirstStore first → (those : List (List ℕ)) (written : List ℕ) (seen : List Event) (outs : List (Job × Outcome)) (short : Bool) (objects : Objects) → IsSoundLaw → IsHeadlineLaw → ArePutHere those
    → HasPlayed (first_scene first uses) those written seen outs short objects → IsSoOfTable seen outs objects
played_so uses first may those written seen outs short objects sound headline here played =
    let of_world : IsWorldOf seen outs played.last.world = (first, may, plays_ran (first_scene first uses) those written seen outs short played.last here played.plays) in
    record {
      w = played.last.world;
      of_world = of_world;
      stand = played.stand;
      sound = subst IsSoundStore played.stand (sound seen outs played.last.world of_world);
      headline = λ schema entries holds. headline seen outs played.last.world of_world schema entries (subst (λ (o : Objects). Holds o schema entries) (sym played.stand) holds);
    }

text_so : (uses : Bool) (first : Objects) → IsFirstStore first → (text written : List ℕ) (seen : List Event) (outs : List (Job × Outcome)) (short : Bool) (objects : Objects) → IsSoundLaw → IsHeadlineLaw → ArePutHere (lines_of text)
    → HasPlayedText (first_scene first uses) text written seen outs short objects → IsSoOfTable seen outs objects
text_so uses first may text _ _ _ _ _ sound headline here (plays.to_end written seen outs short objects played) = played_so uses first may (lines_of text) written seen outs short objects sound headline here played
text_so uses first may text _ _ _ _ _ sound headline here (plays.to_bad those line rest written seen outs short objects are bad played) =
    played_so uses first may those written seen outs short objects sound headline (front_here those (line ∷ rest) (subst ArePutHere are here)) played

-- what a text was told that was played over what may stand first is so
pub script_so : (uses : Bool) (text written : List ℕ) (short : Bool) (first objects : Objects) → IsSoundLaw → IsHeadlineLaw → ArePutHere (lines_of text) → IsFirstStore first → PlaysShort (first_scene first uses) text written short objects → PlaysSo (first_scene first uses) text written objects
script_so uses text written short first objects sound headline here may played =
    (played.0, played.1, short, played.2, text_so uses first may text written played.0 played.1 short objects sound headline here played.2)

pub part_so : (uses : Bool) (text : List ℕ) (first objects : Objects) → IsSoundLaw → IsHeadlineLaw → ArePutHere (lines_of text) → IsFirstStore first → PlaysInPart (first_scene first uses) text objects → StaysSo (first_scene first uses) text objects
part_so uses text first objects sound headline here may part =
    record { part = part; so = played_so uses first may part.lines part.written part.events part.outs part.short objects sound headline (front_here part.lines part.rest (subst ArePutHere part.are here)) part.played }

-- what was written is so where it is so by what is known of it
pub finishes_as : (end : End) (old new : Option (List ℕ)) (Known So : List ℕ → Type 0) → ((written : List ℕ) → Known written → So written) → Finishes end (λ _. TellsWhole old new Known) → Finishes end (λ _. TellsWhole old new So)
finishes_as Done old new Known So by told = (told.0, told.1, by told.0 told.2)
finishes_as (BadLine number) old new Known So by told = (told.0, told.1, by told.0 told.2)
finishes_as NotRead old new Known So by told = tt
finishes_as NotWritten old new Known So by told = tt

-- what was told is so
pub finishes_so : (end : End) (old new : Option (List ℕ)) (uses : Bool) (text : List ℕ) (short : Bool) (first objects : Objects) → IsSoundLaw → IsHeadlineLaw → ArePutHere (lines_of text) → IsFirstStore first
    → Finishes end (λ _. TellsWhole old new (λ written. PlaysShort (first_scene first uses) text written short objects)) → Finishes end (λ _. TellsWhole old new (λ written. PlaysSo (first_scene first uses) text written objects))
finishes_so end old new uses text short first objects sound headline here may told =
    finishes_as end old new (λ written. PlaysShort (first_scene first uses) text written short objects) (λ written. PlaysSo (first_scene first uses) text written objects)
    (λ written played. script_so uses text written short first objects sound headline here may played) told
