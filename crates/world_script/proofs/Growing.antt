-- What the objects of a world bear of its actors stays so while they grow; and a line that puts another tool's commit lets them grow.
use Rattle.std.proofs.Common.{◌≡◌, ◌∙◌, ℕ, List, [], ◌∷◌, Result, Ok, Err, refl, ap}
use Rattle.outcomes.specs.Lines.{with_newline}
use Rattle.store_core.specs.Names.{commit_name}
use Rattle.store_core.specs.Objects.{HasObjectsOf, Objects, object_at}
use Rattle.store_core.specs.declared.fault.StoreFault.{StoreFault}
use Rattle.store_core.specs.declared.fault.StoreFault.TheVariants as store_faults
use Rattle.store_core.specs.declared.store.Put.{Put}
use Rattle.session_core.specs.Stores.{MayAnswerPut, State}
use Rattle.session_core.specs.Talks.{Told, put_commit, told_lost, told_memory, told_put}
use Rattle.session_core.proofs.Callers.{bears_grows, borne_grows, talk_alone, talk_grows}
use Rattle.stream_world.specs.Worlds.{Actor, BearsActor, BearsActors, BearsHand, Hand, World, asking, ended, fresh, waiting}
use Rattle.lake_script.specs.AnyStore.{PutsForeign, TellsForeign}

-- ---- what is borne

hand_grows : (objects more : Objects) (hand : Hand) → HasObjectsOf objects more → BearsHand objects hand → BearsHand more hand
hand_grows objects more (waiting call told) grown is = borne_grows objects more call told grown is
hand_grows objects more fresh grown is = tt
hand_grows objects more (asking call) grown is = tt
hand_grows objects more (ended outcome) grown is = tt

actor_grows : (objects more : Objects) (actor : Actor) → HasObjectsOf objects more → BearsActor objects actor → BearsActor more actor
actor_grows objects more actor grown is = record {
  earlier = bears_grows objects more actor.before grown is.earlier;
  talk = bears_grows objects more actor.talk grown is.talk;
  hand = hand_grows objects more actor.hand grown is.hand;
}

-- more objects bear what fewer did
pub bearing_grows : (w : World) (more : Objects) → HasObjectsOf w.objects more → BearsActors w → BearsActors (record w { objects = more })
bearing_grows w more grown borne name actor is = actor_grows w.objects more actor grown (borne name actor is)

-- ---- which lines let objects grow

pub same_grows : (old new : Objects) → new ≡ old → HasObjectsOf old new
same_grows old new same name bytes is = ap (λ (o : Objects). object_at o name) same ∙ is

-- a commit is put beside what stood, whatever is told of it
commit_grows : (old new : State) (version : ℕ) (bytes : List ℕ) (told : Told) → MayAnswerPut old (commit_name version) bytes told new → HasObjectsOf old.0 new.0
commit_grows old new version bytes told is =
    talk_grows old new ((put_commit version bytes, told) ∷ []) (talk_alone old new ((put_commit version bytes, told) ∷ []) (new, is, refl))

put_grows : (old new : State) (count later version : ℕ) (action : List ℕ) (answer : Result Put StoreFault) → PutsForeign version action answer old new count later → HasObjectsOf old.0 new.0
put_grows old new count later version action (Ok put) so = commit_grows old new version (with_newline action) (told_put put) so.0
put_grows old new count later version action (Err store_faults.Lost) so = commit_grows old new version (with_newline action) told_lost so.0
put_grows old new count later version action (Err store_faults.Memory) so = commit_grows old new version (with_newline action) told_memory so.0

pub foreign_grows : (old new : State) (count later version : ℕ) (action reply : List ℕ) → TellsForeign version action reply old new count later → HasObjectsOf old.0 new.0
foreign_grows old new count later version action reply told = put_grows old new count later version action told.0 told.2
