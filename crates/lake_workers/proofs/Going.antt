-- A session that is being driven: what it asks for may be made, and where it ends.
use Rattle.std.proofs.Common.{◌≡◌, ◌∙◌, ◌+◌, ◌≤◌, ℕ, Bool, false, true, List, [], ◌∷◌, ◌++◌, length, Option, None, Some, inl, inr, refl, sym, ap, subst, arith, append-nil, length-append}
use Rattle.std.specs.Prelude.{◌||◌}
use Rattle.store_core.specs.Names.{commit_version}
use Rattle.store_core.specs.Objects.{Objects}
use Rattle.store_core.specs.declared.store.Put.TheVariants.{Created}
use Rattle.store_core.proofs.Callers.{named}
use Rattle.session_core.specs.Talks.{Asked, Bears, Talk, Told, get_object, has_lost, heard, is_lost, list_names, put_commit, put_file, told_put}
use Rattle.session_core.proofs.Callers.{asked_more}
use Rattle.table_log.specs.Restoring.{checkpoint_version}
use Rattle.table_log.proofs.Callers.{data_file_is_none}
use Rattle.table_model.specs.Table.{Entry}
use Rattle.table_store.specs.Holds.{Holds}
use Rattle.table_store.specs.Schema.{Schema}
use Rattle.table_store.specs.Sound.{IsAdmissible}
use Rattle.table_store.proofs.Callers.{commit_name-data_file_name}
use Rattle.delta_actions.specs.Names.{data_file_name}
use Rattle.table_jobs.specs.Jobs.{Asks, Ends, IsValidJob, Job, checkpoints, creates, is_lost_outcome, loads, reads, streams}
use Rattle.table_jobs.specs.Sessions.{SessionFits, end_view}
use Rattle.table_jobs.specs.declared.job_session.JobSession.{JobSession}
use Rattle.session_laws.specs.May.{BearsSession, May, MayAsk, TellsWhatWasCreated}
use Rattle.session_laws.specs.Moves.{Does, HasAsked, Move, asks, ends_lost, tells}
use Rattle.log_book.specs.Histories.{History}
use Rattle.log_book.specs.Making.{MayPutBeside}
use Rattle.log_hub.specs.Seats.{MayStand, log_seen}
use Rattle.log_hub.specs.Sights.{Seen}
use Rattle.log_hub.specs.declared.receipt.Receipt.{Receipt}
use Rattle.lake_workers.specs.Calls.{IsGivenFor, IsMade, MayBeMade}
use Rattle.lake_workers.specs.Driving.{IsDriven, IsReceiptOf, TalksThrough, TellsOfReceipt, commits_created, no_read, nothing}
use Rattle.lake_workers.specs.declared.driven.Driven.{Driven}
use Rattle.lake_workers.proofs.Making.{mine_more, receipt_more}
use Rattle.lake_workers.proofs.Showing.{was_shown}
use Rattle.lake_workers.proofs.Talking.{stood_by, talk_borne, talk_grows}

-- ---- talks in which no call is lost

none_of_both : (a b : Bool) → (a || b) ≡ false → (a ≡ false) × (b ≡ false)
none_of_both true b is = absurd cc
none_of_both false b is = (refl, is)

pub answered_more : (talk : Talk) (asked : Asked) (told : Told) → has_lost talk ≡ false → is_lost told ≡ false → has_lost (talk ++ (asked, told) ∷ []) ≡ false
answered_more [] asked told all one = ap (λ (b : Bool). b || false) one
answered_more (call ∷ talk) asked told all one =
    let both = none_of_both (is_lost call.1) (has_lost talk) all in
    ap (λ (b : Bool). b || has_lost (talk ++ (asked, told) ∷ [])) both.0 ∙ answered_more talk asked told both.1 one

pub answered_last : (talk : Talk) → has_lost talk ≡ false → ends_lost talk ≡ false
answered_last [] all = refl
answered_last (call ∷ []) all = (none_of_both (is_lost call.1) false all).0
answered_last (call ∷ next ∷ talk) all = answered_last (next ∷ talk) (none_of_both (is_lost call.1) (has_lost (next ∷ talk)) all).1

-- ---- where it is

-- the receipt that was given last is for the last call of the talk
abbrev pub IsGivenLast : Option Receipt → Talk → Type 0
IsGivenLast None talk = Unit {0}
IsGivenLast (Some receipt) talk = (front : Talk) × (talk ≡ front ++ (put_commit receipt.version receipt.commit.value.items, told_put Created) ∷ [])

-- So far a session was driven by a talk that was had by the calls which the seat made, up to an answer that it hasn't taken.
pub record IsGoing (before : Talk) (job : Job) (first now : Seen) (session : JobSession) (reply : Option Told) (receipt : Option Receipt) : Type 0 where
  pub taken : Talk
  pub asked : Option Asked
  pub fit : SessionFits before session taken asked
  pub made : History
  pub mine : now.mine ≡ first.mine ++ made
  pub had : TalksThrough first (heard taken asked reply) now
  pub few : length made + length (log_seen first) ≤ length (heard taken asked reply) + length (log_seen now)
  pub calls : HasAsked job before (heard taken asked reply)
  pub answered : has_lost (heard taken asked reply) ≡ false
  pub created : IsReceiptOf made now receipt
  pub given : IsGivenLast receipt (heard taken asked reply)

pub starts : (before : Talk) (job : Job) (s : Seen) (session : JobSession) → SessionFits before session [] None → IsGoing before job s s session None None
starts before job s session fits = record {
  taken = [];
  asked = None;
  fit = fits;
  made = [];
  mine = sym (append-nil s.mine);
  had = nothing;
  few = omega arith;
  calls = tt;
  answered = refl;
  created = refl;
  given = tt;
}

-- ---- what may be put

-- a data file's name is no commit's
no_commit : (application : List ℕ) (number : ℕ) → commit_version (data_file_name application number) ≡ None
no_commit application number = by_version (commit_version (data_file_name application number)) refl
  where
    by_version : (v : Option ℕ) → commit_version (data_file_name application number) ≡ v → v ≡ None
    by_version None is = refl
    by_version (Some version) is = absurd (commit_name-data_file_name version application number (named (data_file_name application number) version is).0)

file_may : (objects : Objects) (schema : Schema) (job : Job) (talk : Talk) (name bytes : List ℕ) → MayAsk objects schema job talk (put_file name bytes) → MayPutBeside objects name bytes
file_may objects schema (streams job) talk name bytes may =
    let batch = may.1.0 in
    inl (record {
      no_commit = ap commit_version may.1.2 ∙ no_commit batch.application batch.number;
      no_checkpoint = ap checkpoint_version may.1.2 ∙ data_file_is_none batch.application batch.number;
      free = may.2;
    })
file_may objects schema (checkpoints job) talk name bytes may = inr may
file_may objects schema (creates job) talk name bytes may = absurd may
file_may objects schema (loads job) talk name bytes may = absurd may
file_may objects schema (reads job) talk name bytes may = absurd may

commit_may : (objects : Objects) (schema : Schema) (job : Job) (talk : Talk) (version : ℕ) (bytes : List ℕ) → MayAsk objects schema job talk (put_commit version bytes) → IsAdmissible objects version bytes
commit_may objects schema (streams job) talk version bytes may = may.1.0
commit_may objects schema (creates job) talk version bytes may = may.0.0
commit_may objects schema (checkpoints job) talk version bytes may = absurd may
commit_may objects schema (loads job) talk version bytes may = absurd may
commit_may objects schema (reads job) talk version bytes may = absurd may

-- ---- its steps

-- what is so of every session
abbrev pub AllMay : Type 0
AllMay = (objects : Objects) (schema : Schema) (entries : List Entry) (job : Job) (before talk : Talk) (move : Move) → BearsSession objects schema entries job before talk → IsValidJob job → Does job before talk move → May objects schema entries job before talk move

abbrev pub AllTellCreated : Type 0
AllTellCreated = (job : Job) (before talk : Talk) (move : Move) → HasAsked job before talk → Does job before talk move → TellsWhatWasCreated talk move

module _ (before : Talk) (job : Job) (first now : Seen) (session : JobSession) (reply : Option Told) (receipt : Option Receipt) (earlier : (objects : Objects) → MayStand objects first → Bears objects before) (r : IsGoing before job first now session reply receipt) where
  -- a store that may stand might stand before
  stood : (objects : Objects) → MayStand objects now → MayStand objects first
  stood objects may = stood_by first now objects (talk_grows first now (heard r.taken r.asked reply) r.had) may

  -- it bears all that is known
  bears : (objects : Objects) (schema : Schema) (entries : List Entry) → MayStand objects now → Holds objects schema entries → BearsSession objects schema entries job before (heard r.taken r.asked reply)
  bears objects schema entries may holds = record {
    sound = may.sound;
    bytes = may.bytes;
    holds = holds;
    earlier = earlier objects (stood objects may);
    borne = talk_borne first now (heard r.taken r.asked reply) objects r.had may.has;
    asked = r.calls;
  }

  does : (asked : Asked) → Asks job before (heard r.taken r.asked reply) asked → Does job before (heard r.taken r.asked reply) (asks asked)
  does asked wants = (wants, answered_last (heard r.taken r.asked reply) r.answered)

  may_ask : AllMay → IsValidJob job → (asked : Asked) → Asks job before (heard r.taken r.asked reply) asked → (objects : Objects) → (stand : MayStand objects now) → MayAsk objects stand.sound.table.schema job (heard r.taken r.asked reply) asked
  may_ask law valid asked wants objects stand =
      law objects stand.sound.table.schema stand.sound.table.entries job before (heard r.taken r.asked reply) (asks asked) (bears objects stand.sound.table.schema stand.sound.table.entries stand stand.sound.table.holds) valid (does asked wants)

  -- what it asks for may be made through the seat
  pub may_be_made : AllMay → IsValidJob job → (asked : Asked) → Asks job before (heard r.taken r.asked reply) asked → MayBeMade now asked
  may_be_made law valid list_names wants = tt
  may_be_made law valid (get_object name) wants = tt
  may_be_made law valid (put_file name bytes) wants = λ objects stand. file_may objects stand.sound.table.schema job (heard r.taken r.asked reply) name bytes (may_ask law valid (put_file name bytes) wants objects stand)
  may_be_made law valid (put_commit version bytes) wants = λ objects stand. commit_may objects stand.sound.table.schema job (heard r.taken r.asked reply) version bytes (may_ask law valid (put_commit version bytes) wants objects stand)

  -- who asks for more has created nothing
  none_created : AllTellCreated → (asked : Asked) → Asks job before (heard r.taken r.asked reply) asked → commits_created r.made ≡ []
  none_created law asked wants = by_receipt receipt r.created r.given
    where
      by_receipt : (given : Option Receipt) → IsReceiptOf r.made now given → IsGivenLast given (heard r.taken r.asked reply) → commits_created r.made ≡ []
      by_receipt None is last = is
      by_receipt (Some one) is last = absurd (law job before (heard r.taken r.asked reply) (asks asked) r.calls (does asked wants) last.0 one.version one.commit.value.items last.1)

  -- one call more
  pub goes_on : AllTellCreated → (later : JobSession) (new : Seen) (asked : Asked) (told : Told) (given : Option Receipt) → SessionFits before later (heard r.taken r.asked reply) (Some asked) → Asks job before (heard r.taken r.asked reply) asked
      → IsMade now asked told given new → IsGoing before job first new later (Some told) given
  goes_on law later new asked told given fits wants m = record {
    taken = heard r.taken r.asked reply;
    asked = Some asked;
    fit = fits;
    made = r.made ++ m.made;
    mine = mine_more first now new r.made m.made r.mine m.mine;
    had = m.had first now (heard r.taken r.asked reply) r.had no_read;
    few = omega (arith, r.few, m.few, length-append r.made m.made, length-append (heard r.taken r.asked reply) ((asked, told) ∷ []));
    calls = asked_more (Asks job before) [] (heard r.taken r.asked reply) asked told r.calls wants;
    answered = answered_more (heard r.taken r.asked reply) asked told r.answered m.kept;
    created = receipt_more r.made m.made new given (none_created law asked wants) m.created;
    given = last_given given m.given;
  }
    where
      last_given : (given : Option Receipt) → IsGivenFor given asked told → IsGivenLast given (heard r.taken r.asked reply ++ (asked, told) ∷ [])
      last_given None is = tt
      last_given (Some one) is = (heard r.taken r.asked reply, λ i. heard r.taken r.asked reply ++ (is.0 i, is.1 i) ∷ [])

  -- it ends
  pub is_driven : AllMay → AllTellCreated → IsValidJob job → (driven : Driven) → driven.receipt ≡ receipt → Ends job before (heard r.taken r.asked reply) (end_view driven.end) → is_lost_outcome (end_view driven.end) ≡ false → IsDriven before job first now driven
  is_driven law created valid driven same ended told =
      let done : Does job before (heard r.taken r.asked reply) (tells (end_view driven.end)) = (ended, told ∙ sym (answered_last (heard r.taken r.asked reply) r.answered)) in
      record {
        talk = heard r.taken r.asked reply;
        made = r.made;
        mine = r.mine;
        had = r.had;
        few = r.few;
        asked = r.calls;
        ended = ended;
        answered = r.answered;
        told = told;
        borne = λ objects has. talk_borne first now (heard r.taken r.asked reply) objects r.had has;
        stood = stood;
        log = (talk_grows first now (heard r.taken r.asked reply) r.had).log;
        earlier = λ objects may. earlier objects (stood objects may);
        may = λ objects schema entries may holds. law objects schema entries job before (heard r.taken r.asked reply) (tells (end_view driven.end)) (bears objects schema entries may holds) valid done;
        shown = λ read is. was_shown read before first earlier now (heard r.taken r.asked reply) r.had (subst (λ (j : Job). HasAsked j before (heard r.taken r.asked reply)) is r.calls);
        created = subst (IsReceiptOf r.made now) (sym same) r.created;
        tells_of = subst (λ (o : Option Receipt). TellsOfReceipt o (end_view driven.end)) (sym same) (of_receipt receipt r.given (created job before (heard r.taken r.asked reply) (tells (end_view driven.end)) r.calls done));
      }
    where
      of_receipt : (given : Option Receipt) → IsGivenLast given (heard r.taken r.asked reply) → TellsWhatWasCreated (heard r.taken r.asked reply) (tells (end_view driven.end)) → TellsOfReceipt given (end_view driven.end)
      of_receipt None last so = tt
      of_receipt (Some one) last so = so last.0 one.version one.commit.value.items last.1
