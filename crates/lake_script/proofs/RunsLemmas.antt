-- From one line's reply to what a whole script may be told.
use Rattle.std.proofs.Common.{◌≡◌, ◌≢◌, ◌⊎◌, ℕ, ◌+◌, ◌∷◌, [], ◌++◌, List, Option, Result, Ok, Err, OnErr, OnOk, Bool, true, false, inl, inr, refl, ap, subst, sym, ◌∙◌, append_assoc, append-nil}
use Rattle.std.specs.Prelude.{⊤}
use Rattle.std.specs.Io.KnownBytes.{Appends, append_known}
use Rattle.store_core.specs.Objects.{Objects}
use Rattle.serde_json.specs.Data.{Items}
use Rattle.commit_core.specs.declared.fault.CreateFault.{CreateFault}
use Rattle.commit_core.specs.declared.fault.CreateFault.TheVariants as creating
use Rattle.batch_core.specs.declared.fault.SinkFault.{SinkFault}
use Rattle.batch_core.specs.declared.fault.SinkFault.TheVariants as appending
use Rattle.batch_core.specs.Refusals.{file_too_large}
use Rattle.sink_core.specs.Appending.{append_plan}
use Rattle.sink_core.specs.SinkSessions.{IsSinkJobDriven, SinkJob, close_job}
use Rattle.sink_core.specs.declared.sink_state.SinkOutcome.{SinkOutcome}
use Rattle.session_core.specs.Talks.{Talk}
use Rattle.session_core.specs.Stores.{State}
use Rattle.table_log.specs.declared.loading.Loaded.{Loaded}
use Rattle.source_core.specs.TailTexts.{tailed}
use Rattle.lake_script.specs.declared.reply.LineReply.TheVariants.{NotCreated, SinkRefused}
use Rattle.script_lines.specs.Lines.{append, close, Statement, create, tail, task, reading_of}
use Rattle.lake_script.specs.ReplyView.{reply_text, is_short_reply}
use Rattle.lake_script.specs.Runs.{IsShort, IsWantOfMemory, MayLeave, Executes, Replies, Runs, done, stops, goes_on, RunsInPart, waits, begins, follows, no_room_to_read, FallsShort, later, TellsWhole}
use Rattle.lake_script.specs.Told.{is_bad, IsPrintedStatement, reply_to_statement, left_by_statement, tailed_reply}
use Rattle.lake_script.proofs.StreamLemmas.{Appends-both, nothing_known}

-- a line that creates no table has what it asks for with any text
pub executed_without_text : (objects : Objects) (statement : Statement) (reply : List ℕ) (after : Objects) → IsPrintedStatement objects statement []
    → ((reply ≡ reply_to_statement objects statement []) × (after ≡ left_by_statement objects statement [])) ⊎ (IsWantOfMemory statement reply × MayLeave objects statement after) → Executes objects statement reply after
executed_without_text objects statement reply after none (inl has) = inl ([], none, has.0, has.1)
executed_without_text objects statement reply after none (inr wants) = inr wants

-- a read has what it asks for, or is told that a growth was refused
pub read_executed : (objects after : Objects) (max : ℕ) (offset reply : List ℕ) (short : Bool) → (short ≡ false → reply ≡ tailed_reply (tailed false objects max offset)) → (short ≡ true → reply ≡ no_room_to_read) → after ≡ objects
    → Executes objects (task (tail max offset)) reply after
read_executed objects after max offset reply true told wants same = inr (wants refl, same)
read_executed objects after max offset reply false told wants same = inl ([], tt, told refl, same)

-- which faults are short
pub creation_short : (fault : CreateFault) (objects : Objects) (id : List ℕ) (at : ℕ) (schema : List ℕ) → is_short_reply (NotCreated fault) ≡ true
    → IsShort objects (create id at schema) (reply_text (NotCreated fault))
creation_short creating.Memory objects id at schema h = inl refl
creation_short creating.TooLarge objects id at schema h = inr refl
creation_short _ objects id at schema h = cc

pub append_short : (fault : SinkFault) (objects : Objects) (application : List ℕ) (number at : ℕ) (items : Items) → is_short_reply (SinkRefused fault) ≡ true
    → (fault ≡ appending.FileTooLarge → append_plan false objects application number at items ≡ Err file_too_large) → IsShort objects (task (append application number at items)) (reply_text (SinkRefused fault))
append_short appending.Memory objects application number at items h large = inl refl
append_short appending.FileTooLarge objects application number at items h large = inr (refl, large refl)
append_short _ objects application number at items h large = cc

pub close_short : (fault : SinkFault) (objects : Objects) (application : List ℕ) (at : ℕ) → is_short_reply (SinkRefused fault) ≡ true → fault ≢ appending.FileTooLarge → IsShort objects (task (close application at)) (reply_text (SinkRefused fault))
close_short appending.Memory objects application at h small = inl refl
close_short appending.FileTooLarge objects application at h small = absurd (small refl)
close_short _ objects application at h small = cc

-- a job that was driven by some calls
pub driven_somehow : (makes : Talk → Type 0) (is_reliable : Type 0) (job : SinkJob) (known : Loaded) (answer : Result SinkOutcome SinkFault) (old new : State) (count behind : ℕ) → IsSinkJobDriven makes is_reliable job known answer old new count behind
    → IsSinkJobDriven (λ talk. Unit {0}) is_reliable job known answer old new count behind
driven_somehow makes is_reliable job known answer old new count behind (inl memory) = inl (memory.0, tt, memory.2, memory.3)
driven_somehow makes is_reliable job known answer old new count behind (inr driven) =
    let d = driven.3 in
    inr (
      driven.0,
      driven.1,
      driven.2,
      record {
        talk = d.talk;
        talked = d.talked;
        called = tt;
        exact = d.exact;
        asked = d.asked;
        ended = d.ended;
        borne = d.borne;
        still_borne = d.still_borne;
        counted = d.counted;
        told = d.told;
        few = d.few;
      },
    )

-- a close writes no file that is too large
module _ (is_reliable : Type 0) (application : List ℕ) (at tries : ℕ) (use_checkpoints : Bool) (known later_known : Loaded) (old new : State) (count later : ℕ) where
  abbrev IsClosedBy : SinkFault → Type 0
  IsClosedBy fault = IsSinkJobDriven (λ talk. Unit {0}) is_reliable (close_job application at tries use_checkpoints known) later_known (Err fault) old new count later

  none_large : IsClosedBy appending.FileTooLarge → ⊥
  none_large (inl memory) = let wrong = memory.0 in cc
  none_large (inr driven) = let wrong = driven.3.ended.answer.is.task in cc

  pub closes_small : (fault : SinkFault) → IsClosedBy fault → fault ≢ appending.FileTooLarge
  closes_small fault driven large = none_large (subst IsClosedBy large driven)

-- whatever the lines that are left are told, all of them or some, the whole is told behind what was told so far
abbrev pub Onward : Objects → List (List ℕ) → ℕ → Objects → List (List ℕ) → List ℕ → Type 0
Onward start whole number objects lines front =
    ((rest : List ℕ) (final : Objects) → Runs number objects lines rest final → Runs 1 start whole (front ++ rest) final)
    × ((rest : List ℕ) (final : Objects) → RunsInPart number objects lines rest final → RunsInPart 1 start whole (front ++ rest) final)
    × ((rest : List ℕ) → FallsShort number objects lines rest → FallsShort 1 start whole (front ++ rest))

-- whatever follows what was told so far, a reply in it tells that something was short
abbrev pub SaysShort : Objects → List (List ℕ) → List ℕ → Type 0
SaysShort start whole front = (rest : List ℕ) → FallsShort 1 start whole (front ++ rest)

-- a line more was told, which isn't bad
pub onward_next : (start : Objects) (whole : List (List ℕ)) (number : ℕ) (objects : Objects) (line : List ℕ) (lines : List (List ℕ)) (front reply : List ℕ) (after : Objects) → Onward start whole number objects (line ∷ lines) front
    → is_bad (reading_of line) ≡ false → Replies number objects (reading_of line) reply after → Onward start whole (number + 1) after lines (front ++ reply)
onward_next start whole number objects line lines front reply after onward more is = (
  λ rest final r. subst (λ u. Runs 1 start whole u final) (sym (append_assoc front reply rest)) (onward.0 (reply ++ rest) final (goes_on reply rest after more is r)),
  λ rest final r. subst (λ u. RunsInPart 1 start whole u final) (sym (append_assoc front reply rest)) (onward.1 (reply ++ rest) final (follows reply rest after more is r)),
  λ rest r. subst (λ u. FallsShort 1 start whole u) (sym (append_assoc front reply rest)) (onward.2 (reply ++ rest) (later reply rest after more is r)),
)

-- what is told behind what was told
pub tells_on : (old mid new : Option (List ℕ)) → TellsWhole old mid (λ written. ⊤) → TellsWhole mid new (λ written. ⊤) → TellsWhole old new (λ written. ⊤)
tells_on old mid new t s = (t.0 ++ s.0, Appends-both old mid new t.0 s.0 t.1 s.1, tt)

-- what is told is written once nothing waits
pub tells_through : (Holds : List ℕ → Type 0) (old mid contents : Option (List ℕ)) (pending : List ℕ) → TellsWhole old mid Holds → Appends mid (append_known contents pending) [] → pending ≡ [] → TellsWhole old contents Holds
tells_through Holds old mid contents pending t flushed none =
    let all = subst (λ u. Appends old (append_known contents pending) u) (append-nil t.0) (Appends-both old mid (append_known contents pending) t.0 [] t.1 flushed) in
    (t.0, subst (λ u. Appends old u t.0) (ap (append_known contents) none ∙ nothing_known contents) all, t.2)

-- what all lines are told is told for the first of them
pub in_part : (number : ℕ) (objects : Objects) (lines : List (List ℕ)) (written : List ℕ) (final : Objects) → Runs number objects lines written final → RunsInPart number objects lines written final
in_part number objects lines written final done = waits
in_part number objects (line ∷ lines) written final (stops ends is) = begins is
in_part number objects (line ∷ lines) written final (goes_on reply rest after more is runs) = follows reply rest after more is (in_part (number + 1) after lines rest final runs)

-- what holds holds of an error too
pub on_err : {T E : Type 0} (r : Result T E) (P : Type 0) → P → OnErr r P
on_err (Ok x) P p = tt
on_err (Err e) P p = p

-- what follows from what holds, holds
pub then_ok : {T E : Type 0} (r : Result T E) (P Q : Type 0) → (P → Q) → OnOk r P → OnOk r Q
then_ok (Ok x) P Q so p = so p
then_ok (Err e) P Q so p = tt

pub then_err : {T E : Type 0} (r : Result T E) (P Q : Type 0) → (P → Q) → OnErr r P → OnErr r Q
then_err (Ok x) P Q so p = tt
then_err (Err e) P Q so p = so p
