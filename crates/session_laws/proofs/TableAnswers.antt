-- What the rules of an append and of a close say of a log's first commits, the plain table says of the entries that they stand for.
use Rattle.std.proofs.Common.{◌≡◌, ◌∙◌, ◌&&◌, ℕ, Bool, true, false, not, List, length, Contains, Option, Some, None, Result, Ok, Err, eqb, eqb-true, ltb, refl, sym, ap, subst}
use Rattle.std.specs.Prelude.{cond, option_map}
use Rattle.std.specs.Str.{IsUtf8}
use Rattle.outcomes.specs.Results.{◌>>=◌, refused_if}
use Rattle.store_core.specs.Objects.{Objects}
use Rattle.delta_actions.specs.Action.{Action}
use Rattle.delta_replay.specs.Closes as logs
use Rattle.delta_replay.specs.Support.{writable}
use Rattle.table_model.specs.Appends.{TellsAppend, TellsClose, appended, closing, with_batch, with_close}
use Rattle.table_model.specs.Table.{Batch, ToldNumber, Entry, batches, is_stream_closed, last_told}
use Rattle.table_model.specs.declared.table.AppendAnswer.{AppendAnswer}
use Rattle.table_model.specs.declared.table.AppendAnswer.TheVariants.{Committed, Stale, StreamClosed}
use Rattle.table_model.specs.declared.table.Closing.TheVariants.{AlreadyClosed}
use Rattle.table_model.proofs.Callers.{append_lasts, close_lasts, last_stands, told_batch}
use Rattle.table_model.proofs.Facts.{append_tells, close_tells}
use Rattle.table_store.specs.Schema.{Schema}
use Rattle.commit_core.proofs.Callers.{log_closed, log_last, log_open, written_by}
use Rattle.batch_core.specs.Refusals.{SinkRefusal, stale, stream_closed}
use Rattle.batch_core.specs.Requests.{is_repeat, numbered_behind}
use Rattle.session_laws.proofs.Fronts.{IsFrontOf}

-- ---- numbers

-- what follows from whether a number is the last one again
abbrev behind : (closed : Bool) → Result Bool SinkRefusal → Result Bool SinkRefusal
behind closed repeat = repeat >>= λ (repeats : Bool). refused_if (not repeats && closed) stream_closed >>= λ (goes_on : Unit {0}). Ok repeats

-- behind a close no number is new
never_new : (repeat : Result Bool SinkRefusal) → behind true repeat ≡ Ok false → ⊥
never_new (Ok true) is = absurd cc
never_new (Ok false) is = absurd cc
never_new (Err why) is = absurd cc

module _ (b : Batch) where
  -- the rules of numbers, over what was told last of the application
  abbrev rule : (last : Option ToldNumber) (closed : Bool) → Result Bool SinkRefusal
  rule last closed = behind closed (is_repeat b.number (option_map (λ t. t.number) last))

  -- in front of a close nothing is refused for it
  never_closed : (last : Option ToldNumber) → rule last false ≡ Err stream_closed → ⊥
  never_closed None is = absurd cc
  never_closed (Some before) is = by_tests (ltb b.number before.number) (eqb b.number before.number) is
    where
      by_tests : (below equal : Bool) → behind false (cond below (Err (stale before.number)) (Ok equal)) ≡ Err stream_closed → ⊥
      by_tests true equal told = absurd cc
      by_tests false true told = absurd cc
      by_tests false false told = absurd cc

  -- a number that is the last one again
  again_last : (last : Option ToldNumber) (closed : Bool) → rule last closed ≡ Ok true → (before : ToldNumber) × (last ≡ Some before) × (before.number ≡ b.number)
  again_last None true is = absurd cc
  again_last None false is = absurd cc
  again_last (Some before) closed is = by_tests (ltb b.number before.number) (eqb b.number before.number) refl is
    where
      by_tests : (below equal : Bool) → eqb b.number before.number ≡ equal → behind closed (cond below (Err (stale before.number)) (Ok equal)) ≡ Ok true
          → (t : ToldNumber) × (◌≡◌ {A = Option ToldNumber} (Some before) (Some t)) × (t.number ≡ b.number)
      by_tests true equal same told = absurd cc
      by_tests false true same told = (before, refl, sym (eqb-true b.number before.number same))
      by_tests false false same told = absurd (by_closed closed told)
        where
          by_closed : (shut : Bool) → behind shut (Ok false) ≡ Ok true → ⊥
          by_closed true wrong = absurd cc
          by_closed false wrong = absurd cc

module _ (b : Batch) (entries : List Entry) where
  -- a number that is new is taken
  new_taken : (last : Option ToldNumber) → last_told b.application entries ≡ last → is_stream_closed b.application entries ≡ false → rule b last false ≡ Ok false → appended b entries ≡ Committed (length entries)
  new_taken None is goes_on new = rw (is, goes_on) refl
  new_taken (Some before) is goes_on new = by_tests (ltb b.number before.number) (eqb b.number before.number) refl refl new
    where
      by_tests : (below equal : Bool) → ltb b.number before.number ≡ below → eqb b.number before.number ≡ equal
          → behind false (cond below (Err (stale before.number)) (Ok equal)) ≡ Ok false → appended b entries ≡ Committed (length entries)
      by_tests true equal under same taken = absurd cc
      by_tests false true over same taken = absurd cc
      by_tests false false over other taken = rw (is, over, other, goes_on) refl

  -- one below the last is stale
  stale_told : (last : Option ToldNumber) (closed : Bool) (number : ℕ) → last_told b.application entries ≡ last → rule b last closed ≡ Err (stale number) → appended b entries ≡ Stale number
  stale_told None true number is told = absurd cc
  stale_told None false number is told = absurd cc
  stale_told (Some before) closed number is told = by_tests (ltb b.number before.number) (eqb b.number before.number) refl refl told
    where
      by_closed : (repeats test : Bool) → (refused_if test stream_closed >>= λ (goes_on : Unit {0}). Ok repeats) ≡ Err (stale number) → ⊥
      by_closed repeats true wrong = absurd cc
      by_closed repeats false wrong = absurd cc

      by_tests : (below equal : Bool) → ltb b.number before.number ≡ below → eqb b.number before.number ≡ equal
          → behind closed (cond below (Err (stale before.number)) (Ok equal)) ≡ Err (stale number) → appended b entries ≡ Stale number
      by_tests true equal under same stale_so = let last_is : before.number ≡ number = cc in rw (is, under) (ap Stale last_is)
      by_tests false equal over same wrong = absurd (by_closed equal (not equal && closed) wrong)

  -- a new one behind the close of its stream isn't taken
  closed_told : (last : Option ToldNumber) → last_told b.application entries ≡ last → is_stream_closed b.application entries ≡ true → rule b last true ≡ Err stream_closed → appended b entries ≡ StreamClosed
  closed_told None is shut told = rw (is, shut) refl
  closed_told (Some before) is shut told = by_tests (ltb b.number before.number) (eqb b.number before.number) refl refl told
    where
      by_tests : (below equal : Bool) → ltb b.number before.number ≡ below → eqb b.number before.number ≡ equal
          → behind true (cond below (Err (stale before.number)) (Ok equal)) ≡ Err stream_closed → appended b entries ≡ StreamClosed
      by_tests true equal under same told = absurd cc
      by_tests false true over same told = absurd cc
      by_tests false false over other told = rw (is, over, other, shut) refl

-- ---- the batch that a number stands for

-- A batch of an application stands under a number.
pub record HasBatch (application : List ℕ) (number : ℕ) (entries : List Entry) : Type 0 where
  pub batch : Batch
  pub stands : Contains (batches entries) batch
  pub application_is : batch.application ≡ application
  pub number_is : batch.number ≡ number

-- that of the number that was told last
last_has : (application : List ℕ) (number : ℕ) (entries : List Entry) (last : ToldNumber) → last_told application entries ≡ Some last → last.number ≡ number → HasBatch application number entries
last_has application number entries last is same =
    let told = last_stands application entries last is in
    let found = told_batch entries last told.0 in
    record {
      batch = found.0;
      stands = found.1;
      application_is = ap (λ (t : ToldNumber). t.application) found.2 ∙ told.1;
      number_is = ap (λ (t : ToldNumber). t.number) found.2 ∙ same;
    }

-- ---- the first commits of a log

module _ (objects : Objects) (schema : Schema) (entries : List Entry) (next : ℕ) (log : List (List Action)) (front : IsFrontOf objects schema entries next log) where
  -- the schema by which the table is written is its own
  pub written_front : (found : Schema) → writable log ≡ Ok found → found ≡ schema
  written_front found is = written_by objects schema found front.firsts log front.lawful.begins front.made is

  -- what a table tells of a batch, where it takes none, stays so
  pub batch_lasts_on : (b : Batch) (answer : AppendAnswer) → TellsAppend answer b front.firsts → TellsAppend answer b entries
  batch_lasts_on b answer told = subst (TellsAppend answer b) (sym front.split) (append_lasts answer b front.firsts front.later told)

  module _ (b : Batch) where
    abbrev last_one : Option ToldNumber
    last_one = last_told b.application front.firsts

    rule_is : numbered_behind log b.application b.number ≡ rule b last_one (logs.is_closed b.application log)
    rule_is = ap (λ (last : Option ℕ). behind (logs.is_closed b.application log) (is_repeat b.number last)) (log_last objects schema b.application front.firsts log front.made)

    -- a number that is new is taken
    pub new_answer : numbered_behind log b.application b.number ≡ Ok false → appended b front.firsts ≡ Committed (length front.firsts)
    new_answer is = by_closed (logs.is_closed b.application log) refl (sym rule_is ∙ is)
      where
        by_closed : (closed : Bool) → logs.is_closed b.application log ≡ closed → rule b last_one closed ≡ Ok false → appended b front.firsts ≡ Committed (length front.firsts)
        by_closed true shut told = absurd (never_new (is_repeat b.number (option_map (λ t. t.number) last_one)) told)
        by_closed false goes_on told = new_taken b front.firsts last_one refl (log_open objects schema b.application front.firsts log front.made goes_on) told

    -- where it is the last again, its batch stands
    pub again_answer : numbered_behind log b.application b.number ≡ Ok true → HasBatch b.application b.number front.firsts
    again_answer is =
        let last = again_last b last_one (logs.is_closed b.application log) (sym rule_is ∙ is) in
        last_has b.application b.number front.firsts last.0 last.1 last.2

    -- one below the last
    pub stale_answer : (last : ℕ) → numbered_behind log b.application b.number ≡ Err (stale last) → TellsAppend (Stale last) b entries
    stale_answer last is =
        let told : appended b front.firsts ≡ Stale last = stale_told b front.firsts last_one (logs.is_closed b.application log) last refl (sym rule_is ∙ is) in
        batch_lasts_on b (Stale last) (subst (λ (answer : AppendAnswer). TellsAppend answer b (with_batch answer b front.firsts)) told (append_tells b front.firsts))

    -- a new one behind the close of its stream
    pub closed_answer : IsUtf8 b.application → numbered_behind log b.application b.number ≡ Err stream_closed → TellsAppend StreamClosed b entries
    closed_answer text is = by_closed (logs.is_closed b.application log) refl (sym rule_is ∙ is)
      where
        by_closed : (closed : Bool) → logs.is_closed b.application log ≡ closed → rule b last_one closed ≡ Err stream_closed → TellsAppend StreamClosed b entries
        by_closed false goes_on told = absurd (never_closed b last_one told)
        by_closed true shut told =
            let closed_so : is_stream_closed b.application front.firsts ≡ true = sym (log_closed objects schema b.application front.firsts log front.made text) ∙ shut in
            let answer : appended b front.firsts ≡ StreamClosed = closed_told b front.firsts last_one refl closed_so told in
            batch_lasts_on b StreamClosed (subst (λ (a : AppendAnswer). TellsAppend a b (with_batch a b front.firsts)) answer (append_tells b front.firsts))

  -- a stream that is closed
  pub close_answer : (application : List ℕ) → IsUtf8 application → logs.is_closed application log ≡ true → TellsClose AlreadyClosed application entries
  close_answer application text shut =
      let closed_so : is_stream_closed application front.firsts ≡ true = sym (log_closed objects schema application front.firsts log front.made text) ∙ shut in
      let tells : TellsClose (closing application front.firsts) application (with_close application front.firsts) = close_tells application front.firsts in
      let told : TellsClose AlreadyClosed application front.firsts = rw closed_so at tells in
      subst (TellsClose AlreadyClosed application) (sym front.split) (close_lasts AlreadyClosed application front.firsts front.later told)
