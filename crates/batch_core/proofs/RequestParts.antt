-- What the rules of an append and of a close find in the commits of a log.
use Rattle.std.proofs.Common.{◌≡◌, ◌∙◌, ◌⊎◌, ℕ, ◌+◌, ◌==◌, eqb-true, nat_lt, if◌then◌else◌, ◌&&◌, not, List, [], ◌∷◌, Bool, true, false, Option, Some, None, Result, Ok, Err, refl, sym, ap, subst, inl, inr}
use Rattle.outcomes.specs.Results.{◌>>=◌, refused_as, refused_if}
use Rattle.serde_json.specs.Data.{Items, no_items, item}
use Rattle.row_core.specs.Fault as faults
use Rattle.row_core.specs.Fault.{Fault}
use Rattle.row_core.specs.Reading.{row_of}
use Rattle.row_core.specs.Rows.{Row}
use Rattle.row_core.specs.Unsupported.{unsupported}
use Rattle.schema_tree.specs.Fault.{Path}
use Rattle.schema_tree.specs.Tree.{Tree}
use Rattle.delta_actions.specs.Action.{Action}
use Rattle.delta_replay.specs.Closes.{is_closed}
use Rattle.delta_replay.specs.Keys.{last_number}
use Rattle.delta_replay.specs.Support.{Unsupported, writable}
use Rattle.batch_core.specs.Refusals.{SinkRefusal, bad_row, read_only, stale, stream_closed}
use Rattle.batch_core.specs.Requests.{SinkRequest, close_behind, is_repeat, numbered_behind, request_behind}
use Rattle.batch_core.specs.RowsIn.{rows_from, takes_rows, unless_unsupported}

-- ---- steps

abbrev done : {A : Type 0} → A → Result A SinkRefusal
done x = Ok x

abbrev refused : {A : Type 0} → SinkRefusal → Result A SinkRefusal
refused why = Err why

-- Two steps that gave this: what the first one gave, and that the second gives this of it.
both_done : {A B : Type 0} (part : Result A SinkRefusal) (more : A → Result B SinkRefusal) (made : B) → (part >>= more) ≡ Ok made → (value : A) × (part ≡ Ok value) × (more value ≡ Ok made)
both_done (Ok value) more made is = (value, refl, is)
both_done (Err why) more made is = absurd cc

-- Two steps that were refused: the first one was, or the second was behind what that gave.
one_refused : {A B : Type 0} (part : Result A SinkRefusal) (more : A → Result B SinkRefusal) (why : SinkRefusal) → (part >>= more) ≡ Err why → (part ≡ Err why) ⊎ ((value : A) × (part ≡ Ok value) × (more value ≡ Err why))
one_refused (Ok value) more why is = inr (value, refl, is)
one_refused {A = A} (Err other) more why is = let same : other ≡ why = cc in inl (ap (refused {A = A}) same)

-- what isn't refused is so whatever a refusal is told as
told_done : {A E : Type 0} (tell : E → SinkRefusal) (part : Result A E) (value : A) → refused_as tell part ≡ Ok value → part ≡ Ok value
told_done {E = E} tell (Ok made) value is = let same : made ≡ value = cc in ap (λ x. Ok x) same
told_done tell (Err why) value is = absurd cc

-- what was made is this
made_is : {A : Type 0} (x y : A) → done x ≡ Ok y → x ≡ y
made_is x y is = cc

-- ---- which step gives which refusal

-- a refusal for a number, or for a stream that is closed
abbrev pub IsOfNumber : SinkRefusal → Type 0
IsOfNumber (stale last) = Unit {0}
IsOfNumber stream_closed = Unit {0}
IsOfNumber why = ⊥

not_of_table : (part : Result Tree Unsupported) (why : SinkRefusal) → IsOfNumber why → refused_as read_only part ≡ Err why → ⊥
not_of_table (Ok schema) why of is = absurd cc
not_of_table (Err fault) why of is = let same : read_only fault ≡ why = cc in subst IsOfNumber (sym same) of

not_of_columns : (found : Option Path) (why : SinkRefusal) → IsOfNumber why → unless_unsupported found ≡ Err why → ⊥
not_of_columns None why of is = absurd cc
not_of_columns (Some path) why of is = let same : bad_row 0 (faults.unsupported path) ≡ why = cc in subst IsOfNumber (sym same) of

not_of_row : (index : ℕ) (part : Result Row Fault) (why : SinkRefusal) → IsOfNumber why → refused_as (bad_row index) part ≡ Err why → ⊥
not_of_row index (Ok row) why of is = absurd cc
not_of_row index (Err fault) why of is = let same : bad_row index fault ≡ why = cc in subst IsOfNumber (sym same) of

not_of_rows : (index : ℕ) (schema : Tree) (items : Items) (why : SinkRefusal) → IsOfNumber why → rows_from index schema items ≡ Err why → ⊥
unfolding rows_from
not_of_rows index schema no_items why of is = absurd cc
not_of_rows index schema (item d ds) why of is =
    elim (one_refused (refused_as (bad_row index) (row_of schema d)) (λ (first : Row). rows_from (index + 1) schema ds >>= λ (others : List Row). Ok (first ∷ others)) why is) [
      | inl first ↦ not_of_row index (row_of schema d) why of first
      | inr (first, read, rest) ↦ elim (one_refused (rows_from (index + 1) schema ds) (λ (others : List Row). done (first ∷ others)) why rest) [
        | inl more ↦ not_of_rows (index + 1) schema ds why of more
        | inr (others, more, made) ↦ absurd cc
      ]
    ]

-- ---- an append

-- The rules have read the rows, which the table's columns take.
pub record HasRead (log : List (List Action)) (items : Items) (schema : Tree) (rows : List Row) : Type 0 where
  pub written : writable log ≡ Ok schema
  pub takes : takes_rows schema ≡ Ok tt
  pub spelled : rows_from 0 schema items ≡ Ok rows

module _ (next : ℕ) (log : List (List Action)) (application : List ℕ) (number : ℕ) (items : Items) where
  abbrev request : Tree → List Row → Bool → SinkRequest
  request schema rows repeats = record { version = next; schema = schema; rows = rows; repeats = repeats }

  -- the steps, each behind the one before it
  abbrev pub behind_number : Tree → List Row → Bool → Result SinkRequest SinkRefusal
  behind_number schema rows repeats = refused_if (not repeats && is_closed application log) stream_closed >>= λ (goes_on : Unit {0}). Ok (request schema rows repeats)

  abbrev pub behind_rows : Tree → List Row → Result SinkRequest SinkRefusal
  behind_rows schema rows = is_repeat number (last_number application log) >>= behind_number schema rows

  abbrev behind_columns : Tree → Unit {0} → Result SinkRequest SinkRefusal
  behind_columns schema takes = rows_from 0 schema items >>= behind_rows schema

  abbrev pub behind_schema : Tree → Result SinkRequest SinkRefusal
  behind_schema schema = takes_rows schema >>= behind_columns schema

  -- whatever a request says, the rules of numbers say it
  numbered_done : (closed : Bool) (repeat : Result Bool SinkRefusal) (schema : Tree) (rows : List Row) (asked : SinkRequest)
      → (repeat >>= λ (repeats : Bool). refused_if (not repeats && closed) stream_closed >>= λ (goes_on : Unit {0}). Ok (request schema rows repeats)) ≡ Ok asked
      → ((repeat >>= λ (repeats : Bool). refused_if (not repeats && closed) stream_closed >>= λ (goes_on : Unit {0}). Ok repeats) ≡ Ok asked.repeats) × (request schema rows asked.repeats ≡ asked)
  numbered_done closed (Err why) schema rows asked is = absurd cc
  numbered_done closed (Ok repeats) schema rows asked is = by_test (not repeats && closed) is
    where
      by_test : (test : Bool) → (refused_if test stream_closed >>= λ (goes_on : Unit {0}). Ok (request schema rows repeats)) ≡ Ok asked
          → ((refused_if test stream_closed >>= λ (goes_on : Unit {0}). done repeats) ≡ Ok asked.repeats) × (request schema rows asked.repeats ≡ asked)
      by_test true told = absurd cc
      by_test false told =
          let same : request schema rows repeats ≡ asked = made_is (request schema rows repeats) asked told in
          let own : repeats ≡ asked.repeats = ap (λ (r : SinkRequest). r.repeats) same in
          (ap done own, subst (λ (b : Bool). request schema rows b ≡ asked) own same)

  numbered_refused : (closed : Bool) (repeat : Result Bool SinkRefusal) (schema : Tree) (rows : List Row) (why : SinkRefusal)
      → (repeat >>= λ (repeats : Bool). refused_if (not repeats && closed) stream_closed >>= λ (goes_on : Unit {0}). Ok (request schema rows repeats)) ≡ Err why
      → (repeat >>= λ (repeats : Bool). refused_if (not repeats && closed) stream_closed >>= λ (goes_on : Unit {0}). Ok repeats) ≡ Err why
  numbered_refused closed (Err other) schema rows why is = let same : other ≡ why = cc in ap (refused {A = Bool}) same
  numbered_refused closed (Ok repeats) schema rows why is = by_test (not repeats && closed) is
    where
      by_test : (test : Bool) → (refused_if test stream_closed >>= λ (goes_on : Unit {0}). Ok (request schema rows repeats)) ≡ Err why → (refused_if test stream_closed >>= λ (goes_on : Unit {0}). done repeats) ≡ Err why
      by_test true told = let same : stream_closed ≡ why = cc in ap (refused {A = Bool}) same
      by_test false told = absurd cc

  -- What is asked for: the table's schema, the rows that the items spell for it, the version that comes next, and whether the number is the
  -- last one again.
  pub asked_parts : (asked : SinkRequest) → request_behind next log application number items ≡ Ok asked → HasRead log items asked.schema asked.rows × (numbered_behind log application number ≡ Ok asked.repeats) × (asked.version ≡ next)
  unfolding request_behind
  asked_parts asked is =
      let a = both_done (refused_as read_only (writable log)) behind_schema asked is in
      let b = both_done (takes_rows a.0) (behind_columns a.0) asked a.2 in
      let c = both_done (rows_from 0 a.0 items) (behind_rows a.0) asked b.2 in
      let d = numbered_done (is_closed application log) (is_repeat number (last_number application log)) a.0 c.0 asked c.2 in
      let read : HasRead log items a.0 c.0 = record { written = told_done read_only (writable log) a.0 a.1; takes = b.1; spelled = c.1 } in
      (subst (λ (r : SinkRequest). HasRead log items r.schema r.rows) d.1 read, d.0, sym (ap (λ (r : SinkRequest). r.version) d.1))

  -- Where it is refused for its number, or since its stream is closed, its rows were read.
  pub refused_parts : (why : SinkRefusal) → IsOfNumber why → request_behind next log application number items ≡ Err why → (schema : Tree) × (rows : List Row) × HasRead log items schema rows × (numbered_behind log application number ≡ Err why)
  unfolding request_behind
  refused_parts why of is =
      elim (one_refused (refused_as read_only (writable log)) behind_schema why is) [
        | inl unwritten ↦ absurd (not_of_table (writable log) why of unwritten)
        | inr (schema, written, rest) ↦ elim (one_refused (takes_rows schema) (behind_columns schema) why rest) [
          | inl unsupported_one ↦ absurd (not_of_columns (unsupported schema) why of unsupported_one)
          | inr (takes, takes_them, more) ↦ elim (one_refused (rows_from 0 schema items) (behind_rows schema) why more) [
            | inl wrong ↦ absurd (not_of_rows 0 schema items why of wrong)
            | inr (rows, spelled, last) ↦ (
              schema,
              rows,
              record { written = told_done read_only (writable log) schema written; takes = takes_them; spelled = spelled },
              numbered_refused (is_closed application log) (is_repeat number (last_number application log)) schema rows why last,
            )
          ]
        ]
      ]

-- ---- the rules of numbers

-- Where a number is taken, it isn't below the last one, and the stream of a new one is open.
pub numbered_parts : (log : List (List Action)) (application : List ℕ) (number : ℕ) (repeats : Bool) → numbered_behind log application number ≡ Ok repeats
    → (is_repeat number (last_number application log) ≡ Ok repeats) × ((not repeats && is_closed application log) ≡ false)
numbered_parts log application number repeats is =
    let first = both_done (is_repeat number (last_number application log)) (λ (again : Bool). refused_if (not again && is_closed application log) stream_closed >>= λ (goes_on : Unit {0}). done again) repeats is in
    let second = both_done (refused_if (not first.0 && is_closed application log) stream_closed) (λ (goes_on : Unit {0}). done first.0) repeats first.2 in
    let same : first.0 ≡ repeats = made_is first.0 repeats second.2 in
    (first.1 ∙ ap done same, subst (λ (again : Bool). (not again && is_closed application log) ≡ false) same (passed (not first.0 && is_closed application log) second.0 second.1))
  where
    passed : (test : Bool) (x : Unit {0}) → refused_if test stream_closed ≡ Ok x → test ≡ false
    passed true x told = absurd cc
    passed false x told = refl

-- a number that is the last one again
pub repeats_last : (number : ℕ) (last : Option ℕ) → is_repeat number last ≡ Ok true → last ≡ Some number
repeats_last number None is = absurd cc
repeats_last number (Some last) is = by_tests (nat_lt number last) (number == last) refl is
  where
    by_tests : (below same : Bool) → (number == last) ≡ same → (if below then Err (stale last) else Ok same) ≡ Ok true → Some last ≡ Some number
    by_tests true same tested told = absurd cc
    by_tests false true tested told = ap Some (sym (eqb-true number last tested))
    by_tests false false tested told = absurd cc

-- ---- a close

-- What is asked for: the table's schema, and whether the stream is closed.
pub close_parts : (next : ℕ) (log : List (List Action)) (application : List ℕ) (asked : SinkRequest) → close_behind next log application ≡ Ok asked → (writable log ≡ Ok asked.schema) × (is_closed application log ≡ asked.repeats)
unfolding close_behind
close_parts next log application asked is =
    let a = both_done (refused_as read_only (writable log)) (λ (schema : Tree). done (made schema)) asked is in
    let same : made a.0 ≡ asked = made_is (made a.0) asked a.2 in
    (told_done read_only (writable log) a.0 a.1 ∙ ap (λ (t : Tree). Ok t) (ap (λ (r : SinkRequest). r.schema) same), ap (λ (r : SinkRequest). r.repeats) same)
  where
    made : Tree → SinkRequest
    made schema = record { version = next; schema = schema; rows = []; repeats = is_closed application log }
