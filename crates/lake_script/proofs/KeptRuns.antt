-- From one line to whole scripts: where a store keeps what a script made so far, each line is told what the plain table
-- tells, and the store goes on to keep it.
use Rattle.std.proofs.Common.{if◌then◌else◌, ◌≡◌, ℕ, suc, ◌+◌, ◌≤◌, Bool, true, false, List, [], ◌∷◌, ◌++◌, length, Result, Ok, Err, refl, sym, ap, ◌∙◌, append-nil, append_assoc, arith, inl, inr, length-append}
use Rattle.std.proofs.lemmas.Bool.{cases_Bool}
use Rattle.serde_json.specs.Data.{Items}
use Rattle.schema_tree.specs.Tree.{Tree}
use Rattle.store_core.specs.Objects.{Objects}
use Rattle.store_core.specs.Names.{greatest_version}
use Rattle.table_model.specs.Table.{Batch, Entry, group, close as closes, is_stream_closed}
use Rattle.table_model.specs.Appends.{appended, with_batch}
use Rattle.table_model.specs.declared.table.AppendAnswer.{AppendAnswer}
use Rattle.table_model.specs.declared.table.AppendAnswer.TheVariants.{Committed, Already, Stale, Differs, StreamClosed}
use Rattle.commit_core.specs.Creating as creations
use Rattle.commit_core.specs.Histories.{history_of, bad_log}
use Rattle.script_lines.specs.Lines.{Statement, create, task, look, history, show, hex, snapshot, foreign, append, close, checkpoint, tail, Reading, skipped, bad, asks, reading_of}
use Rattle.log_offsets.specs.Offsets.{offset_of}
use Rattle.batch_core.specs.Refusals.{SinkRefusal}
use Rattle.lake_script.specs.Sound.{IsSoundStatement, IsSoundLine, AreSoundLines}
use Rattle.lake_script.specs.Scripts.{line_over, reply_over, expected_over}
use Rattle.lake_script.specs.Tables as tables
use Rattle.lake_script.specs.Tables.{TableState, nothing, table, entries_of_state, AsksTable, IsOfTable, AreOfTable}
use Rattle.source_core.specs.TailTexts.{tailed}
use Rattle.lake_script.specs.Told as told
use Rattle.lake_script.specs.Told.{tailed_reply, is_bad, UnlessBad, ArePrintedLines, IsPutHere, ArePutHere}
use Rattle.read_laws.specs.Kept.{KeepsTable}
use Rattle.lake_script.specs.Keeps.{Keeps}

-- what is known of single lines
pub record Given : Type 0 where
  pub create_told : (objects : Objects) (state : TableState) (id : List ℕ) (at : ℕ) (schema printed : List ℕ) → Keeps objects state
      → IsSoundStatement objects (create id at schema) printed
      → (told.reply_to_statement objects (create id at schema) printed ≡ tables.table_reply_to_statement state (create id at schema))
      × Keeps (told.left_by_statement objects (create id at schema) printed) (tables.table_left_by_statement state (create id at schema))
  pub append_told : (objects : Objects) (state : TableState) (application : List ℕ) (number at : ℕ) (items : Items) (printed : List ℕ) → Keeps objects state → length (entries_of_state state) ≤ greatest_version
      → IsSoundStatement objects (task (append application number at items)) printed
      → (told.reply_to_statement objects (task (append application number at items)) printed ≡ tables.table_reply_to_statement state (task (append application number at items)))
      × Keeps (told.left_by_statement objects (task (append application number at items)) printed) (tables.table_left_by_statement state (task (append application number at items)))
  pub close_told : (objects : Objects) (state : TableState) (application : List ℕ) (at : ℕ) (printed : List ℕ) → Keeps objects state → length (entries_of_state state) ≤ greatest_version
      → IsSoundStatement objects (task (close application at)) printed
      → (told.reply_to_statement objects (task (close application at)) printed ≡ tables.table_reply_to_statement state (task (close application at)))
      × Keeps (told.left_by_statement objects (task (close application at)) printed) (tables.table_left_by_statement state (task (close application at)))
  pub checkpoint_told : (objects : Objects) (state : TableState) (printed : List ℕ) → Keeps objects state → IsSoundStatement objects (task checkpoint) printed
      → (told.reply_to_statement objects (task checkpoint) printed ≡ tables.table_reply_to_statement state (task checkpoint))
      × Keeps (told.left_by_statement objects (task checkpoint) printed) (tables.table_left_by_statement state (task checkpoint))
  pub tail_told : (objects : Objects) (schema : Tree) (entries : List Entry) → KeepsTable objects schema entries → (max : ℕ) (offset : List ℕ)
      → tailed_reply (tailed false objects max offset) ≡ tables.tail_reply (table schema entries) max (offset_of offset)
  pub tail_of_nothing : (max : ℕ) (offset : List ℕ) → tailed_reply (tailed false [] max offset) ≡ tables.tail_reply nothing max (offset_of offset)
  pub history_told : (objects : Objects) (schema : Tree) (entries : List Entry) → KeepsTable objects schema entries → history_of objects ≡ tables.table_history_from 0 entries
  pub history_of_nothing : history_of [] ≡ bad_log 0

-- ---- a line adds one entry at most

-- a creation leaves one entry, or what was there
created_one : (state : TableState) (found : Result Tree creations.CreateRefusal) → length (entries_of_state (tables.with_table state found)) ≤ suc (length (entries_of_state state))
created_one state (Ok schema) = omega arith
created_one state (Err why) = omega arith

-- an append leaves one entry more, or what was there
batch_one : (answer : AppendAnswer) (b : Batch) (entries : List Entry) → length (with_batch answer b entries) ≤ suc (length entries)
batch_one (Committed version) b entries = let joined = length-append entries (group (b ∷ []) ∷ []) in omega arith
batch_one (Already number) b entries = omega arith
batch_one (Stale last) b entries = omega arith
batch_one Differs b entries = omega arith
batch_one StreamClosed b entries = omega arith

-- the same of a table, where there is one
appended_one : (state : TableState) (answer : Result Batch SinkRefusal) → length (entries_of_state (tables.with_appended state answer)) ≤ suc (length (entries_of_state state))
appended_one nothing answer = omega arith
appended_one (table schema entries) (Ok b) = batch_one (appended b entries) b entries
appended_one (table schema entries) (Err refusal) = omega arith

-- so does a close
close_one : (closed : Bool) (entries : List Entry) (entry : Entry) → length (if closed then entries else entries ++ entry ∷ []) ≤ suc (length entries)
close_one true entries entry = omega arith
close_one false entries entry = let joined = length-append entries (entry ∷ []) in omega arith

closed_one : (state : TableState) (application : List ℕ) (answer : Result (Unit {0}) SinkRefusal) → length (entries_of_state (tables.with_closed state application answer)) ≤ suc (length (entries_of_state state))
closed_one nothing application answer = omega arith
closed_one (table schema entries) application (Ok fine) = close_one (is_stream_closed application entries) entries (closes application)
closed_one (table schema entries) application (Err refusal) = omega arith

-- what a line asks for adds one entry at most
statement_one : (state : TableState) (statement : Statement) → length (entries_of_state (tables.table_left_by_statement state statement)) ≤ suc (length (entries_of_state state))
statement_one state (create id at schema) = created_one state (tables.creating state (creations.described id schema))
statement_one state (task (append application number at items)) = appended_one state (tables.batch_in state application number items)
statement_one state (task (close application at)) = closed_one state application (tables.stream_in state application)
statement_one state _ = omega arith

-- the table behind a line has one entry more at most
pub left_by_one : (state : TableState) (r : Reading) → length (entries_of_state (tables.table_left_by state r)) ≤ suc (length (entries_of_state state))
left_by_one state skipped = omega arith
left_by_one state bad = omega arith
left_by_one state (asks statement) = statement_one state statement

-- lines add as many entries as they are, at most
left_from_short : (state : TableState) (lines : List (List ℕ)) → length (entries_of_state (tables.table_left_from state lines)) ≤ length (entries_of_state state) + length lines
unfolding tables.table_left_from
left_from_short state [] = omega arith
left_from_short state (line ∷ lines) =
    elim (cases_Bool (is_bad (reading_of line))) [
      | inl ends ↦ rw ends (omega arith)
      | inr on ↦ rw on (omega (arith, left_from_short (tables.table_left_by state (reading_of line)) lines, left_by_one state (reading_of line)))
    ]

-- ---- sound lines

-- what holds unless a line is bad holds where it isn't
unless_bad : (b : Bool) (Holds : Type 0) → UnlessBad b Holds → b ≡ false → Holds
unless_bad true Holds h is = absurd cc
unless_bad false Holds h is = h

module _ (line printed : List ℕ) (lines texts : List (List ℕ)) (objects : Objects) where
  -- the texts behind the first are those of the lines behind it, where it isn't bad
  rest_printed : ArePrintedLines objects (line ∷ lines) (printed ∷ texts) → is_bad (reading_of line) ≡ false → ArePrintedLines (told.left_by objects (reading_of line) printed) lines texts
  unfolding ArePrintedLines
  rest_printed all on = unless_bad (is_bad (reading_of line)) (ArePrintedLines (told.left_by objects (reading_of line) printed) lines texts) all.1 on

  -- the first line is sound
  first_sound : AreSoundLines objects (line ∷ lines) (printed ∷ texts) → IsSoundLine objects (reading_of line) printed
  unfolding AreSoundLines
  first_sound sound = sound.0

  -- those behind it are, where it isn't bad
  rest_sound : AreSoundLines objects (line ∷ lines) (printed ∷ texts) → is_bad (reading_of line) ≡ false → AreSoundLines (told.left_by objects (reading_of line) printed) lines texts
  unfolding AreSoundLines
  rest_sound sound on = unless_bad (is_bad (reading_of line)) (AreSoundLines (told.left_by objects (reading_of line) printed) lines texts) sound.1 on

-- beside a line a text stands
no_text : (objects : Objects) (line : List ℕ) (lines : List (List ℕ)) → ArePrintedLines objects (line ∷ lines) [] → ⊥
unfolding ArePrintedLines
no_text objects line lines none = none

-- ---- lines that put what this program makes

-- a line that asks the table alone puts no other tool's commit
statement_put_here : (statement : Statement) → AsksTable statement → IsPutHere (asks statement)
statement_put_here (foreign version action) only = only
statement_put_here (task (append application number at items)) only = tt
statement_put_here (task (close application at)) only = tt
statement_put_here (task checkpoint) only = tt
statement_put_here (task (tail max offset)) only = tt
statement_put_here _ only = tt

put_here : (r : Reading) → IsOfTable r → IsPutHere r
put_here skipped only = tt
put_here bad only = tt
put_here (asks statement) only = statement_put_here statement only

-- ---- one line

module _ (given : Given) where
  -- a read is told what the table tells, also where there is none
  tail_state : (objects : Objects) (state : TableState) → Keeps objects state → (max : ℕ) (offset : List ℕ)
      → tailed_reply (tailed false objects max offset) ≡ tables.tail_reply state max (offset_of offset)
  tail_state objects nothing keeps max offset = ap (λ (o : Objects). tailed_reply (tailed false o max offset)) keeps ∙ given.tail_of_nothing max offset
  tail_state objects (table schema entries) keeps max offset = given.tail_told objects schema entries keeps.0 max offset

  -- so is the history
  history_state : (objects : Objects) (state : TableState) → Keeps objects state → history_of objects ≡ tables.history_reply state
  history_state objects nothing keeps = ap history_of keeps ∙ given.history_of_nothing
  history_state objects (table schema entries) keeps = given.history_told objects schema entries keeps.0

  -- what a line asks for is told as by the table
  statement_told : (objects : Objects) (state : TableState) (statement : Statement) (printed : List ℕ) → Keeps objects state → length (entries_of_state state) ≤ greatest_version → IsSoundStatement objects statement printed → AsksTable statement
      → told.reply_to_statement objects statement printed ≡ tables.table_reply_to_statement state statement
  statement_told objects state (create id at schema) printed keeps small sound only = (given.create_told objects state id at schema printed keeps sound).0
  statement_told objects state (task (append application number at items)) printed keeps small sound only = (given.append_told objects state application number at items printed keeps small sound).0
  statement_told objects state (task (close application at)) printed keeps small sound only = (given.close_told objects state application at printed keeps small sound).0
  statement_told objects state (task checkpoint) printed keeps small sound only = (given.checkpoint_told objects state printed keeps sound).0
  statement_told objects state (task (tail max offset)) printed keeps small sound only = tail_state objects state keeps max offset
  statement_told objects state (look history) printed keeps small sound only = history_state objects state keeps
  statement_told objects state (look snapshot) printed keeps small sound only = absurd only
  statement_told objects state (look (show version)) printed keeps small sound only = absurd only
  statement_told objects state (look (hex name)) printed keeps small sound only = absurd only
  statement_told objects state (foreign version action) printed keeps small sound only = absurd only
  statement_told objects state _ printed keeps small sound only = refl

  -- behind it the store keeps the table behind it
  pub statement_kept : (objects : Objects) (state : TableState) (statement : Statement) (printed : List ℕ) → Keeps objects state → length (entries_of_state state) ≤ greatest_version → IsSoundStatement objects statement printed → IsPutHere (asks statement)
      → Keeps (told.left_by_statement objects statement printed) (tables.table_left_by_statement state statement)
  statement_kept objects state (create id at schema) printed keeps small sound here = (given.create_told objects state id at schema printed keeps sound).1
  statement_kept objects state (task (append application number at items)) printed keeps small sound here = (given.append_told objects state application number at items printed keeps small sound).1
  statement_kept objects state (task (close application at)) printed keeps small sound here = (given.close_told objects state application at printed keeps small sound).1
  statement_kept objects state (task checkpoint) printed keeps small sound here = (given.checkpoint_told objects state printed keeps sound).1
  statement_kept objects state (foreign version action) printed keeps small sound here = absurd here
  statement_kept objects state _ printed keeps small sound here = keeps

  -- a line that asks the table alone is told what the table tells
  pub line_told : (number : ℕ) (objects : Objects) (state : TableState) (r : Reading) (printed : List ℕ) → Keeps objects state → length (entries_of_state state) ≤ greatest_version → IsSoundLine objects r printed → IsOfTable r
      → told.reply_to number objects r printed ≡ tables.table_reply_to number state r
  line_told number objects state skipped printed keeps small sound only = refl
  line_told number objects state bad printed keeps small sound only = refl
  line_told number objects state (asks statement) printed keeps small sound only = statement_told objects state statement printed keeps small sound only

  -- behind a line that puts no other tool's commit the store keeps the table behind it
  pub line_kept : (objects : Objects) (state : TableState) (r : Reading) (printed : List ℕ) → Keeps objects state → length (entries_of_state state) ≤ greatest_version → IsSoundLine objects r printed → IsPutHere r
      → Keeps (told.left_by objects r printed) (tables.table_left_by state r)
  line_kept objects state skipped printed keeps small sound here = keeps
  line_kept objects state bad printed keeps small sound here = keeps
  line_kept objects state (asks statement) printed keeps small sound here = statement_kept objects state statement printed keeps small sound here

  -- ---- several lines

  -- what lines are told where the store keeps a table
  pub told_on : (number : ℕ) (objects : Objects) (state : TableState) (lines texts : List (List ℕ)) → Keeps objects state → length (entries_of_state state) + length lines ≤ suc greatest_version
      → ArePrintedLines objects lines texts → AreSoundLines objects lines texts → AreOfTable lines → told.expected_from number objects lines texts ≡ tables.table_expected_from number state lines
  unfolding told.expected_from tables.table_expected_from
  told_on number objects state [] texts keeps few printed sound only = refl
  told_on number objects state (line ∷ lines) [] keeps few printed sound only = absurd (no_text objects line lines printed)
  told_on number objects state (line ∷ lines) (text ∷ texts) keeps few printed sound only =
      let r = reading_of line in
      let small : length (entries_of_state state) ≤ greatest_version = omega arith in
      let here = first_sound line text lines texts objects sound in
      let same = line_told number objects state r text keeps small here only.0 in
      let kept = line_kept objects state r text keeps small here (put_here r only.0) in
      let fewer : length (entries_of_state (tables.table_left_by state r)) + length lines ≤ suc greatest_version = omega (arith, left_by_one state r) in
      elim (cases_Bool (is_bad r)) [
        | inl ends ↦ rw (ends, same) refl
        | inr on ↦
            let behind = told_on (number + 1) (told.left_by objects r text) (tables.table_left_by state r) lines texts kept fewer (rest_printed line text lines texts objects printed on) (rest_sound line text lines texts objects sound on) only.1 in
            rw (on, same, behind) refl
      ]

  -- lines begin as the plain table tells those in front of the first that doesn't ask it alone
  pub told_in_front : (number : ℕ) (objects : Objects) (state : TableState) (front rest texts : List (List ℕ)) → Keeps objects state → length (entries_of_state state) + length front ≤ suc greatest_version
      → ArePrintedLines objects (front ++ rest) texts → AreSoundLines objects (front ++ rest) texts → AreOfTable front → (more : List ℕ) × (told.expected_from number objects (front ++ rest) texts ≡ tables.table_expected_from number state front ++ more)
  unfolding told.expected_from tables.table_expected_from
  told_in_front number objects state [] rest texts keeps few printed sound only = (told.expected_from number objects rest texts, refl)
  told_in_front number objects state (line ∷ front) rest [] keeps few printed sound only = absurd (no_text objects line (front ++ rest) printed)
  told_in_front number objects state (line ∷ front) rest (text ∷ texts) keeps few printed sound only =
      let r = reading_of line in
      let lines = front ++ rest in
      let small : length (entries_of_state state) ≤ greatest_version = omega arith in
      let here = first_sound line text lines texts objects sound in
      let same = line_told number objects state r text keeps small here only.0 in
      let kept = line_kept objects state r text keeps small here (put_here r only.0) in
      let fewer : length (entries_of_state (tables.table_left_by state r)) + length front ≤ suc greatest_version = omega (arith, left_by_one state r) in
      elim (cases_Bool (is_bad r)) [
        | inl ends ↦ ([], rw (ends, same) (sym (append-nil (tables.table_reply_to number state r ++ []))))
        | inr on ↦
            let behind = told_in_front (number + 1) (told.left_by objects r text) (tables.table_left_by state r) front rest texts kept fewer (rest_printed line text lines texts objects printed on) (rest_sound line text lines texts objects sound on) only.1 in
            (behind.0, rw (on, same, behind.1) (sym (append_assoc (tables.table_reply_to number state r) (tables.table_expected_from (number + 1) (tables.table_left_by state r) front) behind.0)))
      ]

  -- the store keeps the table that lines leave where it keeps one before them
  pub left_on : (objects : Objects) (state : TableState) (lines texts : List (List ℕ)) → Keeps objects state → length (entries_of_state state) + length lines ≤ suc greatest_version
      → ArePrintedLines objects lines texts → AreSoundLines objects lines texts → ArePutHere lines → Keeps (told.left_from objects lines texts) (tables.table_left_from state lines)
  unfolding told.left_from tables.table_left_from
  left_on objects state [] texts keeps few printed sound here = keeps
  left_on objects state (line ∷ lines) [] keeps few printed sound here = absurd (no_text objects line lines printed)
  left_on objects state (line ∷ lines) (text ∷ texts) keeps few printed sound here =
      let r = reading_of line in
      let small : length (entries_of_state state) ≤ greatest_version = omega arith in
      let kept = line_kept objects state r text keeps small (first_sound line text lines texts objects sound) here.0 in
      let fewer : length (entries_of_state (tables.table_left_by state r)) + length lines ≤ suc greatest_version = omega (arith, left_by_one state r) in
      elim (cases_Bool (is_bad r)) [
        | inl ends ↦ rw ends keeps
        | inr on ↦ rw on (left_on (told.left_by objects r text) (tables.table_left_by state r) lines texts kept fewer (rest_printed line text lines texts objects printed on) (rest_sound line text lines texts objects sound on) here.1)
      ]

  -- what a line asks for is told by the table, or by the objects that it shows
  pub statement_over : (objects : Objects) (state : TableState) (statement : Statement) (printed : List ℕ) → Keeps objects state → length (entries_of_state state) ≤ greatest_version → IsSoundStatement objects statement printed
      → told.reply_to_statement objects statement printed ≡ reply_over state objects statement printed
  statement_over objects state (create id at schema) printed keeps small sound = statement_told objects state (create id at schema) printed keeps small sound tt
  statement_over objects state (task (append application number at items)) printed keeps small sound = statement_told objects state (task (append application number at items)) printed keeps small sound tt
  statement_over objects state (task (close application at)) printed keeps small sound = statement_told objects state (task (close application at)) printed keeps small sound tt
  statement_over objects state (task checkpoint) printed keeps small sound = statement_told objects state (task checkpoint) printed keeps small sound tt
  statement_over objects state (task (tail max offset)) printed keeps small sound = statement_told objects state (task (tail max offset)) printed keeps small sound tt
  statement_over objects state (look history) printed keeps small sound = statement_told objects state (look history) printed keeps small sound tt
  statement_over objects state (look snapshot) printed keeps small sound = refl
  statement_over objects state (look (show version)) printed keeps small sound = refl
  statement_over objects state (look (hex name)) printed keeps small sound = refl
  statement_over objects state (foreign version action) printed keeps small sound = refl
  statement_over objects state _ printed keeps small sound = refl

  line_told_over : (number : ℕ) (objects : Objects) (state : TableState) (r : Reading) (printed : List ℕ) → Keeps objects state → length (entries_of_state state) ≤ greatest_version → IsSoundLine objects r printed
      → told.reply_to number objects r printed ≡ line_over number state objects r printed
  line_told_over number objects state skipped printed keeps small sound = refl
  line_told_over number objects state bad printed keeps small sound = refl
  line_told_over number objects state (asks statement) printed keeps small sound = statement_over objects state statement printed keeps small sound

  -- lines that put no other tool's commit are told by the table, or by the objects that they show
  pub told_with_objects : (number : ℕ) (objects : Objects) (state : TableState) (lines texts : List (List ℕ)) → Keeps objects state → length (entries_of_state state) + length lines ≤ suc greatest_version
      → ArePrintedLines objects lines texts → AreSoundLines objects lines texts → ArePutHere lines → told.expected_from number objects lines texts ≡ expected_over number state objects lines texts
  unfolding told.expected_from expected_over
  told_with_objects number objects state [] texts keeps few printed sound here = refl
  told_with_objects number objects state (line ∷ lines) [] keeps few printed sound here = absurd (no_text objects line lines printed)
  told_with_objects number objects state (line ∷ lines) (text ∷ texts) keeps few printed sound here =
      let r = reading_of line in
      let small : length (entries_of_state state) ≤ greatest_version = omega arith in
      let first = first_sound line text lines texts objects sound in
      let same = line_told_over number objects state r text keeps small first in
      let kept = line_kept objects state r text keeps small first here.0 in
      let fewer : length (entries_of_state (tables.table_left_by state r)) + length lines ≤ suc greatest_version = omega (arith, left_by_one state r) in
      elim (cases_Bool (is_bad r)) [
        | inl ends ↦ rw (ends, same) refl
        | inr on ↦
            let behind = told_with_objects (number + 1) (told.left_by objects r text) (tables.table_left_by state r) lines texts kept fewer (rest_printed line text lines texts objects printed on) (rest_sound line text lines texts objects sound on) here.1 in
            rw (on, same, behind) refl
      ]
