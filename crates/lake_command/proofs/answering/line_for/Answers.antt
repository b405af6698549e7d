use Rattle.std.proofs.Common.{◌≡◌, ◌∙◌, ℕ, List, length, Bor, Option, Some, None, IfSome, ap, arith, refl, map, sym}
use Rattle.std.proofs.lemmas.List.{length-map}
use Rattle.serde_json.specs.View.{items_of}
use Rattle.json_text.specs.Rows.{text_data}
use Rattle.script_lines.specs.Lines.{append, close, create, tail, task}
use Rattle.lake_words.specs.Asked.{work_view}
use Rattle.lake_command.specs.Folders.{reads_input}
use Rattle.lake_command.proofs.AnswerLemmas.{texts_count}
use Rattle.lake_command.proofs.FolderLemmas.{rows_are}
use Rattle.lake_command.proofs.answering.line_for.Goals as goal
use Rattle.lake_command.proofs.answering.line_for.Goals.{in-Create+in_ok-moment-in-Create, in-Append+in_ok-at-in-Append+in_ok-texts-in-Append+in_ok-counted-in-Append, in-Close+in_ok-moment-in-Close, in-Tail, in-Checkpoint, in-Snapshot, in-History}

-- as many rows as were said
all_counted : (said : Option ℕ) (texts : List (Bor (List ℕ))) (found : ℕ) → found ≡ length texts → IfSome said (λ rows. found ≡ rows) → IfSome said (λ count. length (map (λ object. text_data object.now) texts) ≡ count)
all_counted None texts found whole is = tt
all_counted (Some rows) texts found whole is = length-map texts (λ object. text_data object.now) ∙ sym whole ∙ is

pub returns-clause-asked : goal.returns-clause-asked
returns-clause-asked c = λ known is. elim c.match-job.branch [
  | in-Create+in_ok-moment-in-Create w ↦ rw (w.in-Create.is, w.line-is) (ap (λ at. create w.in-Create.id.now at w.in-Create.schema.now) w.in_ok-moment-in-Create.ensures.same.0)
  | in-Append+in_ok-at-in-Append+in_ok-texts-in-Append+in_ok-counted-in-Append w ↦ rw (w.in-Append.is, w.line-is) (
    c.args.text.now,
    map (λ object. text_data object.now) w.in_ok-texts-in-Append.texts.items,
    is (ap reads_input (ap work_view w.in-Append.is)),
    rows_are c.args.text.now w.in_ok-texts-in-Append.texts.items w.in_ok-texts-in-Append.ensures.objects,
    ap (λ at. task (append w.in-Append.application.now w.in-Append.number at (items_of (map (λ object. text_data object.now) w.in_ok-texts-in-Append.texts.items)))) w.in_ok-at-in-Append.ensures.same.0,
    all_counted w.in-Append.rows w.in_ok-texts-in-Append.texts.items w.len.result (omega (arith, w.len.ensures, w.in_ok-texts-in-Append.texts.ok.0)) w.in_ok-counted-in-Append.ensures.same,
  )
  | in-Close+in_ok-moment-in-Close w ↦ rw (w.in-Close.is, w.line-is) (ap (λ at. task (close w.in-Close.application.now at)) w.in_ok-moment-in-Close.ensures.same.0)
  | in-Tail w ↦ rw (w.in-Tail.is, w.line-is) (ap (λ offset. task (tail w.in-Tail.max offset)) w.offset_named.ensures)
  | in-Checkpoint w ↦ rw (w.in-Checkpoint.is, w.line-is) refl
  | in-Snapshot w ↦ rw (w.in-Snapshot.is, w.line-is) refl
  | in-History w ↦ rw (w.in-History.is, w.line-is) refl
]

pub returns-clause-rows : goal.returns-clause-rows
returns-clause-rows c = λ known is. elim c.match-job.branch [
  | in-Create+in_ok-moment-in-Create w ↦ rw w.in-Create.is tt
  | in-Append+in_ok-at-in-Append+in_ok-texts-in-Append+in_ok-counted-in-Append w ↦ rw (w.in-Append.is, w.line-is) (
      texts_count known c.args.text.now w.in_ok-texts-in-Append.texts.items (is (ap reads_input (ap work_view w.in-Append.is))) w.in_ok-texts-in-Append.ensures.texts
      )
  | in-Close+in_ok-moment-in-Close w ↦ rw w.in-Close.is tt
  | in-Tail w ↦ rw w.in-Tail.is tt
  | in-Checkpoint w ↦ rw w.in-Checkpoint.is tt
  | in-Snapshot w ↦ rw w.in-Snapshot.is tt
  | in-History w ↦ rw w.in-History.is tt
]
