use Rattle.std.proofs.Common.{◌≡◌, ◌∙◌, ℕ, Option, refl, subst}
use Rattle.std.specs.Prelude.{is_some}
use Rattle.lake_words.specs.Asked.{work_view}
use Rattle.lake_hints.specs.ErrorOutputs.{TellsText}
use Rattle.lake_hints.specs.Notes.{empty_note, number_used_up}
use Rattle.lake_hints.specs.Rowless.{IsRowlessNote, creates_rowless}
use Rattle.lake_hints.proofs.ErrorLemmas.{left_silent, told_in_turn}
use Rattle.lake_hints.proofs.noting.note_done.Goals as goal

pub returns-clause-silent : goal.returns-clause-silent
returns-clause-silent g c = λ none.
    let work = work_view c.args.job in
    let parts = left_silent (creates_rowless work) (is_some (number_used_up work c.args.rows)) none in
    c.note_empty.ensures.silent (rw c.number_used_up.ensures parts.1) ∙ c.note_rowless.ensures.silent parts.0

pub returns-clause-told : goal.returns-clause-told
returns-clause-told g c =
    let work = work_view c.args.job in
    let contents = g.E.Write.contents in
    told_in_turn contents (IsRowlessNote (creates_rowless work)) (λ text. text ≡ empty_note (number_used_up work c.args.rows)) c.args.err.now c.note_rowless.new.err c.note_empty.new.err c.note_rowless.ensures.told (
      empty_note (number_used_up work c.args.rows),
      refl,
      subst (λ (used_up : Option ℕ). TellsText contents c.note_rowless.new.err c.note_empty.new.err (empty_note used_up)) c.number_used_up.ensures c.note_empty.ensures.told,
    )
