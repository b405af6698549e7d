use Rattle.std.proofs.Common.{◌≡◌, List, Vec, Global, Result, Ok, Err, sym, ◌∙◌}
use Rattle.std.specs.Prelude.{IfOk, IfErr}
use Rattle.outcomes.specs.Outcome.{Gives, says_nothing}
use Rattle.row_core.specs.Rows.{Row}
use Rattle.row_core.specs.Views.{row_views}
use Rattle.row_core.specs.declared.value.Value.{Value}
use Rattle.shred.specs.Shape.{Shape, HasFields}
use Rattle.shred.specs.Columns.{Column, AreColumnsOf}
use Rattle.shred.specs.Views.{shape_view, column_views}
use Rattle.row_assembly.specs.Assembly.{assembled}
use Rattle.row_assembly.specs.Faults.{says}
use Rattle.row_assembly.specs.declared.fault.ShredError.{ShredError}
use Rattle.row_assembly.proofs.Rests.{ok_same}
use Rattle.row_assembly.proofs.Assembled.{assembled_sound, assembled_complete, nothing_said}
use Rattle.row_assembly.proofs.assembling.assemble.Goals as goal

abbrev Answer : Type 0
Answer = Result (Vec Value Global) ShredError

abbrev Answers : Shape → List Column → Answer → Type 0
Answers s given r = Gives says (λ v. row_views v.items) r (assembled s given)

made_from : (s : Shape) (given : List Column) (r : Answer) → Answers s given r → IfOk r (λ v. AreColumnsOf s (row_views v.items) given)
made_from s given (Ok v) h = assembled_sound s given (row_views v.items) h
made_from s given (Err e) h = tt

given_from : (s : Shape) (given : List Column) (r : Answer) → Answers s given r → HasFields s → (rows : List Row) → AreColumnsOf s rows given → IfOk r (λ v. row_views v.items ≡ rows)
given_from s given (Ok v) h has rows are = ok_same (row_views v.items) rows (sym h ∙ assembled_complete s rows given has are)
given_from s given (Err e) h has rows are = tt

refused_from : (s : Shape) (given : List Column) (r : Answer) → Answers s given r → HasFields s → (rows : List Row) → AreColumnsOf s rows given → IfErr r (λ e. says e ≡ says_nothing)
refused_from s given (Ok v) h has rows are = tt
refused_from s given (Err e) h has rows are = nothing_said (says e) (assembled s given) rows (assembled_complete s rows given has are) h

pub returns-clause-made : goal.returns-clause-made
returns-clause-made c = made_from (shape_view c.args.shape.now) (column_views c.args.columns.items) c.rows_of.result c.rows_of.ensures

pub returns-clause-given : goal.returns-clause-given
returns-clause-given c = given_from (shape_view c.args.shape.now) (column_views c.args.columns.items) c.rows_of.result c.rows_of.ensures

pub returns-clause-refused : goal.returns-clause-refused
returns-clause-refused c = refused_from (shape_view c.args.shape.now) (column_views c.args.columns.items) c.rows_of.result c.rows_of.ensures
