-- What lines put is well made, and none of it passed 64 MiB: from this the laws on whole scripts go on.
use Rattle.std.specs.Prelude.{◌≡◌, ◌≢◌, ℕ, List, [], ◌∷◌, Option, Err, false}
use Rattle.std.specs.Io.KnownBytes.{Appends}
use Rattle.std.specs.Str.{IsUtf8}
use Rattle.delta_actions.specs.Commit.{lines_of}
use Rattle.store_core.specs.Objects.{Objects}
use Rattle.sink_core.specs.Appending.{append_plan, PutsWell}
use Rattle.sink_core.specs.Closes.{close_plan, ClosesWell}
use Rattle.commit_core.specs.Creating.{too_large, creation_from, CreatesWell}
use Rattle.lake_script.specs.Checkpoints.{checkpoint_by_bytes, IsWellPut}
use Rattle.script_lines.specs.Lines.{Statement, append, close, checkpoint, tail, create, task, tries, foreign, Reading, skipped, bad, asks, reading_of, look, world}
use Rattle.batch_core.specs.Refusals.{file_too_large}
use Rattle.lake_script.specs.Streams.{WritesFront}
use Rattle.lake_script.specs.Told.{is_bad, UnlessBad, IsPrintedStatement, ArePrintedLines, ArePrintedInPart, reply_to_statement, left_by_statement, left_by}
use Rattle.lake_script.specs.Told as scripts

-- what a line puts is well made, and didn't pass 64 MiB; another tool's commit may be anything
abbrev pub IsSoundStatement : Objects → Statement → (printed : List ℕ) → Type 0
IsSoundStatement objects (create id at schema) printed = CreatesWell at schema (creation_from id at schema printed) × (creation_from id at schema printed ≢ Err too_large)
IsSoundStatement objects (task (append application number at items)) printed = IsUtf8 application
    × PutsWell application number at (append_plan false objects application number at items) × (append_plan false objects application number at items ≢ Err file_too_large)
IsSoundStatement objects (task checkpoint) printed = IsWellPut (checkpoint_by_bytes objects printed)
IsSoundStatement objects (task (tail max offset)) printed = Unit {0}
IsSoundStatement objects (look line) printed = Unit {0}
IsSoundStatement objects (foreign version action) printed = Unit {0}
IsSoundStatement objects (task (close application at)) printed = IsUtf8 application × ClosesWell application at (close_plan false objects application)
IsSoundStatement objects (tries count) printed = Unit {0}
IsSoundStatement objects (world line) printed = Unit {0}

-- A line is told what it asks for, leaves what it is to leave, and what it puts is well made, with a text beside it.
pub record IsExecuted (objects : Objects) (statement : Statement) (reply : List ℕ) (after : Objects) : Type 0 where
  pub text : List ℕ
  pub printed : IsPrintedStatement objects statement text
  pub told : reply ≡ reply_to_statement objects statement text
  pub left : after ≡ left_by_statement objects statement text
  pub sound : IsSoundStatement objects statement text

-- the same of a line that is read
abbrev pub IsSoundLine : Objects → Reading → (printed : List ℕ) → Type 0
IsSoundLine objects skipped printed = Unit {0}
IsSoundLine objects bad printed = Unit {0}
IsSoundLine objects (asks statement) printed = IsSoundStatement objects statement printed

-- what each of these lines puts is well made; a bad line ends them
unfoldable pub AreSoundLines : Objects → (lines texts : List (List ℕ)) → Type 0
AreSoundLines objects [] texts = Unit {0}
AreSoundLines objects (line ∷ lines) [] = Unit {0}
AreSoundLines objects (line ∷ lines) (printed ∷ texts) =
    IsSoundLine objects (reading_of line) printed × UnlessBad (is_bad (reading_of line)) (AreSoundLines (left_by objects (reading_of line) printed) lines texts)

-- A script is told what it asks for, and leaves what it is to leave; what it puts is well made. One text is meant for each
-- line in all of it: what its schema was printed as, its checkpoint's bytes or its snapshot's text.
pub record IsScriptRun (objects : Objects) (script : List ℕ) (old new : Option (List ℕ)) (after : Objects) : Type 0 where
  pub texts : List (List ℕ)
  pub printed : ArePrintedLines objects (lines_of script) texts
  pub told : Appends old new (scripts.expected_output objects script texts)
  pub left : after ≡ scripts.left objects script texts
  pub sound : AreSoundLines objects (lines_of script) texts

-- What is written is a front of what some first lines of a script are told.
pub record IsRunInPart (objects : Objects) (script : List ℕ) (old new : Option (List ℕ)) : Type 0 where
  pub texts : List (List ℕ)
  pub printed : ArePrintedInPart objects (lines_of script) texts
  pub stands : WritesFront old new (scripts.expected_output objects script texts)
