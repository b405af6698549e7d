-- How many rows a line of a job has, and an append.
use Rattle.std.specs.Prelude.{◌≡◌, ℕ, List, Option, IfSome, length}
use Rattle.json_lines.specs.Rows.{input_lines}
use Rattle.json_text.specs.declared.rows.JsonRows.TheVariants as rows
use Rattle.script_lines.specs.declared.line.Job.TheVariants as jobs
use Rattle.lake_words.specs.Asked.{Work}
use Rattle.lake_words.specs.Asked as words
use Rattle.lake_command.specs.declared.job_line.JobLine.{JobLine}
use Rattle.lake_command.specs.declared.job_line.JobLine.TheVariants as lines

-- as many as texts of rows are at hand; a line that isn't an append with such texts has none
abbrev pub rows_at_hand : JobLine → ℕ
rows_at_hand (lines.Job (jobs.Append application number at (rows.Texts texts))) = length texts.items
rows_at_hand _ = 0

-- an append has as many rows as its input has lines, where the reader tells its bytes; of another job no count is asked
abbrev pub IsRowCount : Work → (text : Option (List ℕ)) → (rows : ℕ) → Type 0
IsRowCount (words.append application number at tries said) text rows = IfSome text (λ bytes. rows ≡ length (input_lines bytes))
IsRowCount _ text rows = Unit {0}
