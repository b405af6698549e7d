-- What lines ask for, as jobs.
use Rattle.std.specs.Prelude.{ℕ, Bool, true, List, [], Option, None, Some, option_map}
use Rattle.std.specs.Str.{IsUtf8}
use Rattle.script_lines.specs.Lines as lines
use Rattle.script_lines.specs.Lines.{Statement, Task}
use Rattle.sink_core.specs.SinkSessions.{appends, closes}
use Rattle.log_offsets.specs.Offsets.{offset_of}
use Rattle.table_jobs.specs.Jobs.{Job, checkpoints, creates, reads, streams}
use Rattle.table_jobs.specs.Views.{new_load}

-- the job of a task, of which so many versions are tried; none, where the offset of a read can't be read
abbrev pub job_of_task : (use_checkpoints : Bool) → (tries : ℕ) → Task → Option Job
job_of_task use_checkpoints tries (lines.append application number at rows) =
    Some (streams (record { application = application; task = appends number rows; at = at; tries = tries; load = new_load use_checkpoints; loads = true }))
job_of_task use_checkpoints tries (lines.close application at) = Some (streams (record { application = application; task = closes; at = at; tries = tries; load = new_load use_checkpoints; loads = true }))
job_of_task use_checkpoints tries lines.checkpoint = Some (checkpoints (new_load use_checkpoints))
job_of_task use_checkpoints tries (lines.tail max offset) = option_map (λ place. reads (record { place = place; max = max; use_checkpoints = use_checkpoints; known = [] })) (offset_of offset)

-- the job that creates a table
abbrev pub job_of_creation : (id : List ℕ) (at : ℕ) (schema : List ℕ) → Job
job_of_creation id at schema = creates (record { id = id; at = at; schema = schema })

-- the job of a line that runs one at once, if it is such a line
abbrev pub job_of_line : (use_checkpoints : Bool) → (tries : ℕ) → Statement → Option Job
job_of_line use_checkpoints tries (lines.create id at schema) = Some (job_of_creation id at schema)
job_of_line use_checkpoints tries (lines.task job) = job_of_task use_checkpoints tries job
job_of_line use_checkpoints tries _ = None

-- the id of the application that a task names is text
abbrev pub IsOfText : Task → Type 0
IsOfText (lines.append application number at rows) = IsUtf8 application
IsOfText (lines.close application at) = IsUtf8 application
IsOfText lines.checkpoint = Unit {0}
IsOfText (lines.tail max offset) = Unit {0}
