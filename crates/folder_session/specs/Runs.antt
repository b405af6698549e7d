-- How a job was run beside a folder.
use Rattle.std.specs.Prelude.{◌≡◌, ℕ, List, []}
use Rattle.store_core.specs.Objects.{Objects}
use Rattle.table_folder.specs.Traces.{FolderCall}
use Rattle.table_jobs.specs.Jobs.{Asks, Ends, Job, Outcome}
use Rattle.folder_session.specs.Beside.{TalksBeside}

-- Over any folder, whoever else writes into it, the session of a job that knew nothing before was driven by some number of calls, for
-- which just these were made of the folder.
abbrev pub RanBeside : Job → Outcome → (added : Objects) → List FolderCall → Type 0
RanBeside job outcome added calls = (most : ℕ) × TalksBeside Asks Ends (λ made. made ≡ calls) job most [] outcome added
