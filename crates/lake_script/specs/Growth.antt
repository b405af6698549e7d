-- What a line may put, however it ends: also where a growth is refused in the middle of it.
use Rattle.std.specs.Prelude.{◌≡◌, ◌⊎◌, ℕ, false}
use Rattle.std.specs.Str.{IsUtf8}
use Rattle.store_core.specs.Objects.{Objects, with_object}
use Rattle.sink_core.specs.Appending.{append_plan, MayAppend}
use Rattle.sink_core.specs.Closes.{close_plan, MayClose}
use Rattle.commit_core.specs.Creating.{MayCreate}
use Rattle.store_core.specs.Names.{commit_name}
use Rattle.snapshot_core.specs.Taking.{HasPut}
use Rattle.script_lines.specs.Lines.{Statement, append, close, checkpoint, tail, create, task, tries, foreign, look, world}
use Rattle.outcomes.specs.Lines.{with_newline}

-- the checkpoint of the newest version was put, or nothing
abbrev pub MayPutCheckpoint : Objects → Objects → Type 0
MayPutCheckpoint old new = (new ≡ old) ⊎ ((version : ℕ) × HasPut false version old new)

-- the objects that may stand behind what a line asks for; an application's id is text
abbrev pub MayPut : Objects → Statement → Objects → Type 0
MayPut old (create id at schema) new = MayCreate id at schema old new
MayPut old (task (append application number at items)) new = IsUtf8 application × MayAppend application number at (append_plan false old application number at items) old new
MayPut old (task checkpoint) new = MayPutCheckpoint old new
MayPut old (foreign version action) new = (new ≡ old) ⊎ (new ≡ with_object old (commit_name version) (with_newline action))
MayPut old (task (tail max offset)) new = new ≡ old
MayPut old (look line) new = new ≡ old
MayPut old (task (close application at)) new = IsUtf8 application × MayClose application at (close_plan false old application) old new
MayPut old (tries count) new = new ≡ old
MayPut old (world line) new = new ≡ old
