-- Objects as a store gives them: of bytes.
use Rattle.std.specs.Prelude.{◌≡◌, ℕ, List, Some}
use Rattle.outcomes.specs.Bytes.{IsBytes}
use Rattle.store_core.specs.Objects.{Objects, object_at}
use Rattle.script_lines.specs.Lines.{Statement}
use Rattle.job_laws.specs.Looking.{MayLookAt}

-- each data file that a line may look at is
abbrev pub LooksAtBytes : Objects → Statement → Type 0
LooksAtBytes objects statement = (name bytes : List ℕ) → MayLookAt objects statement name → object_at objects name ≡ Some bytes → IsBytes bytes
