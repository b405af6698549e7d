-- A worker that begins knows nothing of the log.
use Rattle.std.proofs.Common.{[]}
use Rattle.store_core.specs.Objects.{Objects}
use Rattle.table_log.specs.Loads.{IsFront}
use Rattle.table_log.specs.declared.loading.Loaded.{Loaded}
use Rattle.log_hub.specs.Sights.{Seen}
use Rattle.lake_workers.specs.Following.{IsKnownAt}

pub knows_nothing : (s : Seen) (known : Loaded) → ((objects : Objects) → IsFront objects known) → IsKnownAt s known
knows_nothing s known front = record { before = []; borne = λ objects may. tt; front = λ objects all. front objects }
