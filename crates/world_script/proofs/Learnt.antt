-- What the next job without an actor knows of the log behind the reply to the last one.
use Rattle.std.proofs.Common.{Bool}
use Rattle.lake_script.specs.Endings.{learnt}
use Rattle.log_reading.specs.declared.log_cache.LogCache.{LogCache}
use Rattle.store_core.specs.Objects.{Objects}
use Rattle.stream_world.specs.Worlds.{KnowsFront}
use Rattle.table_jobs.specs.Jobs.{Outcome, checkpoint, creation, load, read, stream}
use Rattle.table_log.specs.Loads.{IsFront}

-- What a session hands back is so, and so is what was known before where it hands back nothing.
pub learnt_front : (objects : Objects) (outcome : Outcome) (short : Bool) (cache : LogCache) → IsFront objects cache.loaded → KnowsFront objects outcome → IsFront objects (learnt outcome short cache).loaded
learnt_front objects (creation answer) short cache known hands = known
learnt_front objects (load result) short cache known hands = known
learnt_front objects (checkpoint end) short cache known hands = hands
learnt_front objects (stream end) short cache known hands = hands
learnt_front objects (read end) short cache known hands = known
