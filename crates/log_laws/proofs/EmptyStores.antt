-- A store of nothing has no log, and is sound.
use Rattle.std.proofs.Common.{◌≡◌, [], Err, refl, arith}
use Rattle.schema_tree.specs.Tree.{struct, no_fields}
use Rattle.table_log.specs.Counts.{commit_count}
use Rattle.table_log.specs.Versions.{versions_from, versions_of, log_of}
use Rattle.table_model.proofs.Callers.{none_is_lawful}
use Rattle.table_store.specs.Sound.{IsSound}

-- a store of nothing has no version
pub versions_of_nothing : versions_of [] ≡ []
unfolding commit_count versions_from
versions_of_nothing = refl

-- a store of nothing has no log
pub log_of_nothing : log_of [] ≡ Err 0
unfolding log_of
log_of_nothing = rw versions_of_nothing refl

-- A store of nothing is sound: it holds no entry.
pub nothing_sound : IsSound []
nothing_sound = record { schema = struct no_fields; entries = []; holds = (omega arith, λ fits. refl); lawful = none_is_lawful; ends = λ version past small. refl }
