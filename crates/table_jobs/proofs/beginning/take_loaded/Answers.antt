use Rattle.std.proofs.Common.{subst, sym}
use Rattle.table_log.specs.Loads.{IsFront}
use Rattle.table_jobs.proofs.beginning.take_loaded.Goals as goal

pub returns-clause-cache : goal.returns-clause-cache
returns-clause-cache c = λ objects is. record { loaded = subst (IsFront objects) (sym c.replace.ensures.after) (c.new.ensures.front objects); log = is.log; file = is.file }
