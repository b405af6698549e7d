use Rattle.std.proofs.Common.{subst, sym}
use Rattle.log_reading.specs.LogCache.{HoldsFile}
use Rattle.log_reading.specs.Logs.{IsPastLog}
use Rattle.table_jobs.proofs.beginning.read_session.Goals as goal

pub returns-clause-fits : goal.returns-clause-fits
returns-clause-fits c = λ before so.
    c.read.ensures.fits before (λ objects bears. subst (IsPastLog objects) (sym c.replace-known.ensures.value) (so objects bears).log)
    (λ objects bears. subst (HoldsFile objects) (sym c.take-file.ensures.value) (so objects bears).file)

pub returns-clause-cache : goal.returns-clause-cache
returns-clause-cache c = λ objects is. record {
  loaded = is.loaded;
  log = subst (IsPastLog objects) (sym c.replace-known.ensures.after) (c.new.ensures.past objects);
  file = subst (HoldsFile objects) (sym c.take-file.ensures.after) tt;
}
