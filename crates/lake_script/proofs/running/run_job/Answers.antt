use Rattle.std.proofs.Common.{subst, sym}
use Rattle.log_reading.specs.LogCache.{IsCacheOf}
use Rattle.table_jobs.specs.Sessions.{end_view}
use Rattle.lake_script.specs.ReplyView.{is_short_reply}
use Rattle.lake_script.proofs.CarriedLines.{learnt_so, run_somehow}
use Rattle.lake_script.proofs.running.run_job.Goals as goal

pub returns-clause-cache : goal.returns-clause-cache
returns-clause-cache g c =
    let objects = g.S.Store.objects c.run-end.new.store in
    subst (IsCacheOf objects) (sym c.reply_learning.ensures.learnt) (learnt_so objects (end_view c.run-end.result) (is_short_reply c.reply_learning.result) c.run-end.new.cache c.run-end.ensures.cache c.run-end.ensures.known)

pub returns-clause-ran : goal.returns-clause-ran
returns-clause-ran g c = (
  record {
    end = c.run-end.result;
    told = c.reply_learning.ensures.told;
    is_short = c.reply_learning.ensures.short;
    loses = c.reply_learning.ensures.lost;
    driven = run_somehow _ _ _ _ _ _ _ _ c.run-end.ensures.driven;
    over = c.run-end.ensures.over;
    done = c.run-end.ensures.done;
  },
  (c.run-end.new.cache, c.run-end.ensures.rest, c.reply_learning.ensures.learnt),
)
