use Rattle.std.proofs.Common.{◌≡◌, [], false, None, option_map}
use Rattle.store_core.specs.Objects.{Objects}
use Rattle.session_core.specs.Sessions.{hears_lost}
use Rattle.session_core.specs.Talks.{Bears, IsReplyTo, Talk, told_view}
use Rattle.table_jobs.specs.Sessions.{SessionFits, awaited, is_ended, job_of, session_calls_left}
use Rattle.log_hub.specs.Seats.{MayStand}
use Rattle.lake_workers.proofs.Going.{IsGoing}
use Rattle.lake_workers.proofs.driving.drive_with.Given as goal

abbrev pub invariant-calls : goal.invariant-calls
invariant-calls g l = record {
  callable : goal.F-IsAlwaysCallable g l.before;
  unended : is_ended l.session ≡ false;
  answered : IsReplyTo (awaited l.session) (option_map told_view l.reply);
  kept : hears_lost (option_map told_view l.reply) ≡ false;
  job : job_of l.session ≡ job_of l.fn.session;
  going : (before : Talk) → SessionFits before l.fn.session [] None → ((objects : Objects) → MayStand objects l.fn.seat → Bears objects before)
      → IsGoing before (job_of l.fn.session) l.fn.seat l.seat l.session (option_map told_view l.reply) l.receipt;
}

abbrev pub decreases-calls : goal.decreases-calls
decreases-calls g l = session_calls_left l.session
