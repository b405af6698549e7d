use Rattle.std.proofs.Common.{◌≡◌, false, option_map}
use Rattle.session_core.specs.Talks.{IsReplyTo, told_view}
use Rattle.table_jobs.specs.Sessions.{awaited, is_ended, session_calls_left}
use Rattle.seat_cases.proofs.beside.do_over.Given as goal

abbrev pub invariant-calls : goal.invariant-calls
invariant-calls l = record {
  unended : is_ended l.session ≡ false;
  answered : IsReplyTo (awaited l.session) (option_map told_view l.reply);
}

abbrev pub decreases-calls : goal.decreases-calls
decreases-calls l = session_calls_left l.session
