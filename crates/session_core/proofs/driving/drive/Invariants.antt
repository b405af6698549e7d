use Rattle.std.proofs.Common.{◌≡◌, [], false, Option, None, option_map}
use Rattle.session_core.specs.Sessions.{IsDriven}
use Rattle.session_core.specs.Stores.{MakesCall, Talked}
use Rattle.session_core.specs.Talks.{Talk, Told, IsReplyTo, told_view}
use Rattle.session_core.proofs.driving.drive.Given as goal

abbrev pub invariant-calls : goal.invariant-calls
invariant-calls g l = record {
  unended : g.N.Session.done l.session ≡ false;
  answered : IsReplyTo (g.N.Session.awaits l.session) (option_map told_view l.reply);
  job : g.N.Session.job l.session ≡ g.N.Session.job l.fn.session;
  reliable : g.S.Store.is_reliable l.fn.store → g.S.Store.is_reliable l.store;
  driven : (before : Talk) → g.N.Session.fits before l.fn.session [] None → IsDriven (g.N.Session.fits before) g.N.Session.left (g.N.Session.asks (g.N.Session.job l.fn.session) before) (λ talk. Talked (MakesCall g.S.Store.makes) l.fn.store talk l.store) (g.S.Store.is_reliable l.fn.store) l.fn.session l.session (option_map told_view l.reply)
      (g.S.Store.objects l.fn.store, g.S.Store.in_flight l.fn.store) (g.S.Store.objects l.store, g.S.Store.in_flight l.store) (g.S.Store.fault_count l.fn.store) (g.S.Store.fault_count l.store);
}

abbrev pub decreases-calls : goal.decreases-calls
decreases-calls g l = g.N.Session.left l.session
