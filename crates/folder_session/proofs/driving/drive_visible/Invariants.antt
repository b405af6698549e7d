use Rattle.std.proofs.Common.{◌≡◌, [], false, None, option_map}
use Rattle.session_core.specs.Sessions.{hears_lost}
use Rattle.session_core.specs.Talks.{Talk, IsReplyTo, told_view}
use Rattle.store_core.specs.Objects.{Objects}
use Rattle.front_reads.specs.Fronts.{visible}
use Rattle.table_folder.specs.Traces.{Traced}
use Rattle.folder_session.specs.Driving.{AreNames, IsFolderDriven}
use Rattle.folder_session.specs.Visible.{IsHearing, given_names}
use Rattle.folder_session.proofs.driving.drive_visible.Given as goal

abbrev pub invariant-calls : goal.invariant-calls
invariant-calls g l = record {
  unended : g.N.Session.done l.session ≡ false;
  answered : IsReplyTo (g.N.Session.awaits l.session) (option_map told_view l.reply);
  never_lost : hears_lost (option_map told_view l.reply) ≡ false;
  job : g.N.Session.job l.session ≡ g.N.Session.job l.fn.session;
  steady : g.F.Folder.is_steady l.fn.folder → g.F.Folder.is_steady l.folder;
  untouched : g.F.Folder.is_steady l.fn.folder → g.F.Folder.objects l.folder ≡ g.F.Folder.objects l.fn.folder;
  faults : g.F.Folder.fault_count l.folder ≡ g.F.Folder.fault_count l.fn.folder;
  reliable : g.F.Folder.is_reliable l.fn.folder → g.F.Folder.is_reliable l.folder;
  names : (objects : Objects) → AreNames l.fn.names objects → AreNames l.names objects;
  talks : (before : Talk) → g.N.Session.fits before l.fn.session [] None
      → IsHearing (g.N.Session.fits before) g.N.Session.left (g.N.Session.asks (g.N.Session.job l.fn.session) before) (λ calls. Traced g.F.Folder.makes l.fn.folder calls l.folder) l.fn.front (given_names l.fn.names) (given_names l.names) l.fn.session l.session (option_map told_view l.reply);
  driven : g.F.Folder.is_steady l.fn.folder → AreNames l.fn.names (g.F.Folder.objects l.fn.folder) → (before : Talk) → g.N.Session.fits before l.fn.session [] None
      → IsFolderDriven (g.N.Session.fits before) g.N.Session.left (g.N.Session.asks (g.N.Session.job l.fn.session) before) l.fn.session l.session (option_map told_view l.reply) (visible l.fn.front (g.F.Folder.objects l.fn.folder));
}

abbrev pub decreases-calls : goal.decreases-calls
decreases-calls g l = g.N.Session.left l.session
