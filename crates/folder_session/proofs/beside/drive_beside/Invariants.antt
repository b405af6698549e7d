use Rattle.std.proofs.Common.{◌≡◌, List, [], false, None, option_map}
use Rattle.store_core.specs.Listed.{listed}
use Rattle.store_core.specs.Memory.{stored_objects}
use Rattle.store_core.specs.Objects.{names_of}
use Rattle.session_core.specs.Sessions.{IsDriven, hears_lost}
use Rattle.session_core.specs.Talks.{Talk, IsReplyTo, told_view}
use Rattle.table_folder.specs.Traces.{FolderCall, MakeNone, Traced}
use Rattle.folder_session.specs.Beside.{AreApart, IsTalking, with_beside}
use Rattle.folder_session.proofs.beside.drive_beside.Given as goal

abbrev pub invariant-calls : goal.invariant-calls
invariant-calls g l = record {
  unended : g.N.Session.done l.session ≡ false;
  answered : IsReplyTo (g.N.Session.awaits l.session) (option_map told_view l.reply);
  never_lost : hears_lost (option_map told_view l.reply) ≡ false;
  job : g.N.Session.job l.session ≡ g.N.Session.job l.fn.session;
  apart : g.F.Folder.is_steady l.fn.folder → AreApart (g.F.Folder.objects l.fn.folder) (stored_objects l.added);
  steady : g.F.Folder.is_steady l.fn.folder → g.F.Folder.is_steady l.folder;
  untouched : g.F.Folder.is_steady l.fn.folder → g.F.Folder.objects l.folder ≡ g.F.Folder.objects l.fn.folder;
  faults : g.F.Folder.fault_count l.folder ≡ g.F.Folder.fault_count l.fn.folder;
  reliable : g.F.Folder.is_reliable l.fn.folder → g.F.Folder.is_reliable l.folder;
  talks : (before : Talk) → g.N.Session.fits before l.fn.session [] None
      → IsTalking (g.N.Session.fits before) g.N.Session.left (g.N.Session.asks (g.N.Session.job l.fn.session) before)
      (λ calls. Traced g.F.Folder.makes l.fn.folder calls l.folder) (listed l.names) l.fn.session l.session (option_map told_view l.reply) (stored_objects l.added);
  looked : (calls : List FolderCall) × Traced g.F.Folder.makes l.fn.folder calls l.folder × MakeNone calls;
  listed : g.F.Folder.is_steady l.fn.folder → listed l.names ≡ names_of (g.F.Folder.objects l.fn.folder);
  driven : g.F.Folder.is_steady l.fn.folder → (before : Talk) → g.N.Session.fits before l.fn.session [] None
      → IsDriven (g.N.Session.fits before) g.N.Session.left (g.N.Session.asks (g.N.Session.job l.fn.session) before) (λ talk. Unit {0}) (Unit {0}) l.fn.session l.session (option_map told_view l.reply)
      (g.F.Folder.objects l.fn.folder, []) (with_beside (g.F.Folder.objects l.fn.folder) (stored_objects l.added), []) 0 0;
}

abbrev pub decreases-calls : goal.decreases-calls
decreases-calls g l = g.N.Session.left l.session
