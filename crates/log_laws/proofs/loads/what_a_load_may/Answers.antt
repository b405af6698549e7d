use Rattle.log_laws.proofs.Leaves.{log_none, seen_leaves, seen_refused}
use Rattle.log_laws.proofs.LoadTalks.{front_log, refused_why, snapshot_same}
use Rattle.log_laws.proofs.loads.what_a_load_may.Goals as goal

pub returns-clause-loaded : goal.returns-clause-loaded
returns-clause-loaded c = λ objects job before talk loaded sound known borne ends.
    let front = ends.front objects known borne in
    let log = front_log objects sound loaded.next _ front.0 front.1.commits front.1.checkpoint front.1.read in
    (log.0, log.1, snapshot_same front.1.commits log.0 log.2 loaded.snapshot front.1.snapshot, front.1.within)

pub returns-clause-shown : goal.returns-clause-shown
returns-clause-shown c = λ objects job before talk loaded sound known shows ends.
    let is = ends.whole objects known shows in
    let log = seen_leaves job.use_checkpoints objects sound is.commits is.read in
    (log.0, log.1, snapshot_same is.commits log.0 log.2 loaded.snapshot is.snapshot, is.next)

pub returns-clause-refused : goal.returns-clause-refused
returns-clause-refused c = λ objects job before talk version sound known borne asked ends. (ends.names, ends.listed, refused_why objects sound job before talk version borne asked ends.names ends.why)

pub returns-clause-bad : goal.returns-clause-bad
returns-clause-bad c = λ objects job before talk version sound known shows ends.
    log_none objects sound.table version (seen_refused job.use_checkpoints objects sound version (ends.whole objects known shows))
