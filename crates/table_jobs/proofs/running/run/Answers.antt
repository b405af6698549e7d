use Rattle.std.proofs.Common.{subst}
use Rattle.session_core.specs.Sessions.{Drives}
use Rattle.session_core.specs.Stores.{MakesCall, State, Talked}
use Rattle.session_core.specs.Talks.{Talk}
use Rattle.session_core.proofs.Callers.{all_got, got_borne}
use Rattle.table_jobs.specs.Jobs.{Job}
use Rattle.table_jobs.specs.Sessions.{session_calls_left}
use Rattle.table_jobs.specs.Views.{job_view, with_known}
use Rattle.table_jobs.proofs.OverJobs.{cache_by_all, cache_grown, run_anywhere, run_keeps, run_knows}
use Rattle.table_jobs.proofs.QuietJobs.{DrivesJob, run_quietly, runs_known}
use Rattle.table_jobs.proofs.running.run.Goals as goal

pub returns : goal.returns
returns g c =
    let old : State = (g.S.Store.objects c.args.store.now, g.S.Store.in_flight c.args.store.now) in
    let new : State = (g.S.Store.objects c.drive.new.store, g.S.Store.in_flight c.drive.new.store) in
    let count = g.S.Store.fault_count c.args.store.now in
    let later = g.S.Store.fault_count c.drive.new.store in
    let makes = λ (talk : Talk). Talked (MakesCall g.S.Store.makes) c.args.store.now talk c.drive.new.store in
    let reliable = g.S.Store.is_reliable c.args.store.now in
    let cache = c.args.cache.now in
    let session = c.behind-session.result in
    let end = c.drive.result in
    let job : Job = with_known cache (job_view c.args.job) in
    let runs = runs_known cache c.args.job in
    let fits = c.behind-session.ensures.fits (all_got old.0 old.0) (cache_by_all old.0 cache c.requires.cache) in
    let driven : DrivesJob makes reliable job (session_calls_left session) end old new count later =
    subst (λ (j : Job). DrivesJob makes reliable j (session_calls_left session) end old new count later) c.behind-session.ensures.job (c.drive.ensures.driven (all_got old.0 old.0) fits) in
    record {
      rest = c.behind-session.ensures.rest;
      cache = cache_grown old.0 new.0 (run_keeps makes reliable (session_calls_left session) old new count later job end driven) c.behind-session.new.cache (c.behind-session.ensures.cache old.0 c.requires.cache);
      known = run_knows makes reliable (session_calls_left session) old new count later job end driven;
      driven = (session_calls_left session, all_got old.0 old.0, got_borne old.0, driven);
      over = run_anywhere makes reliable (session_calls_left session) old new count later job end runs driven;
      done = λ is. run_quietly makes reliable is (session_calls_left session) old new count later job end runs driven;
      reliable = c.drive.ensures.reliable;
    }
