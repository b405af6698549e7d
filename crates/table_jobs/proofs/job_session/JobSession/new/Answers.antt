use Rattle.std.proofs.Common.{◌≡◌, ◌∙◌, ℕ, [], None, refl}
use Rattle.std.specs.Prelude.{Option}
use Rattle.log_reading.specs.declared.log_cache.LogCache.{LogCache}
use Rattle.table_jobs.specs.Jobs.{known_of}
use Rattle.table_jobs.specs.Views.{job_view, with_known}
use Rattle.table_jobs.specs.declared.job.Job as code
use Rattle.table_jobs.specs.declared.job.Job.TheVariants as jobs
use Rattle.table_jobs.proofs.job_session.JobSession.new.Goals as goal

-- Nothing is known of a log of which a cache knows nothing.
nothing_known : (cache : LogCache) → (cache.loaded.next ≡ 0) × (cache.loaded.checkpoint ≡ None) × (cache.log.standing.items ≡ []) → (job : code.Job) → with_known cache (job_view job) ≡ job_view job
nothing_known cache none (jobs.Create job) = refl
nothing_known cache none (jobs.Load use_checkpoints) = rw (none.0, none.1) refl
nothing_known cache none (jobs.Checkpoint use_checkpoints) = rw (none.0, none.1) refl
nothing_known cache none (jobs.Stream job) = rw (none.0, none.1) refl
nothing_known cache none (jobs.Read place max use_checkpoints) = rw none.2 refl

none_known : (job : code.Job) → known_of (job_view job) ≡ 0
none_known (jobs.Create job) = refl
none_known (jobs.Load use_checkpoints) = refl
none_known (jobs.Checkpoint use_checkpoints) = refl
none_known (jobs.Stream job) = refl
none_known (jobs.Read place max use_checkpoints) = refl

pub returns-clause-job : goal.returns-clause-job
returns-clause-job c = c.behind.ensures.job ∙ nothing_known c.new.result c.new.ensures.nothing c.args.job

pub returns-clause-fits : goal.returns-clause-fits
returns-clause-fits c = λ before. c.behind.ensures.fits before (λ objects borne. c.new.ensures.cache objects)

pub returns-clause-can : goal.returns-clause-can
returns-clause-can c = (c.behind.ensures.valid, none_known c.args.job)
