-- A line's job that was run over one store, and its reply.
use Rattle.std.specs.Prelude.{◌≡◌, ℕ, Bool, List}
use Rattle.session_core.specs.Stores.{State}
use Rattle.log_reading.specs.declared.log_cache.LogCache.{LogCache}
use Rattle.table_jobs.specs.Done.{IsJobDone}
use Rattle.table_jobs.specs.Jobs.{Job, Outcome}
use Rattle.table_jobs.specs.Over.{IsDoneOver, IsJobDriven}
use Rattle.table_jobs.specs.Sessions.{end_view}
use Rattle.table_jobs.specs.Views.{KeepsRest, with_known}
use Rattle.table_jobs.specs.declared.job_session.JobEnd.{JobEnd}
use Rattle.lake_script.specs.Endings.{IsReplyOf, IsShortBy, learnt, reply_loses}

-- The job was run over any store, with what the cache knew of its log, and told an end; this is the reply to that, which is short and
-- says that a call was lost where the end tells so.
pub record RanOverStore (is_reliable : Type 0) (cache : LogCache) (job : Job) (reply : List ℕ) (short lost : Bool) (old new : State) (count later : ℕ) : Type 0 where
  pub end : JobEnd
  pub told : IsReplyOf (end_view end) reply
  pub is_short : IsShortBy (end_view end) reply short
  pub loses : lost ≡ reply_loses (end_view end)
  pub driven : IsJobDriven (λ talk. Unit {0}) is_reliable (with_known cache job) end old new count later
  pub over : IsDoneOver is_reliable (with_known cache job) (end_view end) old new count later
  pub done : is_reliable → IsJobDone (with_known cache job) old.0 new.0 (end_view end)

-- Behind the job the cache has what the session handed back, and else what the job left there.
abbrev pub LearnsFrom : Job → Outcome → (short : Bool) → (old new : LogCache) → Type 0
LearnsFrom job end short old new = (rest : LogCache) × KeepsRest job old rest × (new ≡ learnt end short rest)
