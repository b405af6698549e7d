use Rattle.std.proofs.Common.{◌≡◌, ℕ, List, [], ◌∷◌, None, Some, Result, Ok, Err, IfOk, refl, subst}
use Rattle.std.specs.Prelude.{MatchResult}
use Rattle.store_core.specs.Memory.{stored_objects}
use Rattle.store_core.specs.Objects.{Objects}
use Rattle.session_core.specs.Talks.{Talk}
use Rattle.session_core.proofs.Callers.{all_got}
use Rattle.table_folder.specs.Traces.{FolderCall, MakeNone, Traced, lists}
use Rattle.table_folder.specs.declared.fault.LoadFault.{LoadFault}
use Rattle.table_jobs.specs.Done.{IsJobDone}
use Rattle.table_jobs.specs.Jobs.{Asks, Ends, Job, is_lost_outcome}
use Rattle.table_jobs.specs.Sessions.{SessionFits, end_view, session_calls_left}
use Rattle.table_jobs.specs.Views.{job_view}
use Rattle.table_jobs.specs.declared.job.Job as code
use Rattle.table_jobs.specs.declared.job_session.JobEnd.{JobEnd}
use Rattle.table_jobs.proofs.Callers.{quiet_job}
use Rattle.folder_session.specs.Beside.{AreApart, DrivesBeside, TalksBeside, with_beside}
use Rattle.folder_session.specs.Runs.{RanBeside}
use Rattle.folder_session.specs.declared.beside.Beside.{Beside}
use Rattle.folder_session.proofs.running.run.Goals as goal

-- the session of a job was driven over these objects, and what it put stands beside them
abbrev DrivesJob : Job → (most : ℕ) (before : Talk) → JobEnd → (objects added : Objects) → Type 0
DrivesJob job most before end objects added =
    DrivesBeside Asks (λ job before talk outcome. Ends job before talk (end_view outcome)) (λ outcome. is_lost_outcome (end_view outcome)) job most before end objects added

done : (job : code.Job) (own : Job) (most : ℕ) (objects : Objects) (result : Result (Beside JobEnd) LoadFault) → own ≡ job_view job
    → IfOk result (λ ended. DrivesJob own most (all_got objects objects) ended.outcome objects (stored_objects ended.added))
    → IfOk result (λ ended. IsJobDone (job_view job) objects (with_beside objects (stored_objects ended.added)) (end_view ended.outcome))
done job own most objects (Ok ended) same driven =
    let own_driven = subst (λ (j : Job). DrivesJob j most (all_got objects objects) ended.outcome objects (stored_objects ended.added)) same driven in
    quiet_job job most ended.outcome objects (with_beside objects (stored_objects ended.added)) own_driven.drives
done job own most objects (Err fault) same driven = tt

apart : (own : Job) (most : ℕ) (objects : Objects) (result : Result (Beside JobEnd) LoadFault)
    → IfOk result (λ ended. DrivesJob own most [] ended.outcome objects (stored_objects ended.added)) → IfOk result (λ ended. AreApart objects (stored_objects ended.added))
apart own most objects (Ok ended) driven = driven.apart
apart own most objects (Err fault) driven = tt

driven : {F : Type 0} (makes : F → FolderCall → F → Type 0) (first now : F) (job : code.Job) (own : Job) (most : ℕ) (fits : Talk → Type 0) (result : Result (Beside JobEnd) LoadFault) → own ≡ job_view job → fits []
    → MatchResult result
    (λ ended. (before : Talk) → fits before → TalksBeside Asks (λ job before talk outcome. Ends job before talk (end_view outcome)) (λ calls. Traced makes first calls now) own most before ended.outcome (stored_objects ended.added))
    (λ _. (calls : List FolderCall) × Traced makes first calls now × MakeNone calls)
    → MatchResult result
    (λ ended. (calls : List FolderCall) × Traced makes first calls now × RanBeside (job_view job) (end_view ended.outcome) (stored_objects ended.added) calls)
    (λ _. (calls : List FolderCall) × Traced makes first calls now × MakeNone calls)
driven makes first now job own most fits (Ok ended) same new talks =
    let told = talks [] new in
    let calls = lists (Some told.names) ∷ told.calls in (
      calls,
      told.made,
      subst (λ (j : Job). RanBeside j (end_view ended.outcome) (stored_objects ended.added) calls) same
          (most, record { talk = told.talk; asked = told.asked; unlost = told.unlost; ended = told.ended; few = told.few; put = told.put; names = told.names; calls = told.calls; heard = told.heard; made = refl }),
    )
driven makes first now job own most fits (Err fault) same new looked = looked

pub returns-clause-driven : goal.returns-clause-driven
returns-clause-driven g c =
    driven g.F.Folder.makes c.args.folder.now c.drive_beside.new.folder c.args.job _ (session_calls_left c.new-session.result) (λ before. SessionFits before c.new-session.result [] None) c.drive_beside.result
    c.new-session.ensures.job (c.new-session.ensures.fits []) c.drive_beside.ensures.talks

pub returns-clause-done : goal.returns-clause-done
returns-clause-done g c = λ steady.
    let objects : Objects = g.F.Folder.objects c.args.folder.now in
    let session = c.new-session.result in
    let before = all_got objects objects in
    done c.args.job _ (session_calls_left session) objects c.drive_beside.result c.new-session.ensures.job (c.drive_beside.ensures.driven steady before (c.new-session.ensures.fits before))

pub returns-clause-apart : goal.returns-clause-apart
returns-clause-apart g c = λ steady.
    let objects : Objects = g.F.Folder.objects c.args.folder.now in
    let session = c.new-session.result in
    apart _ (session_calls_left session) objects c.drive_beside.result (c.drive_beside.ensures.driven steady [] (c.new-session.ensures.fits []))
