-- Right behind a put that created a commit a session tells that, with that very version, and does nothing else.
use Rattle.std.proofs.Common.{◌≡◌, ◌∙◌, ℕ, List, [], ◌∷◌, ◌++◌, Result, Ok, Err, inl, inr, refl, sym, ap, subst}
use Rattle.session_core.specs.Sessions.{AllAsked}
use Rattle.session_core.specs.Talks.{Asked, Talk, Told, list_names, get_object, put_commit, put_file, told_lost, told_memory, told_put}
use Rattle.store_core.specs.declared.store.Put.TheVariants.{Created, Exists}
use Rattle.table_log.specs.LoadSessions.{LoadAsks}
use Rattle.commit_core.proofs.Callers.{asked_last}
use Rattle.snapshot_core.specs.CheckpointSessions.{CheckpointAsks}
use Rattle.commit_core.specs.CreateSessions.{CreateAsks, CreateEnds, CreateJob, CreationPutTold}
use Rattle.commit_core.specs.declared.fault.CreateFault.{CreateFault}
use Rattle.commit_core.specs.declared.fault.CreateFault.TheVariants as create_faults
use Rattle.sink_core.specs.SinkSessions.{AnswerEnds, SinkAsks}
use Rattle.sink_core.proofs.SinkTalks.{created_quiet, created_told}
use Rattle.source_core.specs.SourceSessions.{SourceAsks}
use Rattle.session_laws.specs.May.{TellsWhatWasCreated}
use Rattle.table_jobs.specs.Jobs.{Job, checkpoint, checkpoints, creates, creation, load, loads, read, reads, stream, streams}
use Rattle.session_laws.specs.Moves.{Does, HasAsked, Move, asks, tells}

-- ---- creations

-- a talk of one call has that one at its end
one_call : (one : Asked × Told) (front : Talk) (last : Asked × Told) → one ∷ [] ≡ front ++ last ∷ [] → one ≡ last
one_call one [] last is = cc
one_call one (call ∷ []) last is = absurd cc
one_call one (call ∷ next ∷ front) last is = absurd cc

-- a talk of no call has none
no_call : (front : Talk) (last : Asked × Told) → [] ≡ front ++ last ∷ [] → ⊥
no_call [] last is = absurd cc
no_call (call ∷ front) last is = absurd cc

-- the version whose commit is put
abbrev version_put : Asked → ℕ
version_put (put_commit version bytes) = version
version_put asked = 0

-- what a creation was told is what was told last
put_last : (job : CreateJob) (talk front : Talk) (told : Told) (version : ℕ) (bytes : List ℕ) → CreationPutTold job talk told → talk ≡ front ++ (put_commit version bytes, told_put Created) ∷ [] → (version ≡ 0) × (told ≡ told_put Created)
put_last job talk front told version bytes put is =
    let same : (put_commit 0 put.0, told) ≡ (put_commit version bytes, told_put Created) = one_call (put_commit 0 put.0, told) front (put_commit version bytes, told_put Created) (sym put.2 ∙ is) in
    let versions : version ≡ 0 = sym (ap (λ (call : Asked × Told). version_put call.0) same) in
    let told_is : told ≡ told_put Created = ap (λ (call : Asked × Told). call.1) same in
    (versions, told_is)

created_creation : (job : CreateJob) (talk front : Talk) (version : ℕ) (bytes : List ℕ) → talk ≡ front ++ (put_commit version bytes, told_put Created) ∷ [] → (result : Result (Unit {0}) CreateFault) → (before : Talk) → CreateEnds job before talk result → (result ≡ Ok tt) × (version ≡ 0)
created_creation job talk front version bytes is (Ok done) before ends = (refl, (put_last job talk front (told_put Created) version bytes ends is).0)
created_creation job talk front version bytes is (Err create_faults.TableExists) before ends = let wrong = (put_last job talk front (told_put Exists) version bytes ends is).1 in absurd cc
created_creation job talk front version bytes is (Err create_faults.Lost) before ends = let wrong = (put_last job talk front told_lost version bytes ends is).1 in absurd cc
created_creation job talk front version bytes is (Err create_faults.Memory) before (inl none) = absurd (no_call front (put_commit version bytes, told_put Created) (sym none ∙ is))
created_creation job talk front version bytes is (Err create_faults.Memory) before (inr put) = let wrong = (put_last job talk front told_memory version bytes put is).1 in absurd cc
created_creation job talk front version bytes is (Err (create_faults.BadSchema fault)) before ends = absurd (no_call front (put_commit version bytes, told_put Created) (sym ends.0 ∙ is))
created_creation job talk front version bytes is (Err create_faults.BadId) before ends = absurd (no_call front (put_commit version bytes, told_put Created) (sym ends.0 ∙ is))
created_creation job talk front version bytes is (Err create_faults.TooLarge) before ends = absurd (no_call front (put_commit version bytes, told_put Created) (sym ends.0 ∙ is))

-- a creation asks for nothing behind a call
creation_quiet : (job : CreateJob) (before talk front : Talk) (version : ℕ) (bytes : List ℕ) → talk ≡ front ++ (put_commit version bytes, told_put Created) ∷ [] → (asked : Asked) → CreateAsks job before talk asked → ⊥
creation_quiet job before talk front version bytes is list_names wrong = wrong
creation_quiet job before talk front version bytes is (get_object name) wrong = wrong
creation_quiet job before talk front version bytes is (put_file name file) wrong = wrong
creation_quiet job before talk front version bytes is (put_commit at commit) put = no_call front (put_commit version bytes, told_put Created) (sym put.2 ∙ is)

-- ---- all sessions

pub created_row : (job : Job) (before talk : Talk) (move : Move) → HasAsked job before talk → Does job before talk move → TellsWhatWasCreated talk move
created_row (loads job) before talk move asked does =
    λ front version bytes is. absurd (asked_last (LoadAsks job before) [] front (put_commit version bytes, told_put Created) (subst (AllAsked (LoadAsks job before) []) is asked))
created_row (checkpoints job) before talk move asked does =
    λ front version bytes is. absurd (asked_last (CheckpointAsks job before) [] front (put_commit version bytes, told_put Created) (subst (AllAsked (CheckpointAsks job before) []) is asked))
created_row (reads job) before talk move asked does =
    λ front version bytes is. absurd (asked_last (SourceAsks job before) [] front (put_commit version bytes, told_put Created) (subst (AllAsked (SourceAsks job before) []) is asked))
created_row (creates job) before talk (asks call) asked does = λ front version bytes is. absurd (creation_quiet job before talk front version bytes is call does.0)
created_row (creates job) before talk (tells (creation (Ok done))) asked does = λ front version bytes is. (created_creation job talk front version bytes is (Ok done) before does.0).1
created_row (creates job) before talk (tells (creation (Err fault))) asked does = λ front version bytes is. let wrong = (created_creation job talk front version bytes is (Err fault) before does.0).0 in absurd cc
created_row (creates job) before talk (tells (load result)) asked does = absurd does.0
created_row (creates job) before talk (tells (checkpoint result)) asked does = absurd does.0
created_row (creates job) before talk (tells (stream end)) asked does = absurd does.0
created_row (creates job) before talk (tells (read end)) asked does = absurd does.0
created_row (streams job) before talk (asks call) asked does = λ front version bytes is. absurd (created_quiet job before front version bytes call (subst (λ (t : Talk). SinkAsks job before t call) is does.0))
created_row (streams job) before talk (tells (stream end)) asked does = λ front version bytes is. created_told job before front version bytes end.answer (subst (λ (t : Talk). AnswerEnds job before t end.answer) is does.0.answer)
created_row (streams job) before talk (tells (creation result)) asked does = absurd does.0
created_row (streams job) before talk (tells (load result)) asked does = absurd does.0
created_row (streams job) before talk (tells (checkpoint result)) asked does = absurd does.0
created_row (streams job) before talk (tells (read end)) asked does = absurd does.0
