-- What is so of the job with which a session began is so of the one that was handed in: they are the same but for what is known of the log.
use Rattle.std.proofs.Common.{◌≡◌, ℕ, zero, suc, List, [], ◌∷◌, Contains, refl, sym, ap, subst, arith}
use Rattle.std.specs.Prelude.{Result, Ok, Err}
use Rattle.table_log.specs.LoadSessions.{LoadJob}
use Rattle.table_model.specs.Table.{Batch, Entry}
use Rattle.table_model.specs.declared.table.AppendAnswer.{AppendAnswer}
use Rattle.table_store.specs.Schema.{Schema}
use Rattle.batch_core.specs.declared.fault.SinkFault.{SinkFault}
use Rattle.sink_core.specs.SinkSessions.{SinkJob}
use Rattle.sink_core.specs.declared.sink_state.SinkEnd.{SinkEnd}
use Rattle.sink_core.specs.declared.sink_state.SinkOutcome.{SinkOutcome}
use Rattle.log_rows.specs.declared.read_state.ReadRows.{ReadRows}
use Rattle.log_rows.specs.declared.tail_fault.TailFault.{TailFault}
use Rattle.source_core.specs.SourceSessions.{SourceJob}
use Rattle.session_laws.specs.Jobs.{CanBegin, IsValidJob, Job, Outcome, item_answers, checkpoints, creates, loads, reads, stream, streams}
use Rattle.session_laws.specs.Rows.{IsBatchOf, TellsOfBatch, TellsOfListed}
use Rattle.stream_model.specs.Headline.{IsPartOfTable}
use Rattle.stream_model.specs.Worlds.{IsBegunAs}

-- it is valid where that can begin
pub valid_begun : (job begun : Job) → CanBegin job → IsBegunAs job begun → IsValidJob begun
valid_begun (creates job) begun can same = subst IsValidJob (sym same) tt
valid_begun (loads job) begun can same = subst IsValidJob (sym same.2) tt
valid_begun (checkpoints job) begun can same = subst IsValidJob (sym same.2) tt
valid_begun (streams job) begun can same = subst IsValidJob (sym same.2) can.0
valid_begun (reads job) begun can same = subst IsValidJob (sym same.1) tt

-- its batch is that one's
pub batch_begun : (schema : Schema) (job : SinkJob) (load : LoadJob) (b : Batch) → IsBatchOf schema (record job { load = load }) b → IsBatchOf schema job b
batch_begun schema job load b of_job = record { items = of_job.items; task = of_job.task; application = of_job.application; spelled = of_job.spelled }

-- so is what is told of it
pub told_begun : (schema : Schema) (entries : List Entry) (job : SinkJob) (load : LoadJob) (answer : AppendAnswer) → TellsOfBatch schema entries (record job { load = load }) answer → TellsOfBatch schema entries job answer
told_begun schema entries job load answer told = (told.0, batch_begun schema job load told.0 told.1, told.2)

-- and what a read hands out, and tells of what it listed
pub part_begun : (schema : Schema) (entries : List Entry) (job : SourceJob) (known : List ℕ) (answer : Result ReadRows TailFault) → IsPartOfTable schema entries (record job { known = known }) answer → IsPartOfTable schema entries job answer
part_begun schema [] job known (Ok handed) part = part
part_begun schema (first ∷ rest) job known (Ok handed) part = part
part_begun schema entries job known (Err fault) part = tt

pub listed_begun : (schema : Schema) (entries : List Entry) (job : SourceJob) (known : List ℕ) (answer : Result ReadRows TailFault) → TellsOfListed schema entries (record job { known = known }) answer → TellsOfListed schema entries job answer
listed_begun schema [] job known answer told = told
listed_begun schema (first ∷ rest) job known (Ok handed) told = told
listed_begun schema (first ∷ rest) job known (Err fault) told = told

-- ---- items

-- a stream's job told this at its end
abbrev pub IsToldAlone : Job → Outcome → SinkJob → Result SinkOutcome SinkFault → Type 0
IsToldAlone job outcome item answer = (end : SinkEnd) × (job ≡ streams item) × (outcome ≡ stream end) × (end.answer ≡ answer)

-- an item of a job that was answered is the stream's
pub answered_alone : (job : Job) (outcome : Outcome) (item : SinkJob) (answer : Result SinkOutcome SinkFault) → Contains (item_answers job outcome) (item, answer) → IsToldAlone job outcome item answer
answered_alone (streams job) (stream end) item answer (zero, lt, is) =
    let same : ◌≡◌ {A = SinkJob × Result SinkOutcome SinkFault} (job, end.answer) (item, answer) = is in
    (end, ap (λ (one : SinkJob × Result SinkOutcome SinkFault). streams one.0) same, refl, ap (λ (one : SinkJob × Result SinkOutcome SinkFault). one.1) same)
answered_alone (streams job) (stream end) item answer (suc k, lt, is) = absurd (omega (arith, lt))
answered_alone (streams job) _ item answer among = absurd (omega (arith, among.1))
answered_alone _ _ item answer among = absurd (omega (arith, among.1))
