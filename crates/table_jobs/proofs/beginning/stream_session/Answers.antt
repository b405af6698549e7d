use Rattle.std.proofs.lemmas.Str.{IsUtf8-string_bytes}
use Rattle.table_jobs.proofs.beginning.stream_session.Goals as goal

pub returns-in-Append-clause-valid : goal.returns-in-Append-clause-valid
returns-in-Append-clause-valid c = (IsUtf8-string_bytes c.args.job.application, c.args.job.some)

pub returns-in-Close-clause-valid : goal.returns-in-Close-clause-valid
returns-in-Close-clause-valid c = (IsUtf8-string_bytes c.args.job.application, c.args.job.some)
