-- What a creation's session puts.
use Rattle.std.proofs.Common.{◌≡◌, ℕ, List, Ok}
use Rattle.schema_tree.specs.Reading.{schema_of}
use Rattle.table_model.specs.Table.{creation}
use Rattle.table_store.specs.Commits.{IsCommitOf}
use Rattle.table_store.specs.Schema.{Schema}
use Rattle.commit_core.specs.CreateSessions.{CreateJob, IsCreationOf}
use Rattle.commit_core.proofs.CreationTalks.{commit_created}

-- It is the commit of a creation, by the schema that its job's text is read as.
pub creation_commit : (job : CreateJob) (bytes : List ℕ) → IsCreationOf job bytes → (schema : Schema) × (schema_of job.schema ≡ Ok schema) × IsCommitOf schema creation bytes
creation_commit job bytes made = (made.well_created.read, made.well_created.described, commit_created job.at job.schema bytes made.well_created)
