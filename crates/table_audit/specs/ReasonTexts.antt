-- The printed form of a reason: a line.
use Rattle.std.specs.Prelude.{ℕ, List, ◌++◌, codes, string_bytes}
use Rattle.std.specs.Fmt.{decimal}
use Rattle.delta_actions.specs.FaultTexts as actions
use Rattle.parquet_footer.specs.FaultTexts as files
use Rattle.table_audit.specs.declared.reason.ApplicationId.{ApplicationId}
use Rattle.table_audit.specs.declared.reason.Reason.{Reason}
use Rattle.table_audit.specs.declared.reason.Reason.TheVariants.{BadCommit, NoCreation, NoEntry, Twice, NotAbove, Closed, OtherFile, NoFile, BadFile, CommitBehindGap, CheckpointBehindGap, BadCheckpoint, OtherCheckpoint}

-- the id of an application, as it is told
abbrev pub application_id_text : ApplicationId → List ℕ
application_id_text application = string_bytes application.text

abbrev pub reason_text : Reason → List ℕ
reason_text (BadCommit version fault) = codes "commit " ++ (decimal version ++ (codes ": " ++ actions.fault_text fault))
reason_text NoCreation = codes "commit 0: no creation of a table"
reason_text (NoEntry version) = codes "commit " ++ (decimal version ++ codes ": no group and no close")
reason_text (Twice version application) = codes "commit " ++ (decimal version ++ (codes ": " ++ (application_id_text application ++ codes " stands twice")))
reason_text (NotAbove number application last) = codes "number " ++ (decimal number ++ (codes " of " ++ (application_id_text application ++ (codes " is not above " ++ decimal last))))
reason_text (Closed number application) = codes "number " ++ (decimal number ++ (codes " of " ++ (application_id_text application ++ codes " is behind its close")))
reason_text (OtherFile number application) = codes "number " ++ (decimal number ++ (codes " of " ++ (application_id_text application ++ codes " adds another file")))
reason_text (NoFile name) = codes "file " ++ (string_bytes name ++ codes ": missing")
reason_text (BadFile name fault) = codes "file " ++ (string_bytes name ++ (codes ": " ++ files.fault_text fault))
reason_text (CommitBehindGap version) = codes "commit " ++ (decimal version ++ codes " behind a gap")
reason_text (CheckpointBehindGap name) = codes "checkpoint " ++ (string_bytes name ++ codes ": no commit")
reason_text (BadCheckpoint name fault) = codes "checkpoint " ++ (string_bytes name ++ (codes ": " ++ actions.fault_text fault))
reason_text (OtherCheckpoint name) = codes "checkpoint " ++ (string_bytes name ++ codes ": not that of its version")
