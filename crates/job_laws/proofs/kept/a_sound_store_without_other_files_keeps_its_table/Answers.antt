use Rattle.lake_script.proofs.KeptPlan.{beside}
use Rattle.lake_script.proofs.Callers.{sound_kept}
use Rattle.job_laws.proofs.kept.a_sound_store_without_other_files_keeps_its_table.Goals as goal

pub returns-clause-keeps : goal.returns-clause-keeps
returns-clause-keeps c = λ objects sound some limits own. (sound_kept objects sound some limits, own)

pub returns-clause-beside : goal.returns-clause-beside
returns-clause-beside c = λ objects state kept. beside objects state kept
