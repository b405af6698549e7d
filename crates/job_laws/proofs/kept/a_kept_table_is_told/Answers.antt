use Rattle.lake_script.proofs.KeptRuns.{statement_kept, statement_over}
use Rattle.lake_script.proofs.KeptScripts.{lines_told}
use Rattle.job_laws.proofs.kept.a_kept_table_is_told.Goals as goal

pub returns-clause-told : goal.returns-clause-told
returns-clause-told c = λ objects state statement printed keeps few sound. statement_over lines_told objects state statement printed keeps few sound

pub returns-clause-kept : goal.returns-clause-kept
returns-clause-kept c = λ objects state statement printed keeps few sound here. statement_kept lines_told objects state statement printed keeps few sound here
