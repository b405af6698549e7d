use Rattle.job_laws.proofs.TextReads.{as_by_offsets, log_by_texts}
use Rattle.job_laws.proofs.kept.reads_by_texts_hand_out_the_log.Goals as goal

pub returns-clause-same : goal.returns-clause-same
returns-clause-same c = λ objects limits text last out start by_texts begins. as_by_offsets objects limits text last out start by_texts begins

pub returns-clause-log : goal.returns-clause-log
returns-clause-log c = λ objects schema entries limits text last out kept begins by_texts. log_by_texts objects schema entries limits text last out kept begins by_texts
