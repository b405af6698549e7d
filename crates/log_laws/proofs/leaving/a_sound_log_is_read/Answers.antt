use Rattle.log_laws.proofs.Leaves.{count_held, log_empty, log_stood, log_whole}
use Rattle.log_laws.proofs.leaving.a_sound_log_is_read.Goals as goal

pub returns-clause-count : goal.returns-clause-count
returns-clause-count c = λ objects schema entries sound holds. count_held objects sound.table schema entries holds

pub returns-clause-read : goal.returns-clause-read
returns-clause-read c = λ objects commits sound is. log_stood objects sound.table commits is

pub returns-clause-whole : goal.returns-clause-whole
returns-clause-whole c = λ objects first commits sound log. log_whole objects sound.table first commits log

pub returns-clause-empty : goal.returns-clause-empty
returns-clause-empty c = λ objects sound log. log_empty objects sound.table log
