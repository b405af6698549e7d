use Rattle.log_laws.proofs.LogFiles.{live_stands}
use Rattle.log_laws.proofs.Leaves.{closed_left, files_left, number_left, open_left, read_left, written_left}
use Rattle.log_laws.proofs.leaving.a_sound_log_leaves_its_table.Goals as goal

pub returns-clause-number : goal.returns-clause-number
returns-clause-number c = λ objects schema entries commits application holds log. number_left objects schema entries holds commits application log

pub returns-clause-closed : goal.returns-clause-closed
returns-clause-closed c = λ objects schema entries commits application text holds log. closed_left objects schema entries holds commits application text log

pub returns-clause-still_open : goal.returns-clause-still_open
returns-clause-still_open c = λ objects schema entries commits application holds log opened. open_left objects schema entries holds commits application log opened

pub returns-clause-files : goal.returns-clause-files
returns-clause-files c = λ objects schema entries commits name holds log. files_left objects schema entries holds commits name log

pub returns-clause-files_stand : goal.returns-clause-files_stand
returns-clause-files_stand c = λ objects schema entries f holds among. live_stands objects schema entries holds f among

pub returns-clause-read : goal.returns-clause-read
returns-clause-read c = λ objects schema entries first commits sound holds log. read_left objects schema entries first commits sound.table holds log

pub returns-clause-written : goal.returns-clause-written
returns-clause-written c = λ objects schema found entries commits sound holds log is. written_left objects schema found entries commits sound.table holds log is
