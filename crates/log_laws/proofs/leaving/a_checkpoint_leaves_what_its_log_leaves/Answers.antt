use Rattle.log_laws.proofs.Leaves.{seen_closed, seen_leaves, seen_number, seen_read, seen_refused, seen_written}
use Rattle.log_laws.proofs.leaving.a_checkpoint_leaves_what_its_log_leaves.Goals as goal

pub returns-clause-leaves : goal.returns-clause-leaves
returns-clause-leaves c = λ use_checkpoints objects commits sound is. seen_leaves use_checkpoints objects sound commits is

pub returns-clause-refused : goal.returns-clause-refused
returns-clause-refused c = λ use_checkpoints objects version sound is. seen_refused use_checkpoints objects sound version is

pub returns-clause-number : goal.returns-clause-number
returns-clause-number c = λ use_checkpoints objects schema entries commits application sound holds is. seen_number use_checkpoints objects sound schema entries holds commits is application

pub returns-clause-closed : goal.returns-clause-closed
returns-clause-closed c = λ use_checkpoints objects schema entries commits application text sound holds is. seen_closed use_checkpoints objects sound schema entries holds commits is application text

pub returns-clause-read : goal.returns-clause-read
returns-clause-read c = λ use_checkpoints objects schema entries commits sound holds is. seen_read use_checkpoints objects sound schema entries holds commits is

pub returns-clause-written : goal.returns-clause-written
returns-clause-written c = λ use_checkpoints objects schema found entries commits sound holds is written. seen_written use_checkpoints objects sound schema entries holds commits is found written
