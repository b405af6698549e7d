use Rattle.std.proofs.Common.{◌∷◌}
use Rattle.log_laws.proofs.Fronts.{front_made, front_stands}
use Rattle.log_laws.proofs.Leaves.{read_by, written_by}
use Rattle.log_laws.proofs.LogCloses.{log_closed, log_open}
use Rattle.log_laws.proofs.LogFiles.{log_files}
use Rattle.log_laws.proofs.LogNumbers.{log_last}
use Rattle.log_laws.proofs.leaving.the_first_commits_leave_the_first_entries.Goals as goal

pub returns-clause-stand : goal.returns-clause-stand
returns-clause-stand c = λ objects schema entries later sound holds. front_stands objects schema entries later sound.table holds

pub returns-clause-number : goal.returns-clause-number
returns-clause-number c = λ objects schema entries commits application stand read. log_last objects schema application entries commits (front_made objects schema entries commits stand read)

pub returns-clause-closed : goal.returns-clause-closed
returns-clause-closed c = λ objects schema entries commits application text stand read.
    log_closed objects schema application entries commits (front_made objects schema entries commits stand read) text

pub returns-clause-still_open : goal.returns-clause-still_open
returns-clause-still_open c = λ objects schema entries commits application stand read opened.
    log_open objects schema application entries commits (front_made objects schema entries commits stand read) opened

pub returns-clause-files : goal.returns-clause-files
returns-clause-files c = λ objects schema entries commits name stand read. log_files objects schema name entries commits (front_made objects schema entries commits stand read)

pub returns-clause-read : goal.returns-clause-read
returns-clause-read c = λ objects schema entries first commits lawful stand read. read_by objects schema entries first commits lawful.begins (front_made objects schema entries (first ∷ commits) stand read)

pub returns-clause-written : goal.returns-clause-written
returns-clause-written c = λ objects schema found entries commits lawful stand read is. written_by objects schema found entries commits lawful.begins (front_made objects schema entries commits stand read) is
