use Rattle.session_core.proofs.Showing.{reads_shown, reads_untouched, shows_bears}
use Rattle.session_core.proofs.laws.what_is_read_is_shown.Goals as goal

pub returns-clause-untouched : goal.returns-clause-untouched
returns-clause-untouched c = reads_untouched

pub returns-clause-shown : goal.returns-clause-shown
returns-clause-shown c = reads_shown

pub returns-clause-borne : goal.returns-clause-borne
returns-clause-borne c = shows_bears
