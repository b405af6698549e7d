use Rattle.session_core.proofs.Bearing.{talk_grows, talk_borne, talk_alone}
use Rattle.session_core.proofs.laws.a_talk_is_borne.Goals as goal

pub returns-clause-grown : goal.returns-clause-grown
returns-clause-grown c = talk_grows

pub returns-clause-borne : goal.returns-clause-borne
returns-clause-borne c = talk_borne

pub returns-clause-alone : goal.returns-clause-alone
returns-clause-alone c = talk_alone
