use Rattle.std.proofs.Common.{Result, subst}
use Rattle.batch_core.specs.declared.fault.SinkFault.{SinkFault}
use Rattle.sink_core.specs.SinkSessions.{AnswerEnds}
use Rattle.sink_core.specs.declared.sink_state.SinkOutcome.{SinkOutcome}
use Rattle.sink_core.proofs.SinkTalks.{already_stands, committed_told, puts_own_commit, puts_own_file}
use Rattle.sink_core.proofs.sink_laws.what_a_sink_may.Goals as goal

pub returns-clause-commit : goal.returns-clause-commit
returns-clause-commit c = λ objects job before talk version bytes borne bears asks. puts_own_commit objects job before borne talk version bytes bears asks

pub returns-clause-file : goal.returns-clause-file
returns-clause-file c = λ objects job before talk name bytes borne bears asks. puts_own_file objects job before borne talk name bytes bears asks

pub returns-clause-committed : goal.returns-clause-committed
returns-clause-committed c = λ objects job before talk end version borne bears ends told.
    committed_told objects job before borne (λ put race result own is. c.what_a_commit_may.ensures.tells objects put before race result own is) talk bears version end.answer ends.answer told

pub returns-clause-already : goal.returns-clause-already
returns-clause-already c = λ objects job before talk end number borne bears ends is.
    already_stands objects job before borne talk number bears (subst (λ (a : Result SinkOutcome SinkFault). AnswerEnds job before talk a) is ends.answer)
