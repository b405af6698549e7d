use Rattle.lake_workers.proofs.Talking.{stood_by, talk_borne, talk_grows}
use Rattle.lake_workers.proofs.laws.what_a_seat_has_seen_bears_its_talk.Goals as goal

pub returns-clause-borne : goal.returns-clause-borne
returns-clause-borne c = talk_borne

pub returns-clause-stood : goal.returns-clause-stood
returns-clause-stood c = λ old new talk objects through may. stood_by old new objects (talk_grows old new talk through) may

pub returns-clause-same : goal.returns-clause-same
returns-clause-same c = λ old new talk through. let grows = talk_grows old new talk through in (grows.number, grows.opening, grows.front)
