use Rattle.std.proofs.Common.{◌∙◌}
use Rattle.session_core.specs.Talks.{told_view}
use Rattle.store_core.specs.Turns.{puts_sent}
use Rattle.stream_world.proofs.Calls.{commit_sent}
use Rattle.stream_world.proofs.calling.send.Goals as goal

pub returns-in-Ok-clause-sent : goal.returns-in-Ok-clause-sent
returns-in-Ok-clause-sent g c =
    rw c.in-PutCommit.is (commit_sent c.in-PutCommit.version c.deref-in-Ok.result.now c.in-PutCommit.bytes.items c.send-in-Ok.result (told_view c.sent-in-Ok.result) (puts_sent c.args.store.now) (puts_sent c.send-in-Ok.new.self)
    (c.deref-in-Ok.ensures ∙ c.in-Ok.ensures) c.sent-in-Ok.ensures c.send-in-Ok.ensures.sent)
