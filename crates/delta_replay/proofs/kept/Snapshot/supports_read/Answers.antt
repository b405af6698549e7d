use Rattle.std.proofs.Common.{Bor, option_map}
use Rattle.delta_actions.specs.Action.{protocol_view}
use Rattle.delta_actions.specs.declared.action.Protocol.{Protocol}
use Rattle.delta_replay.proofs.Told.{tells_schema}
use Rattle.delta_replay.proofs.kept.Snapshot.supports_read.Goals as goal

pub returns-clause-told : goal.returns-clause-told
returns-clause-told c =
    tells_schema c.args.self.now (option_map (λ (p : Bor Protocol). protocol_view p.now) c.protocol.result) c.as_ref.result c.supports_read.result c.as_ref.ensures.value c.supports_read.ensures
