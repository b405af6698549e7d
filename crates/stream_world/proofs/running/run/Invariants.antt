use Rattle.std.proofs.Common.{◌≡◌, length}
use Rattle.stream_world.specs.Running.{HasRun}
use Rattle.stream_world.proofs.running.run.Given as goal

abbrev pub invariant-loop-event : goal.invariant-loop-event
invariant-loop-event g l = record {
  each : length l.told.items ≡ length l.yielded;
  reliable : g.S.Store.is_reliable l.fn.store → g.S.Store.is_reliable l.world.store.store;
  run : g.S.Store.is_reliable l.fn.store → HasRun g.S.Store.objects (g.S.Store.objects l.fn.store) l.yielded l.told.items l.world;
}
