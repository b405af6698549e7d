use Rattle.std.proofs.Common.{◌<◌, ◌≤◌, length}
use Rattle.std.specs.Io.KnownBytes.{Consumes}
use Rattle.lake_script.specs.Streams.{unread}
use Rattle.lake_script.proofs.inputs.Input.read_to_end.Given as goal

abbrev pub invariant-loop : goal.invariant-loop
invariant-loop g l = record {
  room : 0 < length l.chunk.items;
  counted : l.counter ≤ length l.text.items;
  bounded : length l.text.items ≤ 1_073_741_824;
  moved : Consumes (unread g.R.Read.remaining l.fn.self) (unread g.R.Read.remaining l.self) l.text.items;
}
