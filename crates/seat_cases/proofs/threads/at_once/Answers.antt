use denote.Param.Send.{sendable}
use Rattle.seat_cases.proofs.Sharing.{done_send, global_sync, hub_sync, task_send}
use Rattle.seat_cases.proofs.threads.at_once.Goals as goal

pub map_vec-requires-send-J : goal.map_vec-requires-send-J
map_vec-requires-send-J g c κs within = search (sendable, task_send) depth 20

pub map_vec-requires-send-X : goal.map_vec-requires-send-X
map_vec-requires-send-X g c κs within = search (sendable, done_send) depth 20

pub map_vec-requires-sync-F : goal.map_vec-requires-sync-F
map_vec-requires-sync-F g c κs within = search (sendable, hub_sync, global_sync) depth 20
