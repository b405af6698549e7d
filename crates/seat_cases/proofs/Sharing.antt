-- A hub may be shared by threads, and a seat go to another one.
use denote.RattleType.{RattleType}
use denote.Param.Send.{IsSend, IsSync, Frees, sendable, view_sync, view_send, recorded_send, recorded_sync, struct_send, struct_sync}
use Rattle.std.proofs.Crossing.{crosses}
use Rattle.std.proofs.MapsCrossing.{crosses as maps}
use Rattle.std.proofs.Common.{rules}
use Rattle.std.proofs.alloc.Global.TheSendSync as heap
use Rattle.crossbeam_channel.proofs.flavors.array.ruled.Sending.TheSendSync as sending
use Rattle.crossbeam_channel.proofs.flavors.array.ruled.Receiving.TheSendSync as receiving
use Rattle.crossbeam_channel.proofs.flavors.array.Rows.TheSendSync as rows
use Rattle.std.specs.contracts.alloc.Global as Global
use Rattle.std.specs.contracts.impls.GlobalAllocator.TheImpl as GlobalImpl
use Rattle.std.specs.contracts.option.Option as Option
use Rattle.atomic_table.specs.contracts.badge.Badge as Badge
use Rattle.crossbeam_channel.specs.contracts.flavors.array.Doing as Doing
use Rattle.crossbeam_channel.specs.contracts.flavors.array.Key as Key
use Rattle.crossbeam_channel.specs.contracts.flavors.array.Lockers as Lockers
use Rattle.crossbeam_channel.specs.contracts.flavors.array.LockersTableRuleOptionKeyUnit.TheImpl as LockersImpl
use Rattle.crossbeam_channel.specs.contracts.flavors.array.Rounds as Rounds
use Rattle.crossbeam_channel.specs.contracts.flavors.array.RoundsTableRuleBadgeKeyDoingBadgeKey.TheImpl as RoundsImpl
use Rattle.crossbeam_channel.specs.contracts.flavors.array.Rows as Rows
use Rattle.crossbeam_channel.specs.contracts.flavors.array.Whole as Whole
use Rattle.crossbeam_channel.specs.contracts.flavors.array.WholeSight.TheImpl as WholeImpl
use Rattle.crossbeam_channel.specs.contracts.flavors.array.ruled.Receiving as Receiving
use Rattle.crossbeam_channel.specs.contracts.flavors.array.ruled.Sending as Sending
use Rattle.log_book.specs.contracts.book.Book as Book
use Rattle.log_book.specs.contracts.book.Book.TheInside as BookInside
use Rattle.log_book.specs.contracts.record.CallRecord as CallRecord
use Rattle.store_core.specs.contracts.memory.MemoryStore as MemoryStore
use Rattle.store_core.specs.contracts.memory.MemoryStore.TheInside as MemoryInside
use Rattle.log_hub.specs.contracts.lock.Law as Law
use Rattle.log_hub.specs.contracts.lock.LawProtocolBookView.TheImpl as LawImpl
use Rattle.log_hub.specs.contracts.lock.View as View
use Rattle.log_hub.specs.contracts.hub.Hub as Hub
use Rattle.log_hub.specs.contracts.hub.Hub.TheInside as Inside
use Rattle.atomic_table.proofs.badge.Badge.TheSendSync as badge
use Rattle.atomic_table.specs.contracts.shared.Seat as Pass
use Rattle.atomic_table.proofs.shared.Seat.TheSendSync as pass
use Rattle.log_hub.specs.contracts.hub.Seat as Seat
use Rattle.log_hub.specs.contracts.hub.Seat.TheInside as SeatInside
use Rattle.log_hub.specs.contracts.receipt.Receipt as Receipt
use Rattle.case_seats.specs.contracts.holder.Holder as Holder
use Rattle.seat_cases.specs.contracts.threads.Done as Done
use Rattle.seat_cases.specs.contracts.threads.Task as Task
use denote.Struct.Declared as Declared
use Rattle.log_hub.specs.declared.hub.Naming as Naming

abbrev ring : RattleType
ring = Rows.the_row (Badge.the_row (Key.the_row Book.the_row)) (Doing.the_row Book.the_row View.the_row) (Rounds.the_row Law.the_row) (Option.the_row Book.the_row) (Key.the_row Book.the_row) (Lockers.the_row Whole.the_row) Global.the_row
    (RoundsImpl.ghosts Book.the_row View.the_row Law.the_row LawImpl.ghosts RoundsImpl.no_dict)
    (LockersImpl.ghosts Book.the_row Book.the_row Whole.the_row (WholeImpl.ghosts Book.the_row) LockersImpl.no_dict) GlobalImpl.ghosts

memory_fields : IsSend MemoryInside.the_row
memory_fields = search (sendable, maps, crosses) depth 40

memory_send : IsSend MemoryStore.the_row
memory_send = view_send MemoryInside.the_row _ _ _ _ memory_fields

record_send : IsSend CallRecord.the_row
record_send = search (sendable, crosses) depth 40

book_fields : IsSend BookInside.the_row
book_fields = search (sendable, crosses, memory_send, record_send, heap.the_field_send) depth 40

book_send : IsSend Book.the_row
book_send = view_send BookInside.the_row _ _ _ _ book_fields

option_send : IsSend (Option.the_row Book.the_row)
option_send = search (sendable, book_send) depth 20

global_send : IsSend Global.the_row
global_send = search (sendable, crosses, heap.the_send) depth 20

pub global_sync : IsSync Global.the_row
global_sync = search (sendable, crosses, heap.the_sync) depth 20

global_frees : Frees GlobalImpl.ghosts (GlobalImpl.ghosts).dealloc_token
global_frees = search (rules, crosses)

badge_send : IsSend (Badge.the_row (Key.the_row Book.the_row))
badge_send = badge.the_send (Key.the_row Book.the_row)

ring_send : IsSend ring
ring_send = search (rows.the_send, badge_send, option_send, global_send, global_frees) depth 5

ring_sync : IsSync ring
ring_sync = search (rows.the_sync, badge_send, option_send, global_send, global_sync, global_frees) depth 5

pub inlet_sync : IsSync (Sending.the_field ring Global.the_row GlobalImpl.ghosts).row
inlet_sync = sending.the_field_sync ring Global.the_row GlobalImpl.ghosts ring_send global_send ring_sync global_sync global_frees

pub outlet_sync : IsSync (Receiving.the_field ring Global.the_row GlobalImpl.ghosts).row
outlet_sync = receiving.the_field_sync ring Global.the_row GlobalImpl.ghosts ring_send global_send ring_sync global_sync global_frees

pub hub_sync : (T : RattleType) (g : Naming.Ghosts T.Denot) → IsSync T → IsSync (Hub.the_row T g)
hub_sync T g s = let fields : IsSync (Inside.the_row T g) = recorded_sync _ _ _ (Inside.the_type T g).to_one (struct_sync (Declared.shape (Inside.the_type T g)) (heap.the_field_sync, (inlet_sync, (outlet_sync, search (sendable, crosses) depth 20)))) in
    view_sync (Inside.the_row T g) _ _ _ _ fields

-- and a seat may go to another thread
pass_send : IsSend (Pass.the_row (Badge.the_row (Key.the_row Book.the_row)) (Doing.the_row Book.the_row View.the_row))
pass_send = pass.the_send (Badge.the_row (Key.the_row Book.the_row)) (Doing.the_row Book.the_row View.the_row) badge_send

pub seat_send : (T : RattleType) (g : Naming.Ghosts T.Denot) → IsSend T → IsSend (Seat.the_row T g)
seat_send T g s = let fields : IsSend (SeatInside.the_row T g) = search (sendable, crosses, pass_send) depth 20 in
    view_send (SeatInside.the_row T g) _ _ _ _ fields

receipt_send : IsSend Receipt.the_row
receipt_send = search (sendable, crosses) depth 20

-- with its receipts, too
holder_send : (T : RattleType) (g : Naming.Ghosts T.Denot) → IsSend T → IsSend (Holder.the_field T g).row
holder_send T g s = search (sendable, crosses, seat_send, receipt_send) depth 20

-- what a thread is given, and what it gives back
pub task_send : (T : RattleType) (g : Naming.Ghosts T.Denot) → IsSend T → IsSend (Task.the_row T g)
task_send T g s = recorded_send _ _ _ (Task.the_type T g).to_one (struct_send (Declared.shape (Task.the_type T g)) (search sendable depth 20, (holder_send T g s, search (sendable, crosses) depth 20)))

pub done_send : (T : RattleType) (g : Naming.Ghosts T.Denot) → IsSend T → IsSend (Done.the_row T g)
done_send T g s = search (sendable, crosses, holder_send) depth 20
