use denote.Param.Send.{sendable}
use Rattle.std.proofs.alloc.Global.TheSendSync as heap
use Rattle.btr_disk.proofs.memory.MemDisk.TheSendSync as disk
use Rattle.btr_streams.proofs.CrossingLemmas.{snapshot_send}
use Rattle.btr_open.proofs.shelf.Shelf.TheSendSync as shelf
use Rattle.btr_engine_tests.proofs.shelf_tests.ask_in_two.Goals as goal

pub join-requires-send-F : goal.join-requires-send-F
join-requires-send-F g c κs = search (sendable, heap.the_send, disk.the_send, shelf.the_sync, snapshot_send) depth 20
