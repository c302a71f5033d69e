-- Seats over a device in memory go to other threads, and their group and its hall are shared.
use denote.Param.Send.{IsSend, IsSync}
use Rattle.btr_disk.specs.contracts.memory.MemDisk as memory
use Rattle.btr_disk.specs.contracts.memory.MemDiskDisk.TheImpl.{ghosts}
use Rattle.btr_disk.proofs.memory.MemDisk.TheSendSync.{the_send}
use Rattle.btr_hall.specs.contracts.session.Hall as hall
use Rattle.btr_hall.proofs.CrossingLemmas.{hall_sync}
use Rattle.btr_group.specs.contracts.group.Seat as seat
use Rattle.btr_group.specs.contracts.group.Group as group
use Rattle.btr_group.proofs.CrossingLemmas.{seat_send, group_sync}

pub giver_send : IsSend (seat.the_row memory.the_row ghosts)
giver_send = seat_send memory.the_row ghosts the_send

pub buffer_sync : IsSync (group.the_row memory.the_row ghosts)
buffer_sync = group_sync memory.the_row ghosts the_send

pub place_sync : IsSync (hall.the_row memory.the_row ghosts)
place_sync = hall_sync memory.the_row ghosts the_send
