-- Sessions over a device in memory go to other threads, and a session that is split and meets its other part is as it was.
use Rattle.std.specs.Prelude.{◌≡◌, ℕ, Bool}
use Rattle.std.proofs.Common.{arith}
use denote.Param.Send.{IsSend, IsSync}
use Rattle.btr_disk.specs.declared.disk.Disk.{Ghosts}
use Rattle.btr_disk.specs.contracts.memory.MemDisk as memory
use Rattle.btr_disk.specs.contracts.memory.MemDiskDisk.TheImpl.{ghosts}
use Rattle.btr_disk.proofs.memory.MemDisk.TheSendSync.{the_send}
use Rattle.btr_gate.specs.Shares.{on_path}
use Rattle.btr_hall.specs.declared.session.Session.{Session}
use Rattle.btr_hall.specs.Session.{Splits, Meets, share_of}
use Rattle.btr_hall.specs.contracts.session.Session as session
use Rattle.btr_hall.specs.contracts.session.Hall as hall
use Rattle.btr_hall.proofs.CrossingLemmas.{session_send, hall_sync}
use Rattle.btr_hall.proofs.SessionLemmas.{split_paths, meet_paths}

pub user_send : IsSend (session.the_row memory.the_row ghosts)
user_send = session_send memory.the_row ghosts the_send

pub place_sync : IsSync (hall.the_row memory.the_row ghosts)
place_sync = hall_sync memory.the_row ghosts the_send

module _ {D : Type 0} {disk : Ghosts D} where
  -- A session is split, both parts keep the paths that they meet, and they meet again: then they meet the paths of the first session.
  pub shares_meet : (path : ℕ → Bool) (old kept other here there new : Session D disk) → Splits old kept other → on_path path (share_of here) ≡ on_path path (share_of kept) → on_path path (share_of there) ≡ on_path path (share_of other) → Meets here there new → on_path path (share_of new) ≡ on_path path (share_of old)
  shares_meet path old kept other here there new splits first second meets =
      let cut = split_paths path old kept other splits in
      let both = meet_paths path here there new meets in
      omega (arith, cut, both, first, second)
