-- Lemmas on logs: what holds of every log, and of one whose calls wrote nothing.
use Rattle.std.specs.Prelude.{ℕ, ◌^◌, ◌<◌, ◌≤◌, List, IsTrue}
use Rattle.std.proofs.Common.{sym, subst}
use Rattle.btr_disk.specs.declared.disk.Disk.{Ghosts}
use Rattle.btr_disk.specs.Causes.{Rose}
use Rattle.btr_log.specs.declared.log.Log.{Log}
use Rattle.btr_log.specs.Extents.{AtRest}
use Rattle.btr_log.proofs.ExtentLemmas.{AtRest-along}
use Rattle.btr_log.specs.Log.{log_device, log_tail, log_blocks, extents_of, is_log_stopped, faults_at, IsLogAtRest, LogWroteNothing, KeepsLog}

-- its end is inside its blocks, and its blocks are inside the device; a stopped log's device has failed since it was made
pub record HoldsOfLog {D : Type 0} {disk : Ghosts D} (log : Log D disk) : Type 0 where
  pub tail_inside : log_tail log < log_blocks log
  pub counted : extents_of log ≤ log_tail log
  pub inside : log_blocks log ≤ disk.size (log_device log)
  pub addressable : log_blocks log ≤ 2 ^ 32
  pub later : faults_at log ≤ disk.faults (log_device log)
  pub rose : IsTrue (is_log_stopped log) → Rose (faults_at log) (disk.faults (log_device log))

pub holds_of_log : {D : Type 0} {disk : Ghosts D} (log : Log D disk) → HoldsOfLog log
holds_of_log log = record {
  tail_inside = log.tail_inside;
  counted = log.counted;
  inside = log.inside;
  addressable = log.addressable;
  later = log.later;
  rose = log.rose;
}

-- a log stays at rest if nothing is written, as by a read of an extent
pub IsAtRest-WroteNothing : {D : Type 0} {disk : Ghosts D} (old new : Log D disk) (bodies : List (List ℕ)) → LogWroteNothing old new → KeepsLog old new → IsLogAtRest old bodies → IsLogAtRest new bodies
IsAtRest-WroteNothing {D} {disk} old new bodies nothing kept rest =
    let before = disk.images_now (log_device old) in
    let after = disk.images_now (log_device new) in
    let same = AtRest-along (disk.contents (log_device old)) (disk.contents (log_device new)) before after (log_tail old) bodies nothing.same nothing.images rest in
    subst (λ t. AtRest (disk.contents (log_device new)) after t bodies) (sym kept.tail) same
