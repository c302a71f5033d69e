-- A worker may go to another thread, if the device may.
use denote.RattleType.{RattleType}
use denote.Ref.{NamedLft}
use denote.Param.Send.{IsSend, sendable}
use denote.Param.SendFields.{declared_send}
use Rattle.btr_disk.specs.declared.disk.Disk.{Ghosts}
use Rattle.btr_hall.proofs.CrossingLemmas.{session_send, hall_sync}
use Rattle.btr_jobs.specs.contracts.worker.Worker as worker

pub worker_send : (ν : NamedLft) (D : RattleType) (g : Ghosts D.Denot) → IsSend D → IsSend (worker.the_row ν D g)
worker_send ν D g s =
    let hall = hall_sync D g s in
    declared_send (worker.the_type ν D g) (search sendable depth 20, (session_send D g s, tt))
