-- If the device and the input suffice, and nothing fails, a run comes to its end.
use Rattle.std.specs.Prelude.{true, false, Option, Some, None}
use Rattle.std.proofs.Common.{refl, sym, subst, inr, ⊎_elim}
use Rattle.btr_io.specs.declared.source.Source.{Ghosts as SourceGhosts}
use Rattle.btr_io.specs.declared.sink.Sink.{Ghosts as SinkGhosts}
use Rattle.btr_io.specs.Faults.{Rose as StreamRose}
use Rattle.btr_disk.specs.declared.disk.Disk.{Ghosts}
use Rattle.btr_disk.specs.Causes.{Rose}
use Rattle.btr_words.specs.declared.command.Command.{Command}
use Rattle.btr_words.specs.declared.command.Command.TheVariants.{Format, Load, Ask, Distil, Live, LiveGroups, Sample, Checkpoint, Seal, Check, Ship, Hear, Serve, ServeRead}
use Rattle.btr_open.specs.Laws.{HeldIsSound, OneHistoryIsHeld}
use Rattle.btr_top.specs.declared.checkpoint.CheckpointKind.TheVariants as kinds
use Rattle.btr_serve.specs.declared.course.Course.{Course}
use Rattle.btr_top.specs.declared.ending.Ending.{Ending}
use Rattle.btr_top.specs.Ending.{status_of}
use Rattle.btr_top.specs.declared.live.FeedKind.TheVariants.{Own, Shared}
use Rattle.btr_top.specs.Run.{Cause, RunCause, CanRun, IsPlainStatus}
use Rattle.btr_top.proofs.LiveCompletes.{benign_live}
use Rattle.btr_top.proofs.AskCompletes.{benign_ask}
use Rattle.btr_top.proofs.ColdCompletes.{benign_ask_cold}
use Rattle.btr_top.proofs.WorkCompletes.{benign_load, benign_distil, benign_sample}
use Rattle.btr_top.proofs.CheckpointCompletes.{benign_checkpoint}
use Rattle.btr_top.proofs.CheckCompletes.{benign_check}
use Rattle.btr_top.proofs.ShipCauses.{benign_ship}
use Rattle.btr_top.proofs.HearCompletes.{benign_hear}
use Rattle.btr_top.proofs.ServeCompletes.{benign_serve, benign_serve_read}

module _ {S K D : Type 0} (source : SourceGhosts S) (sink : SinkGhosts K) (disk : Ghosts D) (given rest : S) (before sent : K) (old new : D) (course : Course S K D disk) (sound : HeldIsSound) (one : OneHistoryIsHeld) (source_reported : source.is_observable) (reported : disk.is_observable) (source_works : StreamRose (source.faults given) (source.faults rest) → ⊥) (sink_works : StreamRose (sink.faults before) (sink.faults sent) → ⊥) (device_works : Rose (disk.faults old) (disk.faults new) → ⊥) where
  plain_cause : (command : Option Command) → CanRun source disk command given old → (e : Ending) → Cause source sink disk command given rest before sent old new course e → IsPlainStatus (status_of e)
  plain_cause None can e why = absurd can
  plain_cause (Some (Format blocks)) can e why = absurd can
  plain_cause (Some (Live batch materialize)) can e why =
      benign_live source disk (Own batch) materialize given rest old new sound one can source_reported reported source_works device_works e why
  plain_cause (Some (LiveGroups threshold materialize)) can e why =
      benign_live source disk (Shared threshold) materialize given rest old new sound one can source_reported reported source_works device_works e why
  plain_cause (Some (Ask false)) can e why =
      benign_ask source disk given rest old new sound can source_reported reported source_works device_works e why
  plain_cause (Some (Ask true)) can e why =
      benign_ask_cold source disk given rest old new can source_reported reported source_works device_works e why
  plain_cause (Some (Load workers batch)) can e why =
      benign_load source disk workers batch given rest old new sound one can source_reported reported source_works device_works e why
  plain_cause (Some (Distil workers)) can e why = benign_distil disk workers old new sound one can reported device_works e why.1
  plain_cause (Some (Sample number streams points)) can e why =
      benign_sample disk number streams points old new sound one can reported device_works e why.1
  plain_cause (Some Checkpoint) can e why = benign_checkpoint disk kinds.Plain old new sound can reported device_works e why.1
  plain_cause (Some Seal) can e why = benign_checkpoint disk kinds.Seal old new sound can reported device_works e why.1
  plain_cause (Some Check) can e why = benign_check disk old new can reported device_works e why.1
  plain_cause (Some (Ship from)) can e why = benign_ship sink disk from before sent old new can reported sink_works device_works e why.1
  plain_cause (Some (Serve batch)) can e why =
      benign_serve source sink disk given rest before sent old new course sound one source_reported reported source_works sink_works device_works batch can e why
  plain_cause (Some ServeRead) can e why =
      benign_serve_read source sink disk given rest before sent old new course sound one source_reported reported source_works sink_works device_works can e why
  plain_cause (Some Hear) can e why =
      benign_hear source disk given rest old new sound one can source_reported reported source_works device_works e why

  pub plain_run : (command : Option Command) → CanRun source disk command given old → (e : Ending) → RunCause source sink disk command given rest before sent old new course e → IsPlainStatus (status_of e)
  plain_run command can e why =
      ⊎_elim
      (λ cause. plain_cause command can e cause)
      (λ lacks. subst (λ (x : Ending). IsPlainStatus (status_of x)) (sym lacks.0) (inr (inr refl)))
      why
