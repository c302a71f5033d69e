-- If the device holds a store with room, and nothing fails: `load`, `distil` and `sample`.
use Rattle.std.specs.Prelude.{◌≡◌, ℕ, Bool, List, Ok}
use Rattle.std.proofs.Common.{sym, ap, subst, arith, ⊎_elim}
use Rattle.btr_io.specs.declared.source.Source.{Ghosts as SourceGhosts}
use Rattle.btr_io.specs.Faults.{Rose as StreamRose}
use Rattle.btr_disk.specs.declared.disk.Disk.{Ghosts}
use Rattle.btr_disk.specs.Causes.{Rose}
use Rattle.btr_rows.specs.Rows.{rows_of}
use Rattle.btr_rows.specs.Streams.{RowListValue, list_of}
use Rattle.btr_load.specs.There.{AreDistinct}
use Rattle.btr_open.specs.Laws.{HeldIsSound, OneHistoryIsHeld}
use Rattle.btr_jobs.specs.States.{StoreState, LogState}
use Rattle.btr_store.specs.declared.transcript.Transcript.{Transcript}
use Rattle.btr_store.specs.Completes.{IsBenign, HasRoomForRows, HasRoomForOutputs}
use Rattle.btr_store.specs.Work.{DoesRightly}
use Rattle.btr_store.specs.Load.{LoadsStore}
use Rattle.btr_store.specs.Distil.{DistilsStore}
use Rattle.btr_store.specs.SampleRoom.{HasRoomForSample}
use Rattle.btr_store.specs.SampleLaw.{SamplesStore}
use Rattle.btr_top.specs.declared.ending.Ending.{Ending}
use Rattle.btr_top.specs.Ending.{status_of}
use Rattle.btr_top.specs.Command.{HasRead, ExceedsInputLimit}
use Rattle.btr_top.specs.Work.{RowsCause, LoadCause, DistilCause, SampleCause, CanLoad, CanDistil, CanSample}
use Rattle.btr_top.specs.Run.{IsPlainStatus}
use Rattle.btr_top.proofs.PlainStatuses.{benign_input}
use Rattle.btr_top.proofs.StoreCompletes.{opened, began, no_failure, plain_work}

module _ {D : Type 0} (disk : Ghosts D) (workers : ℕ) (old new : D) (sound : HeldIsSound) (one : OneHistoryIsHeld) (can : CanDistil disk old) (reported : disk.is_observable) (device_works : Rose (disk.faults old) (disk.faults new) → ⊥) where
  benign_refreshed : (transcript : Transcript) (failed : Bool) → DoesRightly disk (λ start log own. DistilsStore start log workers (Ok transcript) own) failed old new → IsBenign transcript.status
  benign_refreshed transcript failed does =
      let What : StoreState → LogState → List ℕ → Type 0 = λ start log own. DistilsStore start log workers (Ok transcript) own in
      let same = began disk old new can.history can.blocks can.tail can.holds sound one reported device_works What failed does in
      let room : HasRoomForOutputs does.first = subst (λ (s : StoreState). HasRoomForOutputs s) (sym same) can.room in
      (does.what.completes room (no_failure disk old new can.history can.blocks can.tail can.holds sound one reported device_works What failed does)).status

  pub benign_distil : (e : Ending) → DistilCause disk workers old new e → IsPlainStatus (status_of e)
  benign_distil e why =
      plain_work disk old new can.history can.blocks can.tail can.holds sound one reported device_works
      (λ said start log own. DistilsStore start log workers said own) benign_refreshed e why.0

module _ {D : Type 0} (disk : Ghosts D) (number streams points : ℕ) (old new : D) (sound : HeldIsSound) (one : OneHistoryIsHeld) (can : CanSample disk number streams points old) (reported : disk.is_observable) (device_works : Rose (disk.faults old) (disk.faults new) → ⊥) where
  benign_sampled : (transcript : Transcript) (failed : Bool) → DoesRightly disk (λ start log own. SamplesStore number streams points start log (Ok transcript) own) failed old new → IsBenign transcript.status
  benign_sampled transcript failed does =
      let What : StoreState → LogState → List ℕ → Type 0 = λ start log own. SamplesStore number streams points start log (Ok transcript) own in
      let same = began disk old new can.history can.blocks can.tail can.holds sound one reported device_works What failed does in
      let room : HasRoomForSample number streams points does.first = subst (λ (s : StoreState). HasRoomForSample number streams points s) (sym same) can.room in
      (does.what.completes room (no_failure disk old new can.history can.blocks can.tail can.holds sound one reported device_works What failed does)).status

  pub benign_sample : (e : Ending) → SampleCause disk number streams points old new e → IsPlainStatus (status_of e)
  benign_sample e why =
      plain_work disk old new can.history can.blocks can.tail can.holds sound one reported device_works
      (λ said start log own. SamplesStore number streams points start log said own) benign_sampled e why.0

module _ {S D : Type 0} (source : SourceGhosts S) (disk : Ghosts D) (workers batch : ℕ) (given rest : S) (old new : D) (sound : HeldIsSound) (one : OneHistoryIsHeld) (can : CanLoad source disk batch given old) (source_reported : source.is_observable) (reported : disk.is_observable) (source_works : StreamRose (source.faults given) (source.faults rest) → ⊥) (device_works : Rose (disk.faults old) (disk.faults new) → ⊥) where
  not_too_long : ExceedsInputLimit source given rest → ⊥
  not_too_long exceeds = omega (arith, exceeds source_reported, can.0)

  benign_loaded : (rows : RowListValue) → rows ≡ list_of (rows_of (source.left given)) → AreDistinct rows.streams → (transcript : Transcript) (failed : Bool) → DoesRightly disk (λ start log own. LoadsStore start log rows batch workers (Ok transcript) own) failed old new → IsBenign transcript.status
  benign_loaded rows all distinct transcript failed does =
      let What : StoreState → LogState → List ℕ → Type 0 = λ start log own. LoadsStore start log rows batch workers (Ok transcript) own in
      let store = opened disk old new can.1.history can.1.blocks can.1.tail can.1.holds sound one reported device_works in
      let same = began disk old new can.1.history can.1.blocks can.1.tail can.1.holds sound one reported device_works What failed does in
      let room : HasRoomForRows does.first rows batch =
      subst (λ (s : StoreState). HasRoomForRows s rows batch) (sym same)
      (subst (λ (rs : RowListValue). HasRoomForRows store rs batch) (sym all) can.1.room) in
      (does.what.completes distinct room (no_failure disk old new can.1.history can.1.blocks can.1.tail can.1.holds sound one reported device_works What failed does)).status

  benign_rows : (input : List ℕ) → HasRead source input given rest → AreDistinct (list_of (rows_of input)).streams → (e : Ending) → RowsCause disk workers batch (list_of (rows_of input)) old new e → IsPlainStatus (status_of e)
  benign_rows input read distinct e why =
      let rows : RowListValue = list_of (rows_of input) in
      let all : rows ≡ list_of (rows_of (source.left given)) = ap (λ (i : List ℕ). list_of (rows_of i)) (read.all source_reported) in
      plain_work disk old new can.1.history can.1.blocks can.1.tail can.1.holds sound one reported device_works
      (λ said start log own. LoadsStore start log rows batch workers said own) (benign_loaded rows all distinct) e why.0

  pub benign_load : (e : Ending) → LoadCause source disk workers batch given rest old new e → IsPlainStatus (status_of e)
  benign_load e why =
      ⊎_elim
      (λ unread. benign_input source given rest source_works (λ exceeds. not_too_long exceeds) e unread.0)
      (λ (read : (input : List ℕ) × HasRead source input given rest × (AreDistinct (list_of (rows_of input)).streams × RowsCause disk workers batch (list_of (rows_of input)) old new e)). benign_rows read.0 read.1 read.2.0 e read.2.1)
      why
