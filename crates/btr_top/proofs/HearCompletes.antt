-- If the device holds a store with room for the entries of the frames, and nothing fails, `hear` says their numbers, or memory runs out.
use Rattle.std.specs.Prelude.{ℕ, Bool, true, false, ◌==◌, ◌&&◌, List, cond, Ok}
use Rattle.std.proofs.Common.{refl, sym, subst, arith, inl, inr, ⊎_elim}
use Rattle.btr_io.specs.declared.source.Source.{Ghosts as SourceGhosts}
use Rattle.btr_io.specs.Faults.{Rose as StreamRose}
use Rattle.btr_disk.specs.declared.disk.Disk.{Ghosts}
use Rattle.btr_disk.specs.Causes.{Rose}
use Rattle.btr_open.specs.Laws.{HeldIsSound, OneHistoryIsHeld}
use Rattle.btr_follow.specs.declared.frame.Frames.{Frames}
use Rattle.btr_follow.specs.Frames.{AreRead}
use Rattle.btr_jobs.specs.States.{StoreState, LogState}
use Rattle.btr_store.specs.declared.status.Status.TheVariants.{Done, Refused}
use Rattle.btr_store.specs.declared.transcript.Transcript.{Transcript}
use Rattle.btr_store.specs.Completes.{IsBenign}
use Rattle.btr_top.specs.declared.hear.FrameCounts.{FrameCounts}
use Rattle.btr_top.specs.declared.ending.Ending.{Ending}
use Rattle.btr_top.specs.Ending.{status_of}
use Rattle.btr_top.specs.Command.{HasRead, ExceedsInputLimit}
use Rattle.btr_top.specs.Hear.{counts_of, heard_status, HearsFrames, HasRoomForFrames, HearingCause, HearEnds, CanHear}
use Rattle.btr_top.specs.Run.{IsPlainStatus}
use Rattle.btr_top.proofs.PlainStatuses.{benign_input}
use Rattle.btr_top.proofs.StoreCompletes.{began, plain_work}

benign_heard : (n : FrameCounts) (rest : ℕ) → IsBenign (heard_status n rest)
benign_heard n rest = go (n.early == 0 && (n.bad == 0 && rest == 0))
  where
    go : (b : Bool) → IsBenign (cond b Done Refused)
    go true = inl refl
    go false = inr (inl refl)

benign_said : (frames : Frames) (start : StoreState) (log : LogState) (t : Transcript) → HasRoomForFrames frames.frames start → HearsFrames frames start log (Ok t) → IsBenign t.status
benign_said frames start log t room hears =
    ⊎_elim
    (λ says. subst IsBenign (sym says.same_status) (benign_heard (counts_of hears.answers) frames.rest))
    (λ h. ⊎_elim
    (λ lacks.
    let fits = room hears.answers log.history lacks.entry hears.heard lacks.next in
    absurd (omega (arith, fits, lacks.same_room, lacks.less)))
    (λ sealed. subst IsBenign (sym sealed.1.same_status) (inr (inl refl)))
    h)
    hears.says.1

module _ {S D : Type 0} (source : SourceGhosts S) (disk : Ghosts D) (given rest : S) (old new : D) (sound : HeldIsSound) (one : OneHistoryIsHeld) (can : CanHear source disk given old) (source_reported : source.is_observable) (reported : disk.is_observable) (source_works : StreamRose (source.faults given) (source.faults rest) → ⊥) (device_works : Rose (disk.faults old) (disk.faults new) → ⊥) where
  not_too_long : ExceedsInputLimit source given rest → ⊥
  not_too_long exceeds = omega (arith, exceeds source_reported, can.0)

  benign_frames : (input : List ℕ) → HasRead source input given rest → (e : Ending) → HearingCause disk input old new e → IsPlainStatus (status_of e)
  benign_frames input read e why =
      ⊎_elim
      (λ lacks. subst (λ (x : Ending). IsPlainStatus (status_of x)) (sym lacks.0) (inr (inr refl)))
      (λ heard.
      let frames : Frames = heard.0 in
      let can_all = can.1 frames (subst (λ (i : List ℕ). AreRead i frames) (read.all source_reported) heard.1) in
      let What : Transcript → StoreState → LogState → List ℕ → Type 0 = λ t start log own. HearsFrames frames start log (Ok t) in
      plain_work disk old new can_all.history can_all.blocks can_all.tail can_all.holds sound one reported device_works
      (λ said start log own. HearsFrames frames start log said)
      (λ t failed does.
      let same = began disk old new can_all.history can_all.blocks can_all.tail can_all.holds sound one reported device_works (What t) failed does in
      benign_said frames does.first does.log t (subst (λ (s : StoreState). HasRoomForFrames frames.frames s) (sym same) can_all.room) does.what)
      e heard.2.0)
      why

  pub benign_hear : (e : Ending) → HearEnds source disk given rest old new e → IsPlainStatus (status_of e)
  benign_hear e why =
      ⊎_elim
      (λ unread. benign_input source given rest source_works (λ exceeds. not_too_long exceeds) e unread.0)
      (λ (read : (input : List ℕ) × HasRead source input given rest × HearingCause disk input old new e). benign_frames read.0 read.1 e read.2)
      why
