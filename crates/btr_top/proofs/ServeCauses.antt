-- Why `serve` ends so: what of it is so of each device.
use Rattle.std.specs.Prelude.{◌≡◌, ℕ, ◌≤◌, Bool, true, false, List, Ok, Err, IfOk}
use Rattle.std.proofs.Common.{refl, sym, ◌∙◌, ap, subst, arith, ⊎_elim}
use Rattle.btr_io.specs.declared.source.Source.{Ghosts as SourceGhosts}
use Rattle.btr_io.specs.declared.sink.Sink.{Ghosts as SinkGhosts}
use Rattle.btr_disk.specs.declared.disk.Disk.{Ghosts}
use Rattle.btr_disk.specs.Causes.{Rose}
use Rattle.btr_open.specs.Damage.{IsUndamaged}
use Rattle.btr_store.specs.Work.{IsPlainWork}
use Rattle.btr_talk.specs.declared.desk.Desk.{Ghosts as DeskGhosts}
use Rattle.btr_talk.specs.declared.turns.TalkEnd.{TalkEnd}
use Rattle.btr_talk.specs.declared.turns.TalkEnd.TheVariants as ends
use Rattle.btr_talk.specs.Rounds.{Round}
use Rattle.btr_talk.specs.Ends.{EndsBy, Talks}
use Rattle.btr_serve.specs.declared.course.Course.{Course}
use Rattle.btr_store.specs.declared.status.Status.TheVariants.{DeviceFault}
use Rattle.btr_top.specs.declared.ending.Ending.{Ending}
use Rattle.btr_top.specs.Ending.{status_of}
use Rattle.btr_top.specs.Work.{WorkSays, WorkCause, ending_of}
use Rattle.btr_top.specs.Serve.{Said, NeverServes, ServeCause, ServeReadCause, ending_of_talk}
use Rattle.btr_top.proofs.WorkCauses.{unopened_cause}

-- ---- the sink

module _ {S K X : Type 0} (source : SourceGhosts S) (sink : SinkGhosts K) (desk : DeskGhosts X) (limit : ℕ) (given rest : S) (before after : K) (begun now : X) where
  later_by : (end : TalkEnd) (rounds : List (Round K X)) (moments : List (K × X)) → EndsBy source sink desk end limit given rest before after begun now rounds moments → sink.faults before ≤ sink.faults after
  later_by ends.Ended rounds moments is = omega (arith, is.0.no_fault)
  later_by ends.NoSource rounds moments is = omega (arith, is.0.no_fault)
  later_by ends.TooLong rounds moments is = omega (arith, is.0.no_fault)
  later_by ends.NoSink rounds moments is = is.later
  later_by ends.OutOfMemory rounds moments is = omega (arith, is.no_fault)

  -- The count of faults of the sink never falls.
  pub talk_later : (end : TalkEnd) (moments : List (K × X)) (asked : List (S × K)) → Talks source sink desk limit given rest before after begun now end moments asked → sink.faults before ≤ sink.faults after
  talk_later end moments asked talks = later_by end talks.rounds moments talks.ended

-- ---- the device

module _ {D : Type 0} (disk : Ghosts D) (old new : D) where
  abbrev Failed : Type 0
  Failed = Rose (disk.faults old) (disk.faults new)

  -- What is said of work, of which this is plain, tells of a failure only if there was one. `coded` is so of each status.
  said_fault : (said : Said) (failed : Bool) → (IfOk said (λ t. status_of (ending_of (Ok t) failed) ≡ 5 → Failed)) → (failed ≡ true → Failed) → status_of (ending_of said failed) ≡ 5 → Failed
  said_fault (Ok t) failed coded stopped five = coded five
  said_fault (Err error) true coded stopped five = stopped refl
  said_fault (Err error) false coded stopped five = absurd (omega (arith, five))

  pub talk_fault : (end : TalkEnd) (said : Said) (failed : Bool) → (IfOk said (λ t. status_of (ending_of (Ok t) failed) ≡ 5 → Failed)) → (failed ≡ true → Failed) → status_of (ending_of_talk end said failed) ≡ 5 → Failed
  talk_fault ends.Ended said failed coded stopped five = said_fault said failed coded stopped five
  talk_fault ends.NoSource said failed coded stopped five = absurd (omega (arith, five))
  talk_fault ends.TooLong said failed coded stopped five = absurd (omega (arith, five))
  talk_fault ends.NoSink said failed coded stopped five = absurd (omega (arith, five))
  talk_fault ends.OutOfMemory said true coded stopped five = stopped refl
  talk_fault ends.OutOfMemory said false coded stopped five = absurd (omega (arith, five))

-- ---- a store that was not opened

-- Nothing was done, whatever the work would have said.
abbrev pub Nothing : WorkSays
Nothing = λ said start log own. ⊥

pub never_cause : {S K D : Type 0} (disk : Ghosts D) (source : SourceGhosts S) (sink : SinkGhosts K) (given rest : S) (before sent : K) (old new : D) (e : Ending) → NeverServes disk source sink given rest before sent old new e → WorkCause disk Nothing old new e
never_cause disk source sink given rest before sent old new e never = unopened_cause disk Nothing old new e never.why never.kept
