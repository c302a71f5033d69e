-- Why an opening fails: what the faults of a log and of a choice mean for a store.
use Rattle.std.specs.Prelude.{◌≡◌, ℕ, ◌+◌, ◌*◌, ◌<◌, ◌≤◌, ◌↔◌, List, Result, Err}
use Rattle.std.proofs.Common.{refl, sym, subst, arith, inl, inr}
use Rattle.btr_disk.specs.declared.disk.Disk.{Ghosts}
use Rattle.btr_disk.specs.Bytes.{Image, Has}
use Rattle.btr_disk.specs.Gate.{IsOpen}
use Rattle.btr_disk.specs.Causes.{CausesFault}
use Rattle.btr_log.specs.declared.found.ExtentFault.{ExtentFault}
use Rattle.btr_log.specs.declared.found.ExtentFault.TheVariants as log
use Rattle.btr_log.specs.declared.head.Head.{Head}
use Rattle.btr_log.specs.Extents.{need, IsExtent}
use Rattle.btr_log.specs.Found.{IsDamagedExtent, IsWholeExtent, FindCause}
use Rattle.btr_log.proofs.ExtentLemmas.{IsBody-blocks}
use Rattle.btr_super.specs.declared.superblock.Super.{Super}
use Rattle.btr_super.specs.Choose.{HasNoSuper, IsChosen, IsDamagedSuper}
use Rattle.btr_super.specs.declared.choosing.ChooseFault.{ChooseFault}
use Rattle.btr_super.specs.declared.choosing.ChooseFault.TheVariants as chosen
use Rattle.btr_open.specs.declared.opening.OpenCause.{OpenCause}
use Rattle.btr_open.specs.declared.opening.OpenCause.TheVariants.{NotAStore, Damaged, Fault, Want}
use Rattle.btr_open.specs.Damage.{IsDamagedStore, IsDamaged}
use Rattle.btr_open.specs.Opening.{OpenCauseHolds}
use Rattle.btr_open.specs.Reading.{StoreCause}
use Rattle.btr_open.specs.Reads.{PartCause}

-- The extent that a log finds, on a device that is observable.
pub found-extent : (image : Image) (blocks gate : ℕ) (head : Head) (body : List ℕ) (next : ℕ) → IsWholeExtent blocks gate head body next → IsOpen image gate × Has image (4096 * (gate + 1)) body → IsExtent image gate body head × (gate + need body < blocks)
found-extent image blocks gate head body next whole matches = (
  record { is_open = matches.0; is_body = whole.is_body; stored = matches.1 },
  omega (arith, whole.follows, whole.inside, IsBody-blocks body head whole.is_body),
)

-- The gate after an extent that a log finds.
pub found-next : (blocks gate : ℕ) (head : Head) (body : List ℕ) (next : ℕ) → IsWholeExtent blocks gate head body next → next ≡ gate + need body
found-next blocks gate head body next whole =
    omega (arith, whole.follows, IsBody-blocks body head whole.is_body)

module _ {D : Type 0} (disk : Ghosts D) where
  -- A fault of the log is a cause.
  pub cause-found : (Breaks : ℕ → Type 0) (old new : D) (blocks gate : ℕ) → (disk.is_observable → (block : ℕ) → IsDamagedExtent (disk.contents old) blocks gate block → Breaks block) → (fault : ExtentFault) (cause : OpenCause) → ((block : ℕ) → fault ≡ log.Damaged block → cause ≡ Damaged block) → (fault ≡ log.Fault → cause ≡ Fault) → (fault ≡ log.Want → cause ≡ Want) → FindCause disk.is_observable (disk.contents old) blocks gate (disk.faults old) (disk.faults new) fault → PartCause disk Breaks old new cause
  cause-found Breaks old new blocks gate damages (log.Damaged block) cause damaged faulty wanting is =
      subst (PartCause disk Breaks old new) (sym (damaged block refl)) (λ reported. damages reported block (is reported))
  cause-found Breaks old new blocks gate damages log.Fault cause damaged faulty wanting is =
      subst (PartCause disk Breaks old new) (sym (faulty refl)) is
  cause-found Breaks old new blocks gate damages log.Want cause damaged faulty wanting is =
      subst (PartCause disk Breaks old new) (sym (wanting refl)) tt

  -- A cause holds too if more breaks the format, and over more calls.
  pub cause-along : (Breaks More : ℕ → Type 0) (old mid new : D) → disk.faults old ≤ disk.faults mid → (disk.is_observable → (block : ℕ) → Breaks block → More block) → (cause : OpenCause) → PartCause disk Breaks mid new cause → PartCause disk More old new cause
  cause-along Breaks More old mid new low more NotAStore is = is
  cause-along Breaks More old mid new low more (Damaged block) is = λ reported. more reported block (is reported)
  cause-along Breaks More old mid new low more Fault is = omega (arith, is, low)
  cause-along Breaks More old mid new low more Want is = tt

  -- Why a store was not opened, from why its log was not read.
  pub cause-of-store : (found : Super) (old mid new : D) (size : ℕ) (image : Image) → disk.faults old ≤ disk.faults mid → (disk.is_observable → IsChosen size image found) → (disk.is_observable → disk.contents mid ≡ image) → (cause : OpenCause) → StoreCause disk found mid new cause → OpenCauseHolds disk.is_observable size image (disk.faults old) (disk.faults new) cause
  cause-of-store found old mid new size image low chosen same NotAStore is = absurd is
  cause-of-store found old mid new size image low chosen same (Damaged block) is =
      λ reported. inr (found, chosen reported, subst (λ i. IsDamagedStore i found block) (same reported) (is reported))
  cause-of-store found old mid new size image low chosen same Fault is = omega (arith, is, low)
  cause-of-store found old mid new size image low chosen same Want is = tt

-- A fault of the choice of a superblock is a cause of an opening.
pub choice_along : (is_observable : Type 0) (size : ℕ) (image : Image) (before after : ℕ) (result : Result Super ChooseFault) → CausesFault before after (result ≡ Err chosen.Fault) → (is_observable → (result ≡ Err chosen.Fault → ⊥) → (result ≡ Err chosen.NotAStore) ↔ HasNoSuper size image) → (is_observable → (result ≡ Err chosen.Fault → ⊥) → (block : ℕ) → (result ≡ Err (chosen.Damaged block)) ↔ IsDamagedSuper size image block) → (fault : ChooseFault) (cause : OpenCause) → result ≡ Err fault → (fault ≡ chosen.NotAStore → cause ≡ NotAStore) → ((block : ℕ) → fault ≡ chosen.Damaged block → cause ≡ Damaged block) → (fault ≡ chosen.Fault → cause ≡ Fault) → OpenCauseHolds is_observable size image before after cause
choice_along is_observable size image before after result causes none damaged chosen.NotAStore cause is none_is damaged_is fault_is =
    subst (OpenCauseHolds is_observable size image before after) (sym (none_is refl)) (λ reported. (none reported (λ other. cc)).0 is)
choice_along is_observable size image before after result causes none damaged (chosen.Damaged block) cause is none_is damaged_is fault_is =
    subst (OpenCauseHolds is_observable size image before after) (sym (damaged_is block refl)) (λ reported. inl ((damaged reported (λ other. cc) block).0 is))
choice_along is_observable size image before after result causes none damaged chosen.Fault cause is none_is damaged_is fault_is =
    subst (OpenCauseHolds is_observable size image before after) (sym (fault_is refl)) (causes.rose is)

-- A cause holds too if less is known, and over more calls, if the bytes are the same.
pub OpenCauseHolds-along : (is_observable read : Type 0) (size other : ℕ) (image new : Image) (begin before after end : ℕ) (cause : OpenCause) → (read → is_observable) → (read → (size ≡ other) × (image ≡ new)) → begin ≤ before → after ≤ end → OpenCauseHolds is_observable size image before after cause → OpenCauseHolds read other new begin end cause
OpenCauseHolds-along is_observable read size other image new begin before after end NotAStore reported same low high is =
    λ r. subst (HasNoSuper other) (same r).1 (subst (λ n. HasNoSuper n image) (same r).0 (is (reported r)))
OpenCauseHolds-along is_observable read size other image new begin before after end (Damaged block) reported same low high is =
    λ r. subst (λ i. IsDamaged other i block) (same r).1 (subst (λ n. IsDamaged n image block) (same r).0 (is (reported r)))
OpenCauseHolds-along is_observable read size other image new begin before after end Fault reported same low high is = omega (arith, is)
OpenCauseHolds-along is_observable read size other image new begin before after end Want reported same low high is = tt
