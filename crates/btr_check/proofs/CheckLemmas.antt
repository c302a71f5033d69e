-- The verdict on a device, by what each part of a check found out.
use Rattle.std.specs.Prelude.{◌≡◌, ◌↔◌, ℕ, ◌+◌, ◌*◌, ◌≤◌, map, Option, Some, None, Result, Ok, Err, IfOk, IfErr}
use Rattle.std.proofs.Common.{refl, sym, subst, inl, inr, arith}
use Rattle.btr_disk.specs.declared.disk.Disk.{Ghosts}
use Rattle.btr_disk.specs.Bytes.{Image}
use Rattle.btr_disk.specs.Gate.{IsClosed}
use Rattle.btr_disk.specs.Causes.{CausesFault}
use Rattle.btr_disk.specs.Moments.{WroteNothing}
use Rattle.btr_super.specs.declared.superblock.Super.{Super}
use Rattle.btr_super.specs.declared.choosing.ChooseFault.{ChooseFault}
use Rattle.btr_super.specs.declared.choosing.ChooseFault.TheVariants as choice
use Rattle.btr_super.specs.Choose.{HasNoSuper, IsChosen, IsDamagedSuper}
use Rattle.btr_open.specs.declared.judged.WholeLog.{WholeLog}
use Rattle.btr_open.specs.declared.opening.OpenCause.{OpenCause}
use Rattle.btr_open.specs.declared.opening.OpenCause.TheVariants as cause
use Rattle.btr_log.specs.Reads.{OnlyReads}
use Rattle.btr_open.specs.Reads.{PartCause}
use Rattle.btr_open.specs.Seen.{IsJudgedLog, IsDamagedLogBy, first_reading}
use Rattle.btr_log.proofs.OnlyReading.{same-bytes}
use Rattle.btr_verify.specs.declared.verifying.VerifyFault.{VerifyFault}
use Rattle.btr_verify.specs.declared.verifying.VerifyFault.TheVariants as verify
use Rattle.btr_verify.specs.Trees.{VerifyCause}
use Rattle.btr_check.specs.declared.checker.Checker.{Checker}
use Rattle.btr_check.specs.declared.verdict.Verdict.{Verdict}
use Rattle.btr_check.specs.declared.verdict.Verdict.TheVariants.{Stands, Wrong, NotAStore, Fault, Want}
use Rattle.btr_check.specs.Rule.{MayStand}
use Rattle.btr_check.specs.Whole.{IsLegalLog, IsNamedStart, EndsAtSeal}
use Rattle.btr_check.specs.Verdict.{IsVerdict}
use Rattle.btr_check.specs.Check.{VerdictHolds, IsUnlessEnded}
use Rattle.btr_check.specs.Checkpoints.{mark_of}
use Rattle.btr_check.specs.Checker.{HasSeen}
use Rattle.btr_check.specs.Checking.{verdict_of_choice, verdict_of_cause, verdict_of_trees, VerdictBetween, WasChecked, AreTreesFound}
use Rattle.btr_check.proofs.LegalStands.{legal-stands}
use Rattle.btr_check.proofs.OneVerdict.{one-verdict}

-- A log that a check has read whole is legal.
abbrev legal-log : (image : Image) (s : Super) (c : Checker) (w : WholeLog) → IsJudgedLog MayStand HasSeen image (first_reading s) c w → IsLegalLog image s
legal-log image s c w l = record {
  log = l.log;
  walk = l.walk;
  seen = l.seen;
  keeps = l.keeps;
  closed = subst (IsClosed image) (sym l.at) l.closed;
  inside = omega (arith, l.at, l.inside);
}

module _ {D : Type 0} (disk : Ghosts D) where
  -- ---- a whole log

  module _ (old new : D) (s : Super) (c : Checker) (w : WholeLog) (chosen : disk.is_observable → IsChosen (disk.size old) (disk.contents old) s) (read : WasChecked disk old s c w) where
    abbrev IsNamed : Type 0
    IsNamed = IsNamedStart s (map mark_of c.checkpoints.items)

    -- The superblock names a start exactly if it names one of the checkpoints that were seen.
    named-seen : (reported : disk.is_observable) → IsNamed → IsNamedStart s (read reported).seen.marks
    named-seen reported named = subst (IsNamedStart s) (read reported).judged.marked named

    seen-named : (reported : disk.is_observable) → IsNamedStart s (read reported).seen.marks → IsNamed
    seen-named reported named = subst (IsNamedStart s) (sym (read reported).judged.marked) named

    -- If it names none, the block of its body is wrong.
    pub unnamed-wrong : (IsNamed → ⊥) → (block : ℕ) → block ≡ 2 * s.side + 1 → VerdictBetween disk old new (Wrong block)
    unnamed-wrong unnamed block is reported =
        let image = disk.contents old in
        inr (s, chosen reported, inr (inl (record { whole = legal-log image s c w (read reported); unnamed = λ named. unnamed (seen-named reported named); of = is })))

    -- The log ends where its superblock says exactly if the gate to which it was read is there.
    ends-read : (reported : disk.is_observable) → EndsAtSeal s w.tail → EndsAtSeal s (read reported).log.gate
    ends-read reported ends = subst (EndsAtSeal s) (sym (read reported).at) ends

    read-ends : (reported : disk.is_observable) → EndsAtSeal s (read reported).log.gate → EndsAtSeal s w.tail
    read-ends reported ends = subst (EndsAtSeal s) (read reported).at ends

    -- If it does not, the block of the tail is wrong.
    pub open-tail-wrong : IsNamed → (EndsAtSeal s w.tail → ⊥) → VerdictBetween disk old new (Wrong s.tail)
    open-tail-wrong named goes_on reported =
        let image = disk.contents old in
        inr (s, chosen reported, inr (inr (inl (record { whole = legal-log image s c w (read reported); named = named-seen reported named; goes_on = λ ends. goes_on (read-ends reported ends); of = refl }))))

    -- Else the trees decide.
    pub named-verdict : IsNamed → EndsAtSeal s w.tail → (trees : Result (Option ℕ) VerifyFault) → (disk.is_observable → (l : IsJudgedLog MayStand HasSeen (disk.contents old) (first_reading s) c w) → IfOk trees (AreTreesFound l.log.pages l.seen.entries l.seen.roots)) → IfErr trees (VerifyCause disk old new) → VerdictBetween disk old new (verdict_of_trees c.board.entries trees)
    named-verdict named ends (Ok None) found ended = λ reported.
        let l = read reported in
        let image = disk.contents old in
        (l.seen.entries, legal-stands (disk.size old) image s (chosen reported) (legal-log image s c w l) (named-seen reported named) (ends-read reported ends) (found reported l), l.judged.of.entries)
    named-verdict named ends (Ok (Some block)) found ended = λ reported.
        let l = read reported in
        let first = found reported l in
        inr (s, chosen reported, inr (inr (inr (record { whole = legal-log (disk.contents old) s c w l; named = named-seen reported named; ends = ends-read reported ends; n = first.0; first = first.1 }))))
    named-verdict named ends (Err verify.Fault) found ended = ended
    named-verdict named ends (Err verify.Want) found ended = tt

  -- ---- a log that is not whole

  pub cause-verdict : (old new : D) (s : Super) (why : OpenCause) → (disk.is_observable → IsChosen (disk.size old) (disk.contents old) s) → PartCause disk (IsDamagedLogBy MayStand (disk.contents old) (first_reading s)) old new why → VerdictBetween disk old new (verdict_of_cause s why)
  cause-verdict old new s cause.NotAStore chosen is = absurd is
  cause-verdict old new s (cause.Damaged block) chosen is = λ reported. inr (s, chosen reported, inl (record { at = block; damaged = is reported; of = refl }))
  cause-verdict old new s cause.Fault chosen is = is
  cause-verdict old new s cause.Want chosen is = tt

  -- ---- no superblock

  pub choice-verdict : (old new : D) (result : Result Super ChooseFault) (fault : ChooseFault) → result ≡ Err fault → CausesFault (disk.faults old) (disk.faults new) (result ≡ Err choice.Fault) → (disk.is_observable → (result ≡ Err choice.Fault → ⊥) → (result ≡ Err choice.NotAStore) ↔ HasNoSuper (disk.size old) (disk.contents old)) → (disk.is_observable → (result ≡ Err choice.Fault → ⊥) → (block : ℕ) → (result ≡ Err (choice.Damaged block)) ↔ IsDamagedSuper (disk.size old) (disk.contents old) block) → VerdictBetween disk old new (verdict_of_choice fault)
  choice-verdict old new result choice.NotAStore is rose none damaged = λ reported. (none reported (λ e. absurd (cc))).0 is
  choice-verdict old new result (choice.Damaged block) is rose none damaged = λ reported. inl ((damaged reported (λ e. absurd (cc)) block).0 is)
  choice-verdict old new result choice.Fault is rose none damaged = rose.rose is

  -- The choice of a superblock only reads.
  pub choice-reads : (old new : D) (fault : Type 0) → disk.size new ≡ disk.size old → disk.calls old ≤ disk.calls new → CausesFault (disk.faults old) (disk.faults new) fault → (disk.is_observable → WroteNothing disk.calls disk.contents disk.images_now disk.images_since old new) → OnlyReads disk old new
  choice-reads old new fault size calls rose nothing =
      record { counts = record { same_size = size; more_calls = calls; more_faults = rose.later }; nothing = nothing }

  -- A superblock that was chosen is chosen on the device.
  pub choice-chosen : (old : D) (result : Result Super ChooseFault) (s : Super) → result ≡ Ok s → (disk.is_observable → (result ≡ Err choice.Fault → ⊥) → (other : Super) → (result ≡ Ok other) ↔ IsChosen (disk.size old) (disk.contents old) other) → disk.is_observable → IsChosen (disk.size old) (disk.contents old) s
  choice-chosen old result s is chosen reported = (chosen reported (λ e. absurd (cc)) s).0 is

  -- ---- over more calls

  -- A verdict on a device after calls that only read it is one on the device before them.
  pub verdict-along : (old mid new : D) → OnlyReads disk old mid → (v : Verdict) → VerdictBetween disk mid new v → VerdictBetween disk old new v
  verdict-along old mid new reads v is = go v is
    where
      same : disk.is_observable → (w : Verdict) → IsVerdict (disk.size mid) (disk.contents mid) w → IsVerdict (disk.size old) (disk.contents old) w
      same reported w was = subst {A = ℕ × Image} (λ p. IsVerdict p.0 p.1 w) (λ i. (reads.counts.same_size i, sym (same-bytes old mid reads reported) i)) was

      go : (w : Verdict) → VerdictBetween disk mid new w → VerdictBetween disk old new w
      go (Stands entries) was = λ reported. same reported (Stands entries) (was reported)
      go (Wrong block) was = λ reported. same reported (Wrong block) (was reported)
      go NotAStore was = λ reported. same reported NotAStore (was reported)
      go Fault was = let low = reads.counts.more_faults in omega (arith, was, low)
      go Want was = tt

  -- A superblock that was chosen is so after calls that only read.
  pub chosen-along : (old mid : D) (s : Super) → OnlyReads disk old mid → (disk.is_observable → IsChosen (disk.size old) (disk.contents old) s) → disk.is_observable → IsChosen (disk.size mid) (disk.contents mid) s
  chosen-along old mid s reads chosen reported =
      subst {A = ℕ × Image} (λ p. IsChosen p.0 p.1 s) (λ i. (sym reads.counts.same_size i, same-bytes old mid reads reported i)) (chosen reported)

  -- So is a log that was read whole.
  pub checked-along : (old mid : D) (s : Super) (c : Checker) (w : WholeLog) → OnlyReads disk old mid → WasChecked disk old s c w → WasChecked disk mid s c w
  checked-along old mid s c w reads was reported =
      subst (λ image. IsJudgedLog MayStand HasSeen image (first_reading s) c w) (same-bytes old mid reads reported) (was reported)

-- ---- the verdict

-- The verdict that is right is the one that was returned, unless there is none.
pub exactly : (size : ℕ) (image : Image) (known : Type 0) (before after : ℕ) (v w : Verdict) → known → VerdictHolds known size image before after w → IsVerdict size image v → IsUnlessEnded v w
exactly size image known before after v (Stands entries) reported holds is = one-verdict size image (Stands entries) v (holds reported) is
exactly size image known before after v (Wrong block) reported holds is = one-verdict size image (Wrong block) v (holds reported) is
exactly size image known before after v NotAStore reported holds is = one-verdict size image NotAStore v (holds reported) is
exactly size image known before after v Fault reported holds is = tt
exactly size image known before after v Want reported holds is = tt
