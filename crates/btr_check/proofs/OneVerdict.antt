-- At most one verdict is right of a device.
use Rattle.std.specs.Prelude.{◌≡◌, ℕ, ◌+◌, ◌<◌, ◌≤◌, ◌^◌, List, length}
use Rattle.std.proofs.Common.{refl, sym, ◌∙◌, ap, subst, inl, inr}
use Rattle.btr_disk.specs.Bytes.{Image}
use Rattle.btr_disk.specs.Gate.{IsOpen}
use Rattle.btr_super.specs.declared.superblock.Super.{Super}
use Rattle.btr_super.specs.Choose.{HasNoSuper, IsChosen}
use Rattle.btr_super.proofs.ChoiceLemmas.{one_chosen, chosen_not_none, chosen_not_damaged, none_not_damaged, one_damaged}
use Rattle.btr_hist.specs.declared.entry.Entry.{Entry}
use Rattle.btr_open.specs.Reached.{Reached}
use Rattle.btr_open.proofs.Sound.{one_history}
use Rattle.btr_check.specs.declared.verdict.Verdict.TheVariants.{Stands, Wrong, NotAStore, Fault, Want}
use Rattle.btr_open.specs.Walk.{IsDamagedNextBy}
use Rattle.btr_open.specs.Seen.{Seen, Lets, IsDamagedLogBy, first_reading}
use Rattle.btr_check.specs.Rule.{MayStand}
use Rattle.btr_check.specs.Whole.{IsLegalLog, IsNamedStart, EndsAtSeal, LeadAll, IsFirstWrongAt}
use Rattle.btr_check.specs.Verdict.{named_block, HoldsLegal, IsWrongStore, IsWrong}
use Rattle.btr_check.specs.Laws.{OneVerdictHolds}
use Rattle.btr_check.proofs.BreakLemmas.{one-next, damaged-open}
use Rattle.btr_check.proofs.MeetLemmas.{IsWholeWalk, IsEnd, closed-ends, damaged-ends, whole-walk, few-next, one-walk}
use Rattle.btr_check.proofs.LeadLemmas.{right-not-wrong, one-first}
use Rattle.btr_check.proofs.HeldLegal.{IsRightStore, held-right}

-- ---- one log

module _ (image : Image) (s : Super) (limit : s.blocks ≤ 2 ^ 32) where
  -- A walk of the whole log that ends inside the store, and what was seen.
  record IsEnded (log : Reached) (seen : Seen) : Type 0 where
    walk : IsWholeWalk MayStand image (first_reading s).format log seen
    inside : log.gate < s.blocks
    ends : IsEnd MayStand image s.blocks (first_reading s).format log seen

  legal-ended : (l : IsLegalLog image s) → IsEnded l.log l.seen
  legal-ended l = record {
    walk = whole-walk MayStand image s l.log l.seen l.walk l.keeps;
    inside = l.inside;
    ends = closed-ends MayStand image s.blocks (first_reading s).format l.log l.seen l.closed;
  }

  abbrev IsDamaged : ℕ → Type 0
  IsDamaged block = IsDamagedLogBy MayStand image (first_reading s) block

  open-inside : (block : ℕ) (d : IsDamaged block) → IsOpen image d.log.gate × (d.log.gate < s.blocks)
  open-inside block d = damaged-open (Lets MayStand d.log d.seen.entries) image s d.log block d.damage

  few : (block : ℕ) (d : IsDamaged block) → d.log.entries + 1 < 2 ^ 64
  few block d =
      few-next MayStand image s.blocks (first_reading s).format d.log d.seen limit (whole-walk MayStand image s d.log d.seen d.walk d.keeps) (open-inside block d).1

  damaged-ended : (block : ℕ) (d : IsDamaged block) → IsEnded d.log d.seen
  damaged-ended block d = record {
    walk = whole-walk MayStand image s d.log d.seen d.walk d.keeps;
    inside = (open-inside block d).1;
    ends = damaged-ends MayStand image s d.log d.seen block limit (few block d) d.damage;
  }

  -- Two such walks are one.
  same-end : (log other : Reached) (seen seen_too : Seen) → IsEnded log seen → IsEnded other seen_too → (log ≡ other) × (seen ≡ seen_too)
  same-end log other seen seen_too x y =
      one-walk MayStand image s.blocks (first_reading s).format log other seen seen_too limit x.walk x.inside x.ends y.walk y.inside y.ends

  -- A legal log is not damaged.
  not-damaged : (l : IsLegalLog image s) (block : ℕ) → IsDamaged block → ⊥
  not-damaged l block d =
      let same = same-end l.log d.log l.seen d.seen (legal-ended l) (damaged-ended block d) in
      l.closed (subst (λ (p : Reached). IsOpen image p.gate) (sym same.0) (open-inside block d).0)

  -- A damaged log is damaged in one block.
  one-damage : (a b : ℕ) → IsDamaged a → IsDamaged b → a ≡ b
  one-damage a b x y =
      let same = same-end x.log y.log x.seen y.seen (damaged-ended a x) (damaged-ended b y) in
      let here : IsDamagedNextBy (Lets MayStand y.log y.seen.entries) image (first_reading s) y.log a = subst {A = Reached × Seen} (λ p. IsDamagedNextBy (Lets MayStand p.0 p.1.entries) image (first_reading s) p.0 a) (λ i. (same.0 i, same.1 i)) x.damage in
      one-next (Lets MayStand y.log y.seen.entries) image s y.log (few b y) a b here y.damage

  -- Of a legal log one thing was seen.
  one-legal : (l m : IsLegalLog image s) → (l.log ≡ m.log) × (l.seen ≡ m.seen)
  one-legal l m = same-end l.log m.log l.seen m.seen (legal-ended l) (legal-ended m)

  named-too : (l m : IsLegalLog image s) → IsNamedStart s l.seen.marks → IsNamedStart s m.seen.marks
  named-too l m named = subst (λ (seen : Seen). IsNamedStart s seen.marks) (one-legal l m).1 named

  ends-too : (l m : IsLegalLog image s) → EndsAtSeal s l.log.gate → EndsAtSeal s m.log.gate
  ends-too l m ends = subst (λ (log : Reached). EndsAtSeal s log.gate) (one-legal l m).0 ends

  -- ---- one wrong block

  pub one-store : (a b : ℕ) → IsWrongStore image s a → IsWrongStore image s b → a ≡ b
  one-store a b (inl x) (inl y) = x.of ∙ ap (named_block s) (one-damage x.at y.at x.damaged y.damaged) ∙ sym y.of
  one-store a b (inl x) (inr (inl y)) = absurd (not-damaged y.whole x.at x.damaged)
  one-store a b (inl x) (inr (inr (inl y))) = absurd (not-damaged y.whole x.at x.damaged)
  one-store a b (inl x) (inr (inr (inr y))) = absurd (not-damaged y.whole x.at x.damaged)
  one-store a b (inr (inl x)) (inl y) = absurd (not-damaged x.whole y.at y.damaged)
  one-store a b (inr (inr (inl x))) (inl y) = absurd (not-damaged x.whole y.at y.damaged)
  one-store a b (inr (inr (inr x))) (inl y) = absurd (not-damaged x.whole y.at y.damaged)
  one-store a b (inr (inl x)) (inr (inl y)) = x.of ∙ sym y.of
  one-store a b (inr (inl x)) (inr (inr (inl y))) = absurd (x.unnamed (named-too y.whole x.whole y.named))
  one-store a b (inr (inl x)) (inr (inr (inr y))) = absurd (x.unnamed (named-too y.whole x.whole y.named))
  one-store a b (inr (inr (inl x))) (inr (inl y)) = absurd (y.unnamed (named-too x.whole y.whole x.named))
  one-store a b (inr (inr (inr x))) (inr (inl y)) = absurd (y.unnamed (named-too x.whole y.whole x.named))
  one-store a b (inr (inr (inl x))) (inr (inr (inl y))) = x.of ∙ sym y.of
  one-store a b (inr (inr (inl x))) (inr (inr (inr y))) = absurd (x.goes_on (ends-too y.whole x.whole y.ends))
  one-store a b (inr (inr (inr x))) (inr (inr (inl y))) = absurd (y.goes_on (ends-too x.whole y.whole x.ends))
  one-store a b (inr (inr (inr x))) (inr (inr (inr y))) =
      let same = one-legal x.whole y.whole in
      let log = y.whole.log in
      let seen = y.whole.seen in
      let here : IsFirstWrongAt log.pages seen.entries seen.roots x.n a = subst {A = Reached × Seen} (λ p. IsFirstWrongAt p.0.pages p.1.entries p.1.roots x.n a) (λ i. (same.0 i, same.1 i)) x.first in
      one-first log.pages seen.entries seen.roots x.n y.n a b here y.first

  -- A store that is right has no wrong block.
  pub right-store : IsRightStore image s → (block : ℕ) → IsWrongStore image s block → ⊥
  right-store r block (inl d) = not-damaged r.whole d.at d.damaged
  right-store r block (inr (inl x)) = x.unnamed (named-too r.whole x.whole r.named)
  right-store r block (inr (inr (inl x))) = x.goes_on (ends-too r.whole x.whole r.ends)
  right-store r block (inr (inr (inr x))) =
      let same = one-legal r.whole x.whole in
      let log = x.whole.log in
      let seen = x.whole.seen in
      let right : LeadAll log.pages seen.entries seen.roots = subst {A = Reached × Seen} (λ p. LeadAll p.0.pages p.1.entries p.1.roots) (λ i. (same.0 i, same.1 i)) r.right in
      right-not-wrong log.pages seen.entries seen.roots x.n block (right x.n) x.first

-- ---- one device

module _ (size : ℕ) (image : Image) where
  limit : (s : Super) → IsChosen size image s → s.blocks ≤ 2 ^ 32
  limit s chosen = chosen.stored.spelled.keeps.blocks_to

  -- A device is wrong in one block.
  one-wrong : (a b : ℕ) → IsWrong size image a → IsWrong size image b → a ≡ b
  one-wrong a b (inl x) (inl y) = one_damaged size image a b x y
  one-wrong a b (inl x) (inr y) = absurd (chosen_not_damaged size image y.0 a y.1 x)
  one-wrong a b (inr x) (inl y) = absurd (chosen_not_damaged size image x.0 b x.1 y)
  one-wrong a b (inr x) (inr y) =
      let same : y.0 ≡ x.0 = one_chosen size image y.0 x.0 y.1 x.1 in
      one-store image x.0 (limit x.0 x.1) a b x.2 (subst (λ s. IsWrongStore image s b) same y.2)

  -- A device that holds a legal history is wrong nowhere, and has a store.
  legal-not-wrong : (h : List Entry) (block : ℕ) → HoldsLegal size image h → IsWrong size image block → ⊥
  legal-not-wrong h block is (inl x) =
      let st = is.holds.holds in chosen_not_damaged size image st.super block st.chosen x
  legal-not-wrong h block is (inr x) =
      let st = is.holds.holds in
      let right = held-right size image is.holds.blocks is.holds.tail h st is.legal in
      let same : x.0 ≡ st.super = one_chosen size image x.0 st.super x.1 st.chosen in
      right-store image st.super (limit st.super st.chosen) right block (subst (λ s. IsWrongStore image s block) same x.2)

  -- A device that is wrong has an open superblock.
  wrong-not-none : (block : ℕ) → IsWrong size image block → HasNoSuper size image → ⊥
  wrong-not-none block (inl x) none = none_not_damaged size image block none x
  wrong-not-none block (inr x) none = chosen_not_none size image x.0 x.1 none

pub one-verdict : OneVerdictHolds
one-verdict size image (Stands n) (Stands m) x y =
    ap Stands (x.2 ∙ ap (length {A = Entry}) (one_history size image x.0 y.0 x.1.holds y.1.holds) ∙ sym y.2)
one-verdict size image (Stands n) (Wrong b) x y = absurd (legal-not-wrong size image x.0 b x.1 y)
one-verdict size image (Stands n) NotAStore x y =
    absurd (chosen_not_none size image x.1.holds.holds.super x.1.holds.holds.chosen y)
one-verdict size image (Stands n) Fault x y = absurd y
one-verdict size image (Stands n) Want x y = absurd y
one-verdict size image (Wrong a) (Stands m) x y = absurd (legal-not-wrong size image y.0 a y.1 x)
one-verdict size image (Wrong a) (Wrong b) x y = ap Wrong (one-wrong size image a b x y)
one-verdict size image (Wrong a) NotAStore x y = absurd (wrong-not-none size image a x y)
one-verdict size image (Wrong a) Fault x y = absurd y
one-verdict size image (Wrong a) Want x y = absurd y
one-verdict size image NotAStore (Stands m) x y =
    absurd (chosen_not_none size image y.1.holds.holds.super y.1.holds.holds.chosen x)
one-verdict size image NotAStore (Wrong b) x y = absurd (wrong-not-none size image b y x)
one-verdict size image NotAStore NotAStore x y = refl
one-verdict size image NotAStore Fault x y = absurd y
one-verdict size image NotAStore Want x y = absurd y
one-verdict size image Fault w x y = absurd x
one-verdict size image Want w x y = absurd x
