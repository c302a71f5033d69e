-- What a crash leaves while a superblock is replaced: which superblock is chosen in an image that changed on one side.
use Rattle.std.specs.Prelude.{◌≡◌, ℕ, ◌+◌, ◌-◌, ◌*◌, ◌<◌, ◌≤◌}
use Rattle.std.proofs.Common.{sym, ◌∙◌, subst, arith, inl, inr, ⊎_elim}
use Rattle.btr_disk.specs.Bytes.{Image, Has, SameBut}
use Rattle.btr_disk.specs.Images.{Only}
use Rattle.btr_disk.specs.Gate.{IsOpen, IsClosed, mark, gate_block}
use Rattle.btr_disk.proofs.ByteLemmas.{Has-along, SameBut-at, SameBut-refl, SameBut-trans, SameBut-wider, SameBut-from_Same}
use Rattle.btr_disk.proofs.GateLemmas.{open_gate_is_open}
use Rattle.btr_super.specs.declared.superblock.Super.{Super}
use Rattle.btr_super.specs.Super.{super_bytes, IsSuper}
use Rattle.btr_super.specs.Choose.{IsOpenAt, HasSuper, IsChosen}
use Rattle.btr_super.specs.Replace.{IsFollowed, HasOnePrefix, IsButBlock, IsButSide, IsClosing, IsReplacing}
use Rattle.btr_super.proofs.SuperLemmas.{length-super_bytes}
use Rattle.btr_super.proofs.Writing.{Has-decides}

-- Both images have the same bytes in the two blocks of this side.
abbrev IsSameSide : ℕ → Image → Image → Type 0
IsSameSide side old c = (k : ℕ) → 8192 * side ≤ k → k < 8192 * side + 8192 → c k ≡ old k

-- Both images have the same bytes in the body of this side.
abbrev IsSameBody : ℕ → Image → Image → Type 0
IsSameBody side old c = (k : ℕ) → 8192 * side + 4096 ≤ k → k < 8192 * side + 8192 → c k ≡ old k

-- A closed gate stays closed if its first bytes are as they were.
closed_along : (old c : Image) (block : ℕ) → ((k : ℕ) → 4096 * block ≤ k → k < 4096 * block + 8 → c k ≡ old k) → IsClosed old block → IsClosed c block
closed_along old c block agree closed opened =
    closed (Has-along c old (4096 * block) mark opened (λ k low high. sym (agree k low high)))

module _ (size : ℕ) (old c : Image) where
  -- A superblock whose body is as it was is there if its gate is open.
  super_opened : (s : Super) → IsSameBody s.side old c → IsOpenAt size c (2 * s.side) → HasSuper size old s → HasSuper size c s
  super_opened s agree opened has = record {
    opened = opened;
    spelled = record {
      has_block = has.spelled.has_block;
      stored = Has-along old c (4096 * (2 * s.side + 1)) (super_bytes s) has.spelled.stored
          (λ k low high. agree k (omega arith) (omega (arith, high, length-super_bytes s)));
      keeps = has.spelled.keeps;
    };
  }

  -- A superblock is there if its side is as it was.
  super_along : (s : Super) → IsSameSide s.side old c → HasSuper size old s → HasSuper size c s
  super_along s agree has =
      super_opened s (λ k low high. agree k (omega (arith, low)) high)
      (has.opened.0, Has-along old c (4096 * (2 * s.side)) mark has.opened.1 (λ k low high. agree k (omega (arith, low)) (omega (arith, high)))) has

-- A superblock is chosen if the other gate is closed.
chosen_alone : (size : ℕ) (c : Image) (s : Super) → HasSuper size c s → IsClosed c (2 * (1 - s.side)) → IsChosen size c s
chosen_alone size c s has closed = record { stored = has; newest = λ opened. absurd (closed opened.1) }

-- What stands after the other gate was closed: the images of before, of which some may differ in that block.
pub record IsShut (side : ℕ) (old : Image) (images : Image → Type 0) (mid : Image) (left : Image → Type 0) : Type 0 where
  pub closed : IsClosed mid (2 * side)
  pub but : SameBut (4096 * (2 * side)) 4096 old mid
  pub one : HasOnePrefix mid left
  pub from : (x : Image) → left x → IsButSide side images x

-- What stands after the body of the next superblock was synced, with its gate closed.
pub record IsWritten (next : Super) (old : Image) (images : Image → Type 0) (mid : Image) (left : Image → Type 0) : Type 0 where
  pub closed : IsClosed mid (2 * next.side)
  pub body : Has mid (4096 * (2 * next.side + 1)) (super_bytes next)
  pub but : SameBut (8192 * next.side) 8192 old mid
  pub only : Only mid left
  pub from : (x : Image) → left x → IsButSide next.side images x

-- One block of a side changed in images that differ in that side already.
pub one_block : (side block : ℕ) (images left : Image → Type 0) → 2 * side ≤ block → block ≤ 2 * side + 1 → ((x : Image) → left x → IsButSide side images x) → (c : Image) → IsButBlock block left c → IsButSide side images c
one_block side block images left low high from c changed =
    let base = from changed.0 changed.1 in (
      base.0,
      base.1,
      SameBut-trans (8192 * side) 8192 base.0 changed.0 c base.2
          (SameBut-wider (4096 * block) 4096 (8192 * side) 8192 changed.0 c (omega (arith, low)) (omega (arith, high)) changed.2),
    )

-- An image itself.
pub itself : (side : ℕ) (images : Image → Type 0) (x : Image) → images x → IsButSide side images x
itself side images x left = (x, left, SameBut-refl (8192 * side) 8192 x)

pub closing_from : (side : ℕ) (old : Image) (images : Image → Type 0) (c : Image) → IsClosing (2 * side) old images c → IsButSide side images c
closing_from side old images c =
    ⊎_elim (itself side images c) (λ torn. one_block side (2 * side) images images (omega arith) (omega arith) (itself side images) c torn.1)

-- The body of the next superblock was written and synced, after its gate was closed.
pub body_written : (next : Super) (old : Image) (images : Image → Type 0) (mid : Image) (left : Image → Type 0) (late : Image) (left_late : Image → Type 0) → IsShut next.side old images mid left → SameBut (4096 * (2 * next.side + 1)) 4096 mid late → Has late (4096 * (2 * next.side + 1)) (super_bytes next) → Only late left_late → ((x : Image) → left_late x → IsButBlock (2 * next.side + 1) left x) → IsWritten next old images late left_late
body_written next old images mid left late left_late shut but body only changed = record {
  closed = closed_along mid late (2 * next.side) (λ k low high. but.below k (omega (arith, high))) shut.closed;
  body = body;
  but = SameBut-trans (8192 * next.side) 8192 old mid late
      (SameBut-wider (4096 * (2 * next.side)) 4096 (8192 * next.side) 8192 old mid (omega arith) (omega arith) shut.but)
      (SameBut-wider (4096 * (2 * next.side + 1)) 4096 (8192 * next.side) 8192 mid late (omega arith) (omega arith) but);
  only = only;
  from = λ x there. one_block next.side (2 * next.side + 1) images left (omega arith) (omega arith) shut.from x (changed x there);
}

module _ (size : ℕ) (old : Image) (images : Image → Type 0) (s next : Super) (follows : IsFollowed size old s next) where
  side_of : s.side ≤ 1
  side_of = follows.chosen.stored.spelled.keeps.has_side

  -- The old superblock is there in an image that changed on the other side.
  old_there : (c : Image) → IsSameSide s.side old c → HasSuper size c s
  old_there c agree = super_along size old c s agree follows.chosen.stored

  -- It is chosen if the gate of the next one is closed.
  old_if_shut : (c : Image) → IsSameSide s.side old c → IsClosed c (2 * next.side) → IsChosen size c s
  old_if_shut c agree closed =
      chosen_alone size c s (old_there c agree) (subst (λ side. IsClosed c (2 * side)) follows.other closed)

  -- It is chosen if the gate of the next one is open as before, since the body after it is as before.
  old_if_gate : (c : Image) → IsSameSide s.side old c → IsSameBody next.side old c → (IsOpen c (2 * next.side) → IsOpen old (2 * next.side)) → IsChosen size c s
  old_if_gate c agree body back = record {
    stored = old_there c agree;
    newest = λ opened.
        let was : IsOpen old (2 * (1 - s.side)) =
        subst (λ side. IsOpen old (2 * side)) follows.other (back (subst (λ side. IsOpen c (2 * side)) (sym follows.other) opened.1)) in
        let found = follows.chosen.newest (opened.0, was) in
        let here : IsOpenAt size c (2 * found.0.side) = subst (λ side. IsOpenAt size c (2 * side)) (sym found.2) opened in
        let same : IsSameBody found.0.side old c = subst (λ side. IsSameBody side old c) (follows.other ∙ sym found.2) body in
        (found.0, super_opened size old c found.0 same here found.1, found.2, found.3);
  }

  -- The next one is chosen if its gate is open and its body written.
  next_if_open : (c : Image) → IsSuper size next → IsSameSide s.side old c → IsOpen c (2 * next.side) → Has c (4096 * (2 * next.side + 1)) (super_bytes next) → IsChosen size c next
  next_if_open c keeps agree opened body = record {
    stored = record {
      opened = (omega (arith, keeps.has_side, keeps.blocks_from, keeps.inside), opened);
      spelled = record { has_block = omega (arith, keeps.has_side, keeps.blocks_from, keeps.inside); stored = body; keeps = keeps };
    };
    newest = λ other. (s, old_there c agree, omega (arith, side_of, follows.other), follows.later);
  }

  -- The gate of the next one is being closed.
  pub while_closing : HasOnePrefix old images → (c : Image) → IsClosing (2 * next.side) old images c → IsReplacing size images s next c
  while_closing one c closing = record {
    elsewhere = closing_from next.side old images c closing;
    either = inl (⊎_elim
        (λ left.
        let agree : (k : ℕ) → k < 16384 → c k ≡ old k = one c left in
        old_if_gate c (λ k low high. agree k (omega (arith, high, side_of))) (λ k low high. agree k (omega (arith, high, side_of, follows.other)))
        (λ opened. Has-along c old (4096 * (2 * next.side)) mark opened (λ k low high. sym (agree k (omega (arith, high, side_of, follows.other))))))
        (λ torn.
        let base = torn.1.0 in
        let but : SameBut (4096 * (2 * next.side)) 4096 base c = torn.1.2 in
        let agree : (k : ℕ) → k < 16384 → base k ≡ old k = one base torn.1.1 in
        old_if_gate c
        (λ k low high. SameBut-at (4096 * (2 * next.side)) 4096 base c but k (λ le. omega (arith, low, high, side_of, follows.other, le)) ∙ agree k (omega (arith, high, side_of)))
        (λ k low high. but.above k (omega (arith, low)) ∙ agree k (omega (arith, high, side_of, follows.other)))
        (λ opened. torn.0))
        closing);
  }

  -- Its body is being written.
  pub while_body : (mid : Image) (left : Image → Type 0) → IsShut next.side old images mid left → (c : Image) → IsButBlock (2 * next.side + 1) left c → IsReplacing size images s next c
  while_body mid left shut c changed =
      let base = changed.0 in
      let agree : (k : ℕ) → k < 16384 → base k ≡ mid k = shut.one base changed.1 in
      record {
        elsewhere = one_block next.side (2 * next.side + 1) images left (omega arith) (omega arith) shut.from c changed;
        either = inl (old_if_shut c
            (λ k low high.
            SameBut-at (4096 * (2 * next.side + 1)) 4096 base c changed.2 k (λ le. omega (arith, low, high, side_of, follows.other, le))
            ∙ agree k (omega (arith, high, side_of))
            ∙ SameBut-at (4096 * (2 * next.side)) 4096 old mid shut.but k (λ le. omega (arith, low, high, side_of, follows.other, le)))
            (closed_along mid c (2 * next.side)
            (λ k low high. changed.2.below k (omega (arith, high)) ∙ agree k (omega (arith, high, side_of, follows.other))) shut.closed));
      }

  module _ (keeps : IsSuper size next) (mid : Image) (left : Image → Type 0) (written : IsWritten next old images mid left) where
    -- The other side is as it was in an image that differs in the gate of the next one.
    other_side : (c : Image) → SameBut (4096 * (2 * next.side)) 4096 mid c → IsSameSide s.side old c
    other_side c but k low high =
        SameBut-at (4096 * (2 * next.side)) 4096 mid c but k (λ le. omega (arith, low, high, side_of, follows.other, le))
        ∙ SameBut-at (8192 * next.side) 8192 old mid written.but k (λ le. omega (arith, low, high, side_of, follows.other, le))

    body_there : (c : Image) → SameBut (4096 * (2 * next.side)) 4096 mid c → Has c (4096 * (2 * next.side + 1)) (super_bytes next)
    body_there c but = Has-along mid c (4096 * (2 * next.side + 1)) (super_bytes next) written.body (λ k low high. but.above k (omega (arith, low)))

    -- Its gate is being opened.
    pub while_gate : (c : Image) → IsButBlock (2 * next.side) left c → IsReplacing size images s next c
    while_gate c changed =
        let but : SameBut (4096 * (2 * next.side)) 4096 mid c =
        SameBut-trans (4096 * (2 * next.side)) 4096 mid changed.0 c
        (SameBut-from_Same (4096 * (2 * next.side)) 4096 mid changed.0 (written.only.each changed.0 changed.1)) changed.2 in
        record {
          elsewhere = one_block next.side (2 * next.side) images left (omega arith) (omega arith) written.from c changed;
          either = ⊎_elim
              (λ opened. inr (next_if_open c keeps (other_side c but) opened (body_there c but)))
              (λ closed. inl (old_if_shut c (other_side c but) closed))
              (Has-decides c (4096 * (2 * next.side)) mark);
        }

    -- It is open.
    pub next_chosen : (c : Image) → SameBut (4096 * (2 * next.side)) 4096 mid c → Has c (4096 * (2 * next.side)) gate_block → IsChosen size c next
    next_chosen c but gate = next_if_open c keeps (other_side c but) (open_gate_is_open c (2 * next.side) gate) (body_there c but)
