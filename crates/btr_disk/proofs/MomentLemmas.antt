-- Lemmas on moments, for each crash proof above: how sequences of calls begin, go on, compose and weaken.
use Rattle.std.specs.Prelude.{ℕ, ◌≤◌}
use Rattle.std.proofs.Common.{sym, subst, inl, inr, ⊎_elim, arith}
use Rattle.btr_disk.specs.Bytes.{Image, Same}
use Rattle.btr_disk.specs.Images.{Only, SameImages}
use Rattle.btr_disk.specs.Causes.{Counted}
use Rattle.btr_disk.specs.Moments.{Elapses, Leaves, WroteNothing, IsUnwritten}
use Rattle.btr_disk.proofs.ByteLemmas.{Same-refl, Same-sym, Same-trans, Same-is}
use Rattle.btr_disk.proofs.ImageLemmas.{SameImages-refl, SameImages-trans, Only-along}

-- after a sync that succeeded a crash leaves what it might have left before
synced_back : (contents mid : Image) (old new : Image → Type 0) → old contents → Same contents mid → Only mid new → (c : Image) → new c → old c
synced_back contents mid old new reads same only c left =
    subst old (sym (Same-is contents c (Same-trans contents mid c same (only.each c left)))) reads

module _ {D : Type 0} (calls : D → ℕ) (since : D → ℕ → Image → Type 0) where
  -- before the first call
  pub begins : (d : D) (P : Image → Type 0) → ((c : Image) → since d (calls d) c → P c) → Leaves calls since d d P
  begins d P here = record { later = omega arith; each = here; before = λ t c le left. inl left; keeps = λ t c le left. left }

  -- one call more, after which each image has P
  pub goes_on : (old mid new : D) (P images : Image → Type 0) → Leaves calls since old mid P → Counted (calls mid) (calls new) → Elapses (calls mid) (since mid) (since new) images → ((c : Image) → images c → P c) → Leaves calls since old new P
  goes_on old mid new P images so_far count time here = record {
    later = omega (arith, so_far.later, count.later);
    each = λ c left. ⊎_elim (so_far.each c) (here c) (time.nothing_else (calls old) c so_far.later left);
    before = λ t c le left. ⊎_elim (so_far.before t c le) (λ now. inr (here c now)) (time.nothing_else t c (omega (arith, le, so_far.later)) left);
    keeps = λ t c le left. time.keeps t c (omega (arith, le, so_far.later)) (so_far.keeps t c le left);
  }

  -- one run of calls and then another
  pub composes : (old mid new : D) (P : Image → Type 0) → Leaves calls since old mid P → Leaves calls since mid new P → Leaves calls since old new P
  composes old mid new P first second = record {
    later = omega (arith, first.later, second.later);
    each = λ c left. ⊎_elim (first.each c) (λ p. p) (second.before (calls old) c first.later left);
    before = λ t c le left. ⊎_elim (first.before t c le) (λ p. inr p) (second.before t c (omega (arith, le, first.later)) left);
    keeps = λ t c le left. second.keeps t c (omega (arith, le, first.later)) (first.keeps t c le left);
  }

  pub weakens : (old new : D) (P Q : Image → Type 0) → ((c : Image) → P c → Q c) → Leaves calls since old new P → Leaves calls since old new Q
  weakens old new P Q along leaves = record {
    later = leaves.later;
    each = λ c left. along c (leaves.each c left);
    before = λ t c le left. ⊎_elim (λ past. inl past) (λ p. inr (along c p)) (leaves.before t c le left);
    keeps = leaves.keeps;
  }

  -- what a crash may leave now has P: `counts_now` is the device's law
  pub left_now : (old new : D) (P images : Image → Type 0) → ((t : ℕ) (c : Image) → t ≤ calls new → images c → since new t c) → Leaves calls since old new P → (c : Image) → images c → P c
  left_now old new P images counts_now leaves c left = leaves.each c (counts_now (calls old) c leaves.later left)

  -- calls that write nothing
  module _ (contents : D → Image) (image : D → Image → Type 0) where
    -- none: `only_now` is the device's law
    pub none_written : (d : D) → ((c : Image) → since d (calls d) c → image d c) → WroteNothing calls contents image since d d
    none_written d only_now = record { same = Same-refl (contents d); images = SameImages-refl (image d); moments = begins d (image d) only_now }

    -- one, as a read, or a sync that failed
    pub one_more : (old mid new : D) → WroteNothing calls contents image since old mid → Counted (calls mid) (calls new) → Same (contents mid) (contents new) → SameImages (image mid) (image new) → Elapses (calls mid) (since mid) (since new) (image new) → WroteNothing calls contents image since old new
    one_more old mid new so_far count same images time = record {
      same = Same-trans (contents old) (contents mid) (contents new) so_far.same same;
      images = SameImages-trans (image old) (image mid) (image new) so_far.images images;
      moments = goes_on old mid new (image old) (image new) so_far.moments count time (λ c left. so_far.images.none_new c (images.none_new c left));
    }

    -- some, and then more
    pub nothing_composes : (old mid new : D) → WroteNothing calls contents image since old mid → WroteNothing calls contents image since mid new → WroteNothing calls contents image since old new
    nothing_composes old mid new first second = record {
      same = Same-trans (contents old) (contents mid) (contents new) first.same second.same;
      images = SameImages-trans (image old) (image mid) (image new) first.images second.images;
      moments = composes old mid new (image old) first.moments (weakens mid new (image mid) (image old) first.images.none_new second.moments);
    }

    -- after a run whose images have P
    pub nothing_after : (old mid new : D) (P : Image → Type 0) → Leaves calls since old mid P → ((c : Image) → image mid c → P c) → WroteNothing calls contents image since mid new → Leaves calls since old new P
    nothing_after old mid new P so_far here nothing = composes old mid new P so_far (weakens mid new (image mid) P here nothing.moments)

    -- what only a sync leaves, calls that write nothing leave
    pub Only-kept : (mid new : D) → Only (contents mid) (image mid) → WroteNothing calls contents image since mid new → Only (contents new) (image new)
    Only-kept mid new only nothing =
        Only-along (contents mid) (contents new) (image mid) (image new) (Same-sym (contents mid) (contents new) nothing.same) nothing.images only

    -- a sync that succeeded, and then calls that write nothing: `only_now` and `reads_as_image` are the device's laws
    pub unwritten_synced : (old mid new : D) → ((c : Image) → since old (calls old) c → image old c) → image old (contents old) → Counted (calls old) (calls mid) → Elapses (calls old) (since old) (since mid) (image mid) → Same (contents old) (contents mid) → Only (contents mid) (image mid) → WroteNothing calls contents image since mid new → IsUnwritten calls contents image since old new
    unwritten_synced old mid new now reads counted time same only nothing =
        let back : (c : Image) → image mid c → image old c = synced_back (contents old) (contents mid) (image old) (image mid) reads same only in
        record {
          same = Same-trans (contents old) (contents mid) (contents new) same nothing.same;
          moments = composes old mid new (image old)
              (goes_on old old mid (image old) (image mid) (begins old (image old) now) counted time back)
              (weakens mid new (image mid) (image old) back nothing.moments);
        }
