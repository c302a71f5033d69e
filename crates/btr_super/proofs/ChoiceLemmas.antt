-- Lemmas on choosing: at most one superblock is chosen, and if one is, nothing is damaged and there is a store.
use Rattle.std.specs.Prelude.{◌≡◌, ℕ, ◌+◌, ◌-◌, ◌*◌, ◌<◌, ◌≤◌}
use Rattle.std.proofs.Common.{sym, ◌∙◌, ap, subst, arith, ⊎_elim}
use Rattle.std.proofs.lemmas.Bool.{cases_eq}
use Rattle.btr_disk.specs.Bytes.{Image, Has}
use Rattle.btr_disk.proofs.ByteLemmas.{Has-one}
use Rattle.btr_super.specs.declared.superblock.Super.{Super}
use Rattle.btr_super.specs.Super.{super_bytes}
use Rattle.btr_super.proofs.SuperLemmas.{super_bytes-injective, length-super_bytes, FitsFields-from_table}
use Rattle.btr_super.specs.Choose.{IsOpenAt, Spells, HasSuper, IsChosen, HasNoSuper, IsBroken, HasEqualSeq, IsDamagedSuper}

module _ (size : ℕ) (image : Image) where
  -- one side has one superblock at most
  pub one_of_side : (a b : Super) → HasSuper size image a → HasSuper size image b → a.side ≡ b.side → a ≡ b
  one_of_side a b first second sides =
      let there : Has image (4096 * (2 * b.side + 1)) (super_bytes a) = subst (λ side. Has image (4096 * (2 * side + 1)) (super_bytes a)) sides first.spelled.stored in
      super_bytes-injective a b (FitsFields-from_table size a first.spelled.keeps) (FitsFields-from_table size b second.spelled.keeps) sides
      (Has-one image (4096 * (2 * b.side + 1)) (super_bytes a) (super_bytes b) (length-super_bytes a ∙ sym (length-super_bytes b)) there second.spelled.stored)

  opened_on : (a b : ℕ) → a ≡ b → IsOpenAt size image (2 * a) → IsOpenAt size image (2 * b)
  opened_on a b same opened = subst (λ side. IsOpenAt size image (2 * side)) same opened

  -- the one on the other side has a lesser number
  pub chosen_newest : (s t : Super) → IsChosen size image s → HasSuper size image t → t.side ≡ 1 - s.side → t.seq < s.seq
  chosen_newest s t chosen second sides =
      let found = chosen.newest (opened_on t.side (1 - s.side) sides second.opened) in
      let same : found.0 ≡ t = one_of_side found.0 t found.1 second (found.2 ∙ sym sides) in
      subst (λ x. x.seq < s.seq) same found.3

  pub one_chosen : (s t : Super) → IsChosen size image s → IsChosen size image t → s ≡ t
  one_chosen s t first second =
      ⊎_elim
      (λ same. one_of_side s t first.stored second.stored same)
      (λ apart.
      let a : s.side ≤ 1 = first.stored.spelled.keeps.has_side in
      let b : t.side ≤ 1 = second.stored.spelled.keeps.has_side in
      let ne : s.side ≡ t.side → ⊥ = apart in
      let p : t.seq < s.seq = chosen_newest s t first second.stored (omega (arith, a, b, ne)) in
      let q : s.seq < t.seq = chosen_newest t s second first.stored (omega (arith, a, b, ne)) in
      absurd (omega arith))
      (cases_eq s.side t.side)

  pub chosen_not_none : (s : Super) → IsChosen size image s → HasNoSuper size image → ⊥
  chosen_not_none s chosen none =
      let a : s.side ≤ 1 = chosen.stored.spelled.keeps.has_side in
      ⊎_elim
      (λ zero_side. none.first_closed (opened_on s.side 0 zero_side chosen.stored.opened))
      (λ apart.
      let ne : s.side ≡ 0 → ⊥ = apart in
      none.second_closed (opened_on s.side 1 (omega (arith, a, ne)) chosen.stored.opened))
      (cases_eq s.side 0)

  pub chosen_not_broken : (s : Super) (side : ℕ) → side ≤ 1 → IsChosen size image s → IsBroken size image side → ⊥
  chosen_not_broken s side le chosen broken =
      let a : s.side ≤ 1 = chosen.stored.spelled.keeps.has_side in
      ⊎_elim
      (λ same. broken.unspelled s same (subst (λ x. Spells size image (2 * x + 1) s) same chosen.stored.spelled))
      (λ apart.
      let ne : s.side ≡ side → ⊥ = apart in
      let e : side ≡ 1 - s.side = omega (arith, a, le, ne) in
      let found = chosen.newest (opened_on side (1 - s.side) e broken.opened) in
      let other_side : found.0.side ≡ side = found.2 ∙ sym e in
      broken.unspelled found.0 other_side (subst (λ x. Spells size image (2 * x + 1) found.0) other_side found.1.spelled))
      (cases_eq s.side side)

  pub chosen_not_equal : (s a b : Super) → IsChosen size image s → HasEqualSeq size image a b → ⊥
  chosen_not_equal s a b chosen equal =
      let side : s.side ≤ 1 = chosen.stored.spelled.keeps.has_side in
      ⊎_elim
      (λ zero_side.
      let same : s ≡ a = one_of_side s a chosen.stored equal.first (zero_side ∙ sym equal.sides.0) in
      let less : b.seq < s.seq = chosen_newest s b chosen equal.second (omega (arith, zero_side, equal.sides.1)) in
      let seqs : s.seq ≡ a.seq = ap (λ x. x.seq) same in
      absurd (omega (arith, equal.equal)))
      (λ apart.
      let ne : s.side ≡ 0 → ⊥ = apart in
      let one_side : s.side ≡ 1 = omega (arith, side, ne) in
      let same : s ≡ b = one_of_side s b chosen.stored equal.second (one_side ∙ sym equal.sides.1) in
      let less : a.seq < s.seq = chosen_newest s a chosen equal.first (omega (arith, one_side, equal.sides.0)) in
      let seqs : s.seq ≡ b.seq = ap (λ x. x.seq) same in
      absurd (omega (arith, equal.equal)))
      (cases_eq s.side 0)

  pub chosen_not_damaged : (s : Super) (block : ℕ) → IsChosen size image s → IsDamagedSuper size image block → ⊥
  chosen_not_damaged s block chosen damaged =
      ⊎_elim
      (λ first. chosen_not_broken s 0 (omega arith) chosen first.1)
      (λ second. ⊎_elim (λ broken. chosen_not_broken s 1 (omega arith) chosen broken) (λ equal. chosen_not_equal s equal.0 equal.1 chosen equal.2) second.2)
      damaged

  pub none_not_damaged : (block : ℕ) → HasNoSuper size image → IsDamagedSuper size image block → ⊥
  none_not_damaged block none damaged =
      ⊎_elim
      (λ first. none.first_closed first.1.opened)
      (λ second. ⊎_elim (λ broken. none.second_closed broken.opened) (λ equal. none.first_closed (opened_on equal.0.side 0 equal.2.sides.0 equal.2.first.opened)) second.2)
      damaged

  pub one_damaged : (b c : ℕ) → IsDamagedSuper size image b → IsDamagedSuper size image c → b ≡ c
  one_damaged b c first second =
      ⊎_elim
      (λ x. ⊎_elim (λ y. x.0 ∙ sym y.0) (λ y. absurd (y.1 x.1)) second)
      (λ x. ⊎_elim (λ y. absurd (x.1 y.1)) (λ y. x.0 ∙ sym y.0) second)
      first
