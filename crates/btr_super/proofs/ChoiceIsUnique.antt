-- The result that a device calls for is the only one.
use Rattle.std.specs.Prelude.{◌≡◌, ◌↔◌, ℕ, ◌+◌, List, Result, Ok, Err, IfOk}
use Rattle.std.proofs.Common.{ap, subst, arith, get_or}
use Rattle.btr_disk.specs.Bytes.{Image, Has}
use Rattle.btr_disk.proofs.ByteLemmas.{Has-from_each}
use Rattle.btr_super.specs.declared.superblock.Super.{Super}
use Rattle.btr_super.specs.declared.choosing.ChooseFault.{ChooseFault}
use Rattle.btr_super.specs.declared.choosing.ChooseFault.TheVariants.{NotAStore, Damaged, Fault}
use Rattle.btr_super.specs.Super.{IsSuper}
use Rattle.btr_super.specs.Choose.{IsChosen, HasNoSuper, IsDamagedSuper}
use Rattle.btr_super.specs.Chosen.{ChoiceIs}
use Rattle.btr_super.proofs.ChoiceLemmas.{one_chosen, chosen_not_none, chosen_not_damaged, none_not_damaged, one_damaged}

module _ (size : ℕ) (image : Image) where
  pub chosen_exactly : (result : Result Super ChooseFault) → ChoiceIs size image result → (s : Super) → (result ≡ Ok s) ↔ IsChosen size image s
  chosen_exactly (Ok r) choice s =
      (λ e. let same : r ≡ s = cc in subst (IsChosen size image) same choice, λ chosen. ap (λ x. Ok x) (one_chosen size image r s choice chosen))
  chosen_exactly (Err NotAStore) choice s = (λ e. absurd (cc), λ chosen. absurd (chosen_not_none size image s chosen choice))
  chosen_exactly (Err (Damaged block)) choice s = (λ e. absurd (cc), λ chosen. absurd (chosen_not_damaged size image s block chosen choice))
  chosen_exactly (Err Fault) choice s = absurd choice

  pub none_exactly : (result : Result Super ChooseFault) → ChoiceIs size image result → (result ≡ Err NotAStore) ↔ HasNoSuper size image
  none_exactly (Ok r) choice = (λ e. absurd (cc), λ none. absurd (chosen_not_none size image r choice none))
  none_exactly (Err NotAStore) choice = (λ e. choice, λ none. λ i. Err NotAStore)
  none_exactly (Err (Damaged block)) choice = (λ e. absurd (cc), λ none. absurd (none_not_damaged size image block none choice))
  none_exactly (Err Fault) choice = absurd choice

  pub damaged_exactly : (result : Result Super ChooseFault) → ChoiceIs size image result → (block : ℕ) → (result ≡ Err (Damaged block)) ↔ IsDamagedSuper size image block
  damaged_exactly (Ok r) choice block = (λ e. absurd (cc), λ damaged. absurd (chosen_not_damaged size image r block choice damaged))
  damaged_exactly (Err NotAStore) choice block = (λ e. absurd (cc), λ damaged. absurd (none_not_damaged size image block choice damaged))
  damaged_exactly (Err (Damaged b)) choice block =
      (λ e. let same : b ≡ block = cc in subst (IsDamagedSuper size image) same choice, λ damaged. ap (λ x. Err (Damaged x)) (one_damaged size image b block choice damaged))
  damaged_exactly (Err Fault) choice block = absurd choice

-- some image has the bytes of the prefix, so that no fault is answered
pub no_fault : (size : ℕ) (prefix : List ℕ) (result : Result Super ChooseFault) → ((image : Image) → Has image 0 prefix → ChoiceIs size image result) → result ≡ Err Fault → ⊥
no_fault size prefix (Ok r) choice e = absurd (cc)
no_fault size prefix (Err NotAStore) choice e = absurd (cc)
no_fault size prefix (Err (Damaged block)) choice e = absurd (cc)
no_fault size prefix (Err Fault) choice e =
    let image : Image = λ k. get_or prefix k 0 in
    choice image (Has-from_each image 0 prefix (λ k lt. let f : 0 + k ≡ k = omega arith in ap (λ n. get_or prefix n 0) f))

-- and the superblock that is chosen keeps the table
pub keeps_table : (size : ℕ) (prefix : List ℕ) (result : Result Super ChooseFault) → ((image : Image) → Has image 0 prefix → ChoiceIs size image result) → IfOk result (IsSuper size)
keeps_table size prefix (Ok r) choice =
    let image : Image = λ k. get_or prefix k 0 in
    (choice image (Has-from_each image 0 prefix (λ k lt. let f : 0 + k ≡ k = omega arith in ap (λ n. get_or prefix n 0) f))).stored.spelled.keeps
keeps_table size prefix (Err e) choice = tt
