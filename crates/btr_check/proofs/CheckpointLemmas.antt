-- Whether a checkpoint is among others, which are looked at one after another.
use Rattle.std.specs.Prelude.{◌≡◌, ℕ, ◌+◌, ◌<◌, ◌≤◌, List, length, map, slice_get, Some}
use Rattle.std.specs.Option.{option_map}
use Rattle.std.proofs.Common.{sym, ◌∙◌, ap, subst, inl, inr, arith}
use Rattle.std.proofs.lemmas.Bool.{cases_lt}
use Rattle.std.proofs.lemmas.Option.{slice_get-map, slice_get_within}
use Rattle.std.proofs.lemmas.List.{length-map}
use Rattle.btr_open.specs.Seen.{Mark}
use Rattle.btr_check.specs.declared.checkpoints.Checkpoint.{Checkpoint}
use Rattle.btr_check.specs.Whole.{HasMark}
use Rattle.btr_check.specs.Checkpoints.{mark_of}

module _ (xs : List Checkpoint) (gate next : ℕ) where
  abbrev pub wanted : Mark
  wanted = record { gate = gate; next = next }

  -- The first n are not the one that is looked for.
  abbrev pub NoneBefore : ℕ → Type 0
  NoneBefore n = (k : ℕ) → k < n → slice_get (map mark_of xs) k ≡ Some wanted → ⊥

  pub none-more : (n : ℕ) (x : Checkpoint) → slice_get xs n ≡ Some x → (mark_of x ≡ wanted → ⊥) → NoneBefore n → NoneBefore (n + 1)
  none-more n x there not before k low at = elim (cases_lt k n) [
    | inl less ↦ before k less at
    | inr ge ↦
        let same : k ≡ n = omega (arith, low, ge) in
        let here : Some (mark_of x) ≡ Some wanted = sym (ap (option_map mark_of) there) ∙ sym (slice_get-map mark_of xs n) ∙ subst (λ j. slice_get (map mark_of xs) j ≡ Some wanted) same at in
        not (some-same (mark_of x) wanted here)
  ]
    where
      some-same : (a b : Mark) → Some a ≡ Some b → a ≡ b
      some-same a b e = cc

  pub none-has : (n : ℕ) → length xs ≤ n → NoneBefore n → HasMark (map mark_of xs) gate next → ⊥
  none-has n long before has =
      let low = slice_get_within (map mark_of xs) has.0 wanted has.1 in before has.0 (omega (arith, low, long, length-map xs mark_of)) has.1
