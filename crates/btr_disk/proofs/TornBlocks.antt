-- Which addresses are torn after blocks were marked.
use Rattle.std.specs.Prelude.{◌≡◌, ℕ, ◌+◌, ◌*◌, ◌/◌, ◌<◌, ◌≤◌, Bool, List, slice_get}
use Rattle.std.proofs.Common.{◌∙◌, ⊎_elim, arith}
use Rattle.std.proofs.lemmas.Bool.{cases_lt}
use Rattle.btr_disk.specs.Bytes.{IsOutside}
use Rattle.btr_disk.specs.Torn.{IsTornAt, Tore}
use Rattle.btr_disk.proofs.ByteLemmas.{cases_range}

module _ (first count : ℕ) (old new : List Bool) (tore : Tore first count old new) where
  pub is_torn : (k : ℕ) → 4096 * first ≤ k → k < 4096 * first + 4096 * count → IsTornAt new k
  is_torn k low high = tore.marked (k / 4096) (omega arith) (omega arith)

  pub same_torn : (k : ℕ) → IsOutside (4096 * first) (4096 * count) k → slice_get new (k / 4096) ≡ slice_get old (k / 4096)
  same_torn k outside =
      ⊎_elim (λ lt. tore.below (k / 4096) lt) (λ le. tore.above (k / 4096) (omega (arith, outside (omega arith)))) (cases_lt (k / 4096) first)

  pub more_torn : (k : ℕ) → IsTornAt old k → IsTornAt new k
  more_torn k is =
      ⊎_elim (λ inside. is_torn k inside.0 inside.1) (λ outside. same_torn k outside ∙ is) (cases_range (4096 * first) (4096 * count) k)
