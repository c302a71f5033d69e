-- The one slot that is out with a pass.
use Rattle.std.proofs.Common.{◌≡◌, ℕ, List, [], ◌∷◌, sym, ap, ◌∙◌}
use Rattle.atomic_table.specs.Table.{rest}

module _ {S : Type 0} where
  pub held : (out : List (ℕ × S)) (x : S) → out ≡ (0, x) ∷ [] → out ≡ (0, x) ∷ rest out
  held out x e = e ∙ ap (λ l. (0, x) ∷ rest l) (sym e)

  -- What is out after a write to the slot.
  pub written : (out : List (ℕ × S)) (x y : S) → out ≡ (0, x) ∷ [] → (0, y) ∷ rest out ≡ (0, y) ∷ []
  written out x y e = ap (λ l. (0, y) ∷ rest l) e
