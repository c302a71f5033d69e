-- What a desk does with one line.
use Rattle.std.specs.Prelude.{◌⊎◌, ℕ, List, [], ◌∷◌, ◌++◌}

-- `did begun now lines texts`: from `begun` to `now` these lines were done, and these are their replies.
module _ {X : Type 0} (did : X → X → List (List ℕ) → List (List ℕ) → Type 0) where
  -- One line more was done, with this reply.
  abbrev pub DoesLine : List ℕ → List ℕ → X → X → Type 0
  DoesLine line text old new =
      (begun : X) (lines texts : List (List ℕ)) → did begun old lines texts → did begun new (lines ++ line ∷ []) (texts ++ text ∷ [])

  -- The line was not done, or it was done and its reply is lost.
  abbrev pub MayLoseReply : List ℕ → X → X → Type 0
  MayLoseReply line old new =
      (begun : X) (lines texts : List (List ℕ)) → did begun old lines texts
      → did begun new lines texts ⊎ ((text : List ℕ) × did begun new (lines ++ line ∷ []) (texts ++ text ∷ []))
