-- What holds of all devices and of all histories.
use Rattle.std.specs.Prelude.{◌≡◌, ◌↔◌, ℕ, List, [], ◌∷◌, None}
use Rattle.btr_disk.specs.Bytes.{Image}
use Rattle.btr_super.specs.Choose.{HasNoSuper}
use Rattle.btr_super.specs.Format.{IsEmptyStore}
use Rattle.btr_hist.specs.declared.entry.Entry.{Entry}
use Rattle.btr_hist.specs.Legal.{first_some, rejection, Follows}
use Rattle.btr_engine.specs.Holds.{HoldsHistory, HoldsHistoryTo}
use Rattle.btr_streams.specs.Outline.{outline_of, refusal, points_refusal, MayFollow}
use Rattle.btr_open.specs.Damage.{IsDamaged}

-- A device holds at most one history.
abbrev pub OneHistoryIsHeld : Type 0
OneHistoryIsHeld =
    (size : ℕ) (image : Image) (h k : List Entry) → HoldsHistory size image h → HoldsHistory size image k → h ≡ k

-- A device that holds a history has a store, and no block of it breaks the format.
abbrev pub HeldIsSound : Type 0
HeldIsSound =
    (size block : ℕ) (image : Image) (h : List Entry) → HoldsHistory size image h
    → (HasNoSuper size image → ⊥) × (IsDamaged size image block → ⊥)

-- An empty store, as it is made, holds the history without entries, and its log ends at its first gate.
abbrev pub EmptyStoreHoldsNothing : Type 0
EmptyStoreHoldsNothing = (size blocks : ℕ) (image : Image) → IsEmptyStore size blocks image → HoldsHistoryTo size image blocks 4 []

-- An entry is rejected after a history for the reason that the outline of the history shows, or else for the one that the points
-- show. So it may follow the history exactly if it is not rejected.
abbrev pub OutlineAndPointsDecide : Type 0
OutlineAndPointsDecide =
    (h : List Entry) (e : Entry) → Follows h
    → (rejection h e ≡ first_some (refusal (outline_of h) e ∷ points_refusal h e ∷ [])) × (MayFollow h e ↔ (rejection h e ≡ None))
