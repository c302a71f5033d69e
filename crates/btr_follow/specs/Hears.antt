-- What a follower of a history answers to a frame, and what its history is then.
use Rattle.std.specs.Prelude.{◌≡◌, ℕ, ◌+◌, ◌<◌, ◌≤◌, List, [], ◌∷◌, ◌++◌, length}
use Rattle.btr_hist.specs.declared.entry.Entry.{Entry}
use Rattle.btr_hist.specs.Legal.{Allowed}
use Rattle.btr_entry.specs.Grammar.{IsEntry}
use Rattle.btr_follow.specs.declared.frame.Frame.{Frame}
use Rattle.btr_follow.specs.declared.heard.Heard.{Heard}
use Rattle.btr_follow.specs.declared.heard.Heard.TheVariants.{Stale, Early, Garbled, Foreign, Taken}

-- The frame has the number of the next entry.
abbrev pub IsNextFrame : List Entry → Frame → Type 0
IsNextFrame h f = f.number ≡ length h + 1

-- The bytes spell no entry.
abbrev pub SpellsNothing : List ℕ → Type 0
SpellsNothing bytes = (e : Entry) → IsEntry bytes e → ⊥

-- The frame has the number of the next entry, and its bytes spell this entry.
pub record Brings (h : List Entry) (f : Frame) (e : Entry) : Type 0 where
  pub next : IsNextFrame h f
  pub spelled : IsEntry f.bytes e

-- It has the number of the next entry, and its bytes spell an entry that is not allowed.
pub record BringsForeign (h : List Entry) (f : Frame) : Type 0 where
  pub entry : Entry
  pub brings : Brings h f entry
  pub foreign : Allowed h entry → ⊥

-- It has the number of the next entry, and its bytes spell an entry that is allowed, with which the history is this one.
pub record BringsAllowed (h : List Entry) (f : Frame) (after : List Entry) : Type 0 where
  pub entry : Entry
  pub brings : Brings h f entry
  pub allowed : Allowed h entry
  pub grown : after ≡ h ++ entry ∷ []

-- A follower of this history answers this to the frame, and then follows the history `after`. No two answers have the same cause: so each
-- is the answer exactly if it has its cause.
abbrev pub Hears : List Entry → Frame → Heard → List Entry → Type 0
Hears h f (Stale entries) after = (f.number ≤ length h) × (entries ≡ length h) × (after ≡ h)
Hears h f (Early entries) after = (length h + 1 < f.number) × (entries ≡ length h) × (after ≡ h)
Hears h f Garbled after = IsNextFrame h f × SpellsNothing f.bytes × (after ≡ h)
Hears h f Foreign after = BringsForeign h f × (after ≡ h)
Hears h f (Taken number) after = (number ≡ f.number) × BringsAllowed h f after

-- The frame is of the follower's leader, as far as the answer says.
abbrev pub IsOfLeader : Heard → Type 0
IsOfLeader (Stale entries) = Unit {0}
IsOfLeader (Early entries) = Unit {0}
IsOfLeader Garbled = ⊥
IsOfLeader Foreign = ⊥
IsOfLeader (Taken number) = Unit {0}
