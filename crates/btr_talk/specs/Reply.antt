-- One reply: what it does to the sink and the desk, and which moments are noted.
use Rattle.std.specs.Prelude.{◌≡◌, ◌⊎◌, ℕ, ◌≤◌, List, [], ◌∷◌, ◌++◌, length, take}
use Rattle.btr_io.specs.declared.sink.Sink.{Ghosts as SinkGhosts}
use Rattle.btr_io.specs.Faults.{Rose}
use Rattle.btr_talk.specs.declared.desk.Desk.{Ghosts as DeskGhosts}
use Rattle.btr_talk.specs.Done.{DoesLine, MayLoseReply}
use Rattle.btr_talk.specs.declared.turns.TalkEnd.{TalkEnd}
use Rattle.btr_talk.specs.declared.turns.TalkEnd.TheVariants.{NoSink, OutOfMemory}

module _ {K X : Type 0} (sink : SinkGhosts K) (desk : DeskGhosts X) where
  -- The line was done, and then its reply was written and passed on.
  pub record Replies (line text : List ℕ) (before after : K) (old new : X) (moments longer : List (K × X)) : Type 0 where
    pub does : DoesLine desk.did line text old new
    pub goes : desk.goes_on old new
    pub noted : longer ≡ moments ++ (before, new) ∷ (after, new) ∷ []
    pub written : sink.is_observable → sink.written after ≡ sink.written before ++ text
    pub passed : sink.is_observable → sink.passed_on after ≡ sink.written after
    pub no_fault : sink.faults after ≡ sink.faults before

  -- The line was done, and the sink failed.
  pub record StopsAtSink (line : List ℕ) (before after : K) (old new : X) (moments longer : List (K × X)) : Type 0 where
    pub text : List ℕ
    pub does : DoesLine desk.did line text old new
    pub goes : desk.goes_on old new
    pub noted : longer ≡ moments ++ (before, new) ∷ []
    pub part : sink.is_observable → (n : ℕ) × (n ≤ length text) × (sink.written after ≡ sink.written before ++ take n text)
    pub later : sink.faults before ≤ sink.faults after
    pub rose : Rose (sink.faults before) (sink.faults after)

  -- Memory ran out: the line was not done, or its reply is lost.
  pub record StopsAtDesk (line : List ℕ) (before after : K) (old new : X) (moments longer : List (K × X)) : Type 0 where
    pub lost : MayLoseReply desk.did line old new
    pub goes : desk.goes_on old new
    pub noted : longer ≡ moments
    pub unwritten : after ≡ before

  abbrev pub StopsReply : List ℕ → K → K → X → X → List (K × X) → List (K × X) → TalkEnd → Type 0
  StopsReply line before after old new moments longer end =
      ((end ≡ NoSink) × StopsAtSink line before after old new moments longer)
      ⊎ ((end ≡ OutOfMemory) × StopsAtDesk line before after old new moments longer)
