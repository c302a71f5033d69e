-- The lines of an input, and what is so when a source is asked for more of it.
use Rattle.std.specs.Prelude.{◌≡◌, ℕ, Bool, true, false, ◌<◌, ◌≤◌, ◌==◌, List, [], ◌∷◌, ◌++◌, length, All, Result, OnOk, IsErrOf}
use Rattle.std.specs.List.{slice_split}
use Rattle.btr_io.specs.declared.reading.ReadAllFault.{ReadAllFault}
use Rattle.btr_io.specs.declared.reading.ReadAllFault.TheVariants.{Fault}
use Rattle.btr_io.specs.declared.source.Source.{Ghosts}
use Rattle.btr_io.specs.Faults.{CountedTimes, Rose}
use Rattle.btr_lines.specs.Moments.{EachAfter}

-- The pieces of an input between its line feeds. Each line feed ends a piece, and the end of the input ends the last one.
abbrev pub pieces : List ℕ → List (List ℕ)
pieces input = slice_split (λ b. b == 10) input

-- None of these bytes is a line feed.
abbrev pub HasNoFeed : List ℕ → Type 0
HasNoFeed bytes = All (λ b. (b == 10) ≡ false) bytes

-- The pieces after a line: those of the rest if a line feed ended the line, and none if the end of the input ended it.
abbrev pub pieces_after : Bool → List ℕ → List (List ℕ)
pieces_after true rest = pieces rest
pieces_after false rest = []

-- The first line of an input, and what follows it. If there are no more lines, nothing follows.
pub record IsFirstLine (more : Bool) (line input rest : List ℕ) : Type 0 where
  pub first : pieces input ≡ line ∷ pieces_after more rest
  pub end : more ≡ false → rest ≡ []

-- The first line of an input has more bytes than the limit.
abbrev pub IsFirstTooLong : ℕ → List ℕ → Type 0
IsFirstTooLong limit input = (line : List ℕ) × (later : List (List ℕ)) × (pieces input ≡ line ∷ later) × (limit < length line)

-- The count of faults before and after the reading of a line: it stays after an Ok, and a fault is returned only if it rose.
pub record HasReadCause (before now : ℕ) (result : Result Bool ReadAllFault) : Type 0 where
  pub never_falls : before ≤ now
  pub same : OnOk result (now ≡ before)
  pub fault : IsErrOf result Fault → Rose before now

module _ {S B : Type 0} (source : Ghosts S) where
  -- A moment in the reading of a line, right before a call of the source. As many calls were made before it as moments are noted before
  -- it. There is no line feed in what was held at the beginning, nor in what the source has given since.
  pub record IsAskedAt (held : List ℕ) (given : S) (beside : B) (earlier : List (S × B)) (moment : S × B) : Type 0 where
    pub counted : CountedTimes (length earlier) (source.calls given) (source.calls moment.0)
    pub same : moment.1 ≡ beside
    pub no_line : HasNoFeed held
    pub part : source.is_observable → (part : List ℕ) × HasNoFeed part × (source.left given ≡ part ++ source.left moment.0)

  -- The moments that were noted in the reading of a line: one for each call of the source.
  pub record Asks (held : List ℕ) (given rest : S) (beside : B) (before after : List (S × B)) : Type 0 where
    pub moments : List (S × B)
    pub noted : after ≡ before ++ moments
    pub counted : CountedTimes (length moments) (source.calls given) (source.calls rest)
    pub each : EachAfter (IsAskedAt held given beside) moments
