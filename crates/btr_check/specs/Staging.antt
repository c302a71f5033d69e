-- What a check finds out of the next entry of a log.
use Rattle.std.specs.Prelude.{List, Option, MatchOption}
use Rattle.btr_hist.specs.declared.entry.Entry.{Entry}
use Rattle.btr_hist.specs.Legal.{Allowed}
use Rattle.btr_streams.specs.declared.board.Staged.{Staged}
use Rattle.btr_streams.specs.Stage.{IsStagedEntry}

-- The entry is allowed after these entries, and was staged; or it is not allowed.
abbrev pub IsStagedIfAllowed : List Entry → Entry → Option Staged → Type 0
IsStagedIfAllowed h e staged = MatchOption staged (Allowed h e → ⊥) (λ s. Allowed h e × IsStagedEntry h e s)
