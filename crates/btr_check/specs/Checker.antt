-- What a check has seen of a log: the board of its entries, the versions that they make with their roots, and the checkpoints.
use Rattle.std.specs.Prelude.{◌≡◌, ℕ, List, length, map, take, get_or, slice_get}
use Rattle.std.specs.Option.{option_map}
use Rattle.btr_hist.specs.declared.entry.Entry.{Entry}
use Rattle.btr_hist.specs.Machine.{receipt}
use Rattle.btr_streams.specs.Board.{IsBoardOf}
use Rattle.btr_open.specs.Seen.{Seen}
use Rattle.btr_verify.specs.declared.verifying.Made.{Made}
use Rattle.btr_check.specs.declared.checker.Checker.{Checker}
use Rattle.btr_check.specs.Checkpoints.{mark_of}

-- The version that an entry makes after these entries, with this root. An entry that makes a stream makes version 0 of it.
abbrev pub made_by : List Entry → Entry → ℕ → Made
made_by before e root =
    record { stream = (receipt before e).stream; version = (receipt before e).version; root = root }

-- The versions that the entries make, in order, each with the root of its entry.
abbrev pub AreMade : List Entry → List ℕ → List Made → Type 0
AreMade h roots made =
    (n : ℕ) → slice_get made n ≡ option_map (λ e. made_by (take n h) e (get_or roots n 0)) (slice_get h n)

-- The checker has this of a log.
pub record HasSeen (seen : Seen) (c : Checker) : Type 0 where
  pub of : IsBoardOf seen.entries c.board
  pub rooted : length seen.roots ≡ length seen.entries
  pub made : AreMade seen.entries seen.roots c.made.items
  pub marked : map mark_of c.checkpoints.items ≡ seen.marks
