-- The models of the source and the sink in memory: their bytes, and which of their calls fail.
use Rattle.std.specs.Prelude.{ℕ, List, ◌≡◌}

-- The number of calls made so far, and those that fail.
pub record CallRecord : Type 0 where
  -- The numbers of the calls that fail, from 0.
  pub failing : List ℕ
  -- The number of calls made, which is the number of the next one.
  pub made : ℕ
  -- The number of faults counted.
  pub faults : ℕ

-- A source in memory.
pub record SourceRecord : Type 0 where
  -- The bytes that are left.
  pub left : List ℕ
  -- The most bytes that one call gives.
  pub piece : ℕ
  pub calls : CallRecord

-- A sink in memory.
pub record SinkRecord : Type 0 where
  -- The bytes that were written.
  pub written : List ℕ
  -- The most bytes that it holds.
  pub room : ℕ
  -- The most bytes that one call takes.
  pub piece : ℕ
  pub calls : CallRecord

-- No call of a sink in memory changes its settings.
pub record KeepsSettings (before now : SinkRecord) : Type 0 where
  pub room : now.room ≡ before.room
  pub piece : now.piece ≡ before.piece
  pub failing : now.calls.failing ≡ before.calls.failing
