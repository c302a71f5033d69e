-- The loop that makes empty lists.
use Rattle.std.proofs.Common.{◌≡◌, ℕ, [], length}
use Rattle.btr_live.specs.Parts.{list_at}
use Rattle.btr_live.proofs.prepare.eight_lists.Given as goal

-- this many lists were made, and they are empty
abbrev pub invariant-loop : goal.invariant-loop
invariant-loop l = record {
  count : length l.lists.items ≡ l.counter;
  empty : (k : ℕ) → list_at l.lists.items k ≡ [];
}
