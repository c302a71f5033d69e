use Rattle.std.proofs.Common.{◌≡◌, ◌+◌, ◌<◌, ◌^◌, ◌++◌, ℕ}
use Rattle.btr_rows.specs.Sample.{instant_rows, state_at}
use Rattle.btr_rows.proofs.sample.append_instant.Given as goal

abbrev pub invariant-loop-stream : goal.invariant-loop-stream
invariant-loop-stream l = (l.state < 2 ^ 32)
    × ((number n : ℕ) → l.fn.state ≡ state_at number n → (l.state ≡ state_at number (n + l.stream)) × (l.out.items ≡ l.fn.out.items ++ instant_rows number l.stream l.instant n))
