use Rattle.std.specs.Prelude.{◌≡◌, vec_len}
use Rattle.btr_model_tests.proofs.put_tests.zeros.Given as goal

-- There is a count for each turn so far.
abbrev pub invariant-loop : goal.invariant-loop
invariant-loop l = vec_len l.counts ≡ l.counter
