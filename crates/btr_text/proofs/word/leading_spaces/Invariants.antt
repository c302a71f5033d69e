use Rattle.std.proofs.Common.{◌≡◌, ◌+◌, drop, eqb}
use Rattle.std.specs.List.{prefix_len}
use Rattle.btr_text.proofs.word.leading_spaces.Given as goal

abbrev pub invariant-loop-index : goal.invariant-loop-index
invariant-loop-index l = l.index + prefix_len (λ b. eqb b 32) (drop l.index l.line) ≡ prefix_len (λ b. eqb b 32) l.line
