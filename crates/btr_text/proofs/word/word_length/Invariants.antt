use Rattle.std.proofs.Common.{◌≡◌, ◌+◌, not, drop, eqb}
use Rattle.std.specs.List.{prefix_len}
use Rattle.btr_text.proofs.word.word_length.Given as goal

abbrev pub invariant-loop-index : goal.invariant-loop-index
invariant-loop-index l =
    l.index + prefix_len (λ b. not (eqb b 32)) (drop l.index l.line) ≡ prefix_len (λ b. not (eqb b 32)) l.line
