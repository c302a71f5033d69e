use Rattle.std.specs.Prelude.{ℕ, ◌<◌, IfSome, slice_get}
use Rattle.btr_node.specs.Page.{slots_of_page}
use Rattle.btr_verify.specs.Judging.{IsMarkedRight}
use Rattle.btr_verify.proofs.judging.first_not_right.Given as goal

-- The children of the slots so far are right.
abbrev pub invariant-loop-slot : goal.invariant-loop-slot
invariant-loop-slot l = (i : ℕ) → i < l.slot-index → IfSome (slice_get (slots_of_page l.page) i) (IsMarkedRight l.marks)
