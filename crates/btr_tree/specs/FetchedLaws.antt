-- The law of fetched nodes as a source, which its ghost member cites.
use Rattle.std.specs.Prelude.{ℕ, ◌≤◌}
use Rattle.std.proofs.Common.{arith}
use Rattle.btr_node.specs.declared.page.NodePage.{NodePage}
use Rattle.btr_tree.specs.declared.fetch.NodeFault.{NodeFault}
use Rattle.btr_tree.specs.declared.fetch.NodeFault.TheVariants.{Failed, Damaged, Want}
use Rattle.btr_tree.specs.Spots.{CountRose, IsFetchCause}

rose_earlier : (a b c : ℕ) → a ≤ b → CountRose b c → CountRose a c
rose_earlier a b c le rose = omega (arith, rose)

-- A refusal that has its cause since some call has it since each earlier one.
pub cause_earlier : (O : Type 0) (has : O → ℕ → NodePage → Type 0) (a b c : ℕ) (e : NodeFault) → a ≤ b → IsFetchCause O has b c e
    → IsFetchCause O has a c e
cause_earlier O has a b c Failed le cause = rose_earlier a b c le cause
cause_earlier O has a b c Want le cause = tt
cause_earlier O has a b c (Damaged named) le cause = cause
