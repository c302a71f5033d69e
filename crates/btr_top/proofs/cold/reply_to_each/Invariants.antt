-- The loop over the lines that are answered from a shelf.
use Rattle.std.proofs.Common.{◌≡◌, ◌++◌, ◌≤◌}
use Rattle.btr_top.specs.Cold.{HasRepliedCold, RepliesCold}
use Rattle.btr_top.proofs.cold.reply_to_each.Given as goal

-- the lines up to here were answered, and the others are left
abbrev pub invariant-loop-line : goal.invariant-loop-line
invariant-loop-line g l = record {
  split : l.yielded ++ l.line-iterator.rest.items ≡ l.fn.lines.items;
  has_replied : HasRepliedCold (RepliesCold g.N.Nodes.is_observable (λ o. g.N.Nodes.IsPage (g.N.Nodes.contents l.fn.nodes)) l.fn.shelf) (g.N.Nodes.faults l.fn.nodes) (g.N.Nodes.faults l.nodes) l.yielded l.transcript;
  same : g.N.Nodes.contents l.nodes ≡ g.N.Nodes.contents l.fn.nodes;
  rises : g.N.Nodes.faults l.fn.nodes ≤ g.N.Nodes.faults l.nodes;
}
