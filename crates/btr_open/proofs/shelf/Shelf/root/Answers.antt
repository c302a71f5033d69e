use Rattle.std.specs.Prelude.{ℕ, slice_get}
use Rattle.std.proofs.Common.{ap, ◌∙◌}
use Rattle.btr_tree.specs.declared.spot.Root.{Root}
use Rattle.btr_open.specs.Shelf.{ShelfValue, rolled_root}
use Rattle.btr_open.proofs.shelf.Shelf.root.Goals as goal

-- The root in this block.
in_block : ℕ → ℕ → ℕ → Root
in_block stream version block = record { block = block; stream = stream; version = version }

pub returns : goal.returns
unfolding in_block
returns c =
    ap (in_block c.args.stream c.args.version) (c.root_block.ensures ∙ ap (λ (s : ShelfValue). rolled_root (slice_get s.roll c.args.stream) c.args.version) c.self.view_is)
