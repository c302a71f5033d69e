use Rattle.std.specs.List.Sorted.{IsPermutation}
use Rattle.std.proofs.Common.{subst, ◌∙◌, ap}
use Rattle.btr_open.specs.Checkpoint.{roots_among}
use Rattle.btr_open.proofs.StartRoots.{roots-ordered}
use Rattle.btr_open.proofs.roll_roots.roots_below.Goals as goal

pub returns : goal.returns
returns c =
    let same = c.in_ok-roots.ensures ∙ ap (roots_among c.args.limit) (c.deref.ensures.value ∙ c.roll.view_is) in
    roots-ordered c.args.limit c.args.roll.now c.sort_unstable.new.self.items (subst (λ l. IsPermutation l c.sort_unstable.new.self.items) same c.sort_unstable.ensures.permutation)
