use Rattle.std.proofs.Common.{◌≡◌, sym, ◌∙◌, arith, to_z, of_z, w64}
use Rattle.std.proofs.lemmas.Int.{to_z-of_z}
use Rattle.btr_tree.specs.History.{bag}
use Rattle.btr_window.proofs.Ranges.{range-no_windows}
use Rattle.btr_window.proofs.window_walk.windows.Goals as goal

pub returns-then-to-range : goal.returns-then-to-range
returns-then-to-range c h tree =
    let fits : to_z w64 (of_z w64 c.begin_of-to.result) ≡ c.begin_of-to.result = grind (arith, to_z-of_z) in
    c.new.ensures.items
    ∙ sym (range-no_windows _ _ c.args.width _ (bag h) c.range.invariant c.range.view_is c.begin_of-to.ensures fits c.if-to-range.true)
