use Rattle.std.proofs.Common.{◌≡◌, pos, List, [], ◌∷◌, ◌++◌, map, ◌∙◌, sym, ap, subst, arith, length, get_or, None, w64, to_z, of_z, ◌<◌}
use Rattle.std.proofs.lemmas.Int.{to_z-of_z}
use Rattle.btr_base.specs.declared.cell.Cell.{Cell}
use Rattle.btr_base.specs.declared.point.Point.{Point}
use Rattle.btr_base.specs.Windows.{IsWindow, window_of, cell_of, windows_with}
use Rattle.btr_hist.proofs.WindowWalk.{dedup_after, dedup-none, walk-fresh, walk-seen, walk-done, window-within}
use Rattle.btr_hist.proofs.Bounds.{within_as_words}
use Rattle.btr_hist.proofs.cells.cells_between.Goals as goal
use Rattle.btr_hist.proofs.cells.cells_between.Goals.{then-ne+in_ok-push, else-ne}

pub loop-point-init : goal.loop-point-init
loop-point-init c =
    let first = c.args.grid.first in
    let ps = c.points_between-point-items.result.now in
    ap (λ (cs : List Cell). cs ++ map (cell_of first c.args.grid.width c.args.points.now) (dedup_after None (map (λ p. window_of first c.args.grid.width p.time) ps))) c.new-cells.ensures.items
    ∙ ap (map (cell_of first c.args.grid.width c.args.points.now)) (dedup-none (map (λ p. window_of first c.args.grid.width p.time) ps))

pub cell_of-requires-clause-window : goal.cell_of-requires-clause-window
cell_of-requires-clause-window c =
    let ps = c.points_between-point-items.result.now in
    let i = c.loop-point.point-index in
    let d : Point = record { time = pos 0; value = pos 0 } in
    let p : Point = get_or ps i d in
    let fits : to_z w64 (of_z w64 p.time) ≡ p.time = grind (arith, to_z-of_z) in
    let first = c.args.grid.first in
    let width = c.args.grid.width in
    let is = within_as_words c.args.from c.args.to c.ranges.from c.ranges.to ps c.args.points.now c.points_between-point-items.ensures in
    let number : c.number_of-number.result ≡ window_of first width p.time = c.number_of-number.ensures ∙ ap (window_of first width) fits in
    let here = subst (λ (qs : List Point). i < length qs → IsWindow first width (window_of first width (get_or qs i d).time)) (sym is)
    (window-within first c.args.from c.args.to width c.args.points.now i d c.requires.grid c.requires.from c.requires.to) in
    subst (IsWindow first width) (sym number) (here c.loop-point-test.true)

pub loop-point-preserved : goal.loop-point-preserved
loop-point-preserved c =
    let first = c.args.grid.first in
    let width = c.args.grid.width in
    let ps = c.points_between-point-items.result.now in
    let i = c.loop-point.point-index in
    let d : Point = record { time = pos 0; value = pos 0 } in
    let p : Point = get_or ps i d in
    let f = cell_of first width c.args.points.now in
    let num = λ (q : Point). window_of first width q.time in
    let k = c.number_of-number.result in
    let last = c.loop-point.last in
    let fits : to_z w64 (of_z w64 p.time) ≡ p.time = grind (arith, to_z-of_z) in
    let number : k ≡ num p = c.number_of-number.ensures ∙ ap (window_of first width) fits in
    let all = map f (windows_with first width ps) in
    elim c.if-ne.branch [
      | then-ne+in_ok-push w ↦
          walk-fresh f num ps i d k last c.if-ne.last c.loop-point.cells.items c.if-ne.cells.items all (omega arith) number (sym c.ne.ensures ∙ w.if-ne.true) w.last-is
          (ap (λ v. v.items) w.cells-is ∙ w.in_ok-push.ensures.items ∙ ap (λ (x : Cell). c.loop-point.cells.items ++ x ∷ []) w.cell_of.ensures) c.loop-point.invariant
      | else-ne w ↦
          walk-seen f num ps i d k last c.if-ne.last c.loop-point.cells.items c.if-ne.cells.items all (omega arith) number (sym c.ne.ensures ∙ w.if-ne.false) w.last-is
          (ap (λ v. v.items) w.cells-is) c.loop-point.invariant
    ]

pub returns : goal.returns
returns c =
    let first = c.args.grid.first in
    let width = c.args.grid.width in
    let ps = c.points_between-point-items.result.now in
    let all = c.args.points.now in
    let is = within_as_words c.args.from c.args.to c.ranges.from c.ranges.to ps all c.points_between-point-items.ensures in
    walk-done (cell_of first width all) (λ (q : Point). window_of first width q.time) ps c.loop-point.point-index c.loop-point.last c.loop-point.cells.items (map (cell_of first width all) (windows_with first width ps)) (omega arith) c.loop-point.invariant
    ∙ ap (λ (qs : List Point). map (cell_of first width all) (windows_with first width qs)) is
