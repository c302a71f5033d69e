use Rattle.std.proofs.Common.{◌≡◌, pos, ◌∷◌, [], ◌∙◌, sym, ap, subst, arith, length-take, get_or, take, to_z, of_z, w64}
use Rattle.std.proofs.lemmas.List.{take_more}
use Rattle.std.proofs.lemmas.Int.{to_z-of_z}
use Rattle.btr_base.specs.declared.point.Point.{Point}
use Rattle.btr_base.specs.Agg.{one_point}
use Rattle.btr_base.specs.Windows.{window_of, begin_of}
use Rattle.btr_window.specs.Accumulate.{add_part, add_points, counted, AreStarts}
use Rattle.btr_window.proofs.Adding.{counted-points, add_points-append}
use Rattle.btr_window.proofs.Starts.{starts-part}
use Rattle.btr_window.proofs.accumulate.add_points.Goals as goal

pub start_of-start-requires-clause-starts : goal.start_of-start-requires-clause-starts
start_of-start-requires-clause-starts c = subst (AreStarts c.args.grid) (sym c.deref.ensures.value) c.loop-point.invariant.starts

pub add_part-requires : goal.add_part-requires
add_part-requires c =
    let xs = c.args.points.now in
    let i = c.loop-point.point-index in
    let grid = c.args.grid in
    let room = c.requires.room in
    record {
      room = omega (arith, ap counted c.loop-point.invariant.cells, counted-points grid.first grid.width c.args.cells.now.items (take i xs), length-take i xs, ap (λ s. s.count) c.of.ensures.numbers);
    }

pub loop-point-preserved : goal.loop-point-preserved
loop-point-preserved c =
    let xs = c.args.points.now in
    let i = c.loop-point.point-index in
    let grid = c.args.grid in
    let d : Point = record { time = pos 0; value = pos 0 } in
    let p : Point = get_or xs i d in
    let first = grid.first in
    let width = grid.width in
    let old = c.args.cells.now.items in
    let before = c.loop-point.invariant in
    let time : to_z w64 (of_z w64 p.time) ≡ p.time = grind (arith, to_z-of_z) in
    let value : to_z w64 (of_z w64 p.value) ≡ p.value = grind (arith, to_z-of_z) in
    let fits : to_z w64 (of_z w64 c.start_of-start.result) ≡ c.start_of-start.result = grind (arith, to_z-of_z) in
    let begin : to_z w64 (of_z w64 c.start_of-start.result) ≡ begin_of first width p.time = fits ∙ c.start_of-start.ensures ∙ ap (begin_of first width) time in
    let one : c.of.result ≡ one_point p.value = c.of.ensures.numbers ∙ ap one_point value in
    record {
      cells = c.in_ok-add_part.ensures
          ∙ ap (λ s. add_part c.loop-point.cells.items s c.of.result) begin
          ∙ ap (add_part c.loop-point.cells.items (begin_of first width p.time)) one
          ∙ ap (λ cs. add_points first width cs (p ∷ [])) before.cells
          ∙ sym (add_points-append first width old (take i xs) (p ∷ []))
          ∙ ap (add_points first width old) (sym (take_more xs i d (omega arith)));
      starts = subst (AreStarts grid) (sym c.in_ok-add_part.ensures) (starts-part grid c.loop-point.cells.items _ c.of.result before.starts (window_of first width p.time, begin));
    }
