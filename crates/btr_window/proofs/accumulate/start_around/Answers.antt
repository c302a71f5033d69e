use Rattle.std.proofs.Common.{◌≡◌, refl, sym, ap, ◌∙◌, arith, to_z, of_z, w64}
use Rattle.std.proofs.lemmas.Int.{ints, to_z-of_z}
use Rattle.btr_base.specs.Windows.{window_of, begin_of}
use Rattle.btr_window.proofs.Bounds.{span-start}
use Rattle.btr_window.proofs.Cells.{begin-bounds}
use Rattle.btr_window.proofs.Starts.{start-is}
use Rattle.btr_window.proofs.accumulate.start_around.Goals as goal

pub returns : goal.returns
returns c t low high =
    let grid = c.args.grid in
    let span = c.args.span in
    let begin = begin_of grid.first grid.width span.start in
    let fits : to_z w64 (of_z w64 c.start_of-start.result) ≡ c.start_of-start.result = grind (arith, to_z-of_z) in
    let start : c.start_of-start.result ≡ begin = c.start_of-start.ensures ∙ ap (begin_of grid.first grid.width) (span-start _ _ c.span.invariant c.span.view_is) in
    let bounds = begin-bounds grid.first grid.width span.start c.requires.grid.some c.requires.time in
    let from = bounds.0 in
    let to = bounds.1 in
    let first = c.requires.time in
    let begins = c.requires.grid.begins in
    let end = c.end.ensures.end in
    let ends = c.end.ensures.span.1.ends in
    let apart = c.abs_diff.ensures in
    let near = c.if-abs_diff-grid.false in
    start-is grid begin t c.requires.grid.some (omega (arith, ints)) (window_of grid.first grid.width span.start, refl) (omega (arith, ints)) (omega (arith, ints))
    ∙ sym (fits ∙ start)
