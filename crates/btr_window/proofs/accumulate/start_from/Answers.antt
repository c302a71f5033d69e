use Rattle.std.specs.Prelude.{pos, ◌+ℤ◌, ◌<ℤ◌, ◌≤ℤ◌}
use Rattle.std.proofs.Common.{◌≡◌, sym, ap, ◌∙◌, arith, to_z, of_z, w64}
use Rattle.std.proofs.lemmas.Int.{ints, to_z-of_z, to_z_pos}
use Rattle.btr_window.proofs.Starts.{start-is, start-next}
use Rattle.btr_window.proofs.accumulate.start_from.Goals as goal

pub returns-then-offset-grid : goal.returns-then-offset-grid
returns-then-offset-grid c =
    let grid = c.args.grid in
    let last = c.args.last in
    let fits : to_z w64 (of_z w64 last) ≡ last = to_z-of_z w64 last c.ranges.last in
    let offset = c.abs_diff-offset.ensures in
    let after = c.if-time-last.false in
    let near = c.if-offset-grid.true in
    fits ∙ sym (start-is grid last c.args.time c.requires.grid.some c.requires.time c.requires.start (omega (arith, ints)) (omega (arith, ints)))

pub returns-then-offset-grid-2 : goal.returns-then-offset-grid-2
returns-then-offset-grid-2 c =
    let grid = c.args.grid in
    let last = c.args.last in
    let time = c.args.time in
    let most = c.requires.grid.most in
    let offset = c.abs_diff-offset.ensures in
    let after = c.if-time-last.false in
    let far = c.if-offset-grid.false in
    let near = c.if-offset-grid-2.true in
    let fits : to_z w64 (of_z w64 last) ≡ last = to_z-of_z w64 last c.ranges.last in
    let cast : to_z w64 grid.width ≡ pos grid.width = to_z_pos w64 grid.width (omega arith) in
    let both : to_z w64 (of_z w64 last) +ℤ to_z w64 grid.width ≡ last +ℤ pos grid.width = omega (arith, ints) in
    let from : (last +ℤ pos grid.width) ≤ℤ time = omega (arith, ints) in
    let before : time <ℤ ((last +ℤ pos grid.width) +ℤ pos grid.width) = omega (arith, ints) in
    let low = c.ranges.last in
    let high = c.ranges.time in
    let sum : to_z w64 (of_z w64 (to_z w64 (of_z w64 last) +ℤ to_z w64 grid.width)) ≡ last +ℤ pos grid.width = ap (λ x. to_z w64 (of_z w64 x)) both ∙ to_z-of_z w64 (last +ℤ pos grid.width) (omega (arith, ints)) in
    sum ∙ sym (start-is grid (last +ℤ pos grid.width) time c.requires.grid.some c.requires.time (start-next grid last c.requires.start) from before)
