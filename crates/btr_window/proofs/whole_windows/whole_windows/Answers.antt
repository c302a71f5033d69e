use Rattle.std.specs.Prelude.{pos, ◌+ℤ◌, ◌-ℤ◌, ◌≤ℤ◌}
use Rattle.std.proofs.Common.{sym, ap, ◌∙◌, subst, arith}
use Rattle.std.proofs.lemmas.Int.{ints}
use Rattle.btr_base.specs.Windows.{begin_of}
use Rattle.btr_tree.proofs.RangeSlotLemmas.{range-from}
use Rattle.btr_window.proofs.Ranges.{range-last, range-full, range-domain}
use Rattle.btr_base.proofs.WindowLemmas.{aligned-grid, aligned-fits}
use Rattle.btr_window.proofs.Bounds.{IsWhole, whole-is}
use Rattle.btr_window.proofs.whole_windows.whole_windows.Goals as goal

pub begin_of-last-requires : goal.begin_of-last-requires
begin_of-last-requires c =
    let grid = c.requires.1 in
    let first_is = grid.first_is in
    let low = (range-domain _ _ c.range.invariant c.range.view_is).0 in
    let full = range-full _ _ c.range.invariant c.range.view_is in
    let last = range-last _ _ c.range.invariant c.range.view_is in
    record { grid = aligned-grid c.requires.0 c.args.grid.first c.args.grid.width grid; time = omega (arith, ints) }

pub begin_of-requires : goal.begin_of-requires
begin_of-requires c =
    let grid = c.requires.1 in
    let first_is = grid.first_is in
    let low = (range-domain _ _ c.range.invariant c.range.view_is).0 in
    let from = range-from _ _ c.range.invariant c.range.view_is in
    record { grid = aligned-grid c.requires.0 c.args.grid.first c.args.grid.width grid; time = omega (arith, ints) }

-- What is computed of the two bounds.
whole : (c : goal.After-begin_of) → IsWhole c.args.grid.width c.begin_of.result c.begin_of-last.result
whole c =
    let first = c.args.grid.first in
    let width = c.args.grid.width in
    let range = c.args.range in
    let grid = c.requires.1 in
    let full = range-full _ _ c.range.invariant c.range.view_is in
    let domain = range-domain _ _ c.range.invariant c.range.view_is in
    let low = domain.0 in
    let high = domain.1 in
    let p = c.begin_of.ensures ∙ ap (begin_of first width) (range-from _ _ c.range.invariant c.range.view_is) in
    let q = c.begin_of-last.ensures ∙ ap (begin_of first width) (range-last _ _ c.range.invariant c.range.view_is) in
    whole-is first width range.from range.to c.begin_of.result c.begin_of-last.result (aligned-grid c.requires.0 first width grid) (subst (λ f. f ≤ℤ range.from) (sym grid.first_is) low) full p q (aligned-fits c.requires.0 first width (range.to -ℤ pos 1) grid (omega (arith, ints)) (omega (arith, ints)))

pub overflow_cast-result : goal.overflow_cast-result
overflow_cast-result c =
    let most = (aligned-grid c.requires.0 c.args.grid.first c.args.grid.width c.requires.1).most in
    omega (arith, ints)

pub overflow_add-result : goal.overflow_add-result
overflow_add-result c = (whole c).sum_fits

pub invariant_of-result : goal.invariant_of-result
invariant_of-result c = (whole c).range

pub returns-clause-to : goal.returns-clause-to
returns-clause-to c =
    let last = c.begin_of-last.ensures ∙ ap (begin_of c.args.grid.first c.args.grid.width) (range-last _ _ c.range.invariant c.range.view_is) in
    (whole c).sum ∙ ap (λ x. x +ℤ pos c.args.grid.width) last
