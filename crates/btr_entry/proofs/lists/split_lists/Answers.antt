use Rattle.std.proofs.Common.{◌≡◌, ℕ, ◌==◌, false, arith}
use Rattle.std.proofs.lemmas.Bool.Decides.{nat_tests}
use Rattle.btr_entry.proofs.FrameLemmas.{after_ranges, after_points}
use Rattle.btr_entry.proofs.lists.split_lists.Goals as goal

pub returns-in_err-ranges-clause-none : goal.returns-in_err-ranges-clause-none
returns-in_err-ranges-clause-none c =
    rw c.from_residual.ensures (λ ranges points h. c.in_err-ranges.ensures.none ranges h.after_ranges h.ranges_are)

pub returns-in_err-points-clause-none : goal.returns-in_err-points-clause-none
returns-in_err-points-clause-none c =
    rw c.from_residual-in_err-points.ensures (λ ranges points h. c.in_err-points.ensures.none points _ (after_ranges c.args.max_ranges c.args.max_points c.requires.ranges c.args.bytes.now c.in_ok-ranges.ranges.now c.in_ok-ranges.rest.now ranges points c.in_ok-ranges.ensures.some h).1)

not_none : (n : ℕ) → false ≡ (n == 0) → n ≡ 0 → ⊥
not_none n h k = grind (arith, nat_tests)

pub returns-then-not-is_empty-clause-none : goal.returns-then-not-is_empty-clause-none
returns-then-not-is_empty-clause-none c ranges points h =
    not_none _ c.if-not-is_empty.ensures (after_points c.args.max_ranges c.args.max_points c.requires.ranges c.requires.points c.args.bytes.now c.in_ok-ranges.ranges.now c.in_ok-ranges.rest.now c.in_ok-points.points.now c.in_ok-points.rest.now ranges points c.in_ok-ranges.ensures.some c.in_ok-points.ensures.some h)
