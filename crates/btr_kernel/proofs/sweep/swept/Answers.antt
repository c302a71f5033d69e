use Rattle.std.proofs.Common.{◌≡◌, ◌+◌, ◌<◌, ℤ, pos, ◌++◌, sym, ap, ◌∙◌, subst, arith, rules, length, get_or, drop, w64, to_z, of_z, SFits}
use Rattle.std.proofs.lemmas.Int.{to_z-of_z}
use Rattle.std.proofs.lemmas.List.Elements.{All-from_recursion}
use Rattle.btr_base.specs.declared.point.Point.{Point}
use Rattle.btr_hist.specs.Distil.{value_of, points_from}
use Rattle.btr_kernel.specs.Swept.{IsAnchor}
use Rattle.btr_kernel.proofs.KernelPointLemmas.{points-some, points-none}
use Rattle.btr_kernel.proofs.sweep.swept.Goals as goal
use Rattle.btr_kernel.proofs.sweep.swept.Goals.{in-Some+in_ok-push-in-Some, in-None}

pub value-requires-clause-anchor : goal.value-requires-clause-anchor
value-requires-clause-anchor c =
    let b = c.args.first.now in
    let ts = c.args.times.now in
    let i = c.loop-time.time-index in
    let fits : SFits w64 (get_or ts i (pos 0)) = search rules in
    subst (IsAnchor b) (sym (to_z-of_z w64 (get_or ts i (pos 0)) fits)) (All-from_recursion (IsAnchor b) ts c.requires.anchors i (pos 0) (omega arith))

pub loop-time-preserved : goal.loop-time-preserved
loop-time-preserved c =
    let ts = c.args.times.now in
    let i = c.loop-time.time-index in
    let t = get_or ts i (pos 0) in
    let v = value_of c.args.spec.now (record { first = c.args.first.now; second = c.args.second.now }) in
    let within : i < length ts = omega arith in
    let fits : SFits w64 t = search rules in
    let same : to_z w64 (of_z w64 t) ≡ t = to_z-of_z w64 t fits in
    let value : c.in_ok-value.field-0 ≡ v t = c.in_ok-value.ensures.value ∙ ap v same in
    let rest = points_from v (drop (i + 1) ts) in
    record {
      sweep = c.in_ok-value.ensures.sweep;
      made = elim c.match-branch-3.branch [
        | in-Some+in_ok-push-in-Some w ↦
            let x : ℤ = w.in-Some.value in
            let x_fits : SFits w64 x = search rules in
            let p : Point = record { time = to_z w64 (of_z w64 t); value = to_z w64 (of_z w64 x) } in
            let point : p ≡ record { time = t; value = x } = λ k. record { time = same k; value = to_z-of_z w64 x x_fits k } in
            ap (λ m. m.items ++ rest) w.made-is
            ∙ ap (λ m. m ++ rest) w.in_ok-push-in-Some.ensures.items
            ∙ points-some v ts i x c.loop-time.made.items _ p within (sym value ∙ w.in-Some.is) point c.loop-time.invariant.made
        | in-None w ↦
            ap (λ m. m.items ++ rest) w.made-is
            ∙ points-none v ts i c.loop-time.made.items _ within (sym value ∙ w.in-None.is) c.loop-time.invariant.made
      ];
    }
