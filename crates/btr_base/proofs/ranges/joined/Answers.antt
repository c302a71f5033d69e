use Rattle.std.proofs.Common.{◌≡◌, ◌+◌, ◌<ℤ◌, List, [], ◌∷◌, ◌++◌, ◌∙◌, refl, sym, ap, subst, arith, drop}
use Rattle.std.proofs.lemmas.List.{drop_more, drop_all}
use Rattle.std.proofs.lemmas.Int.{ints}
use Rattle.btr_base.specs.Range.{RangeValue, IsRange, IsCut}
use Rattle.btr_base.proofs.Joining.{IsJoining, joining-start, joining-skip, joining-close, joining-union, joined-cut}
use Rattle.btr_base.proofs.ranges.joined.Goals as goal
use Rattle.btr_base.proofs.ranges.joined.Goals.{then-next-current+in_ok-push, else-next-current+then-current-next+in_ok-push-2, else-next-current+else-current-next}

joining-as : (done old : List RangeValue) (current last : RangeValue) (rest : List RangeValue) (range : RangeValue) (ranges : List RangeValue) → done ≡ old → current ≡ last → IsJoining old last rest range ranges → IsJoining done current rest range ranges
joining-as done old current last rest range ranges d c h =
    subst (λ u. IsJoining u current rest range ranges) (sym d) (subst (λ u. IsJoining old u rest range ranges) (sym c) h)

pub loop-next-init : goal.loop-next-init
loop-next-init c =
    joining-as c.in_ok-done.done.items [] c.args.range c.args.range c.args.ranges.now c.args.range c.args.ranges.now c.in_ok-done.ensures.items refl (joining-start c.args.range c.args.ranges.now (subst IsRange c.range.view_is c.range.invariant) c.requires)

pub loop-next-preserved : goal.loop-next-preserved
loop-next-preserved c =
    let ranges = c.args.ranges.now in
    let i = c.loop-next.next-index in
    let next = c.next-item.result in
    let rest = drop (i + 1) ranges in
    let done = c.loop-next.done.items in
    let current = c.loop-next.current in
    let e : drop i ranges ≡ next ∷ rest = drop_more ranges i next (omega arith) ∙ ap (λ s. s ∷ rest) (sym c.next-item.is) in
    let h = subst (λ u. IsJoining done current u c.args.range ranges) e c.loop-next.invariant in
    elim c.if-next-current.branch [
      | then-next-current+in_ok-push w ↦
          let lt : next.to <ℤ current.from = omega (arith, ints, ap (λ r. r.to) c.next.view_is, ap (λ r. r.from) c.current.view_is) in
          joining-as _ (done ++ next ∷ []) _ current rest c.args.range ranges (ap (λ v. v.items) w.done-is ∙ w.in_ok-push.ensures.items ∙ ap (λ s. done ++ s ∷ []) c.next.view_is) w.current-is (joining-skip done current next rest c.args.range ranges h lt)
      | else-next-current+then-current-next+in_ok-push-2 w ↦
          let lt : current.to <ℤ next.from = omega (arith, ints, ap (λ r. r.from) c.next.view_is, ap (λ r. r.to) c.current.view_is) in
          joining-as _ (done ++ current ∷ []) _ next rest c.args.range ranges (ap (λ v. v.items) w.done-is ∙ w.in_ok-push-2.ensures.items ∙ ap (λ s. done ++ s ∷ []) c.current.view_is) (w.current-is ∙ c.next.view_is) (joining-close done current next rest c.args.range ranges h lt)
      | else-next-current+else-current-next w ↦
          joining-as _ done _ w.union-current.result rest c.args.range ranges (ap (λ v. v.items) w.done-is) w.current-is (joining-union done current next rest c.args.range ranges h w.union-current.result w.union-current.ensures.range w.union-current.ensures.times)
    ]

pub returns-clause-cut : goal.returns-clause-cut
returns-clause-cut c =
    let ranges = c.args.ranges.now in
    let h = subst (λ u. IsJoining c.loop-next.done.items c.loop-next.current u c.args.range ranges) (drop_all c.loop-next.next-index ranges (omega arith)) c.loop-next.invariant in
    subst IsCut (sym c.in_ok-push-3.ensures.items) (joined-cut c.loop-next.done.items c.loop-next.current c.args.range ranges h)
