use Rattle.std.proofs.Common.{◌+◌, ◌<◌, ◌^◌, ◌+ℤ◌, ap, sym, refl, ◌∙◌, subst, arith, SFits}
use Rattle.std.specs.Int.{w128}
use Rattle.std.proofs.lemmas.Int.{ints}
use Rattle.btr_base.specs.Agg.{IsSummary, joined, agg}
use Rattle.btr_base.proofs.AggLemmas.{summary-by, agg-append, ends_fit-joined, sum-fits}
use Rattle.btr_base.proofs.agg.Agg.join.Goals as goal

pub overflow_add-result-2 : goal.overflow_add-result-2
overflow_add-result-2 c =
    let fits = ends_fit-joined c.self.inside.count c.other.inside.count c.self.inside.sum c.other.inside.sum c.self.inside.ends c.other.inside.ends c.self.invariant c.other.invariant in
    let few : c.self.inside.count + c.other.inside.count < 2 ^ 64 = omega (arith, ap (λ s. s.count) c.self.view_is, ap (λ s. s.count) c.other.view_is) in
    let whole : SFits w128 (c.self.inside.sum +ℤ c.other.inside.sum) = sum-fits _ _ _ fits few in
    omega (arith, ints)

pub returns-clause-numbers : goal.returns-clause-numbers
returns-clause-numbers c =
    let fits = ends_fit-joined c.self.inside.count c.other.inside.count c.self.inside.sum c.other.inside.sum c.self.inside.ends c.other.inside.ends c.self.invariant c.other.invariant in
    let few : c.self.inside.count + c.other.inside.count < 2 ^ 64 = omega (arith, ap (λ s. s.count) c.self.view_is, ap (λ s. s.count) c.other.view_is) in
    let whole : SFits w128 (c.self.inside.sum +ℤ c.other.inside.sum) = sum-fits _ _ _ fits few in
    summary-by _ _ _ _ _ _ refl (omega (arith, ints)) c.join_ends.ensures
    ∙ ap (λ s. joined s (record { count = c.other.inside.count; total = c.other.inside.sum; ends = c.other.inside.ends })) c.self.view_is
    ∙ ap (λ s. joined c.args.self.now s) c.other.view_is

pub returns-clause-summary : goal.returns-clause-summary
returns-clause-summary c =
    subst IsSummary (sym (returns-clause-numbers c)) (ends_fit-joined _ _ _ _ _ _ (subst IsSummary c.self.view_is c.self.invariant) (subst IsSummary c.other.view_is c.other.invariant))

pub invariant_of-result : goal.invariant_of-result
invariant_of-result c = returns-clause-summary c

pub returns-clause-lists : goal.returns-clause-lists
returns-clause-lists c a b of_a of_b =
    agg-append a b ∙ ap (λ s. joined s (agg b)) of_a ∙ ap (λ s. joined c.args.self.now s) of_b ∙ sym (returns-clause-numbers c)
