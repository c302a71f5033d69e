use Rattle.std.specs.Prelude.{◌≡◌, ℕ, ◌+◌, length, vec_len, Some}
use Rattle.std.proofs.Common.{sym, ap, subst, ◌∙◌, arith}
use Rattle.btr_roll.specs.Roll.{RollStreamValue}
use Rattle.btr_open.specs.Shelf.{ShelfValue, HasRollOf, rolled_count, versions_on}
use Rattle.btr_open.proofs.ShelfLemmas.{latest-none, latest-some}
use Rattle.btr_open.proofs.shelf.ShelfStreamFacts.latest_version.Goals as goal

pub returns-in_err-its-clause-of : goal.returns-in_err-its-clause-of
returns-in_err-its-clause-of c h of =
    c.from_residual.ensures ∙ latest-none h (record { roll = c.self.inside.roll; entries = c.self.inside.entries }) (subst (HasRollOf h) (sym c.self.view_is) of) c.args.stream c.in_err-its.ensures

pub returns-clause-of : goal.returns-clause-of
returns-clause-of c h of =
    let long : vec_len c.its.inside.versions ≡ length c.its.inside.versions.items = omega (arith, c.its.inside.versions.ok.0) in
    let its = subst (HasRollOf h) (sym c.self.view_is) of in
    ap (λ (n : ℕ). Some n) (c.len.ensures ∙ long ∙ ap (λ (s : RollStreamValue). length s.versions) c.its.view_is) ∙ latest-some h (record { roll = c.self.inside.roll; entries = c.self.inside.entries }) its c.args.stream c.in_ok-its.its.now c.in_ok-its.ensures

pub returns-clause-counted : goal.returns-clause-counted
returns-clause-counted c =
    let long : vec_len c.its.inside.versions ≡ length c.its.inside.versions.items = omega (arith, c.its.inside.versions.ok.0) in
    ap (λ (s : ShelfValue). versions_on s.roll c.args.stream) (sym c.self.view_is) ∙ ap rolled_count c.in_ok-its.ensures ∙ ap (λ (n : ℕ). n + 1) (sym (c.len.ensures ∙ long ∙ ap (λ (s : RollStreamValue). length s.versions) c.its.view_is))
