use Rattle.std.proofs.Common.{◌≡◌, ◌∙◌, ◌&&◌, ap, subst, List, min, max, Ok, Err, rules}
use Rattle.std.specs.Prelude.{nat_le}
use Rattle.btr_base.specs.declared.point.Point.{Point}
use Rattle.btr_base.specs.Changes.{changes}
use Rattle.btr_hist.specs.declared.answer.Rows.TheVariants.{Ranges}
use Rattle.btr_hist.specs.History.{bag}
use Rattle.btr_hist.specs.Answer.{is_power}
use Rattle.btr_hist.specs.Asked.{IsAsked}
use Rattle.btr_hist.proofs.Found.{refused_from, found_from}
use Rattle.btr_hist.proofs.answering.changes_answer.Goals as goal

pub returns-in-Err : goal.returns-in-Err
returns-in-Err c =
    let h = c.args.entries.now in
    let version = max c.args.old c.args.new in
    let least = min c.args.old c.args.new in
    let greater : c.max.result ≡ version = search rules in
    let lesser : c.min.result ≡ least = search rules in
    refused_from h c.args.stream least version c.can_compare-good.result (nat_le c.args.old c.args.new && is_power c.args.p) (λ (b : List Point). Ranges (changes c.args.p (bag h c.args.stream c.args.old) b)) c.in-Err.refusal c.can_compare-good.ensures
    (subst (λ u. IsAsked h c.args.stream u version c.can_compare-good.result (Err c.in-Err.refusal)) lesser (subst (λ v. IsAsked h c.args.stream c.min.result v c.can_compare-good.result (Err c.in-Err.refusal)) greater c.in-Err.ensures))

pub returns : goal.returns
returns c =
    let h = c.args.entries.now in
    let version = max c.args.old c.args.new in
    let least = min c.args.old c.args.new in
    let greater : c.max.result ≡ version = search rules in
    let lesser : c.min.result ≡ least = search rules in
    let p = c.args.p in
    let before = c.as_slice.ensures.points ∙ c.in_ok-before.ensures in
    let after = c.as_slice-2.ensures.points ∙ c.in_ok-after.ensures in
    found_from h c.args.stream least version c.can_compare-good.result (nat_le c.args.old c.args.new && is_power p) (λ (b : List Point). Ranges (changes p (bag h c.args.stream c.args.old) b)) c.in-Ok.version (Ranges c.in_ok-ranges.ranges) c.can_compare-good.ensures
    (subst (λ u. IsAsked h c.args.stream u version c.can_compare-good.result (Ok c.in-Ok.version)) lesser (subst (λ v. IsAsked h c.args.stream c.min.result v c.can_compare-good.result (Ok c.in-Ok.version)) greater c.in-Ok.ensures))
    (ap Ranges (c.in_ok-ranges.ensures ∙ ap (λ (b : List Point). changes p b c.as_slice-2.result.now) before ∙ ap (changes p (bag h c.args.stream c.args.old)) after))
