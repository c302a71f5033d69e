use Rattle.std.proofs.Common.{◌≡◌, pos, sym, ap, ◌∙◌, rules, get_or, w64, SFits}
use Rattle.std.proofs.lemmas.List.{get_or_default}
use Rattle.btr_base.specs.declared.point.Point.{Point}
use Rattle.btr_kernel.proofs.AnchorLemmas.{other-words, same-words, step-last, step-again}
use Rattle.btr_kernel.proofs.anchor_times.is_last_at.Goals as goal

pub returns-in-Some-clause-last : goal.returns-in-Some-clause-last
returns-in-Some-clause-last c d h =
    let b = c.args.points.now in
    let i = c.args.i in
    let q : Point = c.in-Some.next.now in
    let zero : Point = record { time = pos 0; value = pos 0 } in
    let found = c.in-Some.ensures.lookup in
    let same : get_or b i d ≡ get_or b i zero = get_or_default b i d zero c.requires.within in
    step-last b i q d c.requires.order found.3.0 (found.3.1 q) (λ e. other-words q.time (get_or b i zero).time h (e ∙ ap (λ (p : Point). p.time) same))

pub returns-in-Some-clause-again : goal.returns-in-Some-clause-again
returns-in-Some-clause-again c h =
    let b = c.args.points.now in
    let i = c.args.i in
    let q : Point = c.in-Some.next.now in
    let zero : Point = record { time = pos 0; value = pos 0 } in
    let found = c.in-Some.ensures.lookup in
    let f : SFits w64 q.time = search rules in
    let g : SFits w64 (get_or b i zero).time = search rules in
    step-again b i q zero c.requires.order found.3.0 (found.3.1 q) (sym (same-words q.time (get_or b i zero).time f g h))
