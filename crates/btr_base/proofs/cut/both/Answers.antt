use Rattle.std.proofs.Common.{◌≡◌, ◌+◌, Bool, ◌||◌, ◌∷◌, ◌∙◌, sym, ap, arith, drop}
use Rattle.std.proofs.lemmas.List.{drop_more}
use Rattle.btr_base.specs.Range.{contains, covered}
use Rattle.btr_base.proofs.cut.both.Goals as goal

-- The next range comes from the second list, or from the first.
from_second : (new done next a old rest whole : Bool) → new ≡ (next || done) → old ≡ (next || rest) → (done || (a || old)) ≡ whole → (new || (a || rest)) ≡ whole
from_second new done next a old rest whole h k e = grind arith

from_first : (new done next b old rest whole : Bool) → new ≡ (next || done) → old ≡ (next || rest) → (done || (old || b)) ≡ whole → (new || (rest || b)) ≡ whole
from_first new done next b old rest whole h k e = grind arith

pub loop-i-preserved-then-next_b-next_a : goal.loop-i-preserved-then-next_b-next_a
loop-i-preserved-then-next_b-next_a c =
    let b = c.args.b.now in
    let j = c.loop-i.j in
    let next = c.index-b-j.result in
    let e : drop j b ≡ next ∷ drop (j + 1) b = drop_more b j next (omega arith) ∙ ap (λ s. s ∷ drop (j + 1) b) (sym c.index-b-j.is) in
    record {
      in_a = c.loop-i.invariant.in_a;
      in_b = omega arith;
      times = λ t. from_second _ (covered c.loop-i.all t) (contains next t) _ (covered (drop j b) t) _ _ (c.in_ok-add.ensures.times t ∙ ap (λ r. contains r t || covered c.loop-i.all t) c.next_b.view_is) (ap (λ s. covered s t) e) (c.loop-i.invariant.times t);
    }

pub loop-i-preserved : goal.loop-i-preserved
loop-i-preserved c =
    let a = c.args.a.now in
    let i = c.loop-i.i in
    let next = c.index-a-i.result in
    let e : drop i a ≡ next ∷ drop (i + 1) a = drop_more a i next (omega arith) ∙ ap (λ s. s ∷ drop (i + 1) a) (sym c.index-a-i.is) in
    record {
      in_a = omega arith;
      in_b = c.loop-i.invariant.in_b;
      times = λ t. from_first _ (covered c.loop-i.all t) (contains next t) _ (covered (drop i a) t) _ _ (c.in_ok-add-2.ensures.times t ∙ ap (λ r. contains r t || covered c.loop-i.all t) c.next_a.view_is) (ap (λ s. covered s t) e) (c.loop-i.invariant.times t);
    }
