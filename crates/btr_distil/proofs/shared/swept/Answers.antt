use Rattle.std.proofs.Common.{◌≡◌, List, sym, ap, subst, ◌∙◌, IfOk}
use Rattle.std.specs.Borrow.{Bor}
use Rattle.std.specs.List.{AllZip}
use Rattle.std.specs.declared.result.Result.{Result}
use Rattle.std.specs.declared.alloc.AllocError.{AllocError}
use Rattle.std.proofs.lemmas.Result.{MatchResult-weaker}
use Rattle.rayon.proofs.ToStd.{slice-AllZip}
use Rattle.btr_base.specs.declared.point.Point.{Point}
use Rattle.btr_base.specs.Range.{RangeValue}
use Rattle.btr_hist.specs.Distil.{output_points}
use Rattle.btr_kernel.specs.Sources.{AtEachInputs}
use Rattle.btr_distil.specs.Sight.{SightValue}
use Rattle.btr_distil.proofs.PartLemmas.{points_in, all-ok}
use Rattle.btr_distil.proofs.shared.swept.Goals as goal

-- The bag is that of the points in the part.
abbrev IsMade : SightValue → List RangeValue → List Point → Type 0
IsMade s r b = AtEachInputs s.new_first s.new_second (λ i. b ≡ points_in (output_points s.spec i) r)

pub returns : goal.returns
returns g c =
    let slice = ap (λ it. it.base.slice.now) c.map.ensures.base ∙ ap (λ it. it.slice.now) c.with_min_len.ensures.base ∙ c.par_iter.ensures in
    let all = c.in_ok-made.ensures in
    let parts = c.args.parts.now in
    let made = IsMade c.args.sight.now in
    let answer = λ (r : List RangeValue) (m : Result (List Point) AllocError). IfOk m (made r) in
    let chain = all.1 in
    let same = ap (λ f. f.1.now) c.map.ensures.f in
    let answers = subst (λ (s : SightValue). AllZip (λ (r : Bor (List RangeValue)) (m : Result (List Point) AllocError). IfOk m (IsMade s r.now)) chain.0 all.0) same chain.2 in
    let each = slice-AllZip chain.0 parts (chain.1 ∙ slice) answer all.0 answers in
    MatchResult-weaker c.in_ok-made.made all.2 (λ v h. subst (AllZip made parts) (sym h.2) (all-ok AllocError made parts h.0 (subst (AllZip answer parts) h.1 each))) (λ e h. tt)
