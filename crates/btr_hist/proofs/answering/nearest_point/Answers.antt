use Rattle.std.proofs.Common.{◌≡◌, not, int_le, int_lt, ℤ, List, [], ◌∷◌, length, ◌-◌, ◌∙◌, ap, sym, refl, arith, Option, Some, None, w64, to_z, of_z}
use Rattle.std.specs.Prelude.{slice_get}
use Rattle.std.specs.List.{filter, last_or}
use Rattle.std.proofs.lemmas.Int.{ints, to_z-of_z}
use Rattle.btr_base.specs.declared.point.Point.{Point}
use Rattle.btr_base.specs.Nearest.{nearest}
use Rattle.btr_base.proofs.ListLemmas.{filter-same}
use Rattle.btr_hist.proofs.answering.nearest_point.Goals as goal

-- The points that are not before a time are those from it on.
from-time : (t u : ℤ) (ps all : List Point) → ps ≡ filter (λ p. not (int_lt p.time u)) all → u ≡ t → ps ≡ filter (λ p. int_le t p.time) all
from-time t u ps all is same =
    is
    ∙ ap (λ z. filter (λ p. not (int_lt p.time z)) all) same
    ∙ filter-same (λ p. not (int_lt p.time t)) (λ p. int_le t p.time) all (λ p. grind (arith, ints))

last-at : (o : Option Point) (p : Point) (ps : List Point) → slice_get (p ∷ ps) (length ps) ≡ last_or o (p ∷ ps)
last-at o p [] = refl
last-at o p (q ∷ ps) = last-at (Some p) q ps

-- The last element is the one at the greatest index.
last-is : (ps : List Point) → slice_get ps (length ps - 1) ≡ last_or None ps
last-is [] = refl
last-is (p ∷ ps) =
    let at : length (p ∷ ps) - 1 ≡ length ps = omega arith in
    ap (slice_get (p ∷ ps)) at ∙ last-at None p ps

pub returns-in-Forward : goal.returns-in-Forward
returns-in-Forward c =
    let time = to_z-of_z w64 c.args.time c.ranges.time in
    let from = from-time c.args.time (to_z w64 (of_z w64 c.args.time)) c.parted.result.1.now c.args.points.now c.parted.ensures.from time in
    c.copied.ensures
    ∙ c.first.ensures.value
    ∙ ap (λ (ps : List Point). slice_get ps 0) from
    ∙ sym (ap (λ way. nearest way c.args.time c.args.points.now) c.in-Forward.is)

pub returns-in-Backward : goal.returns-in-Backward
returns-in-Backward c =
    let time = to_z-of_z w64 c.args.time c.ranges.time in
    let before : c.parted.result.0.now ≡ filter (λ p. int_lt p.time c.args.time) c.args.points.now = c.parted.ensures.before ∙ ap (λ z. filter (λ p. int_lt p.time z) c.args.points.now) time in
    c.copied-in-Backward.ensures
    ∙ c.last.ensures.value
    ∙ last-is c.parted.result.0.now
    ∙ ap (λ (ps : List Point). last_or None ps) before
    ∙ sym (ap (λ way. nearest way c.args.time c.args.points.now) c.in-Backward.is)
