-- The least time outside the domain of points and one more point.
use Rattle.std.proofs.Common.{◌≡◌, ℤ, Bool, true, false, not, cond, arith, List, [], ◌∷◌, ◌++◌, Option, Some, None, refl, ap, ◌∙◌, map, filter}
use Rattle.std.specs.Int.{int_min}
use Rattle.std.specs.Option.{option_map_or}
use Rattle.std.proofs.lemmas.List.{map-append, append-nil}
use Rattle.std.proofs.lemmas.List.Elements.{filter-append}
use Rattle.std.proofs.lemmas.List.Sums.{fold-append}
use Rattle.std.proofs.lemmas.Int.{ints}
use Rattle.btr_base.specs.declared.point.Point.{Point}
use Rattle.btr_base.specs.Point.{in_domain, InDomain, AreInDomain}
use Rattle.btr_feed.specs.Feed.{least, times_outside, least_time_outside}

least_push : (ts : List ℤ) (t : ℤ) → least (ts ++ t ∷ []) ≡ Some (option_map_or (λ m. int_min m t) (least ts) t)
least_push [] t = refl
least_push (x ∷ ts) t = ap {A = ℤ} {B = Option ℤ} Some (fold-append int_min x ts (t ∷ []))

times_append : (ps qs : List Point) → times_outside (ps ++ qs) ≡ times_outside ps ++ times_outside qs
times_append ps qs =
    ap (map (λ (p : Point). p.time)) (filter-append (λ (p : Point). not (in_domain p.time)) ps qs)
    ∙ map-append (λ (p : Point). p.time) (filter (λ (p : Point). not (in_domain p.time)) ps) (filter (λ (p : Point). not (in_domain p.time)) qs)

times_of_one : (p : Point) (b : Bool) → in_domain p.time ≡ b → times_outside (p ∷ []) ≡ cond b [] (p.time ∷ [])
times_of_one p true h = ap (λ b. map (λ (q : Point). q.time) (cond (not b) (p ∷ []) [])) h
times_of_one p false h = ap (λ b. map (λ (q : Point). q.time) (cond (not b) (p ∷ []) [])) h

-- A point of the domain changes nothing.
pub outside_skip : (ps : List Point) (p : Point) → in_domain p.time ≡ true → least_time_outside (ps ++ p ∷ []) ≡ least_time_outside ps
outside_skip ps p h = ap least (times_append ps (p ∷ []) ∙ ap (λ ts. times_outside ps ++ ts) (times_of_one p true h) ∙ append-nil (times_outside ps))

-- A point outside it counts by its time.
pub outside_push : (ps : List Point) (p : Point) → in_domain p.time ≡ false
    → least_time_outside (ps ++ p ∷ []) ≡ Some (option_map_or (λ m. int_min m p.time) (least_time_outside ps) p.time)
outside_push ps p h =
    ap least (times_append ps (p ∷ []) ∙ ap (λ ts. times_outside ps ++ ts) (times_of_one p false h)) ∙ least_push (times_outside ps) p.time

in_domain-fact : (p : Point) → not (in_domain p.time) ≡ false → InDomain p.time
in_domain-fact p h = (grind (arith, ints), grind (arith, ints))

-- If there is no such time, each point lies in the domain.
pub none_outside : (ps : List Point) → least_time_outside ps ≡ None → AreInDomain ps
none_outside [] h = tt
none_outside (p ∷ ps) h =
    let rest = filter (λ (q : Point). not (in_domain q.time)) ps in
    elim (not (in_domain p.time)) as (λ t. not (in_domain p.time) ≡ t → least (map (λ (q : Point). q.time) (cond t (p ∷ rest) rest)) ≡ None → AreInDomain (p ∷ ps)) [
      | true ↦ λ _ k. absurd (cc)
      | false ↦ λ e k. (in_domain-fact p e, none_outside ps k)
    ] refl h
