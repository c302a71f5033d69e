-- Lemmas on feeds that other crates cite: the least time outside the domain is that of the first such point in order.
use Rattle.std.proofs.Common.{◌≡◌, ℤ, Bool, true, false, not, cond, List, [], ◌∷◌, Option, Some, None, refl, sym, ap, ◌∙◌, arith, map, filter, fold}
use Rattle.std.specs.Prelude.{find, ◌≤ℤ◌, IsTrue}
use Rattle.std.specs.List.{AllByRecursion}
use Rattle.std.specs.Int.{int_min}
use Rattle.std.specs.Option.{option_map, option_map_or}
use Rattle.std.proofs.lemmas.Int.{ints}
use Rattle.btr_base.specs.declared.point.Point.{Point}
use Rattle.btr_base.specs.Bag.{IsInOrder, insert, sort}
use Rattle.btr_base.specs.Point.{in_domain, is_not_after}
use Rattle.btr_base.proofs.ListLemmas.{each-weaker}
use Rattle.btr_base.proofs.PointLemmas.{is_not_after-times, is_not_after-total, is_not_after-trans, sort-in_order}
use Rattle.btr_feed.specs.Feed.{least, times_outside, least_time_outside}

-- The time of the first point outside the domain.
abbrev pub first_time : List Point → Option ℤ
first_time b = option_map (λ (p : Point). p.time) (find (λ (p : Point). not (in_domain p.time)) b)

-- The lesser of a time and one that there may be.
abbrev with_least : ℤ → Option ℤ → Option ℤ
with_least t o = Some (option_map_or (λ m. int_min t m) o t)

min_assoc : (x t m : ℤ) → int_min (int_min x t) m ≡ int_min x (int_min t m)
min_assoc x t m = grind (arith, ints)

fold_least : (t : ℤ) (ts : List ℤ) → Some (fold int_min t ts) ≡ with_least t (least ts)
fold_least t [] = refl
fold_least t (x ∷ ts) = ap {A = ℤ} {B = Option ℤ} Some (go t x ts)
  where
    go : (t x : ℤ) (ts : List ℤ) → fold int_min (int_min t x) ts ≡ int_min t (fold int_min x ts)
    go t x [] = refl
    go t x (y ∷ ts) = ap (λ z. fold int_min z ts) (min_assoc t x y) ∙ go t (int_min x y) ts

min_first : (x y : ℤ) → x ≤ℤ y → int_min x y ≡ x
min_first x y h = grind (arith, ints)

min_second : (x y : ℤ) → y ≤ℤ x → int_min x y ≡ y
min_second x y h = grind (arith, ints)

-- No later point of a list in order has an earlier time.
first_after : (p : Point) (b : List Point) → AllByRecursion (λ q. IsTrue (is_not_after p q)) b → with_least p.time (first_time b) ≡ Some p.time
first_after p [] h = refl
first_after p (q ∷ b) h =
    elim (in_domain q.time) as (λ t. with_least p.time (option_map (λ (r : Point). r.time) (cond (not t) (Some q) (find (λ (r : Point). not (in_domain r.time)) b))) ≡ Some p.time) [
      | true ↦ first_after p b h.1
      | false ↦ ap {A = ℤ} {B = Option ℤ} Some (min_first p.time q.time (is_not_after-times p q h.0))
    ]

inserted_inside : (p : Point) (b : List Point) → in_domain p.time ≡ true → first_time (insert p b) ≡ first_time b
inserted_inside p [] h = ap (λ (t : Bool). option_map (λ (r : Point). r.time) (cond (not t) (Some p) None)) h
inserted_inside p (q ∷ b) h =
    elim (is_not_after p q) as (λ t. first_time (cond t (p ∷ q ∷ b) (q ∷ insert p b)) ≡ first_time (q ∷ b)) [
      | true ↦ ap (λ (t : Bool). option_map (λ (r : Point). r.time) (cond (not t) (Some p) (find (λ (r : Point). not (in_domain r.time)) (q ∷ b)))) h
      | false ↦ elim (in_domain q.time) as (λ t. option_map (λ (r : Point). r.time) (cond (not t) (Some q) (find (λ (r : Point). not (in_domain r.time)) (insert p b)))
          ≡ option_map (λ (r : Point). r.time) (cond (not t) (Some q) (find (λ (r : Point). not (in_domain r.time)) b))) [
            | true ↦ inserted_inside p b h
            | false ↦ refl
          ]
    ]

inserted_outside : (p : Point) (b : List Point) → IsInOrder b → in_domain p.time ≡ false → first_time (insert p b) ≡ with_least p.time (first_time b)
inserted_outside p [] order h = ap (λ (t : Bool). option_map (λ (r : Point). r.time) (cond (not t) (Some p) None)) h
inserted_outside p (q ∷ b) order h =
    elim (is_not_after p q) as (λ t. is_not_after p q ≡ t → first_time (cond t (p ∷ q ∷ b) (q ∷ insert p b)) ≡ with_least p.time (first_time (q ∷ b))) [
      | true ↦ λ e. ap (λ (t : Bool). option_map (λ (r : Point). r.time) (cond (not t) (Some p) (find (λ (r : Point). not (in_domain r.time)) (q ∷ b)))) h
          ∙ sym (first_after p (q ∷ b) (e, each-weaker (λ (r : Point). IsTrue (is_not_after q r)) (λ (r : Point). IsTrue (is_not_after p r)) (λ r k. is_not_after-trans p q r e k) b order.0))
      | false ↦ λ e. elim (in_domain q.time) as (λ t. option_map (λ (r : Point). r.time) (cond (not t) (Some q) (find (λ (r : Point). not (in_domain r.time)) (insert p b)))
          ≡ with_least p.time (option_map (λ (r : Point). r.time) (cond (not t) (Some q) (find (λ (r : Point). not (in_domain r.time)) b)))) [
            | true ↦ inserted_outside p b order.1 h
            | false ↦ ap {A = ℤ} {B = Option ℤ} Some (sym (min_second p.time q.time (is_not_after-times q p (is_not_after-total p q e))))
          ]
    ] refl

-- The least time outside the domain is that of the first point outside the domain if the points are in order.
pub least-in_order : (b : List Point) → least_time_outside b ≡ first_time (sort b)
least-in_order [] = refl
least-in_order (p ∷ b) =
    let rest = filter (λ (q : Point). not (in_domain q.time)) b in
    elim (in_domain p.time) as (λ t. in_domain p.time ≡ t → least (map (λ (q : Point). q.time) (cond (not t) (p ∷ rest) rest)) ≡ first_time (insert p (sort b))) [
      | true ↦ λ h. least-in_order b ∙ sym (inserted_inside p (sort b) h)
      | false ↦ λ h. fold_least p.time (times_outside b) ∙ (ap (with_least p.time) (least-in_order b) ∙ sym (inserted_outside p (sort b) (sort-in_order b) h))
    ] refl
