use Rattle.std.proofs.Common.{◌≡◌, ◌-◌, ◌<◌, ◌≤◌, ℕ, ℤ, ◌≤ℤ◌, ◌<ℤ◌, true, false, not, int_lt, List, length, ◌∙◌, subst, arith, get_or, take, drop, w64, to_z, of_z}
use Rattle.std.specs.List.{filter}
use Rattle.std.proofs.lemmas.List.{take_rest}
use Rattle.std.proofs.lemmas.Int.{ints, to_z-of_z}
use Rattle.btr_base.specs.declared.point.Point.{Point}
use Rattle.btr_base.specs.Bag.{IsInOrder}
use Rattle.btr_base.proofs.PointLemmas.{times-rise}
use Rattle.btr_base.proofs.ListLemmas.{parted-take, parted-drop}
use Rattle.btr_diff.proofs.points.parted_near.Goals as goal

lt-true : (x y z : ℤ) → x ≤ℤ y → y <ℤ z → int_lt x z ≡ true
lt-true x y z h k = grind (arith, ints)

lt-false : (x y z : ℤ) → x ≤ℤ y → z ≤ℤ x → int_lt y z ≡ false
lt-false x y z h k = grind (arith, ints)

-- The place at which a walk through points in order ends: the last point that it passed is before the time, and the next one is not.
record IsEnd (t : ℤ) (b : List Point) (k : ℕ) : Type 0 where
  low : k ≤ length b
  last : (d : Point) → 0 < k → (get_or b (k - 1) d).time <ℤ t
  next : (d : Point) → k < length b → t ≤ℤ (get_or b k d).time

early-at : (t : ℤ) (b : List Point) (k : ℕ) → IsInOrder b → IsEnd t b k → (j : ℕ) (d : Point) → j < k → int_lt (get_or b j d).time t ≡ true
early-at t b k order h j d lt =
    let low = h.low in
    lt-true (get_or b j d).time (get_or b (k - 1) d).time t (times-rise b j (k - 1) d order (omega arith) (omega arith)) (h.last d (omega arith))

late-at : (t : ℤ) (b : List Point) (k : ℕ) → IsInOrder b → IsEnd t b k → (j : ℕ) (d : Point) → k ≤ j → j < length b → int_lt (get_or b j d).time t ≡ false
late-at t b k order h j d le lt =
    lt-false (get_or b k d).time (get_or b j d).time t (times-rise b k j d order le lt) (h.next d (omega arith))

end-take : (t : ℤ) (b : List Point) (k : ℕ) → IsInOrder b → IsEnd t b k → take k b ≡ filter (λ p. int_lt p.time t) b
end-take t b k order h =
    parted-take (λ p. int_lt p.time t) k b (λ j d lt _. early-at t b k order h j d lt) (late-at t b k order h)

end-drop : (t : ℤ) (b : List Point) (k : ℕ) → IsInOrder b → IsEnd t b k → drop k b ≡ filter (λ p. not (int_lt p.time t)) b
end-drop t b k order h =
    parted-drop (λ p. int_lt p.time t) k b (λ j d lt _. early-at t b k order h j d lt) (late-at t b k order h)

pub returns-clause-before : goal.returns-clause-before
returns-clause-before c =
    let b = c.args.points.now in
    let k = c.place_near-place.result in
    let time = to_z w64 (of_z w64 c.args.time) in
    let same : time ≡ c.args.time = to_z-of_z w64 c.args.time c.ranges.time in
    let ends : IsEnd time b k = record { low = c.place_near-place.ensures.within; last = c.place_near-place.ensures.before; next = c.place_near-place.ensures.from } in
    end-take c.args.time b k c.requires (subst (λ t. IsEnd t b k) same ends)

pub returns-clause-from : goal.returns-clause-from
returns-clause-from c =
    let b = c.args.points.now in
    let k = c.place_near-place.result in
    let time = to_z w64 (of_z w64 c.args.time) in
    let same : time ≡ c.args.time = to_z-of_z w64 c.args.time c.ranges.time in
    let ends : IsEnd time b k = record { low = c.place_near-place.ensures.within; last = c.place_near-place.ensures.before; next = c.place_near-place.ensures.from } in
    take_rest b k ∙ end-drop c.args.time b k c.requires (subst (λ t. IsEnd t b k) same ends)
