use Rattle.std.proofs.Common.{rules, pos, inl, inr, ◌≡◌, ◌<◌, ◌≤◌, ◌-◌, ◌+◌, ◌<ℤ◌, ◌≤ℤ◌, true, false, int_lt, zero, suc, to_z, of_z, w64, ℤ, ℕ, List, length, take, drop, get_or, get_or-take, get_or-drop, length-take, length-drop, min, ap, sym, subst, ◌∙◌, add-zero, arith}
use Rattle.std.specs.List.Sorted.{IsPartitionedBy, IsPartitionPoint}
use Rattle.std.proofs.lemmas.List.Sorted.{IsPartitionPoint-from_clause}
use Rattle.std.proofs.Math.Nat.{eq-or-lt_of_le}
use Rattle.std.proofs.lemmas.List.{get_or_default}
use Rattle.std.proofs.lemmas.Int.{ints, to_z-of_z}
use Rattle.btr_base.specs.declared.point.Point.{Point}
use Rattle.btr_base.specs.Bag.{IsInOrder}
use Rattle.btr_base.proofs.PointLemmas.{times-rise}
use Rattle.btr_base.proofs.Places.{lt-true, lt-false}
use Rattle.btr_diff.proofs.points.last_before.Goals.{then-loop-high-test+else-points-high, else-loop-high-test}
use Rattle.btr_diff.proofs.points.last_before.Goals as goal

-- The points between two indices.
abbrev between : ℕ → ℕ → List Point → List Point
between low end b = take (end - (low + 1)) (drop (low + 1) b)

between-at : (b : List Point) (low end i : ℕ) (d : Point) → i < end - (low + 1) → get_or (between low end b) i d ≡ get_or b (low + 1 + i) d
between-at b low end i d lt = get_or-take (end - (low + 1)) (drop (low + 1) b) i d lt ∙ get_or-drop (low + 1) b i d

between-length : (b : List Point) (low end : ℕ) → end ≤ length b → length (between low end b) ≡ end - (low + 1)
between-length b low end high =
    length-take (end - (low + 1)) (drop (low + 1) b) ∙ ap (min (end - (low + 1))) (length-drop (low + 1) b) ∙ omega arith

true-lt : (x y t : ℤ) → x ≤ℤ y → int_lt y t ≡ true → int_lt x t ≡ true
true-lt x y t h k = grind (arith, ints)

-- Those before a time come first.
between-parted : (b : List Point) (low end : ℕ) (t : ℤ) → IsInOrder b → end ≤ length b → IsPartitionedBy (λ q. int_lt q.time t) (between low end b)
between-parted b low end t order high i j d le lt h =
    let long = between-length b low end high in
    let rise = times-rise b (low + 1 + i) (low + 1 + j) d order (omega arith) (omega arith) in
    let first = between-at b low end i d (omega arith) in
    let second = between-at b low end j d (omega arith) in
    ap (λ (q : Point). int_lt q.time t) first ∙ true-lt (get_or b (low + 1 + i) d).time (get_or b (low + 1 + j) d).time t rise (sym (ap (λ (q : Point). int_lt q.time t) second) ∙ h)

-- So many of the points after a point before a time, up to another index, are before the time. The point at that index is not.
record IsFound (t : ℤ) (b : List Point) (low end more : ℕ) : Type 0 where
  first : low < end
  inside : end ≤ length b
  last : (d : Point) → (get_or b low d).time <ℤ t
  next : (d : Point) → end < length b → t ≤ℤ (get_or b end d).time
  few : more ≤ end - (low + 1)
  divides : IsPartitionPoint (λ q. int_lt q.time t ≡ true) (λ q. int_lt q.time t ≡ false) (between low end b) more

found-before : (t : ℤ) (b : List Point) (low end more : ℕ) → IsFound t b low end more → (d : Point) → (get_or b (low + more) d).time <ℤ t
found-before t b low end zero h d = subst (λ n. (get_or b n d).time <ℤ t) (sym (add-zero low)) (h.last d)
found-before t b low end (suc k) h d =
    let few = h.few in
    let high = h.inside in
    let long = between-length b low end high in
    let passes = h.divides.0 k d (omega arith) (omega arith) in
    let at = between-at b low end k d (omega arith) in
    let place : low + 1 + k ≡ low + suc k = omega arith in
    lt-true (get_or b (low + suc k) d).time t (ap (λ n. int_lt (get_or b n d).time t) (sym place) ∙ sym (ap (λ (q : Point). int_lt q.time t) at) ∙ passes)

found-from : (t : ℤ) (b : List Point) (low end more : ℕ) → IsFound t b low end more → (d : Point) → low + more + 1 < length b → t ≤ℤ (get_or b (low + more + 1) d).time
found-from t b low end more h d lt =
    let few = h.few in
    let high = h.inside in
    let first = h.first in
    elim (eq-or-lt_of_le few) [
      | inl all ↦
          let place : end ≡ low + more + 1 = omega arith in
          subst (λ n. t ≤ℤ (get_or b n d).time) place (h.next d (omega arith))
      | inr less ↦
          let long = between-length b low end high in
          let fails = h.divides.1 more d (omega arith) (omega arith) in
          let at = between-at b low end more d less in
          let place : low + 1 + more ≡ low + more + 1 = omega arith in
          lt-false (get_or b (low + more + 1) d).time t (ap (λ n. int_lt (get_or b n d).time t) (sym place) ∙ sym (ap (λ (q : Point). int_lt q.time t) at) ∙ fails)
    ]

found : (c : goal.After-partition_point) → IsFound c.args.time c.args.points.now c.loop-high.low c.min-end.result c.partition_point.result
found c =
    let b = c.args.points.now in
    let low = c.loop-high.low in
    let end = c.min-end.result in
    let time = to_z w64 (of_z w64 c.args.time) in
    let same : time ≡ c.args.time = to_z-of_z w64 c.args.time c.ranges.time in
    let i = c.loop-high.invariant in
    let is = c.min-end.ensures in
    let inside : end ≤ length b = omega arith in
    let first : low < end = omega arith in
    let long = between-length b low end inside in
    let point = IsPartitionPoint-from_clause (λ q. int_lt q.time time) (between low end b) c.partition_point.result c.partition_point.ensures.partitioned (between-parted b low end time c.requires.order inside) (λ a q k e. search rules) in
    record {
      first = first;
      inside = inside;
      last = λ d. subst (λ t. (get_or b low d).time <ℤ t) same (i.last d);
      next = λ d lt. elim c.loop-high-test.branch [
        | then-loop-high-test+else-points-high w ↦
            let none : Point = record { time = pos 0; value = pos 0 } in
            let late : c.args.time ≤ℤ (get_or b c.loop-high.high none).time = omega (arith, ints) in
            let place : c.loop-high.high ≡ end = omega arith in
            subst (λ q. c.args.time ≤ℤ q.time) (get_or_default b end none d lt) (subst (λ n. c.args.time ≤ℤ (get_or b n none).time) place late)
        | else-loop-high-test w ↦ absurd (omega arith)
      ];
      few = omega (arith, c.partition_point.ensures.bound);
      divides = subst (λ t. IsPartitionPoint (λ q. int_lt q.time t ≡ true) (λ q. int_lt q.time t ≡ false) (between low end b) c.partition_point.result) same point;
    }

pub returns-clause-before : goal.returns-clause-before
returns-clause-before c = found-before c.args.time c.args.points.now c.loop-high.low c.min-end.result c.partition_point.result (found c)

pub returns-clause-from : goal.returns-clause-from
returns-clause-from c = found-from c.args.time c.args.points.now c.loop-high.low c.min-end.result c.partition_point.result (found c)
