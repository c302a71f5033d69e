use Rattle.std.proofs.Common.{refl, Ordering, Less, Equal, Greater, Some, ℕ, ◌≡◌, ◌+◌, ◌<◌, true, false, not, pos, List, [], ◌∷◌, ◌++◌, ◌∙◌, sym, ap, subst, arith, append_assoc, append-nil, length, get_or, drop}
use Rattle.std.specs.List.{AllByRecursion}
use Rattle.std.specs.Ordering.{int_cmp, is_lt, is_some_and, ordering_then, partial_ordering_then}
use Rattle.std.proofs.lemmas.List.{drop_more, take_rest, drop_all}
use Rattle.std.proofs.lemmas.Int.{ints}
use Rattle.btr_base.specs.declared.point.Point.{Point}
use Rattle.btr_base.specs.Point.{point_cmp, is_not_after}
use Rattle.btr_base.specs.Bag.{IsInOrder, sort}
use Rattle.btr_base.proofs.PointLemmas.{each-before, drop-in_order, sort-of_order, sort-take_first, sort-take_second}
use Rattle.btr_base.proofs.bag.merged.Goals as goal
use Rattle.btr_base.proofs.bag.merged.Goals.{then-loop-i-test+else-j-b, else-loop-i-test}

partial-lt : (x y : Ordering) → is_some_and is_lt (partial_ordering_then (Some x) (Some y)) ≡ is_lt (ordering_then x y)
partial-lt Less y = refl
partial-lt Equal y = refl
partial-lt Greater y = refl

points-lt : (p q : Point) → is_some_and is_lt (partial_ordering_then (Some (int_cmp p.time q.time)) (Some (int_cmp p.value q.value))) ≡ is_lt (point_cmp p q)
points-lt p q = partial-lt (int_cmp p.time q.time) (int_cmp p.value q.value)

lt-before : (p q : Point) → is_lt (point_cmp p q) ≡ true → is_not_after p q ≡ true
lt-before p q h = grind (arith, ints)

module _ (a b : List Point) (i j : ℕ) (d : Point) (in_a : i < length a) (in_b : j < length b) (order_a : IsInOrder a) (order_b : IsInOrder b) where
  rest_a : IsInOrder (get_or a i d ∷ drop (i + 1) a)
  rest_a = subst IsInOrder (drop_more a i d in_a) (drop-in_order i a order_a)

  rest_b : IsInOrder (get_or b j d ∷ drop (j + 1) b)
  rest_b = subst IsInOrder (drop_more b j d in_b) (drop-in_order j b order_b)

  take_second : is_lt (point_cmp (get_or b j d) (get_or a i d)) ≡ true → sort (drop i a ++ drop j b) ≡ get_or b j d ∷ sort (drop i a ++ drop (j + 1) b)
  take_second lt =
      let p = get_or b j d in
      let each = subst (AllByRecursion (λ q. is_not_after p q ≡ true)) (sym (drop_more a i d in_a)) (each-before p (get_or a i d) (drop (i + 1) a) rest_a (lt-before p (get_or a i d) lt)) in
      ap (λ c. sort (drop i a ++ c)) (drop_more b j d in_b) ∙ sort-take_second p (drop i a) (drop (j + 1) b) each rest_b.0

  take_first : is_lt (point_cmp (get_or b j d) (get_or a i d)) ≡ false → sort (drop i a ++ drop j b) ≡ get_or a i d ∷ sort (drop (i + 1) a ++ drop j b)
  take_first le =
      let p = get_or a i d in
      let each = subst (AllByRecursion (λ q. is_not_after p q ≡ true)) (sym (drop_more b j d in_b)) (each-before p (get_or b j d) (drop (j + 1) b) rest_b (ap not le)) in
      ap (λ c. sort (c ++ drop j b)) (drop_more a i d in_a) ∙ sort-take_first p (drop (i + 1) a) (drop j b) rest_a.0 each

merged-more : (all old new whole : List Point) (p : Point) → all ++ old ≡ whole → old ≡ p ∷ new → (all ++ p ∷ []) ++ new ≡ whole
merged-more all old new whole p h e = append_assoc all (p ∷ []) new ∙ ap (λ c. all ++ c) (sym e) ∙ h

merged-all : (all a b whole : List Point) → all ++ sort (a ++ b) ≡ whole → IsInOrder (a ++ b) → (all ++ a) ++ b ≡ whole
merged-all all a b whole h k = append_assoc all a b ∙ ap (λ c. all ++ c) (sym (sort-of_order (a ++ b) k)) ∙ h

pub loop-i-preserved-then-lt : goal.loop-i-preserved-then-lt
loop-i-preserved-then-lt c =
    let a = c.args.a.now in
    let b = c.args.b.now in
    let d : Point = record { time = pos 0; value = pos 0 } in
    let i = c.loop-i.i in
    let j = c.loop-i.j in
    let step = take_second a b i j d (omega arith) (omega arith) c.requires.a c.requires.b (sym (c.lt.ensures ∙ points-lt (get_or b j d) (get_or a i d)) ∙ c.if-lt.true) in
    let new = sort (drop i a ++ drop (j + 1) b) in
    (omega arith, omega arith, ap (λ v. v ++ new) c.in_ok-push.ensures.items ∙ merged-more c.loop-i.all.items (sort (drop i a ++ drop j b)) new (sort (a ++ b)) (get_or b j d) c.loop-i.invariant.2 step)

pub loop-i-preserved : goal.loop-i-preserved
loop-i-preserved c =
    let a = c.args.a.now in
    let b = c.args.b.now in
    let d : Point = record { time = pos 0; value = pos 0 } in
    let i = c.loop-i.i in
    let j = c.loop-i.j in
    let step = take_first a b i j d (omega arith) (omega arith) c.requires.a c.requires.b (sym (c.lt.ensures ∙ points-lt (get_or b j d) (get_or a i d)) ∙ c.if-lt.false) in
    let new = sort (drop (i + 1) a ++ drop j b) in
    (omega arith, omega arith, ap (λ v. v ++ new) c.in_ok-push-2.ensures.items ∙ merged-more c.loop-i.all.items (sort (drop i a ++ drop j b)) new (sort (a ++ b)) (get_or a i d) c.loop-i.invariant.2 step)

pub returns : goal.returns
returns c =
    let a = c.args.a.now in
    let b = c.args.b.now in
    let i = c.loop-i.i in
    let j = c.loop-i.j in
    let first = c.in_ok-extend_from_slice.ensures.items ∙ ap (λ v. c.loop-i.all.items ++ v) (take_rest a i) in
    let both : c.extend_from_slice-2.new.self.items ≡ (c.loop-i.all.items ++ drop i a) ++ drop j b = c.in_ok-extend_from_slice-2.ensures.items ∙ (λ k. first k ++ take_rest b j k) in
    let order_a = drop-in_order i a c.requires.a in
    let order_b = drop-in_order j b c.requires.b in
    let order : IsInOrder (drop i a ++ drop j b) = elim c.loop-i-test.branch [
      | then-loop-i-test+else-j-b w ↦ subst (λ v. IsInOrder (drop i a ++ v)) (sym (drop_all j b (omega arith))) (subst IsInOrder (sym (append-nil (drop i a))) order_a)
      | else-loop-i-test w ↦ subst (λ v. IsInOrder (v ++ drop j b)) (sym (drop_all i a (omega arith))) order_b
    ]
    in
    both ∙ merged-all c.loop-i.all.items (drop i a) (drop j b) (sort (a ++ b)) c.loop-i.invariant.2 order
