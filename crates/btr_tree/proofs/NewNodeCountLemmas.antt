-- A commit writes at most 11 nodes for each end of a range of its cut, and 11 times 253 for each added point.
use Rattle.std.specs.Prelude.{◌≡◌, ℕ, ◌+◌, ◌*◌, ◌<◌, ◌≤◌, ℤ, pos, ◌+ℤ◌, ◌≤ℤ◌, ◌<ℤ◌, int_lt, Bool, true, false, ◌&&◌, ◌||◌, cond, nat_lt, nat_eq, List, [], ◌∷◌, ◌++◌, length}
use Rattle.std.specs.List.{filter, list_any}
use Rattle.std.proofs.Common.{zero, suc, refl, sym, ap, ◌∙◌, arith, subst, length-append, mul-le-mul_left}
use Rattle.std.proofs.lemmas.Int.{ints}
use Rattle.std.proofs.lemmas.Bool.Decides.{nat_tests}
use Rattle.btr_base.specs.declared.point.Point.{Point}
use Rattle.btr_base.specs.Range.{RangeValue, contains, covered}
use Rattle.btr_base.specs.Bag.{within, sort, is_within}
use Rattle.btr_base.specs.Span.{width}
use Rattle.btr_base.proofs.ListLemmas.{length-filter}
use Rattle.btr_base.specs.declared.limits.TheConstants.{LEAF_POINTS}
use Rattle.btr_tree.specs.History.{Commit, bag, IsBefore, Past, ◌▷◌}
use Rattle.btr_tree.specs.NewNodes.{NewNodeValue}
use Rattle.btr_tree.specs.Nodes.{points_of, has_points, touches, is_inner, is_node, node_version}
use Rattle.btr_tree.proofs.VersionLemmas.{points-after}
use Rattle.btr_tree.specs.Shape.{slot_start}
use Rattle.btr_tree.proofs.NodeLemmas.{slot-next, slot-end, slot-from, prefix-next, prefix-all}
use Rattle.btr_tree.proofs.CutLemmas.{outside-whole}
use Rattle.btr_tree.proofs.UntouchedNodeLemmas.{after-fewer}
use Rattle.btr_tree.specs.NewNodes.{concat_first, new_node, own_node, new_nodes}
use Rattle.btr_tree.proofs.NewNodeLemmas.{new_nodes-kept, new_nodes-none}

-- The bounds of ranges.
abbrev pub bounds : List RangeValue → List ℤ
bounds [] = []
bounds (r ∷ rs) = r.from ∷ r.to ∷ bounds rs

-- The bound lies between two times.
abbrev pub is_between : ℤ → ℤ → ℤ → Bool
is_between a b t = int_lt a t && int_lt t b

-- How many bounds lie strictly between two times.
abbrev pub between : ℤ → ℤ → List ℤ → ℕ
between a b ts = length (filter (is_between a b) ts)

pub bounds-length : (rs : List RangeValue) → length (bounds rs) ≡ 2 * length rs
bounds-length [] = refl
bounds-length (r ∷ rs) = omega (arith, bounds-length rs)

one-between : (a m b t : ℤ) → a ≤ℤ m → m ≤ℤ b → cond (is_between a m t) 1 0 + cond (is_between m b t) 1 0 ≤ cond (is_between a b t) 1 0
one-between a m b t h k = grind (arith, ints)

length-cond : {X : Type 0} (t : Bool) (x : X) (xs : List X) → length (cond t (x ∷ xs) xs) ≡ cond t 1 0 + length xs
length-cond t x xs =
    elim t as (λ t. length (cond t (x ∷ xs) xs) ≡ cond t 1 0 + length xs) [ true ↦ omega arith | false ↦ omega arith ]

pub between-parts : (a m b : ℤ) (ts : List ℤ) → a ≤ℤ m → m ≤ℤ b → between a m ts + between m b ts ≤ between a b ts
between-parts a m b [] h k = omega arith
between-parts a m b (t ∷ ts) h k =
    omega (arith, one-between a m b t h k, between-parts a m b ts h k, length-cond (is_between a m t) t (filter (is_between a m) ts), length-cond (is_between m b t) t (filter (is_between m b) ts), length-cond (is_between a b t) t (filter (is_between a b) ts))

-- A cut without a bound inside covers all of a span or none of it.
none-between : (a b t : ℤ) (ts : List ℤ) → between a b (t ∷ ts) ≡ 0 → (is_between a b t ≡ false) × (between a b ts ≡ 0)
none-between a b t ts e =
    let long = length-cond (is_between a b t) t (filter (is_between a b) ts) in
    elim (is_between a b t) as (λ u. length (cond u (t ∷ filter (is_between a b) ts) (filter (is_between a b) ts)) ≡ 0 → (u ≡ false) × (between a b ts ≡ 0)) [
      | true ↦ λ z. absurd (omega arith)
      | false ↦ λ z. (refl, z)
    ] e

whole-range : (a b t u : ℤ) (r : RangeValue) → is_between a b r.from ≡ false → is_between a b r.to ≡ false → a ≤ℤ t → t <ℤ b → contains r t ≡ true → a ≤ℤ u → u <ℤ b → contains r u ≡ true
whole-range a b t u r no_from no_to low high here l h = grind (arith, ints)

or-true : (x y : Bool) → y ≡ true → (x || y) ≡ true
or-true x y e = grind arith

pub whole-cut : (a b t u : ℤ) (rs : List RangeValue) → between a b (bounds rs) ≡ 0 → a ≤ℤ t → t <ℤ b → covered rs t ≡ true → a ≤ℤ u → u <ℤ b → covered rs u ≡ true
whole-cut a b t u [] none low high here l h = here
whole-cut a b t u (r ∷ rs) none low high here l h =
    let first = none-between a b r.from (r.to ∷ bounds rs) none in
    let second = none-between a b r.to (bounds rs) first.1 in
    elim (contains r t) as (λ x. contains r t ≡ x → (x || covered rs t) ≡ true → (contains r u || covered rs u) ≡ true) [
      | true ↦ λ e _. ap (λ x. x || covered rs u) (whole-range a b t u r first.0 second.0 low high e l h)
      | false ↦ λ _ e. or-true (contains r u) (covered rs u) (whole-cut a b t u rs second.1 low high e l h)
    ] refl here

-- ---- points between two times

one-within : (a m b : ℤ) (p : Point) → a ≤ℤ m → m ≤ℤ b → cond (is_within a m p) 1 0 + cond (is_within m b p) 1 0 ≤ cond (is_within a b p) 1 0
one-within a m b p h k = grind (arith, ints)

pub within-parts : (a m b : ℤ) (xs : List Point) → a ≤ℤ m → m ≤ℤ b → length (within a m xs) + length (within m b xs) ≤ length (within a b xs)
within-parts a m b [] h k = omega arith
within-parts a m b (p ∷ xs) h k =
    omega (arith, one-within a m b p h k, within-parts a m b xs h k, length-cond (is_within a m p) p (within a m xs), length-cond (is_within m b p) p (within m b xs), length-cond (is_within a b p) p (within a b xs))

within-time : (a b : ℤ) (p : Point) → is_within a b p ≡ true → (a ≤ℤ p.time) × (p.time <ℤ b)
within-time a b p h = (grind (arith, ints), grind (arith, ints))

-- A covered point gives a covered time.
any-time : (a b : ℤ) (xs : List Point) (rs : List RangeValue) (R : Type 0) → list_any (λ p. covered rs p.time) (within a b xs) ≡ true → ((t : ℤ) → a ≤ℤ t → t <ℤ b → covered rs t ≡ true → R) → R
any-time a b [] rs R e f = cc
any-time a b (p ∷ xs) rs R e f =
    elim (is_within a b p) as (λ u. is_within a b p ≡ u → list_any (λ q. covered rs q.time) (cond u (p ∷ within a b xs) (within a b xs)) ≡ true → R) [
      | true ↦ λ w x.
          elim (covered rs p.time) as (λ z. covered rs p.time ≡ z → (z || list_any (λ q. covered rs q.time) (within a b xs)) ≡ true → R) [
            | true ↦ λ here _. let times = within-time a b p w in f p.time times.0 times.1 here
            | false ↦ λ _ y. any-time a b xs rs R y f
          ] refl x
      | false ↦ λ _ x. any-time a b xs rs R x f
    ] refl e

-- ---- what a commit costs in a span

-- 253 for each point that is added there, and one for each end of a range inside.
abbrev pub weight : ℕ → ℤ → Commit → ℕ
weight k s c =
    253 * length (points_of k s c.added) + between s (s +ℤ pos (width k)) (bounds c.cut)

no-length : (b : List Point) → 0 < length b → b ≡ [] → ⊥
no-length b some e =
    let none = ap (length {A = Point}) e in absurd (omega arith)

by-length : {X : Type 0} (b : List X) (P : Type 0) → (length b ≡ 0 → b ≡ [] → P) → (0 < length b → P) → P
by-length [] P f g = f refl refl
by-length (x ∷ b) P f g = g (omega arith)

-- A span that the commit touches, and that has points then, has some weight.
pub weight-some : (k : ℕ) (s : ℤ) (h : Past) (c : Commit) → touches c k s (bag h) ≡ true → 0 < length (points_of k s (bag (c ▷ h))) → 1 ≤ weight k s c
weight-some k s h c touched some =
    let e = s +ℤ pos (width k) in
    by-length (points_of k s c.added) (1 ≤ weight k s c) (λ _ none.
    by-length (filter (is_between s e) (bounds c.cut)) (1 ≤ weight k s c) (λ no_bound _.
    let cut : list_any (λ p. covered c.cut p.time) (points_of k s (bag h)) ≡ true = sym (ap (λ x. has_points x || list_any (λ p. covered c.cut p.time) (points_of k s (bag h))) none) ∙ touched in
    any-time s e (bag h) c.cut (1 ≤ weight k s c) cut (λ t low high here.
    let gone = outside-whole s e (bag h) c.cut (λ u l m. whole-cut s e t u c.cut no_bound low high here l m) in
    absurd (no-length (points_of k s (bag (c ▷ h))) some (points-after k s c (bag h) ∙ ap (λ x. sort (x ++ points_of k s c.added)) gone ∙ ap sort none)))) (λ more. omega arith)) (λ more. omega arith)

own-one : (k : ℕ) (s : ℤ) (above : List Point → Bool) (h : Past) (v : ℕ) → length (own_node k s above h v) ≤ 1
own-one k s above h v =
    elim (is_node above k s (bag h) && nat_eq (node_version above k s h) v) as (λ t. length (cond t (new_node k s above h ∷ []) []) ≤ 1) [ true ↦ omega arith | false ↦ omega arith ]

-- ---- nodes are not more than their points

prefix-points : (k : ℕ) (s : ℤ) (h : Past) (f : ℕ → List NewNodeValue) → ((i : ℕ) → length (f i) ≤ suc k * length (points_of k (slot_start k s i) (bag h))) → (n : ℕ) → length (concat_first n f) ≤ suc k * length (within s (slot_start k s n) (bag h))
prefix-points k s h f each zero = omega arith
prefix-points k s h f each (suc n) =
    let next : n + 1 ≡ suc n = omega arith in
    let before = within s (slot_start k s n) (bag h) in
    let here = points_of k (slot_start k s n) (bag h) in
    let whole : within s (slot_start k s (suc n)) (bag h) ≡ before ++ here = sym (ap (λ j. within s (slot_start k s j) (bag h)) next) ∙ prefix-next k s n h in
    let long : length (within s (slot_start k s (suc n)) (bag h)) ≡ length before + length here = ap length whole ∙ length-append before here in
    let product : suc k * length (within s (slot_start k s (suc n)) (bag h)) ≡ suc k * (length before + length here) = ap (λ m. suc k * m) long in
    omega (arith, length-append (concat_first n f) (f n), prefix-points k s h f each n, each n)

pub new_nodes-points : (k : ℕ) (s : ℤ) (above : List Point → Bool) (h : Past) (v : ℕ) → length (new_nodes k s above h v) ≤ suc k * length (points_of k s (bag h))
new_nodes-points zero s above h v =
    by-length (points_of 0 s (bag h)) _ (λ _ none. let e = ap (length {A = NewNodeValue}) (new_nodes-none zero s above h v none) in omega arith) (λ more. let one = own-one zero s above h v in omega arith)
new_nodes-points (suc k) s above h v =
    let b = points_of (suc k) s (bag h) in
    by-length b _ (λ _ none. let e = ap (length {A = NewNodeValue}) (new_nodes-none (suc k) s above h v none) in omega arith) (λ more.
    let f = λ (i : ℕ). new_nodes k (slot_start k s i) (is_inner (suc k) s) h v in
    let below : length (concat_first 64 f) ≤ suc k * length b = subst (λ x. length (concat_first 64 f) ≤ suc k * length x) (prefix-all k s h) (prefix-points k s h f (λ i. new_nodes-points k (slot_start k s i) (is_inner (suc k) s) h v) 64) in
    let one = own-one (suc k) s above h v in
    let some : length (cond (is_inner (suc k) s (bag h)) (concat_first 64 f) []) ≤ suc k * length b = elim (is_inner (suc k) s (bag h)) as (λ t. length (cond t (concat_first 64 f) []) ≤ suc k * length b) [ true ↦ below | false ↦ omega arith ] in
    let twice : suc (suc k) * length b ≡ suc k * length b + length b = omega arith in
    omega (arith, length-append (cond (is_inner (suc k) s (bag h)) (concat_first 64 f) []) (own_node (suc k) s above h v)))

-- ---- nodes of the commit's version

prefix-weight : ℕ → ℤ → Commit → ℕ → ℕ
prefix-weight k s c n = 253 * length (within s (slot_start k s n) c.added) + between s (slot_start k s n) (bounds c.cut)

prefix-few : (k : ℕ) (s : ℤ) (c : Commit) (f : ℕ → List NewNodeValue) → ((i : ℕ) → i < 64 → length (f i) ≤ suc k * weight k (slot_start k s i) c) → (n : ℕ) → n ≤ 64 → length (concat_first n f) ≤ suc k * prefix-weight k s c n
unfolding prefix-weight
prefix-few k s c f each zero le = omega arith
prefix-few k s c f each (suc n) le =
    let next : slot_start k s (suc n) ≡ slot_start k s n +ℤ pos (width k) = (let e : n + 1 ≡ suc n = omega arith in sym (ap (slot_start k s) e)) ∙ slot-next k s n in
    let low = slot-from k s n in
    let points = within-parts s (slot_start k s n) (slot_start k s (suc n)) c.added low (omega (arith, ints)) in
    let ends = between-parts s (slot_start k s n) (slot_start k s (suc n)) (bounds c.cut) low (omega (arith, ints)) in
    let here : weight k (slot_start k s n) c ≡ 253 * length (within (slot_start k s n) (slot_start k s (suc n)) c.added) + between (slot_start k s n) (slot_start k s (suc n)) (bounds c.cut) = ap (λ e. 253 * length (within (slot_start k s n) e c.added) + between (slot_start k s n) e (bounds c.cut)) (sym next) in
    let sum : prefix-weight k s c n + weight k (slot_start k s n) c ≤ prefix-weight k s c (suc n) = omega arith in
    let product : suc k * (prefix-weight k s c n + weight k (slot_start k s n) c) ≤ suc k * prefix-weight k s c (suc n) = mul-le-mul_left (suc k) sum in
    let before = prefix-few k s c f each n (omega arith) in
    let more = each n (omega arith) in
    let parts : suc k * (prefix-weight k s c n + weight k (slot_start k s n) c) ≡ suc k * prefix-weight k s c n + suc k * weight k (slot_start k s n) c = omega arith in
    omega (arith, length-append (concat_first n f) (f n))

prefix-end : (k : ℕ) (s : ℤ) (c : Commit) → prefix-weight k s c 64 ≡ weight (suc k) s c
unfolding prefix-weight
prefix-end k s c = ap (λ e. 253 * length (within s e c.added) + between s e (bounds c.cut)) (slot-end k s)

not-inner : (n : ℕ) → nat_lt LEAF_POINTS n ≡ false → n ≤ LEAF_POINTS
not-inner n e = grind (arith, nat_tests)

is-inner : (n : ℕ) → nat_lt LEAF_POINTS n ≡ true → LEAF_POINTS < n
is-inner n e = grind (arith, nat_tests)

-- A span that was no inner node and is one after the commit.
fresh-few : (k : ℕ) (s : ℤ) (above : List Point → Bool) (h : Past) (c : Commit) (v : ℕ) → is_inner k s (bag h) ≡ false → LEAF_POINTS < length (points_of k s (bag (c ▷ h))) → length (new_nodes k s above (c ▷ h) v) ≤ suc k * weight k s c
fresh-few k s above h c v leaf many =
    let few : length (points_of k s (bag h)) ≤ LEAF_POINTS = not-inner (length (points_of k s (bag h))) leaf in
    let fewer = after-fewer k s h c in
    let light : length (points_of k s (bag (c ▷ h))) ≤ weight k s c = omega arith in
    let product : suc k * length (points_of k s (bag (c ▷ h))) ≤ suc k * weight k s c = mul-le-mul_left (suc k) light in
    omega (arith, new_nodes-points k s above (c ▷ h) v)

pub new_nodes-few : (k : ℕ) (s : ℤ) (above : List Point → Bool) (h : Past) (c : Commit) (v : ℕ) → above (bag h) ≡ true → 0 < v → IsBefore v h → length (new_nodes k s above (c ▷ h) v) ≤ suc k * weight k s c
new_nodes-few zero s above h c v w some before =
    elim (touches c zero s (bag h)) as (λ t. touches c zero s (bag h) ≡ t → length (new_nodes zero s above (c ▷ h) v) ≤ 1 * weight zero s c) [
      | false ↦ λ e. let none = ap (length {A = NewNodeValue}) (new_nodes-kept zero s above h c v w e some before) in omega arith
      | true ↦ λ e.
          by-length (points_of zero s (bag (c ▷ h))) _ (λ _ none. let gone = ap (length {A = NewNodeValue}) (new_nodes-none zero s above (c ▷ h) v none) in omega arith) (λ more.
          let one = own-one zero s above (c ▷ h) v in
          let heavy = weight-some zero s h c e more in
          omega arith)
    ] refl
new_nodes-few (suc k) s above h c v w some before =
    elim (touches c (suc k) s (bag h)) as (λ t. touches c (suc k) s (bag h) ≡ t → length (new_nodes (suc k) s above (c ▷ h) v) ≤ suc (suc k) * weight (suc k) s c) [
      | false ↦ λ e. let none = ap (length {A = NewNodeValue}) (new_nodes-kept (suc k) s above h c v w e some before) in omega arith
      | true ↦ λ e.
          by-length (points_of (suc k) s (bag (c ▷ h))) _ (λ _ none. let gone = ap (length {A = NewNodeValue}) (new_nodes-none (suc k) s above (c ▷ h) v none) in omega arith) (λ more.
          elim (is_inner (suc k) s (bag h)) as (λ t. is_inner (suc k) s (bag h) ≡ t → length (new_nodes (suc k) s above (c ▷ h) v) ≤ suc (suc k) * weight (suc k) s c) [
            | true ↦ λ inner.
                let f = λ (i : ℕ). new_nodes k (slot_start k s i) (is_inner (suc k) s) (c ▷ h) v in
                let heavy = weight-some (suc k) s h c e more in
                let one = own-one (suc k) s above (c ▷ h) v in
                let below : length (concat_first 64 f) ≤ suc k * weight (suc k) s c = subst (λ n. length (concat_first 64 f) ≤ suc k * n) (prefix-end k s c) (prefix-few k s c f (λ i lt. new_nodes-few k (slot_start k s i) (is_inner (suc k) s) h c v inner some before) 64 (omega arith)) in
                let either : length (cond (is_inner (suc k) s (bag (c ▷ h))) (concat_first 64 f) []) ≤ suc k * weight (suc k) s c = elim (is_inner (suc k) s (bag (c ▷ h))) as (λ t. length (cond t (concat_first 64 f) []) ≤ suc k * weight (suc k) s c) [ true ↦ below | false ↦ omega arith ] in
                let twice : suc (suc k) * weight (suc k) s c ≡ suc k * weight (suc k) s c + weight (suc k) s c = omega arith in
                omega (arith, length-append (cond (is_inner (suc k) s (bag (c ▷ h))) (concat_first 64 f) []) (own_node (suc k) s above (c ▷ h) v))
            | false ↦ λ was.
                elim (is_inner (suc k) s (bag (c ▷ h))) as (λ t. is_inner (suc k) s (bag (c ▷ h)) ≡ t → length (new_nodes (suc k) s above (c ▷ h) v) ≤ suc (suc k) * weight (suc k) s c) [
                  | true ↦ λ yes. fresh-few (suc k) s above h c v was (is-inner (length (points_of (suc k) s (bag (c ▷ h)))) yes)
                  | false ↦ λ leaf.
                      let heavy = weight-some (suc k) s h c e more in
                      let one = own-one (suc k) s above (c ▷ h) v in
                      let only : length (new_nodes (suc k) s above (c ▷ h) v) ≡ length (own_node (suc k) s above (c ▷ h) v) = ap (λ t. length (cond t (concat_first 64 (λ i. new_nodes k (slot_start k s i) (is_inner (suc k) s) (c ▷ h) v)) [] ++ own_node (suc k) s above (c ▷ h) v)) leaf in
                      let twice : suc (suc k) * weight (suc k) s c ≡ suc k * weight (suc k) s c + weight (suc k) s c = omega arith in
                      omega arith
                ] refl
          ] refl)
    ] refl

filter-length : {X : Type 0} (f : X → Bool) (xs : List X) → length (filter f xs) ≤ length xs
filter-length f xs = length-filter f xs

-- The whole of a commit, and the root's height.
pub new_nodes-bound : (s : ℤ) (above : List Point → Bool) (h : Past) (c : Commit) (v : ℕ) → above (bag h) ≡ true → 0 < v → IsBefore v h → length (new_nodes 10 s above (c ▷ h) v) ≤ 11 * (253 * length c.added + 2 * length c.cut)
new_nodes-bound s above h c v w some before =
    let few = new_nodes-few 10 s above h c v w some before in
    let points = length-filter (is_within s (s +ℤ pos (width 10))) c.added in
    let ends = filter-length (is_between s (s +ℤ pos (width 10))) (bounds c.cut) in
    let two = bounds-length c.cut in
    omega arith
