-- Lemmas on the root of a tree.
use Rattle.std.specs.Prelude.{◌≡◌, ℕ, ◌*◌, ◌≤◌, ℤ, pos, ◌+ℤ◌, ◌≤ℤ◌, ◌<ℤ◌, true, not, List, ◌++◌, length, Option, None}
use Rattle.std.specs.List.{AllByRecursion}
use Rattle.std.proofs.Common.{refl, sym, ap, ◌∙◌, arith, subst, inl, inr}
use Rattle.std.proofs.lemmas.Int.{ints}
use Rattle.btr_base.specs.declared.limits.TheConstants.{FIRST, END}
use Rattle.btr_base.specs.declared.point.Point.{Point}
use Rattle.btr_base.specs.Point.{InDomain, AreInDomain}
use Rattle.btr_base.specs.Range.{RangeValue, IsRange, covered}
use Rattle.btr_base.specs.Bag.{within, outside, sort, is_within}
use Rattle.btr_base.proofs.PointLemmas.{each-sort}
use Rattle.btr_base.proofs.ListLemmas.{each-append, each-filter, each-weaker, filter-passes}
use Rattle.btr_base.specs.Span.{width, time_at, SpanValue, IsSpan}
use Rattle.btr_base.proofs.SpanLemmas.{width-root}
use Rattle.btr_base.proofs.WithinLemmas.{within-all}
use Rattle.btr_base.specs.Agg.{AggValue, agg, no_points}
use Rattle.btr_base.proofs.AggLemmas.{agg-count}
use Rattle.btr_base.specs.declared.limits.TheConstants.{MAX_POINTS}
use Rattle.btr_tree.specs.declared.fault.TreeFault.{TreeFault}
use Rattle.btr_tree.specs.declared.fault.TreeFault.TheVariants.{Crowded, TooManyPoints, Want}
use Rattle.btr_tree.specs.History.{Commit, bag, Past, Opened, nothing, ◌▷◌}
use Rattle.btr_tree.specs.Nodes.{points_of, above_root}
use Rattle.btr_tree.specs.declared.node.NodeData.{NodeData}
use Rattle.btr_tree.specs.Shape.{IsChild}
use Rattle.btr_tree.specs.Change.{end_of, IsChange}
use Rattle.btr_tree.specs.Crowd.{HasNoCrowdedSpan, IsCrowdedFault}
use Rattle.btr_tree.proofs.UntouchedNodeLemmas.{child-room}
use Rattle.btr_tree.specs.Root.{root_part, TreeValue, IsTree, IsOpened, IsSomeTree, IsTreeFault}

pub end-root : FIRST +ℤ pos (width 10) ≡ END
end-root = ap (λ w. FIRST +ℤ pos w) width-root

pub root-aligned : IsSpan root_part
root-aligned = (
  0,
  record {
    height = omega arith;
    start = let e : 0 * width 10 ≡ 0 = omega arith in omega (arith, ints);
    ends = let e = end-root in omega (arith, ints);
  },
)

-- A range has a time of the root's span.
pub root-meets : (inside r : RangeValue) (span : SpanValue) → IsRange inside → inside ≡ r → span ≡ root_part → (r.from <ℤ end_of span) × (span.start <ℤ r.to)
root-meets inside r span h e whole =
    let low = h.begins in
    let full = h.not_empty in
    let high = h.ends in
    let from = ap (λ (x : RangeValue). x.from) e in
    let to = ap (λ (x : RangeValue). x.to) e in
    let end : end_of span ≡ END = ap end_of whole ∙ end-root in
    let start : span.start ≡ FIRST = ap (λ (s : SpanValue). s.start) whole in
    (omega (arith, ints), omega (arith, ints))

-- Points that are all between two times.
between-each : (a b : ℤ) (xs ys : List Point) → AllByRecursion (λ p. is_within a b p ≡ true) ys → ys ≡ xs → AllByRecursion (λ p. is_within a b p ≡ true) xs
between-each a b xs ys each e = subst (AllByRecursion (λ p. is_within a b p ≡ true)) e each

pub in-domain : (b : List Point) → points_of 10 FIRST b ≡ b → AreInDomain b
in-domain b e =
    let each = between-each FIRST (FIRST +ℤ pos (width 10)) b (points_of 10 FIRST b) (filter-passes (is_within FIRST (FIRST +ℤ pos (width 10))) b) e in
    each-weaker (λ p. is_within FIRST (FIRST +ℤ pos (width 10)) p ≡ true) (λ p. InDomain p.time) (λ p w. let f = end-root in (grind (arith, ints), grind (arith, ints))) b each

-- The points of the root's span are all points.
pub root-points : (b : List Point) → AreInDomain b → points_of 10 FIRST b ≡ b
root-points b h = ap (λ e. within FIRST e b) end-root ∙ within-all FIRST END b h

pub domain-after : (h : Past) (c : Commit) → AreInDomain (bag h) → AreInDomain c.added → AreInDomain (bag (c ▷ h))
domain-after h c old new =
    each-sort (λ p. InDomain p.time) (outside (bag h) c.cut ++ c.added) (each-append (λ p. InDomain p.time) (outside (bag h) c.cut) c.added (each-filter (λ p. InDomain p.time) (λ p. not (covered c.cut p.time)) (bag h) old) new)

pub tree-count : (h : Past) (t : TreeValue) → IsTree h t → t.total.count ≡ length (bag h)
tree-count h t x = ap (λ u. u.count) x.total ∙ agg-count (bag h)

-- The tree after a commit.
pub tree-of : (h : Past) (p : Option NodeData) (total : AggValue) → AreInDomain (bag h) → IsChild 10 FIRST above_root h p → total ≡ agg (points_of 10 FIRST (bag h)) → total.count ≤ MAX_POINTS → IsTree h (record { span = root_part; node = p; total = total })
tree-of h p total times holds counted few =
    let all = root-points (bag h) times in
    let is : total ≡ agg (bag h) = counted ∙ ap agg all in
    record {
      whole = refl;
      node = holds;
      total = is;
      times = times;
      few = let count : total.count ≡ length (bag h) = ap (λ u. u.count) is ∙ agg-count (bag h) in omega arith;
    }

-- The same root and aggregate are the same tree.
pub tree-whole : (h : Past) (t : TreeValue) (p : Option NodeData) (total : AggValue) → IsTree h t → p ≡ t.node → total ≡ t.total → IsTree h (record { span = root_part; node = p; total = total })
tree-whole h t p total tree e f =
    record {
      whole = refl;
      node = subst (IsChild 10 FIRST above_root h) (sym e) tree.node;
      total = f ∙ tree.total;
      times = tree.times;
      few = tree.few;
    }

-- The tree of no point.
pub tree-none : (p : Option NodeData) (total : AggValue) → p ≡ None → total ≡ no_points → IsTree nothing (record { span = root_part; node = p; total = total })
tree-none p total e f =
    record {
      whole = refl;
      node = subst (IsChild 10 FIRST above_root nothing) (sym e) refl;
      total = f;
      times = tt;
      few = omega arith;
    }

span-by : (a b : ℤ) (m n : ℕ) → a ≡ b → m ≡ n → (let s : SpanValue = record { start = a; height = m } in s) ≡ record { start = b; height = n }
span-by a b m n p q =
    ap (λ x. let s : SpanValue = record { start = x; height = m } in s) p
    ∙ ap (λ y. let s : SpanValue = record { start = b; height = y } in s) q

-- A span of the greatest height is the whole domain.
pub span-whole : (s : SpanValue) → IsSpan s → 10 ≤ s.height → s ≡ root_part
span-whole s aligned high =
    let at = aligned.1 in
    let low = at.height in
    let top : s.height ≡ 10 = omega arith in
    let begins = at.start ∙ ap (λ k. time_at (aligned.0 * width k)) top in
    let ends = subst (λ k. (s.start +ℤ pos (width k)) ≤ℤ END) top at.ends in
    let e = end-root in
    span-by s.start FIRST s.height 10 (omega (arith, ints)) top

-- A tree that was opened and whose span is the whole domain is that of its base.
pub opened-whole : (b : List Point) (dates : ℕ → ℤ → ℕ) (t : TreeValue) → IsOpened b dates t → 10 ≤ t.span.height → IsTree (Opened b dates) t
opened-whole b dates t o high =
    let whole = span-whole t.span o.aligned high in
    let inside : points_of 10 FIRST (sort b) ≡ sort b = subst (λ (u : SpanValue). points_of u.height u.start (sort b) ≡ sort b) whole o.inside in
    record {
      whole = whole;
      node = subst (λ (u : SpanValue). IsChild u.height u.start above_root (Opened b dates) t.node) whole o.node;
      total = o.total;
      times = in-domain (sort b) inside;
      few = o.few;
    }

-- A tree of the whole domain is that of some past.
pub some-whole : (t : TreeValue) → IsSomeTree t → 10 ≤ t.span.height → (h : Past) × IsTree h t
some-whole t some high =
    elim some [ inl tree ↦ tree | inr w ↦ (Opened w.0 w.1, opened-whole w.0 w.1 t w.2 high) ]

-- No bottom span is crowded.
pub tree-room : (h : Past) (p : Option NodeData) → AreInDomain (bag h) → IsChild 10 FIRST above_root h p → HasNoCrowdedSpan FIRST END (bag h)
tree-room h p times holds =
    subst (λ e. HasNoCrowdedSpan FIRST e (bag h)) end-root (subst (HasNoCrowdedSpan FIRST (FIRST +ℤ pos (width 10))) (root-points (bag h) times) (child-room 10 FIRST above_root h p root-aligned holds))

-- What is crowded in the root's span is crowded.
pub root-fault : (h : Past) (e : TreeFault) → AreInDomain (bag h) → IsCrowdedFault FIRST (end_of root_part) (points_of 10 FIRST (bag h)) e → IsTreeFault (bag h) e
root-fault h (Crowded start) times x =
    subst (λ y. IsCrowdedFault FIRST y (bag h) (Crowded start)) end-root (subst (λ b. IsCrowdedFault FIRST (end_of root_part) b (Crowded start)) (root-points (bag h) times) x)
root-fault h (TooManyPoints count) times x = absurd x
root-fault h Want times x = tt

-- The whole of a commit.
pub root-change : (c : Commit) → AreInDomain c.added → IsChange 10 FIRST c c.cut c.added c.version
root-change c times = record { number = refl; points = sym (root-points c.added times); times = λ t low high. refl }

-- What the walk knows at the root.
pub record IsRootStep (span : SpanValue) (h : Past) (c : Commit) (p : Option NodeData) (total : AggValue) (cut : List RangeValue) (given : List Point) : Type 0 where
  pub holds : IsChild span.height span.start above_root h p
  pub counted : total ≡ agg (points_of span.height span.start (bag h))
  pub change : IsChange span.height span.start c cut given c.version
  pub inside : within span.start (end_of span) given ≡ given
  pub times : AreInDomain (bag (c ▷ h))
  pub few : length (points_of span.height span.start (bag h)) ≤ MAX_POINTS

pub root-step : (span : SpanValue) (h : Past) (c : Commit) (q : Option NodeData) (total : AggValue) (cut : List RangeValue) (given : List Point) → span ≡ root_part → cut ≡ c.cut → given ≡ c.added → IsTree h (record { span = root_part; node = q; total = total }) → AreInDomain c.added → IsRootStep span h c q total cut given
root-step span h c q total cut given e f g tree times =
    let all = root-points (bag h) tree.times in
    let whole : IsRootStep root_part h c q total c.cut c.added = record {
      holds = tree.node;
      counted = tree.total ∙ ap agg (sym all);
      change = root-change c times;
      inside = root-points c.added times;
      times = domain-after h c tree.times times;
      few = subst (λ x. length x ≤ MAX_POINTS) (sym all) tree.few;
    }
    in
    subst (λ u. IsRootStep u h c q total cut given) (sym e) (subst (λ x. IsRootStep root_part h c q total x given) (sym f) (subst (λ x. IsRootStep root_part h c q total c.cut x) (sym g) whole))
