use Rattle.std.proofs.Common.{◌==◌, true, [], ◌≡◌, ℕ, suc, refl, ◌+◌, ◌^◌, ◌<◌, ◌≤◌, ◌++◌, ◌∷◌, Bool, List, length, sym, ap, ◌∙◌, subst, arith, Result, append-nil, option_map}
use Rattle.std.proofs.lemmas.Int.{ints}
use Rattle.std.proofs.lemmas.Result.{IfOk-weaker, MatchResult-weaker, err_from_is_err_and, on_ok_weaker}
use Rattle.std.specs.Result.{IfErr}
use Rattle.btr_base.specs.Range.{RangeValue}
use Rattle.btr_base.specs.declared.point.Point.{Point}
use Rattle.btr_base.specs.Bag.{outside, sort, IsInOrder, is_within}
use Rattle.btr_base.proofs.PointLemmas.{filter-in_order, sort-in_order, sort-of_order}
use Rattle.btr_base.specs.Span.{SpanValue}
use Rattle.btr_base.proofs.ListLemmas.{length-filter}
use Rattle.btr_base.specs.Agg.{agg}
use Rattle.btr_base.specs.declared.limits.TheConstants.{LEAF_POINTS}
use Rattle.btr_tree.specs.declared.node.Slot.{Slot}
use Rattle.btr_tree.specs.History.{Commit, bag, Past, ◌▷◌}
use Rattle.btr_tree.specs.Nodes.{points_of, touches, is_inner, is_node}
use Rattle.btr_tree.proofs.VersionLemmas.{points-in_order, points-untouched}
use Rattle.btr_tree.specs.declared.slots.Slots.{Slots}
use Rattle.btr_tree.specs.Slots.{linked, node_of, slot_in, child_in}
use Rattle.btr_tree.specs.Change.{IsCounted}
use Rattle.std.proofs.lemmas.Bool.Decides.{nat_tests}
use Rattle.btr_tree.specs.EachHistory.{AtEachInner, points_in}
use Rattle.btr_tree.specs.Shape.{slot_start, HasSlots, HasChildren, IsChild}
use Rattle.btr_tree.proofs.NodeLemmas.{IsBody, child-is, child-same, none-is, leaf_data-is, inner_data-is, slot-at, slot-few}
use Rattle.btr_tree.specs.Change.{end_of, IsChange, IsApplied, slot_at}
use Rattle.btr_tree.specs.Crowd.{IsCrowdedFault}
use Rattle.btr_tree.proofs.CutLemmas.{here-alike}
use Rattle.btr_tree.proofs.BuiltNodeLemmas.{first-put, first-all}
use Rattle.btr_tree.proofs.SlotSplitLemmas.{parted-at, parted-inside, crowding-part, room-more}
use Rattle.btr_tree.proofs.UntouchedNodeLemmas.{child-kept, child-room, child-counted, after-fewer, last_change-kept, slot-same, many-inner}
use Rattle.btr_tree.proofs.AppliedNodeLemmas.{untouched-nothing, change-after, own, own-change, change-here, change-count, touched-fresh, last_change-touched, inner-child_on, is-touched, is-untouched, parted-of, step-at}
use Rattle.btr_tree.specs.NewNodes.{concat_first, new_nodes, bare_all}
use Rattle.btr_tree.specs.Stored.{IsLaid}
use Rattle.btr_tree.proofs.StoredLemmas.{laid-below, laid-inner, laid-put, laid-part, laid-all, below-children, below-part}
use Rattle.btr_tree.proofs.NewNodeLemmas.{first-next, new_nodes-kept, new_nodes-inner_at, reported-more, bare-push, counts-none, counts-more}
use Rattle.btr_tree.proofs.apply.+apply.Goals as goal

err-weaker : {X Y : Type 0} (r : Result X Y) (P Q : Y → Type 0) → ((y : Y) → P y → Q y) → IfErr r P → IfErr r Q
err-weaker r P Q f h = MatchResult-weaker r h (λ x y. y) f

-- What is made of the points of a span after a commit.
in-order : (points all : List Point) → all ≡ sort points → IsInOrder all
in-order points all e = subst IsInOrder (sym e) (sort-in_order points)

applied-change : (below : ℕ) (span : SpanValue) (c : Commit) (h : Past) (cut : List RangeValue) (added : List Point) (v : ℕ) (x : Slots) → IsApplied below span h c cut added v x → IsChange span.height span.start c cut added v
applied-change below span c h cut added v x a =
    subst (λ k. IsChange k span.start c cut added v) (sym a.height) a.change

-- What is left of an inner node whose points are many.
left-many : (span : SpanValue) (below : ℕ) (h : Past) (x : Slots) (cut : List RangeValue) (added : List Point) → AtEachInner span x (λ g. LEAF_POINTS < length (points_in span (bag g)) → LEAF_POINTS < length (outside (points_in span (bag g)) cut) + length added) → span.height ≡ suc below → HasSlots below span.start h x → HasChildren below span.start h x → LEAF_POINTS < length (points_of (suc below) span.start (bag h)) → LEAF_POINTS < length (outside (points_of span.height span.start (bag h)) cut) + length added
left-many span below h x cut added each high slots children many =
    each below h high slots children (subst (λ k. LEAF_POINTS < length (points_of k span.start (bag h))) (sym high) many)

-- ---- an inner node

pub apply_inner-build-requires : goal.apply_inner-build-requires
apply_inner-build-requires g t c =
    let st = c.requires.some in
    let span = c.args.span in
    let change = own-change span.height span.start c.args.commit.numbering.version c.args.commit.cut.now c.args.commit.added.now c.requires.commit.inside in
    let mine = own c.args.commit.numbering.version c.args.commit.cut.now c.args.commit.added.now in
    let is = c.deref.ensures.value ∙ c.in_ok-all.ensures st.0 st.2.commits st.1 st.2.holds st.2.each in
    let first = c.requires.commit.first in
    record {
      points = record {
        order = in-order (outside (points_of span.height span.start (bag st.2.commits)) c.args.commit.cut.now ++ c.args.commit.added.now) c.deref.result.now is;
        inside = parted-inside span.start (end_of span) (bag (mine ▷ st.2.commits)) c.deref.result.now (is ∙ sym (change-after span.height span.start st.2.commits mine c.args.commit.cut.now c.args.commit.added.now c.args.commit.numbering.version change));
        first = (first.0, omega arith);
      };
    }

pub apply_inner-returns-then-branch-clause-child : goal.apply_inner-returns-then-branch-clause-child
apply_inner-returns-then-branch-clause-child g t c =
    let span = c.args.span in
    IfOk-weaker c.build.result _ _ (λ p made below h commit applied above touched.
    let change = applied-change below span commit h c.args.commit.cut.now c.args.commit.added.now c.args.commit.numbering.version c.args.slots.now applied in
    let same : c.deref.result.now ≡ points_of span.height span.start (bag (commit ▷ h)) = c.deref.ensures.value ∙ c.in_ok-all.ensures below h applied.height applied.all applied.each ∙ sym (change-after span.height span.start h commit c.args.commit.cut.now c.args.commit.added.now c.args.commit.numbering.version change) in
    let count = change-count span.height span.start h commit c.args.commit.cut.now c.args.commit.added.now c.args.commit.numbering.version _ change refl in
    let few = c.in_ok-is_few.ensures.few c.if-branch.true below h applied.height applied.all applied.each in
    let long = ap (length {A = Point}) same in
    made above h commit (touched-fresh span.height span.start above h commit c.args.commit.numbering.version c.deref.result.now change.number same touched (λ many. absurd (omega arith)))) c.build.ensures.child

pub apply_inner-returns-then-branch-clause-fault : goal.apply_inner-returns-then-branch-clause-fault
apply_inner-returns-then-branch-clause-fault g t c =
    let span = c.args.span in
    err-weaker c.build.result _ _ (λ e fault below h commit applied.
    let change = applied-change below span commit h c.args.commit.cut.now c.args.commit.added.now c.args.commit.numbering.version c.args.slots.now applied in
    let same : c.deref.result.now ≡ points_of span.height span.start (bag (commit ▷ h)) = c.deref.ensures.value ∙ c.in_ok-all.ensures below h applied.height applied.all applied.each ∙ sym (change-after span.height span.start h commit c.args.commit.cut.now c.args.commit.added.now c.args.commit.numbering.version change) in
    subst (λ x. IsCrowdedFault span.start (end_of span) x e) same fault) c.build.ensures.fault

pub apply_inner-returns-clause-child : goal.apply_inner-returns-clause-child
apply_inner-returns-clause-child g t c below h commit applied above touched =
    let span = c.args.span in
    let change = applied-change below span commit h c.args.commit.cut.now c.args.commit.added.now c.args.commit.numbering.version c.args.slots.now applied in
    let count = change-count span.height span.start h commit c.args.commit.cut.now c.args.commit.added.now c.args.commit.numbering.version _ change refl in
    let many = left-many span below h c.args.slots.now c.args.commit.cut.now c.args.commit.added.now (c.in_ok-is_few.ensures.many c.if-branch.false) applied.height applied.all applied.each applied.many in
    let made = c.in_ok-new_slots.ensures.slots below h commit applied in
    inner-child_on span.height below span.start above h commit c.args.commit.numbering.version c.in_ok-new_slots.new_slots (linked c.in_ok-push_inner.field-0) applied.height change.number touched (omega arith) made.0 made.1 c.in_ok-push_inner.ensures.child

-- ---- a child

pub apply_child-changed-requires-clause-points : goal.apply_child-changed-requires-clause-points
apply_child-changed-requires-clause-points g t c =
    let st = c.requires.some in
    let node = child-is c.args.span.height c.args.span.start st.above st.commits c.args.child c.in-Some.node c.in-Some.is st.holds in
    let leaf = leaf_data-is c.args.span.height c.args.span.start st.above st.commits c.in-Some.node.now.value c.in-Leaf.version c.in-Leaf.points (sym c.deref.ensures ∙ c.in-Leaf.is) node in
    subst IsInOrder (sym (c.deref-in-Leaf.ensures.value ∙ leaf.same)) (points-in_order c.args.span.height c.args.span.start st.commits)

pub apply_child-build-requires-in-Leaf : goal.apply_child-build-requires-in-Leaf
apply_child-build-requires-in-Leaf g t c =
    let st = c.requires.some in
    let span = c.args.span in
    let node = child-is span.height span.start st.above st.commits c.args.child c.in-Some.node c.in-Some.is st.holds in
    let leaf = leaf_data-is span.height span.start st.above st.commits c.in-Some.node.now.value c.in-Leaf.version c.in-Leaf.points (sym c.deref.ensures ∙ c.in-Leaf.is) node in
    let change = own-change span.height span.start c.args.commit.numbering.version c.args.commit.cut.now c.args.commit.added.now c.requires.commit.inside in
    let mine = own c.args.commit.numbering.version c.args.commit.cut.now c.args.commit.added.now in
    let is = c.deref-in-Leaf-2.ensures.value ∙ c.in_ok-all-in-Leaf.ensures in
    let first = c.requires.commit.first in
    record {
      points = record {
        order = in-order (outside c.deref-in-Leaf.result.now c.args.commit.cut.now ++ c.args.commit.added.now) c.deref-in-Leaf-2.result.now is;
        inside = parted-inside span.start (end_of span) (bag (mine ▷ st.commits)) c.deref-in-Leaf-2.result.now (is ∙ ap (λ x. sort (outside x c.args.commit.cut.now ++ c.args.commit.added.now)) (c.deref-in-Leaf.ensures.value ∙ leaf.same) ∙ sym (change-after span.height span.start st.commits mine c.args.commit.cut.now c.args.commit.added.now c.args.commit.numbering.version change));
        first = (first.0, omega arith);
      };
    }

pub apply_child-apply_inner-requires : goal.apply_child-apply_inner-requires
apply_child-apply_inner-requires g t c κs outlives =
    let st = c.requires.some in
    let span = c.args.span in
    let node = child-is span.height span.start st.above st.commits c.args.child c.in-Some.node c.in-Some.is st.holds in
    let body = inner_data-is span.height span.start st.above st.commits c.in-Some.node.now.value c.in-Inner.version c.in-Inner.slots (sym c.deref.ensures ∙ c.in-Inner.is) node in
    let d = c.decreases in
    let high = body.height in (
      omega arith,
      (
        outlives,
        (
          (
            body.below,
            high,
            record {
              commits = st.commits;
              holds = body.inner.all;
              each = body.each;
              few = subst (λ k. length (points_of k span.start (bag st.commits)) + length c.args.commit.added.now < 2 ^ 64) high st.few;
            },
          ),
          c.requires.commit,
        ),
      ),
    )

pub apply_child-returns-in-None-clause-child : goal.apply_child-returns-in-None-clause-child
apply_child-returns-in-None-clause-child g t c =
    let span = c.args.span in
    IfOk-weaker c.build.result _ _ (λ p made above h commit holds change touched.
    let none = none-is span.height span.start above h c.args.child c.in-None.is holds in
    let same : c.args.commit.added.now ≡ points_of span.height span.start (bag (commit ▷ h)) = sym (change-after span.height span.start h commit c.args.commit.cut.now c.args.commit.added.now c.args.commit.numbering.version change ∙ ap (λ x. sort (outside x c.args.commit.cut.now ++ c.args.commit.added.now)) none ∙ sort-of_order c.args.commit.added.now c.requires.commit.order) in
    let empty = ap (length {A = Point}) none in
    made above h commit (touched-fresh span.height span.start above h commit c.args.commit.numbering.version c.args.commit.added.now change.number same touched (λ _. omega arith))) c.build.ensures.child

pub apply_child-returns-in-None-clause-fault : goal.apply_child-returns-in-None-clause-fault
apply_child-returns-in-None-clause-fault g t c =
    let span = c.args.span in
    err-weaker c.build.result _ _ (λ e fault above h commit holds change.
    let none = none-is span.height span.start above h c.args.child c.in-None.is holds in
    let same : c.args.commit.added.now ≡ points_of span.height span.start (bag (commit ▷ h)) = sym (change-after span.height span.start h commit c.args.commit.cut.now c.args.commit.added.now c.args.commit.numbering.version change ∙ ap (λ x. sort (outside x c.args.commit.cut.now ++ c.args.commit.added.now)) none ∙ sort-of_order c.args.commit.added.now c.requires.commit.order) in
    subst (λ x. IsCrowdedFault span.start (end_of span) x e) same fault) c.build.ensures.fault

pub apply_child-returns-in_ok-all-in-Leaf-clause-child : goal.apply_child-returns-in_ok-all-in-Leaf-clause-child
apply_child-returns-in_ok-all-in-Leaf-clause-child g t c =
    let span = c.args.span in
    IfOk-weaker c.build-in-Leaf.result _ _ (λ p made above h commit holds change touched.
    let node = child-is span.height span.start above h c.args.child c.in-Some.node c.in-Some.is holds in
    let leaf = leaf_data-is span.height span.start above h c.in-Some.node.now.value c.in-Leaf.version c.in-Leaf.points (sym c.deref.ensures ∙ c.in-Leaf.is) node in
    let same : c.deref-in-Leaf-2.result.now ≡ points_of span.height span.start (bag (commit ▷ h)) = c.deref-in-Leaf-2.ensures.value ∙ c.in_ok-all-in-Leaf.ensures ∙ ap (λ x. sort (outside x c.args.commit.cut.now ++ c.args.commit.added.now)) (c.deref-in-Leaf.ensures.value ∙ leaf.same) ∙ sym (change-after span.height span.start h commit c.args.commit.cut.now c.args.commit.added.now c.args.commit.numbering.version change) in
    made above h commit (touched-fresh span.height span.start above h commit c.args.commit.numbering.version c.deref-in-Leaf-2.result.now change.number same touched (λ _. subst (λ x. length x ≤ LEAF_POINTS) leaf.same leaf.few))) c.build-in-Leaf.ensures.child

pub apply_child-returns-in_ok-all-in-Leaf-clause-fault : goal.apply_child-returns-in_ok-all-in-Leaf-clause-fault
apply_child-returns-in_ok-all-in-Leaf-clause-fault g t c =
    let span = c.args.span in
    err-weaker c.build-in-Leaf.result _ _ (λ e fault above h commit holds change.
    let node = child-is span.height span.start above h c.args.child c.in-Some.node c.in-Some.is holds in
    let leaf = leaf_data-is span.height span.start above h c.in-Some.node.now.value c.in-Leaf.version c.in-Leaf.points (sym c.deref.ensures ∙ c.in-Leaf.is) node in
    let same : c.deref-in-Leaf-2.result.now ≡ points_of span.height span.start (bag (commit ▷ h)) = c.deref-in-Leaf-2.ensures.value ∙ c.in_ok-all-in-Leaf.ensures ∙ ap (λ x. sort (outside x c.args.commit.cut.now ++ c.args.commit.added.now)) (c.deref-in-Leaf.ensures.value ∙ leaf.same) ∙ sym (change-after span.height span.start h commit c.args.commit.cut.now c.args.commit.added.now c.args.commit.numbering.version change) in
    subst (λ x. IsCrowdedFault span.start (end_of span) x e) same fault) c.build-in-Leaf.ensures.fault

body-applied : (span : SpanValue) (above : List Point → Bool) (h : Past) (commit : Commit) (cut : List RangeValue) (added : List Point) (v w : ℕ) (x : Slots) (body : IsBody span.height span.start above h w x) → IsChange span.height span.start commit cut added v → IsApplied body.below span h commit cut added v x
body-applied span above h commit cut added v w x body change =
    record {
      height = body.height;
      many = body.inner.many;
      all = body.inner.all;
      each = body.each;
      change = subst (λ k. IsChange k span.start commit cut added v) body.height change;
    }

pub apply_child-returns-in-Inner-clause-child : goal.apply_child-returns-in-Inner-clause-child
apply_child-returns-in-Inner-clause-child g t c =
    let span = c.args.span in
    IfOk-weaker c.apply_inner.result _ _ (λ p made above h commit holds change touched.
    let node = child-is span.height span.start above h c.args.child c.in-Some.node c.in-Some.is holds in
    let body = inner_data-is span.height span.start above h c.in-Some.node.now.value c.in-Inner.version c.in-Inner.slots (sym c.deref.ensures ∙ c.in-Inner.is) node in
    made body.below h commit (body-applied span above h commit c.args.commit.cut.now c.args.commit.added.now c.args.commit.numbering.version c.in-Inner.version _ body change) above touched) c.apply_inner.ensures.child

pub apply_child-returns-in-Inner-clause-fault : goal.apply_child-returns-in-Inner-clause-fault
apply_child-returns-in-Inner-clause-fault g t c =
    let span = c.args.span in
    err-weaker c.apply_inner.result _ _ (λ e fault above h commit holds change.
    let node = child-is span.height span.start above h c.args.child c.in-Some.node c.in-Some.is holds in
    let body = inner_data-is span.height span.start above h c.in-Some.node.now.value c.in-Inner.version c.in-Inner.slots (sym c.deref.ensures ∙ c.in-Inner.is) node in
    fault body.below h commit (body-applied span above h commit c.args.commit.cut.now c.args.commit.added.now c.args.commit.numbering.version c.in-Inner.version _ body change)) c.apply_inner.ensures.fault

-- ---- a slot

pub apply_slot-returns-then-branch-clause-child : goal.apply_slot-returns-then-branch-clause-child
apply_slot-returns-then-branch-clause-child g t c was h commit w holds counted change =
    let span = c.args.span in
    let begin = ap (λ p. p.start) c.span.view_is in
    let end = c.end.ensures.end in
    let alike = here-alike span.start (end_of span) c.args.commit.cut.now c.ranges_from.result.now c.ranges_before-here.result.now (λ u low. c.ranges_from.ensures.times u (omega (arith, ints))) (λ u high. c.ranges_before-here.ensures.times u (omega (arith, ints))) in
    let here = change-here span.height span.start commit c.args.commit.cut.now c.ranges_before-here.result.now c.args.commit.added.now c.args.commit.numbering.version change alike in
    let same = is-untouched c.in_ok-is_untouched.field-0 (touches commit span.height span.start (bag h)) c.if-branch.true (c.in_ok-is_untouched.ensures was h commit holds here counted) in
    child-same span.height span.start was (commit ▷ h) (node_of c.args.was.now.child) (linked c.in_ok-share.field-0) c.in_ok-share.ensures (child-kept span.height span.start was h commit (node_of c.args.was.now.child) w same holds)

pub apply_slot-returns-then-branch-clause-slot : goal.apply_slot-returns-then-branch-clause-slot
apply_slot-returns-then-branch-clause-slot g t c was h commit w holds counted change =
    let span = c.args.span in
    let begin = ap (λ p. p.start) c.span.view_is in
    let end = c.end.ensures.end in
    let alike = here-alike span.start (end_of span) c.args.commit.cut.now c.ranges_from.result.now c.ranges_before-here.result.now (λ u low. c.ranges_from.ensures.times u (omega (arith, ints))) (λ u high. c.ranges_before-here.ensures.times u (omega (arith, ints))) in
    let here = change-here span.height span.start commit c.args.commit.cut.now c.ranges_before-here.result.now c.args.commit.added.now c.args.commit.numbering.version change alike in
    let same = is-untouched c.in_ok-is_untouched.field-0 (touches commit span.height span.start (bag h)) c.if-branch.true (c.in_ok-is_untouched.ensures was h commit holds here counted) in
    record {
      agg = counted ∙ ap agg (sym (points-untouched span.height span.start commit h same));
      is = λ is. is ∙ slot-same _ _ _ _ (ap agg (sym (points-untouched span.height span.start commit h same))) (sym (last_change-kept was span.height span.start h commit same w));
    }

pub apply_slot-returns-in_err-new_child-clause-fault : goal.apply_slot-returns-in_err-new_child-clause-fault
apply_slot-returns-in_err-new_child-clause-fault g t c =
    let span = c.args.span in
    let begin = ap (λ p. p.start) c.span.view_is in
    let end = c.end.ensures.end in
    let alike = here-alike span.start (end_of span) c.args.commit.cut.now c.ranges_from.result.now c.ranges_before-here.result.now (λ u low. c.ranges_from.ensures.times u (omega (arith, ints))) (λ u high. c.ranges_before-here.ensures.times u (omega (arith, ints))) in
    let p = err_from_is_err_and c.from_residual-in_err-new_child.result c.from_residual-in_err-new_child.ensures.1 in
    rw (p.1, p.2) (λ was h commit w holds counted change. c.in_err-new_child.ensures.fault was h commit holds (change-here span.height span.start commit c.args.commit.cut.now c.ranges_before-here.result.now c.args.commit.added.now c.args.commit.numbering.version change alike))

pub apply_slot-agg_of_child-agg-requires : goal.apply_slot-agg_of_child-agg-requires
apply_slot-agg_of_child-agg-requires g t c =
    let st = c.requires.some in
    let span = c.args.span in
    let mine = own c.args.commit.numbering.version c.ranges_before-here.result.now c.args.commit.added.now in
    let change = own-change span.height span.start c.args.commit.numbering.version c.ranges_before-here.result.now c.args.commit.added.now c.requires.commit.inside in
    let touched = is-touched c.in_ok-is_untouched.field-0 (touches mine span.height span.start (bag st.commits)) c.if-branch.false (c.in_ok-is_untouched.ensures st.above st.commits mine st.holds change st.counted) in
    let fewer = after-fewer span.height span.start st.commits mine in
    let inside = ap (length {A = Point}) c.requires.commit.inside in
    let few = st.few in
    subst IsCounted (sym c.seen.ensures) (child-counted span.height span.start st.above (mine ▷ st.commits) (linked c.in_ok-new_child.new_child) (omega arith) (c.in_ok-new_child.ensures.child st.above st.commits mine st.holds change touched))

pub apply_slot-returns-clause-child : goal.apply_slot-returns-clause-child
apply_slot-returns-clause-child g t c was h commit w holds counted change =
    let span = c.args.span in
    let begin = ap (λ p. p.start) c.span.view_is in
    let end = c.end.ensures.end in
    let alike = here-alike span.start (end_of span) c.args.commit.cut.now c.ranges_from.result.now c.ranges_before-here.result.now (λ u low. c.ranges_from.ensures.times u (omega (arith, ints))) (λ u high. c.ranges_before-here.ensures.times u (omega (arith, ints))) in
    let here = change-here span.height span.start commit c.args.commit.cut.now c.ranges_before-here.result.now c.args.commit.added.now c.args.commit.numbering.version change alike in
    let touched = is-touched c.in_ok-is_untouched.field-0 (touches commit span.height span.start (bag h)) c.if-branch.false (c.in_ok-is_untouched.ensures was h commit holds here counted) in
    c.in_ok-new_child.ensures.child was h commit holds here touched

pub apply_slot-returns-clause-slot : goal.apply_slot-returns-clause-slot
apply_slot-returns-clause-slot g t c was h commit w holds counted change =
    let span = c.args.span in
    let begin = ap (λ p. p.start) c.span.view_is in
    let end = c.end.ensures.end in
    let alike = here-alike span.start (end_of span) c.args.commit.cut.now c.ranges_from.result.now c.ranges_before-here.result.now (λ u low. c.ranges_from.ensures.times u (omega (arith, ints))) (λ u high. c.ranges_before-here.ensures.times u (omega (arith, ints))) in
    let here = change-here span.height span.start commit c.args.commit.cut.now c.ranges_before-here.result.now c.args.commit.added.now c.args.commit.numbering.version change alike in
    let touched = is-touched c.in_ok-is_untouched.field-0 (touches commit span.height span.start (bag h)) c.if-branch.false (c.in_ok-is_untouched.ensures was h commit holds here counted) in
    let joined = c.agg_of_child-agg.ensures span.height span.start was (commit ▷ h) (child-same span.height span.start was (commit ▷ h) (linked c.in_ok-new_child.new_child) (node_of c.seen.result) c.seen.ensures (c.in_ok-new_child.ensures.child was h commit holds here touched)) in
    record {
      agg = joined;
      is = λ is. slot-same _ _ _ _ joined (last_change-touched was span.height span.start h commit c.args.commit.numbering.version change.number touched);
    }

-- ---- the slots

pub apply_slots-apply_slot-requires : goal.apply_slots-apply_slot-requires
apply_slots-apply_slot-requires g t c κs outlives =
    let st = c.requires.some in
    let below = st.0 in
    let high = st.1 in
    let span = c.args.span in
    let i = c.loop-i.i in
    let part = c.slot-part.result in
    let end = c.end.ensures.end in
    let at = parted-at span part below i c.args.commit.added.now c.loop-i.rest.now c.parted.result.0.now c.parted.result.1.now _ high c.loop-i-test.true c.slot-part.ensures c.end.ensures.span (omega (arith, ints)) (c.loop-i.invariant.rest below high) c.parted.ensures.before c.parted.ensures.from in
    let known = slot-at span below st.2.commits i part c.slot.result (node_of c.child.result) c.args.slots.now high st.2.holds st.2.each c.loop-i-test.true c.slot-part.ensures c.slot.ensures c.child.ensures in
    let fewer = slot-few below span.start st.2.commits i part c.loop-i-test.true at.is in
    let less : length c.parted.result.0.now ≤ length c.args.commit.added.now = subst (λ x. length x ≤ length c.args.commit.added.now) (sym at.has) (length-filter (is_within part.start (end_of part)) c.args.commit.added.now) in
    let few = st.2.few in
    let down : part.height ≡ below = ap (λ u. u.height) at.is in
    let d = c.decreases in (
      omega arith,
      (
        outlives,
        (
          record { above = is_inner (suc below) span.start; commits = st.2.commits; holds = known.holds; counted = known.counted; few = omega arith },
          record {
            cut = c.requires.commit.cut;
            order = subst IsInOrder (sym c.parted.ensures.before) (filter-in_order _ c.loop-i.rest.now c.loop-i.invariant.order);
            inside = parted-inside part.start (end_of part) c.args.commit.added.now c.parted.result.0.now at.has;
            first = c.requires.commit.first;
          },
        ),
      ),
    )

pub apply_slots-returns-in_err-slot-clause-fault : goal.apply_slots-returns-in_err-slot-clause-fault
apply_slots-returns-in_err-slot-clause-fault g t c =
    let span = c.args.span in
    let i = c.loop-i.i in
    let part = c.slot-part.result in
    let here = c.parted.result.0.now in
    let end = c.end.ensures.end in
    let p = err_from_is_err_and c.from_residual-in_err-slot.result c.from_residual-in_err-slot.ensures.1 in
    rw (p.1, p.2) (λ below h commit applied.
    let at = parted-at span part below i c.args.commit.added.now c.loop-i.rest.now here c.parted.result.1.now _ applied.height c.loop-i-test.true c.slot-part.ensures c.end.ensures.span (omega (arith, ints)) (c.loop-i.invariant.rest below applied.height) c.parted.ensures.before c.parted.ensures.from in
    let step = step-at span part below i h commit c.slot.result (node_of c.child.result) c.args.commit.cut.now c.args.commit.added.now here c.parted.result.1.now c.args.commit.numbering.version c.args.slots.now applied at c.loop-i-test.true c.slot-part.ensures c.slot.ensures c.child.ensures in
    let fault = c.in_err-slot.ensures.fault (is_inner (suc below) span.start) h commit step.was step.holds (ap (λ (x : Slot). x.agg) step.slot_is) step.change in
    let after = parted-of span part below i (bag (commit ▷ h)) applied.height c.loop-i-test.true c.slot-part.ensures c.end.ensures.span in
    subst (λ k. IsCrowdedFault span.start (end_of span) (points_of k span.start (bag (commit ▷ h))) c.in_err-slot.field-0.0) (sym applied.height) (crowding-part span part below i (points_of (suc below) span.start (bag (commit ▷ h))) (points_of part.height part.start (bag (commit ▷ h))) _ c.in_err-slot.field-0.0 after (c.loop-i.invariant.room below h commit applied) fault))

pub apply_slots-loop-i-preserved : goal.apply_slots-loop-i-preserved
apply_slots-loop-i-preserved g t c =
    let span = c.args.span in
    let i = c.loop-i.i in
    let part = c.slot-part.result in
    let here = c.parted.result.0.now in
    let behind = c.parted.result.1.now in
    let end = c.end.ensures.end in
    let at = λ (below : ℕ) (high : span.height ≡ suc below). parted-at span part below i c.args.commit.added.now c.loop-i.rest.now here behind _ high c.loop-i-test.true c.slot-part.ensures c.end.ensures.span (omega (arith, ints)) (c.loop-i.invariant.rest below high) c.parted.ensures.before c.parted.ensures.from in
    record {
      rest = λ below high. (at below high).leaves;
      order = subst IsInOrder (sym c.parted.ensures.from) (filter-in_order _ c.loop-i.rest.now c.loop-i.invariant.order);
      slots = λ below h commit applied.
          let parted = at below applied.height in
          let step = step-at span part below i h commit c.slot.result (node_of c.child.result) c.args.commit.cut.now c.args.commit.added.now here behind c.args.commit.numbering.version c.args.slots.now applied parted c.loop-i-test.true c.slot-part.ensures c.slot.ensures c.child.ensures in
          let before = c.loop-i.invariant.slots below h commit applied in
          let slot = subst (λ (u : SpanValue). c.in_ok-slot.slot ≡ slot_at (is_inner (suc below) span.start) u.height u.start (commit ▷ h)) parted.is ((c.in_ok-slot.ensures.slot (is_inner (suc below) span.start) h commit step.was step.holds (ap (λ (x : Slot). x.agg) step.slot_is) step.change).is step.slot_is) in
          let child = subst (λ (u : SpanValue). IsChild u.height u.start (is_inner (suc below) span.start) (commit ▷ h) (linked c.in_ok-slot.child)) parted.is (c.in_ok-slot.ensures.child (is_inner (suc below) span.start) h commit step.was step.holds (ap (λ (x : Slot). x.agg) step.slot_is) step.change) in
          first-put below span.start (commit ▷ h) i c.loop-i.new_slots c.put.new.self c.in_ok-slot.slot (linked c.in_ok-slot.child) c.in_ok-put.ensures before slot child;
      filled = c.in_ok-put.ensures.filled;
      base = c.in_ok-put.ensures.base ∙ c.loop-i.invariant.base;
      nodes = λ below h commit applied many some before.
          let parted = at below applied.height in
          let step = step-at span part below i h commit c.slot.result (node_of c.child.result) c.args.commit.cut.now c.args.commit.added.now here behind c.args.commit.numbering.version c.args.slots.now applied parted c.loop-i-test.true c.slot-part.ensures c.slot.ensures c.child.ensures in
          let inner = many-inner (suc below) span.start (bag (commit ▷ h)) many in
          let reported = c.in_ok-slot.ensures.nodes (is_inner (suc below) span.start) h commit step.was step.holds (ap (λ (x : Slot). x.agg) step.slot_is) step.change inner some before in
          let f = λ (j : ℕ). new_nodes below (slot_start below span.start j) (is_inner (suc below) span.start) (commit ▷ h) c.args.commit.numbering.version in
          reported-more (bare_all c.args.nodes.now.items) (bare_all c.loop-i.nodes.items) (bare_all c.apply_slot.new.nodes.items) (concat_first i f) (f i) (concat_first (i + 1) f) (c.loop-i.invariant.nodes below h commit applied many some before) (reported ∙ ap (λ (u : SpanValue). bare_all c.loop-i.nodes.items ++ new_nodes u.height u.start (is_inner (suc below) span.start) (commit ▷ h) c.args.commit.numbering.version) parted.is) (first-next i f);
      counted = counts-more c.args.steps.now c.loop-i.steps c.apply_slot.new.steps c.args.nodes.now.items c.loop-i.nodes.items c.apply_slot.new.nodes.items c.loop-i.invariant.counted c.in_ok-slot.ensures.counted;
      stored = λ store below high low.
          let part_is = (at below high).is in
          laid-put store c.args.commit.numbering.first c.loop-i.steps c.apply_slot.new.steps c.loop-i.nodes.items c.apply_slot.new.nodes.items below span.start i c.loop-i.new_slots c.put.new.self c.in_ok-slot.slot (linked c.in_ok-slot.child) c.in_ok-slot.ensures.counted c.in_ok-put.ensures (c.loop-i.invariant.stored store below high low) (laid-part store c.args.commit.numbering.first c.apply_slot.new.nodes.items part below span.start i (linked c.in_ok-slot.child) part_is (c.in_ok-slot.ensures.stored store (below-part store c.args.commit.numbering.first part below span.start i c.args.slots.now (node_of c.child.result) part_is c.loop-i-test.true c.child.ensures low)));
      room = λ below h commit applied.
          let parted = at below applied.height in
          let step = step-at span part below i h commit c.slot.result (node_of c.child.result) c.args.commit.cut.now c.args.commit.added.now here behind c.args.commit.numbering.version c.args.slots.now applied parted c.loop-i-test.true c.slot-part.ensures c.slot.ensures c.child.ensures in
          let child = c.in_ok-slot.ensures.child (is_inner (suc below) span.start) h commit step.was step.holds (ap (λ (x : Slot). x.agg) step.slot_is) step.change in
          let room = child-room part.height part.start (is_inner (suc below) span.start) (commit ▷ h) (linked c.in_ok-slot.child) c.end.ensures.span child in
          let after = parted-of span part below i (bag (commit ▷ h)) applied.height c.loop-i-test.true c.slot-part.ensures c.end.ensures.span in
          room-more span part below i (points_of (suc below) span.start (bag (commit ▷ h))) (points_of part.height part.start (bag (commit ▷ h))) _ after (c.loop-i.invariant.room below h commit applied) room;
    }

empty-is : {X : Type 0} (xs : List X) → (length xs == 0) ≡ true → xs ≡ []
empty-is [] e = refl
empty-is (x ∷ xs) e = absurd (grind (arith, nat_tests))

-- A slot that the commit does not touch is put as it was.
pub apply_slots-loop-i-preserved-then-is_empty-2 : goal.apply_slots-loop-i-preserved-then-is_empty-2
apply_slots-loop-i-preserved-then-is_empty-2 g t c =
    let span = c.args.span in
    let i = c.loop-i.i in
    let part = c.slot-part.result in
    let here = c.parted.result.0.now in
    let behind = c.parted.result.1.now in
    let end = c.end.ensures.end in
    let slot_was = slot_in c.args.slots.now i in
    let child_was = child_in c.args.slots.now i in
    let no_cut = empty-is c.args.commit.cut.now (sym c.is_empty.ensures ∙ c.if-is_empty.true) in
    let none = empty-is here (sym c.is_empty-then-is_empty.ensures ∙ c.if-is_empty-2.true) in
    let at = λ (below : ℕ) (high : span.height ≡ suc below). parted-at span part below i c.args.commit.added.now c.loop-i.rest.now here behind _ high c.loop-i-test.true c.slot-part.ensures c.end.ensures.span (omega (arith, ints)) (c.loop-i.invariant.rest below high) c.parted.ensures.before c.parted.ensures.from in
    let step = λ (below : ℕ) (h : Past) (commit : Commit) (applied : IsApplied below span h commit c.args.commit.cut.now c.args.commit.added.now c.args.commit.numbering.version c.args.slots.now). step-at span part below i h commit slot_was child_was c.args.commit.cut.now c.args.commit.added.now here behind c.args.commit.numbering.version c.args.slots.now applied (at below applied.height) c.loop-i-test.true c.slot-part.ensures refl refl in
    let same = λ (below : ℕ) (h : Past) (commit : Commit) (applied : IsApplied below span h commit c.args.commit.cut.now c.args.commit.added.now c.args.commit.numbering.version c.args.slots.now). untouched-nothing part.height part.start h commit c.args.commit.cut.now here c.args.commit.numbering.version (step below h commit applied).change no_cut none in
    record {
      rest = λ below high. (at below high).leaves;
      order = subst IsInOrder (sym c.parted.ensures.from) (filter-in_order _ c.loop-i.rest.now c.loop-i.invariant.order);
      slots = λ below h commit applied.
          let was = step below h commit applied in
          let kept = same below h commit applied in
          let slot = subst (λ (u : SpanValue). slot_was ≡ slot_at (is_inner (suc below) span.start) u.height u.start (commit ▷ h)) (at below applied.height).is (was.slot_is ∙ slot-same _ _ _ _ (ap agg (sym (points-untouched part.height part.start commit h kept))) (sym (last_change-kept (is_inner (suc below) span.start) part.height part.start h commit kept was.was))) in
          let child = subst (λ (u : SpanValue). IsChild u.height u.start (is_inner (suc below) span.start) (commit ▷ h) child_was) (at below applied.height).is (child-kept part.height part.start (is_inner (suc below) span.start) h commit child_was was.was kept was.holds) in
          first-put below span.start (commit ▷ h) i c.loop-i.new_slots c.put_from.new.self slot_was child_was c.in_ok-put_from.ensures (c.loop-i.invariant.slots below h commit applied) slot child;
      filled = c.in_ok-put_from.ensures.filled;
      base = c.in_ok-put_from.ensures.base ∙ c.loop-i.invariant.base;
      nodes = λ below h commit applied many some before.
          let was = step below h commit applied in
          let kept = same below h commit applied in
          let f = λ (j : ℕ). new_nodes below (slot_start below span.start j) (is_inner (suc below) span.start) (commit ▷ h) c.args.commit.numbering.version in
          let no_node : f i ≡ [] = subst (λ (u : SpanValue). new_nodes u.height u.start (is_inner (suc below) span.start) (commit ▷ h) c.args.commit.numbering.version ≡ []) (at below applied.height).is (new_nodes-kept part.height part.start (is_inner (suc below) span.start) h commit c.args.commit.numbering.version was.was kept some before) in
          reported-more (bare_all c.args.nodes.now.items) (bare_all c.loop-i.nodes.items) (bare_all c.loop-i.nodes.items) (concat_first i f) (f i) (concat_first (i + 1) f) (c.loop-i.invariant.nodes below h commit applied many some before) (sym (ap (λ x. bare_all c.loop-i.nodes.items ++ x) no_node ∙ append-nil (bare_all c.loop-i.nodes.items))) (first-next i f);
      counted = c.loop-i.invariant.counted;
      stored = λ store below high low.
          laid-put store c.args.commit.numbering.first c.loop-i.steps c.loop-i.steps c.loop-i.nodes.items c.loop-i.nodes.items below span.start i c.loop-i.new_slots c.put_from.new.self slot_was child_was (counts-none c.loop-i.steps c.loop-i.nodes.items) c.in_ok-put_from.ensures (c.loop-i.invariant.stored store below high low) (laid-below store c.args.commit.numbering.first c.loop-i.nodes.items below (slot_start below span.start i) child_was (low i c.loop-i-test.true));
      room = λ below h commit applied.
          let was = step below h commit applied in
          let kept = same below h commit applied in
          let child = child-kept part.height part.start (is_inner (suc below) span.start) h commit child_was was.was kept was.holds in
          let room = child-room part.height part.start (is_inner (suc below) span.start) (commit ▷ h) child_was c.end.ensures.span child in
          let after = parted-of span part below i (bag (commit ▷ h)) applied.height c.loop-i-test.true c.slot-part.ensures c.end.ensures.span in
          room-more span part below i (points_of (suc below) span.start (bag (commit ▷ h))) (points_of part.height part.start (bag (commit ▷ h))) _ after (c.loop-i.invariant.room below h commit applied) room;
    }

pub apply_slots-returns-clause-slots : goal.apply_slots-returns-clause-slots
apply_slots-returns-clause-slots g t c below h commit applied =
    first-all below c.args.span.start (commit ▷ h) c.loop-i.i c.loop-i.new_slots (omega arith) (c.loop-i.invariant.slots below h commit applied)

-- ---- the nodes that are written

pub apply_slot-returns-then-branch-clause-nodes : goal.apply_slot-returns-then-branch-clause-nodes
apply_slot-returns-then-branch-clause-nodes g t c was h commit w holds counted change now some before =
    let span = c.args.span in
    let begin = ap (λ p. p.start) c.span.view_is in
    let end = c.end.ensures.end in
    let alike = here-alike span.start (end_of span) c.args.commit.cut.now c.ranges_from.result.now c.ranges_before-here.result.now (λ u low. c.ranges_from.ensures.times u (omega (arith, ints))) (λ u high. c.ranges_before-here.ensures.times u (omega (arith, ints))) in
    let here = change-here span.height span.start commit c.args.commit.cut.now c.ranges_before-here.result.now c.args.commit.added.now c.args.commit.numbering.version change alike in
    let same = is-untouched c.in_ok-is_untouched.field-0 (touches commit span.height span.start (bag h)) c.if-branch.true (c.in_ok-is_untouched.ensures was h commit holds here counted) in
    sym (ap (λ x. bare_all c.args.nodes.now.items ++ x) (new_nodes-kept span.height span.start was h commit c.args.commit.numbering.version w same some before) ∙ append-nil (bare_all c.args.nodes.now.items))

pub apply_slot-returns-clause-nodes : goal.apply_slot-returns-clause-nodes
apply_slot-returns-clause-nodes g t c was h commit w holds counted change now some before =
    let span = c.args.span in
    let begin = ap (λ p. p.start) c.span.view_is in
    let end = c.end.ensures.end in
    let alike = here-alike span.start (end_of span) c.args.commit.cut.now c.ranges_from.result.now c.ranges_before-here.result.now (λ u low. c.ranges_from.ensures.times u (omega (arith, ints))) (λ u high. c.ranges_before-here.ensures.times u (omega (arith, ints))) in
    let here = change-here span.height span.start commit c.args.commit.cut.now c.ranges_before-here.result.now c.args.commit.added.now c.args.commit.numbering.version change alike in
    let touched = is-touched c.in_ok-is_untouched.field-0 (touches commit span.height span.start (bag h)) c.if-branch.false (c.in_ok-is_untouched.ensures was h commit holds here counted) in
    c.in_ok-new_child.ensures.nodes was h commit holds here touched now some before

pub apply_inner-returns-then-branch-clause-nodes : goal.apply_inner-returns-then-branch-clause-nodes
apply_inner-returns-then-branch-clause-nodes g t c =
    let span = c.args.span in
    on_ok_weaker c.build.result (λ reported below h commit applied above touched w some before.
    let change = applied-change below span commit h c.args.commit.cut.now c.args.commit.added.now c.args.commit.numbering.version c.args.slots.now applied in
    let same : c.deref.result.now ≡ points_of span.height span.start (bag (commit ▷ h)) = c.deref.ensures.value ∙ c.in_ok-all.ensures below h applied.height applied.all applied.each ∙ sym (change-after span.height span.start h commit c.args.commit.cut.now c.args.commit.added.now c.args.commit.numbering.version change) in
    let count = change-count span.height span.start h commit c.args.commit.cut.now c.args.commit.added.now c.args.commit.numbering.version _ change refl in
    let few = c.in_ok-is_few.ensures.few c.if-branch.true below h applied.height applied.all applied.each in
    let long = ap (length {A = Point}) same in
    reported above h commit (touched-fresh span.height span.start above h commit c.args.commit.numbering.version c.deref.result.now change.number same touched (λ many. absurd (omega arith))) w) c.build.ensures.nodes

pub apply_inner-returns-clause-nodes : goal.apply_inner-returns-clause-nodes
apply_inner-returns-clause-nodes g t c below h commit applied above touched w some before =
    let span = c.args.span in
    let change = applied-change below span commit h c.args.commit.cut.now c.args.commit.added.now c.args.commit.numbering.version c.args.slots.now applied in
    let count = change-count span.height span.start h commit c.args.commit.cut.now c.args.commit.added.now c.args.commit.numbering.version _ change refl in
    let over = left-many span below h c.args.slots.now c.args.commit.cut.now c.args.commit.added.now (c.in_ok-is_few.ensures.many c.if-branch.false) applied.height applied.all applied.each applied.many in
    let many : LEAF_POINTS < length (points_of span.height span.start (bag (commit ▷ h))) = omega arith in
    let made = c.in_ok-new_slots.ensures.slots below h commit applied in
    let reported = c.in_ok-new_slots.ensures.nodes below h commit applied (subst (λ k. LEAF_POINTS < length (points_of k span.start (bag (commit ▷ h)))) applied.height many) some before in
    reported-more (bare_all c.args.nodes.now.items) (bare_all c.apply_slots.new.nodes.items) (bare_all c.push_inner.new.nodes.items) _ _ (new_nodes span.height span.start above (commit ▷ h) c.args.commit.numbering.version) reported (bare-push c.apply_slots.new.nodes.items c.push_inner.new.nodes.items _ c.in_ok-push_inner.ensures.nodes) (new_nodes-inner_at span.height below span.start above (commit ▷ h) c.args.commit.numbering.version c.in_ok-new_slots.new_slots applied.height w (last_change-touched (is_node above span.height span.start) span.height span.start h commit c.args.commit.numbering.version change.number touched) many made.0)

pub apply_child-returns-in-None-clause-nodes : goal.apply_child-returns-in-None-clause-nodes
apply_child-returns-in-None-clause-nodes g t c =
    let span = c.args.span in
    on_ok_weaker c.build.result (λ reported above h commit holds change touched w some before.
    let none = none-is span.height span.start above h c.args.child c.in-None.is holds in
    let same : c.args.commit.added.now ≡ points_of span.height span.start (bag (commit ▷ h)) = sym (change-after span.height span.start h commit c.args.commit.cut.now c.args.commit.added.now c.args.commit.numbering.version change ∙ ap (λ x. sort (outside x c.args.commit.cut.now ++ c.args.commit.added.now)) none ∙ sort-of_order c.args.commit.added.now c.requires.commit.order) in
    let empty = ap (length {A = Point}) none in
    reported above h commit (touched-fresh span.height span.start above h commit c.args.commit.numbering.version c.args.commit.added.now change.number same touched (λ _. omega arith)) w) c.build.ensures.nodes

pub apply_child-returns-in_ok-all-in-Leaf-clause-nodes : goal.apply_child-returns-in_ok-all-in-Leaf-clause-nodes
apply_child-returns-in_ok-all-in-Leaf-clause-nodes g t c =
    let span = c.args.span in
    on_ok_weaker c.build-in-Leaf.result (λ reported above h commit holds change touched w some before.
    let node = child-is span.height span.start above h c.args.child c.in-Some.node c.in-Some.is holds in
    let leaf = leaf_data-is span.height span.start above h c.in-Some.node.now.value c.in-Leaf.version c.in-Leaf.points (sym c.deref.ensures ∙ c.in-Leaf.is) node in
    let same : c.deref-in-Leaf-2.result.now ≡ points_of span.height span.start (bag (commit ▷ h)) = c.deref-in-Leaf-2.ensures.value ∙ c.in_ok-all-in-Leaf.ensures ∙ ap (λ x. sort (outside x c.args.commit.cut.now ++ c.args.commit.added.now)) (c.deref-in-Leaf.ensures.value ∙ leaf.same) ∙ sym (change-after span.height span.start h commit c.args.commit.cut.now c.args.commit.added.now c.args.commit.numbering.version change) in
    reported above h commit (touched-fresh span.height span.start above h commit c.args.commit.numbering.version c.deref-in-Leaf-2.result.now change.number same touched (λ _. subst (λ x. length x ≤ LEAF_POINTS) leaf.same leaf.few)) w) c.build-in-Leaf.ensures.nodes

pub apply_child-returns-in-Inner-clause-nodes : goal.apply_child-returns-in-Inner-clause-nodes
apply_child-returns-in-Inner-clause-nodes g t c =
    let span = c.args.span in
    on_ok_weaker c.apply_inner.result (λ reported above h commit holds change touched w some before.
    let node = child-is span.height span.start above h c.args.child c.in-Some.node c.in-Some.is holds in
    let body = inner_data-is span.height span.start above h c.in-Some.node.now.value c.in-Inner.version c.in-Inner.slots (sym c.deref.ensures ∙ c.in-Inner.is) node in
    reported body.below h commit (body-applied span above h commit c.args.commit.cut.now c.args.commit.added.now c.args.commit.numbering.version c.in-Inner.version _ body change) above touched w some before) c.apply_inner.ensures.nodes

pub apply_slots-returns-clause-nodes : goal.apply_slots-returns-clause-nodes
apply_slots-returns-clause-nodes g t c below h commit applied many some before =
    let done : c.loop-i.i ≡ 64 = omega arith in
    c.loop-i.invariant.nodes below h commit applied many some before
    ∙ ap (λ n. bare_all c.args.nodes.now.items ++ concat_first n (λ j. new_nodes below (slot_start below c.args.span.start j) (is_inner (suc below) c.args.span.start) (commit ▷ h) c.args.commit.numbering.version)) done

-- ---- how many nodes there are

pub apply_slots-returns-clause-counted : goal.apply_slots-returns-clause-counted
apply_slots-returns-clause-counted g t c = c.loop-i.invariant.counted

-- ---- where the nodes are

pub apply_slot-returns-then-branch-clause-stored : goal.apply_slot-returns-then-branch-clause-stored
apply_slot-returns-then-branch-clause-stored g t c store low =
    subst (IsLaid store c.args.commit.numbering.first c.args.nodes.now.items c.args.span.height c.args.span.start) (sym c.in_ok-share.ensures) (laid-below store c.args.commit.numbering.first c.args.nodes.now.items c.args.span.height c.args.span.start (node_of c.args.was.now.child) low)

pub apply_child-returns-in-None-clause-stored : goal.apply_child-returns-in-None-clause-stored
apply_child-returns-in-None-clause-stored g t c =
    IfOk-weaker c.build.result _ _ (λ p made store low. made store) c.build.ensures.stored

pub apply_child-returns-in_ok-all-in-Leaf-clause-stored : goal.apply_child-returns-in_ok-all-in-Leaf-clause-stored
apply_child-returns-in_ok-all-in-Leaf-clause-stored g t c =
    IfOk-weaker c.build-in-Leaf.result _ _ (λ p made store low. made store) c.build-in-Leaf.ensures.stored

pub apply_child-returns-in-Inner-clause-stored : goal.apply_child-returns-in-Inner-clause-stored
apply_child-returns-in-Inner-clause-stored g t c =
    let st = c.requires.some in
    let span = c.args.span in
    let node = child-is span.height span.start st.above st.commits c.args.child c.in-Some.node c.in-Some.is st.holds in
    let body = inner_data-is span.height span.start st.above st.commits c.in-Some.node.now.value c.in-Inner.version c.in-Inner.slots (sym c.deref.ensures ∙ c.in-Inner.is) node in
    IfOk-weaker c.apply_inner.result _ _ (λ p made store low. made store body.below body.height (below-children store c.args.commit.numbering.first span.height body.below span.start (node_of c.args.child) c.in-Some.node.now.value c.in-Inner.block c.in-Inner.version c.in-Inner.slots body.height (ap (option_map (λ b. b.now.value)) c.in-Some.is) (sym c.deref.ensures ∙ c.in-Inner.is) low)) c.apply_inner.ensures.stored

pub apply_inner-returns-then-branch-clause-stored : goal.apply_inner-returns-then-branch-clause-stored
apply_inner-returns-then-branch-clause-stored g t c =
    IfOk-weaker c.build.result _ _ (λ p made store below high low. made store) c.build.ensures.stored

pub apply_inner-returns-clause-stored : goal.apply_inner-returns-clause-stored
apply_inner-returns-clause-stored g t c store below high low =
    laid-inner store c.args.commit.numbering.first c.apply_slots.new.nodes.items c.push_inner.new.nodes.items c.args.span below c.args.commit.numbering.version c.in_ok-new_slots.new_slots (linked c.in_ok-push_inner.field-0) c.requires.commit.first.0 high c.in_ok-push_inner.ensures.child c.in_ok-push_inner.ensures.block c.in_ok-push_inner.ensures.nodes (c.in_ok-new_slots.ensures.stored store below high low)

pub apply_slots-returns-clause-stored : goal.apply_slots-returns-clause-stored
apply_slots-returns-clause-stored g t c store below high low =
    let done : c.loop-i.i ≡ 64 = omega arith in
    laid-all store c.args.commit.numbering.first c.loop-i.i c.loop-i.nodes.items below c.args.span.start c.loop-i.new_slots done (c.loop-i.invariant.stored store below high low)
