use Rattle.std.proofs.Math.Nat.{eq-or-lt_of_le}
use Rattle.std.proofs.Common.{◌≡◌, ◌+◌, ◌<◌, min, inl, inr, length, refl, sym, ap, ◌∙◌, subst, arith, ◌++◌, List}
use Rattle.std.proofs.lemmas.Result.{err_from_is_err_and}
use Rattle.std.proofs.lemmas.List.{length-map}
use Rattle.btr_base.specs.declared.limits.TheConstants.{FIRST}
use Rattle.btr_base.specs.Bag.{IsInOrder}
use Rattle.btr_base.specs.Range.{IsCut}
use Rattle.btr_base.specs.Span.{SpanValue}
use Rattle.btr_base.specs.Agg.{agg}
use Rattle.btr_base.proofs.AggLemmas.{agg-count}
use Rattle.btr_tree.specs.History.{Commit, Past, bag, ◌▷◌, IsBefore}
use Rattle.btr_tree.specs.Nodes.{points_of, above_root}
use Rattle.btr_tree.specs.Shape.{IsChild}
use Rattle.btr_tree.specs.Slots.{linked, node_of}
use Rattle.btr_tree.specs.Change.{end_of}
use Rattle.btr_tree.specs.Crowd.{IsCrowdedFault}
use Rattle.btr_tree.specs.Root.{IsTree}
use Rattle.btr_tree.proofs.RootLemmas.{root-step, root-points, root-fault, tree-of, tree-room, tree-whole}
use Rattle.btr_tree.proofs.StoredLemmas.{below-either}
use Rattle.btr_tree.specs.NewNodes.{NewNodeValue}
use Rattle.btr_tree.specs.NewNodes.{new_nodes, bare, bare_all}
use Rattle.btr_tree.specs.Stored.{IsBelow, IsLaid}
use Rattle.btr_tree.proofs.NewNodeCountLemmas.{new_nodes-bound}
use Rattle.btr_tree.proofs.tree.Tree.apply.Goals as goal

pub apply_slot-requires-clause-some : goal.apply_slot-requires-clause-some
apply_slot-requires-clause-some g c =
    let h = c.whole-total.ensures.some.0 in
    let mine : Commit = record { version = c.args.commit.now.version; cut = c.args.commit.now.cut.now; added = c.args.commit.now.added.now } in
    let step = root-step c.root_span.result h mine (node_of c.whole-total.result.0) c.whole-total.result.1 c.as_slice.result.now c.as_slice-2.result.now c.root_span.ensures c.as_slice.ensures.ranges c.as_slice-2.ensures.points c.whole-total.ensures.some.1 c.requires.added in
    let long = c.as_slice-2.type_inv in
    let few = step.few in
    record { above = above_root; commits = h; holds = step.holds; counted = step.counted; few = omega arith }

pub apply_slot-requires-clause-commit : goal.apply_slot-requires-clause-commit
apply_slot-requires-clause-commit g c =
    let h = c.whole-total.ensures.some.0 in
    let mine : Commit = record { version = c.args.commit.now.version; cut = c.args.commit.now.cut.now; added = c.args.commit.now.added.now } in
    let step = root-step c.root_span.result h mine (node_of c.whole-total.result.0) c.whole-total.result.1 c.as_slice.result.now c.as_slice-2.result.now c.root_span.ensures c.as_slice.ensures.ranges c.as_slice-2.ensures.points c.whole-total.ensures.some.1 c.requires.added in
    let first = c.requires.first in
    record {
      cut = subst IsCut (sym c.as_slice.ensures.ranges) c.as_slice.ensures.cut;
      order = subst IsInOrder (sym c.as_slice-2.ensures.points) c.as_slice-2.ensures.in_order;
      inside = step.inside;
      first = first;
    }

pub returns-in_err-slot-clause-fault : goal.returns-in_err-slot-clause-fault
returns-in_err-slot-clause-fault g c =
    let mine : Commit = record { version = c.args.commit.now.version; cut = c.args.commit.now.cut.now; added = c.args.commit.now.added.now } in
    let p = err_from_is_err_and c.from_residual.result c.from_residual.ensures.1 in
    rw (p.1, p.2) (λ h tree.
    let step = root-step c.root_span.result h mine (node_of c.whole-total.result.0) c.whole-total.result.1 c.as_slice.result.now c.as_slice-2.result.now c.root_span.ensures c.as_slice.ensures.ranges c.as_slice-2.ensures.points (tree-whole h c.args.self.now (node_of c.whole-total.result.0) c.whole-total.result.1 tree (c.whole-total.ensures.same h tree).0 (c.whole-total.ensures.same h tree).1) c.requires.added in
    root-fault (mine ▷ h) c.in_err-slot.field-0.0 step.times (subst (λ (u : SpanValue). IsCrowdedFault u.start (end_of u) (points_of u.height u.start (bag (mine ▷ h))) c.in_err-slot.field-0.0) c.root_span.ensures (c.in_err-slot.ensures.fault above_root h mine refl step.holds step.counted step.change)))

pub returns-then-agg-gt-MAX_POINTS-clause-fault : goal.returns-then-agg-gt-MAX_POINTS-clause-fault
returns-then-agg-gt-MAX_POINTS-clause-fault g c h tree =
    let mine : Commit = record { version = c.args.commit.now.version; cut = c.args.commit.now.cut.now; added = c.args.commit.now.added.now } in
    let step = root-step c.root_span.result h mine (node_of c.whole-total.result.0) c.whole-total.result.1 c.as_slice.result.now c.as_slice-2.result.now c.root_span.ensures c.as_slice.ensures.ranges c.as_slice-2.ensures.points (tree-whole h c.args.self.now (node_of c.whole-total.result.0) c.whole-total.result.1 tree (c.whole-total.ensures.same h tree).0 (c.whole-total.ensures.same h tree).1) c.requires.added in
    let holds = subst (λ (u : SpanValue). IsChild u.height u.start above_root (mine ▷ h) (linked c.in_ok-slot.root)) c.root_span.ensures (c.in_ok-slot.ensures.child above_root h mine refl step.holds step.counted step.change) in
    let counted = subst (λ (u : SpanValue). c.in_ok-slot.slot.agg ≡ agg (points_of u.height u.start (bag (mine ▷ h)))) c.root_span.ensures ((c.in_ok-slot.ensures.slot above_root h mine refl step.holds step.counted step.change).agg) in
    let count : c.agg.inside.count ≡ length (bag (mine ▷ h)) = ap (λ u. u.count) c.agg.view_is ∙ ap (λ u. u.count) counted ∙ agg-count (points_of 10 FIRST (bag (mine ▷ h))) ∙ ap length (root-points (bag (mine ▷ h)) step.times) in
    (count, c.if-agg-gt-MAX_POINTS.true, tree-room (mine ▷ h) (linked c.in_ok-slot.root) step.times holds)

pub returns-clause-applied : goal.returns-clause-applied
returns-clause-applied g c =
    let mine : Commit = record { version = c.args.commit.now.version; cut = c.args.commit.now.cut.now; added = c.args.commit.now.added.now } in
    let root = linked c.in_ok-slot.root in
    let step = λ (h : Past) (tree : IsTree h c.args.self.now). root-step c.root_span.result h mine (node_of c.whole-total.result.0) c.whole-total.result.1 c.as_slice.result.now c.as_slice-2.result.now c.root_span.ensures c.as_slice.ensures.ranges c.as_slice-2.ensures.points (tree-whole h c.args.self.now (node_of c.whole-total.result.0) c.whole-total.result.1 tree (c.whole-total.ensures.same h tree).0 (c.whole-total.ensures.same h tree).1) c.requires.added in
    let holds = λ (h : Past) (tree : IsTree h c.args.self.now). subst (λ (u : SpanValue). IsChild u.height u.start above_root (mine ▷ h) root) c.root_span.ensures (c.in_ok-slot.ensures.child above_root h mine refl (step h tree).holds (step h tree).counted (step h tree).change) in
    let counted = λ (h : Past) (tree : IsTree h c.args.self.now). subst (λ (u : SpanValue). c.in_ok-slot.slot.agg ≡ agg (points_of u.height u.start (bag (mine ▷ h)))) c.root_span.ensures ((c.in_ok-slot.ensures.slot above_root h mine refl (step h tree).holds (step h tree).counted (step h tree).change).agg) in
    let nodes = λ (h : Past) (tree : IsTree h c.args.self.now) (some : 0 < c.args.commit.now.version) (before : IsBefore c.args.commit.now.version h).
    c.in_ok-slot.ensures.nodes above_root h mine refl (step h tree).holds (step h tree).counted (step h tree).change refl some before
    ∙ ap (λ (u : SpanValue). bare_all c.new-nodes.result.items ++ new_nodes u.height u.start above_root (mine ▷ h) c.args.commit.now.version) c.root_span.ensures
    ∙ ap (λ (x : List NewNodeValue). bare_all x ++ new_nodes 10 FIRST above_root (mine ▷ h) c.args.commit.now.version) c.new-nodes.ensures.items in
    let many = c.if-agg-gt-MAX_POINTS.false in
    let none = ap (length {A = NewNodeValue}) c.new-nodes.ensures.items in
    let count = c.in_ok-slot.ensures.counted in
    record {
      tree = λ h tree. subst (λ (u : SpanValue). IsTree (mine ▷ h) (record { span = u; node = root; total = c.in_ok-slot.slot.agg })) (sym c.root_span-2.ensures) (tree-of (mine ▷ h) root c.in_ok-slot.slot.agg (step h tree).times (holds h tree) (counted h tree) (omega (arith, ap (λ u. u.count) c.agg.view_is)));
      nodes = nodes;
      stored = λ store low.
          let seen = below-either store c.args.commit.now.first 10 FIRST c.args.self.now.node (node_of c.whole-total.result.0) c.requires.first.0 c.whole-total.ensures.either low in
          let here = subst (λ (u : SpanValue). IsBelow store c.args.commit.now.first u.height u.start (node_of c.whole-total.result.0)) (sym c.root_span.ensures) seen in
          subst (λ (u : SpanValue). IsLaid store c.args.commit.now.first c.apply_slot.new.nodes.items u.height u.start root) c.root_span.ensures (c.in_ok-slot.ensures.stored store here);
      few = λ h tree some before.
          let same = ap (length {A = NewNodeValue}) (nodes h tree some before) in
          omega (arith, same, length-map c.apply_slot.new.nodes.items bare, new_nodes-bound FIRST above_root h mine c.args.commit.now.version refl some before);
      steps = elim (eq-or-lt_of_le count.grows) [
        | inl same ↦ omega (arith, count.none (sym same))
        | inr more ↦ count.some more ∙ ap (λ n. min (c.args.steps.now + n) 18446744073709551615) (omega arith)
      ];
      room = λ h tree. tree-room (mine ▷ h) root (step h tree).times (holds h tree);
    }

pub invariant_of-result : goal.invariant_of-result
invariant_of-result g c =
    let h = c.whole-total.ensures.some.0 in
    let mine : Commit = record { version = c.args.commit.now.version; cut = c.args.commit.now.cut.now; added = c.args.commit.now.added.now } in
    let step = root-step c.root_span.result h mine (node_of c.whole-total.result.0) c.whole-total.result.1 c.as_slice.result.now c.as_slice-2.result.now c.root_span.ensures c.as_slice.ensures.ranges c.as_slice-2.ensures.points c.whole-total.ensures.some.1 c.requires.added in
    let holds = subst (λ (u : SpanValue). IsChild u.height u.start above_root (mine ▷ h) (linked c.in_ok-slot.root)) c.root_span.ensures (c.in_ok-slot.ensures.child above_root h mine refl step.holds step.counted step.change) in
    let counted = subst (λ (u : SpanValue). c.in_ok-slot.slot.agg ≡ agg (points_of u.height u.start (bag (mine ▷ h)))) c.root_span.ensures ((c.in_ok-slot.ensures.slot above_root h mine refl step.holds step.counted step.change).agg) in
    let few = c.if-agg-gt-MAX_POINTS.false in
    inl (
      mine ▷ h,
      subst (λ (u : SpanValue). IsTree (mine ▷ h) (record { span = u; node = linked c.in_ok-slot.root; total = c.in_ok-slot.slot.agg })) (sym c.root_span-2.ensures) (tree-of (mine ▷ h) (linked c.in_ok-slot.root) c.in_ok-slot.slot.agg step.times holds counted (omega (arith, ap (λ u. u.count) c.agg.view_is))),
    )
