use Rattle.std.proofs.Common.{◌≤◌, ◌∙◌, List, length, refl, sym, ap, subst, arith, inl}
use Rattle.std.proofs.lemmas.Result.{err_from_is_err_and}
use Rattle.std.proofs.lemmas.List.{length-map}
use Rattle.btr_base.specs.Bag.{IsInOrder}
use Rattle.btr_base.specs.Point.{AreInDomain}
use Rattle.btr_base.specs.Span.{SpanValue}
use Rattle.btr_base.specs.declared.limits.TheConstants.{FIRST, MAX_POINTS}
use Rattle.btr_base.specs.declared.point.Point.{Point}
use Rattle.btr_tree.specs.Change.{IsCounted, end_of}
use Rattle.btr_tree.specs.Crowd.{IsCrowdedFault}
use Rattle.btr_tree.specs.History.{Commit, Past, nothing, ◌▷◌}
use Rattle.btr_tree.specs.NewNodes.{NewNodeValue, bare}
use Rattle.btr_tree.specs.Nodes.{above_root}
use Rattle.btr_tree.specs.Root.{root_part, TreeValue, IsTree}
use Rattle.btr_tree.specs.Shared.{IsBuilt}
use Rattle.btr_tree.specs.Slots.{linked, node_of}
use Rattle.btr_tree.proofs.NodeLemmas.{child-same}
use Rattle.btr_tree.proofs.NewNodeCountLemmas.{new_nodes-bound}
use Rattle.btr_tree.proofs.RootLemmas.{root-fault, tree-room}
use Rattle.btr_tree.proofs.SharedLemmas.{alone}
use Rattle.btr_tree.proofs.PartLemmas.{first-commit, first-tree, first-counted, first-work, first-alone}
use Rattle.btr_tree.proofs.tree.Tree.apply_shared.Goals as goal

pub build_counted-requires-after_bounds : goal.build_counted-requires-after_bounds
build_counted-requires-after_bounds g c κs outlives =
    let few = c.if-count-gt-MAX_POINTS.false in
    first-work c.root_span-span.result c.as_slice-points.result.now c.args.commit.now.first c.root_span-span.ensures (subst IsInOrder (sym c.as_slice-points.ensures.points) c.as_slice-points.ensures.in_order) (subst AreInDomain (sym c.as_slice-points.ensures.points) c.requires.added) few c.requires.first

pub returns-in_err-built-clause-fault : goal.returns-in_err-built-clause-fault
returns-in_err-built-clause-fault g c =
    let mine : Commit = record { version = c.args.commit.now.version; cut = c.args.commit.now.cut.now; added = c.args.commit.now.added.now } in
    let none = sym (ap (λ (t : TreeValue). t.node) c.self.view_is) ∙ c.is_some.ensures c.if-is_some.false in
    let order = c.as_slice-points.ensures.in_order in
    let p = err_from_is_err_and c.from_residual.result c.from_residual.ensures.1 in
    rw (p.1, p.2) (λ h tree.
    let f = first-commit h mine c.args.self.now none tree c.requires.added order in
    root-fault (mine ▷ h) c.in_err-built.field-0.0 f.times (subst (λ x. IsCrowdedFault FIRST (end_of root_part) x c.in_err-built.field-0.0) (c.as_slice-points.ensures.points ∙ f.fresh.same) (subst (λ (u : SpanValue). IsCrowdedFault u.start (end_of u) c.as_slice-points.result.now c.in_err-built.field-0.0) c.root_span-span.ensures c.in_err-built.ensures.fault)))

pub agg_of_child-agg-requires : goal.agg_of_child-agg-requires
agg_of_child-agg-requires g c =
    let points = c.as_slice-points.result.now in
    let built = subst (λ (u : SpanValue). IsBuilt u c.args.commit.now.version c.args.commit.now.first points (linked c.in_ok-built.built.root) c.in_ok-built.built.nodes.items) c.root_span-span.ensures c.in_ok-built.ensures.built in
    subst IsCounted (sym c.seen.ensures) (first-counted c.args.commit.now.version c.args.commit.now.first points (linked c.in_ok-built.built.root) c.in_ok-built.built.nodes.items (subst AreInDomain (sym c.as_slice-points.ensures.points) c.requires.added) (subst IsInOrder (sym c.as_slice-points.ensures.points) c.as_slice-points.ensures.in_order) c.if-count-gt-MAX_POINTS.false built)

pub returns-clause-applied : goal.returns-clause-applied
returns-clause-applied g c =
    let mine : Commit = record { version = c.args.commit.now.version; cut = c.args.commit.now.cut.now; added = c.args.commit.now.added.now } in
    let none = sym (ap (λ (t : TreeValue). t.node) c.self.view_is) ∙ c.is_some.ensures c.if-is_some.false in
    let order = c.as_slice-points.ensures.in_order in
    let root = linked c.in_ok-built.built.root in
    let new = c.in_ok-built.built.nodes.items in
    let built = subst (λ x. IsBuilt root_part c.args.commit.now.version c.args.commit.now.first x root new) c.as_slice-points.ensures.points (subst (λ (u : SpanValue). IsBuilt u c.args.commit.now.version c.args.commit.now.first c.as_slice-points.result.now root new) c.root_span-span.ensures c.in_ok-built.ensures.built) in
    let few = subst (λ (x : List Point). length x ≤ MAX_POINTS) c.as_slice-points.ensures.points c.if-count-gt-MAX_POINTS.false in
    let fresh = λ (h : Past) (tree : IsTree h c.args.self.now). first-commit h mine c.args.self.now none tree c.requires.added order in
    let next = λ (h : Past) (tree : IsTree h c.args.self.now). first-tree h mine c.args.commit.now.first root c.agg_of_child-agg.result new few (fresh h tree) built (λ k s above past holds. c.agg_of_child-agg.ensures k s above past (child-same k s above past root (node_of c.seen.result) c.seen.ensures holds)) in
    let nodes = λ (h : Past) (tree : IsTree h c.args.self.now). built.nodes above_root h mine (fresh h tree).fresh refl in
    record {
      tree = λ h tree. subst (λ (u : SpanValue). IsTree (mine ▷ h) (record { span = u; node = root; total = c.agg_of_child-agg.result })) (sym c.root_span-span.ensures) (next h tree);
      nodes = λ h tree some before. nodes h tree;
      stored = λ store low. built.stored store;
      few = λ h tree some before.
          let same = ap (length {A = NewNodeValue}) (nodes h tree) in
          omega (arith, same, length-map new bare, new_nodes-bound FIRST above_root h mine c.args.commit.now.version refl some before);
      steps = c.in_ok-built.ensures.counted;
      room = λ h tree. tree-room (mine ▷ h) root (next h tree).times (next h tree).node;
    }

pub invariant_of-result : goal.invariant_of-result
invariant_of-result g c =
    let points = c.as_slice-points.result.now in
    let mine = alone c.args.commit.now.version points in
    let times = subst AreInDomain (sym c.as_slice-points.ensures.points) c.requires.added in
    let root = linked c.in_ok-built.built.root in
    let built = subst (λ (u : SpanValue). IsBuilt u c.args.commit.now.version c.args.commit.now.first points root c.in_ok-built.built.nodes.items) c.root_span-span.ensures c.in_ok-built.ensures.built in
    inl (
      mine ▷ nothing,
      subst (λ (u : SpanValue). IsTree (mine ▷ nothing) (record { span = u; node = root; total = c.agg_of_child-agg.result })) (sym c.root_span-span.ensures) (first-tree nothing mine c.args.commit.now.first root c.agg_of_child-agg.result c.in_ok-built.built.nodes.items c.if-count-gt-MAX_POINTS.false (first-alone c.args.commit.now.version points times (subst IsInOrder (sym c.as_slice-points.ensures.points) c.as_slice-points.ensures.in_order)) built (λ k s above past holds. c.agg_of_child-agg.ensures k s above past (child-same k s above past root (node_of c.seen.result) c.seen.ensures holds))),
    )
