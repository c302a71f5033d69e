use Rattle.std.proofs.Common.{◌≡◌, ℕ, List, ◌∙◌, sym, ap, refl, subst, true≢false}
use Rattle.std.specs.List.{flat_map, AllByRecursion}
use Rattle.btr_base.specs.declared.point.Point.{Point}
use Rattle.btr_base.specs.Bag.{IsInOrder, sort}
use Rattle.btr_base.proofs.PointLemmas.{sort-of_order}
use Rattle.btr_base.specs.Point.{AreInDomain}
use Rattle.btr_entry.specs.Grammar.{point}
use Rattle.btr_entry.specs.Fields.{PointFits, AreAddable}
use Rattle.btr_entry.proofs.ItemLemmas.{items_once, point_item, each_room, room-values}
use Rattle.btr_entry.proofs.lists.read_bag.Goals as goal

same_points : (v b : List Point) (bytes : List ℕ) → AllByRecursion PointFits v → flat_map point v ≡ bytes → AreAddable b → flat_map point b ≡ bytes → b ≡ v
same_points v b bytes room is h same =
    items_once point PointFits point_item b v (each_room b h.in_domain h.values_fit) room (same ∙ sym is)

-- The points that were read can be added, if they are in order and in the domain.
good_points : (v bag : List Point) (bytes : List ℕ) → AllByRecursion PointFits v → flat_map point v ≡ bytes → IsInOrder v → AreInDomain v → bag ≡ sort v → AreAddable bag × (flat_map point bag ≡ bytes)
good_points v bag bytes room is in_order in_domain sorted =
    let same : v ≡ bag = sym (sorted ∙ sort-of_order v in_order) in
    let added : AreAddable v = record { in_order = in_order; in_domain = in_domain; values_fit = room-values v room } in
    (subst AreAddable same added, ap (flat_map point) (sym same) ∙ is)

pub returns-then-not-are_in_order-clause-none : goal.returns-then-not-are_in_order-clause-none
returns-then-not-are_in_order-clause-none c b h same =
    let v = c.in_ok-points.points.items in
    let one : b ≡ v = same_points v b c.args.bytes.now c.in_ok-points.ensures.room c.in_ok-points.ensures.bytes h same in
    let ordered : IsInOrder c.deref.result.now = subst IsInOrder (one ∙ sym c.deref.ensures.value) h.in_order in
    absurd (true≢false (sym (c.if-not-are_in_order.ensures.1 ordered)))

pub returns-then-not-are_in_domain-clause-none : goal.returns-then-not-are_in_domain-clause-none
returns-then-not-are_in_domain-clause-none c b h same =
    let v = c.in_ok-points.points.items in
    let one : b ≡ v = same_points v b c.args.bytes.now c.in_ok-points.ensures.room c.in_ok-points.ensures.bytes h same in
    let inside : AreInDomain c.deref-2.result.now = subst AreInDomain (one ∙ sym c.deref-2.ensures.value) h.in_domain in
    absurd (true≢false (sym (c.if-not-are_in_domain.ensures.1 inside)))

pub returns-clause-found : goal.returns-clause-found
returns-clause-found c =
    let v = c.in_ok-points.points.items in
    let ordered : IsInOrder v = subst IsInOrder c.deref.ensures.value (c.if-not-are_in_order.ensures.0 refl) in
    let inside : AreInDomain v = subst AreInDomain c.deref-2.ensures.value (c.if-not-are_in_domain.ensures.0 refl) in
    good_points v c.from_points.result c.args.bytes.now c.in_ok-points.ensures.room c.in_ok-points.ensures.bytes ordered inside c.from_points.ensures
