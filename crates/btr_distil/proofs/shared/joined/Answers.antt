use Rattle.std.proofs.Common.{rules, ◌≡◌, [], ◌++◌, ◌∙◌, sym, ap, subst, append_assoc, append-nil}
use Rattle.std.specs.List.{flat_map}
use Rattle.std.proofs.lemmas.List.{nil_from_length}
use Rattle.std.specs.Vec.Iter.{into_iter_items}
use Rattle.btr_base.specs.Bag.{IsInOrder, sort}
use Rattle.btr_base.proofs.PointLemmas.{sort-in_order, sort-of_order, sort-sort_left}
use Rattle.btr_distil.proofs.shared.joined.Goals as goal

pub loop-bag-preserved : goal.loop-bag-preserved
loop-bag-preserved c =
    let points = c.loop-bag.points in
    let bag = c.in-Some-next.bag in
    let rest = flat_map (λ b. b) (into_iter_items c.next-in-loop-bag.new.self) in
    let appended : c.append.new.self ≡ sort (points ++ bag) = c.in_ok-append.ensures.added in
    let next : flat_map (λ b. b) (into_iter_items c.loop-bag.others) ≡ bag ++ rest = search rules in
    record {
      order = subst IsInOrder (sym appended) (sort-in_order (points ++ bag));
      long = search rules;
      all =
          ap (λ b. sort (b ++ rest)) appended
          ∙ sort-sort_left (points ++ bag) rest
          ∙ ap sort (append_assoc points bag rest)
          ∙ ap (λ l. sort (points ++ l)) (sym next)
          ∙ c.loop-bag.invariant.all;
    }

pub returns : goal.returns
returns c =
    let points = c.loop-bag.points in
    let empty : into_iter_items c.loop-bag.others ≡ [] = nil_from_length (into_iter_items c.loop-bag.others) (sym c.loop-bag.invariant.long ∙ c.in_default-next.ensures.cases.0) in
    let none : flat_map (λ b. b) (into_iter_items c.loop-bag.others) ≡ [] = ap (flat_map (λ b. b)) empty in
    sym (sort-of_order points c.loop-bag.invariant.order)
    ∙ ap sort (sym (append-nil points))
    ∙ ap (λ l. sort (points ++ l)) (sym none)
    ∙ c.loop-bag.invariant.all
