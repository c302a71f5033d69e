use Rattle.std.proofs.Common.{◌≡◌, true, List, map, subst}
use Rattle.btr_base.specs.declared.point.Point.{Point}
use Rattle.btr_base.specs.Changes.{changes as changes_of}
use Rattle.btr_base.specs.Cut.{union}
use Rattle.btr_hist.specs.Kernel.{is_good}
use Rattle.btr_hist.specs.Distil.{widened}
use Rattle.btr_distil.specs.Sight.{SightValue, IsInput}
use Rattle.btr_distil.proofs.PlanLemmas.{affected-is}
use Rattle.btr_distil.proofs.changed.affected.Goals as goal

pub returns : goal.returns
returns c old new of =
    let first = c.in_ok-first.first in
    let good = subst (λ (s : SightValue). is_good s.spec ≡ true) c.sight.view_is c.sight.invariant.good in
    let is = subst (λ (s : SightValue). (before after : List Point) → IsInput s.old_reads.first s.old_first s.new_first before after → first ≡ union (map (widened s.spec) (changes_of s.spec.grain before after))) c.sight.view_is c.in_ok-first.ensures in
    affected-is c.args.sight.now.spec old new first c.in_ok-second.second _ good (is old.first new.first of.first) (c.in_ok-second.ensures old.second new.second of.second) c.in_ok-all.ensures.ranges
