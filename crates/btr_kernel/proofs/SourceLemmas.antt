-- Lemmas on the trees of the inputs.
use Rattle.std.specs.Prelude.{Option, Some, None}
use Rattle.btr_base.specs.Point.{AreInDomain}
use Rattle.btr_tree.specs.History.{Past}
use Rattle.btr_tree.specs.Root.{TreeValue}
use Rattle.btr_kernel.specs.Sources.{IsSecond, second_past_points}

pub second-in_domain : (k : Option Past) (t : Option TreeValue) → IsSecond k t → AreInDomain (second_past_points k)
second-in_domain None t h = tt
second-in_domain (Some past) None h = absurd h
second-in_domain (Some past) (Some tree) h = h.times
