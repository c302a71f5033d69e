use Rattle.std.proofs.Common.{refl}
use Rattle.btr_base.proofs.SpanLemmas.{width-bottom}
use Rattle.btr_base.proofs.laws.limits_are_these.Goals as goal

pub returns-clause-tree : goal.returns-clause-tree
returns-clause-tree c =
    record {
      leaf_points = refl;
      fan_out = refl;
      root_height = refl;
      bottom_width = refl;
      bottom_span = width-bottom;
    }
