-- The state of the sweep over the anchors of an output.
use Rattle.std.specs.Prelude.{ℤ, List}
use Rattle.btr_base.specs.declared.point.Point.{Point}
use Rattle.btr_base.specs.Point.{InDomain}
use Rattle.btr_kernel.specs.Placed.{IsPlaced}
use Rattle.btr_kernel.specs.declared.sweep.Sweep.{Sweep}
use Rattle.btr_kernel.specs.Window.{HasPointAt}
use Rattle.btr_kernel.specs.Parts.{IsSliding}

-- The ends of the windows are indices of the points of the two inputs, and the aggregates are those of the first.
pub record IsSweep (a b : List Point) (s : Sweep) : Type 0 where
  pub first : IsPlaced a s.first
  pub second : IsPlaced b s.second
  pub sliding : IsSliding a s.sliding

-- The time lies in the domain, and one of the points has it.
pub record IsAnchor (b : List Point) (t : ℤ) : Type 0 where
  pub in_domain : InDomain t
  pub point : HasPointAt t b
