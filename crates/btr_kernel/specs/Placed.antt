-- A window by the indices of its ends.
use Rattle.std.specs.Prelude.{◌≤◌, List, length}
use Rattle.btr_base.specs.declared.point.Point.{Point}
use Rattle.btr_kernel.specs.declared.window.Window.{Window}

-- Both indices are among those of the points, or after the last.
pub record IsPlaced (b : List Point) (w : Window) : Type 0 where
  pub order : w.from ≤ w.to
  pub within : w.to ≤ length b
