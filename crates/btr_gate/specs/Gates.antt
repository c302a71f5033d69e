-- What contracts see of a gate and a pass.
use Rattle.std.specs.Prelude.{◌≡◌, false}
use Rattle.btr_gate.specs.declared.view.View.{View}
use Rattle.btr_gate.specs.declared.view.Stage.TheVariants.{Idle}
use Rattle.btr_gate.specs.declared.gate.Gate.{Gate}
use Rattle.btr_gate.specs.declared.gate.Pass.{Pass}

module _ {T E X : Type 0} where
  -- The pass is one of this gate.
  abbrev pub IsPassOf : Gate T E X → Pass T E X → Type 0
  IsPassOf gate pass = pass.seat.table_id ≡ gate.table.shared.table_id

  -- What the pass knows.
  abbrev pub view : Pass T E X → View E X
  view pass = pass.seat.me.0

  -- The pass is one of this gate, has no ticket, and carries no part.
  abbrev pub IsFree : Gate T E X → Pass T E X → Type 0
  IsFree gate pass = IsPassOf gate pass × ((view pass).stage ≡ Idle) × ((view pass).carries ≡ false)
