-- What contracts see of a machine: of which machine of the model it is.
use Rattle.std.specs.Prelude.{◌≡◌, ℕ, List, [], ◌++◌, Option, Some, None}
use Rattle.std.specs.Ordering.{nat_cmp}
use Rattle.std.specs.BTreeMap.{get}
use Rattle.btr_hist.specs.declared.entry.Entry.{Entry}
use Rattle.btr_hist.specs.Legal.{Legal}
use Rattle.btr_hist.specs.Machine.{Landing}
use Rattle.btr_hist.specs.Machine as model
use Rattle.btr_streams.specs.declared.snapshot.Snapshot.{Snapshot}
use Rattle.btr_streams.specs.Board.{IsBoardOf}
use Rattle.btr_streams.specs.Snapshot.{IsSnapshotOf}
use Rattle.btr_distil.specs.Plan.{PlanValue}
use Rattle.btr_plan.specs.Plan.{IsPlanOf, landing_of}
use Rattle.btr_core.specs.declared.machine.Machine.{Machine}

-- The history begins with these entries.
abbrev pub BeginsWith : List Entry → List Entry → Type 0
BeginsWith h g = (more : List Entry) × (g ++ more ≡ h)

-- The snapshot that an actor was admitted to last is of these entries, with which the history begins. An actor without one is
-- admitted to no entries.
abbrev pub IsAdmitted : List Entry → List Entry → Option Snapshot → Type 0
IsAdmitted h g None = g ≡ []
IsAdmitted h g (Some s) = BeginsWith h g × IsSnapshotOf g s

-- There is a plan exactly if the model has one, and it is that one: it follows the same version of the same output and reads the
-- same versions. It is a plan of the history: the distillate of the definition from what that version has read to what it reads.
abbrev pub IsPlan : List Entry → Option Landing → Option PlanValue → Type 0
IsPlan h None None = Unit {0}
IsPlan h (Some l) (Some p) = (landing_of p ≡ l) × IsPlanOf h p
IsPlan h l p = ⊥

-- The machine is this one of the model: its board is of the history, which is legal, and each actor has the snapshot of the
-- entries that it was admitted to, and the plan that it has made.
pub record IsMachineOf (m : model.Machine) (s : Machine) : Type 0 where
  pub board : IsBoardOf m.history s.board
  pub legal : Legal m.history
  pub admitted : (actor : ℕ) → IsAdmitted m.history (m.admitted actor) (get nat_cmp s.admitted actor)
  pub plans : (actor : ℕ) → IsPlan m.history (m.plan actor) (get nat_cmp s.plans actor)

-- The machine is as before: its board, each actor's snapshot, and each actor's plan.
pub record IsAsBefore (old new : Machine) : Type 0 where
  pub board : new.board ≡ old.board
  pub admitted : new.admitted.entries ≡ old.admitted.entries
  pub plans : new.plans.entries ≡ old.plans.entries
