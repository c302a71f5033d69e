-- The pass that has got its turn.
use Rattle.std.proofs.Common.{◌≡◌, ℕ, List, Option, Some, sym, ap, subst}
use Rattle.btr_gate.specs.declared.chronicle.Chronicle.{Ghosts}
use Rattle.btr_gate.specs.declared.view.View.{View}
use Rattle.btr_gate.specs.declared.view.Stage.{Stage}
use Rattle.btr_gate.specs.declared.view.Stage.TheVariants.{Waiting}
use Rattle.btr_gate.specs.declared.turn.Turn.{Turn}
use Rattle.btr_gate.specs.Views.{at_stage}
use Rattle.btr_gate.specs.Turns.{Takes}
use Rattle.btr_gate.specs.Steps.{Seated, Served, holding}
use Rattle.btr_gate.proofs.KeepsTurns.{same_turn}

module _ {T E X : Type 0} (C : Ghosts T E X) where
  -- What a turn gets does not depend on the stage before.
  takes_before : (v w : View E X) (stage : Stage E) (turn : Turn T E) → Takes C (at_stage v stage) w turn → Takes C v w turn
  takes_before v w stage turn t = record {
    state = t.state;
    none = t.none;
    lent = t.lent;
    begins = t.begins;
    climbs = t.climbs;
    carrier = t.carrier;
    still = t.still;
    since = t.since;
    alone = t.alone;
  }

  pub slot_full : (m n : Seated T E X) → Served C m n → (turn : Turn T E) × (n.1 ≡ holding (Some turn))
  slot_full m n s = (s.3, ap (λ (x : Seated T E X). x.1) s.4)

  pub taken : (v : View E X) (ticket : ℕ) (out : List (ℕ × Option (Turn T E))) (m n : Seated T E X) (w : View E X) (turn : Turn T E) → m ≡ (at_stage v (Waiting ticket), out) → Served C m n → w ≡ n.0 → n.1 ≡ holding (Some turn) → Takes C v w turn
  taken v ticket out m n w turn drawn s left has =
      takes_before v w (Waiting ticket) turn
      (subst (λ (x : View E X × View E X × Turn T E). Takes C x.0 x.1 x.2) (λ i. (ap (λ (x : Seated T E X). x.0) drawn i, sym left i, same_turn n.1 s.3 turn (ap (λ (x : Seated T E X). x.1) s.4) has i)) s.5)
