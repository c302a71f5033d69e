-- A pass whose share covers is the only one, and has seen all.
use Rattle.std.proofs.Common.{◌≡◌, ◌≢◌, ℕ, ◌≤◌, Bool, true, false, List, length, Option, ⊎_elim, refl, sym, ap, ◌∙◌, arith}
use Rattle.std.proofs.lemmas.Bool.{true≢false}
use Rattle.std.specs.Option.{is_some}
use mathlib.Core.Option.{some}
use mathlib.Core.Logic.{dite}
use native.Mathlib.Decide.{ℕ_discrete}
use lib.ListN.{get_elem?}
use Rattle.atomic_table.specs.Table.{State}
use Rattle.btr_gate.specs.declared.chronicle.Chronicle.{Ghosts}
use Rattle.btr_gate.specs.declared.view.View.{View}
use Rattle.btr_gate.specs.declared.turn.Turn.{Turn}
use Rattle.btr_gate.specs.Numbers.{one}
use Rattle.btr_gate.specs.Shares.{covers}
use Rattle.btr_gate.specs.Views.{spent_view}
use Rattle.btr_gate.specs.Rule.{IsLive, IsInUse}
use Rattle.btr_gate.proofs.Totals.{total_part}
use Rattle.btr_gate.proofs.ShareLemmas.{alone_covers}
use Rattle.btr_gate.proofs.RuleFacts.{same_view}

-- A count of at least one is that of `true`.
pub one_true : (b : Bool) → 1 ≤ one b → b ≡ true
one_true true h = refl
one_true false h = absurd (omega arith)

pub carries_one : (b : Bool) → b ≡ true → one b ≡ 1
carries_one b e = ap one e

module _ {T E X : Type 0} (C : Ghosts T E X) (s : State (Option (Turn T E)) (View E X)) (r : IsInUse C s) (id : ℕ) (v : View E X) (at : get_elem? s.views id ≡ some v) where
  -- If a pass carries the part, the part is lent.
  pub carrier_lent : v.carries ≡ true → r.now.lending ≡ true
  carrier_lent c =
      let part = total_part (λ (u : View E X). one u.carries) s.views id v at in
      let here = carries_one v.carries c in
      let all = r.carriers in
      one_true r.now.lending (omega arith)

  module _ (all : covers v.share ≡ true) where
    -- If the share of a pass covers, each other one is spent.
    pub others_spent : (j : ℕ) (u : View E X) → j ≢ id → get_elem? s.views j ≡ some u → u ≡ spent_view
    others_spent j u other here = ⊎_elim
        (λ spent. spent)
        (λ (l : IsLive C r.now j u). let w = l.word in let e = ap (λ (ws : List (List Bool)). length ws) (alone_covers (λ (x : View E X). x.share) s.views id j v u r.paths at all other here) in absurd (omega arith))
        (r.seats j u here)

    -- It has seen all.
    pub seen_all : r.now.history ≡ v.seen
    seen_all = let w = r.whole in dite (ℕ_discrete w.0 id)
        (λ same. sym w.4 ∙ ap (λ (x : View E X). x.seen) (same_view s.views id w.0 w.1 v same at w.2))
        (λ other. absurd (true≢false (ap (λ (x : Option X). is_some x) (sym w.3 ∙ ap (λ (x : View E X). x.setting) (others_spent w.0 w.1 other w.2)))))
