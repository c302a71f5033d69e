-- What is left of a turn whose entry was counted, and of one that has ended.
use Rattle.std.proofs.Common.{◌≡◌, ℕ, Bool, true, false, not, ◌&&◌, ◌||◌, Option, None, Some, refl, sym, ap, ◌∙◌}
use Rattle.std.proofs.lemmas.Bool.{true≢false}
use Rattle.std.specs.Option.{is_some}
use Rattle.atomic_table.specs.Table.{step}
use mathlib.Core.Option.{none}
use Rattle.btr_gate.specs.declared.chronicle.Chronicle.{Ghosts}
use Rattle.btr_gate.specs.declared.view.View.{View}
use Rattle.btr_gate.specs.declared.view.Stage.TheVariants.{InTurn}
use Rattle.btr_gate.specs.declared.turn.Turn.{Turn}
use Rattle.btr_gate.specs.Views.{is_turn, list_after}
use Rattle.btr_gate.specs.Steps.{Seated, Counts, settled, holding}
use Rattle.btr_gate.specs.Seats.{IsCounted}
use Rattle.btr_gate.proofs.TurnFacts.{turn_of}

module _ {E : Type 0} where
  pub some_added : (added : Option E) → is_some added ≡ true → (e : E) × (added ≡ Some e)
  some_added (Some e) h = (e, refl)
  some_added None h = absurd (true≢false (sym h))

carries_again : (l c b : Bool) → (l && ((l && (c || not b)) || not l)) ≡ (l && (c || not b))
carries_again false c b = refl
carries_again true true b = refl
carries_again true false true = refl
carries_again true false false = refl

module _ {T E X : Type 0} (C : Ghosts T E X) where
  -- The view after a turn's entry was counted.
  abbrev pub counted_view : View E X → Turn T E → ℕ → View E X
  counted_view v turn t = settled C v turn (InTurn t (list_after v turn.added) (C.lent turn.state))

  pub counted_me : (v : View E X) (turn : Turn T E) (m n : Seated T E X) → is_turn v.stage ≡ true → m ≡ (v, holding (Some turn)) → Counts C (step 0 0 0 0 none) m 0 n
      → (t : ℕ) × (n ≡ (counted_view v turn t, holding (Some turn)))
  counted_me v turn m n in_turn e counts =
      let o = turn_of v.stage in_turn in
      (o.0, counts o.0 o.1 o.2 turn (ap (λ (x : Seated T E X). x.0.stage) e ∙ o.3) (ap (λ (x : Seated T E X). x.1) e) ∙ ap (λ (x : Seated T E X). (counted_view x.0 turn o.0, x.1)) e)

  pub is_counted : (v : View E X) (turn : Turn T E) (t : ℕ) → IsCounted C v turn (counted_view v turn t)
  is_counted v turn t = record {
    list = refl;
    mine = refl;
    share = refl;
    setting = refl;
    start = refl;
    turns = refl;
    carries = carries_again (C.lent turn.state) v.carries _;
    lent = λ e _. e;
  }
