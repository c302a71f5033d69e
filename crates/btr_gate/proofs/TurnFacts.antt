-- Facts for a turn that ends: its stage, the numbers and the carriers after it, and lists with one entry more.
use Rattle.std.proofs.Common.{◌≡◌, ℕ, ◌+◌, ◌≤◌, ◌⊎◌, Bool, true, false, not, ◌&&◌, ◌||◌, List, [], ◌∷◌, ◌++◌, length, inl, inr, refl, sym, arith, length-append}
use Rattle.std.proofs.lemmas.Bool.{true≢false, cases_lt}
use Rattle.btr_gate.specs.declared.view.Stage.{Stage}
use Rattle.btr_gate.specs.declared.view.Stage.TheVariants.{Unopened, Placing, Idle, Waiting, InTurn, Met}
use Rattle.btr_gate.specs.Prefixes.{StartsWith}
use Rattle.btr_gate.specs.Numbers.{one}
use Rattle.btr_gate.specs.Views.{is_turn}
use Rattle.btr_gate.proofs.PrefixLemmas.{starts_append, starts_between, starts_whole}

module _ {E : Type 0} where
  -- The ticket, the list and the bit of a turn.
  pub turn_of : (stage : Stage E) → is_turn stage ≡ true → (t : ℕ) × (list : List E) × (lent : Bool) × (stage ≡ InTurn t list lent)
  turn_of (InTurn t list lent) e = (t, list, lent, refl)
  turn_of Unopened e = absurd (true≢false (sym e))
  turn_of Placing e = absurd (true≢false (sym e))
  turn_of Idle e = absurd (true≢false (sym e))
  turn_of (Waiting t) e = absurd (true≢false (sym e))
  turn_of (Met a b) e = absurd (true≢false (sym e))

  pub length_snoc : (h : List E) (e : E) → length (h ++ e ∷ []) ≡ length h + 1
  length_snoc h e = length-append h (e ∷ [])

  -- A beginning of a list with one entry more is one of the list, or the whole.
  pub starts_snoc : (h : List E) (e : E) (l : List E) → StartsWith (h ++ e ∷ []) l → StartsWith h l ⊎ ((h ++ e ∷ []) ≡ l)
  starts_snoc h e l p = elim (cases_lt (length h) (length l)) [
    | inr le ↦ inl (starts_between (h ++ e ∷ []) l h p (starts_append h (e ∷ [])) le)
    | inl gt ↦ let n = length_snoc h e in inr (starts_whole (h ++ e ∷ []) l p (omega arith))
  ]

-- How many carry the part after a turn.
pub carriers_after : (all now : ℕ) (before c l : Bool) → now + one c ≡ all + one (l && (c || not before)) → all ≡ one before → one c ≤ all → (before ≡ true → c ≡ false → l ≡ true) → now ≡ one l
carriers_after all now true true true e a le steady = omega arith
carriers_after all now true true false e a le steady = omega arith
carriers_after all now true false true e a le steady = omega arith
carriers_after all now true false false e a le steady = absurd (true≢false (sym (steady refl refl)))
carriers_after all now false true l e a le steady = absurd (omega arith)
carriers_after all now false false true e a le steady = omega arith
carriers_after all now false false false e a le steady = omega arith

pub carries_lent : (l x : Bool) → (l && x) ≡ true → l ≡ true
carries_lent true x e = refl
carries_lent false x e = absurd (true≢false (sym e))

pub one_at_most : (b : Bool) → one b ≤ 1
one_at_most true = omega arith
one_at_most false = omega arith

pub not_true : (b : Bool) → (b ≡ true → ⊥) → b ≡ false
not_true true h = absurd (h refl)
not_true false h = refl
