-- Lemmas on walks that stop for a refusal, or out of memory.
use Rattle.std.specs.Prelude.{◌≡◌, ℕ, ◌≤◌, Result, Err, IfErr}
use Rattle.std.proofs.Common.{◌∙◌, arith, subst}
use Rattle.btr_tree.specs.declared.walk_fault.WalkFault.{WalkFault}
use Rattle.btr_tree.specs.declared.walk_fault.WalkFault.TheVariants.{Want, Refused}
use Rattle.btr_tree.specs.NodeSource.{IfRefused, UsesSource}

-- What holds of a refusal, from what held of it.
pub refused-weaker : {E : Type 0} (P Q : E → Type 0) (w : WalkFault E) → ((e : E) → P e → Q e) → IfRefused P w → IfRefused Q w
refused-weaker P Q Want f held = tt
refused-weaker P Q (Refused e) f held = f e held

pub refused-passed : {B E : Type 0} (P Q : E → Type 0) (q : Result B (WalkFault E)) (w : WalkFault E) → q ≡ Err w → ((e : E) → P e → Q e) → IfRefused P w → IfErr q (IfRefused Q)
refused-passed P Q q w is f held = rw is (refused-weaker P Q w f held)

-- A call after others is refused, and the refusal is passed on.
pub uses-passed : {State Told A B E : Type 0} (told : State → Told) (faults : State → ℕ) (IsCaused : Told → ℕ → ℕ → E → Type 0) (a b c : State) (q : Result B (WalkFault E)) (w : WalkFault E) → q ≡ Err w → ((t : Told) (x y z : ℕ) (e : E) → x ≤ y → IsCaused t y z e → IsCaused t x z e) → told b ≡ told a → faults a ≤ faults b → UsesSource {A = A} told faults (λ t x y. IfRefused (IsCaused t x y)) b c (Err w) → UsesSource told faults (λ t x y. IfRefused (IsCaused t x y)) a c q
uses-passed told faults IsCaused a b c q w is earlier same up uses =
    let more = uses.rises in
    let cause : IfRefused (IsCaused (told a) (faults b) (faults c)) w = subst (λ t. IfRefused (IsCaused t (faults b) (faults c)) w) same uses.cause in
    record {
      same = uses.same ∙ same;
      rises = omega arith;
      cause = refused-passed _ _ q w is (λ e. earlier (told a) (faults a) (faults b) (faults c) e up) cause;
    }
