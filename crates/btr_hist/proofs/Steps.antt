-- Lemmas on one step of a walk over the entries of a history.
use Rattle.std.specs.Prelude.{◌≡◌, ℕ, ◌+◌, ◌≤◌, ◌<◌, ◌≤ℤ◌, int_lt, Bool, true, false, not, Option, Some, None, List, [], ◌∷◌, length, take, drop, get_or, slice_get, cond}
use Rattle.std.specs.List.{filter, filter_map, cons_option, AllByRecursion}
use Rattle.std.proofs.Common.{suc, refl, sym, ap, ◌∙◌, arith}
use Rattle.std.proofs.lemmas.List.{drop_more}
use Rattle.std.proofs.lemmas.Int.{ints}
use Rattle.btr_base.specs.declared.limits.TheConstants.{FIRST, END}
use Rattle.btr_base.specs.declared.point.Point.{Point}
use Rattle.btr_base.specs.Point.{in_domain}
use Rattle.btr_base.specs.Commit.{Change, after}
use Rattle.btr_hist.specs.History.{replay}
use Rattle.btr_hist.specs.Legal.{first_out_of_domain}

-- The element at an index, and those after it.
pub drop_step : {X : Type 0} (xs : List X) (i : ℕ) (x y : X) → i < length xs → x ≡ get_or xs i x → x ≡ y → drop i xs ≡ y ∷ drop (i + 1) xs
drop_step {X} xs i x y low at is = drop_more xs i x low ∙ ap (λ (z : X). z ∷ drop (i + 1) xs) (sym at ∙ is)

-- A step over an element of which f gives a value, or none.
pub step-some : {X Y : Type 0} (f : X → Option Y) (xs : List X) (i : ℕ) (x : X) (y : Y) → i < length xs → x ≡ get_or xs i x → f x ≡ Some y → filter_map f (drop i xs) ≡ y ∷ filter_map f (drop (i + 1) xs)
step-some {X} {Y} f xs i x y low at is =
    ap (filter_map f) (drop_step xs i x x low at refl) ∙ ap (λ (o : Option Y). cons_option o (filter_map f (drop (i + 1) xs))) is

pub step-none : {X Y : Type 0} (f : X → Option Y) (xs : List X) (i : ℕ) (x : X) → i < length xs → x ≡ get_or xs i x → f x ≡ None → filter_map f (drop i xs) ≡ filter_map f (drop (i + 1) xs)
step-none {X} {Y} f xs i x low at is =
    ap (filter_map f) (drop_step xs i x x low at refl) ∙ ap (λ (o : Option Y). cons_option o (filter_map f (drop (i + 1) xs))) is

-- A point outside the domain, or inside it, as the first of a list.
pub out_of_domain-first : (p : Point) (b : List Point) → in_domain p.time ≡ false → first_out_of_domain (p ∷ b) ≡ Some p
out_of_domain-first p b out = ap {A = Bool} {B = Option Point} (λ t. cond (not t) (Some p) (first_out_of_domain b)) out

pub out_of_domain-rest : (p : Point) (b : List Point) → in_domain p.time ≡ true → first_out_of_domain (p ∷ b) ≡ first_out_of_domain b
out_of_domain-rest p b inside = ap {A = Bool} {B = Option Point} (λ t. cond (not t) (Some p) (first_out_of_domain b)) inside

-- Of points that are not before the domain, the first one outside it is the first one after it.
pub out_of_domain-late : (b : List Point) → AllByRecursion (λ p. FIRST ≤ℤ p.time) b → first_out_of_domain b ≡ slice_get (filter (λ p. not (int_lt p.time END)) b) 0
out_of_domain-late [] h = refl
out_of_domain-late (p ∷ b) h =
    let low = h.0 in
    elim (int_lt p.time END) as (λ t. int_lt p.time END ≡ t → first_out_of_domain (p ∷ b) ≡ slice_get (cond (not t) (p ∷ filter (λ q. not (int_lt q.time END)) b) (filter (λ q. not (int_lt q.time END)) b)) 0) [
      | true ↦ λ e. out_of_domain-rest p b (grind (arith, ints)) ∙ out_of_domain-late b h.1
      | false ↦ λ e. out_of_domain-first p b (grind (arith, ints))
    ] refl

-- ---- a walk that applies the first commits

pub walk-commit : (b b' goal : List Point) (c : Change) (cs rest : List Change) (left next : ℕ) → cs ≡ c ∷ rest → replay b (take left cs) ≡ goal → b' ≡ after b c → left ≡ suc next → replay b' (take next rest) ≡ goal
walk-commit b b' goal c cs rest left next is so_far made one =
    ap (λ (x : List Point). replay x (take next rest)) made ∙ sym (ap (λ (n : ℕ). replay b (take n (c ∷ rest))) one) ∙ sym (ap (λ (l : List Change). replay b (take left l)) is) ∙ so_far

pub walk-same : (b b' goal : List Point) (cs rest : List Change) (left next : ℕ) → cs ≡ rest → replay b (take left cs) ≡ goal → b' ≡ b → next ≡ left → replay b' (take next rest) ≡ goal
walk-same b b' goal cs rest left next is so_far same still = cc

pub walk-done : (b b' goal : List Point) (cs rest : List Change) (left next : ℕ) → left ≤ 0 → replay b (take left cs) ≡ goal → b' ≡ b → next ≡ left → replay b' (take next rest) ≡ goal
walk-done b b' goal cs rest left next none so_far same still =
    let left_none : left ≡ 0 = omega arith in
    let next_none : next ≡ 0 = omega arith in
    ap (λ (n : ℕ). replay b' (take n rest)) next_none ∙ same ∙ sym (ap (λ (n : ℕ). replay b (take n cs)) left_none) ∙ so_far
