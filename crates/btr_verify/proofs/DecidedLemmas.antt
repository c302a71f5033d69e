-- Lemmas on facts that hold or do not hold: whether two stored nodes are one, and whether a node's own fields are right.
use Rattle.std.specs.Prelude.{◌≡◌, ◌⊎◌, ℕ, nat_eq, ℤ, Bool, true, false, List, [], ◌∷◌, Option, Some, None}
use Rattle.std.specs.Ordering.{int_eq}
use Rattle.std.proofs.Common.{refl, sym, ap, arith, subst, inl, inr}
use Rattle.std.proofs.lemmas.Bool.Decides.{nat_tests}
use Rattle.std.proofs.lemmas.Int.{ints}
use Rattle.btr_base.specs.Agg.{AggValue}
use Rattle.btr_base.specs.declared.point.Point.{Point}
use Rattle.btr_base.specs.Point.{same_point}
use Rattle.btr_base.specs.Span.{SpanValue}
use Rattle.btr_base.proofs.PointLemmas.{same_point-true, same_point-refl}
use Rattle.btr_tree.specs.declared.node.Slot.{Slot}
use Rattle.btr_tree.specs.History.{Past}
use Rattle.btr_tree.specs.NewNodes.{NewNodeValue, bare}
use Rattle.btr_tree.specs.Nodes.{up_to}
use Rattle.btr_verify.specs.Judged.{is_node_in, node_in, IsOwn}
use Rattle.btr_verify.proofs.FieldLemmas.{pair-by, span-by, agg-by, slot-by, node-by}

-- The fact holds, or it does not.
abbrev pub Decided : Type 0 → Type 0
Decided P = P ⊎ (P → ⊥)

pub decided-as : (P Q : Type 0) → (P → Q) → (Q → P) → Decided P → Decided Q
decided-as P Q f g (inl p) = inl (f p)
decided-as P Q f g (inr p) = inr (λ q. p (g q))

pub decided-both : (P Q : Type 0) → Decided P → Decided Q → Decided (P × Q)
decided-both P Q (inl p) (inl q) = inl (p, q)
decided-both P Q (inl p) (inr q) = inr (λ x. q x.1)
decided-both P Q (inr p) d = inr (λ x. p x.0)

apart : true ≡ false → ⊥
apart e = absurd (cc)

-- By a test that is true exactly if the fact holds.
by-test : (P : Type 0) (r : Bool) → (r ≡ true → P) → (P → r ≡ true) → Decided P
by-test P true f g = inl (f refl)
by-test P false f g = inr (λ p. apart (sym (g p)))

pub nat-decided : (n m : ℕ) → Decided (n ≡ m)
nat-decided n m = by-test (n ≡ m) (nat_eq n m) (λ e. grind (arith, nat_tests)) (λ e. grind (arith, nat_tests))

int-decided : (x y : ℤ) → Decided (x ≡ y)
int-decided x y = by-test (x ≡ y) (int_eq x y) (λ e. grind (arith, ints)) (λ e. grind (arith, ints))

bool-decided : (b : Bool) → Decided (b ≡ true)
bool-decided b = by-test (b ≡ true) b (λ e. e) (λ e. e)

point-decided : (p q : Point) → Decided (p ≡ q)
point-decided p q =
    by-test (p ≡ q) (same_point p q) (same_point-true p q) (λ e. subst (λ r. same_point p r ≡ true) e (same_point-refl p))

list-decided : {X : Type 0} → ((x y : X) → Decided (x ≡ y)) → (xs ys : List X) → Decided (xs ≡ ys)
list-decided each [] [] = inl refl
list-decided each [] (y ∷ ys) = inr (λ e. absurd (cc))
list-decided each (x ∷ xs) [] = inr (λ e. absurd (cc))
list-decided each (x ∷ xs) (y ∷ ys) =
    decided-as ((x ≡ y) × (xs ≡ ys)) ((x ∷ xs) ≡ (y ∷ ys)) (λ e. let one = e.0 in let two = e.1 in cc) (λ e. (let one : x ≡ y = cc in one, let two : xs ≡ ys = cc in two)) (decided-both (x ≡ y) (xs ≡ ys) (each x y) (list-decided each xs ys))

option-decided : {X : Type 0} → ((x y : X) → Decided (x ≡ y)) → (a b : Option X) → Decided (a ≡ b)
option-decided each None None = inl refl
option-decided each None (Some y) = inr (λ e. absurd (cc))
option-decided each (Some x) None = inr (λ e. absurd (cc))
option-decided each (Some x) (Some y) =
    decided-as (x ≡ y) (Some x ≡ Some y) (λ e. ap Some e) (λ e. let one : x ≡ y = cc in one) (each x y)

pair-decided : (x y : ℤ × ℤ) → Decided (x ≡ y)
pair-decided x y =
    decided-as ((x.0 ≡ y.0) × (x.1 ≡ y.1)) (x ≡ y) (λ e. pair-by x.0 x.1 y.0 y.1 e.0 e.1) (λ e. (ap (λ (p : ℤ × ℤ). p.0) e, ap (λ (p : ℤ × ℤ). p.1) e)) (decided-both (x.0 ≡ y.0) (x.1 ≡ y.1) (int-decided x.0 y.0) (int-decided x.1 y.1))

agg-decided : (a b : AggValue) → Decided (a ≡ b)
agg-decided a b =
    decided-as ((a.count ≡ b.count) × ((a.total ≡ b.total) × (a.ends ≡ b.ends))) (a ≡ b) (λ e. agg-by a.count b.count a.total b.total a.ends b.ends e.0 e.1.0 e.1.1) (λ e. (
      ap (λ (x : AggValue). x.count) e,
      (ap (λ (x : AggValue). x.total) e, ap (λ (x : AggValue). x.ends) e),
    )) (decided-both (a.count ≡ b.count) ((a.total ≡ b.total) × (a.ends ≡ b.ends)) (nat-decided a.count b.count) (decided-both (a.total ≡ b.total) (a.ends ≡ b.ends) (int-decided a.total b.total) (option-decided pair-decided a.ends b.ends)))

slot-decided : (a b : Slot) → Decided (a ≡ b)
slot-decided a b =
    decided-as ((a.agg ≡ b.agg) × ((a.version ≡ b.version) × (a.child ≡ b.child))) (a ≡ b) (λ e. slot-by a.agg b.agg a.version b.version a.child b.child e.0 e.1.0 e.1.1) (λ e. (
      ap (λ (x : Slot). x.agg) e,
      (ap (λ (x : Slot). x.version) e, ap (λ (x : Slot). x.child) e),
    )) (decided-both (a.agg ≡ b.agg) ((a.version ≡ b.version) × (a.child ≡ b.child)) (agg-decided a.agg b.agg) (decided-both (a.version ≡ b.version) (a.child ≡ b.child) (nat-decided a.version b.version) (nat-decided a.child b.child)))

pub span-decided : (a b : SpanValue) → Decided (a ≡ b)
span-decided a b =
    decided-as ((a.start ≡ b.start) × (a.height ≡ b.height)) (a ≡ b) (λ e. span-by a.start b.start a.height b.height e.0 e.1) (λ e. (ap (λ (x : SpanValue). x.start) e, ap (λ (x : SpanValue). x.height) e)) (decided-both (a.start ≡ b.start) (a.height ≡ b.height) (int-decided a.start b.start) (nat-decided a.height b.height))

node-decided : (a b : NewNodeValue) → Decided (a ≡ b)
node-decided a b =
    decided-as (((a.span ≡ b.span) × (a.version ≡ b.version)) × ((a.points ≡ b.points) × (a.slots ≡ b.slots))) (a ≡ b) (λ e. node-by a.span b.span a.version b.version a.points b.points a.slots b.slots e.0.0 e.0.1 e.1.0 e.1.1) (λ e. (
      (ap (λ (x : NewNodeValue). x.span) e, ap (λ (x : NewNodeValue). x.version) e),
      (ap (λ (x : NewNodeValue). x.points) e, ap (λ (x : NewNodeValue). x.slots) e),
    )) (decided-both ((a.span ≡ b.span) × (a.version ≡ b.version)) ((a.points ≡ b.points) × (a.slots ≡ b.slots)) (decided-both (a.span ≡ b.span) (a.version ≡ b.version) (span-decided a.span b.span) (nat-decided a.version b.version)) (decided-both (a.points ≡ b.points) (a.slots ≡ b.slots) (list-decided point-decided a.points b.points) (list-decided slot-decided a.slots b.slots)))

-- A node's own fields are right, or they are not.
pub own-decided : (h : Past) (node : NewNodeValue) → Decided (IsOwn h node)
own-decided h node =
    let g = up_to node.version h in
    decided-as ((is_node_in node.span g ≡ true) × (bare node ≡ node_in node.span g)) (IsOwn h node) (λ e. record { is_node = e.0; same = e.1 }) (λ own. (own.is_node, own.same)) (decided-both (is_node_in node.span g ≡ true) (bare node ≡ node_in node.span g) (bool-decided (is_node_in node.span g)) (node-decided (bare node) (node_in node.span g)))
