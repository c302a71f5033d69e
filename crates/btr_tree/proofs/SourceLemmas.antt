-- Lemmas on sources of nodes: what is known of one slot of an inner node, the counts of the first slots, and calls in a row.
use Rattle.std.specs.Prelude.{◌≡◌, ℕ, ◌+◌, ◌-◌, ◌<◌, ◌≤◌, ℤ, Bool, List, Result, Err, IfErr}
use Rattle.std.proofs.Common.{zero, suc, sym, ap, ◌∙◌, arith, subst}
use Rattle.std.proofs.lemmas.Result.{IfErr-weaker}
use Rattle.btr_base.specs.Agg.{AggValue, agg}
use Rattle.btr_base.specs.declared.point.Point.{Point}
use Rattle.btr_base.specs.Span.{SpanValue, slot_of}
use Rattle.btr_tree.specs.declared.node.Slot.{Slot}
use Rattle.btr_tree.specs.Change.{joined_first}
use Rattle.btr_tree.specs.History.{Past, bag}
use Rattle.btr_tree.specs.Nodes.{points_of, is_inner}
use Rattle.btr_tree.specs.Shape.{slot_start}
use Rattle.btr_tree.specs.NodeSource.{AreSlotsAt, AreSafeSlots, UsesSource, IfRefused}
use Rattle.btr_tree.specs.declared.walk_fault.WalkFault.{WalkFault}
use Rattle.btr_tree.specs.declared.walk_fault.WalkFault.TheVariants.{Want, Refused}
use Rattle.btr_tree.proofs.NodeLemmas.{joined-suc, joined-next, slot-part}

-- ---- one slot of an inner node

-- A walk may go to the place of each slot.
pub place-safe : {Site : Type 0} (IsSafe : Site → ℕ → ℤ → Type 0) (count : Site → ℕ) (place : ℕ → Site) (f : ℕ → Slot) (span part : SpanValue) (i : ℕ) → AreSafeSlots IsSafe count place f span → i < 64 → part ≡ slot_of span i → IsSafe (place i) part.height part.start
place-safe IsSafe count place f span part i safe lt e =
    subst (λ (u : SpanValue). IsSafe (place i) u.height u.start) (sym (e ∙ slot-part span safe.below i safe.above)) (safe.each i lt)

-- A slot is one height below its span.
pub place-below : {Site : Type 0} (IsSafe : Site → ℕ → ℤ → Type 0) (count : Site → ℕ) (place : ℕ → Site) (f : ℕ → Slot) (span part : SpanValue) (i : ℕ) → AreSafeSlots IsSafe count place f span → part ≡ slot_of span i → span.height ≡ suc part.height
place-below IsSafe count place f span part i safe e =
    safe.above ∙ ap suc (sym (ap (λ (u : SpanValue). u.height) (e ∙ slot-part span safe.below i safe.above)))

-- What a walk knows of a slot and its place after a past.
pub record IsPlacedSlot {Site : Type 0} (IsAt : Site → ℕ → ℤ → (List Point → Bool) → Past → Type 0) (below : ℕ) (s : ℤ) (h : Past) (i : ℕ) (part : SpanValue) (site : Site) (slot : Slot) : Type 0 where
  pub is : part ≡ record { start = slot_start below s i; height = below }
  pub holds : IsAt site part.height part.start (is_inner (suc below) s) h
  pub counted : slot.agg ≡ agg (points_of part.height part.start (bag h))

pub place-at : {Site : Type 0} (IsAt : Site → ℕ → ℤ → (List Point → Bool) → Past → Type 0) (place : ℕ → Site) (f : ℕ → Slot) (span part : SpanValue) (h : Past) (i : ℕ) (at : AreSlotsAt IsAt place f span h) → i < 64 → part ≡ slot_of span i → IsPlacedSlot IsAt at.below span.start h i part (place i) (f i)
place-at IsAt place f span part h i at lt e =
    let below = at.below in
    let is : part ≡ record { start = slot_start below span.start i; height = below } = e ∙ slot-part span below i at.above in
    let counted : (f i).agg ≡ agg (points_of below (slot_start below span.start i) (bag h)) = ap (λ (y : Slot). y.agg) (at.all i lt) in
    record {
      is = is;
      holds = subst (λ (u : SpanValue). IsAt (place i) u.height u.start (is_inner (suc below) span.start) h) (sym is) (at.each i lt);
      counted = subst (λ (u : SpanValue). (f i).agg ≡ agg (points_of u.height u.start (bag h))) (sym is) counted;
    }

-- ---- the counts of the first slots

count-more : (k n : ℕ) (f : ℕ → Slot) → (joined_first n f).count ≤ (joined_first (k + n) f).count
count-more zero n f = let same : zero + n ≡ n = omega arith in omega (arith, ap (λ m. (joined_first m f).count) same)
count-more (suc k) n f =
    let e : suc k + n ≡ suc (k + n) = omega arith in
    let next = ap (λ (a : AggValue). a.count) (ap (λ m. joined_first m f) e ∙ joined-suc (k + n) f) in
    let less = count-more k n f in
    omega arith

-- Fewer slots have no greater count.
pub count-first : (n m : ℕ) (f : ℕ → Slot) → n ≤ m → (joined_first n f).count ≤ (joined_first m f).count
count-first n m f le =
    let k = m - n in
    let e : k + n ≡ m = omega arith in
    subst (λ j. (joined_first n f).count ≤ (joined_first j f).count) e (count-more k n f)

pub count-next : (n : ℕ) (f : ℕ → Slot) → (joined_first (n + 1) f).count ≡ (joined_first n f).count + (f n).agg.count
count-next n f = ap (λ (a : AggValue). a.count) (joined-next n f)

-- ---- calls in a row

-- A call after a call uses the source as one call. The law says that a refusal has its cause since each earlier call.
pub uses-then : {State Told A B D E : Type 0} (told : State → Told) (faults : State → ℕ) (First : Told → ℕ → ℕ → D → Type 0) (IsCaused : Told → ℕ → ℕ → E → Type 0) (a b c : State) (r : Result A D) (q : Result B E) → ((t : Told) (x y z : ℕ) (e : E) → x ≤ y → IsCaused t y z e → IsCaused t x z e) → UsesSource told faults First a b r → UsesSource told faults IsCaused b c q → UsesSource told faults IsCaused a c q
uses-then told faults First IsCaused a b c r q earlier one two =
    let low = one.rises in
    let high = two.rises in
    record {
      same = two.same ∙ one.same;
      rises = omega arith;
      cause = IfErr-weaker q _ _ (λ e h. earlier (told a) (faults a) (faults b) (faults c) e one.rises (subst (λ t. IsCaused t (faults b) (faults c) e) one.same h)) two.cause;
    }

-- A refusal that is passed on.
pub uses-refused : {State Told A B D E : Type 0} (told : State → Told) (faults : State → ℕ) (First : Told → ℕ → ℕ → D → Type 0) (IsCaused : Told → ℕ → ℕ → E → Type 0) (a b : State) (r : Result A D) (q : Result B E) (d : D) (e : E) → r ≡ Err d → q ≡ Err e → ((t : Told) (x y : ℕ) → First t x y d → IsCaused t x y e) → UsesSource told faults First a b r → UsesSource told faults IsCaused a b q
uses-refused told faults First IsCaused a b r q d e p p' pass one =
    record {
      same = one.same;
      rises = one.rises;
      cause = rw p' (pass (told a) (faults a) (faults b) (subst (λ x. IfErr x (First (told a) (faults a) (faults b))) p one.cause));
    }

-- ---- walks that take memory

pub refused-weaker : {E : Type 0} (P Q : E → Type 0) (f : WalkFault E) → ((e : E) → P e → Q e) → IfRefused P f → IfRefused Q f
refused-weaker P Q Want on h = tt
refused-weaker P Q (Refused e) on h = on e h

-- The law of a source, for a walk that stops for its refusals.
pub refused-earlier : {Told E : Type 0} (IsCaused : Told → ℕ → ℕ → E → Type 0) → ((t : Told) (x y z : ℕ) (e : E) → x ≤ y → IsCaused t y z e → IsCaused t x z e) → (t : Told) (x y z : ℕ) (f : WalkFault E) → x ≤ y → IfRefused (IsCaused t y z) f → IfRefused (IsCaused t x z) f
refused-earlier IsCaused earlier t x y z f le h =
    refused-weaker (IsCaused t y z) (IsCaused t x z) f (λ e. earlier t x y z e le) h
