-- What a source of nodes finds at the place of a span, after a past and whatever the source holds, and what a call does to its state.
--
-- A source says of a place, by `IsAt`, that it may be that of a span after a past, by `IsThere`, that it is, with all nodes below it, and,
-- by `IsSafe`, that a walk may go there. What is said here over `IsAt` is said over `IsThere` as well. `count` is at most how many points
-- the span of a place has.
use Rattle.std.specs.Prelude.{◌≡◌, ℕ, suc, ◌+◌, ◌^◌, ◌<◌, ◌≤◌, ℤ, Bool, List, [], length, min, Result, IfOk, IfErr}
use Rattle.btr_base.specs.Agg.{agg}
use Rattle.btr_base.specs.Bag.{IsInOrder}
use Rattle.btr_base.specs.declared.limits.TheConstants.{LEAF_POINTS}
use Rattle.btr_base.specs.declared.point.Point.{Point}
use Rattle.btr_base.specs.Span.{SpanValue}
use Rattle.btr_tree.specs.declared.found.FoundNode.{FoundNode}
use Rattle.btr_tree.specs.declared.found.FoundNode.TheVariants.{Nothing, Leaf, Inner}
use Rattle.btr_tree.specs.declared.node.Slot.{Slot}
use Rattle.btr_tree.specs.declared.walk_fault.WalkFault.{WalkFault}
use Rattle.btr_tree.specs.declared.walk_fault.WalkFault.TheVariants.{Want, Refused}
use Rattle.btr_tree.specs.Change.{joined_first}
use Rattle.btr_tree.specs.EachHistory.{points_in}
use Rattle.btr_tree.specs.History.{Past, bag}
use Rattle.btr_tree.specs.Nodes.{is_inner, node_version}
use Rattle.btr_tree.specs.Shape.{slot_start, IsLeaf, AreSlots}

-- ---- what is found after a past

-- The slots are those of an inner node after a past, and each place is that of the span of its slot.
pub record AreSlotsAt {Site : Type 0} (IsAt : Site → ℕ → ℤ → (List Point → Bool) → Past → Type 0) (place : ℕ → Site)
    (slots : ℕ → Slot) (span : SpanValue) (h : Past) : Type 0 where
  pub below : ℕ
  pub above : span.height ≡ suc below
  pub many : LEAF_POINTS < length (points_in span (bag h))
  pub all : AreSlots below span.start h slots
  pub each : (i : ℕ) → i < 64 → IsAt (place i) below (slot_start below span.start i) (is_inner (suc below) span.start) h

-- The version and the slots are those of an inner node after a past.
pub record IsInnerAt {Site : Type 0} (IsAt : Site → ℕ → ℤ → (List Point → Bool) → Past → Type 0) (place : ℕ → Site)
    (slots : ℕ → Slot) (span : SpanValue) (above : List Point → Bool) (h : Past) (carried : ℕ) : Type 0 where
  pub version : carried ≡ node_version above span.height span.start h
  pub inner : AreSlotsAt IsAt place slots span h

-- What was found at a span is what the span is after a past: nothing if it has no point, or else its leaf or its inner node.
abbrev pub IsFoundAt : {Site F I : Type 0} → (Site → ℕ → ℤ → (List Point → Bool) → Past → Type 0) → (F → List Point) → (I → ℕ → Slot)
    → (I → ℕ → Site) → SpanValue → (List Point → Bool) → Past → FoundNode F I → Type 0
IsFoundAt IsAt points slot place span above h Nothing = points_in span (bag h) ≡ []
IsFoundAt IsAt points slot place span above h (Leaf version leaf) = IsLeaf span.height span.start above h version (points leaf)
IsFoundAt IsAt points slot place span above h (Inner version inner) =
    IsInnerAt IsAt (place inner) (slot inner) span above h version

-- What was found at a place is what the span is after each past after which the place is that of the span.
abbrev pub IsRightlyFound : {Site F I : Type 0} → (Site → ℕ → ℤ → (List Point → Bool) → Past → Type 0) → (F → List Point)
    → (I → ℕ → Slot) → (I → ℕ → Site) → Site → SpanValue → FoundNode F I → Type 0
IsRightlyFound IsAt points slot place site span found =
    (above : List Point → Bool) (h : Past) → IsAt site span.height span.start above h → IsFoundAt IsAt points slot place span above h found

-- ---- what a walk may rest on whatever the source holds

-- The points of a leaf: some, at most `most`, in order and in the span.
pub record AreSafePoints (most : ℕ) (span : SpanValue) (points : List Point) : Type 0 where
  pub in_order : IsInOrder points
  pub inside : points_in span points ≡ points
  pub some : 0 < length points
  pub few : length points ≤ most

-- How many points the 64 slots of an inner node have together.
abbrev pub count_in : (ℕ → Slot) → ℕ
count_in slots = (joined_first 64 slots).count

-- The slots of an inner node: a walk may go to each place, and each slot has the count of its place. The counts together are some
-- and below 2^64.
pub record AreSafeSlots {Site : Type 0} (IsSafe : Site → ℕ → ℤ → Type 0) (count : Site → ℕ) (place : ℕ → Site)
    (slots : ℕ → Slot) (span : SpanValue) : Type 0 where
  pub below : ℕ
  pub above : span.height ≡ suc below
  pub each : (i : ℕ) → i < 64 → IsSafe (place i) below (slot_start below span.start i)
  pub counted : (i : ℕ) → i < 64 → count (place i) ≡ (slots i).agg.count
  pub some : 0 < count_in slots
  pub small : count_in slots < 2 ^ 64

-- What was found is safe to walk, and has at most `most` points. If it is nothing, then `most` is 0.
abbrev pub IsSafeFound : {Site F I : Type 0} → (Site → ℕ → ℤ → Type 0) → (Site → ℕ) → (F → List Point) → (I → ℕ → Slot)
    → (I → ℕ → Site) → ℕ → SpanValue → FoundNode F I → Type 0
IsSafeFound IsSafe count points slot place most span Nothing = most ≡ 0
IsSafeFound IsSafe count points slot place most span (Leaf version leaf) = AreSafePoints most span (points leaf)
IsSafeFound IsSafe count points slot place most span (Inner version inner) =
    AreSafeSlots IsSafe count (place inner) (slot inner) span × (count_in (slot inner) ≤ most)

-- ---- what a call does to the state and the counter

-- A call uses the source: what its state tells stays the same, its faults do not fall, and a refusal has its cause.
pub record UsesSource {State Told A E : Type 0} (told : State → Told) (faults : State → ℕ) (IsCaused : Told → ℕ → ℕ → E → Type 0)
    (old new : State) (result : Result A E) : Type 0 where
  pub same : told new ≡ told old
  pub rises : faults old ≤ faults new
  pub cause : IfErr result (IsCaused (told old) (faults old) (faults new))

-- What holds of the refusal of a source holds of a walk that stops for it. Out of memory needs nothing.
abbrev pub IfRefused : {E : Type 0} → (E → Type 0) → WalkFault E → Type 0
IfRefused P Want = Unit {0}
IfRefused P (Refused e) = P e

-- One step is counted, up to the end of its type, or none if nothing was found.
abbrev pub CountsFound : {F I : Type 0} → ℕ → ℕ → FoundNode F I → Type 0
CountsFound before after Nothing = after ≡ before
CountsFound before after (Leaf version leaf) = after ≡ min (before + 1) 18446744073709551615
CountsFound before after (Inner version inner) = after ≡ min (before + 1) 18446744073709551615

-- A count rises by at most `most`, and does not fall.
abbrev pub RisesUpTo : ℕ → ℕ → ℕ → Type 0
RisesUpTo most before after = (before ≤ after) × (after ≤ before + most)

-- A visit counts what it finds. If it is refused, it counts at most one step.
pub record CountsVisit {F I E : Type 0} (before after : ℕ) (result : Result (FoundNode F I) E) : Type 0 where
  pub counted : IfOk result (CountsFound before after)
  pub at_most : after ≤ before + 1
  pub never_falls : before ≤ after

-- ---- premises that the clauses of walks share

-- P holds for each past after which the place is that of the span.
abbrev pub AtEachPlace : {Site : Type 0} → (Site → ℕ → ℤ → (List Point → Bool) → Past → Type 0) → Site → SpanValue
    → (Past → Type 0) → Type 0
AtEachPlace IsAt site span P = (above : List Point → Bool) (h : Past) → IsAt site span.height span.start above h → P h

-- P holds for each past after which the slots, with their places, are those of the span.
abbrev pub AtEachSlots : {Site : Type 0} → (Site → ℕ → ℤ → (List Point → Bool) → Past → Type 0) → (ℕ → Site) → (ℕ → Slot)
    → SpanValue → (Past → Type 0) → Type 0
AtEachSlots IsAt place slots span P = (h : Past) → AreSlotsAt IsAt place slots span h → P h

-- P holds for each past after which the slot, with its place, is that of the span.
abbrev pub AtEachSlot : {Site : Type 0} → (Site → ℕ → ℤ → (List Point → Bool) → Past → Type 0) → Site → Slot → SpanValue
    → (Past → Type 0) → Type 0
AtEachSlot IsAt site slot span P = AtEachPlace IsAt site span (λ h. slot.agg ≡ agg (points_in span (bag h)) → P h)

-- P holds of the points that the span then has.
abbrev pub ForPlace : {Site : Type 0} → (Site → ℕ → ℤ → (List Point → Bool) → Past → Type 0) → Site → SpanValue
    → (List Point → Type 0) → Type 0
ForPlace IsAt site span P = AtEachPlace IsAt site span (λ h. P (points_in span (bag h)))

abbrev pub ForSlots : {Site : Type 0} → (Site → ℕ → ℤ → (List Point → Bool) → Past → Type 0) → (ℕ → Site) → (ℕ → Slot)
    → SpanValue → (List Point → Type 0) → Type 0
ForSlots IsAt place slots span P = AtEachSlots IsAt place slots span (λ h. P (points_in span (bag h)))

abbrev pub ForSlot : {Site : Type 0} → (Site → ℕ → ℤ → (List Point → Bool) → Past → Type 0) → Site → Slot → SpanValue
    → (List Point → Type 0) → Type 0
ForSlot IsAt site slot span P = AtEachSlot IsAt site slot span (λ h. P (points_in span (bag h)))
