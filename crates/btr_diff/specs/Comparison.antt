-- What the comparison of two trees adds to the changed slots, and which nodes it visits.
use Rattle.std.specs.Prelude.{◌≡◌, ℕ, zero, suc, ℤ, pos, ◌+ℤ◌, Bool, true, not, ◌||◌, int_lt, ◌+◌, ◌<◌, ◌≤◌, ◌≤ℤ◌, ◌<ℤ◌}
use Rattle.std.specs.Prelude.{List, length, map, slice_index_or, Result, Ok, Err, IfErr, if◌then◌else◌}
use Rattle.std.specs.List.{filter, list_any, AllByRecursion}
use Rattle.btr_base.specs.declared.limits.TheConstants.{FIRST, END}
use Rattle.btr_base.specs.declared.point.Point.{Point}
use Rattle.btr_base.specs.Bag.{IsInOrder}
use Rattle.btr_base.specs.Span.{width, SpanValue}
use Rattle.btr_base.specs.Point.{InDomain, AreInDomain}
use Rattle.btr_base.specs.Range.{RangeValue, contains, covered}
use Rattle.btr_base.specs.Cut.{lengthened, union}
use Rattle.btr_base.specs.Changes.{changes, changed, slot_around}
use Rattle.btr_tree.specs.declared.found.FoundNode.{FoundNode}
use Rattle.btr_tree.specs.declared.found.FoundNode.TheVariants.{Nothing, Leaf, Inner}
use Rattle.btr_tree.specs.declared.node.Slot.{Slot}
use Rattle.btr_tree.specs.declared.walk_fault.WalkFault.{WalkFault}
use Rattle.btr_tree.specs.declared.walk_fault.WalkFault.TheVariants.{Want, Refused}
use Rattle.btr_tree.specs.History.{Past, bag}
use Rattle.btr_tree.specs.Nodes.{points_of, has_points, is_inner, slot_version, above_root, up_to}
use Rattle.btr_tree.specs.EachHistory.{points_in}
use Rattle.btr_tree.specs.Newer.{sum_of, newer_nodes}
use Rattle.btr_tree.specs.Agree.{AgreeSince}
use Rattle.btr_tree.specs.Shape.{slot_start}
use Rattle.btr_tree.specs.NodeSource.{AreSlotsAt, IsFoundAt, IfRefused}
use Rattle.btr_diff.specs.declared.comparison.Comparison.{Comparison}
use Rattle.btr_diff.specs.declared.comparison.Task.{Task}

-- ---- What is added.

-- What a change at a time adds: the aligned slot around the time, lengthened by the lead.
abbrev pub reach : Comparison → ℤ → RangeValue
reach by t = lengthened by.lead (slot_around by.p t)

-- The time is in the reach of a time at which the two bags differ.
unfoldable pub is_changed_at : Comparison → List Point → List Point → ℤ → Bool
is_changed_at by a b t = list_any (λ q. contains (reach by q.time) t) (changed a b)

-- The slots in which the two bags differ, each lengthened by the lead, are added to the ranges.
pub record AddsChangedSlots (by : Comparison) (old new : List RangeValue) (a b : List Point) : Type 0 where
  pub times : (t : ℤ) → covered new t ≡ (covered old t || is_changed_at by a b t)

-- The time of the point at an index, or that of `d` if there is none.
abbrev pub point_time : List Point → ℕ → Point → ℤ
point_time points i d = (slice_index_or points i d).time

-- The points from a time on.
abbrev pub rest_from : ℤ → List Point → List Point
rest_from t b = filter (λ q. not (int_lt q.time t)) b

-- It is the least time of the points of two lists, at least one of which has a point at that time.
pub record IsFirstTime (t : ℤ) (a b : List Point) : Type 0 where
  pub a_from : AllByRecursion (λ q. t ≤ℤ q.time) a
  pub b_from : AllByRecursion (λ q. t ≤ℤ q.time) b
  pub inside : AreInDomain a → AreInDomain b → InDomain t
  pub fewer : length (rest_from (t +ℤ pos 1) a) + length (rest_from (t +ℤ pos 1) b) < length a + length b

-- The points are in order and in the domain.
abbrev pub ArePoints : List Point → Type 0
ArePoints points = IsInOrder points × AreInDomain points

-- The points are in order and in the domain, and before a time. Points from that time on may follow.
pub record AreReady (time : ℤ) (points : List Point) : Type 0 where
  pub order : IsInOrder points
  pub domain : AreInDomain points
  pub before : AllByRecursion (λ q. q.time <ℤ time) points

-- ---- What a walk may rest on whatever the source holds.

-- The span is in the domain.
pub record IsInside (height : ℕ) (start : ℤ) : Type 0 where
  pub begins : FIRST ≤ℤ start
  pub ends : (start +ℤ pos (width height)) ≤ℤ END

-- The span is in the domain, and its slots are no wider than the span of the domain's slots may be.
abbrev pub IsTask : Task → Type 0
IsTask task = (task.by.p ≤ 62) × IsInside task.span.height task.span.start

-- A walk may go to the place of a span, which is in the domain.
abbrev pub IsSafePlace : {Site : Type 0} → (Site → ℕ → ℤ → Type 0) → SpanValue → Site → Type 0
IsSafePlace IsSafe span site = IsInside span.height span.start × IsSafe site span.height span.start

-- A walk may go to the place of a slot that is the span of the task, and the slot's version is above that of the older tree.
pub record IsNewerSlot {Site : Type 0} (IsSafe : Site → ℕ → ℤ → Type 0) (task : Task) (version : ℕ) (site : Site) : Type 0 where
  pub safe : IsSafe site task.span.height task.span.start
  pub newer : task.by.since < version

-- A walk may go to both places as those of roots.
abbrev pub AreSafeRoots : {Site : Type 0} → (Site → ℕ → ℤ → Type 0) → Site → Site → Type 0
AreSafeRoots IsSafe old new = IsSafe old 10 FIRST × IsSafe new 10 FIRST

-- ---- The two sides of a comparison: what belongs to a span after a past. `IsAt` is that of the source.

-- The points are those of the span.
abbrev pub ArePointsOf : {Site : Type 0} → List Point → (Site → ℕ → ℤ → (List Point → Bool) → Past → Type 0) → SpanValue → Past → Type 0
ArePointsOf points IsAt span h = points ≡ points_in span (bag h)

-- Those of the points that are in the span are the points of the span.
abbrev pub IncludesPointsOf : {Site : Type 0} → List Point → (Site → ℕ → ℤ → (List Point → Bool) → Past → Type 0) → SpanValue → Past
    → Type 0
IncludesPointsOf points IsAt span h = points_in span points ≡ points_in span (bag h)

-- The place is that of the span.
abbrev pub IsPlace : {Site : Type 0} → Site → (Site → ℕ → ℤ → (List Point → Bool) → Past → Type 0) → SpanValue → Past → Type 0
IsPlace site IsAt span h = (above : List Point → Bool) × IsAt site span.height span.start above h

-- What was found is what the span is.
abbrev pub IsFoundOf : {Site F I : Type 0} → (F → List Point) → (I → ℕ → Slot) → (I → ℕ → Site) → FoundNode F I
    → (Site → ℕ → ℤ → (List Point → Bool) → Past → Type 0) → SpanValue → Past → Type 0
IsFoundOf points slot place found IsAt span h =
    (above : List Point → Bool) × IsFoundAt IsAt points slot place span above h found

-- The slots, with their places, are those of the span, which is an inner node.
abbrev pub AreSlotsOf : {Site : Type 0} → (ℕ → Site) → (ℕ → Slot) → (Site → ℕ → ℤ → (List Point → Bool) → Past → Type 0)
    → SpanValue → Past → Type 0
AreSlotsOf place slots IsAt span h = AreSlotsAt IsAt place slots span h

-- The version, the count and the place are those of the span as a slot of an inner node.
pub record IsSlotOf {Site : Type 0} (version count : ℕ) (site : Site)
    (IsAt : Site → ℕ → ℤ → (List Point → Bool) → Past → Type 0) (span : SpanValue) (h : Past) : Type 0 where
  pub above : ℕ
  pub begin : ℤ
  pub inner : is_inner above begin (bag h) ≡ true
  pub carried : version ≡ slot_version above begin span.height span.start h
  pub counted : count ≡ length (points_in span (bag h))
  pub holds : IsAt site span.height span.start (is_inner above begin) h

-- The place is that of the root of the points of a past, which are in the domain.
pub record IsRoot {Site : Type 0} (IsAt : Site → ℕ → ℤ → (List Point → Bool) → Past → Type 0) (site : Site) (h : Past) : Type 0 where
  pub holds : IsAt site 10 FIRST above_root h
  pub times : AreInDomain (bag h)

-- What was found is a node whose version is not above this one.
abbrev pub IsNoNewer : {F I : Type 0} → ℕ → FoundNode F I → Type 0
IsNoNewer since Nothing = ⊥
IsNoNewer since (Leaf version points) = version ≤ since
IsNoNewer since (Inner version slots) = version ≤ since

-- P holds for each two pasts that the two sides belong to.
abbrev pub AtBoth : {Site : Type 0} → SpanValue → (Site → ℕ → ℤ → (List Point → Bool) → Past → Type 0)
    → ((Site → ℕ → ℤ → (List Point → Bool) → Past → Type 0) → SpanValue → Past → Type 0)
    → ((Site → ℕ → ℤ → (List Point → Bool) → Past → Type 0) → SpanValue → Past → Type 0) → Type 0 → Type 0
AtBoth span IsAt IsOlder IsNewer P = (h k : Past) → IsOlder IsAt span h → IsNewer IsAt span k → P

-- Where the two sides belong to pasts, a refusal of the source is harmless.
abbrev pub IsSound : {Site A E : Type 0} → Task → (Site → ℕ → ℤ → (List Point → Bool) → Past → Type 0)
    → ((Site → ℕ → ℤ → (List Point → Bool) → Past → Type 0) → SpanValue → Past → Type 0)
    → ((Site → ℕ → ℤ → (List Point → Bool) → Past → Type 0) → SpanValue → Past → Type 0)
    → (E → Type 0) → Result A (WalkFault E) → Type 0
IsSound task IsAt IsOlder IsNewer IsHarmless result =
    IfErr result (IfRefused (λ e. AtBoth task.span IsAt IsOlder IsNewer (IsHarmless e)))

-- Where both inner nodes belong to pasts, a refusal of the source is harmless. `place` and `slots` are those of an inner node.
abbrev pub IsSoundSlots : {Site I A E : Type 0} → Task → (Site → ℕ → ℤ → (List Point → Bool) → Past → Type 0) → (I → ℕ → Site)
    → (I → ℕ → Slot) → I → I → (E → Type 0) → Result A (WalkFault E) → Type 0
IsSoundSlots task IsAt place slots older newer =
    IsSound task IsAt (AreSlotsOf (place older) (slots older)) (AreSlotsOf (place newer) (slots newer))

-- P holds for each two pasts whose roots have these places.
abbrev pub AtRoots : {Site : Type 0} → (Site → ℕ → ℤ → (List Point → Bool) → Past → Type 0) → Site → Site
    → (Past → Past → Type 0) → Type 0
AtRoots IsAt old new P = (h k : Past) → IsRoot IsAt old h → IsRoot IsAt new k → P h k

-- The ranges are the runs of changed slots since a version, each lengthened by the lead, and joined.
abbrev pub AreChanges : Comparison → Past → Past → List RangeValue → Type 0
AreChanges by h k ranges = h ≡ up_to by.since k → ranges ≡ union (map (lengthened by.lead) (changes by.p (bag h) (bag k)))

-- ---- What the comparison of a span adds and visits.

-- If both sides agree since the version, the changed slots of the span are added, lengthened by the lead.
abbrev pub Compares : {Site : Type 0} → Task → (Site → ℕ → ℤ → (List Point → Bool) → Past → Type 0)
    → ((Site → ℕ → ℤ → (List Point → Bool) → Past → Type 0) → SpanValue → Past → Type 0)
    → ((Site → ℕ → ℤ → (List Point → Bool) → Past → Type 0) → SpanValue → Past → Type 0)
    → List RangeValue → List RangeValue → Type 0
Compares task IsAt IsOlder IsNewer old new =
    (h k : Past)
    → IsOlder IsAt task.span h
    → IsNewer IsAt task.span k
    → AgreeSince task.by.since h k
    → AddsChangedSlots task.by old new (points_in task.span (bag h)) (points_in task.span (bag k))

-- If both inner nodes agree since the version, the changed slots of the span are added. `place` and `slots` are those of an inner node.
abbrev pub ComparesSlots : {Site I : Type 0} → Task → (Site → ℕ → ℤ → (List Point → Bool) → Past → Type 0) → (I → ℕ → Site)
    → (I → ℕ → Slot) → I → I → List RangeValue → List RangeValue → Type 0
ComparesSlots task IsAt place slots older newer =
    Compares task IsAt (AreSlotsOf (place older) (slots older)) (AreSlotsOf (place newer) (slots newer))

-- How many nodes below a span carry a version above this one.
unfoldable pub newer_below : ℕ → ℤ → Past → ℕ → ℕ
newer_below zero start h version = 0
newer_below (suc below) start h version =
    if is_inner (suc below) start (bag h)
    then sum_of 64 (λ i. newer_nodes below (slot_start below start i) (is_inner (suc below) start) h version)
    else 0

-- The steps rise at most by the number of nodes below the span that carry a version above the older one, and do not fall.
pub record CountsNewer {Site : Type 0} (task : Task) (IsAt : Site → ℕ → ℤ → (List Point → Bool) → Past → Type 0)
    (IsNewer : (Site → ℕ → ℤ → (List Point → Bool) → Past → Type 0) → SpanValue → Past → Type 0) (old new : ℕ) : Type 0 where
  pub bounded : (k : Past) → IsNewer IsAt task.span k → new ≤ old + newer_below task.span.height task.span.start k task.by.since
  pub never_falls : old ≤ new

-- The steps rise at most by the number of nodes in the slot that carry a version above the older one, and do not fall.
pub record CountsSlot {Site : Type 0} (task : Task) (IsAt : Site → ℕ → ℤ → (List Point → Bool) → Past → Type 0)
    (version count : ℕ) (site : Site) (old new : ℕ) : Type 0 where
  pub bounded : (k : Past) → (slot : IsSlotOf version count site IsAt task.span k)
      → new ≤ old + newer_nodes task.span.height task.span.start (is_inner slot.above slot.begin) k task.by.since
  pub never_falls : old ≤ new

-- The steps rise at most by 1 and the number of nodes that carry a version above this one, and do not fall.
pub record CountsRoot {Site : Type 0} (since : ℕ) (IsAt : Site → ℕ → ℤ → (List Point → Bool) → Past → Type 0) (site : Site)
    (old new : ℕ) : Type 0 where
  pub bounded : (k : Past) → IsAt site 10 FIRST above_root k → new ≤ old + 1 + newer_nodes 10 FIRST above_root k since
  pub never_falls : old ≤ new

-- How many nodes there are in a span, with that of the span itself.
unfoldable pub nodes_in : ℕ → ℤ → List Point → ℕ
nodes_in zero start b = if has_points (points_of zero start b) then 1 else 0
nodes_in (suc below) start b =
    (if has_points (points_of (suc below) start b) then 1 else 0)
    + (if is_inner (suc below) start b then sum_of 64 (λ i. nodes_in below (slot_start below start i) b) else 0)

-- 1 if the source refused a visit, else 0.
abbrev pub refusals : {E : Type 0} → Result (Unit {0}) (WalkFault E) → ℕ
refusals (Ok x) = 0
refusals (Err Want) = 0
refusals (Err (Refused e)) = 1

-- The steps rise at most by the number of nodes in the span of which `seen` were counted before, and do not fall. A visit that was
-- refused may count too.
pub record CountsOlder {Site E : Type 0} (seen : ℕ) (span : SpanValue) (IsAt : Site → ℕ → ℤ → (List Point → Bool) → Past → Type 0)
    (IsOlder : (Site → ℕ → ℤ → (List Point → Bool) → Past → Type 0) → SpanValue → Past → Type 0) (old new : ℕ)
    (result : Result (Unit {0}) (WalkFault E)) : Type 0 where
  pub bounded : (h : Past) → IsOlder IsAt span h → new + seen ≤ old + nodes_in span.height span.start (bag h) + refusals result
  pub never_falls : old ≤ new
