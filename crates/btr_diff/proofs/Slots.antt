-- Lemmas on what the slots of a span add, one after the other, and on what belongs to a slot.
use Rattle.std.specs.Prelude.{◌≡◌, ℕ, suc, ◌+◌, ◌<◌, ◌≤◌, ℤ, Bool, true, List, [], length, Result}
use Rattle.std.proofs.Common.{sym, ap, ◌∙◌, arith, subst}
use Rattle.std.proofs.lemmas.Bool.Decides.{nat_tests}
use Rattle.std.proofs.lemmas.Int.{ints}
use Rattle.btr_base.proofs.AggLemmas.{agg-count}
use Rattle.btr_base.specs.Agg.{AggValue}
use Rattle.btr_base.specs.declared.limits.TheConstants.{LEAF_POINTS}
use Rattle.btr_base.specs.declared.point.Point.{Point}
use Rattle.btr_base.specs.Range.{RangeValue}
use Rattle.btr_base.specs.Bag.{within}
use Rattle.btr_base.specs.Span.{SpanValue, slot_of}
use Rattle.btr_tree.specs.declared.node.Slot.{Slot}
use Rattle.btr_tree.specs.declared.walk_fault.WalkFault.{WalkFault}
use Rattle.btr_tree.specs.History.{Past, bag}
use Rattle.btr_tree.specs.Nodes.{points_of, is_inner, last_change}
use Rattle.btr_tree.specs.Newer.{newer_nodes, sum_of}
use Rattle.btr_tree.specs.Shape.{slot_start}
use Rattle.btr_tree.specs.Agree.{AgreeSince}
use Rattle.btr_tree.specs.NodeSource.{AreSlotsAt}
use Rattle.btr_tree.proofs.NodeLemmas.{slot-next, slot-from, slot-part, points-slot, prefix-none, prefix-done}
use Rattle.btr_tree.proofs.SourceLemmas.{place-at}
use Rattle.btr_tree.proofs.VersionLemmas.{bag-in_order}
use Rattle.btr_diff.specs.declared.comparison.Comparison.{Comparison}
use Rattle.btr_diff.specs.Comparison.{AddsChangedSlots, AreSlotsOf, CountsNewer, CountsOlder, CountsSlot, IsPlace, IsSlotOf, nodes_in, refusals}
use Rattle.btr_diff.proofs.ChangedSlots.{adds-none, adds-within}
use Rattle.btr_diff.proofs.Newer.{bounded-exit, bounded-slot, nodes-slot, older-slots}

-- ---- What is added.

pub adds-as : (by : Comparison) (was now : List RangeValue) (a b c d : List Point) → a ≡ c → b ≡ d → AddsChangedSlots by was now a b → AddsChangedSlots by was now c d
adds-as by was now a b c d e f h = subst (λ x. AddsChangedSlots by was now x d) e (subst (AddsChangedSlots by was now a) f h)

-- Of no slot.
pub adds-first : (by : Comparison) (was : List RangeValue) (below : ℕ) (s : ℤ) (h k : Past) → AddsChangedSlots by was was (within s (slot_start below s 0) (bag h)) (within s (slot_start below s 0) (bag k))
adds-first by was below s h k =
    adds-as by was was [] [] _ _ (sym (prefix-none below s h)) (sym (prefix-none below s k)) (adds-none by was [])

-- Of one slot more.
pub adds-slot : (by : Comparison) (was mid now : List RangeValue) (below : ℕ) (s : ℤ) (i : ℕ) (part : SpanValue) (h k : Past) → part ≡ record { start = slot_start below s i; height = below } → AddsChangedSlots by was mid (within s (slot_start below s i) (bag h)) (within s (slot_start below s i) (bag k)) → AddsChangedSlots by mid now (points_of part.height part.start (bag h)) (points_of part.height part.start (bag k)) → AddsChangedSlots by was now (within s (slot_start below s (i + 1)) (bag h)) (within s (slot_start below s (i + 1)) (bag k))
adds-slot by was mid now below s i part h k is before here =
    let next = slot-next below s i in
    let at = subst (λ (u : SpanValue). AddsChangedSlots by mid now (points_of u.height u.start (bag h)) (points_of u.height u.start (bag k))) is here in
    let to = subst (λ e. AddsChangedSlots by mid now (within (slot_start below s i) e (bag h)) (within (slot_start below s i) e (bag k))) (sym next) at in
    adds-within by was mid now s (slot_start below s i) (slot_start below s (i + 1)) (bag h) (bag k) (slot-from below s i) (omega (arith, ints)) (bag-in_order h) (bag-in_order k) before to

-- Of a slot whose version is not newer: both trees have the same points there.
pub adds-passed : {Site : Type 0} (IsAt : Site → ℕ → ℤ → (List Point → Bool) → Past → Type 0) (by : Comparison) (now : List RangeValue) (part : SpanValue) (version count : ℕ) (site : Site) (h k : Past) → version ≤ by.since → IsSlotOf version count site IsAt part k → AgreeSince by.since h k → AddsChangedSlots by now now (points_of part.height part.start (bag h)) (points_of part.height part.start (bag k))
adds-passed IsAt by now part version count site h k old slot agree =
    let equal = agree.slots slot.above slot.begin part.height part.start (omega (arith, slot.carried, old)) in
    adds-as by now now _ _ _ _ (λ i. points_of part.height part.start (bag h)) equal (adds-none by now _)

-- Of all slots.
pub adds-done : (by : Comparison) (was now : List RangeValue) (height below : ℕ) (s : ℤ) (i : ℕ) (h k : Past) → i ≡ 64 → height ≡ suc below → AddsChangedSlots by was now (within s (slot_start below s i) (bag h)) (within s (slot_start below s i) (bag k)) → AddsChangedSlots by was now (points_of height s (bag h)) (points_of height s (bag k))
adds-done by was now height below s i h k e is all =
    adds-as by was now _ _ _ _ (prefix-done height below s i h e is) (prefix-done height below s i k e is) all

-- ---- A slot of an inner node.

many-inner : (height : ℕ) (start : ℤ) (b : List Point) → LEAF_POINTS < length (points_of height start b) → is_inner height start b ≡ true
many-inner height start b many = grind (arith, nat_tests)

module _ {Site : Type 0} (IsAt : Site → ℕ → ℤ → (List Point → Bool) → Past → Type 0) (place : ℕ → Site) (slots : ℕ → Slot) (span : SpanValue) where
  -- The span is an inner node.
  pub slots-inner : (k : Past) → AreSlotsAt IsAt place slots span k → is_inner span.height span.start (bag k) ≡ true
  slots-inner k at = many-inner span.height span.start (bag k) at.many

  pub slots-part : (k : Past) (i : ℕ) (part : SpanValue) (at : AreSlotsAt IsAt place slots span k) → part ≡ slot_of span i → part ≡ record { start = slot_start at.below span.start i; height = at.below }
  slots-part k i part at is = is ∙ slot-part span at.below i at.above

-- A slot that is read while the source tells what it told before the first slot.
module _ {Told Site : Type 0} (IsAt : Told → Site → ℕ → ℤ → (List Point → Bool) → Past → Type 0) (told now : Told) (place : ℕ → Site) (slots : ℕ → Slot) (span : SpanValue) (i : ℕ) (part : SpanValue) (site : Site) (same : now ≡ told) (low : i < 64) (is : part ≡ slot_of span i) (there : site ≡ place i) where
  -- The place of a slot is that of its span.
  pub slots-place : (k : Past) → AreSlotsAt (IsAt told) place slots span k → IsPlace site (IsAt now) part k
  slots-place k at =
      let here = place-at (IsAt now) place slots span part k i (subst (λ u. AreSlotsAt (IsAt u) place slots span k) (sym same) at) low is in
      (is_inner (suc at.below) span.start, subst (λ s. IsAt now s part.height part.start (is_inner (suc at.below) span.start) k) (sym there) here.holds)

  -- The older nodes of one slot more are counted.
  module _ {E : Type 0} (first mid last : ℕ) (r : Result (Unit {0}) (WalkFault E)) (done : CountsOlder 0 part (IsAt now) (IsPlace site) mid last r) where
    pub older-next : (h : Past) (at : AreSlotsAt (IsAt told) place slots span h) → mid ≤ first + sum_of i (λ j. nodes_in at.below (slot_start at.below span.start j) (bag h)) → last ≤ first + sum_of (i + 1) (λ j. nodes_in at.below (slot_start at.below span.start j) (bag h)) + refusals r
    older-next h at before =
        nodes-slot at.below span.start i part (bag h) first mid last (refusals r) (slots-part (IsAt told) place slots span h i part at is) before (omega (arith, done.bounded h (slots-place h at)))

    -- The walk ends in that slot.
    pub older-end : first ≤ mid → ((h : Past) (at : AreSlotsAt (IsAt told) place slots span h) → mid ≤ first + sum_of i (λ j. nodes_in at.below (slot_start at.below span.start j) (bag h))) → CountsOlder 1 span (IsAt told) (AreSlotsOf place slots) first last r
    older-end up before =
        older-slots (IsAt told) place slots span (i + 1) first last r (omega arith) (λ h at. older-next h at (before h at)) (omega (arith, done.never_falls))

  module _ (version count : ℕ) (v : version ≡ (slots i).version) (c : count ≡ (slots i).agg.count) where
    -- A slot has its version, count and place. Transparent, since counts are said of the span above that it names.
    unfoldable pub slots-slot : (k : Past) → AreSlotsAt (IsAt told) place slots span k → IsSlotOf version count site (IsAt now) part k
    slots-slot k at =
        let here = place-at (IsAt now) place slots span part k i (subst (λ u. AreSlotsAt (IsAt u) place slots span k) (sym same) at) low is in
        record {
          above = suc at.below;
          begin = span.start;
          inner = ap (λ g. is_inner g span.start (bag k)) (sym at.above) ∙ slots-inner (IsAt told) place slots span k at;
          carried = v
              ∙ ap (λ (y : Slot). y.version) (at.all i low)
              ∙ ap (λ (u : SpanValue). last_change (is_inner (suc at.below) span.start) u.height u.start k) (sym here.is);
          counted = c ∙ ap (λ (a : AggValue). a.count) here.counted ∙ agg-count (points_of part.height part.start (bag k));
          holds = subst (λ s. IsAt now s part.height part.start (is_inner (suc at.below) span.start) k) (sym there) here.holds;
        }

    -- The newer nodes of one slot more are counted.
    module _ (by : Comparison) (first mid last : ℕ) (done : CountsSlot (record { span = part; by = by }) (IsAt now) version count site mid last) where
      pub newer-next : (k : Past) (at : AreSlotsAt (IsAt told) place slots span k) → mid ≤ first + sum_of i (λ j. newer_nodes at.below (slot_start at.below span.start j) (is_inner (suc at.below) span.start) k by.since) → last ≤ first + sum_of (i + 1) (λ j. newer_nodes at.below (slot_start at.below span.start j) (is_inner (suc at.below) span.start) k by.since)
      unfolding slots-slot
      newer-next k at before =
          bounded-slot at.below span.start i part k by.since first mid last (slots-part (IsAt told) place slots span k i part at is) before (done.bounded k (slots-slot k at))

      -- The walk ends in that slot.
      pub newer-end : first ≤ mid → ((k : Past) (at : AreSlotsAt (IsAt told) place slots span k) → mid ≤ first + sum_of i (λ j. newer_nodes at.below (slot_start at.below span.start j) (is_inner (suc at.below) span.start) k by.since)) → CountsNewer (record { span = span; by = by }) (IsAt told) (AreSlotsOf place slots) first last
      newer-end up before =
          record {
            bounded = λ k at.
                bounded-exit span.height at.below span.start i k by.since first last at.above (slots-inner (IsAt told) place slots span k at) low (newer-next k at (before k at));
            never_falls = omega (arith, done.never_falls);
          }

-- ---- The points of a slot.

-- The points of a span include those of each slot.
pub slot-points : (span : SpanValue) (below i : ℕ) (part : SpanValue) (h : Past) (all : List Point) → span.height ≡ suc below → i < 64 → part ≡ record { start = slot_start below span.start i; height = below } → all ≡ points_of span.height span.start (bag h) → points_of part.height part.start all ≡ points_of part.height part.start (bag h)
slot-points span below i part h all e place is same =
    let s = span.start in
    let whole : all ≡ points_of (suc below) s (bag h) = same ∙ ap (λ g. points_of g s (bag h)) e in
    ap (points_of part.height part.start) whole
    ∙ subst (λ (u : SpanValue). points_of u.height u.start (points_of (suc below) s (bag h)) ≡ points_of u.height u.start (bag h)) (sym is) (points-slot below s i (bag h) place)
