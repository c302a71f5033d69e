-- Lemmas on points that are parted by the slots of a span.
use Rattle.std.specs.Prelude.{◌≡◌, ℕ, ◌+◌, ◌<◌, ℤ, pos, ◌+ℤ◌, ◌≤ℤ◌, not, int_lt, int_le, List}
use Rattle.std.specs.List.{filter}
use Rattle.std.proofs.Common.{suc, sym, ap, ◌∙◌, arith, subst}
use Rattle.std.proofs.lemmas.Int.{ints}
use Rattle.btr_base.specs.declared.point.Point.{Point}
use Rattle.btr_base.specs.Bag.{within}
use Rattle.btr_base.specs.Span.{width, SpanValue, IsSpan, slot_of}
use Rattle.btr_base.proofs.WithinLemmas.{within-nested, within-before, within-from}
use Rattle.btr_base.proofs.ListLemmas.{filter-same}
use Rattle.btr_tree.specs.declared.fault.TreeFault.{TreeFault}
use Rattle.btr_tree.specs.declared.fault.TreeFault.TheVariants.{Crowded, TooManyPoints, Want}
use Rattle.btr_tree.specs.History.{bag, Past}
use Rattle.btr_tree.specs.Nodes.{points_of}
use Rattle.btr_tree.specs.Shape.{slot_start}
use Rattle.btr_tree.proofs.NodeLemmas.{slot-part, slot-next, slot-from, slot-inside, points-slot}
use Rattle.btr_tree.specs.Change.{end_of}
use Rattle.btr_tree.specs.Crowd.{HasNoCrowdedSpan, IsFirstCrowd, IsCrowdedFault}
use Rattle.btr_tree.proofs.CrowdLemmas.{Whole, span-whole, room-join, room-part, crowd-part}

-- The points of a slot, and those after it, of the points of a span.
pub record IsPartedAt (span part : SpanValue) (below i : ℕ) (points here behind : List Point) : Type 0 where
  pub is : part ≡ record { start = slot_start below span.start i; height = below }
  pub has : here ≡ within part.start (end_of part) points
  pub leaves : behind ≡ within (slot_start below span.start (i + 1)) (end_of span) points
  pub whole : Whole (end_of part)
  pub low : span.start ≤ℤ part.start
  pub begins : part.start ≡ slot_start below span.start i
  pub high : end_of part ≤ℤ end_of span
  pub next : end_of part ≡ slot_start below span.start (i + 1)

late : (t m : ℤ) → not (int_lt t m) ≡ int_le m t
late t m = grind (arith, ints)

pub parted-at : (span part : SpanValue) (below i : ℕ) (points rest here behind : List Point) (time : ℤ) → span.height ≡ suc below → i < 64 → part ≡ slot_of span i → IsSpan part → time ≡ end_of part → rest ≡ within (slot_start below span.start i) (end_of span) points → here ≡ filter (λ p. int_lt p.time time) rest → behind ≡ filter (λ p. not (int_lt p.time time)) rest → IsPartedAt span part below i points here behind
parted-at span part below i points rest here behind time e place p aligned ends r h b =
    let is : part ≡ record { start = slot_start below span.start i; height = below } = p ∙ slot-part span below i e in
    let begins : part.start ≡ slot_start below span.start i = ap (λ u. u.start) is in
    let next : end_of part ≡ slot_start below span.start (i + 1) = ap end_of is ∙ sym (slot-next below span.start i) in
    let end : end_of span ≡ span.start +ℤ pos (width (suc below)) = ap (λ k. span.start +ℤ pos (width k)) e in
    let inside = slot-inside below span.start i place in
    let from = slot-from below span.start i in
    let m = end_of part in
    let a = slot_start below span.start i in
    let between : a ≤ℤ m = omega (arith, ints, slot-next below span.start i) in
    let high : m ≤ℤ end_of span = omega (arith, ints, slot-next below span.start i) in
    record {
      is = is;
      has = h ∙ ap (λ t. filter (λ p. int_lt p.time t) rest) ends ∙ ap (λ x. filter (λ p. int_lt p.time m) x) r ∙ within-before a (end_of span) m points high ∙ ap (λ x. within x m points) (sym begins);
      leaves = b ∙ ap (λ t. filter (λ p. not (int_lt p.time t)) rest) ends ∙ ap (λ x. filter (λ p. not (int_lt p.time m)) x) r
          ∙ filter-same (λ p. not (int_lt p.time m)) (λ p. int_le m p.time) (within a (end_of span) points) (λ p. late p.time m)
          ∙ within-from a (end_of span) m points between
          ∙ ap (λ x. within x (end_of span) points) next;
      whole = span-whole part aligned;
      low = omega (arith, ints);
      begins = begins;
      high = high;
      next = next;
    }

pub parted-inside : (a b : ℤ) (points here : List Point) → here ≡ within a b points → within a b here ≡ here
parted-inside a b points here e =
    ap (within a b) e ∙ within-nested a b a b points (omega (arith, ints)) (omega (arith, ints)) ∙ sym e

-- The points of a slot are those that the commits leave there.
pub parted-same : (span part : SpanValue) (below i : ℕ) (points here behind : List Point) (h : Past) → IsPartedAt span part below i points here behind → i < 64 → points ≡ points_of (suc below) span.start (bag h) → here ≡ points_of below (slot_start below span.start i) (bag h)
parted-same span part below i points here behind h at place same =
    at.has
    ∙ ap (λ (u : SpanValue). within u.start (end_of u) points) at.is
    ∙ ap (λ x. points_of below (slot_start below span.start i) x) same
    ∙ points-slot below span.start i (bag h) place

-- The first crowded span of a slot is that of the span if there is none before the slot.
pub crowding-part : (span part : SpanValue) (below i : ℕ) (points here behind : List Point) (fault : TreeFault) → IsPartedAt span part below i points here behind → HasNoCrowdedSpan span.start (slot_start below span.start i) points → IsCrowdedFault part.start (end_of part) here fault → IsCrowdedFault span.start (end_of span) points fault
crowding-part span part below i points here behind (Crowded start) at room f =
    let crowd : IsFirstCrowd part.start (end_of part) (within part.start (end_of part) points) start f.0 = subst (λ x. IsFirstCrowd part.start (end_of part) x start f.0) at.has f.1 in
    (f.0, crowd-part span.start (end_of span) part.start (end_of part) points start f.0 at.whole at.low at.high (subst (λ t. HasNoCrowdedSpan span.start t points) (sym at.begins) room) crowd)
crowding-part span part below i points here behind (TooManyPoints count) at room f = absurd f
crowding-part span part below i points here behind Want at room f = tt

pub room-more : (span part : SpanValue) (below i : ℕ) (points here behind : List Point) → IsPartedAt span part below i points here behind → HasNoCrowdedSpan span.start (slot_start below span.start i) points → HasNoCrowdedSpan part.start (end_of part) here → HasNoCrowdedSpan span.start (slot_start below span.start (i + 1)) points
room-more span part below i points here behind at room more =
    let here_room = room-part part.start (end_of part) points at.whole (subst (HasNoCrowdedSpan part.start (end_of part)) at.has more) in
    subst (λ t. HasNoCrowdedSpan span.start t points) at.next (room-join span.start part.start (end_of part) points (subst (λ t. HasNoCrowdedSpan span.start t points) (sym at.begins) room) here_room)
