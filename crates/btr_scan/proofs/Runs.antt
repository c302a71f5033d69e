-- Lemmas on slots without a point that follow one another, and on the points before and after them.
use Rattle.std.specs.Prelude.{◌≡◌, ℕ, ◌+◌, ◌-◌, ◌<◌, ◌≤◌, ℤ, pos, ◌+ℤ◌, ◌≤ℤ◌, Bool, List, [], ◌++◌, length, Option, Some, None, slice_get}
use Rattle.std.specs.List.{last_or}
use Rattle.std.proofs.Common.{zero, suc, refl, sym, ap, ◌∙◌, arith, subst}
use Rattle.std.proofs.lemmas.Int.{ints}
use Rattle.btr_base.specs.declared.point.Point.{Point}
use Rattle.btr_base.specs.Bag.{within}
use Rattle.btr_base.specs.Span.{width, SpanValue, slot_of}
use Rattle.btr_base.proofs.WithinLemmas.{within-split, within-empty}
use Rattle.btr_tree.specs.declared.node.Slot.{Slot}
use Rattle.btr_tree.specs.Slots.{IsOccupied, AreEmpty}
use Rattle.btr_tree.specs.History.{Past, bag}
use Rattle.btr_tree.specs.Nodes.{points_of}
use Rattle.btr_tree.proofs.VersionLemmas.{bag-in_order}
use Rattle.btr_tree.specs.Change.{end_of}
use Rattle.btr_tree.specs.Shape.{AreSlots, slot_start}
use Rattle.btr_tree.proofs.NodeLemmas.{slot-end, slot-from, slot-inside, slot-next, slot-part, prefix-next, prefix-none, rest-next}
use Rattle.btr_tree.proofs.RangeSlotLemmas.{slot-count, slot-empty, slot-ends, slot_of-start, prefix-gap}
use Rattle.btr_tree.specs.NodeSource.{AreSlotsAt}
use Rattle.btr_scan.specs.FirstLast.{first_within, last_within}
use Rattle.btr_scan.proofs.Firsts.{first-some, first-found, first-missed, last-some, last-found, last-missed}

-- ---- a slot with a point

full-of : (below : ℕ) (s : ℤ) (h : Past) (f : ℕ → Slot) (i : ℕ) → AreSlots below s h f → i < 64 → IsOccupied f i → 0 < length (points_of below (slot_start below s i) (bag h))
full-of below s h f i slots place some =
    omega (arith, slot-count below s h f i slots place, some)

-- ---- after slots without a point

rest-skip : (n below : ℕ) (s : ℤ) (h : Past) (f : ℕ → Slot) (i j : ℕ) → n + i ≡ j → AreSlots below s h f → j ≤ 64 → AreEmpty f i j → within (slot_start below s i) (s +ℤ pos (width (suc below))) (bag h) ≡ within (slot_start below s j) (s +ℤ pos (width (suc below))) (bag h)
rest-skip zero below s h f i j e slots up none =
    let same : i ≡ j = omega arith in
    ap (λ k. within (slot_start below s k) (s +ℤ pos (width (suc below))) (bag h)) same
rest-skip (suc n) below s h f i j e slots up none =
    rest-next below s i h (omega arith)
    ∙ ap (λ b. b ++ within (slot_start below s (i + 1)) (s +ℤ pos (width (suc below))) (bag h)) (slot-empty below s h f i slots (omega arith) (none i (omega arith) (omega arith)))
    ∙ rest-skip n below s h f (i + 1) j (omega arith) slots up (λ m low high. none m (omega arith) high)

rest-none : (below : ℕ) (s : ℤ) (h : Past) → within (slot_start below s 64) (s +ℤ pos (width (suc below))) (bag h) ≡ []
rest-none below s h =
    ap (λ a. within a (s +ℤ pos (width (suc below))) (bag h)) (slot-end below s) ∙ within-empty (s +ℤ pos (width (suc below))) (bag h)

-- The first point from a slot on is that of the first slot there with a point.
pub first-behind : (span : SpanValue) (below : ℕ) (h : Past) (f : ℕ → Slot) (from i : ℕ) (part : SpanValue) (r : Option Point) → span.height ≡ suc below → AreSlots below span.start h f → from ≤ i → i < 64 → IsOccupied f i → AreEmpty f from i → part ≡ record { start = slot_start below span.start i; height = below } → r ≡ slice_get (points_of part.height part.start (bag h)) 0 → r ≡ slice_get (within (slot_start below span.start from) (end_of span) (bag h)) 0
first-behind span below h f from i part r e slots low place some passed is found =
    let s = span.start in
    let full = full-of below s h f i slots place some in
    let gap : (i - from) + from ≡ i = omega arith in
    found
    ∙ ap (λ (u : SpanValue). slice_get (points_of u.height u.start (bag h)) 0) is
    ∙ sym (first-some (points_of below (slot_start below s i) (bag h)) (within (slot_start below s (i + 1)) (s +ℤ pos (width (suc below))) (bag h)) full)
    ∙ sym (ap (λ (x : List Point). slice_get x 0) (rest-skip (i - from) below s h f from i gap slots (omega arith) passed ∙ rest-next below s i h place))
    ∙ ap (λ k. slice_get (within (slot_start below s from) (s +ℤ pos (width k)) (bag h)) 0) (sym e)

-- There is no point if no slot there has one.
pub none-behind : (span : SpanValue) (below : ℕ) (h : Past) (f : ℕ → Slot) (from : ℕ) (r : Option Point) → span.height ≡ suc below → AreSlots below span.start h f → from ≤ 64 → AreEmpty f from 64 → r ≡ None → r ≡ slice_get (within (slot_start below span.start from) (end_of span) (bag h)) 0
none-behind span below h f from r e slots up none is =
    let s = span.start in
    let gap : (64 - from) + from ≡ 64 = omega arith in
    is
    ∙ sym (ap (λ (x : List Point). slice_get x 0) (rest-skip (64 - from) below s h f from 64 gap slots (omega arith) none ∙ rest-none below s h))
    ∙ ap (λ k. slice_get (within (slot_start below s from) (s +ℤ pos (width k)) (bag h)) 0) (sym e)

-- ---- before slots without a point

-- The last point before a slot is that of the last slot there with a point.
pub last-before : (below : ℕ) (s : ℤ) (h : Past) (f : ℕ → Slot) (to i : ℕ) (part : SpanValue) (r : Option Point) → AreSlots below s h f → i < to → to ≤ 64 → IsOccupied f i → AreEmpty f (i + 1) to → part ≡ record { start = slot_start below s i; height = below } → r ≡ last_or None (points_of part.height part.start (bag h)) → r ≡ last_or None (within s (slot_start below s to) (bag h))
last-before below s h f to i part r slots high place some passed is found =
    let full = full-of below s h f i slots (omega arith) some in
    found
    ∙ ap (λ (u : SpanValue). last_or None (points_of u.height u.start (bag h))) is
    ∙ sym (last-some (within s (slot_start below s i) (bag h)) (points_of below (slot_start below s i) (bag h)) full)
    ∙ sym (ap (last_or None) (prefix-gap below s h f (i + 1) to slots (omega arith) place passed ∙ prefix-next below s i h))

pub none-before : (below : ℕ) (s : ℤ) (h : Past) (f : ℕ → Slot) (to : ℕ) (r : Option Point) → AreSlots below s h f → to ≤ 64 → AreEmpty f 0 to → r ≡ None → r ≡ last_or None (within s (slot_start below s to) (bag h))
none-before below s h f to r slots place none is =
    is ∙ sym (ap (last_or None) (prefix-gap below s h f 0 to slots (omega arith) place none ∙ prefix-none below s h))

-- ---- the slot that a time lies in

-- The points from a time on are those of its slot, and those of the slots after it.
from-parts : (span : SpanValue) (below : ℕ) (h : Past) (time : ℤ) (i : ℕ) (part : SpanValue) → span.height ≡ suc below → i < 64 → part ≡ record { start = slot_start below span.start i; height = below } → time ≤ℤ end_of part → within time (end_of span) (bag h) ≡ within time (end_of part) (bag h) ++ within (slot_start below span.start (i + 1)) (end_of span) (bag h)
from-parts span below h time i part e place is early =
    let s = span.start in
    let ends = slot-ends below s i part is in
    let inside = slot-inside below s i place in
    let next = slot-next below s i in
    let high : slot_start below s (i + 1) ≤ℤ end_of span = subst (λ k. slot_start below s (i + 1) ≤ℤ (s +ℤ pos (width k))) (sym e) (omega (arith, ints)) in
    within-split time (slot_start below s (i + 1)) (end_of span) (bag h) (omega (arith, ints)) high (bag-in_order h)
    ∙ ap (λ x. within time x (bag h) ++ within (slot_start below s (i + 1)) (end_of span) (bag h)) (sym ends)

pub next-here : (span : SpanValue) (below : ℕ) (h : Past) (time : ℤ) (i : ℕ) (part : SpanValue) (p : Point) → span.height ≡ suc below → i < 64 → part ≡ record { start = slot_start below span.start i; height = below } → time ≤ℤ end_of part → Some p ≡ slice_get (within time (end_of part) (bag h)) 0 → Some p ≡ slice_get (within time (end_of span) (bag h)) 0
next-here span below h time i part p e place is early found =
    sym (first-found (within time (end_of part) (bag h)) (within (slot_start below span.start (i + 1)) (end_of span) (bag h)) p (sym found))
    ∙ sym (ap (λ (x : List Point). slice_get x 0) (from-parts span below h time i part e place is early))

pub next-behind : (span : SpanValue) (below : ℕ) (h : Past) (time : ℤ) (i : ℕ) (part : SpanValue) (r : Option Point) → span.height ≡ suc below → i < 64 → part ≡ record { start = slot_start below span.start i; height = below } → time ≤ℤ end_of part → None ≡ slice_get (within time (end_of part) (bag h)) 0 → r ≡ slice_get (within (slot_start below span.start (i + 1)) (end_of span) (bag h)) 0 → r ≡ slice_get (within time (end_of span) (bag h)) 0
next-behind span below h time i part r e place is early none found =
    found
    ∙ sym (first-missed (within time (end_of part) (bag h)) (within (slot_start below span.start (i + 1)) (end_of span) (bag h)) (sym none))
    ∙ sym (ap (λ (x : List Point). slice_get x 0) (from-parts span below h time i part e place is early))

-- The points before a time are those of the slots before its slot, and those of the slot.
before-parts : (below : ℕ) (s : ℤ) (h : Past) (time : ℤ) (i : ℕ) (part : SpanValue) → part ≡ record { start = slot_start below s i; height = below } → part.start ≤ℤ time → within s time (bag h) ≡ within s (slot_start below s i) (bag h) ++ within part.start time (bag h)
before-parts below s h time i part is late =
    let begins : part.start ≡ slot_start below s i = ap (λ (u : SpanValue). u.start) is in
    within-split s (slot_start below s i) time (bag h) (slot-from below s i) (omega (arith, ints)) (bag-in_order h)
    ∙ ap (λ x. within s (slot_start below s i) (bag h) ++ within x time (bag h)) (sym begins)

pub previous-here : (below : ℕ) (s : ℤ) (h : Past) (time : ℤ) (i : ℕ) (part : SpanValue) (p : Point) → part ≡ record { start = slot_start below s i; height = below } → part.start ≤ℤ time → Some p ≡ last_or None (within part.start time (bag h)) → Some p ≡ last_or None (within s time (bag h))
previous-here below s h time i part p is late found =
    sym (last-found (within s (slot_start below s i) (bag h)) (within part.start time (bag h)) p (sym found))
    ∙ sym (ap (last_or None) (before-parts below s h time i part is late))

pub previous-before : (below : ℕ) (s : ℤ) (h : Past) (time : ℤ) (i : ℕ) (part : SpanValue) (r : Option Point) → part ≡ record { start = slot_start below s i; height = below } → part.start ≤ℤ time → None ≡ last_or None (within part.start time (bag h)) → r ≡ last_or None (within s (slot_start below s i) (bag h)) → r ≡ last_or None (within s time (bag h))
previous-before below s h time i part r is late none found =
    found
    ∙ sym (last-missed (within s (slot_start below s i) (bag h)) (within part.start time (bag h)) (sym none))
    ∙ sym (ap (last_or None) (before-parts below s h time i part is late))

-- ---- slots at their places

pub first-at : {Site : Type 0} (IsAt : Site → ℕ → ℤ → (List Point → Bool) → Past → Type 0) (place : ℕ → Site) (f : ℕ → Slot) (span : SpanValue) (h : Past) (from i : ℕ) (part : SpanValue) (r : Option Point) → AreSlotsAt IsAt place f span h → from ≤ i → i < 64 → IsOccupied f i → AreEmpty f from i → part ≡ slot_of span i → r ≡ first_within part.start (end_of part) (bag h) → r ≡ first_within (slot_of span from).start (end_of span) (bag h)
first-at IsAt place f span h from i part r at low up some passed is found =
    first-behind span at.below h f from i part r at.above at.all low up some passed (is ∙ slot-part span at.below i at.above) found
    ∙ ap (λ a. first_within a (end_of span) (bag h)) (sym (slot_of-start span at.below from at.above))

pub none-from-at : {Site : Type 0} (IsAt : Site → ℕ → ℤ → (List Point → Bool) → Past → Type 0) (place : ℕ → Site) (f : ℕ → Slot) (span : SpanValue) (h : Past) (from : ℕ) → AreSlotsAt IsAt place f span h → from ≤ 64 → AreEmpty f from 64 → None ≡ first_within (slot_of span from).start (end_of span) (bag h)
none-from-at IsAt place f span h from at up none =
    none-behind span at.below h f from None at.above at.all up none refl
    ∙ ap (λ a. first_within a (end_of span) (bag h)) (sym (slot_of-start span at.below from at.above))

pub last-at : {Site : Type 0} (IsAt : Site → ℕ → ℤ → (List Point → Bool) → Past → Type 0) (place : ℕ → Site) (f : ℕ → Slot) (span : SpanValue) (h : Past) (to i : ℕ) (part : SpanValue) (r : Option Point) → AreSlotsAt IsAt place f span h → i < to → to ≤ 64 → IsOccupied f i → AreEmpty f (i + 1) to → part ≡ slot_of span i → r ≡ last_within part.start (end_of part) (bag h) → r ≡ last_within span.start (slot_of span to).start (bag h)
last-at IsAt place f span h to i part r at high up some passed is found =
    last-before at.below span.start h f to i part r at.all high up some passed (is ∙ slot-part span at.below i at.above) found
    ∙ ap (λ e. last_within span.start e (bag h)) (sym (slot_of-start span at.below to at.above))

pub none-to-at : {Site : Type 0} (IsAt : Site → ℕ → ℤ → (List Point → Bool) → Past → Type 0) (place : ℕ → Site) (f : ℕ → Slot) (span : SpanValue) (h : Past) (to : ℕ) → AreSlotsAt IsAt place f span h → to ≤ 64 → AreEmpty f 0 to → None ≡ last_within span.start (slot_of span to).start (bag h)
none-to-at IsAt place f span h to at up none =
    none-before at.below span.start h f to None at.all up none refl
    ∙ ap (λ e. last_within span.start e (bag h)) (sym (slot_of-start span at.below to at.above))

-- The slots of a span end where it ends.
pub end-slot : (span : SpanValue) (below : ℕ) → span.height ≡ suc below → (slot_of span 64).start ≡ end_of span
end-slot span below e =
    slot_of-start span below 64 e ∙ slot-end below span.start ∙ ap (λ k. span.start +ℤ pos (width k)) (sym e)
