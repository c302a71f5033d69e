-- Lemmas on slots without a point, and on the slots of a span that a range of times meets.
use Rattle.std.specs.Prelude.{◌≡◌, ℕ, ◌+◌, ◌-◌, ◌<◌, ◌≤◌, ℤ, pos, ◌+ℤ◌, ◌≤ℤ◌, ◌<ℤ◌, Bool, false, ◌&&◌, int_le, int_lt, cond, List, [], ◌∷◌, ◌++◌, length}
use Rattle.std.specs.List.{filter}
use Rattle.std.proofs.Common.{zero, suc, refl, sym, ap, ◌∙◌, arith, subst, append-nil, inl, inr, to_z, of_z, w64}
use Rattle.std.proofs.lemmas.Bool.{cases_lt}
use Rattle.std.proofs.lemmas.Int.{ints, to_z-of_z}
use Rattle.std.proofs.lemmas.List.{nil_from_length}
use Rattle.btr_base.specs.declared.point.Point.{Point}
use Rattle.btr_base.specs.Bag.{within, is_within}
use Rattle.btr_base.specs.Range.{RangeValue, IsRange}
use Rattle.btr_base.specs.Span.{width, SpanValue, slot_of}
use Rattle.btr_base.proofs.AggLemmas.{agg-count}
use Rattle.btr_base.proofs.ListLemmas.{filter-filter, filter-same}
use Rattle.btr_base.proofs.WithinLemmas.{within-empty}
use Rattle.btr_tree.specs.declared.node.Slot.{Slot}
use Rattle.btr_tree.specs.Change.{end_of}
use Rattle.btr_tree.specs.History.{Past, bag}
use Rattle.btr_tree.specs.Nodes.{points_of}
use Rattle.btr_tree.specs.Shape.{slot_start, AreSlots}
use Rattle.btr_tree.specs.Slots.{AreEmpty}
use Rattle.btr_tree.proofs.NodeLemmas.{slot-next, slot-end, slot-first, slot-order, slot-part, prefix-next}

-- ---- a range as numbers of 64 bits

pub range-from : (inside r : RangeValue) → IsRange inside → inside ≡ r → to_z w64 (of_z w64 inside.from) ≡ r.from
range-from inside r h e =
    let low = h.begins in
    let full = h.not_empty in
    let high = h.ends in
    to_z-of_z w64 inside.from (omega (arith, ints)) ∙ ap (λ (i : RangeValue). i.from) e

pub range-to : (inside r : RangeValue) → IsRange inside → inside ≡ r → to_z w64 (of_z w64 inside.to) ≡ r.to
range-to inside r h e =
    let low = h.begins in
    let full = h.not_empty in
    let high = h.ends in
    to_z-of_z w64 inside.to (omega (arith, ints)) ∙ ap (λ (i : RangeValue). i.to) e

-- ---- points between two times, of those between two others

filter-never : {X : Type 0} (f : X → Bool) (a : List X) → ((x : X) → f x ≡ false) → filter f a ≡ []
filter-never f [] h = refl
filter-never f (x ∷ a) h = ap (λ t. cond t (x ∷ filter f a) (filter f a)) (h x) ∙ filter-never f a h

apart : (a b c d t : ℤ) → b ≤ℤ c → ((int_le a t && int_lt t b) && (int_le c t && int_lt t d)) ≡ false
apart a b c d t h = grind (arith, ints)

pub within-apart : (a b c d : ℤ) (xs : List Point) → b ≤ℤ c → within c d (within a b xs) ≡ []
within-apart a b c d xs h =
    filter-filter (is_within c d) (is_within a b) xs
    ∙ filter-never (λ p. is_within a b p && is_within c d p) xs (λ p. apart a b c d p.time h)

longer : (a b e c d t : ℤ) → d ≤ℤ b → b ≤ℤ e → ((int_le a t && int_lt t b) && (int_le c t && int_lt t d)) ≡ ((int_le a t && int_lt t e) && (int_le c t && int_lt t d))
longer a b e c d t h k = grind (arith, ints)

within-longer : (a b e c d : ℤ) (xs : List Point) → d ≤ℤ b → b ≤ℤ e → within c d (within a b xs) ≡ within c d (within a e xs)
within-longer a b e c d xs h k =
    filter-filter (is_within c d) (is_within a b) xs
    ∙ filter-same (λ p. is_within a b p && is_within c d p) (λ p. is_within a e p && is_within c d p) xs (λ p. longer a b e c d p.time h k)
    ∙ sym (filter-filter (is_within c d) (is_within a e) xs)

-- ---- slots without a point

pub slot-count : (below : ℕ) (s : ℤ) (h : Past) (f : ℕ → Slot) (i : ℕ) → AreSlots below s h f → i < 64 → (f i).agg.count ≡ length (points_of below (slot_start below s i) (bag h))
slot-count below s h f i slots place =
    ap (λ y. y.agg.count) (slots i place) ∙ agg-count (points_of below (slot_start below s i) (bag h))

pub slot-empty : (below : ℕ) (s : ℤ) (h : Past) (f : ℕ → Slot) (i : ℕ) → AreSlots below s h f → i < 64 → (f i).agg.count ≡ 0 → points_of below (slot_start below s i) (bag h) ≡ []
slot-empty below s h f i slots place none = nil_from_length _ (sym (slot-count below s h f i slots place) ∙ none)

prefix-skip : (n below : ℕ) (s : ℤ) (h : Past) (f : ℕ → Slot) (i j : ℕ) → n + i ≡ j → AreSlots below s h f → j ≤ 64 → AreEmpty f i j → within s (slot_start below s j) (bag h) ≡ within s (slot_start below s i) (bag h)
prefix-skip zero below s h f i j e slots up none =
    let same : j ≡ i = omega arith in ap (λ k. within s (slot_start below s k) (bag h)) same
prefix-skip (suc n) below s h f i j e slots up none =
    prefix-skip n below s h f (i + 1) j (omega arith) slots up (λ m low high. none m (omega arith) high)
    ∙ prefix-next below s i h
    ∙ ap (λ b. within s (slot_start below s i) (bag h) ++ b) (slot-empty below s h f i slots (omega arith) (none i (omega arith) (omega arith)))
    ∙ append-nil (within s (slot_start below s i) (bag h))

-- If no slot from one up to, and without, another has a point, the points before the other are those before the one.
pub prefix-gap : (below : ℕ) (s : ℤ) (h : Past) (f : ℕ → Slot) (i j : ℕ) → AreSlots below s h f → i ≤ j → j ≤ 64 → AreEmpty f i j → within s (slot_start below s j) (bag h) ≡ within s (slot_start below s i) (bag h)
prefix-gap below s h f i j slots low up none = prefix-skip (j - i) below s h f i j (omega arith) slots up none

-- ---- the slots that a range meets

pub slot-begins : (below : ℕ) (s : ℤ) (i : ℕ) (part : SpanValue) → part ≡ record { start = slot_start below s i; height = below } → part.start ≡ slot_start below s i
slot-begins below s i part is = ap (λ (u : SpanValue). u.start) is

pub slot-ends : (below : ℕ) (s : ℤ) (i : ℕ) (part : SpanValue) → part ≡ record { start = slot_start below s i; height = below } → end_of part ≡ slot_start below s (i + 1)
slot-ends below s i part is = ap end_of is ∙ sym (slot-next below s i)

pub slot_of-start : (span : SpanValue) (below i : ℕ) → span.height ≡ suc below → (slot_of span i).start ≡ slot_start below span.start i
slot_of-start span below i e = slot-begins below span.start i (slot_of span i) (slot-part span below i e)

pub slot_of-end : (span : SpanValue) (below i : ℕ) → span.height ≡ suc below → (slot_of span i).start +ℤ pos (width (span.height - 1)) ≡ slot_start below span.start (i + 1)
slot_of-end span below i e = slot-ends below span.start i (slot_of span i) (slot-part span below i e)

-- The first and the last slot that have times of the range.
pub record IsBetween (below : ℕ) (start from to : ℤ) (first last : ℕ) : Type 0 where
  pub order : first ≤ last
  pub place : last < 64
  pub before : (b : List Point) → within from to (within start (slot_start below start first) b) ≡ []
  pub begins : from <ℤ slot_start below start (first + 1)
  pub ends : slot_start below start last <ℤ to
  pub behind : (b : List Point) → within from to (within start (slot_start below start (last + 1)) b) ≡ within from to (points_of (suc below) start b)

before-first : (below : ℕ) (start from to : ℤ) (first : ℕ) → ((i : ℕ) → i < first → slot_start below start (i + 1) ≤ℤ from) → (b : List Point) → within from to (within start (slot_start below start first) b) ≡ []
before-first below start from to zero h b =
    ap (λ e. within from to (within start e b)) (slot-first below start) ∙ ap (within from to) (within-empty start b)
before-first below start from to (suc i) h b =
    let next : i + 1 ≡ suc i = omega arith in
    within-apart start (slot_start below start (suc i)) from to b (subst (λ j. slot_start below start j ≤ℤ from) next (h i (omega arith)))

behind-last : (below : ℕ) (start from to : ℤ) (last : ℕ) → last < 64 → ((i : ℕ) → last < i → i < 64 → to ≤ℤ slot_start below start i) → (b : List Point) → within from to (within start (slot_start below start (last + 1)) b) ≡ within from to (points_of (suc below) start b)
behind-last below start from to last place h b =
    let high : slot_start below start (last + 1) ≤ℤ (start +ℤ pos (width (suc below))) = omega (arith, ints, slot-order below start (last + 1) 64 (omega arith), slot-end below start) in
    elim (cases_lt (last + 1) 64) [
      | inl lt ↦ within-longer start (slot_start below start (last + 1)) (start +ℤ pos (width (suc below))) from to b (h (last + 1) (omega arith) lt) high
      | inr le ↦
          let e : last + 1 ≡ 64 = omega arith in
          ap (λ s. within from to (within start s b)) (ap (slot_start below start) e ∙ slot-end below start)
    ]

pub between-is : (span : SpanValue) (below : ℕ) (f t from to : ℤ) (first last : ℕ) → span.height ≡ suc below → f ≡ from → t ≡ to → first ≤ last → last < 64 → ((i : ℕ) → i < first → ((slot_of span i).start +ℤ pos (width (span.height - 1))) ≤ℤ f) → f <ℤ ((slot_of span first).start +ℤ pos (width (span.height - 1))) → (slot_of span last).start <ℤ t → ((i : ℕ) → last < i → i < 64 → t ≤ℤ (slot_of span i).start) → IsBetween below span.start from to first last
between-is span below f t from to first last e p q order place before begins ends behind =
    record {
      order = order;
      place = place;
      before = before-first below span.start from to first (λ i lt. let h = before i lt in let stop = slot_of-end span below i e in omega (arith, ints));
      begins = let stop = slot_of-end span below first e in omega (arith, ints);
      ends = let start = slot_of-start span below last e in omega (arith, ints);
      behind = behind-last below span.start from to last place (λ i lt le. let h = behind i lt le in let start = slot_of-start span below i e in omega (arith, ints));
    }

-- If no slot from one on up to the last that has times of the range has a point, the points before it are all in the range.
pub rest-empty : (below : ℕ) (start from to : ℤ) (first last : ℕ) (h : Past) (f : ℕ → Slot) (i : ℕ) → IsBetween below start from to first last → AreSlots below start h f → i ≤ last + 1 → AreEmpty f i (last + 1) → within from to (within start (slot_start below start i) (bag h)) ≡ within from to (points_of (suc below) start (bag h))
rest-empty below start from to first last h f i between holds order empty =
    let place = between.place in
    ap (within from to) (sym (prefix-gap below start h f i (last + 1) holds order (omega arith) empty))
    ∙ between.behind (bag h)

-- The range meets each slot from the first of them to the last.
pub slot-met : (below : ℕ) (start from to : ℤ) (first last i : ℕ) (part : SpanValue) → IsBetween below start from to first last → part ≡ record { start = slot_start below start i; height = below } → first ≤ i → i ≤ last → (from <ℤ end_of part) × (part.start <ℤ to)
slot-met below start from to first last i part met is low high =
    let begins = slot-begins below start i part is in
    let ends = slot-ends below start i part is in
    let behind = slot-order below start (first + 1) (i + 1) (omega arith) in
    let before = slot-order below start i last high in
    let first_ends = met.begins in
    let last_begins = met.ends in
    (omega (arith, ints), omega (arith, ints))
