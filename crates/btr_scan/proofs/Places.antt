-- Lemmas on what a walk finds at a place: the points of a leaf, and slots without a point.
use Rattle.std.specs.Prelude.{◌≡◌, ℕ, ◌+◌, ◌<◌, ◌≤◌, ℤ, pos, ◌+ℤ◌, ◌≤ℤ◌, Bool, not, int_le, int_lt, List, [], length, Option, Some, None, IsNone, IsSome, Result, Ok, Err, OnOk, if◌then◌else◌}
use Rattle.std.specs.List.{filter}
use Rattle.std.specs.Result.{is_ok}
use Rattle.std.proofs.Common.{zero, suc, refl, sym, ap, ◌∙◌, arith, subst}
use Rattle.std.proofs.lemmas.Int.{ints}
use Rattle.btr_base.specs.Agg.{AggValue}
use Rattle.btr_base.specs.declared.point.Point.{Point}
use Rattle.btr_base.specs.Bag.{within}
use Rattle.btr_base.specs.Span.{width, SpanValue, slot_of}
use Rattle.btr_base.proofs.ListLemmas.{filter-same}
use Rattle.btr_base.proofs.WithinLemmas.{within-from, within-before}
use Rattle.btr_tree.specs.declared.found.FoundNode.{FoundNode}
use Rattle.btr_tree.specs.declared.found.FoundNode.TheVariants.{Nothing, Leaf, Inner}
use Rattle.btr_tree.specs.declared.node.Slot.{Slot}
use Rattle.btr_tree.specs.Change.{joined_first}
use Rattle.btr_tree.specs.History.{Past, bag}
use Rattle.btr_tree.specs.Nodes.{points_of, is_inner}
use Rattle.btr_tree.specs.Slots.{AreEmpty}
use Rattle.btr_tree.specs.NodeSource.{count_in, AreSlotsAt, AreSafeSlots, IsSafeFound, IsFoundAt}
use Rattle.btr_tree.proofs.NodeLemmas.{joined-none, joined-suc}
use Rattle.btr_tree.proofs.SourceLemmas.{place-safe, place-at}

-- What a list is after a call that leaves it as it was if the call fails.
pub where_ok : {E : Type 0} (r : Result (Unit {0}) E) (new all old : List Point) → new ≡ (if is_ok r then all else old) → OnOk r (new ≡ all)
where_ok (Ok x) new all old e = e
where_ok (Err x) new all old e = tt

not_before : (time t : ℤ) → not (int_lt t time) ≡ int_le time t
not_before time t = grind (arith, ints)

-- The points of a leaf from a time on, and before it.
pub leaf-from : (k : ℕ) (s : ℤ) (b : List Point) (points behind : List Point) (time at : ℤ) → at ≡ time → s ≤ℤ time → points ≡ points_of k s b → behind ≡ filter (λ p. not (int_lt p.time at)) points → behind ≡ within time (s +ℤ pos (width k)) b
leaf-from k s b points behind time at same low is e =
    e
    ∙ (λ i. filter (λ p. not (int_lt p.time (same i))) (is i))
    ∙ filter-same (λ p. not (int_lt p.time time)) (λ p. int_le time p.time) (points_of k s b) (λ p. not_before time p.time)
    ∙ within-from s (s +ℤ pos (width k)) time b low

pub leaf-before : (k : ℕ) (s : ℤ) (b : List Point) (points before : List Point) (time at : ℤ) → at ≡ time → time ≤ℤ (s +ℤ pos (width k)) → points ≡ points_of k s b → before ≡ filter (λ p. int_lt p.time at) points → before ≡ within s time b
leaf-before k s b points before time at same high is e =
    e
    ∙ (λ i. filter (λ p. int_lt p.time (same i)) (is i))
    ∙ within-before s (s +ℤ pos (width k)) time b high

-- A span without points has none from a time on, and none before it.
pub none-from : (k : ℕ) (s : ℤ) (b : List Point) (time : ℤ) → s ≤ℤ time → points_of k s b ≡ [] → within time (s +ℤ pos (width k)) b ≡ []
none-from k s b time low none =
    sym (within-from s (s +ℤ pos (width k)) time b low) ∙ ap (filter (λ p. int_le time p.time)) none

pub none-until : (k : ℕ) (s : ℤ) (b : List Point) (time : ℤ) → time ≤ℤ (s +ℤ pos (width k)) → points_of k s b ≡ [] → within s time b ≡ []
none-until k s b time high none =
    sym (within-before s (s +ℤ pos (width k)) time b high) ∙ ap (filter (λ p. int_lt p.time time)) none

-- ---- slots without a point

none-first : (f : ℕ → Slot) → AreEmpty f 0 64 → (n : ℕ) → n ≤ 64 → (joined_first n f).count ≡ 0
none-first f none zero le = ap (λ (a : AggValue). a.count) (joined-none f)
none-first f none (suc n) le =
    let next : (joined_first (suc n) f).count ≡ (joined_first n f).count + (f n).agg.count = ap (λ (a : AggValue). a.count) (joined-suc n f) in
    omega (arith, next, none-first f none n (omega arith), none n (omega arith) (omega arith))

-- Slots none of which has a point have none together.
pub none-counted : (f : ℕ → Slot) → AreEmpty f 0 64 → count_in f ≡ 0
none-counted f none = none-first f none 64 (omega arith)

-- If slots that have points together are empty where none is found, then one is found.
pub some-found : (f : ℕ → Slot) (r : Option Point) → 0 < count_in f → (IsNone r → AreEmpty f 0 64) → IsSome r
some-found f None some none = let no = none-counted f (none refl) in absurd (omega arith)
some-found f (Some p) some none = refl

-- ---- what was found at a place

-- The slots that were found can be walked.
pub safe-slots : {Site F I : Type 0} (IsSafe : Site → ℕ → ℤ → Type 0) (count : Site → ℕ) (points : F → List Point) (slot : I → ℕ → Slot) (place : I → ℕ → Site) (most : ℕ) (span : SpanValue) (found : FoundNode F I) (version : ℕ) (inner : I) → IsSafeFound IsSafe count points slot place most span found → found ≡ Inner version inner → AreSafeSlots IsSafe count (place inner) (slot inner) span
safe-slots IsSafe count points slot place most span found version inner safe e =
    (subst (IsSafeFound IsSafe count points slot place most span) e safe).0

-- The points of a leaf that was found are some.
pub some-points : {Site F I : Type 0} (IsSafe : Site → ℕ → ℤ → Type 0) (count : Site → ℕ) (points : F → List Point) (slot : I → ℕ → Slot) (place : I → ℕ → Site) (most : ℕ) (span : SpanValue) (found : FoundNode F I) (version : ℕ) (leaf : F) → IsSafeFound IsSafe count points slot place most span found → found ≡ Leaf version leaf → 0 < length (points leaf)
some-points IsSafe count points slot place most span found version leaf safe e =
    (subst (IsSafeFound IsSafe count points slot place most span) e safe).some

-- A walk may go to the place of a slot.
pub safe-at : {Site : Type 0} (IsSafe : Site → ℕ → ℤ → Type 0) (count : Site → ℕ) (place : ℕ → Site) (f : ℕ → Slot) (span part : SpanValue) (i : ℕ) (site : Site) → AreSafeSlots IsSafe count place f span → i < 64 → part ≡ slot_of span i → site ≡ place i → IsSafe site part.height part.start
safe-at {Site} IsSafe count place f span part i site safe lt e same =
    subst (λ (x : Site). IsSafe x part.height part.start) (sym same) (place-safe IsSafe count place f span part i safe lt e)

-- The place of a slot is that of its span.
pub held-at : {Site : Type 0} (IsAt : Site → ℕ → ℤ → (List Point → Bool) → Past → Type 0) (place : ℕ → Site) (f : ℕ → Slot) (span part : SpanValue) (h : Past) (i : ℕ) (site : Site) (at : AreSlotsAt IsAt place f span h) → i < 64 → part ≡ slot_of span i → site ≡ place i → IsAt site part.height part.start (is_inner (suc at.below) span.start) h
held-at {Site} IsAt place f span part h i site at lt e same =
    subst (λ (x : Site). IsAt x part.height part.start (is_inner (suc at.below) span.start) h) (sym same) (place-at IsAt place f span part h i at lt e).holds

-- The same, by what another state tells that is the same.
pub held-later : {Told Site : Type 0} (IsAt : Told → Site → ℕ → ℤ → (List Point → Bool) → Past → Type 0) (old new : Told) (place : ℕ → Site) (f : ℕ → Slot) (span part : SpanValue) (h : Past) (i : ℕ) (site : Site) → new ≡ old → (at : AreSlotsAt (IsAt old) place f span h) → i < 64 → part ≡ slot_of span i → site ≡ place i → IsAt new site part.height part.start (is_inner (suc at.below) span.start) h
held-later IsAt old new place f span part h i site e at lt is same =
    subst (λ t. IsAt t site part.height part.start (is_inner (suc at.below) span.start) h) (sym e) (held-at (IsAt old) place f span part h i site at lt is same)

-- The points of a leaf that was found are those of the span.
pub leaf-found : {Site F I : Type 0} (IsAt : Site → ℕ → ℤ → (List Point → Bool) → Past → Type 0) (points : F → List Point) (slot : I → ℕ → Slot) (place : I → ℕ → Site) (span : SpanValue) (above : List Point → Bool) (h : Past) (found : FoundNode F I) (version : ℕ) (leaf : F) → IsFoundAt IsAt points slot place span above h found → found ≡ Leaf version leaf → points leaf ≡ points_of span.height span.start (bag h)
leaf-found IsAt points slot place span above h found version leaf is e =
    (subst (IsFoundAt IsAt points slot place span above h) e is).same

-- The slots of an inner node that was found, at their places.
pub inner-found : {Site F I : Type 0} (IsAt : Site → ℕ → ℤ → (List Point → Bool) → Past → Type 0) (points : F → List Point) (slot : I → ℕ → Slot) (place : I → ℕ → Site) (span : SpanValue) (above : List Point → Bool) (h : Past) (found : FoundNode F I) (version : ℕ) (inner : I) → IsFoundAt IsAt points slot place span above h found → found ≡ Inner version inner → AreSlotsAt IsAt (place inner) (slot inner) span h
inner-found IsAt points slot place span above h found version inner is e =
    (subst (IsFoundAt IsAt points slot place span above h) e is).inner

-- Where nothing was found the span has no point.
pub nothing-found : {Site F I : Type 0} (IsAt : Site → ℕ → ℤ → (List Point → Bool) → Past → Type 0) (points : F → List Point) (slot : I → ℕ → Slot) (place : I → ℕ → Site) (span : SpanValue) (above : List Point → Bool) (h : Past) (found : FoundNode F I) → IsFoundAt IsAt points slot place span above h found → found ≡ Nothing → points_of span.height span.start (bag h) ≡ []
nothing-found IsAt points slot place span above h found is e =
    subst (IsFoundAt IsAt points slot place span above h) e is

-- The slots of a span at their places, by what another state tells that is the same.
pub slots-same : {Told Site : Type 0} (IsAt : Told → Site → ℕ → ℤ → (List Point → Bool) → Past → Type 0) (old new : Told) (place : ℕ → Site) (f : ℕ → Slot) (span : SpanValue) (h : Past) → new ≡ old → AreSlotsAt (IsAt old) place f span h → AreSlotsAt (IsAt new) place f span h
slots-same IsAt old new place f span h e at =
    subst (λ t. AreSlotsAt (IsAt t) place f span h) (sym e) at

-- The slots that a walk may visit, by what another state tells that is the same.
pub safe-same : {Told Site : Type 0} (IsSafe : Told → Site → ℕ → ℤ → Type 0) (count : Site → ℕ) (old new : Told) (place : ℕ → Site) (f : ℕ → Slot) (span : SpanValue) → new ≡ old → AreSafeSlots (IsSafe old) count place f span → AreSafeSlots (IsSafe new) count place f span
safe-same IsSafe count old new place f span e safe =
    subst (λ t. AreSafeSlots (IsSafe t) count place f span) (sym e) safe
