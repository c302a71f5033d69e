-- Lemmas on the points that a source has: those of a leaf, and those of several leaves in a row.
use Rattle.std.specs.Prelude.{◌≡◌, ℕ, ℤ, pos, ◌+ℤ◌, ◌≤ℤ◌, ◌<ℤ◌, ◌≤◌, ◌<◌, ◌+◌, suc, true, List, [], ◌∷◌, ◌++◌, length, Result, Ok, Err, OnOk, IsTrue, if◌then◌else◌}
use Rattle.std.specs.Result.{is_ok}
use Rattle.std.specs.List.{AllByRecursion}
use Rattle.std.proofs.Common.{refl, sym, ap, ◌∙◌, subst, arith}
use Rattle.std.proofs.lemmas.Int.{ints}
use Rattle.btr_base.specs.declared.point.Point.{Point}
use Rattle.btr_base.specs.Point.{InDomain, is_not_after}
use Rattle.btr_base.specs.Bag.{IsInOrder, is_within}
use Rattle.btr_base.specs.Span.{width, SpanValue, slot_of}
use Rattle.btr_base.proofs.ListLemmas.{each-weaker, each-append, filter-passes}
use Rattle.btr_tree.specs.Change.{end_of}
use Rattle.btr_tree.specs.Nodes.{points_of}
use Rattle.btr_tree.specs.Shape.{slot_start}
use Rattle.btr_tree.specs.NodeSource.{AreSafePoints}
use Rattle.btr_tree.proofs.NodeLemmas.{slot-from, slot-inside, slot-part, slot-order, slot-end}
use Rattle.btr_tree.proofs.RangeSlotLemmas.{slot-ends}
use Rattle.btr_diff.specs.Comparison.{ArePoints, AreReady, IsInside}

-- A list after a call that leaves it unchanged on failure.
pub where_ok : {E : Type 0} (r : Result (Unit {0}) E) (new all old : List Point) → new ≡ (if is_ok r then all else old) → OnOk r (new ≡ all)
where_ok (Ok x) new all old e = e
where_ok (Err x) new all old e = tt

-- ---- A slot of a span.

-- A slot of a span in the domain is in the domain.
pub slot-in_domain : (span : SpanValue) (below i : ℕ) (part : SpanValue) → IsInside span.height span.start → span.height ≡ suc below → i < 64 → part ≡ slot_of span i → IsInside part.height part.start
slot-in_domain span below i part inside e place is =
    let begins = inside.begins in
    let ends = (subst (λ j. IsInside j span.start) e inside).ends in
    let low = slot-from below span.start i in
    let high = slot-inside below span.start i place in
    let at : IsInside below (slot_start below span.start i) = record { begins = omega (arith, ints); ends = omega (arith, ints) } in
    subst (λ (u : SpanValue). IsInside u.height u.start) (sym (is ∙ slot-part span below i e)) at

-- ---- The points of a leaf.

-- Each point of a span is from its start on, and before its end.
inside-each : (span : SpanValue) (b : List Point) → points_of span.height span.start b ≡ b → AllByRecursion (λ q. is_within span.start (end_of span) q ≡ true) b
inside-each span b e =
    subst (AllByRecursion (λ q. is_within span.start (end_of span) q ≡ true)) e (filter-passes (is_within span.start (end_of span)) b)

pub safe-points : (most : ℕ) (span : SpanValue) (b : List Point) → IsInside span.height span.start → AreSafePoints most span b → ArePoints b
safe-points most span b inside safe =
    let begins = inside.begins in
    let ends = inside.ends in
    (safe.in_order, each-weaker (λ q. is_within span.start (end_of span) q ≡ true) (λ q. InDomain q.time) (λ q h. (grind (arith, ints), grind (arith, ints))) b (inside-each span b safe.inside))

-- ---- Points of several leaves in a row.

ordered-append : (a b : List Point) (m : ℤ) → IsInOrder a → IsInOrder b → AllByRecursion (λ q. q.time <ℤ m) a → AllByRecursion (λ q. m ≤ℤ q.time) b → IsInOrder (a ++ b)
ordered-append [] b m h k early late = k
ordered-append (p ∷ a) b m h k early late =
    let first = early.0 in
    (each-append (λ q. IsTrue (is_not_after p q)) a b h.0 (each-weaker (λ q. m ≤ℤ q.time) (λ q. IsTrue (is_not_after p q)) (λ q l. grind (arith, ints)) b late), ordered-append a b m h.1 k early.1 late)

pub ready-later : (s t : ℤ) (b : List Point) → s ≤ℤ t → AreReady s b → AreReady t b
ready-later s t b le ready =
    record {
      order = ready.order;
      domain = ready.domain;
      before = each-weaker (λ q. q.time <ℤ s) (λ q. q.time <ℤ t) (λ q h. omega (arith, ints)) b ready.before;
    }

-- Of no point.
pub ready-none : (t : ℤ) (b : List Point) → b ≡ [] → AreReady t b
ready-none t b e = subst (AreReady t) (sym e) (record { order = tt; domain = tt; before = tt })

-- The points of a leaf follow those before its span.
pub ready-leaf : (most : ℕ) (span : SpanValue) (old here new : List Point) → IsInside span.height span.start → AreReady span.start old → AreSafePoints most span here → new ≡ old ++ here → AreReady (end_of span) new
ready-leaf most span old here new inside ready safe e =
    let each = inside-each span here safe.inside in
    let more = ready-later span.start (end_of span) old (omega (arith, ints)) ready in
    let all : AreReady (end_of span) (old ++ here) = record {
      order = ordered-append old here span.start ready.order safe.in_order ready.before (each-weaker (λ q. is_within span.start (end_of span) q ≡ true) (λ q. span.start ≤ℤ q.time) (λ q h. grind (arith, ints)) here each);
      domain = each-append (λ q. InDomain q.time) old here ready.domain (safe-points most span here inside safe).1;
      before = each-append (λ q. q.time <ℤ end_of span) old here more.before (each-weaker (λ q. is_within span.start (end_of span) q ≡ true) (λ q. q.time <ℤ end_of span) (λ q h. grind (arith, ints)) here each);
    } in
    subst (AreReady (end_of span)) (sym e) all

-- Points before a slot are before each later one.
pub ready-slot : (span : SpanValue) (below i j : ℕ) (part : SpanValue) (b : List Point) → span.height ≡ suc below → part ≡ slot_of span j → i ≤ j → AreReady (slot_start below span.start i) b → AreReady part.start b
ready-slot span below i j part b e is le ready =
    subst (λ (u : SpanValue). AreReady u.start b) (sym (is ∙ slot-part span below j e)) (ready-later (slot_start below span.start i) (slot_start below span.start j) b (slot-order below span.start i j le) ready)

-- Points before the end of a slot are before the next one.
pub ready-next : (span : SpanValue) (below i : ℕ) (part : SpanValue) (b : List Point) → span.height ≡ suc below → part ≡ slot_of span i → AreReady (end_of part) b → AreReady (slot_start below span.start (i + 1)) b
ready-next span below i part b e is ready =
    subst (λ t. AreReady t b) (slot-ends below span.start i part (is ∙ slot-part span below i e)) ready

-- Points before some slot are before the end of all.
pub ready-done : (span : SpanValue) (below i : ℕ) (b : List Point) → span.height ≡ suc below → i ≤ 64 → AreReady (slot_start below span.start i) b → AreReady (end_of span) b
ready-done span below i b e le ready =
    let all = ready-later (slot_start below span.start i) (slot_start below span.start 64) b (slot-order below span.start i 64 le) ready in
    subst (λ t. AreReady t b) (slot-end below span.start ∙ ap (λ g. span.start +ℤ pos (width g)) (sym e)) all

-- A list of no point.
pub no-points : (b : List Point) → length b ≡ 0 → b ≡ []
no-points [] e = refl
no-points (q ∷ b) e = absurd (omega arith)
