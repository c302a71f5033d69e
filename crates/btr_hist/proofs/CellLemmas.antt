-- Lemmas on kernels of aligned windows: their points, the windows that a range meets, and the slots that hold all changed windows.
use Rattle.std.specs.Prelude.{◌≡◌, ℕ, ◌+◌, ◌-◌, ◌*◌, ◌/◌, ◌^◌, ◌≤◌, ◌<◌, max, ℤ, pos, ◌+ℤ◌, ◌-ℤ◌, ◌≤ℤ◌, ◌<ℤ◌, unsigned_abs}
use Rattle.std.specs.Prelude.{Bool, true, false, ◌||◌, nat_le, int_lt, List, [], ◌∷◌, length, map, Some, cond, IsTrue}
use Rattle.std.specs.List.{filter, list_any, AllByRecursion}
use Rattle.std.specs.Ordering.{int_eq}
use Rattle.std.proofs.Common.{refl, sym, ap, ◌∙◌, arith, subst, pow-add}
use Rattle.std.proofs.lemmas.Int.{ints}
use Rattle.std.proofs.lemmas.Bool.{both_ways, or_right}
use Rattle.std.proofs.lemmas.Bool.Decides.{nat_tests}
use Rattle.std.proofs.lemmas.Nat.{pow_pos, div-mul-add}
use Rattle.std.proofs.Math.Nat.{div-div-eq-div-mul, max-le, max-eq_left, max-eq_right, le-max_left, le-max_right}
use Rattle.btr_base.specs.declared.limits.TheConstants.{FIRST}
use Rattle.btr_base.specs.declared.point.Point.{Point}
use Rattle.btr_base.specs.Point.{InDomain, AreInDomain, is_not_after}
use Rattle.btr_base.specs.Range.{RangeValue, IsRange, contains, covered}
use Rattle.btr_base.specs.Bag.{IsInOrder, within, is_within}
use Rattle.btr_base.specs.Agg.{agg}
use Rattle.btr_base.specs.Changes.{points_at, slot_around, changed, changes}
use Rattle.btr_base.specs.Cut.{union}
use Rattle.btr_base.proofs.ListLemmas.{each-weaker, each-both, each-filter, filter-passes}
use Rattle.btr_base.proofs.PointLemmas.{is_not_after-times}
use Rattle.btr_base.proofs.ChangesLemmas.{slot-is, slot-follows, slot-range, changed-domain, changes-cut, changes-covered}
use Rattle.btr_base.proofs.CutLemmas.{union-is}
use Rattle.btr_hist.specs.Kernel.{distinct, WindowKernel, cell_value}
use Rattle.btr_hist.specs.Distil.{DependsOn, points_from, window_start, cell_at, cell_points, whole, looks_by, points_by, widened_by, IsWidened}
use Rattle.btr_hist.specs.declared.kernel.Spec.{Spec}
use Rattle.btr_hist.specs.Laws.{SharesWindow, WindowsAreWhole}
use Rattle.btr_hist.proofs.KernelLemmas.{each-map, each-distinct, distinct_map-length, filter-distinct_map, NotFalling, distinct-rising}
use Rattle.btr_hist.proofs.KernelLemmas.{filter-points_from, points_from-same, each-points_from, points_from-length, points_from-rise, TimesRise}

-- ---- the window around a time

-- The window around a time of the domain begins in the domain, and not after the time.
start-domain : (p : ℕ) (t : ℤ) → InDomain t → InDomain (window_start p t)
start-domain p t h =
    let is = slot-is p t h.0 in
    let time = is.time in
    let from = is.from in
    let begins = is.begins in
    let high = h.1 in
    (omega (arith, ints), omega (arith, ints))

-- The number of the window of an offset, from its bounds.
div-between : (w k v : ℕ) → k * w ≤ v → v < k * w + w → v / w ≡ k
div-between w k v low high =
    let is : k * w + (v - k * w) ≡ v = omega arith in
    ap (λ n. n / w) (sym is) ∙ div-mul-add k w (v - k * w) (omega arith)

-- A time between the bounds of the window around another lies in the same window.
pub start-between : (p : ℕ) (t u : ℤ) → FIRST ≤ℤ t → window_start p t ≤ℤ u → u <ℤ (window_start p t +ℤ pos (2 ^ p)) → window_start p u ≡ window_start p t
start-between p t u low from to =
    let o = unsigned_abs (t -ℤ FIRST) in
    let v = unsigned_abs (u -ℤ FIRST) in
    let begin = (slot-is p t low).from in
    let time = (slot-is p u (omega (arith, ints))).time in
    let same : v / 2 ^ p ≡ o / 2 ^ p = div-between (2 ^ p) (o / 2 ^ p) v (omega (arith, ints)) (omega (arith, ints)) in
    ap (λ n. FIRST +ℤ pos (n * 2 ^ p)) same

-- A time lies between the bounds of its window.
pub record IsInWindow (p : ℕ) (t : ℤ) : Type 0 where
  pub from : window_start p t ≤ℤ t
  pub to : t <ℤ (window_start p t +ℤ pos (2 ^ p))
  pub first : FIRST ≤ℤ window_start p t
  pub end : (slot_around p t).to ≡ window_start p t +ℤ pos (2 ^ p)

pub in-window : (p : ℕ) (t : ℤ) → FIRST ≤ℤ t → IsInWindow p t
in-window p t low =
    let is = slot-is p t low in
    let time = is.time in
    let from = is.from in
    let to = is.to in
    let begins = is.begins in
    let ends = is.ends in
    record { from = omega (arith, ints); to = omega (arith, ints); first = omega (arith, ints); end = omega (arith, ints) }

pub equal-test : (t u : ℤ) → t ≡ u → int_eq t u ≡ true
equal-test t u h = grind (arith, ints)

equal-is : (t u : ℤ) → int_eq t u ≡ true → t ≡ u
equal-is t u h = grind (arith, ints)

within-test : (from to : ℤ) (q : Point) → from ≤ℤ q.time → q.time <ℤ to → is_within from to q ≡ true
within-test from to q low high = grind (arith, ints)

within-is : (from to : ℤ) (q : Point) → is_within from to q ≡ true → (from ≤ℤ q.time) × (q.time <ℤ to)
within-is from to q h = (grind (arith, ints), grind (arith, ints))

pub both-true : (s r : Bool) → (s ≡ true → r ≡ true) → (r ≡ true → s ≡ true) → s ≡ r
both-true true r h k = sym (h refl)
both-true false true h k = k refl
both-true false false h k = refl

-- A point lies between the bounds of the window around a time exactly if its window begins with that one.
same-window : (p : ℕ) (t : ℤ) (q : Point) → FIRST ≤ℤ t → FIRST ≤ℤ q.time → is_within (window_start p t) (window_start p t +ℤ pos (2 ^ p)) q ≡ int_eq (window_start p q.time) (window_start p t)
same-window p t q low other =
    let begin = window_start p t in
    let end = window_start p t +ℤ pos (2 ^ p) in
    both-true (is_within begin end q) (int_eq (window_start p q.time) begin) (λ h.
    let at = within-is begin end q h in
    equal-test (window_start p q.time) begin (start-between p t q.time low at.0 at.1)) (λ h.
    let same = equal-is (window_start p q.time) begin h in
    let in_it = in-window p q.time other in
    let from = in_it.from in
    let to = in_it.to in
    within-test begin end q (omega (arith, ints)) (omega (arith, ints)))

-- ---- the points of a kernel of windows

starts-not_falling : (p : ℕ) (b : List Point) → IsInOrder b → AreInDomain b → NotFalling (map (λ q. window_start p q.time) b)
starts-not_falling p [] h k = tt
starts-not_falling p (q ∷ b) h k =
    let late : AllByRecursion (λ r. window_start p q.time ≤ℤ window_start p r.time) b = each-weaker (λ r. IsTrue (is_not_after q r)) (λ r. window_start p q.time ≤ℤ window_start p r.time) (λ r l. (slot-follows p q.time r.time k.0.0 (is_not_after-times q r l)).0) b h.0 in
    (each-map (λ u. window_start p q.time ≤ℤ u) (λ r. window_start p r.time) b late, starts-not_falling p b h.1 k.1)

pub cells-times : (c : WindowKernel) (b : List Point) → IsInOrder b → AreInDomain b → TimesRise (cell_points c b)
cells-times c b h k =
    points_from-rise (cell_at c b) (distinct (map (λ q. window_start c.p q.time) b)) (distinct-rising (map (λ q. window_start c.p q.time) b) (starts-not_falling c.p b h k))

pub cells-in_domain : (c : WindowKernel) (b : List Point) → AreInDomain b → AreInDomain (cell_points c b)
cells-in_domain c b k =
    let starts = λ (q : Point). window_start c.p q.time in
    each-points_from InDomain (cell_at c b) (distinct (map starts b)) (each-distinct InDomain (map starts b) (each-map InDomain starts b (each-weaker (λ q. InDomain q.time) (λ q. InDomain (starts q)) (λ q h. start-domain c.p q.time h) b k)))

pub cells-length : (c : WindowKernel) (b : List Point) → length (cell_points c b) ≤ length b
cells-length c b =
    let few = points_from-length (cell_at c b) (distinct (map (λ q. window_start c.p q.time) b)) in
    let starts = distinct_map-length (λ (q : Point). window_start c.p q.time) b in
    omega arith

pub filter-each : {X : Type 0} (f g : X → Bool) (xs : List X) → AllByRecursion (λ x. f x ≡ g x) xs → filter f xs ≡ filter g xs
filter-each f g [] h = refl
filter-each f g (x ∷ xs) h =
    ap (λ s. cond s (x ∷ filter f xs) (filter f xs)) h.0 ∙ ap (λ c. cond (g x) (x ∷ c) c) (filter-each f g xs h.1)

-- The points of which the window begins at a time.
abbrev seen : ℕ → ℤ → List Point → List Point
seen p t b = filter (λ q. int_eq (window_start p q.time) t) b

within-seen : (p : ℕ) (t : ℤ) (b : List Point) → FIRST ≤ℤ t → AreInDomain b → within (window_start p t) (window_start p t +ℤ pos (2 ^ p)) b ≡ seen p (window_start p t) b
within-seen p t b low h =
    let begin = window_start p t in
    filter-each (is_within begin (begin +ℤ pos (2 ^ p))) (λ q. int_eq (window_start p q.time) begin) b (each-weaker (λ q. InDomain q.time) (λ q. is_within begin (begin +ℤ pos (2 ^ p)) q ≡ int_eq (window_start p q.time) begin) (λ q k. same-window p t q low k.0) b h)

cell-same : (c : WindowKernel) (t : ℤ) (a b : List Point) → FIRST ≤ℤ t → AreInDomain a → AreInDomain b → seen c.p (window_start c.p t) a ≡ seen c.p (window_start c.p t) b → cell_at c a (window_start c.p t) ≡ cell_at c b (window_start c.p t)
cell-same c t a b low h k same =
    ap (λ l. cell_value c.which (agg l)) (within-seen c.p t a low h ∙ same ∙ sym (within-seen c.p t b low k))

cells-at : (c : WindowKernel) (t : ℤ) (b : List Point) → points_at t (cell_points c b) ≡ points_from (cell_at c b) (distinct (map (λ q. window_start c.p q.time) (seen c.p t b)))
cells-at c t b =
    let starts = λ (q : Point). window_start c.p q.time in
    filter-points_from (cell_at c b) (λ u. int_eq u t) (distinct (map starts b))
    ∙ ap (points_from (cell_at c b)) (filter-distinct_map (λ u. int_eq u t) starts b)

-- The points at a time depend on the points of the window that begins at it.
pub cells-depend : (c : WindowKernel) (spec : Spec) → DependsOn (looks_by (Some c) spec.lead) (points_by (Some c) spec)
cells-depend c spec t i j h k first second =
    let starts = λ (q : Point). window_start c.p q.time in
    let a = i.first in
    let b = j.first in
    let same : seen c.p t a ≡ seen c.p t b = first in
    let domain = each-filter (λ q. InDomain q.time) (λ q. int_eq (starts q) t) b k.first_in_domain in
    let both = each-both (λ q. InDomain q.time) (λ q. int_eq (starts q) t ≡ true) (seen c.p t b) domain (filter-passes (λ q. int_eq (starts q) t) b) in
    let each = each-weaker (λ q. InDomain q.time × (int_eq (starts q) t ≡ true)) (λ q. cell_at c a (starts q) ≡ cell_at c b (starts q)) (λ q m.
    cell-same c q.time a b m.0.0 h.first_in_domain k.first_in_domain (subst (λ u. seen c.p u a ≡ seen c.p u b) (sym (equal-is (starts q) t m.1)) same)) (seen c.p t b) both in
    let agree = each-distinct (λ u. cell_at c a u ≡ cell_at c b u) (map starts (seen c.p t b)) (each-map (λ u. cell_at c a u ≡ cell_at c b u) starts (seen c.p t b) each) in
    cells-at c t a
    ∙ ap (λ l. points_from (cell_at c a) (distinct (map starts l))) same
    ∙ points_from-same (cell_at c a) (cell_at c b) (distinct (map starts (seen c.p t b))) agree
    ∙ sym (cells-at c t b)

-- ---- the windows that a range meets

contains-is : (r : RangeValue) (t : ℤ) → contains r t ≡ true → (r.from ≤ℤ t) × (t <ℤ r.to)
contains-is r t h = (grind (arith, ints), grind (arith, ints))

contains-test : (r : RangeValue) (t : ℤ) → r.from ≤ℤ t → t <ℤ r.to → contains r t ≡ true
contains-test r t low high = grind (arith, ints)

pub whole-is_range : (p : ℕ) (r : RangeValue) → p ≤ 62 → IsRange r → IsRange (whole p r)
whole-is_range p r low is =
    let begins = is.begins in
    let some = is.not_empty in
    let ends = is.ends in
    let first = in-window p r.from begins in
    let last = in-window p (r.to -ℤ pos 1) (omega (arith, ints)) in
    let range = slot-range p (r.to -ℤ pos 1) low (omega (arith, ints), omega (arith, ints)) in
    let early = first.from in
    let late = last.to in
    let end = last.end in
    record { begins = first.first; not_empty = omega (arith, ints); ends = range.ends }

-- A time shares its window with a time of the range, if it lies in one of the windows that the range meets.
whole-shares : (p : ℕ) (r : RangeValue) (t : ℤ) → IsRange r → contains (whole p r) t ≡ true → SharesWindow p r t
whole-shares p r t is inside =
    let begins = is.begins in
    let some = is.not_empty in
    let bounds = contains-is (whole p r) t inside in
    let low = bounds.0 in
    let high = bounds.1 in
    let first = in-window p r.from begins in
    let last = in-window p (r.to -ℤ pos 1) (omega (arith, ints)) in
    let early = first.to in
    let late = last.from in
    let end = last.end in
    elim (int_lt t r.from) as (λ s. int_lt t r.from ≡ s → SharesWindow p r t) [
      | true ↦ λ e.
          let before : t <ℤ r.from = grind (arith, ints) in
          record {
            time = r.from;
            inside = contains-test r r.from (omega (arith, ints)) some;
            same = sym (start-between p r.from t begins low (omega (arith, ints)));
          }
      | false ↦ λ e.
          let from : r.from ≤ℤ t = grind (arith, ints) in
          elim (int_lt t r.to) as (λ s. int_lt t r.to ≡ s → SharesWindow p r t) [
            | true ↦ λ f. record { time = t; inside = contains-test r t from (grind (arith, ints)); same = refl }
            | false ↦ λ f.
                let after : r.to ≤ℤ t = grind (arith, ints) in
                record {
                  time = r.to -ℤ pos 1;
                  inside = contains-test r (r.to -ℤ pos 1) (omega (arith, ints)) (omega (arith, ints));
                  same = sym (start-between p (r.to -ℤ pos 1) t (omega (arith, ints)) (omega (arith, ints)) (omega (arith, ints)));
                }
          ] refl
    ] refl

shares-whole : (p : ℕ) (r : RangeValue) (t : ℤ) → IsRange r → FIRST ≤ℤ t → SharesWindow p r t → contains (whole p r) t ≡ true
shares-whole p r t is low shares =
    let begins = is.begins in
    let u = shares.time in
    let bounds = contains-is r u shares.inside in
    let from = bounds.0 in
    let to = bounds.1 in
    let same = shares.same in
    let here = in-window p t low in
    let there = in-window p u (omega (arith, ints)) in
    let first = (slot-follows p r.from u begins from).0 in
    let last = (slot-follows p u (r.to -ℤ pos 1) (omega (arith, ints)) (omega (arith, ints))).1 in
    let early = here.from in
    let late = here.to in
    let end = there.end in
    contains-test (whole p r) t (omega (arith, ints)) (omega (arith, ints))

pub windows-whole : WindowsAreWhole
windows-whole p r t low is inside = (whole-shares p r t is, shares-whole p r t is inside.0)

pub whole-widened : (c : WindowKernel) (lead : ℕ) → c.p ≤ 62 → IsWidened (looks_by (Some c) lead) (widened_by (Some c) lead)
whole-widened c lead low = record {
  is_range = λ r is. whole-is_range c.p r low is;
  contained = λ r t u is inside seen domain.
      let at = equal-is (window_start c.p u) t seen in
      let bounds = contains-is r u inside in
      let from = bounds.0 in
      let begins = is.begins in
      let there = in-window c.p u (omega (arith, ints)) in
      let early = there.from in
      let late = there.to in
      let again = start-between c.p u t (omega (arith, ints)) (omega (arith, ints)) (omega (arith, ints)) in
      shares-whole c.p r t is domain.0 (record { time = u; inside = inside; same = sym again });
}

-- ---- the slots that hold all changed windows

-- Two times of one slot lie in one window, if windows are not narrower than slots.
start-wider : (g p : ℕ) (t u : ℤ) → g ≤ p → FIRST ≤ℤ t → FIRST ≤ℤ u → window_start g u ≡ window_start g t → window_start p u ≡ window_start p t
start-wider g p t u wider low other same =
    let o = unsigned_abs (t -ℤ FIRST) in
    let v = unsigned_abs (u -ℤ FIRST) in
    let w = 2 ^ g in
    let some = pow_pos g in
    let times : v / w * w ≡ o / w * w = omega (arith, ints) in
    let number : v / w ≡ o / w = sym (div-mul-add (v / w) w 0 some) ∙ ap (λ n. (n + 0) / w) times ∙ div-mul-add (o / w) w 0 some in
    let e : g + (p - g) ≡ p = omega arith in
    let split : 2 ^ p ≡ w * 2 ^ (p - g) = ap (λ n. 2 ^ n) (sym e) ∙ pow-add 2 g (p - g) in
    let coarse : v / 2 ^ p ≡ o / 2 ^ p = ap (λ n. v / n) split ∙ sym (div-div-eq-div-mul v w (2 ^ (p - g))) ∙ ap (λ n. n / 2 ^ (p - g)) number ∙ div-div-eq-div-mul o w (2 ^ (p - g)) ∙ sym (ap (λ n. o / n) split) in
    ap (λ n. FIRST +ℤ pos (n * 2 ^ p)) coarse

-- A slot around a point contains a time exactly if both lie in one slot.
slot-test : (p : ℕ) (q : Point) (t : ℤ) → FIRST ≤ℤ q.time → FIRST ≤ℤ t → contains (slot_around p q.time) t ≡ int_eq (window_start p t) (window_start p q.time)
slot-test p q t low other =
    let end = (in-window p q.time low).end in
    ap (λ e. contains (record { from = window_start p q.time; to = e }) t) end ∙ same-window p q.time (record { time = t; value = pos 0 }) low other

-- One of the points lies in the slot around a time.
abbrev marked : ℕ → List Point → ℤ → Bool
marked p ps t = list_any (λ q. contains (slot_around p q.time) t) ps

-- The slots hold a time, if those of narrower slots hold one in the same slot.
marked-wider : (g p : ℕ) (ps : List Point) (t u : ℤ) → g ≤ p → AreInDomain ps → FIRST ≤ℤ t → FIRST ≤ℤ u → window_start p u ≡ window_start p t → marked g ps u ≡ true → marked p ps t ≡ true
marked-wider g p [] t u wider h low other same there = absurd (both_ways false refl there)
marked-wider g p (q ∷ ps) t u wider h low other same there =
    let first = slot-test g q u h.0.0 other in
    elim (contains (slot_around g q.time) u) as (λ s. contains (slot_around g q.time) u ≡ s → marked p (q ∷ ps) t ≡ true) [
      | true ↦ λ e.
          let near = equal-is (window_start g u) (window_start g q.time) (sym first ∙ e) in
          let wide = start-wider g p q.time u wider h.0.0 other near in
          ap (λ s. s || marked p ps t) (slot-test p q t h.0.0 low ∙ equal-test (window_start p t) (window_start p q.time) (sym same ∙ wide))
      | false ↦ λ e.
          let rest = marked-wider g p ps t u wider h.1 low other same (sym (ap (λ s. s || marked g ps u) e) ∙ there) in
          or_right (contains (slot_around p q.time) t) (marked p ps t) rest
    ] refl

-- A time of the domain that narrower slots hold, in the same window as another time.
record IsMarked (g p : ℕ) (ps : List Point) (t : ℤ) : Type 0 where
  time : ℤ
  in_domain : InDomain time
  holds : marked g ps time ≡ true
  same : window_start p time ≡ window_start p t

-- If the slots hold a time, they hold that of a point, which narrower slots hold too.
marked-point : (g p : ℕ) (ps : List Point) (t : ℤ) → AreInDomain ps → FIRST ≤ℤ t → marked p ps t ≡ true → IsMarked g p ps t
marked-point g p [] t h low there = absurd (both_ways false refl there)
marked-point g p (q ∷ ps) t h low there =
    let first = slot-test p q t h.0.0 low in
    elim (contains (slot_around p q.time) t) as (λ s. contains (slot_around p q.time) t ≡ s → IsMarked g p (q ∷ ps) t) [
      | true ↦ λ e. record {
        time = q.time;
        in_domain = h.0;
        holds = ap (λ s. s || marked g ps q.time) (slot-test g q q.time h.0.0 h.0.0 ∙ equal-test (window_start g q.time) (window_start g q.time) refl);
        same = sym (equal-is (window_start p t) (window_start p q.time) (sym first ∙ e));
      }
      | false ↦ λ e.
          let rest = marked-point g p ps t h.1 low (sym (ap (λ s. s || marked p ps t) e) ∙ there) in
          record {
            time = rest.time;
            in_domain = rest.in_domain;
            holds = or_right (contains (slot_around g q.time) rest.time) (marked g ps rest.time) rest.holds;
            same = rest.same;
          }
    ] refl

-- A time of ranges that shares its window with another time.
record SharesAny (p : ℕ) (rs : List RangeValue) (t : ℤ) : Type 0 where
  time : ℤ
  in_domain : InDomain time
  holds : covered rs time ≡ true
  same : window_start p time ≡ window_start p t

range-domain : (r : RangeValue) (t : ℤ) → IsRange r → contains r t ≡ true → InDomain t
range-domain r t is h =
    let at = contains-is r t h in
    let low = at.0 in
    let high = at.1 in
    let begins = is.begins in
    let ends = is.ends in
    (omega (arith, ints), omega (arith, ints))

covered-domain : (rs : List RangeValue) (t : ℤ) → AllByRecursion IsRange rs → covered rs t ≡ true → InDomain t
covered-domain [] t h there = absurd (both_ways false refl there)
covered-domain (r ∷ rs) t h there =
    elim (contains r t) as (λ s. contains r t ≡ s → InDomain t) [
      | true ↦ λ e. range-domain r t h.0 e
      | false ↦ λ e. covered-domain rs t h.1 (sym (ap (λ s. s || covered rs t) e) ∙ there)
    ] refl

covered-shares : (p : ℕ) (rs : List RangeValue) (t : ℤ) → AllByRecursion IsRange rs → covered (map (whole p) rs) t ≡ true → SharesAny p rs t
covered-shares p [] t h there = absurd (both_ways false refl there)
covered-shares p (r ∷ rs) t h there =
    elim (contains (whole p r) t) as (λ s. contains (whole p r) t ≡ s → SharesAny p (r ∷ rs) t) [
      | true ↦ λ e.
          let shares = whole-shares p r t h.0 e in
          record {
            time = shares.time;
            in_domain = range-domain r shares.time h.0 shares.inside;
            holds = ap (λ s. s || covered rs shares.time) shares.inside;
            same = shares.same;
          }
      | false ↦ λ e.
          let rest = covered-shares p rs t h.1 (sym (ap (λ s. s || covered (map (whole p) rs) t) e) ∙ there) in
          record {
            time = rest.time;
            in_domain = rest.in_domain;
            holds = or_right (contains r rest.time) (covered rs rest.time) rest.holds;
            same = rest.same;
          }
    ] refl

shares-covered : (p : ℕ) (rs : List RangeValue) (t u : ℤ) → AllByRecursion IsRange rs → FIRST ≤ℤ t → covered rs u ≡ true → window_start p u ≡ window_start p t → covered (map (whole p) rs) t ≡ true
shares-covered p [] t u h low there same = absurd (both_ways false refl there)
shares-covered p (r ∷ rs) t u h low there same =
    elim (contains r u) as (λ s. contains r u ≡ s → covered (map (whole p) (r ∷ rs)) t ≡ true) [
      | true ↦ λ e.
          ap (λ s. s || covered (map (whole p) rs) t) (shares-whole p r t h.0 low (record { time = u; inside = e; same = same }))
      | false ↦ λ e.
          or_right (contains (whole p r) t) (covered (map (whole p) rs) t) (shares-covered p rs t u h.1 low (sym (ap (λ s. s || covered rs u) e) ∙ there) same)
    ] refl

pub whole-each : (p : ℕ) (rs : List RangeValue) → p ≤ 62 → AllByRecursion IsRange rs → AllByRecursion IsRange (map (whole p) rs)
whole-each p [] low h = tt
whole-each p (r ∷ rs) low h = (whole-is_range p r low h.0, whole-each p rs low h.1)

module _ (g p : ℕ) (a b : List Point) (fine : g ≤ 62) (low : p ≤ 62) where
  abbrev wide : ℕ
  wide = max g p

  wide-low : wide ≤ 62
  wide-low = max-le fine low

  abbrev slots : List RangeValue
  slots = changes g a b

  each-slot : AllByRecursion IsRange slots
  each-slot = (changes-cut g a b fine).each

  covered-wide : (t : ℤ) → covered (changes wide a b) t ≡ true → covered (map (whole p) slots) t ≡ true
  covered-wide t h =
      let domain = covered-domain (changes wide a b) t (changes-cut wide a b wide-low).each h in
      let point = marked-point g wide (changed a b) t (changed-domain a b) domain.0 (sym (changes-covered wide a b t wide-low) ∙ h) in
      elim (nat_le g p) as (λ s. nat_le g p ≡ s → covered (map (whole p) slots) t ≡ true) [
        | true ↦ λ e.
            let is : wide ≡ p = max-eq_right (grind (arith, nat_tests)) in
            shares-covered p slots t point.time each-slot domain.0 (changes-covered g a b point.time fine ∙ point.holds) (subst (λ n. window_start n point.time ≡ window_start n t) is point.same)
        | false ↦ λ e.
            let is : wide ≡ g = max-eq_left (grind (arith, nat_tests)) in
            shares-covered p slots t t each-slot domain.0 (subst (λ n. covered (changes n a b) t ≡ true) is h) refl
      ] refl

  wide-covered : (t : ℤ) → covered (map (whole p) slots) t ≡ true → covered (changes wide a b) t ≡ true
  wide-covered t h =
      let domain = covered-domain (map (whole p) slots) t (whole-each p slots low each-slot) h in
      let shares = covered-shares p slots t each-slot h in
      let same = start-wider p wide t shares.time (le-max_right g p) domain.0 shares.in_domain.0 shares.same in
      changes-covered wide a b t wide-low
      ∙ marked-wider g wide (changed a b) t shares.time (le-max_left g p) (changed-domain a b) domain.0 shares.in_domain.0 same (sym (changes-covered g a b shares.time fine) ∙ shares.holds)

  -- The windows that the changed slots meet are the changed slots of the wider of the two widths.
  pub whole-changes : changes wide a b ≡ union (map (whole p) slots)
  whole-changes =
      union-is (changes wide a b) (map (whole p) slots) (changes-cut wide a b wide-low) (whole-each p slots low each-slot) (λ t. both-true (covered (changes wide a b) t) (covered (map (whole p) slots) t) (covered-wide t) (wide-covered t))
