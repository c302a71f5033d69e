-- Lemmas on points and aggregates of windows that are added to the windows so far.
use Rattle.std.specs.Prelude.{◌≡◌, ℕ, ◌+◌, ◌<◌, ◌≤◌, ℤ, Bool, true, false, List, [], ◌∷◌, ◌++◌, length, cond}
use Rattle.std.specs.Ordering.{int_eq}
use Rattle.std.specs.List.{AllByRecursion}
use Rattle.std.proofs.Common.{suc, refl, sym, ap, ◌∙◌, arith, subst, get_or, take, set, append_assoc, length-append}
use Rattle.std.proofs.lemmas.List.{set_split, take_more, take_all, drop_all}
use Rattle.std.proofs.lemmas.Int.{ints}
use Rattle.btr_base.specs.declared.point.Point.{Point}
use Rattle.btr_base.specs.declared.cell.Cell.{Cell}
use Rattle.btr_base.specs.Bag.{within, is_within}
use Rattle.btr_base.proofs.WithinLemmas.{within-append}
use Rattle.btr_base.proofs.ListLemmas.{length-filter}
use Rattle.btr_base.specs.Agg.{AggValue, joined, one_point, agg}
use Rattle.btr_base.proofs.AggLemmas.{joined-assoc, none-joined}
use Rattle.btr_base.specs.Windows.{begin_of}
use Rattle.btr_window.specs.Accumulate.{add_part, add_points, counted}

pub same-eq : (a b : ℤ) → a ≡ b → int_eq a b ≡ true
same-eq a b e = grind (arith, ints)

-- A window that starts at `start`, and the aggregate of its points.
abbrev pub cell : ℤ → AggValue → Cell
cell start agg = record { start = start; agg = agg }

-- The last window after an aggregate is added, and the window that follows it, if any.
abbrev pub with_last : Cell → ℤ → AggValue → List Cell
with_last c start agg =
    cond (int_eq c.start start) (cell c.start (joined c.agg agg) ∷ []) (c ∷ cell start agg ∷ [])

-- ---- The last window.

pub add_part-behind : (c : Cell) (prefix : List Cell) (start : ℤ) (a : AggValue) → add_part (prefix ++ c ∷ []) start a ≡ prefix ++ with_last c start a
add_part-behind c [] start a = refl
add_part-behind c (f ∷ []) start a = refl
add_part-behind c (f ∷ g ∷ prefix) start a = ap (λ x. f ∷ x) (add_part-behind c (g ∷ prefix) start a)

-- ---- How many points.

counted-last : (c : Cell) (start : ℤ) (a : AggValue) → counted (with_last c start a) ≡ c.agg.count + a.count
counted-last c start a =
    elim (int_eq c.start start) as (λ t. counted (cond t (cell c.start (joined c.agg a) ∷ []) (c ∷ cell start a ∷ [])) ≡ c.agg.count + a.count) [
      | true ↦ omega arith
      | false ↦ omega arith
    ]

pub counted-part : (cs : List Cell) (start : ℤ) (a : AggValue) → counted (add_part cs start a) ≡ counted cs + a.count
counted-part [] start a = omega arith
counted-part (c ∷ []) start a = counted-last c start a ∙ omega arith
counted-part (c ∷ d ∷ cs) start a = omega (arith, counted-part (d ∷ cs) start a)

pub counted-points : (first : ℤ) (width : ℕ) (cs : List Cell) (ps : List Point) → counted (add_points first width cs ps) ≡ counted cs + length ps
counted-points first width cs [] = omega arith
counted-points first width cs (p ∷ ps) =
    omega (arith, counted-points first width (add_part cs (begin_of first width p.time) (one_point p.value)) ps, counted-part cs (begin_of first width p.time) (one_point p.value))

counted-behind : (prefix : List Cell) (c : Cell) → c.agg.count ≤ counted (prefix ++ c ∷ [])
counted-behind [] c = omega arith
counted-behind (f ∷ prefix) c = let rest = counted-behind prefix c in omega arith

-- ---- The last window, by its place.

module _ (cs : List Cell) (n : ℕ) (is_last : n + 1 ≡ length cs) (last : Cell) (is : last ≡ get_or cs n last) where
  split-last : cs ≡ take n cs ++ last ∷ []
  split-last =
      sym (take_all (n + 1) cs (omega arith)) ∙ take_more cs n last (omega arith) ∙ ap (λ c. take n cs ++ c ∷ []) (sym is)

  pub counted-last_of : last.agg.count ≤ counted cs
  counted-last_of = subst (λ x. last.agg.count ≤ counted x) (sym split-last) (counted-behind (take n cs) last)

  part-last : (start : ℤ) (a : AggValue) (t : Bool) → int_eq last.start start ≡ t → add_part cs start a ≡ take n cs ++ cond t (cell last.start (joined last.agg a) ∷ []) (last ∷ cell start a ∷ [])
  part-last start a t e =
      ap (λ x. add_part x start a) split-last
      ∙ add_part-behind last (take n cs) start a
      ∙ ap (λ u. take n cs ++ cond u (cell last.start (joined last.agg a) ∷ []) (last ∷ cell start a ∷ [])) e

  -- Points of the last window join it.
  pub joins-last : (start : ℤ) (a b : AggValue) → last.start ≡ start → b ≡ joined last.agg a → set cs n (cell last.start b) ≡ add_part cs start a
  joins-last start a b same e =
      set_split cs n (cell last.start b) (omega arith)
      ∙ ap (λ c. take n cs ++ cell last.start b ∷ c) (drop_all (suc n) cs (omega arith))
      ∙ ap (λ s. take n cs ++ cell last.start s ∷ []) e
      ∙ sym (part-last start a true (same-eq last.start start same))

  -- Points of another window follow it.
  pub behind-last : (start : ℤ) (a : AggValue) → int_eq last.start start ≡ false → add_part cs start a ≡ cs ++ cell start a ∷ []
  behind-last start a other =
      part-last start a false other
      ∙ sym (append_assoc (take n cs) (last ∷ []) (cell start a ∷ []))
      ∙ ap (λ c. c ++ cell start a ∷ []) (sym split-last)

-- ---- Parts of one window.

pub add_points-append : (first : ℤ) (width : ℕ) (cs : List Cell) (a b : List Point) → add_points first width cs (a ++ b) ≡ add_points first width (add_points first width cs a) b
add_points-append first width cs [] b = refl
add_points-append first width cs (p ∷ a) b =
    add_points-append first width (add_part cs (begin_of first width p.time) (one_point p.value)) a b

last-twice : (c : Cell) (start : ℤ) (a b : AggValue) → add_part (with_last c start a) start b ≡ with_last c start (joined a b)
last-twice c start a b =
    elim (int_eq c.start start) as (λ t. int_eq c.start start ≡ t → add_part (cond t (cell c.start (joined c.agg a) ∷ []) (c ∷ cell start a ∷ [])) start b ≡ cond t (cell c.start (joined c.agg (joined a b)) ∷ []) (c ∷ cell start (joined a b) ∷ [])) [
      | true ↦ λ e.
          ap (λ t. cond t (cell c.start (joined (joined c.agg a) b) ∷ []) (cell c.start (joined c.agg a) ∷ cell start b ∷ [])) e
          ∙ ap (λ s. cell c.start s ∷ []) (joined-assoc c.agg a b)
      | false ↦ λ e.
          ap (λ t. c ∷ cond t (cell start (joined a b) ∷ []) (cell start a ∷ cell start b ∷ [])) (same-eq start start refl)
    ] refl

add_part-prefix : (c d : Cell) (cs : List Cell) (start : ℤ) (a : AggValue) (start' : ℤ) (b : AggValue) → add_part (c ∷ add_part (d ∷ cs) start a) start' b ≡ c ∷ add_part (add_part (d ∷ cs) start a) start' b
add_part-prefix c d [] start a start' b =
    elim (int_eq d.start start) as (λ t. add_part (c ∷ cond t (cell d.start (joined d.agg a) ∷ []) (d ∷ cell start a ∷ [])) start' b ≡ c ∷ add_part (cond t (cell d.start (joined d.agg a) ∷ []) (d ∷ cell start a ∷ [])) start' b) [
      | true ↦ refl
      | false ↦ refl
    ]
add_part-prefix c d (e ∷ cs) start a start' b = refl

pub add_part-twice : (cs : List Cell) (start : ℤ) (a b : AggValue) → add_part (add_part cs start a) start b ≡ add_part cs start (joined a b)
add_part-twice [] start a b =
    ap (λ t. cond t (cell start (joined a b) ∷ []) (cell start a ∷ cell start b ∷ [])) (same-eq start start refl)
add_part-twice (c ∷ []) start a b = last-twice c start a b
add_part-twice (c ∷ d ∷ cs) start a b =
    add_part-prefix c d cs start a start b ∙ ap (λ x. c ∷ x) (add_part-twice (d ∷ cs) start a b)

-- Adding points of one window, one by one, adds their aggregate.
pub add_points-part : (first : ℤ) (width : ℕ) (cs : List Cell) (ps : List Point) (start : ℤ) → 0 < length ps → AllByRecursion (λ p. begin_of first width p.time ≡ start) ps → add_points first width cs ps ≡ add_part cs start (agg ps)
add_points-part first width cs [] start some h = absurd (omega arith)
add_points-part first width cs (p ∷ []) start some h =
    ap (λ s. add_part cs s (one_point p.value)) h.0 ∙ ap (add_part cs start) (sym (none-joined (one_point p.value)))
add_points-part first width cs (p ∷ q ∷ ps) start some h =
    ap (λ s. add_points first width (add_part cs s (one_point p.value)) (q ∷ ps)) h.0
    ∙ add_points-part first width (add_part cs start (one_point p.value)) (q ∷ ps) start (omega arith) h.1
    ∙ add_part-twice cs start (one_point p.value) (agg (q ∷ ps))

-- The windows before the last one stay unchanged.
part-longer : (d : Cell) (cs : List Cell) (start : ℤ) (a : AggValue) → 0 < length (add_part (d ∷ cs) start a)
part-longer d [] start a =
    elim (int_eq d.start start) as (λ t. 0 < length (cond t (cell d.start (joined d.agg a) ∷ []) (d ∷ cell start a ∷ []))) [
      | true ↦ omega arith
      | false ↦ omega arith
    ]
part-longer d (e ∷ cs) start a = omega arith

pub add_points-prefix : (first : ℤ) (width : ℕ) (c : Cell) (ps : List Point) (cs : List Cell) → 0 < length cs → add_points first width (c ∷ cs) ps ≡ c ∷ add_points first width cs ps
add_points-prefix first width c [] cs some = refl
add_points-prefix first width c (p ∷ ps) [] some = absurd (omega arith)
add_points-prefix first width c (p ∷ ps) (d ∷ cs) some =
    add_points-prefix first width c ps (add_part (d ∷ cs) (begin_of first width p.time) (one_point p.value)) (part-longer d cs (begin_of first width p.time) (one_point p.value))

-- ---- The points of a range, slot by slot.

pub points-more : (first : ℤ) (width : ℕ) (from to : ℤ) (old mid new : List Cell) (before here next : List Point) → next ≡ before ++ here → mid ≡ add_points first width old (within from to before) → new ≡ add_points first width mid (within from to here) → new ≡ add_points first width old (within from to next)
points-more first width from to old mid new before here next e p q =
    q
    ∙ ap (λ cs. add_points first width cs (within from to here)) p
    ∙ sym (add_points-append first width old (within from to before) (within from to here))
    ∙ sym (ap (add_points first width old) (ap (within from to) e ∙ within-append from to before here))

pub room-more : (first : ℤ) (width : ℕ) (from to : ℤ) (old mid : List Cell) (before here next : List Point) → next ≡ before ++ here → mid ≡ add_points first width old (within from to before) → length here + counted mid ≤ length next + counted old
room-more first width from to old mid before here next e p =
    omega (arith, ap counted p, counted-points first width old (within from to before), length-filter (is_within from to) before, ap (length {A = Point}) e, length-append before here)
