-- The places of the lines of each lane: no line is in two lanes. Sums over lanes.
use Rattle.std.specs.Prelude.{◌≡◌, ℕ, ◌+◌, ◌<◌, ◌≤◌, ◌==◌, Bool, true, false, List, [], ◌∷◌, length, map, slice_get, slice_index_or, cond, Option, Some}
use Rattle.std.proofs.Common.{zero, suc, refl, ap, ◌∙◌, arith, inl, inr}
use Rattle.std.proofs.lemmas.Bool.{cases_eq, eqb-true, ne_eqb}
use Rattle.btr_gate.specs.Numbers.{total, times}
use Rattle.btr_gate.proofs.NumberLemmas.{one_same, one_other}
use Rattle.btr_text.specs.declared.script.Line.{Line}
use Rattle.btr_text.specs.declared.script.ScriptLine.{ScriptLine}
use Rattle.btr_live.specs.OneHistory.{of_lane, lanes_of, lane_lines}

-- ---- sums over the first lanes

abbrev pub sum_to : (ℕ → ℕ) → ℕ → ℕ
sum_to f zero = 0
sum_to f (suc k) = f 0 + sum_to (λ j. f (suc j)) k

pub sum_least : (f g : ℕ → ℕ) → ((j : ℕ) → f j ≤ g j) → (k : ℕ) → sum_to f k ≤ sum_to g k
sum_least f g least zero = omega arith
sum_least f g least (suc k) =
    let here = least 0 in
    let rest = sum_least (λ j. f (suc j)) (λ j. g (suc j)) (λ j. least (suc j)) k in
    omega (arith, here, rest)

-- There is as much more in the sum as at one place.
pub sum_more : (f g : ℕ → ℕ) (x k i : ℕ) → i < k → x + f i ≤ g i → ((j : ℕ) → f j ≤ g j) → x + sum_to f k ≤ sum_to g k
sum_more f g x zero i inside more least = absurd (omega (arith, inside))
sum_more f g x (suc k) zero inside more least =
    let rest = sum_least (λ j. f (suc j)) (λ j. g (suc j)) (λ j. least (suc j)) k in
    omega (arith, more, rest)
sum_more f g x (suc k) (suc i) inside more least =
    let here = least 0 in
    let rest = sum_more (λ j. f (suc j)) (λ j. g (suc j)) x k i (omega (arith, inside)) more (λ j. least (suc j)) in
    omega (arith, here, rest)

pub sum_none : (f : ℕ → ℕ) → ((j : ℕ) → f j ≡ 0) → (k : ℕ) → sum_to f k ≡ 0
sum_none f none zero = refl
sum_none f none (suc k) =
    let here = none 0 in
    let rest = sum_none (λ j. f (suc j)) (λ j. none (suc j)) k in
    omega (arith, here, rest)

pub sum_same : (f g : ℕ → ℕ) → ((j : ℕ) → f j ≡ g j) → (k : ℕ) → sum_to f k ≡ sum_to g k
sum_same f g same zero = refl
sum_same f g same (suc k) =
    let here = same 0 in
    let rest = sum_same (λ j. f (suc j)) (λ j. g (suc j)) (λ j. same (suc j)) k in
    omega (arith, here, rest)

pub sum_both : (f g h : ℕ → ℕ) → ((j : ℕ) → f j ≡ g j + h j) → (k : ℕ) → sum_to f k ≡ sum_to g k + sum_to h k
sum_both f g h sum zero = refl
sum_both f g h sum (suc k) =
    let here = sum 0 in
    let rest = sum_both (λ j. f (suc j)) (λ j. g (suc j)) (λ j. h (suc j)) (λ j. sum (suc j)) k in
    omega (arith, here, rest)

-- Something at one place alone.
pub sum_one : (f : ℕ → ℕ) (at most k : ℕ) → f at ≤ most → ((j : ℕ) → (at ≡ j → ⊥) → f j ≡ 0) → sum_to f k ≤ most
sum_one f at most zero here other = omega arith
sum_one f zero most (suc k) here other =
    let rest = sum_none (λ j. f (suc j)) (λ j. other (suc j) (λ same. absurd (omega (arith, same)))) k in
    omega (arith, here, rest)
sum_one f (suc at) most (suc k) here other =
    let first = other 0 (λ same. absurd (omega (arith, same))) in
    let rest = sum_one (λ j. f (suc j)) at most k here (λ j differs. other (suc j) (λ same. differs (omega (arith, same)))) in
    omega (arith, first, rest)

-- The sum over lists, which have the numbers from 0 on.
pub sum_lists : (f : List ℕ → ℕ) → f [] ≡ 0 → (lists : List (List ℕ)) (k : ℕ) → length lists ≤ k → sum_to (λ j. f (slice_index_or lists j [])) k ≡ total f lists
sum_lists f none [] k long = sum_none (λ j. f (slice_index_or [] j [])) (λ j. none) k
sum_lists f none (l ∷ lists) zero long = absurd (omega (arith, long))
sum_lists f none (l ∷ lists) (suc k) long =
    let rest = sum_lists f none lists k (omega (arith, long)) in
    omega (arith, rest)

-- What is in the lanes is in all items together.
pub sum_lanes : (f : ℕ → ℕ) (lanes items : List ℕ) (k : ℕ) → sum_to (λ j. total f (of_lane j lanes items)) k ≤ total f items
sum_lanes f [] items k =
    let none = sum_none (λ j. total f (of_lane j [] items)) (λ j. refl) k in
    omega (arith, none)
sum_lanes f (lane ∷ lanes) [] k =
    let none = sum_none (λ j. total f (of_lane j (lane ∷ lanes) [])) (λ j. refl) k in
    omega (arith, none)
sum_lanes f (lane ∷ lanes) (n ∷ items) k =
    let here : ℕ → ℕ = λ j. cond (lane == j) (f n) 0 in
    let sum = sum_both (λ j. total f (of_lane j (lane ∷ lanes) (n ∷ items))) here (λ j. total f (of_lane j lanes items)) (λ j. picked (lane == j) (of_lane j lanes items)) k in
    let first = sum_one here lane (f n) k (most (lane == lane)) (λ j differs. ap (λ b. cond b (f n) 0) (ne_eqb lane j differs)) in
    let rest = sum_lanes f lanes items k in
    omega (arith, sum, first, rest)
  where
    picked : (b : Bool) (more : List ℕ) → total f (cond b (n ∷ more) more) ≡ cond b (f n) 0 + total f more
    picked true more = refl
    picked false more = omega arith

    most : (b : Bool) → cond b (f n) 0 ≤ f n
    most true = omega arith
    most false = omega arith

-- ---- places

-- The places of lines, from this one on.
abbrev pub places_from : ℕ → List ScriptLine → List ℕ
places_from place [] = []
places_from place (line ∷ script) = place ∷ places_from (suc place) script

places_above : (k place : ℕ) (script : List ScriptLine) → k < place → times k (places_from place script) ≡ 0
places_above k place [] below = refl
places_above k place (line ∷ script) below =
    let other = one_other place k (λ same. absurd (omega (arith, same, below))) in
    let rest = places_above k (suc place) script (omega (arith, below)) in
    omega (arith, other, rest)

pub places_once : (k place : ℕ) (script : List ScriptLine) → times k (places_from place script) ≤ 1
places_once k place [] = omega arith
places_once k place (line ∷ script) =
    elim (cases_eq place k) [
      | inl same ↦
          let here = one_same place k same in
          let rest = places_above k (suc place) script (omega (arith, same)) in
          omega (arith, here, rest)
      | inr differs ↦
          let here = one_other place k differs in
          let rest = places_once k (suc place) script in
          omega (arith, here, rest)
    ]

-- The places of the lines of each lane.
abbrev pub places_of : ℕ → List ScriptLine → List ℕ
places_of k script = of_lane k (lanes_of script) (places_from 0 script)

-- The lines of a lane stand at these places of the script.
abbrev pub AtPlaces : List ScriptLine → ℕ → List ℕ → List (Option Line) → Type 0
AtPlaces script lane [] [] = Unit {0}
AtPlaces script lane [] (line ∷ lines) = ⊥
AtPlaces script lane (place ∷ places) [] = ⊥
AtPlaces script lane (place ∷ places) (line ∷ lines) =
    (slice_get script place ≡ Some (record { lane = lane; line = line })) × AtPlaces script lane places lines

module _ (script : List ScriptLine) (k : ℕ) where
  at_from : (place : ℕ) (ls : List ScriptLine) → ((n : ℕ) → slice_get script (place + n) ≡ slice_get ls n) → AtPlaces script k (of_lane k (lanes_of ls) (places_from place ls)) (of_lane k (lanes_of ls) (map (λ (line : ScriptLine). line.line) ls))
  at_from place [] same = tt
  at_from place (line ∷ ls) same =
      let rest = at_from (suc place) ls (λ n. ap (λ m. slice_get script m) (let e : suc place + n ≡ place + suc n = omega arith in e) ∙ same (suc n)) in
      let here : slice_get script place ≡ Some line = ap (λ m. slice_get script m) (let e : place ≡ place + 0 = omega arith in e) ∙ same 0 in
      elim (line.lane == k) as (λ b. (line.lane == k) ≡ b → AtPlaces script k (cond b (place ∷ of_lane k (lanes_of ls) (places_from (suc place) ls)) (of_lane k (lanes_of ls) (places_from (suc place) ls))) (cond b (line.line ∷ of_lane k (lanes_of ls) (map (λ (l : ScriptLine). l.line) ls)) (of_lane k (lanes_of ls) (map (λ (l : ScriptLine). l.line) ls)))) [
        | true ↦ λ is. (here ∙ ap (λ (n : ℕ). Some (record { lane = n; line = line.line })) (eqb-true line.lane k is), rest)
        | false ↦ λ is. rest
      ] refl

  pub at_places : AtPlaces script k (places_of k script) (lane_lines k script)
  at_places = at_from 0 script (λ n. ap (λ m. slice_get script m) (let e : 0 + n ≡ n = omega arith in e))
