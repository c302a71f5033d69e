-- Lemmas on the places of the parts of an inner node.
use Rattle.std.specs.Prelude.{◌≡◌, ℕ, ◌+◌, ◌-◌, ◌<◌, ◌≤◌, nat_eq, true, false, cond, List, length, get_or, set, drop, option_map, Option, Some}
use Rattle.std.proofs.Common.{suc, refl, sym, ap, ◌∙◌, arith, subst}
use Rattle.std.proofs.lemmas.Bool.{eqb-true, eqb-false}
use Rattle.std.proofs.lemmas.List.{get_or-set_same, get_or-set_other}
use Rattle.std.proofs.lemmas.Option.{slice_get-get_or}
use Rattle.std.proofs.Math.Seq.{drop-cons}
use Rattle.btr_tree.specs.Opened.{ArePlaces, part_at, placed_part}
use Rattle.btr_tree.specs.Root.{TreeValue}

-- The parts from m on have their places.
abbrev pub ArePlacesFrom : ℕ → List (ℕ × TreeValue) → List ℕ → Type 0
ArePlacesFrom m parts places = (i : ℕ) → i < 64 → placed_part parts (get_or places i 0) ≡ part_at (drop m parts) i

placed-here : (parts : List (ℕ × TreeValue)) (m : ℕ) (d : ℕ × TreeValue) → m < length parts → placed_part parts (suc m) ≡ Some (get_or parts m d).1
placed-here parts m d lt = ap (option_map (λ (part : ℕ × TreeValue). part.1)) (slice_get-get_or parts m d lt)

-- The places of the parts after part m, and that of part m.
place-set : (parts : List (ℕ × TreeValue)) (places : List ℕ) (m k : ℕ) (d : ℕ × TreeValue) → m < length parts → k ≡ (get_or parts m d).0 → k < length places → ArePlacesFrom (suc m) parts places → ArePlacesFrom m parts (set places k (suc m))
place-set parts places m k d lt e low after i less =
    let part = get_or parts m d in
    elim (nat_eq part.0 i) as (λ t. nat_eq part.0 i ≡ t → placed_part parts (get_or (set places k (suc m)) i 0) ≡ cond t (Some part.1) (part_at (drop (suc m) parts) i)) [
      | true ↦ λ yes.
          let same : k ≡ i = e ∙ eqb-true part.0 i yes in
          ap (λ j. placed_part parts (get_or (set places k (suc m)) j 0)) (sym same)
          ∙ ap (placed_part parts) (get_or-set_same places k (suc m) 0 low)
          ∙ placed-here parts m d lt
      | false ↦ λ no.
          ap (placed_part parts) (get_or-set_other places k i (suc m) 0 (λ same. eqb-false part.0 i no (sym e ∙ sym same))) ∙ after i less
    ] refl
    ∙ sym (ap (λ l. part_at l i) (drop-cons parts m d lt))

pub places-next : (parts : List (ℕ × TreeValue)) (places : List ℕ) (n k : ℕ) (d : ℕ × TreeValue) → 0 < n → n ≤ length parts → k ≡ (get_or parts (n - 1) d).0 → k < length places → ArePlacesFrom n parts places → ArePlacesFrom (n - 1) parts (set places k (n - 1 + 1))
places-next parts places n k d some le e low after =
    let last : n ≡ suc (n - 1) = omega arith in
    let next : suc (n - 1) ≡ n - 1 + 1 = omega arith in
    subst (λ p. ArePlacesFrom (n - 1) parts (set places k p)) next (place-set parts places (n - 1) k d (omega arith) e low (subst (λ p. ArePlacesFrom p parts places) last after))

-- What is at the place of a slot is its part.
pub part-placed : (parts : List (ℕ × TreeValue)) (places : List ℕ) (i n : ℕ) (part : Option TreeValue) → ArePlaces parts places → i < 64 → n ≡ i → part ≡ placed_part parts (get_or places n 0) → part ≡ part_at parts i
part-placed parts places i n part are lt e f =
    f ∙ ap (λ j. placed_part parts (get_or places j 0)) e ∙ are i lt
