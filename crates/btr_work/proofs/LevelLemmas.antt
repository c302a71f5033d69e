-- Lemmas on the levels of outputs: how they grow by a stream.
use Rattle.std.specs.Prelude.{◌≡◌, ℕ, ◌+◌, ◌-◌, ◌<◌, ◌≤◌, ◌==◌, true, false, List, [], ◌∷◌, ◌++◌, length, cond, slice_index_or, slice_set}
use Rattle.std.specs.Prelude.{Option}
use Rattle.std.proofs.Common.{zero, suc, refl, sym, ap, ◌∙◌, subst, arith, inl, inr, length-append}
use Rattle.std.proofs.lemmas.Bool.{eq-eqb, ne_eqb, cases_eq, cases_lt}
use Rattle.std.proofs.lemmas.List.{get_or-set_same, get_or-set_other, get_or_append_left, get_or-append_right, length-set, append-nil}
use Rattle.btr_hist.specs.declared.kernel.Spec.{Spec}
use Rattle.btr_work.specs.Levels.{next_level, levels_from, places_from, streams_at, AreGroups}
use Rattle.btr_work.specs.Leveling.{PlacesStream, AreAtMost}

-- ---- the places of a number

-- The places of a number in a list with one more.
pub places-snoc : (p k : ℕ) (ns : List ℕ) (v : ℕ) → places_from p k (ns ++ v ∷ []) ≡ places_from p k ns ++ cond (v == k) ((p + length ns) ∷ []) []
places-snoc p k [] v =
    elim (v == k) as (λ b. cond b (p ∷ []) [] ≡ cond b ((p + 0) ∷ []) []) [
      | true ↦ ap (λ n. n ∷ []) (omega arith)
      | false ↦ refl
    ]
places-snoc p k (n ∷ ns) v =
    let rest = places-snoc (p + 1) k ns v in
    let at : p + 1 + length ns ≡ p + suc (length ns) = omega arith in
    let here = rest ∙ ap (λ m. places_from (p + 1) k ns ++ cond (v == k) (m ∷ []) []) at in
    elim (n == k) as (λ b. cond b (p ∷ places_from (p + 1) k (ns ++ v ∷ [])) (places_from (p + 1) k (ns ++ v ∷ [])) ≡ cond b (p ∷ places_from (p + 1) k ns) (places_from (p + 1) k ns) ++ cond (v == k) ((p + suc (length ns)) ∷ []) []) [
      | true ↦ ap (λ l. p ∷ l) here
      | false ↦ here
    ]

-- ---- the next stream

-- The levels of streams with one more.
pub levels-snoc : (levels : List ℕ) (kinds : List (Option Spec)) (kind : Option Spec) → levels_from levels (kinds ++ kind ∷ []) ≡ levels_from levels kinds ++ next_level (levels_from levels kinds) kind ∷ []
levels-snoc levels [] kind = refl
levels-snoc levels (k ∷ kinds) kind = levels-snoc (levels ++ next_level levels k ∷ []) kinds kind

-- A list with one more number that is not above the top.
pub below-snoc : (ns : List ℕ) (n top next : ℕ) → AreAtMost ns top → top ≤ next → n ≤ next → AreAtMost (ns ++ n ∷ []) next
below-snoc ns n top next below more low place =
    elim (cases_lt place (length ns)) [
      | inl lt ↦ omega (arith, get_or_append_left ns (n ∷ []) 0 place lt, below place, more)
      | inr le ↦ last (place - length ns) (get_or-append_right ns (n ∷ []) (length ns) place 0 refl le)
    ] where
      last : (i : ℕ) → slice_index_or (ns ++ n ∷ []) place 0 ≡ slice_index_or (n ∷ []) i 0 → slice_index_or (ns ++ n ∷ []) place 0 ≤ next
      last zero is = omega (arith, is, low)
      last (suc i) is = omega (arith, is)

-- ---- placing a stream

-- A stream at the end of a level that is there.
pub placed-there : (groups : List (List ℕ)) (level stream : ℕ) (group : List ℕ) → 0 < level → level ≤ length groups → group ≡ slice_index_or groups (level - 1) [] ++ stream ∷ [] → PlacesStream level stream groups (slice_set groups (level - 1) group)
placed-there groups level stream group some low is = record {
  each = λ k.
      elim (cases_eq level (k + 1)) [
        | inl same ↦
            let at : level - 1 ≡ k = omega arith in
            let here : slice_index_or (slice_set groups k group) k [] ≡ group = get_or-set_same groups k group [] (omega arith) in
            subst (λ (i : ℕ). slice_index_or (slice_set groups i group) k [] ≡ cond (level == k + 1) (slice_index_or groups k [] ++ stream ∷ []) (slice_index_or groups k [])) (sym at)
            (here ∙ is ∙ ap (λ i. slice_index_or groups i [] ++ stream ∷ []) at
            ∙ sym (ap (λ b. cond b (slice_index_or groups k [] ++ stream ∷ []) (slice_index_or groups k [])) (eq-eqb level (k + 1) same)))
        | inr other ↦
            get_or-set_other groups (level - 1) k group [] (λ same. other (omega arith))
            ∙ sym (ap (λ b. cond b (slice_index_or groups k [] ++ stream ∷ []) (slice_index_or groups k [])) (ne_eqb level (k + 1) other))
      ];
  counted = let l = length-set groups (level - 1) group in omega arith;
}

module _ (levels : List ℕ) (level : ℕ) (old new : List (List ℕ)) (are : AreGroups levels old) (low : level ≤ length old + 1) (placed : PlacesStream level (length levels) old new) where
  zero_more : 0 + length levels ≡ length levels
  zero_more = omega arith

  streams-more : (k : ℕ) → streams_at (levels ++ level ∷ []) k ≡ cond (level == k) (streams_at levels k ++ length levels ∷ []) (streams_at levels k)
  streams-more k =
      places-snoc 0 k levels level
      ∙ ap (λ n. streams_at levels k ++ cond (level == k) (n ∷ []) []) zero_more
      ∙ elim (level == k) as (λ b. streams_at levels k ++ cond b (length levels ∷ []) [] ≡ cond b (streams_at levels k ++ length levels ∷ []) (streams_at levels k)) [
        | true ↦ refl
        | false ↦ append-nil (streams_at levels k)
      ]

  some-more : (k : ℕ) → k < length new → 0 < length (slice_index_or new k [])
  some-more k inside =
      elim (cases_eq level (k + 1)) [
        | inl same ↦
            let is = placed.each k ∙ ap (λ b. cond b (slice_index_or old k [] ++ length levels ∷ []) (slice_index_or old k [])) (eq-eqb level (k + 1) same) in
            omega (arith, ap (λ (l : List ℕ). length l) is, length-append (slice_index_or old k []) (length levels ∷ []))
        | inr other ↦
            let is = placed.each k ∙ ap (λ b. cond b (slice_index_or old k [] ++ length levels ∷ []) (slice_index_or old k [])) (ne_eqb level (k + 1) other) in
            omega (arith, ap (λ (l : List ℕ). length l) is, are.some k (omega (arith, placed.counted)))
      ]

  -- The groups with the next stream.
  pub groups-more : AreGroups (levels ++ level ∷ []) new
  groups-more = record {
    each = λ k.
        placed.each k
        ∙ ap (λ l. cond (level == k + 1) (l ++ length levels ∷ []) l) (are.each k)
        ∙ sym (streams-more (k + 1));
    some = some-more;
  }
