-- Lemmas on the ids of rows that were read: each stands once.
use Rattle.std.specs.Prelude.{◌≡◌, ℕ, ◌+◌, ◌≤◌, ◌==◌, not, Bool, true, false, List, [], ◌∷◌, map, filter, cond}
use Rattle.std.proofs.Common.{refl, sym, ap, ◌∙◌, arith}
use Rattle.std.proofs.lemmas.Bool.{eqb-true, eq-eqb}
use Rattle.btr_gate.specs.Numbers.{one, times}
use Rattle.btr_gate.proofs.NumberLemmas.{one_other}
use Rattle.btr_rows.specs.declared.row.Row.{Row}
use Rattle.btr_rows.specs.Streams.{StreamValue, ids_of, stream_of, by_stream}

-- A filter keeps a number no more often than it stands, and not if it does not pass the test.
times_filter : (p : ℕ → Bool) (n : ℕ) (xs : List ℕ) → times n (filter p xs) ≤ times n xs
times_filter p n [] = omega arith
times_filter p n (x ∷ xs) =
    let rest = times_filter p n xs in
    elim (p x) as (λ t. times n (cond t (x ∷ filter p xs) (filter p xs)) ≤ one (x == n) + times n xs) [
      | true ↦ omega (arith, rest)
      | false ↦ omega (arith, rest)
    ]

times_without : (n m : ℕ) (xs : List ℕ) → n ≡ m → times n (filter (λ x. not (x == m)) xs) ≡ 0
times_without n m [] is = refl
times_without n m (x ∷ xs) is =
    let rest = times_without n m xs is in
    elim (x == m) as (λ t. (x == m) ≡ t → times n (cond (not t) (x ∷ filter (λ y. not (y == m)) xs) (filter (λ y. not (y == m)) xs)) ≡ 0) [
      | true ↦ λ _. rest
      | false ↦ λ e.
          let other = one_other x n (λ same. let at : (x == m) ≡ true = eq-eqb x m (same ∙ is) in absurd (cc)) in
          omega (arith, rest, other)
    ] refl

ids_once : (rows : List (ℕ × Row)) (n : ℕ) → times n (ids_of rows) ≤ 1
unfolding ids_of
ids_once [] n = omega arith
ids_once (r ∷ rows) n =
    let rest = ids_once rows n in
    let kept = times_filter (λ x. not (x == r.1.id)) n (ids_of rows) in
    elim (r.1.id == n) as (λ t. (r.1.id == n) ≡ t → one t + times n (filter (λ x. not (x == r.1.id)) (ids_of rows)) ≤ 1) [
      | true ↦ λ e.
          let none = times_without n r.1.id (ids_of rows) (sym (eqb-true r.1.id n e)) in
          omega (arith, none)
      | false ↦ λ e. omega (arith, rest, kept)
    ] refl

ids_mapped : (rows : List (ℕ × Row)) (ids : List ℕ) → map (λ r. r.id) (map (stream_of rows) ids) ≡ ids
ids_mapped rows [] = refl
ids_mapped rows (id ∷ ids) = ap (λ l. id ∷ l) (ids_mapped rows ids)

-- The streams of rows have each id once.
pub streams_distinct : (rows : List (ℕ × Row)) (n : ℕ) → times n (map (λ (r : StreamValue). r.id) (by_stream rows)) ≤ 1
streams_distinct rows n =
    let all = ap (times n) (ids_mapped rows (ids_of rows)) in
    let once = ids_once rows n in
    omega (arith, all, once)
