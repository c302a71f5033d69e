-- Bounds on the versions of a stream, and on a position that is found.
use Rattle.std.specs.Prelude.{◌≡◌, ℕ, ◌+◌, ◌<◌, ◌≤◌, Bool, true, false, List, [], ◌∷◌, length, cond, Option, Some, None}
use Rattle.std.specs.List.{position_from, cons_option}
use Rattle.std.proofs.Common.{arith}
use Rattle.btr_hist.specs.declared.entry.Entry.{Entry}
use Rattle.btr_base.specs.Commit.{Change}
use Rattle.btr_hist.specs.History.{change_of, commits, latest}

-- A stream has no more versions than the history has entries.
pub few_versions : (h : List Entry) (stream : ℕ) → latest h stream ≤ length h
few_versions [] stream = omega arith
few_versions (e ∷ h) stream =
    let rest = few_versions h stream in
    elim (change_of stream e) as (λ (o : Option Change). length (cons_option o (commits h stream)) ≤ length (e ∷ h)) [
      | None ↦ omega arith
      | Some c ↦ omega arith
    ]

-- A position that is found lies inside the list.
pub found_below : (test : ℕ → Bool) (place : ℕ) (xs : List ℕ) (found : ℕ) → position_from test place xs ≡ Some found → found < place + length xs
found_below test place [] found is = absurd (cc)
found_below test place (x ∷ xs) found is =
    elim (test x) as (λ t. cond t (Some place) (position_from test (place + 1) xs) ≡ Some found → found < place + length (x ∷ xs)) [
      | true ↦ λ here.
          let same : place ≡ found = cc in
          omega arith
      | false ↦ λ later. omega (arith, found_below test (place + 1) xs found later)
    ] is
