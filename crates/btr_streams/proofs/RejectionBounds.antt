-- A change that may be committed, by a user or as a distillate, keeps the bounds of entries with a spelling.
use Rattle.std.specs.Prelude.{◌≡◌, ℕ, ◌+◌, ◌<◌, ◌≤◌, ◌^◌, ◌&&◌, ◌||◌, nat_lt, ◌==◌, max, false, [], ◌∷◌, length, None}
use Rattle.std.specs.Option.{option_map}
use Rattle.std.proofs.Common.{arith}
use Rattle.std.proofs.lemmas.Bool.Decides.{nat_tests}
use Rattle.btr_base.specs.declared.point.Point.{Point}
use Rattle.btr_hist.specs.declared.rejection.Rejection.TheVariants.{OutOfDomain, Empty, TooMany}
use Rattle.btr_base.specs.declared.limits.TheConstants.{MAX_COMMIT_POINTS, MAX_COMMIT_RANGES, MAX_POINTS}
use Rattle.btr_base.specs.Commit.{Change}
use Rattle.btr_hist.specs.declared.kernel.Reads.{Reads}
use Rattle.btr_hist.specs.Legal.{when, first_out_of_domain, change_rejection, distillate_change_rejection}
use Rattle.btr_hist.proofs.RejectionLemmas.{first_none, rest_none, map_none, when_none, none_out_of_domain}
use Rattle.btr_entry.specs.Grammar.{IsBounded, AreVersions, IsBoundedDistillate}

some_of_them : (a b : ℕ) → (a == 0 && b == 0) ≡ false → 0 < a + b
some_of_them a b h = grind (arith, nat_tests)

few_of_each : (a b : ℕ) → (nat_lt MAX_COMMIT_RANGES a || nat_lt MAX_COMMIT_POINTS b) ≡ false → (a ≤ MAX_COMMIT_RANGES) × (b ≤ MAX_COMMIT_POINTS)
few_of_each a b h = (grind (arith, nat_tests), grind (arith, nat_tests))

-- The ranges and points of a change that is not rejected are within bounds.
pub change_bounded : (c : Change) → change_rejection c ≡ None → IsBounded c.cut c.added
change_bounded c h =
    let a = length c.cut in
    let b = length c.added in
    let empty = when (a == 0 && b == 0) Empty in
    let many = when (nat_lt MAX_COMMIT_RANGES a || nat_lt MAX_COMMIT_POINTS b) (TooMany (max a b)) in
    let outside = option_map (λ (p : Point). OutOfDomain p.time) (first_out_of_domain c.added) in
    let behind = rest_none outside (empty ∷ many ∷ []) h in
    let few = few_of_each a b (when_none (nat_lt MAX_COMMIT_RANGES a || nat_lt MAX_COMMIT_POINTS b) (TooMany (max a b)) (first_none many [] (rest_none empty (many ∷ []) behind))) in
    record {
      some = some_of_them a b (when_none (a == 0 && b == 0) Empty (first_none empty (many ∷ []) behind));
      few_ranges = few.0;
      few_points = few.1;
      in_domain = none_out_of_domain c.added (map_none (λ (p : Point). OutOfDomain p.time) (first_out_of_domain c.added) (first_none outside (empty ∷ many ∷ []) h));
    }

few_of : (a : ℕ) → nat_lt (2 ^ 34) a ≡ false → a ≤ 2 ^ 34
few_of a h = grind (arith, nat_tests)

-- A distillate whose change is not rejected has not too many ranges.
pub distillate_ranges : (c : Change) → distillate_change_rejection c ≡ None → length c.cut ≤ 2 ^ 34
distillate_ranges c h =
    let many = when (nat_lt (2 ^ 34) (length c.cut)) (TooMany (length c.cut)) in
    let outside = option_map (λ (p : Point). OutOfDomain p.time) (first_out_of_domain c.added) in
    few_of (length c.cut) (when_none (nat_lt (2 ^ 34) (length c.cut)) (TooMany (length c.cut)) (first_none many [] (rest_none outside (many ∷ []) h)))

-- A distillate whose change is not rejected is within bounds, if a version can have its points and streams can have its reads.
pub distillate_bounded : (c : Change) (r : Reads) → distillate_change_rejection c ≡ None → length c.added ≤ MAX_POINTS → AreVersions r → IsBoundedDistillate c.cut c.added r
distillate_bounded c r h few versions =
    let many = when (nat_lt (2 ^ 34) (length c.cut)) (TooMany (length c.cut)) in
    let outside = option_map (λ (p : Point). OutOfDomain p.time) (first_out_of_domain c.added) in
    record {
      few_ranges = distillate_ranges c h;
      few_points = few;
      in_domain = none_out_of_domain c.added (map_none (λ (p : Point). OutOfDomain p.time) (first_out_of_domain c.added) (first_none outside (many ∷ []) h));
      versions = versions;
    }
