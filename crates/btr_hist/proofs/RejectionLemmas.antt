-- Lemmas on entries that are not rejected.
use Rattle.std.specs.Prelude.{◌≡◌, not, Bool, true, false, List, [], ◌∷◌, cond, Option, Some, None}
use Rattle.std.specs.Option.{option_map}
use Rattle.std.proofs.Common.{refl, arith}
use Rattle.std.proofs.lemmas.Int.{ints}
use Rattle.btr_base.specs.declared.point.Point.{Point}
use Rattle.btr_base.specs.Point.{in_domain, InDomain, AreInDomain}
use Rattle.btr_hist.specs.declared.rejection.Rejection.{Rejection}
use Rattle.btr_hist.specs.Legal.{first_some, when, first_out_of_domain}

-- ---- of several causes none is there

pub first_none : {A : Type 0} (o : Option A) (os : List (Option A)) → first_some (o ∷ os) ≡ None → o ≡ None
first_none None os h = refl
first_none (Some a) os h = absurd (cc)

pub rest_none : {A : Type 0} (o : Option A) (os : List (Option A)) → first_some (o ∷ os) ≡ None → first_some os ≡ None
rest_none None os h = h
rest_none (Some a) os h = absurd (cc)

pub map_none : {A B : Type 0} (f : A → B) (o : Option A) → option_map f o ≡ None → o ≡ None
map_none f None h = refl
map_none f (Some a) h = absurd (cc)

-- A test that gives no rejection fails.
pub when_none : (b : Bool) (r : Rejection) → when b r ≡ None → b ≡ false
when_none false r h = refl
when_none true r h = absurd (cc)

-- ---- no point lies outside the domain

in_domain-fact : (p : Point) → not (in_domain p.time) ≡ false → InDomain p.time
in_domain-fact p h = (grind (arith, ints), grind (arith, ints))

pub none_out_of_domain : (b : List Point) → first_out_of_domain b ≡ None → AreInDomain b
none_out_of_domain [] h = tt
none_out_of_domain (p ∷ b) h =
    elim (not (in_domain p.time)) as (λ t. not (in_domain p.time) ≡ t → cond t (Some p) (first_out_of_domain b) ≡ None → AreInDomain (p ∷ b)) [
      | true ↦ λ _ k. absurd (cc)
      | false ↦ λ e k. (in_domain-fact p e, none_out_of_domain b k)
    ] refl h
