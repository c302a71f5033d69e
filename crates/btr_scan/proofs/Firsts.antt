-- Lemmas on the first and the last of two lists in a row.
use Rattle.std.specs.Prelude.{◌≡◌, ◌-◌, ◌<◌, List, [], ◌∷◌, ◌++◌, length, Option, Some, None, slice_get, IsSome}
use Rattle.std.specs.List.{last_or}
use Rattle.std.proofs.Common.{refl, sym, ap, ◌∙◌, arith, append-nil}

pub first-found : {X : Type 0} (a b : List X) (x : X) → slice_get a 0 ≡ Some x → slice_get (a ++ b) 0 ≡ Some x
first-found [] b x h = absurd (cc)
first-found (y ∷ a) b x h = h

pub first-missed : {X : Type 0} (a b : List X) → slice_get a 0 ≡ None → slice_get (a ++ b) 0 ≡ slice_get b 0
first-missed [] b h = refl
first-missed (y ∷ a) b h = absurd (cc)

pub first-some : {X : Type 0} (a b : List X) → 0 < length a → slice_get (a ++ b) 0 ≡ slice_get a 0
first-some [] b h = absurd (omega arith)
first-some (y ∷ a) b h = refl

last-append : {X : Type 0} (o : Option X) (a b : List X) → last_or o (a ++ b) ≡ last_or (last_or o a) b
last-append o [] b = refl
last-append o (y ∷ a) b = last-append (Some y) a b

last-none : {X : Type 0} (y : X) (b : List X) → last_or (Some y) b ≡ None → ⊥
last-none y [] h = cc
last-none y (z ∷ b) h = last-none z b h

pub last-found : {X : Type 0} (a b : List X) (x : X) → last_or None b ≡ Some x → last_or None (a ++ b) ≡ Some x
last-found a [] x h = absurd (cc)
last-found a (y ∷ b) x h = last-append None a (y ∷ b) ∙ h

pub last-missed : {X : Type 0} (a b : List X) → last_or None b ≡ None → last_or None (a ++ b) ≡ last_or None a
last-missed a [] h = ap (last_or None) (append-nil a)
last-missed a (y ∷ b) h = absurd (last-none y b h)

pub last-some : {X : Type 0} (a b : List X) → 0 < length b → last_or None (a ++ b) ≡ last_or None b
last-some a [] h = absurd (omega arith)
last-some a (y ∷ b) h = last-append None a (y ∷ b)

-- A list that is not empty has a last.
pub last-is-some : {X : Type 0} (a : List X) (r : Option X) → 0 < length a → r ≡ last_or None a → IsSome r
last-is-some [] r some e = absurd (omega arith)
last-is-some (y ∷ a) None some e = absurd (last-none y a (sym e))
last-is-some (y ∷ a) (Some x) some e = refl

last-behind : {X : Type 0} (x : X) (a : List X) → slice_get (x ∷ a) (length a) ≡ last_or (Some x) a
last-behind x [] = refl
last-behind x (y ∷ a) = last-behind y a

-- The last of a list, by its index.
pub last-place : {X : Type 0} (a : List X) → slice_get a (length a - 1) ≡ last_or None a
last-place [] = refl
last-place (x ∷ a) =
    let e : length (x ∷ a) - 1 ≡ length a = omega arith in
    ap (slice_get (x ∷ a)) e ∙ last-behind x a
