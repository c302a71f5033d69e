-- Lemmas on numbers, which are read digit by digit.
use Rattle.std.proofs.Common.{◌≡◌, ℕ, ◌+◌, ◌*◌, ◌<◌, ◌≤◌, Bool, true, cond, ◌&&◌, leb, ltb, List, [], ◌∷◌, length, get_or, drop, Option, Some, None, refl, sym, ◌∙◌, arith}
use Rattle.std.specs.List.{list_all}
use Rattle.std.specs.Char.{is_ascii_digit, digit_value}
use Rattle.std.specs.Str.Parse.{digits_value_after}
use Rattle.std.proofs.lemmas.Bool.Decides.{nat_tests}
use Rattle.std.proofs.lemmas.List.{at_drop_more}
use Rattle.btr_base.specs.Decimal.{next_number, number_up_to}

-- The number that digits write after the number `n`, if there is nothing else and it is at most `most`.
abbrev pub onward : ℕ → ℕ → List ℕ → Option ℕ
onward most n ds = cond (list_all is_ascii_digit ds && leb (digits_value_after 10 n ds) most) (Some (digits_value_after 10 n ds)) None

pub after-le : (n : ℕ) (ds : List ℕ) → n ≤ digits_value_after 10 n ds
after-le n [] = omega arith
after-le n (c ∷ ds) = omega (arith, after-le (n * 10 + digit_value c) ds)

first_fails : (d a : Bool) (v w most : ℕ) (x : Option ℕ) → cond (d && leb v most) (Some v) None ≡ None → v ≤ w → cond ((d && a) && leb w most) x None ≡ None
first_fails d a v w most x h k = grind (arith, nat_tests)

pub onward-stuck : (most n c : ℕ) (ds : List ℕ) → next_number n c most ≡ None → onward most n (c ∷ ds) ≡ None
onward-stuck most n c ds h =
    first_fails (is_ascii_digit c) (list_all is_ascii_digit ds) (n * 10 + digit_value c) (digits_value_after 10 (n * 10 + digit_value c) ds) most (Some (digits_value_after 10 (n * 10 + digit_value c) ds)) h (after-le (n * 10 + digit_value c) ds)

positive : (n : ℕ) → 0 < n → ltb 0 n ≡ true
positive n h = grind (arith, nat_tests)

pub number_up_to-onward : (most : ℕ) (w : List ℕ) → 0 < length w → number_up_to most w ≡ onward most 0 w
number_up_to-onward most w h = rw (positive (length w) h) refl

pub number-stuck : (most n i c : ℕ) (w : List ℕ) → i < length w → c ≡ get_or w i 0 → onward most n (drop i w) ≡ onward most 0 w → next_number n c most ≡ None → number_up_to most w ≡ None
number-stuck most n i c w h e k s =
    let f : next_number n (get_or w i 0) most ≡ None = rw e at s in
    number_up_to-onward most w (omega arith) ∙ sym k ∙ at_drop_more (onward most n) w i 0 h ∙ onward-stuck most n (get_or w i 0) (drop (i + 1) w) f

-- An option that is no `Some` is `None`.
pub none_if_no_value : {A : Type 0} (o : Option A) → (((a : A) × (o ≡ Some a)) → ⊥) → o ≡ None
none_if_no_value None h = refl
none_if_no_value (Some a) h = absurd (h (a, refl))
