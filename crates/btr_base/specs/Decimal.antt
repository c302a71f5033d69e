-- Whole numbers as decimal text: what digits mean, with or without a minus in front.
use Rattle.std.specs.Prelude.{ℕ, ◌+◌, ◌-◌, ◌*◌, ◌^◌, nat_lt, nat_le, ℤ, pos, neg_ℤ, ◌==◌, ◌&&◌, if◌then◌else◌}
use Rattle.std.specs.Prelude.{List, [], ◌∷◌, length, Option, Some, None, option_map}
use Rattle.std.specs.List.{list_all}
use Rattle.std.specs.Char.{is_ascii_digit, digit_value}
use Rattle.std.specs.Str.Parse.{digits_value}

-- The number that decimal digits write, if the text has a digit and nothing else and the number is at most `most`.
abbrev pub number_up_to : ℕ → List ℕ → Option ℕ
number_up_to most text =
    if nat_lt 0 (length text) && list_all is_ascii_digit text && nat_le (digits_value 10 text) most
    then Some (digits_value 10 text) else None

-- A number within `i64`: digits, with or without a minus in front. The byte 45 is a minus.
abbrev pub signed_of : List ℕ → Option ℤ
signed_of [] = None
signed_of (b ∷ bs) =
    if b == 45 then option_map (λ n. neg_ℤ (pos n)) (number_up_to (2 ^ 63) bs)
    else option_map pos (number_up_to (2 ^ 63 - 1) (b ∷ bs))

-- The number `n` with one more digit, if `digit` is a digit and the result is at most `most`.
abbrev pub next_number : ℕ → ℕ → ℕ → Option ℕ
next_number n digit most =
    if is_ascii_digit digit && nat_le (n * 10 + digit_value digit) most then Some (n * 10 + digit_value digit) else None
