-- Lemmas on a field that is read up to the byte that ends it.
use Rattle.std.proofs.Common.{◌≡◌, ℕ, zero, suc, ◌+◌, ◌-◌, ◌*◌, ◌^◌, ◌<◌, ◌≤◌, pos, neg_ℤ, Bool, true, false, nat_lt, eqb, List, [], ◌∷◌, ◌++◌, length, take, drop, get_or, Some, refl, sym, ap, ◌∙◌, arith}
use Rattle.std.specs.List.{list_all, slice_index}
use Rattle.std.specs.Char.{is_ascii_digit, digit_value}
use Rattle.std.specs.Str.Parse.{digits_value, digits_value_after}
use Rattle.std.proofs.lemmas.Bool.{and_parts, and_from, lt-ltb, le-leb}
use Rattle.std.proofs.lemmas.Bool.Decides.{nat_tests}
use Rattle.std.proofs.lemmas.List.{take_more}
use Rattle.btr_base.specs.Decimal.{number_up_to, signed_of}
use Rattle.btr_rows.specs.Reading.{ends_field, field_size}
use Rattle.btr_rows.proofs.SmallLemmas.{one_more}

-- A field ends at the first byte that ends one.
field-at : (p : ℕ → Bool) → ((c : ℕ) → p c ≡ true → ends_field c ≡ false) → (text : List ℕ) (i : ℕ) → i < length text
    → list_all p (take i text) ≡ true → ends_field (get_or text i 0) ≡ true → field_size text ≡ i
field-at p inside [] i h all end = absurd (omega arith)
field-at p inside (c ∷ text) zero h all end = rw end refl
field-at p inside (c ∷ text) (suc i) h all end =
    let parts = and_parts (p c) (list_all p (take i text)) all in
    rw (inside c parts.0, field-at p inside text i (omega arith) parts.1 end) (one_more i)

above-inside : (c : ℕ) → nat_lt 44 c ≡ true → ends_field c ≡ false
above-inside c h = grind (arith, nat_tests)

digit-inside : (c : ℕ) → is_ascii_digit c ≡ true → ends_field c ≡ false
digit-inside c h = grind (arith, nat_tests)

not-minus : (c : ℕ) → is_ascii_digit c ≡ true → eqb c 45 ≡ false
not-minus c h = grind (arith, nat_tests)

front-at : (text : List ℕ) (i : ℕ) → list_all (λ b. nat_lt 44 b) (take i text) ≡ true → eqb (slice_index (drop i text) 0) 44 ≡ true → field_size text ≡ i
front-at [] zero all comma = refl
front-at [] (suc i) all comma = cc comma
front-at (c ∷ text) zero all comma = rw comma refl
front-at (c ∷ text) (suc i) all comma =
    let parts = and_parts (nat_lt 44 c) (list_all (λ b. nat_lt 44 b) (take i text)) all in
    rw (above-inside c parts.0, front-at text i parts.1 comma, one_more i) refl

-- A field ends where a comma follows bytes that are greater.
pub id-at : (text front rest : List ℕ) → front ≡ take 36 text → rest ≡ drop 36 text → list_all (λ b. nat_lt 44 b) front ≡ true → true ≡ eqb (slice_index rest 0) 44 → field_size text ≡ 36
id-at text front rest f r all comma =
    front-at text 36 (ap (list_all (λ b. nat_lt 44 b)) (sym f) ∙ all) (ap (λ l. eqb (slice_index l 0) 44) (sym r) ∙ sym comma)

pub digits-at : (text : List ℕ) (i : ℕ) → i < length text → list_all is_ascii_digit (take i text) ≡ true → ends_field (get_or text i 0) ≡ true → field_size text ≡ i
digits-at text i h all end = field-at is_ascii_digit digit-inside text i h all end

all-push : (p : ℕ → Bool) (xs : List ℕ) (c : ℕ) → list_all p xs ≡ true → p c ≡ true → list_all p (xs ++ c ∷ []) ≡ true
all-push p [] c h e = rw e refl
all-push p (x ∷ xs) c h e = let parts = and_parts (p x) (list_all p xs) h in and_from (p x) (list_all p (xs ++ c ∷ [])) parts.0 (all-push p xs c parts.1 e)

value-push : (n : ℕ) (xs : List ℕ) (c : ℕ) → digits_value_after 10 n (xs ++ c ∷ []) ≡ digits_value_after 10 n xs * 10 + digit_value c
value-push n [] c = refl
value-push n (x ∷ xs) c = value-push (n * 10 + digit_value x) xs c

pub digit-minus : (c : ℕ) → is_ascii_digit c ≡ true → digit_value c ≡ c - 48
digit-minus c h = grind (arith, nat_tests)

-- One more digit.
pub digits-more : (text : List ℕ) (i : ℕ) → i < length text → list_all is_ascii_digit (take i text) ≡ true → is_ascii_digit (get_or text i 0) ≡ true → list_all is_ascii_digit (take (i + 1) text) ≡ true
digits-more text i h all digit = rw (take_more text i 0 h) (all-push is_ascii_digit (take i text) (get_or text i 0) all digit)

pub value-more : (text : List ℕ) (i number : ℕ) → i < length text → number ≡ digits_value 10 (take i text) → is_ascii_digit (get_or text i 0) ≡ true
    → number * 10 + (get_or text i 0 - 48) ≡ digits_value 10 (take (i + 1) text)
value-more text i number h e digit =
    rw (take_more text i 0 h) (ap (λ n. n * 10 + (get_or text i 0 - 48)) e ∙ ap (λ d. digits_value 10 (take i text) * 10 + d) (sym (digit-minus (get_or text i 0) digit)) ∙ sym (value-push 0 (take i text) (get_or text i 0)))

-- Digits write their number.
pub number-whole : (most : ℕ) (field : List ℕ) (number : ℕ) → 0 < length field → list_all is_ascii_digit field ≡ true → number ≡ digits_value 10 field → number ≤ most → number_up_to most field ≡ Some number
number-whole most field number h all e within =
    let value-within : digits_value 10 field ≤ most = rw e at within in
    rw (lt-ltb 0 (length field) h, all, le-leb (digits_value 10 field) most value-within) (ap Some (sym e))

-- A number with a minus in front, and one without.
pub signed-minus : (text digits : List ℕ) (number : ℕ) → text ≡ 45 ∷ digits → number_up_to (2 ^ 63) (take (field_size digits) digits) ≡ Some number
    → Some (neg_ℤ (pos number)) ≡ signed_of (take (field_size text) text)
signed-minus text digits number e h =
    let at : signed_of (take (field_size (45 ∷ digits)) (45 ∷ digits)) ≡ Some (neg_ℤ (pos number)) = rw (one_more (field_size digits), h) refl in
    sym (rw e at)

pub signed-plain : (text : List ℕ) (number : ℕ) → is_ascii_digit (slice_index text 0) ≡ true → number_up_to (2 ^ 63 - 1) (take (field_size text) text) ≡ Some number
    → Some (pos number) ≡ signed_of (take (field_size text) text)
signed-plain [] number digit h = cc digit
signed-plain (c ∷ text) number digit h =
    let whole : take (field_size (c ∷ text)) (c ∷ text) ≡ c ∷ take (field_size text) text = rw (digit-inside c digit, one_more (field_size text)) refl in
    let rest : number_up_to (2 ^ 63 - 1) (c ∷ take (field_size text) text) ≡ Some number = rw whole at h in
    rw (whole, not-minus c digit, rest) refl
