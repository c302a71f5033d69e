use Rattle.std.proofs.Common.{◌≡◌, ◌∙◌, ℕ, Bool, true, false, cond, List, [], ◌∷◌, Option, Some, None, codes, refl, sym, ap}
use Rattle.std.specs.Option.{option_map, option_and_then}
use Rattle.std.specs.Str.{bytes_eq}
use Rattle.std.proofs.lemmas.Slice.Eq.{bytes_eq-Decides}
use Rattle.btr_words.specs.declared.command.Command.{Command}
use Rattle.btr_words.specs.Words.{Text, number_of, numbers_in_order, sample_arguments, sample_of, sampled}
use Rattle.btr_words.proofs.WordCases.{dashes}
use Rattle.btr_words.proofs.laws.commands_of_rows_are_these.Goals as goal

abbrev meaning : List Text → Option Command
meaning words = option_and_then sample_of (numbers_in_order sample_arguments words)

-- What is found for a value.
abbrev some_of : Option ℕ → Option (Option ℕ)
some_of o = option_map (λ (n : ℕ). Some n) o

two : (n s : Text) → meaning (n ∷ s ∷ []) ≡ None
two n s = go (number_of 0 2147483647 n) (number_of 1 1000 s)
  where
    go : (x y : Option ℕ) → option_and_then sample_of (option_and_then (λ i. option_map (λ f. (codes "number", i) ∷ f)
        (option_and_then (λ j. option_map (λ f. (codes "streams", j) ∷ f) (Some [])) (some_of y))) (some_of x)) ≡ None
    go None y = refl
    go (Some i) None = refl
    go (Some i) (Some j) = refl

three : (n s p : Text) → meaning (n ∷ s ∷ p ∷ []) ≡ sampled (number_of 0 2147483647 n) (number_of 1 1000 s) (number_of 1 1000000 p)
three n s p = go (number_of 0 2147483647 n) (number_of 1 1000 s) (number_of 1 1000000 p)
  where
    go : (x y z : Option ℕ) → option_and_then sample_of (option_and_then (λ i. option_map (λ f. (codes "number", i) ∷ f)
        (option_and_then (λ j. option_map (λ f. (codes "streams", j) ∷ f)
        (option_and_then (λ k. option_map (λ f. (codes "points", k) ∷ f) (Some [])) (some_of z))) (some_of y))) (some_of x)) ≡ sampled x y z
    go None y z = refl
    go (Some i) None z = refl
    go (Some i) (Some j) None = refl
    go (Some i) (Some j) (Some k) = refl

no_number : (low high : ℕ) (text : Text) → bytes_eq text dashes ≡ true → number_of low high text ≡ None
no_number low high text d = ap (number_of low high) ((bytes_eq-Decides text dashes).0 d)

none_second : (x z : Option ℕ) → sampled x None z ≡ None
none_second None z = refl
none_second (Some i) z = refl

none_third : (x y : Option ℕ) → sampled x y None ≡ None
none_third None y = refl
none_third (Some i) None = refl
none_third (Some i) (Some j) = refl

pub returns-clause-sample : goal.returns-clause-sample
returns-clause-sample c = λ n s p. go n s p (bytes_eq n dashes) refl (bytes_eq s dashes) refl (bytes_eq p dashes) refl
  where
    go : (n s p : Text) (b1 : Bool) → bytes_eq n dashes ≡ b1 → (b2 : Bool) → bytes_eq s dashes ≡ b2 → (b3 : Bool) → bytes_eq p dashes ≡ b3
        → meaning (cond b1 (s ∷ p ∷ []) (n ∷ cond b2 (p ∷ []) (s ∷ cond b3 [] (p ∷ []))))
        ≡ sampled (number_of 0 2147483647 n) (number_of 1 1000 s) (number_of 1 1000000 p)
    go n s p true e1 b2 e2 b3 e3 =
        two s p ∙ sym (ap (λ (x : Option ℕ). sampled x (number_of 1 1000 s) (number_of 1 1000000 p)) (no_number 0 2147483647 n e1))
    go n s p false e1 true e2 b3 e3 =
        two n p ∙ sym (ap (λ (y : Option ℕ). sampled (number_of 0 2147483647 n) y (number_of 1 1000000 p)) (no_number 1 1000 s e2)
        ∙ none_second (number_of 0 2147483647 n) (number_of 1 1000000 p))
    go n s p false e1 false e2 true e3 =
        two n s ∙ sym (ap (λ (z : Option ℕ). sampled (number_of 0 2147483647 n) (number_of 1 1000 s) z) (no_number 1 1000000 p e3)
        ∙ none_third (number_of 0 2147483647 n) (number_of 1 1000 s))
    go n s p false e1 false e2 false e3 = three n s p
