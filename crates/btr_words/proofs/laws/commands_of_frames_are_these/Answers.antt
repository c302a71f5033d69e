use Rattle.std.proofs.Common.{◌≡◌, ℕ, Bool, true, false, cond, [], ◌∷◌, Option, Some, None, refl, sym, ap}
use Rattle.std.specs.Option.{option_map, option_and_then}
use Rattle.std.specs.Str.{bytes_eq}
use Rattle.std.proofs.lemmas.Slice.Eq.{bytes_eq-Decides}
use Rattle.btr_words.specs.declared.command.Command.{Command}
use Rattle.btr_words.specs.declared.command.Command.TheVariants.{Ship}
use Rattle.btr_words.specs.Words.{Text, from_argument, number_of, numbers_in_order, ship_of}
use Rattle.btr_words.proofs.WordCases.{dashes}
use Rattle.btr_words.proofs.laws.commands_of_frames_are_these.Goals as goal

-- `ship` with this number.
abbrev shipped : Option ℕ → Option Command
shipped o = option_map (λ (n : ℕ). Ship n) o

one : (n : Text) → option_and_then ship_of (numbers_in_order (from_argument ∷ []) (n ∷ [])) ≡ shipped (number_of 1 18446744073709551615 n)
one n = go (number_of 1 18446744073709551615 n)
  where
    go : (o : Option ℕ) → option_and_then ship_of (option_and_then (λ i. option_map (λ f. (from_argument.name, i) ∷ f) (Some [])) (option_map (λ (k : ℕ). Some k) o)) ≡ shipped o
    go None = refl
    go (Some i) = refl

pub returns-clause-ship : goal.returns-clause-ship
returns-clause-ship c = λ n. go n (bytes_eq n dashes) refl
  where
    go : (n : Text) (b : Bool) → bytes_eq n dashes ≡ b
        → option_and_then ship_of (numbers_in_order (from_argument ∷ []) (cond b [] (n ∷ []))) ≡ shipped (number_of 1 18446744073709551615 n)
    go n true e = sym (ap (λ (t : Text). shipped (number_of 1 18446744073709551615 t)) ((bytes_eq-Decides n dashes).0 e))
    go n false e = one n
