-- Lemmas on the lane of a line: it is below 8.
use Rattle.std.proofs.Common.{◌≡◌, ℕ, ◌<◌, Bool, true, false, cond, ◌&&◌, eqb, leb, ltb, List, [], ◌∷◌, length, Option, Some, None, refl, arith}
use Rattle.std.specs.Char.{is_ascii_digit}
use Rattle.std.specs.List.{AllByRecursion, filter_map, cons_option, list_all, starts_with}
use Rattle.std.specs.Option.{IfSome, option_map_or}
use Rattle.std.specs.Prelude.{codes, nat_eq}
use Rattle.std.specs.Str.Parse.{digits_value}
use Rattle.std.proofs.lemmas.Bool.Decides.{nat_tests}
use Rattle.btr_base.specs.Decimal.{number_up_to}
use Rattle.btr_text.specs.Word.{lane_of, words_of}
use Rattle.btr_text.specs.Input.{HaveLanes, asked, in_lane, input_line, said}

at_most_7 : (a : Bool) (n : ℕ) → IfSome (cond (a && leb n 7) (Some n) None) (λ lane. lane < 8)
at_most_7 false n = tt
at_most_7 true n =
    elim (leb n 7) as (λ t. leb n 7 ≡ t → IfSome (cond t (Some n) None) (λ lane. lane < 8)) [
      | true ↦ λ e. grind (arith, nat_tests)
      | false ↦ λ e. tt
    ] refl

lane_of-below : (w : List ℕ) → IfSome (lane_of w) (λ lane. lane < 8)
lane_of-below [] = tt
lane_of-below (mark ∷ number) =
    elim (eqb mark 64 && eqb (length number) 1) as (λ t. IfSome (cond t (number_up_to 7 number) None) (λ lane. lane < 8)) [
      | true ↦ at_most_7 (ltb 0 (length number) && list_all is_ascii_digit number) (digits_value 10 number)
      | false ↦ tt
    ]

said-below : (ws : List (List ℕ)) → IfSome (said ws) (λ line. line.lane < 8)
said-below [] = tt
said-below (w ∷ ws) =
    elim (lane_of w) as (λ o. IfSome o (λ lane. lane < 8) → (option_map_or (λ lane. in_lane lane ws) o (in_lane 0 (w ∷ ws))).lane < 8) [
      | None ↦ λ h. omega arith
      | Some lane ↦ λ h. h
    ] (lane_of-below w)

asked-below : (ws : List (List ℕ)) → IfSome (asked ws) (λ line. line.lane < 8)
asked-below [] = tt
asked-below (w ∷ ws) = omega arith

words-below : (names_lanes : Bool) (ws : List (List ℕ)) → IfSome (cond names_lanes (said ws) (asked ws)) (λ line. line.lane < 8)
words-below true ws = said-below ws
words-below false ws = asked-below ws

input_line-below : (names_lanes : Bool) (line : List ℕ) → IfSome (input_line names_lanes line) (λ said. said.lane < 8)
input_line-below names_lanes line =
    elim (starts_with nat_eq line (codes "#")) as (λ t. IfSome (cond t None (cond names_lanes (said (words_of line)) (asked (words_of line)))) (λ said. said.lane < 8)) [
      | true ↦ tt
      | false ↦ words-below names_lanes (words_of line)
    ]

-- What holds of each value of a function holds of each element that it leaves of a list.
all_left : {A X : Type 0} (h : A → Option X) (P : X → Type 0) → ((a : A) → IfSome (h a) P) → (xs : List A) → AllByRecursion P (filter_map h xs)
all_left h P f [] = tt
all_left h P f (x ∷ xs) =
    elim (h x) as (λ o. IfSome o P → AllByRecursion P (cons_option o (filter_map h xs))) [
      | None ↦ λ k. all_left h P f xs
      | Some y ↦ λ k. (k, all_left h P f xs)
    ] (f x)

-- Each line that is read has a lane from 0 to 7.
pub input_lanes : (names_lanes : Bool) (lines : List (List ℕ)) → HaveLanes (filter_map (input_line names_lanes) lines)
input_lanes names_lanes lines = all_left (input_line names_lanes) (λ line. line.lane < 8) (input_line-below names_lanes) lines
