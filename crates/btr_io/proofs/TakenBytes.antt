-- Lemmas on a piece that is taken in turns: what was taken so far is its prefix, and what is left the rest.
use Rattle.std.proofs.Common.{◌≡◌, ◌∙◌, sym, ap, ◌++◌, ℕ, ◌+◌, ◌-◌, ◌≤◌, List, length, take, drop, arith, length-drop, append_assoc}
use Rattle.std.proofs.lemmas.List.{drop-drop, take_all}
use Rattle.std.proofs.Math.Seq.{take-add}

-- the rest is the end of the piece
pub record IsRest (piece rest : List ℕ) : Type 0 where
  pub shorter : length rest ≤ length piece
  pub is : rest ≡ drop (length piece - length rest) piece

-- after n more, the prefix is n longer
prefix_after : (piece rest : List ℕ) (n : ℕ) → n ≤ length rest → length rest ≤ length piece → length piece - length (drop n rest) ≡ (length piece - length rest) + n
prefix_after piece rest n h s = omega (arith, length-drop n rest)

pub is_rest-drop : (piece rest : List ℕ) (n : ℕ) → n ≤ length rest → IsRest piece rest → IsRest piece (drop n rest)
is_rest-drop piece rest n h r = record {
  shorter = omega (arith, length-drop n rest, r.shorter);
  is =
      ap (λ xs. drop n xs) r.is ∙ drop-drop n (length piece - length rest) piece
      ∙ ap (λ k. drop k piece) (sym (prefix_after piece rest n h r.shorter));
}

pub prefix-more : (piece rest : List ℕ) (n : ℕ) → n ≤ length rest → IsRest piece rest → take (length piece - length rest) piece ++ take n rest ≡ take (length piece - length (drop n rest)) piece
prefix-more piece rest n h r =
    ap (λ xs. take (length piece - length rest) piece ++ take n xs) r.is
    ∙ sym (take-add (length piece - length rest) n piece)
    ∙ ap (λ k. take k piece) (sym (prefix_after piece rest n h r.shorter))

-- a slice from n on is all that follows the first n
pub slice-from : (xs : List ℕ) (n : ℕ) → take (length xs - n) (drop n xs) ≡ drop n xs
slice-from xs n = take_all (length xs - n) (drop n xs) (omega (arith, length-drop n xs))

-- one turn takes n bytes of the rest
pub is_rest-turn : (piece rest : List ℕ) (n : ℕ) → n ≤ length rest → IsRest piece rest → IsRest piece (take (length rest - n) (drop n rest))
is_rest-turn piece rest n h r =
    rw (slice-from rest n) (is_rest-drop piece rest n h r)

pub taken-turn : (piece rest before mid after : List ℕ) (n : ℕ) → n ≤ length rest → IsRest piece rest → mid ≡ before ++ take (length piece - length rest) piece → after ≡ mid ++ take n rest → after ≡ before ++ take (length piece - length (take (length rest - n) (drop n rest))) piece
taken-turn piece rest before mid after n h r so_far now =
    rw (slice-from rest n)
    (now ∙ ap (λ xs. xs ++ take n rest) so_far ∙ append_assoc before _ _ ∙ ap (λ xs. before ++ xs) (prefix-more piece rest n h r))
