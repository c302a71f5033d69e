-- Lemmas on the words of a line: spaces before one do not matter, and it ends before the next space.
use Rattle.std.proofs.Common.{◌≡◌, ℕ, suc, ◌+◌, ◌<◌, Bool, true, false, not, cond, eqb, List, [], ◌∷◌, length, take, drop, refl, sym, ap, ◌∙◌, arith}
use Rattle.std.specs.List.{filter, slice_split, onto_first, prefix_len}
use Rattle.std.proofs.lemmas.List.Folds.{length-prefix_len}
use Rattle.std.proofs.lemmas.Bool.Decides.{nat_tests}
use Rattle.btr_text.specs.Word.{words_of}

one_more : (n : ℕ) → 1 + n ≡ suc n
one_more n = omega arith

-- A piece is a word if it is not empty.
abbrev is_word : List ℕ → Bool
is_word w = not (eqb (length w) 0)

pub words_of-drop_spaces : (xs : List ℕ) → words_of (drop (prefix_len (λ b. eqb b 32) xs) xs) ≡ words_of xs
words_of-drop_spaces [] = refl
words_of-drop_spaces (x ∷ xs) =
    elim (eqb x 32) as (λ t. eqb x 32 ≡ t → words_of (drop (cond t (1 + prefix_len (λ b. eqb b 32) xs) 0) (x ∷ xs)) ≡ filter (λ w. not (eqb (length w) 0)) (cond t ([] ∷ slice_split (λ b. eqb b 32) xs) (onto_first x (slice_split (λ b. eqb b 32) xs)))) [
      | true ↦ λ e. rw one_more (words_of-drop_spaces xs)
      | false ↦ λ e. rw e refl
    ] refl

-- The first piece of a list ends before the first element that passes `p`. The pieces of the rest are an empty one, then the others.
pub slice_split-first : (p : ℕ → Bool) (xs : List ℕ) →
    (parts : List (List ℕ)) × (slice_split p xs ≡ take (prefix_len (λ b. not (p b)) xs) xs ∷ parts) × (slice_split p (drop (prefix_len (λ b. not (p b)) xs) xs) ≡ [] ∷ parts)
slice_split-first p [] = ([], refl, refl)
slice_split-first p (x ∷ xs) =
    elim (p x) as (λ t. p x ≡ t → (parts : List (List ℕ)) × (slice_split p (x ∷ xs) ≡ take (prefix_len (λ b. not (p b)) (x ∷ xs)) (x ∷ xs) ∷ parts) × (slice_split p (drop (prefix_len (λ b. not (p b)) (x ∷ xs)) (x ∷ xs)) ≡ [] ∷ parts)) [
      | true ↦ λ e. (slice_split p xs, simp e, simp e)
      | false ↦ λ e. let h = slice_split-first p xs in (h.0, simp (e, one_more, h.1), simp (e, one_more) h.2)
    ] refl

not_empty : (n : ℕ) → 0 < n → eqb n 0 ≡ false
not_empty n h = grind (arith, nat_tests)

kept : (w : List ℕ) (ws : List (List ℕ)) → 0 < length w → filter is_word (w ∷ ws) ≡ w ∷ filter is_word ws
kept w ws h = rw (not_empty (length w) h) refl

-- If a line does not begin with a space, its first word ends before the first space.
pub words_of-first : (xs : List ℕ) → 0 < prefix_len (λ b. not (eqb b 32)) xs →
    words_of xs ≡ take (prefix_len (λ b. not (eqb b 32)) xs) xs ∷ words_of (drop (prefix_len (λ b. not (eqb b 32)) xs) xs)
words_of-first xs h =
    let s = slice_split-first (λ b. eqb b 32) xs in
    ap (filter is_word) s.1 ∙ kept _ s.0 (rw (length-prefix_len (λ b. not (eqb b 32)) xs) h) ∙ sym (ap (λ ws. take (prefix_len (λ b. not (eqb b 32)) xs) xs ∷ filter is_word ws) s.2)

-- If nothing follows the leading spaces of a line, the line has no word.
no_letters : (xs : List ℕ) → prefix_len (λ b. not (eqb b 32)) (drop (prefix_len (λ b. eqb b 32) xs) xs) ≡ 0 → words_of xs ≡ []
no_letters [] h = refl
no_letters (x ∷ xs) h =
    elim (eqb x 32) as (λ t. eqb x 32 ≡ t → prefix_len (λ b. not (eqb b 32)) (drop (cond t (1 + prefix_len (λ b. eqb b 32) xs) 0) (x ∷ xs)) ≡ 0 → words_of (x ∷ xs) ≡ []) [
      | true ↦ λ e k. rw e (no_letters xs (rw one_more at k))
      | false ↦ λ e k. let m : 1 + prefix_len (λ b. not (eqb b 32)) xs ≡ 0 = rw e at k in absurd (omega arith)
    ] refl h

pub no_word : (xs ys : List ℕ) → ys ≡ drop (prefix_len (λ b. eqb b 32) xs) xs → prefix_len (λ b. not (eqb b 32)) ys ≡ 0 → words_of xs ≡ []
no_word xs ys e h = no_letters xs (rw e at h)

pub first_word : (xs ys w r : List ℕ) → ys ≡ drop (prefix_len (λ b. eqb b 32) xs) xs → 0 < prefix_len (λ b. not (eqb b 32)) ys →
    w ≡ take (prefix_len (λ b. not (eqb b 32)) ys) ys → r ≡ drop (prefix_len (λ b. not (eqb b 32)) ys) ys →
    words_of xs ≡ w ∷ words_of r
first_word xs ys w r e h f g =
    let q : words_of xs ≡ words_of ys = sym (words_of-drop_spaces xs) ∙ ap words_of (sym e) in
    q ∙ words_of-first ys h ∙ rw (f, g) refl
