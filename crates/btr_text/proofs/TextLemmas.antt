-- Lemmas on text, which is appended piece by piece.
use Rattle.std.proofs.Common.{◌≡◌, ℕ, ◌≤◌, List, [], ◌∷◌, ◌++◌, length, take, map, Result, Ok, Err, OnErr, refl, sym, ap, ◌∙◌, arith, length-append}
use Rattle.std.specs.List.{flat_map, join_with_byte}
use Rattle.std.proofs.lemmas.List.{take-take}
use mathlib.Core.List.{append-nil}
use Rattle.std.specs.Int.{to_be_bytes, w128}
use Rattle.uuid.specs.Text.{hyphenated_text, lower}
use Rattle.btr_text.specs.Text.{id_text}

-- A fact holds after an `Err` if it holds after any result.
pub on_any_err : {T E P : Type 0} (r : Result T E) → P → OnErr r P
on_any_err (Ok x) p = tt
on_any_err (Err e) p = p

pub kept_prefix : (old a : List ℕ) → take (length old) (old ++ a) ≡ old
kept_prefix [] a = refl
kept_prefix (x ∷ old) a = ap (λ t. x ∷ t) (kept_prefix old a)

-- If a text begins with a longer prefix, it begins with each prefix of that.
pub prefix_stays : (old a mid new : List ℕ) → mid ≡ old ++ a → take (length mid) new ≡ mid → take (length old) new ≡ old
prefix_stays old a mid new e h =
    let l : length old ≤ length mid = rw e (omega (arith, length-append old a)) in
    sym (take-take (length old) (length mid) new l) ∙ ap (take (length old)) (h ∙ e) ∙ kept_prefix old a

-- Words with one space between each two are the first word, then a space and a word for each other.
pub join_words : {X : Type 0} (f : X → List ℕ) (w : List ℕ) (xs : List X) → join_with_byte 32 (w ∷ map f xs) ≡ w ++ flat_map (λ x. 32 ∷ f x) xs
join_words f w [] = sym (append-nil w)
join_words f w (x ∷ xs) = ap (λ t. w ++ (32 ∷ t)) (join_words f (f x) xs)

-- The text of an id is the text of its bytes.
pub text_of_id : (text bytes form : List ℕ) (id : ℕ) → text ≡ hyphenated_text lower form → form ≡ bytes → bytes ≡ to_be_bytes w128 id → text ≡ id_text id
text_of_id text bytes form id t f b = t ∙ ap (hyphenated_text lower) (f ∙ b)
