-- Endless paths of digits: how often a share meets a path, by the empty words and by the first digit.
use Rattle.std.proofs.Common.{◌≡◌, ℕ, zero, suc, ◌+◌, ◌≤◌, Bool, true, false, ◌&&◌, if◌then◌else◌, List, [], ◌∷◌, ◌++◌, length, inl, inr, refl, sym, ap, ap₂, ◌∙◌, arith}
use Rattle.std.proofs.lemmas.Bool.{cases_Bool, and_parts, true≢false}
use Rattle.btr_gate.specs.Numbers.{one}
use Rattle.btr_gate.specs.Shares.{begins, path_after, on_path, has_empty, after_digit, longest, covers_to}
use mathlib.Core.Bool.{beq}

-- The path that has d first and then goes on as another path.
abbrev pub path_from : Bool → (ℕ → Bool) → ℕ → Bool
path_from d path zero = d
path_from d path (suc n) = path n

-- A path that a word begins.
abbrev pub path_of : List Bool → ℕ → Bool
path_of [] n = false
path_of (d ∷ word) n = path_from d (path_of word) n

same_digit : (d : Bool) (b : Bool) → (if beq d d then b else false) ≡ b
same_digit true b = refl
same_digit false b = refl

pub path_of_begins : (word : List Bool) → begins (path_of word) word ≡ true
path_of_begins [] = refl
path_of_begins (d ∷ word) = same_digit d (begins (path_of word) word) ∙ path_of_begins word

last_digit : (b : Bool) → one (if beq false b then true else false) + one (if beq true b then true else false) ≡ one true
last_digit true = refl
last_digit false = refl

next_digit : (b x y z : Bool) → one x + one y ≡ one z → one (if b then x else false) + one (if b then y else false) ≡ one (if b then z else false)
next_digit true x y z e = e
next_digit false x y z e = refl

-- Exactly one of a word's two longer words begins a path that the word begins.
pub word_halves : (path : ℕ → Bool) (word : List Bool) → one (begins path (word ++ false ∷ [])) + one (begins path (word ++ true ∷ [])) ≡ one (begins path word)
word_halves path [] = last_digit (path 0)
word_halves path (d ∷ word) =
    next_digit (beq d (path 0)) _ _ _ (word_halves (path_after path) word)

-- How many words of a share are empty.
abbrev pub empties : List (List Bool) → ℕ
empties [] = 0
empties ([] ∷ words) = 1 + empties words
empties ((d ∷ word) ∷ words) = empties words

pub empties_some : (words : List (List Bool)) → has_empty words ≡ true → 1 ≤ empties words
empties_some [] e = absurd (true≢false (sym e))
empties_some ([] ∷ words) e = omega arith
empties_some ((d ∷ word) ∷ words) e = empties_some words e

pub empties_none : (words : List (List Bool)) → has_empty words ≡ false → empties words ≡ 0
empties_none [] e = refl
empties_none ([] ∷ words) e = absurd (true≢false e)
empties_none ((d ∷ word) ∷ words) e = empties_none words e

parted_word : (path : ℕ → Bool) (b : Bool) (word : List Bool) (words : List (List Bool)) (met none : ℕ) → met ≡ none + on_path path words → one (if b then begins path word else false) + met ≡ none + on_path path (if b then word ∷ words else words)
parted_word path true word words met none e = omega arith
parted_word path false word words met none e = omega arith

-- A share meets a path by its empty words, and by the words that begin with the path's first digit.
pub parted : (path : ℕ → Bool) (words : List (List Bool)) → on_path path words ≡ empties words + on_path (path_after path) (after_digit (path 0) words)
parted path [] = refl
parted path ([] ∷ words) = let e = parted path words in omega arith
parted path ((d ∷ word) ∷ words) =
    parted_word (path_after path) (beq d (path 0)) word (after_digit (path 0) words) _ _ (parted path words)

-- No word of a part is longer than the longest word less one digit.
shorter_word : (b : Bool) (word : List Bool) (words : List (List Bool)) (depth : ℕ) → length word ≤ depth → longest words ≤ depth → longest (if b then word ∷ words else words) ≤ depth
shorter_word true word words depth h r = omega arith
shorter_word false word words depth h r = r

pub shorter : (d : Bool) (words : List (List Bool)) (depth : ℕ) → longest words ≤ suc depth → longest (after_digit d words) ≤ depth
shorter d [] depth h = omega arith
shorter d ([] ∷ words) depth h = shorter d words depth (omega arith)
shorter d ((e ∷ word) ∷ words) depth h =
    shorter_word (beq e d) word (after_digit d words) depth (omega arith) (shorter d words depth (omega arith))

part_covers : (depth : ℕ) (words : List (List Bool)) (d : Bool) → (covers_to depth (after_digit false words) && covers_to depth (after_digit true words)) ≡ true → covers_to depth (after_digit d words) ≡ true
part_covers depth words false c = (and_parts _ _ c).0
part_covers depth words true c = (and_parts _ _ c).1

-- A share that covers to a depth meets each path.
pub covers_to_meets : (depth : ℕ) (words : List (List Bool)) → covers_to depth words ≡ true → (path : ℕ → Bool) → 1 ≤ on_path path words
covers_to_meets zero words c path =
    let some_of = empties_some words c in
    let p = parted path words in
    omega arith
covers_to_meets (suc depth) words c path =
    let p = parted path words in
    elim (cases_Bool (has_empty words)) [
      | inl e ↦ let some_of = empties_some words e in omega arith
      | inr e ↦
          let both = sym (ap (λ b. if b then true else covers_to depth (after_digit false words) && covers_to depth (after_digit true words)) e) ∙ c in
          let part = covers_to_meets depth (after_digit (path 0) words) (part_covers depth words (path 0) both) (path_after path) in
          omega arith
    ]

no_depth : (words : List (List Bool)) → longest words ≤ 0 → 1 ≤ on_path (λ n. false) words → has_empty words ≡ true
no_depth [] h m = absurd (omega arith)
no_depth ([] ∷ words) h m = refl
no_depth ((d ∷ word) ∷ words) h m = absurd (omega arith)

-- A share that meets each path covers to the length of its longest word.
pub meets_within : (depth : ℕ) (words : List (List Bool)) → longest words ≤ depth → ((path : ℕ → Bool) → 1 ≤ on_path path words) → covers_to depth words ≡ true
meets_within zero words h m = no_depth words h (m (λ n. false))
meets_within (suc depth) words h m =
    elim (cases_Bool (has_empty words)) [
      | inl e ↦ ap (λ b. if b then true else covers_to depth (after_digit false words) && covers_to depth (after_digit true words)) e
      | inr e ↦
          let none = empties_none words e in
          let part : (d : Bool) → covers_to depth (after_digit d words) ≡ true = λ d. meets_within depth (after_digit d words) (shorter d words depth h) (λ path.
          let p = parted (path_from d path) words in
          let at = m (path_from d path) in
          omega arith) in
          ap (λ b. if b then true else covers_to depth (after_digit false words) && covers_to depth (after_digit true words)) e
          ∙ ap₂ (λ x y. x && y) (part false) (part true)
    ]
