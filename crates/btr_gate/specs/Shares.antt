-- Shares, which are lists of binary words: their halves, the paths that they meet, and which of them cover.
use Rattle.std.specs.Prelude.{ℕ, zero, suc, max, Bool, true, false, ◌&&◌, List, [], ◌∷◌, ◌++◌, length, map, if◌then◌else◌}
use mathlib.Core.Bool.{beq}
use Rattle.btr_gate.specs.Numbers.{one, total}

-- An endless path without its first digit.
abbrev pub path_after : (ℕ → Bool) → ℕ → Bool
path_after path n = path (suc n)

-- A word begins an endless path of digits.
abbrev pub begins : (ℕ → Bool) → List Bool → Bool
begins path [] = true
begins path (d ∷ word) = if beq d (path 0) then begins (path_after path) word else false

-- How many words of a share begin the path.
abbrev pub on_path : (ℕ → Bool) → List (List Bool) → ℕ
on_path path words = total (λ word. one (begins path word)) words

-- Each word with one more digit.
abbrev pub with_digit : Bool → List (List Bool) → List (List Bool)
with_digit d words = map (λ word. word ++ d ∷ []) words

-- What a share keeps when it is split: each word with a further 0.
abbrev pub kept_half : List (List Bool) → List (List Bool)
kept_half words = with_digit false words

-- What the other share gets when a share is split: each word with a further 1.
abbrev pub other_half : List (List Bool) → List (List Bool)
other_half words = with_digit true words

-- The share has the empty word.
abbrev pub has_empty : List (List Bool) → Bool
has_empty [] = false
has_empty ([] ∷ words) = true
has_empty ((d ∷ word) ∷ words) = has_empty words

-- The words that begin with a digit, each without it.
abbrev pub after_digit : Bool → List (List Bool) → List (List Bool)
after_digit d [] = []
after_digit d ([] ∷ words) = after_digit d words
after_digit d ((e ∷ word) ∷ words) = if beq e d then word ∷ after_digit d words else after_digit d words

-- The length of the longest word.
abbrev pub longest : List (List Bool) → ℕ
longest [] = 0
longest (word ∷ words) = max (length word) (longest words)

-- A share covers to a depth if it has the empty word, or if both its parts, by the first digit, cover to one less.
abbrev pub covers_to : ℕ → List (List Bool) → Bool
covers_to zero words = has_empty words
covers_to (suc depth) words =
    if has_empty words then true else covers_to depth (after_digit false words) && covers_to depth (after_digit true words)

-- A share covers if it has the empty word, or if the words that begin with 0 and those that begin with 1 both cover, each
-- word without that first digit. The empty share does not cover.
abbrev pub covers : List (List Bool) → Bool
covers words = covers_to (longest words) words
