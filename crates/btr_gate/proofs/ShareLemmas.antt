-- Lemmas on shares: how often they meet a path, when they cover, and which of them cover alike.
use Rattle.std.proofs.Common.{◌≡◌, ◌≢◌, ℕ, suc, ◌+◌, ◌≤◌, Bool, true, List, [], ◌∷◌, ◌++◌, length, inl, inr, refl, sym, ap, ◌∙◌, le_refl, arith}
use Rattle.std.proofs.lemmas.Bool.{cases_Bool, false_from_ne_true, true≢false}
use mathlib.Core.Option.{some}
use lib.ListN.{get_elem?}
use Rattle.btr_gate.specs.Numbers.{one, total}
use Rattle.btr_gate.specs.Shares.{begins, on_path, with_digit, kept_half, other_half, longest, covers}
use Rattle.btr_gate.proofs.Totals.{total_append, others_none}
use Rattle.btr_gate.proofs.Paths.{path_of, path_of_begins, word_halves, covers_to_meets, meets_within}

pub on_path_append : (path : ℕ → Bool) (a b : List (List Bool)) → on_path path (a ++ b) ≡ on_path path a + on_path path b
on_path_append path a b = total_append (λ word. one (begins path word)) a b

-- Both halves of a share together meet each path as often as the share.
pub on_path_halves : (path : ℕ → Bool) (words : List (List Bool)) → on_path path (kept_half words) + on_path path (other_half words) ≡ on_path path words
on_path_halves path [] = refl
on_path_halves path (word ∷ words) =
    let here = word_halves path word in
    let rest = on_path_halves path words in
    omega arith

pub length_halves : (d : Bool) (words : List (List Bool)) → length (with_digit d words) ≡ length words
length_halves d [] = refl
length_halves d (word ∷ words) = ap suc (length_halves d words)

-- A share that meets no path has no word.
pub unmet_empty : (words : List (List Bool)) → ((path : ℕ → Bool) → on_path path words ≡ 0) → words ≡ []
unmet_empty [] none = refl
unmet_empty (word ∷ words) none =
    let here = ap one (path_of_begins word) in
    let never = none (path_of word) in
    absurd (omega arith)

pub covers_meets : (words : List (List Bool)) → covers words ≡ true → (path : ℕ → Bool) → 1 ≤ on_path path words
covers_meets words c path = covers_to_meets (longest words) words c path

pub meets_covers : (words : List (List Bool)) → ((path : ℕ → Bool) → 1 ≤ on_path path words) → covers words ≡ true
meets_covers words m = meets_within (longest words) words (le_refl _) m

covers_both : (a b : List (List Bool)) → ((path : ℕ → Bool) → on_path path a ≡ on_path path b) → covers a ≡ true → covers b ≡ true
covers_both a b e c =
    meets_covers b (λ path. let m = covers_meets a c path in let s = e path in omega arith)

-- Shares that meet each path alike cover alike.
pub cover_same : (a b : List (List Bool)) → ((path : ℕ → Bool) → on_path path a ≡ on_path path b) → covers a ≡ covers b
cover_same a b e =
    elim (cases_Bool (covers a)) [
      | inl c ↦ c ∙ sym (covers_both a b e c)
      | inr c ↦ c
          ∙ sym (false_from_ne_true (covers b) (λ d. true≢false (sym (covers_both b a (λ path. sym (e path)) d) ∙ c)))
    ]

pub cover_alike : (a b rest : List (List Bool)) → ((path : ℕ → Bool) → on_path path a ≡ on_path path b) → covers (a ++ rest) ≡ covers (b ++ rest)
cover_alike a b rest e =
    cover_same (a ++ rest) (b ++ rest) (λ path.
    let p = on_path_append path a rest in
    let q = on_path_append path b rest in
    let s = e path in
    omega arith)

-- If the shares of a list together meet each path once, and one of them covers, then each other has no word.
pub alone_covers : {V : Type 0} (share : V → List (List Bool)) (views : List V) (i j : ℕ) (v u : V) → ((path : ℕ → Bool) → total (λ x. on_path path (share x)) views ≡ 1) → get_elem? views i ≡ some v → covers (share v) ≡ true → j ≢ i → get_elem? views j ≡ some u → share u ≡ []
alone_covers share views i j v u whole at c ne other =
    unmet_empty (share u) (λ path.
    let sum = whole path in
    let met = covers_meets (share v) c path in
    others_none (λ x. on_path path (share x)) views i j v u (omega arith) ne at other)
