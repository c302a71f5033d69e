-- Lemmas on the text of `sample`, which is appended row by row.
use Rattle.std.proofs.Common.{◌≡◌, ℕ, zero, suc, ◌+◌, ◌*◌, List, [], ◌∷◌, ◌++◌, zero-mul, sym, ap, ◌∙◌, arith}
use Rattle.std.specs.List.{flat_map, range_with_len}
use Rattle.std.specs.Int.{to_be_bytes, w128}
use Rattle.std.proofs.lemmas.List.{flat_map_more}
use Rattle.uuid.specs.Text.{hyphenated_text, lower}
use Rattle.btr_rows.specs.Sample.{row_id_text, next_state, state_at}

-- The text of an id is the text of its bytes.
pub text_of_id : (text bytes form : List ℕ) (id : ℕ) → text ≡ hyphenated_text lower form → form ≡ bytes → bytes ≡ to_be_bytes w128 id → text ≡ row_id_text id
text_of_id text bytes form id t f b = t ∙ ap (hyphenated_text lower) (f ∙ b)

range-more : (a n : ℕ) → range_with_len a (n + 1) ≡ range_with_len a n ++ (a + n) ∷ []
range-more a zero = ap (λ m. m ∷ []) (omega arith)
range-more a (suc n) =
    ap (range_with_len a) (one-later n) ∙ ap (λ l. a ∷ l) (range-more (a + 1) n ∙ ap (λ m. range_with_len (a + 1) n ++ m ∷ []) (omega arith))
  where
    one-later : (n : ℕ) → suc n + 1 ≡ suc (n + 1)
    one-later n = omega arith

-- One more item of a range.
pub range-push : (f : ℕ → List ℕ) (old text more : List ℕ) (n : ℕ) → text ≡ old ++ flat_map f (range_with_len 0 n) → more ≡ text ++ f n → more ≡ old ++ flat_map f (range_with_len 0 (n + 1))
range-push f old text more n e g =
    let range : range_with_len 0 (n + 1) ≡ range_with_len 0 n ++ n ∷ [] = range-more 0 n ∙ ap (λ m. range_with_len 0 n ++ m ∷ []) (omega arith) in
    g ∙ ap (λ t. t ++ f n) e ∙ flat_map_more f old (range_with_len 0 n) n ∙ ap (λ l. old ++ flat_map f l) (sym range)

-- The state after another is the next one.
pub next-at : (number n m s t : ℕ) → s ≡ state_at number n → t ≡ next_state s → m ≡ n + 1 → t ≡ state_at number m
unfolding state_at
next-at number n m s t e f g =
    let later : suc n ≡ m = omega arith in
    f ∙ ap next_state e ∙ ap (state_at number) later

pub first-state : (number streams s : ℕ) → s ≡ number → s ≡ state_at number (0 * streams)
unfolding state_at
first-state number streams s e = e ∙ ap (state_at number) (sym (zero-mul streams))

pub next-instant : (instant streams : ℕ) → instant * streams + streams ≡ (instant + 1) * streams
next-instant instant streams = grind arith
