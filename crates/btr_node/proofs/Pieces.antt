-- Pieces that are written one after another.
use Rattle.std.specs.Prelude.{◌≡◌, ℕ, ◌+◌, ◌*◌, ◌<◌, List, ◌++◌, length, take}
use Rattle.std.proofs.Common.{get_or, sym, ap, ◌∙◌, arith, append_assoc}
use Rattle.std.specs.List.{flat_map}
use Rattle.std.proofs.lemmas.List.{take_all, take_more, flat_map_more}

-- A piece that ends at the same index.
pub ends-at : (m n : ℕ) (new x : List ℕ) → m ≡ n → take n new ≡ x → take m new ≡ x
ends-at m n new x e h = ap (λ k. take k new) e ∙ h

-- Two pieces after a prefix.
pub two-pieces : (x x1 x2 p q : List ℕ) → x1 ≡ x ++ p → x2 ≡ x1 ++ q → x2 ≡ x ++ (p ++ q)
two-pieces x x1 x2 p q e1 e2 = e2 ∙ ap (λ l. l ++ q) e1 ∙ append_assoc x p q

-- Six pieces after a prefix.
pub six-pieces : (x x1 x2 x3 x4 x5 x6 p q r s u v : List ℕ) → x1 ≡ x ++ p → x2 ≡ x1 ++ q → x3 ≡ x2 ++ r → x4 ≡ x3 ++ s → x5 ≡ x4 ++ u → x6 ≡ x5 ++ v → x6 ≡ x ++ (p ++ q ++ r ++ s ++ u ++ v)
six-pieces x x1 x2 x3 x4 x5 x6 p q r s u v e1 e2 e3 e4 e5 e6 =
    two-pieces x x5 x6 (p ++ q ++ r ++ s ++ u) v
    (two-pieces x x4 x5 (p ++ q ++ r ++ s) u
    (two-pieces x x3 x4 (p ++ q ++ r) s
    (two-pieces x x2 x3 (p ++ q) r (two-pieces x x1 x2 p q e1 e2) e3) e4) e5) e6

-- One more item of a list, each of whose items is written in one width.
pub one-more : {X : Type 0} (f : X → List ℕ) (w : ℕ) (xs : List X) (i : ℕ) (d : X) (x old new : List ℕ) → i < length xs → take (64 + w * i) old ≡ x ++ flat_map f (take i xs) → take (64 + w * i + w) new ≡ take (64 + w * i) old ++ f (get_or xs i d) → take (64 + w * (i + 1)) new ≡ x ++ flat_map f (take (i + 1) xs)
one-more f w xs i d x old new lt so_far step =
    let at : 64 + w * (i + 1) ≡ 64 + w * i + w = omega arith in
    ap (λ n. take n new) at
    ∙ step
    ∙ ap (λ l. l ++ f (get_or xs i d)) so_far
    ∙ flat_map_more f x (take i xs) (get_or xs i d)
    ∙ ap (λ l. x ++ flat_map f l) (sym (take_more xs i d lt))

-- All items have been written.
pub all-items : {X : Type 0} (f : X → List ℕ) (w n i : ℕ) (xs : List X) (x to : List ℕ) → length xs ≡ n → i ≡ n → take (64 + w * i) to ≡ x ++ flat_map f (take i xs) → take (64 + w * n) to ≡ x ++ flat_map f xs
all-items f w n i xs x to len done so_far =
    ap (λ k. take (64 + w * k) to) (sym done)
    ∙ so_far
    ∙ ap (λ l. x ++ flat_map f l) (take_all i xs (omega arith))

-- A mark, the fields of both kinds and what follows them fill the page.
pub three-pieces : (mark fields body t1 t2 t3 : List ℕ) → take 8 t1 ≡ mark → take 64 t2 ≡ take 8 t1 ++ fields → take 4096 t3 ≡ take 64 t2 ++ body → length t3 ≡ 4096 → t3 ≡ mark ++ fields ++ body
three-pieces mark fields body t1 t2 t3 e1 e2 e3 len =
    sym (take_all 4096 t3 (omega arith)) ∙ e3 ∙ ap (λ l. l ++ body) (e2 ∙ ap (λ l. l ++ fields) e1)

pub four-pieces : (mark fields body rest t1 t2 t3 t4 : List ℕ) → take 8 t1 ≡ mark → take 64 t2 ≡ take 8 t1 ++ fields → take 3648 t3 ≡ take 64 t2 ++ body → take 4096 t4 ≡ take 3648 t3 ++ rest → length t4 ≡ 4096 → t4 ≡ mark ++ fields ++ body ++ rest
four-pieces mark fields body rest t1 t2 t3 t4 e1 e2 e3 e4 len =
    sym (take_all 4096 t4 (omega arith))
    ∙ e4
    ∙ ap (λ l. l ++ rest) (e3 ∙ ap (λ l. l ++ body) (e2 ∙ ap (λ l. l ++ fields) e1))
