-- Lemmas on lists that begin with another, and on the longer of two such lists.
use Rattle.std.proofs.Common.{◌≡◌, ◌<◌, ◌≤◌, Bool, if◌then◌else◌, ◌⊎◌, List, [], ◌∷◌, ◌++◌, length, inl, inr, refl, sym, ap, ◌∙◌, subst, arith, append_assoc, append-nil, length-append}
use Rattle.std.proofs.lemmas.Bool.{cases_lt, lt-ltb, le-ltb}
use mathlib.Core.List.{head-eq_of_cons-eq, tail-eq_of_cons-eq}
use Rattle.btr_gate.specs.Prefixes.{StartsWith, longer}

module _ {A : Type 0} where
  pub starts_refl : (l : List A) → StartsWith l l
  starts_refl l = ([], sym (append-nil l))

  pub starts_append : (l more : List A) → StartsWith (l ++ more) l
  starts_append l more = (more, refl)

  pub starts_trans : (a b c : List A) → StartsWith a b → StartsWith b c → StartsWith a c
  starts_trans a b c p q =
      (q.0 ++ p.0, p.1 ∙ ap (λ (x : List A). x ++ p.0) q.1 ∙ append_assoc c q.0 p.0)

  pub starts_more : (l a more : List A) → StartsWith l a → StartsWith (l ++ more) a
  starts_more l a more p = starts_trans (l ++ more) l a (starts_append l more) p

  pub starts_length : (l a : List A) → StartsWith l a → length a ≤ length l
  starts_length l a p =
      let e = ap (λ (x : List A). length x) p.1 in
      let s = length-append a p.0 in
      omega arith

  no_rest : (rest : List A) → length rest ≤ 0 → rest ≡ []
  no_rest [] h = refl
  no_rest (x ∷ rest) h = absurd (omega arith)

  -- A list that is no longer than what it begins with is that list.
  pub starts_whole : (l a : List A) → StartsWith l a → length l ≤ length a → l ≡ a
  starts_whole l a p short =
      let e = ap (λ (x : List A). length x) p.1 in
      let s = length-append a p.0 in
      p.1 ∙ ap (λ (x : List A). a ++ x) (no_rest p.0 (omega arith)) ∙ append-nil a

  rest_of : (a b x y : List A) → a ++ x ≡ b ++ y → length a ≤ length b → StartsWith b a
  rest_of [] b x y e h = (b, refl)
  rest_of (u ∷ a) [] x y e h = absurd (omega arith)
  rest_of (u ∷ a) (v ∷ b) x y e h =
      let r = rest_of a b x y (tail-eq_of_cons-eq e) (omega arith) in
      (r.0, λ i. sym (head-eq_of_cons-eq e) i ∷ r.1 i)

  -- Of two beginnings of one list, the longer begins with the shorter.
  pub starts_between : (l a b : List A) → StartsWith l a → StartsWith l b → length a ≤ length b → StartsWith b a
  starts_between l a b p q h = rest_of a b p.0 q.0 (sym p.1 ∙ q.1) h

  pub starts_same : (l a b : List A) → StartsWith l a → StartsWith l b → length a ≡ length b → a ≡ b
  starts_same l a b p q e =
      starts_whole a b (starts_between l b a q p (omega arith)) (omega arith)

  longer_cases : (a b : List A) (P : List A → Type 0) → (length b ≤ length a → P a) → (length a < length b → P b) → P (longer a b)
  longer_cases a b P p q =
      elim (cases_lt (length a) (length b)) [
        | inl lt ↦ subst (λ (c : Bool). P (if c then b else a)) (sym (lt-ltb (length a) (length b) lt)) (q lt)
        | inr le ↦ subst (λ (c : Bool). P (if c then b else a)) (sym (le-ltb (length a) (length b) le)) (p le)
      ]

  pub longer_starts : (h a b : List A) → StartsWith h a → StartsWith h b → StartsWith h (longer a b)
  longer_starts h a b p q = longer_cases a b (λ x. StartsWith h x) (λ le. p) (λ lt. q)

  pub longer_first : (h a b : List A) → StartsWith h a → StartsWith h b → StartsWith (longer a b) a
  longer_first h a b p q =
      longer_cases a b (λ x. StartsWith x a) (λ le. starts_refl a)
      (λ lt. starts_between h a b p q (omega arith))

  pub longer_second : (h a b : List A) → StartsWith h a → StartsWith h b → StartsWith (longer a b) b
  longer_second h a b p q =
      longer_cases a b (λ x. StartsWith x b) (λ le. starts_between h b a q p le) (λ lt. starts_refl b)

  -- If one of two beginnings of a list is the whole list, the longer is.
  pub longer_whole : (h a b : List A) → StartsWith h a → StartsWith h b → (a ≡ h) ⊎ (b ≡ h) → longer a b ≡ h
  longer_whole h a b p q (inl e) =
      longer_cases a b (λ x. x ≡ h) (λ le. e)
      (λ lt. let s = starts_length h b q in let n = ap (λ (x : List A). length x) e in absurd (omega arith))
  longer_whole h a b p q (inr e) =
      longer_cases a b (λ x. x ≡ h)
      (λ le. let n = ap (λ (x : List A). length x) e in sym (starts_whole h a p (omega arith))) (λ lt. e)
