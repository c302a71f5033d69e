-- Lemmas on facts of each item of a list, together with the items before it.
use Rattle.std.proofs.Common.{◌≡◌, ◌∙◌, ◌⊎◌, inl, inr, ⊎_elim, refl, sym, ap, subst, List, [], ◌∷◌, ◌++◌, length, length-append, append-nil, arith}
use Rattle.btr_lines.specs.Moments.{EachAfter}

-- the head of a list, or this item
abbrev head_of : {A : Type 0} → A → List A → A
head_of a [] = a
head_of a (x ∷ xs) = x

abbrev tail_of : {A : Type 0} → List A → List A
tail_of [] = []
tail_of (x ∷ xs) = xs

no_item : {A : Type 0} (before : List A) (item : A) (after : List A) → [] ≡ before ++ item ∷ after → ⊥
no_item before item after e = omega (arith, ap length e, length-append before (item ∷ after))

-- an item of two lists, one after the other, is in the first
record InFirst {A : Type 0} (xs before : List A) (item : A) : Type 0 where
  pub after : List A
  pub is : xs ≡ before ++ item ∷ after

-- or in the second
record InSecond {A : Type 0} (xs ys before : List A) (item : A) : Type 0 where
  pub front : List A
  pub after : List A
  pub is : ys ≡ front ++ item ∷ after
  pub before_is : before ≡ xs ++ front

in_which : {A : Type 0} (xs ys before : List A) (item : A) (after : List A) → xs ++ ys ≡ before ++ item ∷ after
    → InFirst xs before item ⊎ InSecond xs ys before item
in_which [] ys before item after e = inr (record { front = before; after = after; is = e; before_is = refl })
in_which (x ∷ xs) ys [] item after e =
    inl (record { after = xs; is = ap (λ a. a ∷ xs) (ap (head_of item) e) })
in_which (x ∷ xs) ys (b ∷ before) item after e =
    let first : x ≡ b = ap (head_of b) e in
    ⊎_elim
    (λ i. inl (record { after = i.after; is = ap (λ a. a ∷ xs) first ∙ ap (λ l. b ∷ l) i.is }))
    (λ i. inr (record {
      front = i.front;
      after = i.after;
      is = i.is;
      before_is = ap (λ l. b ∷ l) i.before_is ∙ ap (λ a. a ∷ xs ++ i.front) (sym first);
    }))
    (in_which xs ys before item after (ap tail_of e))

module _ {A : Type 0} (P : List A → A → Type 0) where
  pub each_after-none : EachAfter P []
  each_after-none before item after e = absurd (no_item before item after e)

  -- two lists, one after the other
  pub each_after-append : (xs ys : List A) → EachAfter P xs → EachAfter (λ before item. P (xs ++ before) item) ys → EachAfter P (xs ++ ys)
  each_after-append xs ys first second before item after e =
      ⊎_elim
      (λ i. first before item i.after i.is)
      (λ i. subst (λ b. P b item) (sym i.before_is) (second i.front item i.after i.is))
      (in_which xs ys before item after e)

  -- one item
  one : (x : A) → P [] x → EachAfter P (x ∷ [])
  one x last [] item after e = subst (P []) (ap (head_of item) e) last
  one x last (b ∷ before) item after e = absurd (no_item before item after (ap tail_of e))

module _ {A : Type 0} (P : List A → A → Type 0) where
  -- one item more
  pub each_after-push : (xs : List A) (x : A) → EachAfter P xs → P xs x → EachAfter P (xs ++ x ∷ [])
  each_after-push xs x first last =
      each_after-append P xs (x ∷ []) first (one (λ before item. P (xs ++ before) item) x (subst (λ b. P b x) (sym (append-nil xs)) last))

  -- a weaker fact
  pub each_after-weaker : (Q : List A → A → Type 0) → ((before : List A) (item : A) → P before item → Q before item) → (xs : List A) → EachAfter P xs → EachAfter Q xs
  each_after-weaker Q weaker xs each before item after e = weaker before item (each before item after e)
