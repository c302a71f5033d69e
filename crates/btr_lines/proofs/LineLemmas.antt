-- Lemmas on the pieces of an input.
use Rattle.std.proofs.Common.{◌≡◌, ◌∙◌, refl, ap, subst, ℕ, ◌+◌, ◌<◌, false, ◌==◌, List, [], ◌∷◌, ◌++◌, length, Contains, length-append, get_or-append-add, eq-eqb, arith}
use Rattle.std.specs.List.{onto_first}
use Rattle.std.proofs.lemmas.Bool.{both_ways}
use Rattle.std.proofs.lemmas.List.{get_or_append_left}
use Rattle.std.proofs.lemmas.List.Splits.{slice_split_none, slice_split_at, slice_split-cons_no, length-slice_split}
use Rattle.std.proofs.lemmas.List.Elements.{All-append, All-nil, All-head, All-tail}
use Rattle.btr_lines.specs.Lines.{pieces, HasNoFeed, IsFirstTooLong}

pub no_feed-none : HasNoFeed []
no_feed-none = All-nil (λ b. (b == 10) ≡ false)

pub no_feed-append : (xs ys : List ℕ) → HasNoFeed xs → HasNoFeed ys → HasNoFeed (xs ++ ys)
no_feed-append xs ys h k = All-append (λ b. (b == 10) ≡ false) xs ys h k

-- each of two parts of bytes without a line feed
pub no_feed-front : (xs ys : List ℕ) → HasNoFeed (xs ++ ys) → HasNoFeed xs
no_feed-front xs ys h k d l = subst (λ b. (b == 10) ≡ false) (get_or_append_left xs ys d k l) (h k d (omega (arith, l, length-append xs ys)))

pub no_feed-back : (xs ys : List ℕ) → HasNoFeed (xs ++ ys) → HasNoFeed ys
no_feed-back xs ys h k d l = subst (λ b. (b == 10) ≡ false) (get_or-append-add xs ys k d) (h (length xs + k) d (omega (arith, l, length-append xs ys)))

-- bytes with a line feed
pub feed_is_found : (bytes : List ℕ) → HasNoFeed bytes → Contains bytes 10 → ⊥
feed_is_found bytes h c = both_ways _ (h c.0 10 c.1) (eq-eqb _ _ c.2)

-- an input without a line feed is one piece
pub pieces-one : (line : List ℕ) → HasNoFeed line → pieces line ≡ line ∷ []
pieces-one line h = slice_split_none (λ b. b == 10) line h

-- a line feed ends the first piece
pub pieces-first : (line rest : List ℕ) → HasNoFeed line → pieces (line ++ 10 ∷ rest) ≡ line ∷ pieces rest
pieces-first line rest h = slice_split_at (λ b. b == 10) line 10 rest h refl

-- The first of the pieces, and the later ones.
pub record BeginsWith (part : List ℕ) (parts : List (List ℕ)) : Type 0 where
  pub first : List ℕ
  pub later : List (List ℕ)
  pub is : parts ≡ (part ++ first) ∷ later

some_piece : (parts : List (List ℕ)) → 0 < length parts → BeginsWith [] parts
some_piece [] l = absurd (omega arith)
some_piece (first ∷ later) l = record { first = first; later = later; is = refl }

-- bytes without a line feed begin the first piece
pub pieces-longer : (part rest : List ℕ) → HasNoFeed part → BeginsWith part (pieces (part ++ rest))
pieces-longer [] rest h = some_piece (pieces rest) (omega (arith, length-slice_split (λ b. b == 10) rest))
pieces-longer (b ∷ part) rest h =
    let more = pieces-longer part rest (All-tail (λ b. (b == 10) ≡ false) b part h) in
    record {
      first = more.first;
      later = more.later;
      is = slice_split-cons_no (λ b. b == 10) b (part ++ rest) (All-head (λ b. (b == 10) ≡ false) b part h) ∙ ap (onto_first b) more.is;
    }

-- a part of the first piece that is longer than the limit
pub first_too_long : (limit : ℕ) (part rest input : List ℕ) → HasNoFeed part → input ≡ part ++ rest → limit < length part → IsFirstTooLong limit input
first_too_long limit part rest input h e long =
    let begins = pieces-longer part rest h in
    (part ++ begins.first, begins.later, ap pieces e ∙ begins.is, omega (arith, long, length-append part begins.first))
