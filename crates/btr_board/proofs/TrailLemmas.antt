-- Lemmas on whole trails: one item more, one item set, and a node above the root.
use Rattle.std.specs.Prelude.{◌≡◌, ℕ, ◌+◌, ◌*◌, ◌^◌, ◌<◌, ◌≤◌, List, [], ◌∷◌, ◌++◌, length, set, slice_get, Bool, true, false, Option, None, Some, is_some, MatchOption}
use Rattle.std.proofs.Common.{refl, sym, ap, ◌∙◌, arith, inl, inr, add-one}
use Rattle.std.proofs.Common.{Bor}
use Rattle.std.specs.Option.{option_copied}
use Rattle.std.proofs.lemmas.Option.{slice_get_cases}
use Rattle.std.proofs.lemmas.Bool.{cases_lt}
use Rattle.std.proofs.lemmas.Nat.{pow_below}
use Rattle.std.proofs.Math.Pow.{pow_mono}
use Rattle.btr_board.specs.Put.{put_at}
use Rattle.btr_board.specs.Places.{IsFilled, IsTrail, listed, width}
use Rattle.btr_board.proofs.ListedLemmas.{filled-put, listed-push, listed-set, listed-alike}

pub width-next : (h : ℕ) → width h < width (h + 1)
unfolding width
width-next h = pow_below (5 * h) (5 * (h + 1)) (omega arith)

-- At most 2^64 places do not need a height of 13.
pub height-low : (h : ℕ) → width h < 2 ^ 64 → h ≤ 12
unfolding width
height-low h less =
    elim (cases_lt h 13) [
      | inl lt ↦ omega arith
      | inr le ↦ let large : 2 ^ 64 ≤ 2 ^ (5 * h) = pow_mono {i = 64} {j = 5 * h} (omega arith) in absurd (omega arith)
    ]

-- The widest height has room.
pub room-above : (h : ℕ) → 12 ≤ h → 2 ^ 64 ≤ width (h + 1)
unfolding width
room-above h le = pow_mono {i = 64} {j = 5 * (h + 1)} (omega arith)

-- A trail with one item more.
pub record IsPushed {T : Type 0} (h n m : ℕ) (x : T) (f g : ℕ → Option T) : Type 0 where
  pub trail : IsTrail h m g
  pub list : listed m g ≡ listed n f ++ x ∷ []

pub pushed-is : {T : Type 0} (h n m : ℕ) (x : T) (f g : ℕ → Option T) → h ≤ 12 → n < width (h + 1) → IsFilled f n → m ≡ n + 1 → ((j : ℕ) → g j ≡ put_at n x f j) → IsPushed h n m x f g
pushed-is h n m x f g low room filled next put =
    record {
      trail = record {
        low = low;
        fits = omega arith;
        filled = filled-put m n x f g (λ j lt ne. filled j (omega arith)) (λ j lt. put j);
      };
      list = ap (λ k. listed k g) (next ∙ add-one n) ∙ listed-push n x f g (λ j lt. put j);
    }

-- The same list, below a node above the root.
pub record IsRaised {T : Type 0} (h n : ℕ) (f g : ℕ → Option T) : Type 0 where
  pub low : h + 1 ≤ 12
  pub room : n < width (h + 1 + 1)
  pub filled : IsFilled g n
  pub list : listed n g ≡ listed n f

pub raised-is : {T : Type 0} (h n : ℕ) (f g : ℕ → Option T) → IsTrail h n f → n < 2 ^ 64 → width (h + 1) ≤ n → ((j : ℕ) → j < width (h + 1) → g j ≡ f j) → IsRaised h n f g
raised-is h n f g trail short full same =
    let fits = trail.fits in
    let wider = width-next (h + 1) in
    record {
      low = height-low (h + 1) (omega arith);
      room = omega arith;
      filled = λ j lt. ap is_some (same j (omega arith)) ∙ trail.filled j lt;
      list = listed-alike n g f (λ j lt. same j (omega arith));
    }

-- A trail with one item more, below a node above the root.
pub raised-push : {T : Type 0} (h n : ℕ) (x : T) (f g k : ℕ → Option T) → IsTrail h n f → n < 2 ^ 64 → width (h + 1) ≤ n → ((j : ℕ) → j < width (h + 1) → g j ≡ f j) → ((j : ℕ) → k j ≡ put_at n x g j) → IsPushed (h + 1) n (n + 1) x f k
raised-push h n x f g k trail short full same put =
    let raised = raised-is h n f g trail short full same in
    let pushed = pushed-is (h + 1) n (n + 1) x g k raised.low raised.room raised.filled refl put in
    record { trail = pushed.trail; list = pushed.list ∙ ap (λ xs. xs ++ x ∷ []) raised.list }

pub set-trail : {T : Type 0} (h n i : ℕ) (x : T) (f g : ℕ → Option T) → IsTrail h n f → ((j : ℕ) → g j ≡ put_at i x f j) → IsTrail h n g
set-trail h n i x f g trail put =
    record {
      low = trail.low;
      fits = trail.fits;
      filled = filled-put n i x f g (λ j lt ne. trail.filled j lt) (λ j lt. put j);
    }

pub set-list : {T : Type 0} (h n i : ℕ) (x : T) (f g : ℕ → Option T) → IsTrail h n f → i < n → ((j : ℕ) → g j ≡ put_at i x f j) → listed n g ≡ set (listed n f) i x
set-list h n i x f g trail lt put = listed-set n i x f g trail.filled lt (λ j _. put j)

-- What a test for room says if it fails.
pub full-is : (b : Bool) (n w : ℕ) → b ≡ false → (n < w → b ≡ true) → w ≤ n
full-is b n w e test = elim (cases_lt n w) [ inl lt ↦ absurd (let t = test lt in cc) | inr le ↦ le ]

-- An item that is found below the length.
pub match-item : {T : Type 0} (xs : List T) (i : ℕ) (r : Option (Bor T)) → option_copied r ≡ slice_get xs i → MatchOption r (length xs ≤ i) (λ x. slice_get xs i ≡ Some x.now)
match-item xs i None e =
    elim (slice_get_cases xs i).1 [ inl some ↦ absurd (let s = some.2 in cc) | inr past ↦ past.0 ]
match-item xs i (Some x) e = sym e
