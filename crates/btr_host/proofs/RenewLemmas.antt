-- Lemmas on blocks that are written anew with the bytes that they have.
use Rattle.std.specs.Prelude.{◌≡◌, ℕ, ◌+◌, ◌-◌, ◌*◌, ◌<◌, List, [], ◌∷◌, ◌++◌, length, take, true, false, Some, Result, Ok, Err, OnOk, OnErr}
use Rattle.std.proofs.Common.{refl, sym, ◌∙◌, subst, inl, inr, arith}
use Rattle.std.proofs.lemmas.Bool.{cases_lt}
use Rattle.std.proofs.lemmas.List.{length-take-le}
use Rattle.btr_disk.specs.Bytes.{Image, Has, Same, SameBut, AreBytes}
use Rattle.btr_disk.specs.Images.{SameImages, Tears}
use Rattle.btr_disk.specs.Gate.{mark, IsOpen, IsClosed}
use Rattle.btr_disk.proofs.ByteLemmas.{Has-at, Has-one, Has-take, Same-is, SameBut-at, SameBut-patched, AreBytes-patched, patched, patched-inside, cases_range}
use Rattle.btr_host.specs.LogEnd.{IsLastGateOf}
use Rattle.btr_host.specs.Renewed.{IsInNone, TearsBlocks, RenewsBlock, Renews, TearsAtMost}

-- both images have the same bytes in the block, and agree elsewhere
pub Same-written : (old new : Image) (address : ℕ) (bytes : List ℕ) → Has old address bytes → Has new address bytes → SameBut address (length bytes) old new → Same old new
Same-written old new address bytes was is elsewhere k =
    elim (cases_lt k address) [
      | inl below ↦ elsewhere.below k below
      | inr from ↦ elim (cases_lt k (address + length bytes)) [
        | inl inside ↦
            let place : address + (k - address) ≡ k = omega arith in
            let at : k - address < length bytes = omega arith in
            subst (λ i. new i ≡ old i) place (Has-at new address bytes is (k - address) at ∙ sym (Has-at old address bytes was (k - address) at))
        | inr after ↦ elsewhere.above k after
      ]
    ]

pub on_ok : {T E : Type 0} (r : Result T E) (P Q : Type 0) → (P → Q) → OnOk r P → OnOk r Q
on_ok (Ok v) P Q f p = f p
on_ok (Err e) P Q f p = tt

-- nothing was written before
pub Tears-after : (address n : ℕ) (old mid new : Image → Type 0) → SameImages old mid → Tears address n mid new → Tears address n old new
Tears-after address n old mid new same tears = record {
  torn = λ c left. let from = tears.torn c left in (from.0, same.none_new from.0 from.1, from.2);
  unsynced = λ c d was. tears.unsynced c d (same.none_gone d was);
}

module _ (image : Image) (block : ℕ) (bytes : List ℕ) (has : Has image (4096 * block) bytes) where
  -- a block that begins with the mark
  pub open_by : take 8 bytes ≡ mark → IsOpen image block
  open_by begins = subst (Has image (4096 * block)) begins (Has-take image (4096 * block) 8 bytes has)

  -- a block that does not
  pub closed_by : length bytes ≡ 4096 → (take 8 bytes ≡ mark → ⊥) → IsClosed image block
  closed_by size not is_open =
      let size8 : length (take 8 bytes) ≡ 8 = length-take-le 8 bytes (omega (arith, size)) in
      not (Has-one image (4096 * block) (take 8 bytes) mark size8 (Has-take image (4096 * block) 8 bytes has) is_open)

-- no block was written
pub TearsBlocks-none : (old new : Image → Type 0) → SameImages old new → TearsBlocks [] old new
TearsBlocks-none old new same = record {
  torn = λ c left. (c, same.none_new c left, λ k out. refl);
  unsynced = λ c d was agree bytes. same.none_gone c (subst old (sym (Same-is d c (λ k. agree k tt))) was);
}

-- one block was written before
pub TearsBlocks-first : (block : ℕ) (blocks : List ℕ) (old mid new : Image → Type 0) → ((d : Image) → old d → AreBytes d) → Tears (4096 * block) 4096 old mid → TearsBlocks blocks mid new → TearsBlocks (block ∷ blocks) old new
TearsBlocks-first block blocks old mid new old_bytes first rest = record {
  torn = λ c left.
      let from = rest.torn c left in
      let before = first.torn from.0 from.1 in
      (before.0, before.1, λ k out. from.2 k out.1 ∙ SameBut-at (4096 * block) 4096 before.0 from.0 before.2 k out.0);
  unsynced = λ c d was agree bytes.
      let between = patched (4096 * block) 4096 c d in
      let but : SameBut (4096 * block) 4096 d between = SameBut-patched (4096 * block) 4096 c d in
      let torn : mid between = first.unsynced between d was but (AreBytes-patched (4096 * block) 4096 c d bytes (old_bytes d was)) in
      rest.unsynced c between torn
      (λ k out.
      elim (cases_range (4096 * block) 4096 k) [
        | inl inside ↦ sym (patched-inside (4096 * block) 4096 c d k inside.0 inside.1)
        | inr outside ↦ agree k (outside, out) ∙ sym (SameBut-at (4096 * block) 4096 d between but k outside)
      ])
      bytes;
}

-- a block that is written in any case
pub RenewsBlock-written : (block : ℕ) (image : Image) (old new : Image → Type 0) → RenewsBlock true block image old new → Tears (4096 * block) 4096 old new
RenewsBlock-written block image old new (inl written) = written.1
RenewsBlock-written block image old new (inr left) = let never : true ≡ false = left.0 in absurd (cc)

-- all gates were written anew
pub Renews-all : (size : ℕ) (image : Image) (gate : ℕ) (old first second new : Image → Type 0) → ((d : Image) → old d → AreBytes d) → ((d : Image) → first d → AreBytes d) → ((d : Image) → second d → AreBytes d) → IsLastGateOf size image (Some gate) → Tears 0 4096 old first → Tears 8192 4096 first second → RenewsBlock false gate image second new → Renews size image old new
Renews-all size image gate old first second new old_bytes first_bytes second_bytes last one two (inl written) = record {
  gate = Some gate;
  last = last;
  renewed = (
    0 ∷ 2 ∷ gate ∷ [],
    inl (elim written.0 [ inl never ↦ absurd (cc) | inr is_open ↦ is_open ], refl),
    TearsBlocks-first 0 (2 ∷ gate ∷ []) old first new old_bytes one
        (TearsBlocks-first 2 (gate ∷ []) first second new first_bytes two
        (TearsBlocks-first gate [] second new new second_bytes written.1
        (TearsBlocks-none new new (record { none_new = λ c left. left; none_gone = λ c left. left })))),
  );
}
Renews-all size image gate old first second new old_bytes first_bytes second_bytes last one two (inr left) = record {
  gate = Some gate;
  last = last;
  renewed = (
    0 ∷ 2 ∷ [],
    inr (left.1, refl),
    TearsBlocks-first 0 (2 ∷ []) old first new old_bytes one
        (TearsBlocks-first 2 [] first second new first_bytes two
        (TearsBlocks-none second new left.2)),
  );
}

-- ---- after a failure

-- nothing was written
pub AtMost-none : (blocks : List ℕ) (was is : Image) (old new : Image → Type 0) → Same was is → SameImages old new → TearsAtMost blocks was is old new
AtMost-none blocks was is old new same images = record {
  elsewhere = λ k out. same k;
  torn = λ c left. (c, images.none_new c left, λ k out. refl);
}

none_append : (xs ys : List ℕ) (k : ℕ) → IsInNone (xs ++ ys) k → IsInNone xs k × IsInNone ys k
none_append [] ys k out = (tt, out)
none_append (x ∷ xs) ys k out = let rest = none_append xs ys k out.1 in ((out.0, rest.0), rest.1)

-- some blocks, and then others
pub AtMost-then : (xs ys : List ℕ) (was mid is : Image) (old between new : Image → Type 0) → TearsAtMost xs was mid old between → TearsAtMost ys mid is between new → TearsAtMost (xs ++ ys) was is old new
AtMost-then xs ys was mid is old between new first second = record {
  elsewhere = λ k out. let parts = none_append xs ys k out in second.elsewhere k parts.1 ∙ first.elsewhere k parts.0;
  torn = λ c left.
      let from = second.torn c left in
      let before = first.torn from.0 from.1 in
      (before.0, before.1, λ k out. let parts = none_append xs ys k out in from.2 k parts.1 ∙ before.2 k parts.0);
}

pub on_err : {T E : Type 0} (r : Result T E) (P : Type 0) → P → OnErr r P
on_err (Ok v) P p = tt
on_err (Err e) P p = p
