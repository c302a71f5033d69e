-- A byte that is neither of two, and the images of several writes.
use Rattle.std.specs.Prelude.{◌≡◌, ◌≢◌, ℕ, ◌<◌, ◌==◌, ◌||◌, if◌then◌else◌, length}
use Rattle.std.proofs.Common.{sym, ◌∙◌, arith, ⊎_elim}
use Rattle.std.proofs.lemmas.Bool.Decides.{nat_tests}
use Rattle.btr_disk.specs.Bytes.{Image, Same, SameBut, IsOutside, AreBytes}
use Rattle.btr_disk.specs.Images.{Only, Torn, MayTear, MayTearTwice, DifferIn, IsUnsynced}
use Rattle.btr_disk.proofs.ByteLemmas.{SameBut-refl, SameBut-trans, SameBut-sym, SameBut-from_Same, SameBut-at, patched, patched-inside, SameBut-patched, AreBytes-patched, cases_range}

unfoldable pub other : ℕ → ℕ → ℕ
other x y = if (x == 0) || (y == 0) then (if (x == 1) || (y == 1) then 2 else 1) else 0

other-first : (x y : ℕ) → other x y ≢ x
unfolding other
other-first x y = grind (arith, nat_tests)

other-second : (x y : ℕ) → other x y ≢ y
unfolding other
other-second x y = grind (arith, nat_tests)

other-byte : (x y : ℕ) → other x y < 256
unfolding other
other-byte x y = grind (arith, nat_tests)

-- after a write that succeeded
pub is_unsynced : (address length : ℕ) (old new : Image) (before after : Image → Type 0) → AreBytes old → before old → after new → MayTear address length before after → IsUnsynced address length old new after
is_unsynced address length old new before after bytes was is tears =
    let inner : Image = λ k. other (old k) (new k) in
    let c : Image = patched address length inner old in
    record {
      before = tears old old was (SameBut-refl address length old) bytes;
      after = is;
      neither = (
        c,
        tears c old was (SameBut-patched address length inner old) (AreBytes-patched address length inner old (λ k. other-byte (old k) (new k)) bytes),
        λ k low high.
            let e : c k ≡ other (old k) (new k) = patched-inside address length inner old k low high in
            (λ same. other-first (old k) (new k) (sym e ∙ same), λ same. other-second (old k) (new k) (sym e ∙ same)),
      );
    }

-- after a sync that succeeded and a write
pub differ_in : (address length : ℕ) (old mid : Image) (images new : Image → Type 0) → Same old mid → Only mid images → Torn address length images new → DifferIn address length old new
differ_in address length old mid images new same only torn =
    let each : (c : Image) → new c → SameBut address length old c =
    λ c left.
    let from = torn c left in
    SameBut-trans address length old mid c (SameBut-from_Same address length old mid same)
    (SameBut-trans address length mid from.0 c (SameBut-from_Same address length mid from.0 (only.each from.0 from.1)) from.2)
    in
    record { each = each; two = λ c d one other. SameBut-trans address length c old d (SameBut-sym address length old c (each c one)) (each d other) }

-- after two writes that succeeded
pub may_tear_twice : (a n b m : ℕ) (old mid new : Image → Type 0) → ((c : Image) → old c → AreBytes c) → MayTear a n old mid → MayTear b m mid new → MayTearTwice a n b m old new
may_tear_twice a n b m old mid new bytes first second c d was two are =
    let e : Image = patched a n c d in
    let but : SameBut a n d e = SameBut-patched a n c d in
    let agree : (k : ℕ) → IsOutside b m k → c k ≡ e k =
    λ k out.
    ⊎_elim (λ inside. sym (patched-inside a n c d k inside.0 inside.1)) (λ outside. two k outside out ∙ sym (SameBut-at a n d e but k outside)) (cases_range a n k)
    in
    second c e (first e d was but (AreBytes-patched a n c d are (bytes d was)))
    (record { below = λ k lt. agree k (λ le. absurd (omega arith)); above = λ k le. agree k (λ _. le) }) are
