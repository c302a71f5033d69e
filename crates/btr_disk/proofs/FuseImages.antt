-- How the images of a fuse change as a write reaches the other device and then fails.
use Rattle.std.specs.Prelude.{◌≡◌, ℕ, ◌+◌, ◌≤◌, min}
use Rattle.std.proofs.Common.{sym, subst, ⊎_elim, arith}
use Rattle.std.proofs.lemmas.Bool.{cases_lt}
use Rattle.btr_disk.specs.declared.disk.Disk.{Ghosts}
use Rattle.btr_disk.specs.Bytes.{Image, AreBytes}
use Rattle.btr_disk.specs.Images.{MayTear}
use Rattle.btr_disk.specs.Causes.{Counted}
use Rattle.btr_disk.specs.Moments.{Elapses}
use Rattle.btr_disk.proofs.ByteLemmas.{SameBut-refl}

module _ {D : Type 0} (disk : Ghosts D) (old new : D) (counted : Counted (disk.calls old) (disk.calls new)) (time : Elapses (disk.calls old) (disk.images_since old) (disk.images_since new) (disk.images_now new)) (withheld : ℕ) where
  -- a write: each image of before is one after it, also since a call number that withheld calls have raised
  pub cut_off_time : (address n : ℕ) → ((c : Image) → disk.images_now old c → AreBytes c) → MayTear address n (disk.images_now old) (disk.images_now new) → ((t : ℕ) (c : Image) → t ≤ disk.calls new → disk.images_now new c → disk.images_since new t c) → ((c : Image) → disk.images_since old (disk.calls old) c → disk.images_now old c) → ((s t : ℕ) (c : Image) → s ≤ t → t ≤ disk.calls new → disk.images_since new t c → disk.images_since new s c) → Elapses (disk.calls old + withheld) (λ t c. disk.images_since old (min t (disk.calls old)) c) (λ t c. disk.images_since new (min t (disk.calls new)) c) (disk.images_now new)
  cut_off_time address n bytes tears counts only fewer = record {
    nothing_else = λ t c le left.
        time.nothing_else (min t (disk.calls old)) c (omega arith)
        (fewer (min t (disk.calls old)) (min t (disk.calls new)) c (omega (arith, counted.later)) (omega arith) left);
    keeps = λ t c le left.
        ⊎_elim
        (λ lt.
        let e : min t (disk.calls new) ≡ min t (disk.calls old) = omega (arith, lt, counted.later) in
        subst (λ x. disk.images_since new x c) (sym e) (time.keeps (min t (disk.calls old)) c (omega arith) left))
        (λ far.
        let f : min t (disk.calls old) ≡ disk.calls old = omega (arith, far) in
        let was : disk.images_now old c = only c (subst (λ x. disk.images_since old x c) f left) in
        counts (min t (disk.calls new)) c (omega arith) (tears c c was (SameBut-refl address n c) (bytes c was)))
        (cases_lt t (disk.calls old));
  }
