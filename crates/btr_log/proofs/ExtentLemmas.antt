-- Lemmas on extents: along images that agree, with one more at the end, and that a log has one list of bodies.
use Rattle.std.specs.Prelude.{◌≡◌, ◌⊎◌, ℕ, ◌+◌, ◌*◌, ◌<◌, ◌≤◌, List, [], ◌∷◌, ◌++◌, length, take}
use Rattle.std.proofs.Common.{suc, refl, sym, ◌∙◌, ap, subst, inl, inr, ⊎_elim, arith}
use Rattle.std.proofs.lemmas.Bool.{cases_eq}
use Rattle.std.proofs.lemmas.List.{length-take-le}
use Rattle.btr_disk.specs.Bytes.{Image, Has, Same}
use Rattle.btr_disk.specs.Gate.{mark, IsOpen, IsClosed}
use Rattle.btr_disk.specs.Images.{SameImages}
use Rattle.btr_disk.proofs.ByteLemmas.{Has-along, Has-one, Same-sym, Has-take}
use Rattle.btr_disk.proofs.ImageLemmas.{Only-along}
use Rattle.btr_log.specs.declared.head.Head.{Head}
use Rattle.btr_log.proofs.HeadLemmas.{Spells-one}
use Rattle.btr_log.specs.Extents.{IsBody, body_blocks, need, IsExtent, Extents, IsLog, AtRest, first_gate}

-- an image has bytes at an address or not
pub Has_or_not : (image : Image) (address : ℕ) (bytes : List ℕ) → Has image address bytes ⊎ (Has image address bytes → ⊥)
Has_or_not image address [] = inl tt
Has_or_not image address (byte ∷ bytes) =
    ⊎_elim
    (λ same. ⊎_elim (λ has. inl (same, has)) (λ no. inr (λ has. no has.1)) (Has_or_not image (suc address) bytes))
    (λ other. inr (λ has. other has.0))
    (cases_eq (image address) byte)

-- a gate is open or closed
pub open_or_closed : (image : Image) (block : ℕ) → IsOpen image block ⊎ IsClosed image block
open_or_closed image block = Has_or_not image (4096 * block) mark

-- along images that agree on the gate's block
pub IsOpen-along : (old new : Image) (block : ℕ) → ((k : ℕ) → 4096 * block ≤ k → k < 4096 * block + 4096 → new k ≡ old k) → IsOpen old block → IsOpen new block
IsOpen-along old new block agree is =
    Has-along old new (4096 * block) mark is (λ k low high. agree k low (omega arith))

pub IsClosed-along : (old new : Image) (block : ℕ) → ((k : ℕ) → 4096 * block ≤ k → k < 4096 * block + 4096 → new k ≡ old k) → IsClosed old block → IsClosed new block
IsClosed-along old new block agree closed is =
    closed (IsOpen-along new old block (λ k low high. sym (agree k low high)) is)

-- a body has the blocks that its head says, at least one
pub IsBody-blocks : (body : List ℕ) (head : Head) → IsBody body head → body_blocks body ≡ head.n
IsBody-blocks body head is = omega (arith, is.whole)

pub IsBody-some : (body : List ℕ) (head : Head) → IsBody body head → 4096 ≤ length body
IsBody-some body head is = omega (arith, is.whole, is.spells.is_head.blocks)

-- whole blocks
pub IsBody-whole : (body : List ℕ) (head : Head) → IsBody body head → length body ≡ 4096 * body_blocks body
IsBody-whole body head is = omega (arith, is.whole)

pub Extents-le : (image : Image) (gate : ℕ) (bodies : List (List ℕ)) (tail : ℕ) → Extents image gate bodies tail → gate ≤ tail
Extents-le image gate [] tail same = omega arith
Extents-le image gate (body ∷ rest) tail is =
    omega (arith, Extents-le image (gate + need body) rest tail is.1)

-- if two images agree from the gate to the tail
pub Extents-along : (old new : Image) (gate : ℕ) (bodies : List (List ℕ)) (tail : ℕ) → ((k : ℕ) → 4096 * gate ≤ k → k < 4096 * tail → new k ≡ old k) → Extents old gate bodies tail → Extents new gate bodies tail
Extents-along old new gate [] tail agree same = same
Extents-along old new gate (body ∷ rest) tail agree is =
    let one = is.0.1 in
    let le : gate + need body ≤ tail = Extents-le old (gate + need body) rest tail is.1 in
    let size : length body ≡ 4096 * body_blocks body = IsBody-whole body is.0.0 one.is_body in (
      (
        is.0.0,
        record {
          is_open = IsOpen-along old new gate (λ k low high. agree k low (omega arith)) one.is_open;
          is_body = one.is_body;
          stored = Has-along old new (4096 * (gate + 1)) body one.stored (λ k low high. agree k (omega arith) (omega arith));
        },
      ),
      Extents-along old new (gate + need body) rest tail (λ k low high. agree k (omega arith) high) is.1,
    )

-- one more extent at the end
pub Extents-push : (image : Image) (gate : ℕ) (bodies : List (List ℕ)) (tail : ℕ) (body : List ℕ) (head : Head) → Extents image gate bodies tail → IsExtent image tail body head → Extents image gate (bodies ++ body ∷ []) (tail + need body)
Extents-push image gate [] tail body head same one =
    let at : IsExtent image gate body head = subst (λ g. IsExtent image g body head) (sym same) one in
    ((head, at), ap (λ g. g + need body) same)
Extents-push image gate (first ∷ rest) tail body head is one =
    (is.0, Extents-push image (gate + need first) rest tail body head is.1 one)

-- two bodies at one address are one
pub IsBody-one : (image : Image) (address : ℕ) (xs ys : List ℕ) (first second : Head) → IsBody xs first → IsBody ys second → Has image address xs → Has image address ys → xs ≡ ys
IsBody-one image address xs ys first second x y has has_too =
    let low : 64 ≤ length xs = omega (arith, IsBody-some xs first x) in
    let low_too : 64 ≤ length ys = omega (arith, IsBody-some ys second y) in
    let prefix : take 64 xs ≡ take 64 ys = Has-one image address (take 64 xs) (take 64 ys) (length-take-le 64 xs low ∙ sym (length-take-le 64 ys low_too)) (Has-take image address 64 xs has) (Has-take image address 64 ys has_too) in
    let one : first ≡ second = Spells-one (take 64 xs) first second x.spells (rw prefix y.spells) in
    let size : length xs ≡ length ys = x.whole ∙ ap (λ (h : Head). 4096 * h.n) one ∙ sym y.whole in
    Has-one image address xs ys size has has_too

-- at most one list of bodies, up to a closed gate
pub Extents-one : (image : Image) (gate : ℕ) (xs ys : List (List ℕ)) (tail other : ℕ) → Extents image gate xs tail → IsClosed image tail → Extents image gate ys other → IsClosed image other → (xs ≡ ys) × (tail ≡ other)
Extents-one image gate [] [] tail other x closed y closed_too = (refl, sym x ∙ y)
Extents-one image gate [] (b ∷ ys) tail other x closed y closed_too =
    absurd (closed (subst (IsOpen image) x y.0.1.is_open))
Extents-one image gate (a ∷ xs) [] tail other x closed y closed_too =
    absurd (closed_too (subst (IsOpen image) y x.0.1.is_open))
Extents-one image gate (a ∷ xs) (b ∷ ys) tail other x closed y closed_too =
    let same : a ≡ b = IsBody-one image (4096 * (gate + 1)) a b x.0.0 y.0.0 x.0.1.is_body y.0.1.is_body x.0.1.stored y.0.1.stored in
    let rest : Extents image (gate + need a) ys other = subst (λ c. Extents image (gate + need c) ys other) (sym same) y.1 in
    let more = Extents-one image (gate + need a) xs ys tail other x.1 closed rest closed_too in
    (cc, more.1)

pub IsLog-one : (image : Image) (start : ℕ) (xs ys : List (List ℕ)) → IsLog image start xs → IsLog image start ys → xs ≡ ys
IsLog-one image start xs ys x y =
    (Extents-one image start xs ys x.0 y.0 x.1 x.2 y.1 y.2).0

pub IsLog-Same : (old new : Image) (start : ℕ) (bodies : List (List ℕ)) → Same old new → IsLog old start bodies → IsLog new start bodies
IsLog-Same old new start bodies same is = (
  is.0,
  Extents-along old new start bodies is.0 (λ k low high. same k) is.1,
  IsClosed-along old new is.0 (λ k low high. same k) is.2,
)

-- a log at rest is the log of its bodies, in each image that a crash may leave
pub AtRest-IsLog : (contents : Image) (images : Image → Type 0) (tail : ℕ) (bodies : List (List ℕ)) → AtRest contents images tail bodies → IsLog contents first_gate bodies
AtRest-IsLog contents images tail bodies rest = (tail, rest.extents, rest.closed)

pub AtRest-images : (contents : Image) (images : Image → Type 0) (tail : ℕ) (bodies : List (List ℕ)) → AtRest contents images tail bodies → (c : Image) → images c → IsLog c first_gate bodies
AtRest-images contents images tail bodies rest c left =
    IsLog-Same contents c first_gate bodies (rest.only.each c left) (AtRest-IsLog contents images tail bodies rest)

-- a log stays at rest if nothing is written
pub AtRest-along : (old new : Image) (before after : Image → Type 0) (tail : ℕ) (bodies : List (List ℕ)) → Same old new → SameImages before after → AtRest old before tail bodies → AtRest new after tail bodies
AtRest-along old new before after tail bodies same images rest = record {
  extents = Extents-along old new first_gate bodies tail (λ k low high. same k) rest.extents;
  closed = IsClosed-along old new tail (λ k low high. same k) rest.closed;
  only = Only-along old new before after (Same-sym old new same) images rest.only;
}
