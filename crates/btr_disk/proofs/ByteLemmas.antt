-- Lemmas on bytes at addresses, for each crash proof above: by index, along images that agree, and over ranges.
use Rattle.std.specs.Prelude.{◌≡◌, ℕ, ◌+◌, ◌<◌, ◌≤◌, ◌⊎◌, ◌&&◌, nat_le, nat_lt, if◌then◌else◌, List, [], ◌∷◌, length, ◌++◌, take, drop}
use Rattle.std.proofs.Common.{suc, zero, get_or, refl, sym, ◌∙◌, subst, arith, inl, inr, ⊎_elim}
use Rattle.std.proofs.lemmas.Bool.{cases_lt}
use Rattle.std.proofs.lemmas.Bool.Decides.{nat_tests}
use Rattle.std.proofs.lemmas.List.{ext_get_or, take-append-drop}
use mathlib.Core.Path.{fun_ext}
use Rattle.btr_disk.specs.Bytes.{Image, Has, Same, SameBut, SameButTwo, IsOutside, AreBytes}

-- the byte at each index
pub Has-at : (image : Image) (address : ℕ) (bytes : List ℕ) → Has image address bytes → (k : ℕ) → k < length bytes → image (address + k) ≡ get_or bytes k 0
Has-at image address [] has k lt = absurd (omega arith)
Has-at image address (b ∷ bytes) has zero lt =
    let e : address ≡ address + 0 = omega arith in
    subst (λ i. image i ≡ b) e has.0
Has-at image address (b ∷ bytes) has (suc k) lt =
    let e : suc address + k ≡ address + suc k = omega arith in
    subst (λ i. image i ≡ get_or bytes k 0) e (Has-at image (suc address) bytes has.1 k (omega arith))

pub Has-from_each : (image : Image) (address : ℕ) (bytes : List ℕ) → ((k : ℕ) → k < length bytes → image (address + k) ≡ get_or bytes k 0) → Has image address bytes
Has-from_each image address [] each = tt
Has-from_each image address (b ∷ bytes) each =
    let e : address + 0 ≡ address = omega arith in (
      subst (λ i. image i ≡ b) e (each 0 (omega arith)),
      Has-from_each image (suc address) bytes (λ k lt.
          let f : address + suc k ≡ suc address + k = omega arith in
          subst (λ i. image i ≡ get_or bytes k 0) f (each (suc k) (omega arith))),
    )

-- if two images agree on the range, both have the bytes
pub Has-along : (old new : Image) (address : ℕ) (bytes : List ℕ) → Has old address bytes → ((k : ℕ) → address ≤ k → k < address + length bytes → new k ≡ old k) → Has new address bytes
Has-along old new address bytes has agree =
    Has-from_each new address bytes (λ k lt. agree (address + k) (omega arith) (omega arith) ∙ Has-at old address bytes has k lt)

pub Has-Same : (old new : Image) (address : ℕ) (bytes : List ℕ) → Same old new → Has old address bytes → Has new address bytes
Has-Same old new address bytes same has = Has-along old new address bytes has (λ k low high. same k)

-- at most one list of a length is at an address
pub Has-one : (image : Image) (address : ℕ) (xs ys : List ℕ) → length xs ≡ length ys → Has image address xs → Has image address ys → xs ≡ ys
Has-one image address xs ys size x y =
    ext_get_or 0 xs ys size (λ k lt. sym (Has-at image address xs x k lt) ∙ Has-at image address ys y k (omega arith))

pub Same-refl : (image : Image) → Same image image
Same-refl image k = refl

pub Same-sym : (old new : Image) → Same old new → Same new old
Same-sym old new same k = sym (same k)

pub Same-trans : (old mid new : Image) → Same old mid → Same mid new → Same old new
Same-trans old mid new first second k = second k ∙ first k

pub Same-is : (old new : Image) → Same old new → new ≡ old
Same-is old new same = fun_ext same

pub SameBut-refl : (address length : ℕ) (image : Image) → SameBut address length image image
SameBut-refl address length image = record { below = λ k lt. refl; above = λ k le. refl }

pub SameBut-trans : (address length : ℕ) (old mid new : Image) → SameBut address length old mid → SameBut address length mid new → SameBut address length old new
SameBut-trans address length old mid new first second =
    record { below = λ k lt. second.below k lt ∙ first.below k lt; above = λ k le. second.above k le ∙ first.above k le }

pub SameBut-sym : (address length : ℕ) (old new : Image) → SameBut address length old new → SameBut address length new old
SameBut-sym address length old new but = record { below = λ k lt. sym (but.below k lt); above = λ k le. sym (but.above k le) }

pub SameBut-from_Same : (address length : ℕ) (old new : Image) → Same old new → SameBut address length old new
SameBut-from_Same address length old new same = record { below = λ k lt. same k; above = λ k le. same k }

-- outside its range
pub SameBut-at : (address length : ℕ) (old new : Image) → SameBut address length old new → (k : ℕ) → IsOutside address length k → new k ≡ old k
SameBut-at address length old new but k outside =
    ⊎_elim (but.below k) (λ le. but.above k (outside le)) (cases_lt k address)

-- the first range, and then the second
pub SameButTwo-from : (address length other more : ℕ) (old mid new : Image) → SameBut address length old mid → SameBut other more mid new → SameButTwo address length other more old new
SameButTwo-from address length other more old mid new first second k out out_too =
    SameBut-at other more mid new second k out_too ∙ SameBut-at address length old mid first k out

-- `inner` at the `length` addresses from this one on, and `outer` elsewhere
unfoldable pub patched : ℕ → ℕ → Image → Image → Image
patched address length inner outer k = if nat_le address k && nat_lt k (address + length) then inner k else outer k

pub patched-inside : (address length : ℕ) (inner outer : Image) (k : ℕ) → address ≤ k → k < address + length → patched address length inner outer k ≡ inner k
unfolding patched
patched-inside address length inner outer k low high = grind (arith, nat_tests)

pub patched-below : (address length : ℕ) (inner outer : Image) (k : ℕ) → k < address → patched address length inner outer k ≡ outer k
unfolding patched
patched-below address length inner outer k lt = grind (arith, nat_tests)

pub patched-above : (address length : ℕ) (inner outer : Image) (k : ℕ) → address + length ≤ k → patched address length inner outer k ≡ outer k
unfolding patched
patched-above address length inner outer k le = grind (arith, nat_tests)

pub SameBut-patched : (address length : ℕ) (inner outer : Image) → SameBut address length outer (patched address length inner outer)
SameBut-patched address length inner outer =
    record { below = λ k lt. patched-below address length inner outer k lt; above = λ k le. patched-above address length inner outer k le }

-- inside a range, below it or above it
pub cases_range : (address length k : ℕ) → ((address ≤ k) × (k < address + length)) ⊎ IsOutside address length k
cases_range address length k =
    ⊎_elim (λ lt. inr (λ le. absurd (omega arith))) (λ le. ⊎_elim (λ lt. inl (le, lt)) (λ far. inr (λ _. far)) (cases_lt k (address + length))) (cases_lt k address)

pub AreBytes-patched : (address length : ℕ) (inner outer : Image) → AreBytes inner → AreBytes outer → AreBytes (patched address length inner outer)
AreBytes-patched address length inner outer ins outs k =
    ⊎_elim
    (λ inside. subst (λ b. b < 256) (sym (patched-inside address length inner outer k inside.0 inside.1)) (ins k))
    (λ outside. subst (λ b. b < 256) (sym (SameBut-at address length outer _ (SameBut-patched address length inner outer) k outside)) (outs k))
    (cases_range address length k)

-- bytes below a range that changed, and above it
pub Has-below : (address n : ℕ) (old new : Image) → SameBut address n old new → (at : ℕ) (bytes : List ℕ) → at + length bytes ≤ address → Has old at bytes → Has new at bytes
Has-below address n old new but at bytes le has = Has-along old new at bytes has (λ k low high. but.below k (omega arith))

pub Has-above : (address n : ℕ) (old new : Image) → SameBut address n old new → (at : ℕ) (bytes : List ℕ) → address + n ≤ at → Has old at bytes → Has new at bytes
Has-above address n old new but at bytes le has = Has-along old new at bytes has (λ k low high. but.above k (omega arith))

-- bytes beside two ranges that changed
pub Has-beside : (address n other more : ℕ) (old new : Image) → SameButTwo address n other more old new → (at : ℕ) (bytes : List ℕ) → ((k : ℕ) → at ≤ k → k < at + length bytes → IsOutside address n k × IsOutside other more k) → Has old at bytes → Has new at bytes
Has-beside address n other more old new but at bytes out has =
    Has-along old new at bytes has (λ k low high. let o = out k low high in but k o.0 o.1)

-- a change in a range is one in each wider range
pub SameBut-wider : (address n wide more : ℕ) (old new : Image) → wide ≤ address → address + n ≤ wide + more → SameBut address n old new → SameBut wide more old new
SameBut-wider address n wide more old new low high but =
    record { below = λ k lt. but.below k (omega arith); above = λ k le. but.above k (omega arith) }

-- a list in two parts
pub Has-append : (image : Image) (address : ℕ) (xs ys : List ℕ) → Has image address (xs ++ ys) → Has image address xs × Has image (address + length xs) ys
Has-append image address [] ys has =
    let e : address ≡ address + 0 = omega arith in
    (tt, subst (λ a. Has image a ys) e has)
Has-append image address (x ∷ xs) ys has =
    let rest = Has-append image (suc address) xs ys has.1 in
    let e : suc address + length xs ≡ address + suc (length xs) = omega arith in
    ((has.0, rest.0), subst (λ a. Has image a ys) e rest.1)

pub Has-joined : (image : Image) (address : ℕ) (xs ys : List ℕ) → Has image address xs → Has image (address + length xs) ys → Has image address (xs ++ ys)
Has-joined image address [] ys first second =
    let e : address + 0 ≡ address = omega arith in
    subst (λ a. Has image a ys) e second
Has-joined image address (x ∷ xs) ys first second =
    let e : address + suc (length xs) ≡ suc address + length xs = omega arith in
    (first.0, Has-joined image (suc address) xs ys first.1 (subst (λ a. Has image a ys) e second))

-- a prefix of the bytes at an address
pub Has-take : (image : Image) (address n : ℕ) (xs : List ℕ) → Has image address xs → Has image address (take n xs)
Has-take image address n xs has = (Has-append image address (take n xs) (drop n xs) (subst (Has image address) (sym (take-append-drop n xs)) has)).0
