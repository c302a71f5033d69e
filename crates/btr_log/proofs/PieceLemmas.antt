-- Lemmas on pieces: the bytes of the blocks that they hold, and an extent that is found in them.
use Rattle.std.specs.Prelude.{◌≡◌, ℕ, ◌+◌, ◌-◌, ◌*◌, ◌<◌, ◌≤◌, List, length, min, take, drop, Option, None, Some, Result, Ok, Err, IfErr}
use Rattle.std.proofs.Common.{refl, sym, ◌∙◌, ap, subst, arith, length-drop}
use Rattle.std.proofs.lemmas.List.{take-take, drop-take, drop-drop, length-take-le, take-append-drop}
use Rattle.btr_disk.specs.Bytes.{Image, Has, Same}
use Rattle.btr_disk.specs.Gate.{mark, IsOpen, IsClosed}
use Rattle.btr_disk.proofs.ByteLemmas.{Has-append, Has-take, Has-one, Has-Same, Same-sym, Same-is}
use Rattle.btr_log.specs.declared.head.Head.{Head}
use Rattle.btr_log.specs.declared.found.ExtentFault.{ExtentFault}
use Rattle.btr_log.specs.declared.found.ExtentFault.TheVariants.{Damaged, Fault, Want}
use Rattle.btr_log.specs.Head.{Spells}
use Rattle.btr_log.specs.Found.{FindCause, IsDamagedExtent, IsOpenStart, IsDamagedStart, StartSays, after_first}
use Rattle.btr_log.specs.Piece.{PieceValue, IsPieceOf, HoldsBlocks, bytes_at}
use Rattle.btr_log.specs.Ahead.{HoldsExtent}
use Rattle.btr_log.proofs.HeadLemmas.{Spells-one}
use Rattle.btr_log.proofs.GateAndHead.{is_open_prefix}

-- the number of blocks of a start: some, and two if the gate is not the last block
pub min_some : (n : ℕ) → 1 ≤ n → 1 ≤ min 2 n
min_some n le = grind arith

pub min_two : (n : ℕ) → 2 ≤ n → min 2 n ≡ 2
min_two n le = grind arith

-- a start has no more blocks than an extent and its gate
pub min_few : (left n : ℕ) → 1 ≤ n → min 2 left ≤ n + 1
min_few left n some = grind arith

module _ (p : PieceValue) (block count : ℕ) (holds : HoldsBlocks p block count) where
  pub length-bytes_at : length (bytes_at p block count) ≡ 4096 * count
  length-bytes_at =
      length-take-le (4096 * count) (drop (4096 * (block - p.first)) p.bytes) (omega (arith, holds.begins, holds.ends, length-drop (4096 * (block - p.first)) p.bytes))

  pub Has-bytes_at : (image : Image) → IsPieceOf image p → Has image (4096 * block) (bytes_at p block count)
  Has-bytes_at image has =
      let at = 4096 * (block - p.first) in
      let parts = Has-append image (4096 * p.first) (take at p.bytes) (drop at p.bytes) (subst (Has image (4096 * p.first)) (sym (take-append-drop at p.bytes)) has) in
      let le : at ≤ length p.bytes = omega (arith, holds.begins, holds.ends) in
      let same : 4096 * p.first + length (take at p.bytes) ≡ 4096 * block = omega (arith, holds.begins, length-take-le at p.bytes le) in
      Has-take image (4096 * block) (4096 * count) (drop at p.bytes) (subst (λ a. Has image a (drop at p.bytes)) same parts.1)

-- the same, in an image of before
pub Has-bytes_before : (old new : Image) → Same old new → (p : PieceValue) (block count : ℕ) → HoldsBlocks p block count → IsPieceOf new p → Has old (4096 * block) (bytes_at p block count)
Has-bytes_before old new same p block count holds has =
    Has-Same new old (4096 * block) (bytes_at p block count) (Same-sym old new same) (Has-bytes_at p block count holds new has)

-- a closed gate in the bytes is closed in the image
pub IsClosed-start : (image : Image) (gate : ℕ) (bytes : List ℕ) → 8 ≤ length bytes → Has image (4096 * gate) bytes → (take 8 bytes ≡ mark → ⊥) → IsClosed image gate
IsClosed-start image gate bytes le has closed is_open =
    closed (Has-one image (4096 * gate) (take 8 bytes) mark (length-take-le 8 bytes le) (Has-take image (4096 * gate) 8 bytes has) is_open)

-- the cause of a damaged start
pub FindCause-start : (P : Type 0) (image : Image) (blocks gate before after : ℕ) (bytes : List ℕ) (fault : ExtentFault) → (P → Has image (4096 * gate) bytes) → IsDamagedStart blocks gate bytes fault → FindCause P image blocks gate before after fault
FindCause-start P image blocks gate before after bytes (Damaged block) has damaged = λ p. damaged image (has p)
FindCause-start P image blocks gate before after bytes Fault has damaged = absurd damaged
FindCause-start P image blocks gate before after bytes Want has damaged = tt

-- a piece holds fewer blocks too, and the bytes of this many from a block on
pub fewer : (p : PieceValue) (block n count : ℕ) → n ≤ count → HoldsBlocks p block count → HoldsBlocks p block n
fewer p block n count le holds = record { begins = holds.begins; ends = omega (arith, le, holds.ends) }

-- the start of an extent, which a piece holds: the gate and the block after it, or the gate alone
abbrev pub start_bytes : PieceValue → ℕ → ℕ → List ℕ
start_bytes p blocks gate = bytes_at p gate (min 2 (blocks - gate))

module _ (p : PieceValue) (blocks gate count : ℕ) (few : min 2 (blocks - gate) ≤ count) (holds : HoldsBlocks p gate count) where
  holds-start : HoldsBlocks p gate (min 2 (blocks - gate))
  holds-start = fewer p gate (min 2 (blocks - gate)) count few holds

  pub length-start : length (start_bytes p blocks gate) ≡ 4096 * min 2 (blocks - gate)
  length-start = length-bytes_at p gate (min 2 (blocks - gate)) holds-start

  -- an image of before has its bytes
  pub Has-start : (old new : Image) → Same old new → IsPieceOf new p → Has old (4096 * gate) (start_bytes p blocks gate)
  Has-start old new same has = Has-bytes_before old new same p gate (min 2 (blocks - gate)) holds-start has

  pub closed-start : (image : Image) → gate < blocks → Has image (4096 * gate) (start_bytes p blocks gate) → StartSays blocks gate (start_bytes p blocks gate) None → IsClosed image gate
  closed-start image inside has closed =
      let some = min_some (blocks - gate) (omega (arith, inside)) in
      IsClosed-start image gate (start_bytes p blocks gate) (omega (arith, length-start, some)) has closed

  module _ (head : Head) (start : IsOpenStart blocks gate (start_bytes p blocks gate) head) where
    two : min 2 (blocks - gate) ≡ 2
    two = min_two (blocks - gate) (omega (arith, start.inside))

    size : length (start_bytes p blocks gate) ≡ 8192
    size = omega (arith, two, length-start)

    some-blocks : 1 ≤ head.n
    some-blocks = omega (arith, start.spells.is_head.blocks)

    -- the body begins with the head
    first-bytes : take 64 (after_first (start_bytes p blocks gate)) ≡ take 64 (bytes_at p (gate + 1) head.n)
    first-bytes =
        let at = 4096 * (gate - p.first) in
        let held = drop at p.bytes in
        let next : 4096 * (gate + 1 - p.first) ≡ at + 4096 = omega (arith, holds.begins) in
        let xs = start_bytes p blocks gate in
        let both : 4096 * min 2 (blocks - gate) ≡ 4096 + 4096 = omega (arith, two) in
        let next : 4096 * (gate + 1 - p.first) ≡ at + 4096 = omega (arith, holds.begins) in
        take-take 64 (length xs - 4096) (drop 4096 xs) (omega (arith, size))
        ∙ ap (λ n. take 64 (drop 4096 (take n held))) both
        ∙ ap (take 64) (drop-take 4096 4096 held)
        ∙ take-take 64 4096 (drop 4096 held) (omega arith)
        ∙ ap (take 64) (drop-drop 4096 at p.bytes)
        ∙ sym (ap (λ n. take 64 (drop n p.bytes)) next)
        ∙ sym (take-take 64 (4096 * head.n) (drop (4096 * (gate + 1 - p.first)) p.bytes) (omega (arith, some-blocks)))

    pub holds-extent : head.n + 1 ≤ count → HoldsExtent blocks gate p head
    holds-extent whole =
        let body : HoldsBlocks p (gate + 1) head.n = record { begins = omega (arith, holds.begins); ends = omega (arith, whole, holds.ends) } in
        record {
          held = body;
          whole = record {
            is_body = record { spells = subst (λ b. Spells b head) first-bytes start.spells; whole = length-bytes_at p (gate + 1) head.n body };
            follows = refl;
            inside = start.inside;
          };
        }

    pub matches-extent : (old new : Image) → Same old new → IsPieceOf new p → head.n + 1 ≤ count → IsOpen old gate × Has old (4096 * (gate + 1)) (bytes_at p (gate + 1) head.n)
    matches-extent old new same has whole = (
      is_open_prefix old gate (start_bytes p blocks gate) size (Has-start old new same has) start.is_open,
      Has-bytes_before old new same p (gate + 1) head.n (holds-extent whole).held has,
    )

-- the cause of a fault of a start
pub FindCause-result : (P : Type 0) (image : Image) (blocks gate before after : ℕ) (bytes : List ℕ) (r : Result (Option Head) ExtentFault) → (P → Has image (4096 * gate) bytes) → IfErr r (IsDamagedStart blocks gate bytes) → IfErr r (FindCause P image blocks gate before after)
FindCause-result P image blocks gate before after bytes (Ok o) has damaged = tt
FindCause-result P image blocks gate before after bytes (Err fault) has damaged = FindCause-start P image blocks gate before after bytes fault has damaged

-- the cause of a fault of a later call is one of before
pub FindCause-before : (P : Type 0) (image mid : Image) (blocks gate before between after : ℕ) (fault : ExtentFault) → (P → Same image mid) → before ≤ between → FindCause P mid blocks gate between after fault → FindCause P image blocks gate before after fault
FindCause-before P image mid blocks gate before between after (Damaged block) same le damaged = λ p.
    subst (λ (i : Image). IsDamagedExtent i blocks gate block) (Same-is image mid (same p)) (damaged p)
FindCause-before P image mid blocks gate before between after Fault same le rose = grind arith
FindCause-before P image mid blocks gate before between after Want same le rose = tt

-- what two pieces of one image say of a gate is the same
pub one-start : (image : Image) (blocks gate : ℕ) (xs ys : List ℕ) (head : Head) (o : Option Head) → length xs ≡ length ys → Has image (4096 * gate) xs → Has image (4096 * gate) ys → IsOpenStart blocks gate xs head → StartSays blocks gate ys o → o ≡ Some head
one-start image blocks gate xs ys head None size has_xs has_ys start closed =
    let same = Has-one image (4096 * gate) xs ys size has_xs has_ys in
    absurd (closed (subst (λ b. take 8 b ≡ mark) same start.is_open))
one-start image blocks gate xs ys head (Some again) size has_xs has_ys start found =
    let same = Has-one image (4096 * gate) xs ys size has_xs has_ys in
    let there = subst (λ b. Spells (take 64 (after_first b)) head) same start.spells in
    ap Some (Spells-one (take 64 (after_first ys)) again head found.spells there)
