-- A gate's block and the first block of its body, which are read together, and then the rest of the body.
use Rattle.std.specs.Prelude.{◌≡◌, ℕ, ◌+◌, ◌-◌, ◌*◌, ◌<◌, ◌≤◌, List, [], ◌++◌, length, take, drop}
use Rattle.std.proofs.Common.{refl, sym, ◌∙◌, ap, subst, inl, inr, arith, length-drop, append-nil}
use Rattle.std.proofs.lemmas.List.{take-take, take_at, drop_all, length-take-le, take-append-drop}
use borrow.Rule.Slice.PartMut.{put_mid}
use Rattle.btr_disk.specs.Bytes.{Image, Has}
use Rattle.btr_disk.specs.Gate.{mark, IsOpen}
use Rattle.btr_disk.proofs.ByteLemmas.{Has-append, Has-joined, Has-take, Has-one}
use Rattle.btr_log.specs.declared.head.Head.{Head}
use Rattle.btr_log.specs.Head.{head_bytes, Spells, IsNoHead}
use Rattle.btr_log.proofs.HeadLemmas.{length-head_bytes}
use Rattle.btr_log.specs.Found.{IsWholeExtent, SpellsAt, HasNoHead, IsDamagedExtent, after_first}

-- a write of a whole slice of a vector
pub written_whole : (len : ℕ) (xs items : List ℕ) → length xs ≡ len → take len (xs ++ drop (length xs) items) ≡ xs
written_whole len xs items size = take_at xs (drop (length xs) items) len size

-- a body whose first block was read before, and the others now
pub Has-put_mid : (image : Image) (first : ℕ) (body rest : List ℕ) → 4096 ≤ length body → Has image (4096 * first) (take 4096 body) → Has image (4096 * (first + 1)) rest → Has image (4096 * first) (put_mid 4096 (length body - 4096) body rest)
Has-put_mid image first body rest size has has_rest =
    let none : drop (length body - 4096) (drop 4096 body) ≡ [] = drop_all (length body - 4096) (drop 4096 body) (omega (arith, length-drop 4096 body)) in
    let all : rest ++ drop (length body - 4096) (drop 4096 body) ≡ rest = ap (λ l. rest ++ l) none ∙ append-nil rest in
    let place : 4096 * (first + 1) ≡ 4096 * first + length (take 4096 body) = omega (arith, length-take-le 4096 body size) in
    Has-joined image (4096 * first) (take 4096 body) (rest ++ drop (length body - 4096) (drop 4096 body)) has
    (subst (λ a. Has image a (rest ++ drop (length body - 4096) (drop 4096 body))) place (subst (Has image (4096 * (first + 1))) (sym all) has_rest))

module _ (image : Image) (gate : ℕ) (prefix : List ℕ) (size : length prefix ≡ 8192) (has : Has image (4096 * gate) prefix) where
  pub Has-rest : Has image (4096 * (gate + 1)) (after_first prefix)
  Has-rest =
      let parts = Has-append image (4096 * gate) (take 4096 prefix) (drop 4096 prefix) (subst (Has image (4096 * gate)) (sym (take-append-drop 4096 prefix)) has) in
      let le : 4096 ≤ length prefix = omega arith in
      let place : 4096 * gate + length (take 4096 prefix) ≡ 4096 * (gate + 1) = omega (arith, length-take-le 4096 prefix le) in
      Has-take image (4096 * (gate + 1)) (length prefix - 4096) (drop 4096 prefix) (subst (λ a. Has image a (drop 4096 prefix)) place parts.1)

  pub is_open_prefix : take 8 prefix ≡ mark → IsOpen image gate
  is_open_prefix begins = subst (Has image (4096 * gate)) begins (Has-take image (4096 * gate) 8 prefix has)

  length-head : length (take 64 (after_first prefix)) ≡ 64
  length-head =
      let le : 64 ≤ length prefix - 4096 = omega arith in
      let drops : length (drop 4096 prefix) ≡ 4096 = omega (arith, length-drop 4096 prefix) in
      ap length (take-take 64 (length prefix - 4096) (drop 4096 prefix) le) ∙ length-take-le 64 (drop 4096 prefix) (omega arith)

  -- the head in the image is the one that was read
  pub SpellsAt-prefix : (head : Head) → Spells (take 64 (after_first prefix)) head → SpellsAt image (gate + 1) head
  SpellsAt-prefix head spells = record {
    is_head = spells.is_head;
    stored = subst (Has image (4096 * (gate + 1))) spells.spelling (Has-take image (4096 * (gate + 1)) 64 (after_first prefix) Has-rest);
  }

  pub HasNoHead-prefix : IsNoHead (take 64 (after_first prefix)) → HasNoHead image (gate + 1)
  HasNoHead-prefix none head at =
      let same : take 64 (after_first prefix) ≡ head_bytes head = Has-one image (4096 * (gate + 1)) (take 64 (after_first prefix)) (head_bytes head) (length-head ∙ sym (length-head_bytes head)) (Has-take image (4096 * (gate + 1)) 64 (after_first prefix) Has-rest) at.stored in
      none head (record { is_head = at.is_head; spelling = same })

  module _ (blocks : ℕ) (below : gate + 1 < blocks) (begins : take 8 prefix ≡ mark) where
    pub damaged_by_no_head : IsNoHead (take 64 (after_first prefix)) → IsDamagedExtent image blocks gate (gate + 1)
    damaged_by_no_head none =
        record { is_open = is_open_prefix begins; damage = inr (below, refl, inl (HasNoHead-prefix none)) }

    pub damaged_by_no_room : (head : Head) → Spells (take 64 (after_first prefix)) head → blocks ≤ gate + head.n + 1 → IsDamagedExtent image blocks gate (gate + 1)
    damaged_by_no_room head spells much =
        record { is_open = is_open_prefix begins; damage = inr (below, refl, inr (head, SpellsAt-prefix head spells, much)) }

-- the body is that of the head
pub whole_extent : (blocks gate : ℕ) (head : Head) (prefix body : List ℕ) → Spells (take 64 prefix) head → length body ≡ 4096 * head.n → take 4096 body ≡ prefix → gate + head.n + 1 < blocks → IsWholeExtent blocks gate head body (gate + head.n + 1)
whole_extent blocks gate head prefix body spells size begins inside =
    let same : take 64 prefix ≡ take 64 body = ap (take 64) (sym begins) ∙ take-take 64 4096 body (omega arith) in
    record { is_body = record { spells = subst (λ b. Spells b head) same spells; whole = size }; follows = refl; inside = inside }
