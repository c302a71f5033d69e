-- What the tests of a block find exactly if the block is the bytes of a page.
use Rattle.std.specs.Prelude.{◌≡◌, ℕ, ◌*◌, List, [], ◌∷◌, ◌++◌, length, take, drop, slice_index, codes}
use Rattle.std.proofs.Common.{inl, inr, refl, sym, ap, ◌∙◌, subst, arith, append_assoc, length-append, ◌⊎◌}
use Rattle.std.specs.Prelude.{Bool, true, false, not, nat_eq}
use Rattle.std.specs.Cmp.Lexicographic.{pointwise, same_text, other_text}
use Rattle.std.specs.List.{flat_map}
use Rattle.std.proofs.lemmas.Bool.{false≢true}
use Rattle.std.proofs.lemmas.List.{drop_at, get_or-take}
use Rattle.std.proofs.lemmas.List.Concat.{flat_map-cons}
use Rattle.btr_base.specs.declared.point.Point.{Point}
use Rattle.btr_node.specs.declared.page.PageHeader.{PageHeader}
use Rattle.btr_node.specs.declared.page.PageSlot.{PageSlot}
use Rattle.btr_node.specs.declared.page.NodePage.{NodePage}
use Rattle.btr_node.specs.declared.page.NodePage.TheVariants.{Leaf, Inner}
use Rattle.btr_node.specs.Page.{header, number, header_bytes, point_bytes, slot_bytes, page_bytes, zeros, Fits, Spells, IsLeafPage, IsInnerPage}
use Rattle.btr_node.specs.Reading.{header_in, point_in, slot_in, items_in, AreExact}
use Rattle.btr_node.proofs.FitLemmas.{IsBytes, page_in, page-fits, length-items}
use Rattle.btr_node.proofs.PageLemmas.{page-again, leaf-in, inner-in, behind}
use Rattle.btr_node.proofs.Places.{length-header, length-slot, exact-places}
use Rattle.btr_node.proofs.Spelled.{leaf-spelled, inner-spelled}

letter : (bytes mark : List ℕ) → take 8 bytes ≡ mark → slice_index bytes 4 ≡ slice_index mark 4
letter bytes mark e =
    sym (get_or-take 8 bytes 4 0 (omega arith)) ∙ ap (λ l. slice_index l 4) e

-- ---- bytes that are compared

not-true : (b : Bool) → true ≡ not b → false ≡ b
not-true true e = absurd (false≢true (sym e))
not-true false e = refl

not-false : (b : Bool) → false ≡ not b → true ≡ b
not-false true e = refl
not-false false e = absurd (false≢true e)

pub other-bytes : (xs ys : List ℕ) → true ≡ not (pointwise nat_eq xs ys) → xs ≡ ys → ⊥
other-bytes xs ys e = other_text xs ys (not-true (pointwise nat_eq xs ys) e)

pub same-bytes : (xs ys : List ℕ) → false ≡ not (pointwise nat_eq xs ys) → xs ≡ ys
same-bytes xs ys e = same_text xs ys (not-false (pointwise nat_eq xs ys) e)

-- ---- both kinds

gap-again : (b0 b1 b2 b3 b4 b5 b6 b7 : ℕ) (f : PageHeader) (rest : List ℕ) → take 24 (drop 40 ((b0 ∷ b1 ∷ b2 ∷ b3 ∷ b4 ∷ b5 ∷ b6 ∷ b7 ∷ []) ++ header_bytes f ++ rest)) ≡ zeros 24
unfolding header_bytes number zeros
gap-again b0 b1 b2 b3 b4 b5 b6 b7 f rest = refl

pub gap-of : (p : NodePage) → take 24 (drop 40 (page_bytes p)) ≡ zeros 24
unfolding page_bytes
gap-of (Leaf start height stream version count points) =
    gap-again 66 84 82 45 76 69 65 70 (header (Leaf start height stream version count points)) (flat_map point_bytes points)
gap-of (Inner start height stream version count slots) =
    let f : PageHeader = header (Inner start height stream version count slots) in
    ap (λ l. take 24 (drop 40 l)) (append_assoc (codes "BTR-NODE" ++ header_bytes f) (flat_map slot_bytes slots) (zeros 448))
    ∙ gap-again 66 84 82 45 78 79 68 69 f (flat_map slot_bytes slots ++ zeros 448)

pub mark-of : (p : NodePage) → (take 8 (page_bytes p) ≡ codes "BTR-LEAF") ⊎ (take 8 (page_bytes p) ≡ codes "BTR-NODE")
unfolding page_bytes
mark-of (Leaf start height stream version count points) = inl refl
mark-of (Inner start height stream version count slots) = inr refl

-- ---- a leaf

module _ (bytes : List ℕ) (mark : take 8 bytes ≡ codes "BTR-LEAF") (f : PageHeader) (points : List Point) (e : f ≡ header_in bytes) (k : points ≡ items_in point_in 16 252 64 bytes) where
  leaf-read : Leaf f.start f.height f.stream f.version f.count points ≡ page_in bytes
  leaf-read = leaf-in bytes f points (letter bytes (codes "BTR-LEAF") mark) e k

  pub leaf-is : (p : NodePage) → Fits p → bytes ≡ page_bytes p → Leaf f.start f.height f.stream f.version f.count points ≡ p
  leaf-is p fits is = leaf-read ∙ ap page_in is ∙ page-again p fits

  pub leaf-fits : IsBytes bytes → Fits (Leaf f.start f.height f.stream f.version f.count points)
  leaf-fits h = subst Fits (sym leaf-read) (page-fits bytes h)

  pub leaf-found : IsBytes bytes → length bytes ≡ 4096 → take 24 (drop 40 bytes) ≡ zeros 24 → IsLeafPage f points → Spells bytes (Leaf f.start f.height f.stream f.version f.count points)
  unfolding page_bytes
  leaf-found h long gap keeps = record {
    keeps = keeps;
    bytes_are = leaf-spelled bytes h long mark gap ∙ sym (λ i. codes "BTR-LEAF" ++ header_bytes (e i) ++ flat_map point_bytes (k i));
  }

-- ---- an inner node

length-slots : (xs : List PageSlot) → length (flat_map slot_bytes xs) ≡ 56 * length xs
length-slots [] = refl
length-slots (x ∷ xs) =
    let whole = ap length (flat_map-cons slot_bytes x xs) in
    let others = length-slots xs in
    omega (arith, whole, length-append (slot_bytes x) (flat_map slot_bytes xs), length-slot x, others)

module _ (bytes : List ℕ) (mark : take 8 bytes ≡ codes "BTR-NODE") where
  inner-read : (f : PageHeader) (slots : List PageSlot) → f ≡ header_in bytes → slots ≡ items_in slot_in 56 64 64 bytes → Inner f.start f.height f.stream f.version f.count slots ≡ page_in bytes
  inner-read f slots e k =
      let four = letter bytes (codes "BTR-NODE") mark in
      inner-in bytes f slots (λ other. absurd (omega (arith, four, other))) e k

  pub inner-is : (f : PageHeader) (slots : List PageSlot) → f ≡ header_in bytes → slots ≡ items_in slot_in 56 64 64 bytes → (p : NodePage) → Fits p → bytes ≡ page_bytes p → Inner f.start f.height f.stream f.version f.count slots ≡ p
  inner-is f slots e k p fits is = inner-read f slots e k ∙ ap page_in is ∙ page-again p fits

  pub inner-fits : (f : PageHeader) (slots : List PageSlot) → f ≡ header_in bytes → slots ≡ items_in slot_in 56 64 64 bytes → IsBytes bytes → Fits (Inner f.start f.height f.stream f.version f.count slots)
  inner-fits f slots e k h = subst Fits (sym (inner-read f slots e k)) (page-fits bytes h)

  pub inner-found : (f : PageHeader) (slots : List PageSlot) → f ≡ header_in bytes → slots ≡ items_in slot_in 56 64 64 bytes → IsBytes bytes → length bytes ≡ 4096 → take 24 (drop 40 bytes) ≡ zeros 24 → drop 3648 bytes ≡ zeros 448 → AreExact 64 bytes → IsInnerPage f slots → Spells bytes (Inner f.start f.height f.stream f.version f.count slots)
  unfolding page_bytes
  inner-found f slots e k h long gap tail exact keeps = record {
    keeps = keeps;
    bytes_are = inner-spelled bytes h long mark gap tail exact ∙ sym (λ i. codes "BTR-NODE" ++ header_bytes (e i) ++ flat_map slot_bytes (k i) ++ zeros 448);
  }

  -- The page whose bytes the block is has the slots that are read.
  same-slots : (p : NodePage) → Fits p → bytes ≡ page_bytes p → Inner (header_in bytes).start (header_in bytes).height (header_in bytes).stream (header_in bytes).version (header_in bytes).count (items_in slot_in 56 64 64 bytes) ≡ p
  same-slots p fits is = inner-is (header_in bytes) (items_in slot_in 56 64 64 bytes) refl refl p fits is

  whole : (p : NodePage) → Fits p → bytes ≡ page_bytes p → bytes ≡ codes "BTR-NODE" ++ header_bytes (header_in bytes) ++ flat_map slot_bytes (items_in slot_in 56 64 64 bytes) ++ zeros 448
  unfolding page_bytes
  whole p fits is = is ∙ ap page_bytes (sym (same-slots p fits is))

  pub tail-of : (p : NodePage) → Fits p → bytes ≡ page_bytes p → drop 3648 bytes ≡ zeros 448
  tail-of p fits is =
      let f = header_in bytes in
      let slots = items_in slot_in 56 64 64 bytes in
      let count = length-items slot_in 56 bytes 64 64 in
      let fields = length-append (codes "BTR-NODE") (header_bytes f) in
      let long = length-append (codes "BTR-NODE" ++ header_bytes f) (flat_map slot_bytes slots) in
      ap (drop 3648) (whole p fits is)
      ∙ drop_at (codes "BTR-NODE" ++ header_bytes f ++ flat_map slot_bytes slots) (zeros 448) 3648 (omega (arith, count, fields, long, length-header f, length-slots slots))

  pub exact-of : (p : NodePage) → Fits p → bytes ≡ page_bytes p → AreExact 64 bytes
  exact-of p fits is =
      let f = header_in bytes in
      let slots = items_in slot_in 56 64 64 bytes in
      let count = length-items slot_in 56 bytes 64 64 in
      let fit = subst Fits (sym (same-slots p fits is)) fits in
      let assoc = append_assoc (codes "BTR-NODE" ++ header_bytes f) (flat_map slot_bytes slots) (zeros 448) in
      let body = ap (drop 64) (whole p fits is ∙ assoc) ∙ behind (codes "BTR-NODE") (flat_map slot_bytes slots ++ zeros 448) f refl in
      λ k lt. exact-places slots 64 bytes (zeros 448) fit.2 body k (omega (arith, count, lt))
