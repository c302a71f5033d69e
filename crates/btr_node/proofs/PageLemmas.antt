-- What is read of the bytes of a page is that page, so no two pages have the same bytes.
use Rattle.std.specs.Prelude.{◌≡◌, ℕ, ◌==◌, false, List, [], ◌++◌, length, drop, slice_index, codes, if◌then◌else◌}
use Rattle.std.proofs.Common.{refl, sym, ap, ◌∙◌, arith, append_assoc, length-append, eq-eqb}
use Rattle.std.specs.List.{flat_map}
use Rattle.std.proofs.lemmas.Bool.Decides.{nat_tests}
use Rattle.std.proofs.lemmas.List.{drop_at, append-nil}
use Rattle.btr_base.specs.declared.point.Point.{Point}
use Rattle.btr_node.specs.declared.page.PageHeader.{PageHeader}
use Rattle.btr_node.specs.declared.page.PageSlot.{PageSlot}
use Rattle.btr_node.specs.declared.page.NodePage.{NodePage}
use Rattle.btr_node.specs.declared.page.NodePage.TheVariants.{Leaf, Inner}
use Rattle.btr_node.specs.Page.{header, header_bytes, point_bytes, slot_bytes, page_bytes, zeros, Fits, FitsPoint, FitsSlot}
use Rattle.btr_node.specs.Reading.{header_in, point_in, slot_in, items_in}
use Rattle.btr_node.specs.Laws.{PageOnce}
use Rattle.btr_node.proofs.FitLemmas.{page_in}
use Rattle.btr_node.proofs.Places.{header-again, length-header, point-again, point-moved, length-point, slot-again, slot-moved, length-slot, items-again}

-- What follows the fields of both kinds.
pub behind : (mark body : List ℕ) (f : PageHeader) → length mark ≡ 8 → drop 64 (mark ++ header_bytes f ++ body) ≡ body
behind mark body f eight =
    drop_at (mark ++ header_bytes f) body 64 (omega (arith, length-append mark (header_bytes f), length-header f))

pub page-again : (p : NodePage) → Fits p → page_in (page_bytes p) ≡ p
unfolding page_in page_bytes
page-again (Leaf start height stream version count points) fits =
    let f : PageHeader = header (Leaf start height stream version count points) in
    let bytes : List ℕ = codes "BTR-LEAF" ++ header_bytes f ++ flat_map point_bytes points in
    let same : header_in bytes ≡ f = header-again 66 84 82 45 76 69 65 70 f (flat_map point_bytes points) fits.0 in
    let body : drop 64 bytes ≡ flat_map point_bytes points ++ [] = behind (codes "BTR-LEAF") (flat_map point_bytes points) f refl ∙ sym (append-nil (flat_map point_bytes points)) in
    let read = items-again point_in point_bytes FitsPoint 16 point-again point-moved length-point points 64 bytes [] fits.2 body in
    let items : items_in point_in 16 252 64 bytes ≡ points = ap (λ n. items_in point_in 16 n 64 bytes) (sym fits.1) ∙ read in
    λ i. Leaf (same i).start (same i).height (same i).stream (same i).version (same i).count (items i)
page-again (Inner start height stream version count slots) fits =
    let f : PageHeader = header (Inner start height stream version count slots) in
    let bytes : List ℕ = codes "BTR-NODE" ++ header_bytes f ++ flat_map slot_bytes slots ++ zeros 448 in
    let whole : bytes ≡ codes "BTR-NODE" ++ header_bytes f ++ (flat_map slot_bytes slots ++ zeros 448) = append_assoc (codes "BTR-NODE" ++ header_bytes f) (flat_map slot_bytes slots) (zeros 448) in
    let same : header_in bytes ≡ f = ap header_in whole ∙ header-again 66 84 82 45 78 79 68 69 f (flat_map slot_bytes slots ++ zeros 448) fits.0 in
    let body : drop 64 bytes ≡ flat_map slot_bytes slots ++ zeros 448 = ap (drop 64) whole ∙ behind (codes "BTR-NODE") (flat_map slot_bytes slots ++ zeros 448) f refl in
    let read = items-again slot_in slot_bytes FitsSlot 56 slot-again slot-moved length-slot slots 64 bytes (zeros 448) fits.2 body in
    let items : items_in slot_in 56 64 64 bytes ≡ slots = ap (λ n. items_in slot_in 56 n 64 bytes) (sym fits.1) ∙ read in
    λ i. Inner (same i).start (same i).height (same i).stream (same i).version (same i).count (items i)

-- No two pages have the same bytes.
pub page-once : PageOnce
page-once p q p_fits q_fits same = sym (page-again p p_fits) ∙ ap page_in same ∙ page-again q q_fits

-- ---- by the fifth byte

unequal : (m n : ℕ) → (m ≡ n → ⊥) → (m == n) ≡ false
unequal m n h = grind (arith, nat_tests)

pub leaf-in : (bytes : List ℕ) (f : PageHeader) (points : List Point) → slice_index bytes 4 ≡ 76 → f ≡ header_in bytes → points ≡ items_in point_in 16 252 64 bytes → Leaf f.start f.height f.stream f.version f.count points ≡ page_in bytes
unfolding page_in
leaf-in bytes f points letter e k =
    let g : PageHeader = header_in bytes in
    let leaf : NodePage = Leaf g.start g.height g.stream g.version g.count (items_in point_in 16 252 64 bytes) in
    let inner : NodePage = Inner g.start g.height g.stream g.version g.count (items_in slot_in 56 64 64 bytes) in
    (λ i. Leaf (e i).start (e i).height (e i).stream (e i).version (e i).count (k i))
    ∙ sym (ap (λ b. if b then leaf else inner) (eq-eqb (slice_index bytes 4) 76 letter))

pub inner-in : (bytes : List ℕ) (f : PageHeader) (slots : List PageSlot) → (slice_index bytes 4 ≡ 76 → ⊥) → f ≡ header_in bytes → slots ≡ items_in slot_in 56 64 64 bytes → Inner f.start f.height f.stream f.version f.count slots ≡ page_in bytes
unfolding page_in
inner-in bytes f slots letter e k =
    let g : PageHeader = header_in bytes in
    let leaf : NodePage = Leaf g.start g.height g.stream g.version g.count (items_in point_in 16 252 64 bytes) in
    let inner : NodePage = Inner g.start g.height g.stream g.version g.count (items_in slot_in 56 64 64 bytes) in
    (λ i. Inner (e i).start (e i).height (e i).stream (e i).version (e i).count (k i))
    ∙ sym (ap (λ b. if b then leaf else inner) (unequal (slice_index bytes 4) 76 letter))
