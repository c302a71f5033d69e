-- Lemmas on the page of a node that is filled in place.
use Rattle.std.specs.Prelude.{◌≡◌, ℕ, zero, suc, ◌+◌, ◌-◌, ◌*◌, ◌^◌, ◌%◌, ◌<◌, ◌≤◌, min, List, [], ◌∷◌, ◌++◌, length, take, replicate, map, get_or, codes}
use Rattle.std.specs.List.{flat_map, sum_by}
use Rattle.std.proofs.Common.{inl, inr, refl, sym, ap, ◌∙◌, arith}
use Rattle.std.proofs.lemmas.Bool.{cases_lt}
use Rattle.std.proofs.lemmas.List.{flat_map_more, get_or-take, length-take, take_all, take_more, take-replicate}
use Rattle.std.proofs.lemmas.List.Sums.{sum_by_push}
use Rattle.btr_base.specs.declared.point.Point.{Point}
use Rattle.btr_base.specs.Span.{SpanValue}
use Rattle.btr_tree.specs.declared.node.Slot.{Slot}
use Rattle.btr_tree.specs.NewNodes.{NewNodeValue}
use Rattle.btr_node.specs.declared.page.PageHeader.{PageHeader}
use Rattle.btr_node.specs.Page.{header_bytes, page_bytes, places_with, slot_bytes, zeros}
use Rattle.btr_node.specs.declared.page.NodePage.TheVariants.{Leaf, Inner}
use Rattle.btr_node.specs.declared.page.PageSlot.{PageSlot}
use Rattle.btr_tree.specs.PageNodes.{unused_slot}
use Rattle.btr_pages.specs.Pages.{unused, places_of, page_slot, page_slots_of, page_with, page_of}
use Rattle.btr_pages.proofs.PageOfLemmas.{fill-length, get_or-fill}

-- ---- slots

length-slots : (ss : List Slot) → length (page_slots_of ss) ≡ 64
length-slots ss = fill-length 64 (map page_slot ss) unused_slot

slot-place : (ss : List Slot) (i : ℕ) → i < 64 → get_or (page_slots_of ss) i unused_slot ≡ get_or (map page_slot ss) i unused_slot
slot-place ss i lt =
    get_or-take 64 (map page_slot ss ++ replicate 64 unused_slot) i unused_slot lt ∙ get_or-fill 64 (map page_slot ss) i unused_slot

-- One more slot of a page.
one-more : (ss : List Slot) (i : ℕ) (s : PageSlot) → i < 64 → s ≡ get_or (map page_slot ss) i unused_slot → take (i + 1) (page_slots_of ss) ≡ take i (page_slots_of ss) ++ s ∷ []
one-more ss i s lt is =
    take_more (page_slots_of ss) i unused_slot (omega (arith, length-slots ss))
    ∙ ap (λ x. take i (page_slots_of ss) ++ x ∷ []) (slot-place ss i lt ∙ sym is)

pub all-slots : (ss : List Slot) (i : ℕ) → i ≡ 64 → take i (page_slots_of ss) ≡ page_slots_of ss
all-slots ss i done = take_all i (page_slots_of ss) (omega (arith, length-slots ss))

-- One more slot is written.
pub slot-written : (ss : List Slot) (i : ℕ) (s : PageSlot) (first old new : List ℕ) → i < 64 → s ≡ get_or (map page_slot ss) i unused_slot → take (64 + 56 * i) old ≡ first ++ flat_map slot_bytes (take i (page_slots_of ss)) → take (64 + 56 * i + 56) new ≡ take (64 + 56 * i) old ++ slot_bytes s → take (64 + 56 * (i + 1)) new ≡ first ++ flat_map slot_bytes (take (i + 1) (page_slots_of ss))
slot-written ss i s first old new lt is so_far e =
    let end : 64 + 56 * (i + 1) ≡ 64 + 56 * i + 56 = omega arith in
    ap (λ n. take n new) end
    ∙ e
    ∙ ap (λ l. l ++ slot_bytes s) so_far
    ∙ flat_map_more slot_bytes first (take i (page_slots_of ss)) s
    ∙ ap (λ l. first ++ flat_map slot_bytes l) (sym (one-more ss i s lt is))

-- One more slot is added to the sum of the counts.
pub slot-added : (ss : List Slot) (i n : ℕ) (s : PageSlot) → i < 64 → s ≡ get_or (map page_slot ss) i unused_slot → n ≡ sum_by (λ (x : PageSlot). x.agg.count) (take i (page_slots_of ss)) % 2 ^ 64 → (n + s.agg.count) % 2 ^ 64 ≡ sum_by (λ (x : PageSlot). x.agg.count) (take (i + 1) (page_slots_of ss)) % 2 ^ 64
slot-added ss i n s lt is so_far =
    let all = ap (sum_by (λ (x : PageSlot). x.agg.count)) (one-more ss i s lt is) in
    let last = sum_by_push (λ (x : PageSlot). x.agg.count) (take i (page_slots_of ss)) s in
    omega (arith, all, last, so_far)

-- ---- points

fill-split : {X : Type 0} (m k : ℕ) (xs : List X) (d : X) → m ≤ k → take m (xs ++ replicate k d) ≡ take m xs ++ replicate (m - length (take m xs)) d
fill-split zero k xs d le = refl
fill-split (suc m) k [] d le =
    let all : suc m ≡ suc m - 0 = omega arith in take-replicate (suc m) k d le ∙ ap (λ n. replicate n d) all
fill-split (suc m) k (x ∷ xs) d le =
    let left : m - length (take m xs) ≡ suc m - suc (length (take m xs)) = omega arith in
    ap (λ ys. x ∷ ys) (fill-split m k xs d (omega arith) ∙ ap (λ n. take m xs ++ replicate n d) left)

first-places : (ps : List Point) → places_with (take 252 ps) ≡ places_of ps
first-places ps = sym (fill-split 252 252 ps unused (omega arith))

-- The points for which there are places.
pub first-part : (ps : List Point) (n : ℕ) → n ≡ min (length ps) 252 → take n ps ≡ take 252 ps
first-part ps n is =
    elim (cases_lt (length ps) 252) [
      | inl few ↦ take_all n ps (omega arith) ∙ sym (take_all 252 ps (omega arith))
      | inr many ↦ (let all : n ≡ 252 = omega arith in ap (λ k. take k ps) all)
    ]

pub few-places : (ps : List Point) (l : List Point) → l ≡ take 252 ps → length l ≤ 252
few-places ps l is = omega (arith, ap length is, length-take 252 ps)

-- ---- the page

-- The mark and the fields, the slots and the zeros after them make the page of an inner node.
pub inner-filled : (f : PageHeader) (slots : List PageSlot) (t1 t2 t3 : List ℕ) → take 64 t1 ≡ codes "BTR-NODE" ++ header_bytes f → take 3648 t2 ≡ take 64 t1 ++ flat_map slot_bytes slots → t3 ≡ take 3648 t2 ++ zeros 448 → t3 ≡ page_bytes (Inner f.start f.height f.stream f.version f.count slots)
unfolding page_bytes
inner-filled f slots t1 t2 t3 e1 e2 e3 =
    e3 ∙ ap (λ l. l ++ zeros 448) (e2 ∙ ap (λ l. l ++ flat_map slot_bytes slots) e1)

leaf-page : (stream : ℕ) (span : SpanValue) (v : ℕ) (ps : List Point) (ss : List Slot) → length ss ≡ 0 → Leaf span.start span.height stream v (length ps) (places_of ps) ≡ page_with stream span v ps ss
leaf-page stream span v ps [] none = refl
leaf-page stream span v ps (s ∷ ss) none = absurd (omega arith)

pub leaf-is : (stream : ℕ) (n : NewNodeValue) (f : PageHeader) (count : ℕ) (first : List Point) → f ≡ record { start = n.span.start; height = n.span.height; stream = stream; version = n.version; count = count } → count ≡ length n.points → first ≡ take 252 n.points → length n.slots ≡ 0 → Leaf f.start f.height f.stream f.version f.count (places_with first) ≡ page_of stream n
leaf-is stream n f count first e many is none =
    ap (λ (g : PageHeader). Leaf g.start g.height g.stream g.version g.count (places_with first)) e
    ∙ ap (λ k. Leaf n.span.start n.span.height stream n.version k (places_with first)) many
    ∙ ap (λ l. Leaf n.span.start n.span.height stream n.version (length n.points) l) (ap places_with is ∙ first-places n.points)
    ∙ leaf-page stream n.span n.version n.points n.slots none
