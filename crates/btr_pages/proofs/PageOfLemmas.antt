-- Lemmas on the page of a node: it says the node, and what a page that says a node has.
use Rattle.std.specs.Prelude.{◌≡◌, ℕ, ◌+◌, ◌-◌, ◌^◌, ◌%◌, ◌<◌, ◌≤◌, ℤ, pos, ◌+ℤ◌, true, List, [], ◌∷◌, ◌++◌, length, take, drop, replicate, map, get_or, slice_get, Some, None}
use Rattle.std.specs.Int.{w64}
use Rattle.std.specs.Int.RustNames.{FitsSigned}
use Rattle.std.specs.List.{AllByRecursion, sum_by}
use Rattle.std.proofs.Common.{zero, suc, refl, sym, ap, ◌∙◌, arith, subst, length-append}
use Rattle.std.proofs.Math.Seq.{take-append_seam, drop-append_seam}
use Rattle.std.proofs.lemmas.Int.{ints}
use Rattle.std.proofs.lemmas.List.{length-take, length-replicate, length-map, drop-take}
use Rattle.std.proofs.lemmas.List.Sums.{sum_by-cons}
use Rattle.btr_base.specs.declared.point.Point.{Point}
use Rattle.btr_base.specs.Agg.{agg, IsValue, EndsFit, IsSummary}
use Rattle.btr_base.specs.Bag.{IsInOrder, is_within}
use Rattle.btr_base.specs.Span.{width, SpanValue, IsSpan}
use Rattle.btr_base.proofs.AggLemmas.{agg-count, ends_fit-joined, sum-fits}
use Rattle.btr_base.proofs.ListLemmas.{each-append, each-take, each-weaker, each-both, filter-passes, each-filter}
use Rattle.btr_tree.specs.declared.node.Slot.{Slot}
use Rattle.btr_tree.specs.History.{Past, bag}
use Rattle.btr_tree.specs.NewNodes.{NewNodeValue}
use Rattle.btr_tree.specs.Nodes.{points_of}
use Rattle.btr_tree.specs.Stored.{leaf_node}
use Rattle.btr_tree.proofs.VersionLemmas.{points-in_order}
use Rattle.btr_node.specs.Page.{header, IsInside, IsUnused, IsSlot, Keeps, FitsHeader, FitsPoint, FitsSlot, Fits, span_of_page}
use Rattle.btr_node.specs.declared.page.NodePage.{NodePage}
use Rattle.btr_node.specs.declared.page.NodePage.TheVariants.{Leaf, Inner}
use Rattle.btr_node.specs.declared.page.PageSlot.{PageSlot}
use Rattle.btr_tree.specs.PageNodes.{slot_of_page, node_of_page, unused_slot}
use Rattle.btr_pages.specs.Pages.{unused, page_slot, page_slots_of, page_by, page_with, page_of}

-- ---- lists

each-replicate : {X : Type 0} (P : X → Type 0) (n : ℕ) (x : X) → P x → AllByRecursion P (replicate n x)
each-replicate P zero x h = tt
each-replicate P (suc n) x h = (h, each-replicate P n x h)

pub each-map : {X Y : Type 0} (f : X → Y) (P : Y → Type 0) (xs : List X) → AllByRecursion (λ x. P (f x)) xs → AllByRecursion P (map f xs)
each-map f P [] h = tt
each-map f P (x ∷ xs) h = (h.0, each-map f P xs h.1)

take-take : {X : Type 0} (n m : ℕ) (xs : List X) → n ≤ m → take n (take m xs) ≡ take n xs
take-take zero m xs le = refl
take-take (suc n) zero xs le = absurd (omega arith)
take-take (suc n) (suc m) [] le = refl
take-take (suc n) (suc m) (x ∷ xs) le = ap (λ ys. x ∷ ys) (take-take n m xs (omega arith))

-- A list that is filled up to a length.
fill-front : {X : Type 0} (m : ℕ) (xs : List X) (d : X) → length xs ≤ m → take (length xs) (take m (xs ++ replicate m d)) ≡ xs
fill-front m xs d few =
    take-take (length xs) m (xs ++ replicate m d) few ∙ take-append_seam xs (replicate m d)

fill-behind : {X : Type 0} (P : X → Type 0) (m : ℕ) (xs : List X) (d : X) → length xs ≤ m → P d → AllByRecursion P (drop (length xs) (take m (xs ++ replicate m d)))
fill-behind P m xs d few h =
    let e : m ≡ length xs + (m - length xs) = omega arith in
    let part : drop (length xs) (take m (xs ++ replicate m d)) ≡ take (m - length xs) (replicate m d) = ap (λ k. drop (length xs) (take k (xs ++ replicate m d))) e ∙ drop-take (length xs) (m - length xs) (xs ++ replicate m d) ∙ ap (take (m - length xs)) (drop-append_seam xs (replicate m d)) in
    subst (AllByRecursion P) (sym part) (each-take P (m - length xs) (replicate m d) (each-replicate P m d h))

pub fill-length : {X : Type 0} (m : ℕ) (xs : List X) (d : X) → length (take m (xs ++ replicate m d)) ≡ m
fill-length m xs d =
    omega (arith, length-take m (xs ++ replicate m d), length-append xs (replicate m d), length-replicate m d)

fill-each : {X : Type 0} (P : X → Type 0) (m : ℕ) (xs : List X) (d : X) → AllByRecursion P xs → P d → AllByRecursion P (take m (xs ++ replicate m d))
fill-each P m xs d each h =
    each-take P m (xs ++ replicate m d) (each-append P xs (replicate m d) each (each-replicate P m d h))

fill-whole : {X : Type 0} (m : ℕ) (xs : List X) (d : X) → length xs ≡ m → take m (xs ++ replicate m d) ≡ xs
fill-whole m xs d e =
    ap (λ k. take k (xs ++ replicate m d)) (sym e) ∙ take-append_seam xs (replicate m d)

-- One more place of a list that is filled up.
get_or-replicate : {X : Type 0} (m i : ℕ) (d : X) → get_or (replicate m d) i d ≡ d
get_or-replicate zero i d = refl
get_or-replicate (suc m) zero d = refl
get_or-replicate (suc m) (suc i) d = get_or-replicate m i d

pub get_or-fill : {X : Type 0} (m : ℕ) (xs : List X) (i : ℕ) (d : X) → get_or (xs ++ replicate m d) i d ≡ get_or xs i d
get_or-fill m [] i d = get_or-replicate m i d
get_or-fill m (x ∷ xs) zero d = refl
get_or-fill m (x ∷ xs) (suc i) d = get_or-fill m xs i d

-- ---- the page of a leaf, and of an inner node

slots-whole : (ss : List Slot) → length ss ≡ 64 → page_slots_of ss ≡ map page_slot ss
slots-whole ss e = fill-whole 64 (map page_slot ss) unused_slot (length-map ss page_slot ∙ e)

sum-slots : (ss : List Slot) → sum_by (λ (s : PageSlot). s.agg.count) (map page_slot ss) ≡ sum_by (λ (s : Slot). s.agg.count) ss
sum-slots [] = refl
sum-slots (s ∷ ss) =
    omega (arith, sum_by-cons (λ (x : PageSlot). x.agg.count) (page_slot s) (map page_slot ss), sum_by-cons (λ (x : Slot). x.agg.count) s ss, sum-slots ss)

-- The page of an inner node.
pub inner-page_of : (stream : ℕ) (span : SpanValue) (v : ℕ) (ps : List Point) (ss : List Slot) → length ss ≡ 64 → page_with stream span v ps ss ≡ Inner span.start span.height stream v (sum_by (λ s. s.agg.count) ss % 2 ^ 64) (map page_slot ss)
inner-page_of stream span v ps [] e = absurd (omega arith)
inner-page_of stream span v ps (s ∷ ss) e =
    ap (page_by stream span v) (slots-whole (s ∷ ss) e)
    ∙ ap (λ n. Inner span.start span.height stream v (n % 2 ^ 64) (map page_slot (s ∷ ss))) (sum-slots (s ∷ ss))

slots-again : (ss : List Slot) → map slot_of_page (map page_slot ss) ≡ ss
slots-again [] = refl
slots-again (s ∷ ss) = ap (λ ts. s ∷ ts) (slots-again ss)

node-by : (span : SpanValue) (v w : ℕ) (ps qs : List Point) (ss ts : List Slot) → v ≡ w → ps ≡ qs → ss ≡ ts → (let p : NewNodeValue = record { span = span; version = v; points = ps; slots = ss } in p) ≡ record { span = span; version = w; points = qs; slots = ts }
node-by span v w ps qs ss ts p q r = cc

-- The page of a node says the node.
pub leaf-again : (stream : ℕ) (s : ℤ) (k v : ℕ) (ps : List Point) → length ps ≤ 252 → node_of_page (page_of stream (leaf_node (record { start = s; height = k }) v ps)) ≡ leaf_node (record { start = s; height = k }) v ps
leaf-again stream s k v ps few = node-by _ _ _ _ _ _ _ refl (fill-front 252 ps unused few) refl

pub inner-again : (stream : ℕ) (s : ℤ) (k v : ℕ) (ss : List Slot) → length ss ≡ 64 → node_of_page (page_of stream (record { span = record { start = s; height = k }; version = v; points = []; slots = ss })) ≡ record { span = record { start = s; height = k }; version = v; points = []; slots = ss }
inner-again stream s k v ss e =
    ap node_of_page (inner-page_of stream (record { start = s; height = k }) v [] ss e) ∙ node-by _ _ _ _ _ _ _ refl refl (slots-again ss)

-- The page of a node is of the stream.
with-stream : (stream : ℕ) (span : SpanValue) (v : ℕ) (ps : List Point) (ss : List Slot) → (header (page_with stream span v ps ss)).stream ≡ stream
with-stream stream span v ps [] = refl
with-stream stream span v ps (s ∷ ss) = refl

pub page_of-stream : (stream : ℕ) (n : NewNodeValue) → (header (page_of stream n)).stream ≡ stream
page_of-stream stream n = with-stream stream n.span n.version n.points n.slots

-- A page has all its places.
abbrev pub HasPlaces : NodePage → Type 0
HasPlaces (Leaf start height stream version count points) = length points ≡ 252
HasPlaces (Inner start height stream version count slots) = length slots ≡ 64

pub fits-places : (page : NodePage) → Fits page → HasPlaces page
fits-places (Leaf start height stream version count points) fits = fits.1
fits-places (Inner start height stream version count slots) fits = fits.1

with-places : (stream : ℕ) (span : SpanValue) (v : ℕ) (ps : List Point) (ss : List Slot) → HasPlaces (page_with stream span v ps ss)
with-places stream span v ps [] = fill-length 252 ps unused
with-places stream span v ps (s ∷ ss) = fill-length 64 (map page_slot (s ∷ ss)) unused_slot

pub page_of-places : (stream : ℕ) (n : NewNodeValue) → HasPlaces (page_of stream n)
page_of-places stream n = with-places stream n.span n.version n.points n.slots

-- ---- the node that a page says

pub page-span : (page : NodePage) → span_of_page page ≡ (node_of_page page).span
page-span (Leaf start height stream version count points) = refl
page-span (Inner start height stream version count slots) = refl

pub page-version : (page : NodePage) → (header page).version ≡ (node_of_page page).version
page-version (Leaf start height stream version count points) = refl
page-version (Inner start height stream version count slots) = refl

-- A page that keeps the table has a version from 1 on.
pub page-versioned : (page : NodePage) → Keeps page → 1 ≤ (header page).version
page-versioned (Leaf start height stream version count points) keeps = keeps.fields.version_from
page-versioned (Inner start height stream version count slots) keeps = keeps.fields.version_from

-- The count of a page that says a leaf, and of one that says an inner node.
pub leaf-count : (page : NodePage) (span : SpanValue) (v : ℕ) (ps : List Point) → Keeps page → HasPlaces page → node_of_page page ≡ leaf_node span v ps → 0 < length ps → (header page).count ≡ length ps
leaf-count (Leaf start height stream version count points) span v ps keeps places says some =
    let few = keeps.count_to in
    let e = ap (λ (n : NewNodeValue). length n.points) says in
    omega (arith, length-take count points)
leaf-count (Inner start height stream version count slots) span v ps keeps places says some =
    let e = ap (λ (n : NewNodeValue). length n.points) says in absurd (omega arith)

sum-again : (ss : List PageSlot) → sum_by (λ (s : Slot). s.agg.count) (map slot_of_page ss) ≡ sum_by (λ (s : PageSlot). s.agg.count) ss
sum-again [] = refl
sum-again (s ∷ ss) =
    omega (arith, sum_by-cons (λ (x : Slot). x.agg.count) (slot_of_page s) (map slot_of_page ss), sum_by-cons (λ (x : PageSlot). x.agg.count) s ss, sum-again ss)

pub inner-count : (page : NodePage) (span : SpanValue) (v : ℕ) (ss : List Slot) → Keeps page → node_of_page page ≡ record { span = span; version = v; points = []; slots = ss } → 0 < length ss → (header page).count ≡ sum_by (λ (s : Slot). s.agg.count) ss
inner-count (Leaf start height stream version count points) span v ss keeps says some =
    let e = ap (λ (n : NewNodeValue). length n.slots) says in absurd (omega arith)
inner-count (Inner start height stream version count slots) span v ss keeps says some =
    sym keeps.total ∙ sym (sum-again slots) ∙ ap (λ (n : NewNodeValue). sum_by (λ (s : Slot). s.agg.count) n.slots) says

-- The points of a page that says a leaf.
pub leaf-values : (page : NodePage) (span : SpanValue) (v : ℕ) (ps : List Point) → Fits page → node_of_page page ≡ leaf_node span v ps → 0 < length ps → AllByRecursion FitsPoint ps
leaf-values (Leaf start height stream version count points) span v ps fits says some =
    subst (AllByRecursion FitsPoint) (ap (λ (n : NewNodeValue). n.points) says) (each-take FitsPoint count points fits.2)
leaf-values (Inner start height stream version count slots) span v ps fits says some =
    let e = ap (λ (n : NewNodeValue). length n.points) says in absurd (omega arith)

-- ---- the page of a leaf keeps the table

pub points-inside : (s : ℤ) (k : ℕ) (b : List Point) → AllByRecursion (IsInside s k) (points_of k s b)
points-inside s k b =
    each-weaker (λ p. is_within s (s +ℤ pos (width k)) p ≡ true) (IsInside s k) (λ p w. (grind (arith, ints), grind (arith, ints))) (points_of k s b) (filter-passes (is_within s (s +ℤ pos (width k))) b)

pub leaf-keeps : (stream : ℕ) (s : ℤ) (k v : ℕ) (h : Past) → IsSpan (record { start = s; height = k }) → 1 ≤ v → v ≤ 4294967295 → 0 < length (points_of k s (bag h)) → length (points_of k s (bag h)) ≤ 252 → Keeps (page_of stream (leaf_node (record { start = s; height = k }) v (points_of k s (bag h))))
leaf-keeps stream s k v h aligned low high some few =
    let ps = points_of k s (bag h) in
    let same = fill-front 252 ps unused few in
    record {
      fields = record { span = aligned; version_from = low; version_to = high };
      count_from = some;
      count_to = few;
      in_order = subst IsInOrder (sym same) (points-in_order k s h);
      inside = subst (AllByRecursion (IsInside s k)) (sym same) (points-inside s k (bag h));
      unused = fill-behind IsUnused 252 ps unused few (refl, refl);
    }

-- ---- the page of an inner node keeps the table

small-rest : (n : ℕ) → n ≤ 2 ^ 32 → n % 2 ^ 64 ≡ n
small-rest n le = omega arith

pub inner-keeps : (stream : ℕ) (s : ℤ) (below v total : ℕ) (ss : List Slot) → IsSpan (record { start = s; height = suc below }) → 1 ≤ v → v ≤ 4294967295 → length ss ≡ 64 → sum_by (λ (x : Slot). x.agg.count) ss ≡ total → 253 ≤ total → total ≤ 2 ^ 32 → AllByRecursion (λ x. IsSlot v (page_slot x)) ss → Keeps (page_of stream (record { span = record { start = s; height = suc below }; version = v; points = []; slots = ss }))
inner-keeps stream s below v total ss aligned low high long sum least most each =
    let rest : sum_by (λ (x : Slot). x.agg.count) ss % 2 ^ 64 ≡ total = ap (λ n. n % 2 ^ 64) sum ∙ small-rest total most in
    let page : page_of stream (record { span = record { start = s; height = suc below }; version = v; points = []; slots = ss }) ≡ Inner s (suc below) stream v total (map page_slot ss) = inner-page_of stream (record { start = s; height = suc below }) v [] ss long ∙ ap (λ n. Inner s (suc below) stream v n (map page_slot ss)) rest in
    subst Keeps (sym page) (record {
      fields = record { span = aligned; version_from = low; version_to = high };
      height_from = omega arith;
      count_from = least;
      count_to = most;
      total = sum-slots ss ∙ sum;
      each = each-map page_slot (IsSlot v) ss each;
    })

-- ---- the numbers of a page fit their widths

agg-summary : (ps : List Point) → AllByRecursion (λ p. IsValue p.value) ps → IsSummary (agg ps)
agg-summary [] h = (refl, refl)
agg-summary (p ∷ ps) h =
    let one : EndsFit 1 p.value (Some (p.value, p.value)) = (omega arith, omega (arith, ints), omega (arith, ints), h.0, h.0) in
    ends_fit-joined 1 (agg ps).count p.value (agg ps).total (Some (p.value, p.value)) (agg ps).ends one (agg-summary ps h.1)

-- A slot with the aggregate of points.
pub slot-fits : (ps : List Point) (v child : ℕ) → AllByRecursion (λ p. IsValue p.value) ps → length ps < 2 ^ 64 → v < 2 ^ 64 → child < 2 ^ 64 → FitsSlot (record { agg = agg ps; version = v; child = child })
slot-fits ps v child values few small low =
    let summary = agg-summary ps values in
    let count = agg-count ps in
    record {
      summary = summary;
      count = omega arith;
      total = sum-fits (agg ps).count (agg ps).total (agg ps).ends summary (omega arith);
      version = small;
      child = low;
    }

start-fits : (s : ℤ) (k : ℕ) → IsSpan (record { start = s; height = k }) → FitsSigned w64 s
start-fits s k aligned =
    let begins = aligned.1.start in
    let ends = aligned.1.ends in
    omega (arith, ints)

header-fits : (s : ℤ) (k stream v count : ℕ) → IsSpan (record { start = s; height = k }) → stream < 2 ^ 32 → v ≤ 4294967295 → count < 2 ^ 64 → FitsHeader (record { start = s; height = k; stream = stream; version = v; count = count })
header-fits s k stream v count aligned low high few =
    let short = aligned.1.height in
    record { start = start-fits s k aligned; height = omega arith; stream = low; version = omega arith; count = few }

point-fits : (s : ℤ) (k : ℕ) → IsSpan (record { start = s; height = k }) → (p : Point) → IsInside s k p × IsValue p.value → FitsPoint p
point-fits s k aligned p h =
    let begins = aligned.1.start in
    let ends = aligned.1.ends in
    let low = h.0.0 in
    let high = h.0.1 in
    let least = h.1.0 in
    let most = h.1.1 in
    record { time = omega (arith, ints); value = omega (arith, ints) }

unused-fits : FitsPoint unused
unused-fits = record { time = omega (arith, ints); value = omega (arith, ints) }

pub leaf-fits : (stream : ℕ) (s : ℤ) (k v : ℕ) (b : List Point) → IsSpan (record { start = s; height = k }) → stream < 2 ^ 32 → v ≤ 4294967295 → length (points_of k s b) ≤ 252 → AllByRecursion (λ p. IsValue p.value) b → Fits (page_of stream (leaf_node (record { start = s; height = k }) v (points_of k s b)))
leaf-fits stream s k v b aligned low high few values =
    let ps = points_of k s b in
    let fine = each-filter (λ p. IsValue p.value) (is_within s (s +ℤ pos (width k))) b values in
    let points = each-weaker (λ p. IsInside s k p × IsValue p.value) FitsPoint (point-fits s k aligned) ps (each-both (IsInside s k) (λ p. IsValue p.value) ps (points-inside s k b) fine) in
    (header-fits s k stream v (length ps) aligned low high (omega arith), fill-length 252 ps unused, fill-each FitsPoint 252 ps unused points unused-fits)

pub inner-fits : (stream : ℕ) (s : ℤ) (k v : ℕ) (ss : List Slot) → IsSpan (record { start = s; height = k }) → stream < 2 ^ 32 → v ≤ 4294967295 → length ss ≡ 64 → AllByRecursion (λ x. FitsSlot (page_slot x)) ss → Fits (page_of stream (record { span = record { start = s; height = k }; version = v; points = []; slots = ss }))
inner-fits stream s k v ss aligned low high long each =
    let n = sum_by (λ (x : Slot). x.agg.count) ss in
    subst Fits (sym (inner-page_of stream (record { start = s; height = k }) v [] ss long)) (header-fits s k stream v (n % 2 ^ 64) aligned low high (omega arith), length-map ss page_slot ∙ long, each-map page_slot FitsSlot ss each)

-- ---- one place of the page that is made

pub slot-none : (ss : List Slot) (i : ℕ) → slice_get ss i ≡ None → get_or (map page_slot ss) i unused_slot ≡ unused_slot
slot-none [] i e = refl
slot-none (s ∷ ss) zero e = absurd (cc)
slot-none (s ∷ ss) (suc i) e = slot-none ss i e

pub slot-some : (ss : List Slot) (i : ℕ) (s : Slot) → slice_get ss i ≡ Some s → get_or (map page_slot ss) i unused_slot ≡ page_slot s
slot-some [] i s e = absurd (cc)
slot-some (t ∷ ss) zero s e = let same : t ≡ s = cc in ap page_slot same
slot-some (t ∷ ss) (suc i) s e = slot-some ss i s e
