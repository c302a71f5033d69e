-- Lemmas on nodes that are fetched from blocks: what a page of a place is, which block a refusal names, and that places lead to places.
use Rattle.std.specs.Prelude.{◌≡◌, ◌⊎◌, ℕ, ◌+◌, ◌-◌, ◌^◌, ◌<◌, ◌≤◌, ℤ, pos, ◌+ℤ◌, Bool, true, false, cond, List, [], ◌∷◌, length, take, map, slice_get, Some, Result, IfErr}
use Rattle.std.specs.List.{AllByRecursion, sum_by}
use Rattle.std.specs.Option.{option_map}
use Rattle.std.proofs.Common.{zero, suc, refl, sym, ap, ◌∙◌, arith, subst, inl, inr}
use Rattle.std.proofs.lemmas.Int.{ints}
use Rattle.std.proofs.lemmas.Bool.Decides.{nat_tests}
use Rattle.std.proofs.lemmas.List.{take_all, length-take-le, length-map}
use Rattle.std.proofs.lemmas.List.Sums.{sum_by_more}
use Rattle.std.proofs.lemmas.Option.{slice_get-get_or, slice_get-map, same_Some}
use Rattle.btr_base.specs.Agg.{AggValue}
use Rattle.btr_base.specs.Bag.{is_within}
use Rattle.btr_base.specs.Span.{width, SpanValue, IsSpan, slot_of}
use Rattle.btr_base.specs.declared.limits.TheConstants.{FIRST, LEAF_POINTS}
use Rattle.btr_base.specs.declared.point.Point.{Point}
use Rattle.btr_base.proofs.AggLemmas.{agg-count}
use Rattle.btr_base.proofs.ListLemmas.{filter-all}
use Rattle.btr_node.specs.Page.{header, span_of_page, slots_of_page, IsInside, Keeps, Fits}
use Rattle.btr_node.specs.declared.page.NodePage.{NodePage}
use Rattle.btr_node.specs.declared.page.NodePage.TheVariants.{Leaf, Inner}
use Rattle.btr_node.specs.declared.page.PageSlot.{PageSlot}
use Rattle.btr_tree.specs.declared.fetch.NodeFault.{NodeFault}
use Rattle.btr_tree.specs.declared.fetch.NodeFault.TheVariants.{Failed, Damaged, Want}
use Rattle.btr_tree.specs.declared.node.Slot.{Slot}
use Rattle.btr_tree.specs.declared.spot.Root.{Root}
use Rattle.btr_tree.specs.declared.spot.Spot.{Spot}
use Rattle.btr_tree.specs.Change.{joined_first}
use Rattle.btr_tree.specs.History.{Past, bag}
use Rattle.btr_tree.specs.Leads.{slot_to, slots_to, node_to, LeadsNowhere, LeadsToNode, Leads}
use Rattle.btr_tree.specs.NewNodes.{NewNodeValue}
use Rattle.btr_tree.specs.Nodes.{points_of, above_root, is_inner, node_version}
use Rattle.btr_tree.specs.PageNodes.{slot_of_page, node_of_page, unused_slot, IsChildPage, IsRootPage}
use Rattle.btr_tree.specs.Root.{root_part}
use Rattle.btr_tree.specs.Shape.{slot_start, slot_of_points, IsLeaf, AreSlots}
use Rattle.btr_tree.specs.NodeSource.{AreSafePoints, AreSafeSlots, IsInnerAt, UsesSource, count_in}
use Rattle.btr_tree.specs.Spots.{HasNone, StandsIn, MayStandIn, FitsSpot, child_spot, page_spot, IsChildSpot, IsFoundSpot, IsSafeSpot, IsLostChild, HasWrongChild, IsNodeCause, IsFetchCause, IsRootCause, IsHarmlessFault, slot_at, shown_slot, shown_spot, IsSpotAt, IsFetchedAt, IsRootAt, IsPossibleRoot}
use Rattle.btr_tree.proofs.LeadsLemmas.{items-get}
use Rattle.btr_tree.proofs.NodeLemmas.{joined-none, slot-part, total-all}
use Rattle.btr_tree.proofs.RootLemmas.{span-whole}
use Rattle.btr_tree.proofs.SourceLemmas.{count-first, count-next}
use Rattle.btr_tree.proofs.UntouchedNodeLemmas.{some-has}
use Rattle.btr_tree.proofs.VersionLemmas.{node-slot}

-- ---- the slots of a page

slot-there : (slots : List PageSlot) (i : ℕ) → length slots ≡ 64 → i < 64 → slice_get slots i ≡ Some (slot_at slots i)
slot-there slots i long lt = slice_get-get_or slots i unused_slot (omega arith)

slots-to : (n : ℕ) (slots : List PageSlot) → n ≤ length slots → (joined_first n (shown_slot slots)).count ≡ sum_by (λ (s : PageSlot). s.agg.count) (take n slots)
slots-to zero slots le = ap (λ (a : AggValue). a.count) (joined-none (shown_slot slots))
slots-to (suc n) slots le =
    let e : n + 1 ≡ suc n = omega arith in
    let before = slots-to n slots (omega arith) in
    let next = count-next n (shown_slot slots) in
    let more : sum_by (λ (s : PageSlot). s.agg.count) (take (n + 1) slots) ≡ sum_by (λ (s : PageSlot). s.agg.count) (take n slots) + (slot_at slots n).agg.count = sum_by_more (λ (s : PageSlot). s.agg.count) slots n unused_slot (omega arith) in
    subst (λ m. (joined_first m (shown_slot slots)).count ≡ sum_by (λ (s : PageSlot). s.agg.count) (take m slots)) e (omega arith)

-- The counts of a page's slots add up to its count.
slots-total : (slots : List PageSlot) → length slots ≡ 64 → count_in (shown_slot slots) ≡ sum_by (λ (s : PageSlot). s.agg.count) slots
slots-total slots long =
    slots-to 64 slots (omega arith) ∙ ap (sum_by (λ (s : PageSlot). s.agg.count)) (take_all 64 slots (omega arith))

slot-few : (slots : List PageSlot) (i : ℕ) → i < 64 → (slot_at slots i).agg.count ≤ count_in (shown_slot slots)
slot-few slots i lt =
    let next = count-next i (shown_slot slots) in
    let all = count-first (i + 1) 64 (shown_slot slots) (omega arith) in
    omega arith

-- ---- the page of a node

page-span : (page : NodePage) → (node_of_page page).span ≡ span_of_page page
page-span (Leaf start height stream version count points) = refl
page-span (Inner start height stream version count slots) = refl

page-version : (page : NodePage) → (node_of_page page).version ≡ (header page).version
page-version (Leaf start height stream version count points) = refl
page-version (Inner start height stream version count slots) = refl

to-span : (links : ℕ → ℕ) (k : ℕ) (s : ℤ) (above : List Point → Bool) (h : Past) → (node_to links k s above h).span ≡ record { start = s; height = k }
to-span links zero s above h = refl
to-span links (suc k) s above h = refl

to-version : (links : ℕ → ℕ) (k : ℕ) (s : ℤ) (above : List Point → Bool) (h : Past) → (node_to links k s above h).version ≡ node_version above k s h
to-version links zero s above h = refl
to-version links (suc k) s above h = refl

says-span : (page : NodePage) (links : ℕ → ℕ) (k : ℕ) (s : ℤ) (above : List Point → Bool) (h : Past) → node_of_page page ≡ node_to links k s above h → span_of_page page ≡ record { start = s; height = k }
says-span page links k s above h says =
    sym (page-span page) ∙ ap (λ (n : NewNodeValue). n.span) says ∙ to-span links k s above h

pub says-version : (page : NodePage) (links : ℕ → ℕ) (k : ℕ) (s : ℤ) (above : List Point → Bool) (h : Past) → node_of_page page ≡ node_to links k s above h → (header page).version ≡ node_version above k s h
says-version page links k s above h says =
    sym (page-version page) ∙ ap (λ (n : NewNodeValue). n.version) says ∙ to-version links k s above h

few-points : (t : Bool) (ps qs : List Point) → 0 < length ps → ps ≡ cond t [] qs → ps ≡ qs
few-points true ps qs some e = let none = ap (length {A = Point}) e in absurd (omega arith)
few-points false ps qs some e = e

-- The points of a leaf's page.
leaf-says : (start : ℤ) (height stream version count : ℕ) (points : List Point) (links : ℕ → ℕ) (k : ℕ) (s : ℤ) (above : List Point → Bool) (h : Past) → 0 < length (take count points) → node_of_page (Leaf start height stream version count points) ≡ node_to links k s above h → take count points ≡ points_of k s (bag h)
leaf-says start height stream version count points links zero s above h some says = ap (λ (n : NewNodeValue). n.points) says
leaf-says start height stream version count points links (suc k) s above h some says =
    few-points (is_inner (suc k) s (bag h)) (take count points) (points_of (suc k) s (bag h)) some (ap (λ (n : NewNodeValue). n.points) says)

inner-yes : (t : Bool) (xs ys : List Slot) → 0 < length ys → ys ≡ cond t xs [] → t ≡ true
inner-yes true xs ys some e = refl
inner-yes false xs ys some e = let none = ap (length {A = Slot}) e in absurd (omega arith)

many-in : (k : ℕ) (s : ℤ) (b : List Point) → is_inner k s b ≡ true → LEAF_POINTS < length (points_of k s b)
many-in k s b e = grind (arith, nat_tests)

-- What an inner node's page says of a span, which is above others.
record SaysInner (slots : List PageSlot) (links : ℕ → ℕ) (below : ℕ) (s : ℤ) (h : Past) : Type 0 where
  pub many : LEAF_POINTS < length (points_of (suc below) s (bag h))
  pub each : (i : ℕ) → i < 64 → slot_of_page (slot_at slots i) ≡ slot_to (links i) (slot_of_points (suc below) s below (slot_start below s i) h)

inner-says : (start : ℤ) (height stream version count : ℕ) (slots : List PageSlot) (links : ℕ → ℕ) (below : ℕ) (s : ℤ) (above : List Point → Bool) (h : Past) → length slots ≡ 64 → node_of_page (Inner start height stream version count slots) ≡ node_to links (suc below) s above h → SaysInner slots links below s h
inner-says start height stream version count slots links below s above h long says =
    let e = ap (λ (n : NewNodeValue). n.slots) says in
    let as_long = length-map slots slot_of_page in
    let yes = inner-yes (is_inner (suc below) s (bag h)) (slots_to links below s h) (map slot_of_page slots) (omega arith) e in
    let all : map slot_of_page slots ≡ slots_to links below s h = e ∙ ap (λ t. cond t (slots_to links below s h) []) yes in
    record {
      many = many-in (suc below) s (bag h) yes;
      each = λ i lt.
          same_Some _ _ (ap (option_map slot_of_page) (sym (slot-there slots i long lt))
          ∙ sym (slice_get-map slot_of_page slots i)
          ∙ ap (λ (xs : List Slot). slice_get xs i) all
          ∙ items-get 64 (λ j. slot_to (links j) (slot_of_points (suc below) s below (slot_start below s j) h)) i lt);
    }

not-inner : (start : ℤ) (height stream version count : ℕ) (slots : List PageSlot) (links : ℕ → ℕ) (s : ℤ) (above : List Point → Bool) (h : Past) → length slots ≡ 64 → node_of_page (Inner start height stream version count slots) ≡ node_to links zero s above h → ⊥
not-inner start height stream version count slots links s above h long says =
    let none = ap (λ (n : NewNodeValue). length n.slots) says in
    let as_long = length-map slots slot_of_page in
    omega arith

slots-say : (slots : List PageSlot) (links : ℕ → ℕ) (below : ℕ) (s : ℤ) (h : Past) → SaysInner slots links below s h → AreSlots below s h (shown_slot slots)
slots-say slots links below s h says i lt =
    ap (λ (x : Slot). let y : Slot = record { agg = x.agg; version = x.version; child = 0 } in y) (says.each i lt)

-- The count of a page that says the node of a span.
says-count : (page : NodePage) (links : ℕ → ℕ) (k : ℕ) (s : ℤ) (above : List Point → Bool) (h : Past) → Keeps page → Fits page → node_of_page page ≡ node_to links k s above h → (header page).count ≡ length (points_of k s (bag h))
says-count (Leaf start height stream version count points) links k s above h keeps fits says =
    let from = keeps.count_from in
    let to = keeps.count_to in
    let full : length points ≡ 252 = fits.1 in
    let long = length-take-le count points (omega arith) in
    sym long ∙ ap (length {A = Point}) (leaf-says start height stream version count points links k s above h (omega arith) says)
says-count (Inner start height stream version count slots) links zero s above h keeps fits says =
    absurd (not-inner start height stream version count slots links s above h fits.1 says)
says-count (Inner start height stream version count slots) links (suc below) s above h keeps fits says =
    let inner = inner-says start height stream version count slots links below s above h fits.1 says in
    sym keeps.total
    ∙ sym (slots-total slots fits.1)
    ∙ ap (λ (a : AggValue). a.count) (total-all below s h (shown_slot slots) (slots-say slots links below s h inner))
    ∙ agg-count (points_of (suc below) s (bag h))

-- ---- where a block leads

-- The page is that of this node of the stream.
pub record IsPageOf (stream : ℕ) (node : NewNodeValue) (page : NodePage) : Type 0 where
  pub its_stream : (header page).stream ≡ stream
  pub says : node_of_page page ≡ node

-- The page is that of the span's node, if this is in the block.
abbrev pub IsPageIn : (ℕ → ℕ → NewNodeValue → Type 0) → ℕ → ℕ → NodePage → ℕ → ℤ → (List Point → Bool) → Past → Type 0
IsPageIn nodes stream block page k s above h =
    (links : ℕ → ℕ) → nodes stream block (node_to links k s above h) → IsPageOf stream (node_to links k s above h) page

-- The page in a block that leads to a span with points.
pub record IsLedTo (stream : ℕ) (page : NodePage) (k : ℕ) (s : ℤ) (above : List Point → Bool) (h : Past) : Type 0 where
  pub links : ℕ → ℕ
  pub its_stream : (header page).stream ≡ stream
  pub says : node_of_page page ≡ node_to links k s above h

-- No block has two pages.
abbrev pub HasOnce : (ℕ → NodePage → Type 0) → Type 0
HasOnce has = (b : ℕ) (p q : NodePage) → has b p → has b q → p ≡ q

-- A page that a block has, if no page is lost.
pub stands-page : (has : ℕ → NodePage → Type 0) (stream block : ℕ) (page : NodePage) (k : ℕ) (s : ℤ) (above : List Point → Bool) (h : Past) → HasOnce has → has block page → IsPageIn (StandsIn has) stream block page k s above h
stands-page has stream block page k s above h once at links stands =
    let same : stands.page ≡ page = once block stands.page page stands.is at in
    record {
      its_stream = ap (λ p. (header p).stream) (sym same) ∙ stands.its_stream;
      says = ap node_of_page (sym same) ∙ stands.says;
    }

-- A page that a block has, if some may be lost, but it has the span and the version of the node.
pub may-page : (has : ℕ → NodePage → Type 0) (stream block : ℕ) (page : NodePage) (k : ℕ) (s : ℤ) (above : List Point → Bool) (h : Past) → has block page → (header page).stream ≡ stream → span_of_page page ≡ record { start = s; height = k } → (header page).version ≡ node_version above k s h → IsPageIn (MayStandIn has) stream block page k s above h
may-page has stream block page k s above h at its_stream its_span its_version links may =
    record {
      its_stream = its_stream;
      says = may page at its_stream (its_span ∙ sym (to-span links k s above h)) (its_version ∙ sym (to-version links k s above h));
    }

led-by : (nodes : ℕ → ℕ → NewNodeValue → Type 0) (stream block : ℕ) (page : NodePage) (k : ℕ) (s : ℤ) (above : List Point → Bool) (h : Past) (On : ℕ → ℕ → Type 0) → IsPageIn nodes stream block page k s above h → LeadsToNode (nodes stream) k s above h block On → IsLedTo stream page k s above h
led-by nodes stream block page k s above h On its to =
    let is = its to.links to.is in
    record { links = to.links; its_stream = is.its_stream; says = is.says }

pub led-page : (nodes : ℕ → ℕ → NewNodeValue → Type 0) (stream block : ℕ) (page : NodePage) (k : ℕ) (s : ℤ) (above : List Point → Bool) (h : Past) → IsPageIn nodes stream block page k s above h → (LeadsNowhere k s h block → ⊥) → Leads (nodes stream) k s above h block → IsLedTo stream page k s above h
led-page nodes stream block page zero s above h its some leads =
    elim leads [
      | inl none ↦ absurd (some none)
      | inr to ↦ led-by nodes stream block page zero s above h (λ i link. Unit {0}) its to
    ]
led-page nodes stream block page (suc k) s above h its some leads =
    elim leads [
      | inl none ↦ absurd (some none)
      | inr to ↦ led-by nodes stream block page (suc k) s above h (λ i link. Leads (nodes stream) k (slot_start k s i) (is_inner (suc k) s) h link) its to
    ]

-- A block that leads to a span with points has a page.
led-some : (has : ℕ → NodePage → Type 0) (stream block k : ℕ) (s : ℤ) (above : List Point → Bool) (h : Past) → (LeadsNowhere k s h block → ⊥) → Leads (StandsIn has stream) k s above h block → HasNone has block → ⊥
led-some has stream block zero s above h some leads none =
    elim leads [ inl nowhere ↦ some nowhere | inr to ↦ none to.is.page to.is.is ]
led-some has stream block (suc k) s above h some leads none =
    elim leads [ inl nowhere ↦ some nowhere | inr to ↦ none to.is.page to.is.is ]

-- ---- the page of a place after a past

spot-some : (nodes : ℕ → ℕ → NewNodeValue → Type 0) (spot : Spot) (k : ℕ) (s : ℤ) (above : List Point → Bool) (h : Past) → IsSpotAt nodes spot k s above h → 0 < spot.count → LeadsNowhere k s h spot.block → ⊥
spot-some nodes spot k s above h is some nowhere =
    let none = ap (length {A = Point}) nowhere.none in
    let counted = is.counted in
    omega arith

pub spot-led : (nodes : ℕ → ℕ → NewNodeValue → Type 0) (spot : Spot) (page : NodePage) (k : ℕ) (s : ℤ) (above : List Point → Bool) (h : Past) → IsPageIn nodes spot.stream spot.block page k s above h → 0 < spot.count → IsSpotAt nodes spot k s above h → IsLedTo spot.stream page k s above h
spot-led nodes spot page k s above h its some is =
    led-page nodes spot.stream spot.block page k s above h its (spot-some nodes spot k s above h is some) is.leads

-- It fits the place.
told-fits : (nodes : ℕ → ℕ → NewNodeValue → Type 0) (spot : Spot) (span : SpanValue) (page : NodePage) (above : List Point → Bool) (h : Past) → IsPageIn nodes spot.stream spot.block page span.height span.start above h → Keeps page → Fits page → 0 < spot.count → IsSpotAt nodes spot span.height span.start above h → FitsSpot spot span page
told-fits nodes spot span page above h its keeps fits some is =
    let led = spot-led nodes spot page span.height span.start above h its some is in
    record {
      its_span = says-span page led.links span.height span.start above h led.says;
      its_stream = led.its_stream;
      its_version = says-version page led.links span.height span.start above h led.says ∙ sym (is.dated some);
      its_count = says-count page led.links span.height span.start above h keeps fits led.says ∙ sym is.counted;
    }

pub fits-never : (nodes : ℕ → ℕ → NewNodeValue → Type 0) (spot : Spot) (span : SpanValue) (page : NodePage) (above : List Point → Bool) (h : Past) → IsPageIn nodes spot.stream spot.block page span.height span.start above h → Keeps page → Fits page → 0 < spot.count → (FitsSpot spot span page → ⊥) → IsSpotAt nodes spot span.height span.start above h → ⊥
fits-never nodes spot span page above h its keeps fits some wrong is =
    wrong (told-fits nodes spot span page above h its keeps fits some is)

-- ---- refusals

pub node-harmless : (O : Type 0) (has : ℕ → NodePage → Type 0) (spot : Spot) (b c k : ℕ) (s : ℤ) (e : NodeFault) (above : List Point → Bool) (h : Past) → O → 0 < spot.count → IsNodeCause O has spot.block b c e → IsSpotAt (StandsIn has) spot k s above h → IsHarmlessFault e
node-harmless O has spot b c k s Failed above h o some cause is = tt
node-harmless O has spot b c k s Want above h o some cause is = tt
node-harmless O has spot b c k s (Damaged named) above h o some cause is =
    led-some has spot.stream spot.block k s above h (spot-some (StandsIn has) spot k s above h is some) is.leads (cause.1 o)

lost-child : (has : ℕ → NodePage → Type 0) (spot : Spot) (part : SpanValue) (named : ℕ) → named ≡ spot.block → HasNone has spot.block → IsChildSpot has part spot ⊎ IsFoundSpot has part spot → IsLostChild has named ⊎ HasWrongChild has named
lost-child has spot part named e none known =
    elim known [
      | inl child ↦ inl (record {
        none = subst (HasNone has) (sym e) none;
        parent = spot.parent;
        page = child.page;
        i = child.i;
        slot = child.slot;
        names = child.names;
        is = sym (ap (λ (x : Spot). x.block) child.is) ∙ sym e;
      })
      | inr found ↦ absurd (none found.page found.is)
    ]

-- Why a node is not fetched is why a walk is refused.
pub node-cause : (O : Type 0) (has : ℕ → NodePage → Type 0) (spot : Spot) (part : SpanValue) (b c : ℕ) (e : NodeFault) → IsSafeSpot O (λ o. has) spot part → 0 < spot.count → IsNodeCause O has spot.block b c e → IsFetchCause O (λ o. has) b c e
node-cause O has spot part b c Failed safe some cause = cause
node-cause O has spot part b c Want safe some cause = tt
node-cause O has spot part b c (Damaged named) safe some cause =
    λ o. lost-child has spot part named cause.0 (cause.1 o) (safe.known o some)

child-fits : (spot : Spot) (part : SpanValue) (parent page : NodePage) (i : ℕ) (slot : PageSlot) → spot ≡ child_spot spot.parent (header parent).stream slot → part ≡ slot_of (span_of_page parent) i → IsChildPage parent i slot page → FitsSpot spot part page
child-fits spot part parent page i slot is its_span child =
    record {
      its_span = child.span ∙ sym its_span;
      its_stream = child.stream ∙ sym (ap (λ (x : Spot). x.stream) is);
      its_version = child.version ∙ sym (ap (λ (x : Spot). x.version) is);
      its_count = child.count ∙ sym (ap (λ (x : Spot). x.count) is);
    }

-- A page that does not fit its place: its parent is named.
pub wrong-page : (O : Type 0) (has : ℕ → NodePage → Type 0) (spot : Spot) (part : SpanValue) (page : NodePage) (b c : ℕ) → HasOnce has → IsSafeSpot O (λ o. has) spot part → 0 < spot.count → (O → has spot.block page) → (FitsSpot spot part page → ⊥) → IsFetchCause O (λ o. has) b c (Damaged spot.parent)
wrong-page O has spot part page b c once safe some at wrong o =
    elim (safe.known o some) [
      | inl child ↦ inr (record {
        page = child.page;
        i = child.i;
        slot = child.slot;
        names = child.names;
        child = page;
        is = subst (λ n. has n page) (ap (λ (x : Spot). x.block) child.is) (at o);
        wrong = λ fits. wrong (child-fits spot part child.page page child.i child.slot child.is child.its_span fits);
      })
      | inr found ↦ absurd (wrong (subst (FitsSpot spot part) (once spot.block found.page page found.is (at o)) found.fits))
    ]

-- What a call of the pages does to their state.
pub uses : {N C A : Type 0} (contents : N → C) (faults : N → ℕ) (Cause : C → ℕ → ℕ → NodeFault → Type 0) (old new : N) (q : Result A NodeFault) → contents new ≡ contents old → faults old ≤ faults new → IfErr q (Cause (contents old) (faults old) (faults new)) → UsesSource contents faults Cause old new q
uses contents faults Cause old new q same rises cause =
    record { same = same; rises = rises; cause = cause }

-- ---- what is safe to walk

inside-one : (start : ℤ) (height : ℕ) (p : Point) → IsInside start height p → is_within start (start +ℤ pos (width height)) p ≡ true
inside-one start height p is = grind (arith, ints)

inside-all : (start : ℤ) (height : ℕ) (ps : List Point) → AllByRecursion (IsInside start height) ps → AllByRecursion (λ p. is_within start (start +ℤ pos (width height)) p ≡ true) ps
inside-all start height [] all = tt
inside-all start height (p ∷ ps) all = (inside-one start height p all.0, inside-all start height ps all.1)

pub leaf-safe : (spot : Spot) (span : SpanValue) (start : ℤ) (height stream version count : ℕ) (points : List Point) → Keeps (Leaf start height stream version count points) → Fits (Leaf start height stream version count points) → FitsSpot spot span (Leaf start height stream version count points) → AreSafePoints spot.count span (take count points)
leaf-safe spot span start height stream version count points keeps fits at =
    let from = keeps.count_from in
    let to = keeps.count_to in
    let full : length points ≡ 252 = fits.1 in
    let long = length-take-le count points (omega arith) in
    let same = at.its_count in
    record {
      in_order = keeps.in_order;
      inside = subst (λ (u : SpanValue). points_of u.height u.start (take count points) ≡ take count points) at.its_span (filter-all (is_within start (start +ℤ pos (width height))) (take count points) (inside-all start height (take count points) keeps.inside));
      some = omega arith;
      few = omega arith;
    }

child-safe : (O : Type 0) (has : ℕ → NodePage → Type 0) (spot : Spot) (span : SpanValue) (page : NodePage) (slots : List PageSlot) (below i : ℕ) → slots_of_page page ≡ slots → length slots ≡ 64 → (O → has spot.block page) → FitsSpot spot span page → span.height ≡ suc below → i < 64 → (slot_at slots i).agg.count ≤ 2 ^ 32 → IsSafeSpot O (λ o. has) (shown_spot spot.block spot.stream slots i) (record { start = slot_start below span.start i; height = below })
child-safe O has spot span page slots below i its long at fits above lt few =
    record {
      few = few;
      known = λ o some. inl (record {
        page = page;
        i = i;
        slot = slot_at slots i;
        names = record { is = at o; there = ap (λ (xs : List PageSlot). slice_get xs i) its ∙ slot-there slots i long lt; some = some };
        is = ap (λ n. child_spot spot.block n (slot_at slots i)) (sym fits.its_stream);
        its_span = sym (slot-part span below i above) ∙ ap (λ (u : SpanValue). slot_of u i) (sym fits.its_span);
      });
    }

height-down : (span : SpanValue) (page : NodePage) (height : ℕ) → span_of_page page ≡ span → (span_of_page page).height ≡ height → 1 ≤ height → span.height ≡ suc (height - 1)
height-down span page height its is some =
    let e = ap (λ (u : SpanValue). u.height) its in omega arith

pub inner-safe : (O : Type 0) (has : ℕ → NodePage → Type 0) (spot : Spot) (span : SpanValue) (start : ℤ) (height stream version count : ℕ) (slots : List PageSlot) → Keeps (Inner start height stream version count slots) → Fits (Inner start height stream version count slots) → FitsSpot spot span (Inner start height stream version count slots) → (O → has spot.block (Inner start height stream version count slots)) → AreSafeSlots (λ (x : Spot) (k : ℕ) (s : ℤ). IsSafeSpot O (λ o. has) x (record { start = s; height = k })) (λ (x : Spot). x.count) (shown_spot spot.block spot.stream slots) (shown_slot slots) span × (count_in (shown_slot slots) ≤ spot.count)
inner-safe O has spot span start height stream version count slots keeps fits at there =
    let from = keeps.count_from in
    let to = keeps.count_to in
    let total = slots-total slots fits.1 in
    let sum = keeps.total in
    let same = at.its_count in
    let down = height-down span (Inner start height stream version count slots) height at.its_span refl keeps.height_from in (
      record {
        below = height - 1;
        above = down;
        each = λ i lt. let few = slot-few slots i lt in child-safe O has spot span (Inner start height stream version count slots) slots (height - 1) i refl fits.1 there at down lt (omega arith);
        counted = λ i lt. refl;
        some = omega arith;
        small = omega arith;
      },
      omega arith,
    )

-- ---- what is found after a past

no-length : (ps : List Point) (n : ℕ) → n ≡ 0 → n ≡ length ps → ps ≡ []
no-length [] n e f = refl
no-length (p ∷ ps) n e f = absurd (omega arith)

pub nothing-found : (nodes : ℕ → ℕ → NewNodeValue → Type 0) (spot : Spot) (k : ℕ) (s : ℤ) (above : List Point → Bool) (h : Past) → spot.count ≡ 0 → IsSpotAt nodes spot k s above h → points_of k s (bag h) ≡ []
nothing-found nodes spot k s above h none is = no-length (points_of k s (bag h)) spot.count none is.counted

pub leaf-found : (nodes : ℕ → ℕ → NewNodeValue → Type 0) (spot : Spot) (k : ℕ) (s : ℤ) (above : List Point → Bool) (h : Past) (start : ℤ) (height stream version count : ℕ) (points : List Point) → IsPageIn nodes spot.stream spot.block (Leaf start height stream version count points) k s above h → Keeps (Leaf start height stream version count points) → Fits (Leaf start height stream version count points) → 0 < spot.count → IsSpotAt nodes spot k s above h → IsLeaf k s above h version (take count points)
leaf-found nodes spot k s above h start height stream version count points its keeps fits some is =
    let led = spot-led nodes spot (Leaf start height stream version count points) k s above h its some is in
    let from = keeps.count_from in
    let to = keeps.count_to in
    let full : length points ≡ 252 = fits.1 in
    let long = length-take-le count points (omega arith) in
    record {
      same = leaf-says start height stream version count points led.links k s above h (omega arith) led.says;
      some = omega arith;
      few = omega arith;
      version = says-version (Leaf start height stream version count points) led.links k s above h led.says;
    }

-- The place of a slot's child.
child-at : (nodes : ℕ → ℕ → NewNodeValue → Type 0) (stream block : ℕ) (slots : List PageSlot) (links : ℕ → ℕ) (below : ℕ) (s : ℤ) (h : Past) (i : ℕ) → SaysInner slots links below s h → i < 64 → Leads (nodes stream) below (slot_start below s i) (is_inner (suc below) s) h (links i) → IsSpotAt nodes (shown_spot block stream slots i) below (slot_start below s i) (is_inner (suc below) s) h
child-at nodes stream block slots links below s h i says lt leads =
    let e = says.each i lt in
    let ps = points_of below (slot_start below s i) (bag h) in
    let counted : (slot_at slots i).agg.count ≡ length ps = ap (λ (x : Slot). x.agg.count) e ∙ agg-count ps in
    record {
      leads = subst (Leads (nodes stream) below (slot_start below s i) (is_inner (suc below) s) h) (sym (ap (λ (x : Slot). x.child) e)) leads;
      counted = counted;
      dated = λ some.
          ap (λ (x : Slot). x.version) e
          ∙ sym (node-slot (is_inner (suc below) s) below (slot_start below s i) h (some-has ps (omega arith)));
    }

pub inner-found : (O : Type 0) (nodes : O → ℕ → ℕ → NewNodeValue → Type 0) (o : O) (spot : Spot) (k : ℕ) (s : ℤ) (above : List Point → Bool) (h : Past) (start : ℤ) (height stream version count : ℕ) (slots : List PageSlot) → IsPageIn (nodes o) spot.stream spot.block (Inner start height stream version count slots) k s above h → Keeps (Inner start height stream version count slots) → Fits (Inner start height stream version count slots) → 0 < spot.count → IsSpotAt (nodes o) spot k s above h → IsInnerAt (IsFetchedAt O nodes) (shown_spot spot.block spot.stream slots) (shown_slot slots) (record { start = s; height = k }) above h version
unfolding led-by
inner-found O nodes o spot zero s above h start height stream version count slots its keeps fits some is =
    let led = spot-led (nodes o) spot (Inner start height stream version count slots) zero s above h its some is in
    absurd (not-inner start height stream version count slots led.links s above h fits.1 led.says)
inner-found O nodes o spot (suc below) s above h start height stream version count slots its keeps fits some is =
    elim is.leads [
      | inl nowhere ↦ absurd (spot-some (nodes o) spot (suc below) s above h is some nowhere)
      | inr to ↦
          let page = Inner start height stream version count slots in
          let led = led-by (nodes o) spot.stream spot.block page (suc below) s above h (λ i link. Leads (nodes o spot.stream) below (slot_start below s i) (is_inner (suc below) s) h link) its to in
          let says = inner-says start height stream version count slots to.links below s above h fits.1 led.says in
          record {
            version = says-version page to.links (suc below) s above h led.says;
            inner = record {
              below = below;
              above = refl;
              many = says.many;
              all = slots-say slots to.links below s h says;
              each = λ i lt. (o, child-at (nodes o) spot.stream spot.block slots to.links below s h i says lt (to.each says.many i lt).1);
            };
          }
    ]

-- ---- the place of a root

pub root-none : (nodes : ℕ → ℕ → NewNodeValue → Type 0) (root : Root) (h : Past) (version parent : ℕ) → root.block ≡ 0 → IsRootAt nodes root h → IsSpotAt nodes (record { block = 0; stream = root.stream; version = version; count = 0; parent = parent }) 10 FIRST above_root h
root-none nodes root h version parent e is =
    let none : points_of 10 FIRST (bag h) ≡ [] = elim is.leads [ inl nowhere ↦ nowhere.none | inr to ↦ let some = to.some in absurd (omega arith) ] in
    record {
      leads = subst (Leads (nodes root.stream) 10 FIRST above_root h) e is.leads;
      counted = sym (ap (length {A = Point}) none);
      dated = λ some. absurd (omega arith);
    }

root-led : (nodes : ℕ → ℕ → NewNodeValue → Type 0) (root : Root) (page : NodePage) (h : Past) → IsPageIn nodes root.stream root.block page 10 FIRST above_root h → 0 < root.block → IsRootAt nodes root h → IsLedTo root.stream page 10 FIRST above_root h
root-led nodes root page h its some is =
    led-page nodes root.stream root.block page 10 FIRST above_root h its (λ nowhere. let none = nowhere.is in omega arith) is.leads

pub root-at : (nodes : ℕ → ℕ → NewNodeValue → Type 0) (root : Root) (page : NodePage) (h : Past) → IsPageIn nodes root.stream root.block page 10 FIRST above_root h → Keeps page → Fits page → 0 < root.block → IsRootAt nodes root h → IsSpotAt nodes (page_spot root.block page) 10 FIRST above_root h
root-at nodes root page h its keeps fits some is =
    let led = root-led nodes root page h its some is in
    record {
      leads = subst (λ n. Leads (nodes n) 10 FIRST above_root h root.block) (sym led.its_stream) is.leads;
      counted = says-count page led.links 10 FIRST above_root h keeps fits led.says;
      dated = λ _. says-version page led.links 10 FIRST above_root h led.says;
    }

-- It is found.
pub root-fits : (nodes : ℕ → ℕ → NewNodeValue → Type 0) (root : Root) (page : NodePage) (h : Past) → IsPageIn nodes root.stream root.block page 10 FIRST above_root h → 0 < root.block → IsRootAt nodes root h → IsRootPage root.stream root.version page
root-fits nodes root page h its some is =
    let led = root-led nodes root page h its some is in
    let dated = says-version page led.links 10 FIRST above_root h led.says in
    let older = is.not_newer in
    record {
      height = ap (λ (u : SpanValue). u.height) (says-span page led.links 10 FIRST above_root h led.says);
      its_stream = led.its_stream;
      not_newer = subst (λ v. v ≤ root.version) (sym dated) older;
    }

pub root-harmless : (O : Type 0) (has : ℕ → NodePage → Type 0) (root : Root) (b c : ℕ) (e : NodeFault) (h : Past) → O → 0 < root.block → IsNodeCause O has root.block b c e → IsRootAt (StandsIn has) root h → IsHarmlessFault e
root-harmless O has root b c Failed h o some cause is = tt
root-harmless O has root b c Want h o some cause is = tt
root-harmless O has root b c (Damaged named) h o some cause is =
    led-some has root.stream root.block 10 FIRST above_root h (λ nowhere. let none = nowhere.is in omega arith) is.leads (cause.1 o)

pub root-cause : (O : Type 0) (has : ℕ → NodePage → Type 0) (root : Root) (b c : ℕ) (e : NodeFault) → IsNodeCause O has root.block b c e → IsRootCause O root (λ o. has) b c e
root-cause O has root b c Failed cause = cause
root-cause O has root b c Want cause = tt
root-cause O has root b c (Damaged named) cause = (cause.0, λ o page at fits. cause.1 o page at)

pub wrong-root : (O : Type 0) (has : ℕ → NodePage → Type 0) (root : Root) (page : NodePage) (b c : ℕ) → HasOnce has → (O → has root.block page) → (IsRootPage root.stream root.version page → ⊥) → IsRootCause O root (λ o. has) b c (Damaged root.block)
wrong-root O has root page b c once at wrong =
    (refl, λ o other there fits. wrong (subst (IsRootPage root.stream root.version) (once root.block other page there (at o)) fits))

page-aligned : (page : NodePage) → Keeps page → IsSpan (span_of_page page)
page-aligned (Leaf start height stream version count points) keeps = keeps.fields.span
page-aligned (Inner start height stream version count slots) keeps = keeps.fields.span

page-few : (page : NodePage) → Keeps page → (header page).count ≤ 2 ^ 32
page-few (Leaf start height stream version count points) keeps = let to = keeps.count_to in omega arith
page-few (Inner start height stream version count slots) keeps = keeps.count_to

-- The page of a root is that of the whole domain.
root-whole : (root : Root) (page : NodePage) → Keeps page → IsRootPage root.stream root.version page → span_of_page page ≡ root_part
root-whole root page keeps is =
    let high = is.height in
    span-whole (span_of_page page) (page-aligned page keeps) (omega arith)

-- A page of a root that was found, if some pages may be lost.
pub may-root : (has : ℕ → NodePage → Type 0) (root : Root) (page : NodePage) (h : Past) → 0 < root.block → has root.block page → Keeps page → IsRootPage root.stream root.version page → IsPossibleRoot has root h → IsPageIn (MayStandIn has) root.stream root.block page 10 FIRST above_root h
may-root has root page h some at keeps fits possible =
    may-page has root.stream root.block page 10 FIRST above_root h at fits.its_stream (root-whole root page keeps fits) (possible.newest some page at fits)

-- A walk may go to the place of a root whose page was found.
pub root-safe : (O : Type 0) (has : ℕ → NodePage → Type 0) (root : Root) (page : NodePage) → (O → has root.block page) → Keeps page → IsRootPage root.stream root.version page → IsSafeSpot O (λ o. has) (page_spot root.block page) root_part
root-safe O has root page at keeps is =
    let whole = root-whole root page keeps is in
    record {
      few = page-few page keeps;
      known = λ o some. inr (record {
        page = page;
        is = at o;
        fits = record { its_span = whole; its_stream = refl; its_version = refl; its_count = refl };
      });
    }
