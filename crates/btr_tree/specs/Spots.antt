-- Nodes that are fetched from blocks: which page is that of a place, which block a refusal names, and which place and which root is that of
-- a past.
--
-- A source of pages says by a relation which page a block has. A function from blocks to pages is such a relation too.
use Rattle.std.specs.Prelude.{◌≡◌, ◌⊎◌, ℕ, ◌+◌, ◌^◌, ◌<◌, ◌≤◌, ℤ, Bool, List, length, min, get_or, slice_get, Some}
use Rattle.btr_base.specs.Point.{AreInDomain}
use Rattle.btr_base.specs.Span.{SpanValue, slot_of}
use Rattle.btr_base.specs.declared.limits.TheConstants.{FIRST, MAX_POINTS}
use Rattle.btr_base.specs.declared.point.Point.{Point}
use Rattle.btr_node.specs.Page.{header, span_of_page, slots_of_page}
use Rattle.btr_node.specs.declared.page.NodePage.{NodePage}
use Rattle.btr_node.specs.declared.page.PageSlot.{PageSlot}
use Rattle.btr_tree.specs.declared.fetch.NodeFault.{NodeFault}
use Rattle.btr_tree.specs.declared.fetch.NodeFault.TheVariants.{Failed, Damaged, Want}
use Rattle.btr_tree.specs.declared.node.Slot.{Slot}
use Rattle.btr_tree.specs.declared.spot.Root.{Root}
use Rattle.btr_tree.specs.declared.spot.Spot.{Spot}
use Rattle.btr_tree.specs.History.{Past, bag}
use Rattle.btr_tree.specs.Leads.{Leads}
use Rattle.btr_tree.specs.NewNodes.{NewNodeValue}
use Rattle.btr_tree.specs.Nodes.{points_of, above_root, node_version}
use Rattle.btr_tree.specs.PageNodes.{node_of_page, unused_slot, IsChildPage, IsRootPage}

-- ---- the pages of blocks

-- The block has no page.
abbrev pub HasNone : (ℕ → NodePage → Type 0) → ℕ → Type 0
HasNone has block = (page : NodePage) → has block page → ⊥

-- The block has the page of this node of the stream.
pub record StandsIn (has : ℕ → NodePage → Type 0) (stream block : ℕ) (node : NewNodeValue) : Type 0 where
  pub page : NodePage
  pub is : has block page
  pub its_stream : (header page).stream ≡ stream
  pub says : node_of_page page ≡ node

-- The block has the page of this node of the stream, or that page is lost. It is lost as well if a page of another stream, span or version
-- is in its place.
abbrev pub MayStandIn : (ℕ → NodePage → Type 0) → ℕ → ℕ → NewNodeValue → Type 0
MayStandIn has stream block node =
    (page : NodePage)
    → has block page
    → (header page).stream ≡ stream
    → span_of_page page ≡ node.span
    → (header page).version ≡ node.version
    → node_of_page page ≡ node

-- The block has a page with this slot, which has a point.
pub record HasChildIn (has : ℕ → NodePage → Type 0) (block : ℕ) (page : NodePage) (i : ℕ) (slot : PageSlot) : Type 0 where
  pub is : has block page
  pub there : slice_get (slots_of_page page) i ≡ Some slot
  pub some : 0 < slot.agg.count

-- ---- the page of a place

-- A page is that of a place: of the span and of the stream, with the version and the count.
pub record FitsSpot (spot : Spot) (span : SpanValue) (page : NodePage) : Type 0 where
  pub its_span : span_of_page page ≡ span
  pub its_stream : (header page).stream ≡ spot.stream
  pub its_version : (header page).version ≡ spot.version
  pub its_count : (header page).count ≡ spot.count

-- The place of the child of a slot of the page in a block.
abbrev pub child_spot : ℕ → ℕ → PageSlot → Spot
child_spot block stream slot =
    record { block = slot.child; stream = stream; version = slot.version; count = slot.agg.count; parent = block }

-- The place of a page in a block, as that of a root.
abbrev pub page_spot : ℕ → NodePage → Spot
page_spot block page =
    record {
      block = block;
      stream = (header page).stream;
      version = (header page).version;
      count = (header page).count;
      parent = block;
    }

-- The place is that of a slot's child, and the span is that of the slot.
pub record IsChildSpot (has : ℕ → NodePage → Type 0) (part : SpanValue) (spot : Spot) : Type 0 where
  pub page : NodePage
  pub i : ℕ
  pub slot : PageSlot
  pub names : HasChildIn has spot.parent page i slot
  pub is : spot ≡ child_spot spot.parent (header page).stream slot
  pub its_span : part ≡ slot_of (span_of_page page) i

-- The place is that of a page that was found there.
pub record IsFoundSpot (has : ℕ → NodePage → Type 0) (part : SpanValue) (spot : Spot) : Type 0 where
  pub page : NodePage
  pub is : has spot.block page
  pub fits : FitsSpot spot part page

-- A walk may go to a place: it has no more points than a version can have. If the pages are told, then a place with a point is that
-- of a slot's child, or that of a page that was found there.
pub record IsSafeSpot (observable : Type 0) (has : observable → ℕ → NodePage → Type 0) (spot : Spot) (part : SpanValue) : Type 0 where
  pub few : spot.count ≤ 2 ^ 32
  pub known : (o : observable) → 0 < spot.count → IsChildSpot (has o) part spot ⊎ IsFoundSpot (has o) part spot

-- ---- which block a refusal names

-- The block has no page, and it is that of the child of a slot with a point.
pub record IsLostChild (has : ℕ → NodePage → Type 0) (block : ℕ) : Type 0 where
  pub none : HasNone has block
  pub parent : ℕ
  pub page : NodePage
  pub i : ℕ
  pub slot : PageSlot
  pub names : HasChildIn has parent page i slot
  pub is : slot.child ≡ block

-- The page in the block has a slot with a point whose child has a page, but another one than that of the slot.
pub record HasWrongChild (has : ℕ → NodePage → Type 0) (block : ℕ) : Type 0 where
  pub page : NodePage
  pub i : ℕ
  pub slot : PageSlot
  pub names : HasChildIn has block page i slot
  pub child : NodePage
  pub is : has slot.child child
  pub wrong : IsChildPage page i slot child → ⊥

-- The count of faults rose, or it is at the greatest value of a u64.
abbrev pub CountRose : ℕ → ℕ → Type 0
CountRose before after = min (before + 1) 18446744073709551615 ≤ after

-- Why a page was not fetched: a call failed, or this block has no page; or out of memory.
abbrev pub IsNodeCause : (observable : Type 0) → (ℕ → NodePage → Type 0) → ℕ → ℕ → ℕ → NodeFault → Type 0
IsNodeCause observable has block before after Failed = CountRose before after
IsNodeCause observable has block before after (Damaged named) = (named ≡ block) × (observable → HasNone has block)
IsNodeCause observable has block before after Want = Unit {0}

-- Why a walk is refused: a call failed; or, if the pages are told, the block that is named has no page though a slot's child is there,
-- or has a page with a slot whose child is another page than the slot says; or out of memory.
abbrev pub IsFetchCause : (observable : Type 0) → (observable → ℕ → NodePage → Type 0) → ℕ → ℕ → NodeFault → Type 0
IsFetchCause observable has before after Failed = CountRose before after
IsFetchCause observable has before after (Damaged named) = (o : observable) → IsLostChild (has o) named ⊎ HasWrongChild (has o) named
IsFetchCause observable has before after Want = Unit {0}

-- Why the place of a root is not found: a call failed; or the root's block is named, and if the pages are told, it has no page of a
-- root of the stream that is not newer than the version; or out of memory.
abbrev pub IsRootCause : (observable : Type 0) → Root → (observable → ℕ → NodePage → Type 0) → ℕ → ℕ → NodeFault → Type 0
IsRootCause observable root has before after Failed = CountRose before after
IsRootCause observable root has before after (Damaged named) =
    (named ≡ root.block)
    × ((o : observable) (page : NodePage) → has o root.block page → IsRootPage root.stream root.version page → ⊥)
IsRootCause observable root has before after Want = Unit {0}

-- Why a walk from a root is refused: its place is not found, or the walk is refused from there.
abbrev pub IsWalkCause : (observable : Type 0) → Root → (observable → ℕ → NodePage → Type 0) → ℕ → ℕ → NodeFault → Type 0
IsWalkCause observable root has before after e =
    IsRootCause observable root has before after e ⊎ IsFetchCause observable has before after e

-- The refusal says nothing against the pages.
abbrev pub IsHarmlessFault : NodeFault → Type 0
IsHarmlessFault Failed = Unit {0}
IsHarmlessFault (Damaged named) = ⊥
IsHarmlessFault Want = Unit {0}

-- ---- the slots of a page

-- Slot i of a page.
abbrev pub slot_at : List PageSlot → ℕ → PageSlot
slot_at slots i = get_or slots i unused_slot

-- Slot i of a page, without the address of its child.
abbrev pub shown_slot : List PageSlot → ℕ → Slot
shown_slot slots i = record { agg = (slot_at slots i).agg; version = (slot_at slots i).version; child = 0 }

-- The place of the child of slot i of the page in a block.
abbrev pub shown_spot : ℕ → ℕ → List PageSlot → ℕ → Spot
shown_spot block stream slots i = child_spot block stream (slot_at slots i)

-- ---- after a past
--
-- All is said over the nodes of a stream that are in blocks: `StandsIn` of a source's pages, if all of them are there, or `MayStandIn`, if
-- some may be lost.

-- The place is that of a span after a past: the block leads to the span's nodes, and the place has the count of the span's points and,
-- if there is one, the version of its node.
pub record IsSpotAt (nodes : ℕ → ℕ → NewNodeValue → Type 0) (spot : Spot) (height : ℕ) (start : ℤ) (above : List Point → Bool)
    (h : Past) : Type 0 where
  pub leads : Leads (nodes spot.stream) height start above h spot.block
  pub counted : spot.count ≡ length (points_of height start (bag h))
  pub dated : 0 < spot.count → spot.version ≡ node_version above height start h

-- The pages are told, and the place is that of a span after a past.
abbrev pub IsFetchedAt : (observable : Type 0) → (observable → ℕ → ℕ → NewNodeValue → Type 0) → Spot → ℕ → ℤ
    → (List Point → Bool) → Past → Type 0
IsFetchedAt observable nodes spot height start above h = (o : observable) × IsSpotAt (nodes o) spot height start above h

-- The root is that of a past: its block leads to the nodes of the past's tree, or is 0 if there is no point.
pub record IsRootAt (nodes : ℕ → ℕ → NewNodeValue → Type 0) (root : Root) (h : Past) : Type 0 where
  pub leads : Leads (nodes root.stream) 10 FIRST above_root h root.block
  pub not_newer : node_version above_root 10 FIRST h ≤ root.version
  pub times : AreInDomain (bag h)
  pub few : length (bag h) ≤ MAX_POINTS

-- P holds for each past whose root this is, with all its pages there.
abbrev pub AtEachRoot : (ℕ → NodePage → Type 0) → Root → (Past → Type 0) → Type 0
AtEachRoot has root P = (h : Past) → IsRootAt (StandsIn has) root h → P h

-- The root may be that of a past: any page of the past's tree may be lost. If its block is not 0 and has a page of such a root, then that
-- has the version of the past's root.
pub record IsPossibleRoot (has : ℕ → NodePage → Type 0) (root : Root) (h : Past) : Type 0 where
  pub is : IsRootAt (MayStandIn has) root h
  pub newest : 0 < root.block
      → (page : NodePage)
      → has root.block page
      → IsRootPage root.stream root.version page
      → (header page).version ≡ node_version above_root 10 FIRST h

-- P holds for each past whose root this may be.
abbrev pub AtEachPossibleRoot : (ℕ → NodePage → Type 0) → Root → (Past → Type 0) → Type 0
AtEachPossibleRoot has root P = (h : Past) → IsPossibleRoot has root h → P h

-- The place of a root: of no point if the root's block is 0, and else that of the page in the block, which is that of such a root.
pub record IsRootSpot (has : ℕ → NodePage → Type 0) (root : Root) (spot : Spot) : Type 0 where
  pub none : root.block ≡ 0 → spot.count ≡ 0
  pub some : 0 < root.block
      → (page : NodePage) × has root.block page × IsRootPage root.stream root.version page × (spot ≡ page_spot root.block page)
