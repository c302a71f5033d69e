-- Lemmas on fetched nodes as a source: what a page shows is safe to walk, and is what the span is after a past.
use Rattle.std.specs.Prelude.{ℕ, ◌<◌, ℤ, Bool, List, take}
use Rattle.btr_base.specs.Span.{SpanValue}
use Rattle.btr_base.specs.declared.point.Point.{Point}
use Rattle.btr_node.specs.Page.{Keeps, Fits}
use Rattle.btr_node.specs.declared.page.NodePage.{NodePage}
use Rattle.btr_node.specs.declared.page.NodePage.TheVariants as page
use Rattle.btr_tree.specs.declared.fetched.PagePoints.{PagePoints}
use Rattle.btr_tree.specs.declared.fetched.PageSlots.{PageSlots}
use Rattle.btr_tree.specs.declared.node.Slot.{Slot}
use Rattle.btr_tree.specs.declared.spot.Spot.{Spot}
use Rattle.btr_tree.specs.Fetched.{found_in}
use Rattle.btr_tree.specs.History.{Past}
use Rattle.btr_tree.specs.NewNodes.{NewNodeValue}
use Rattle.btr_tree.specs.NodeSource.{IsFoundAt, IsSafeFound}
use Rattle.btr_tree.specs.Spots.{FitsSpot, IsSafeSpot, IsSpotAt, IsFetchedAt, shown_slot, shown_spot}
use Rattle.btr_tree.proofs.SpotLemmas.{IsPageIn, leaf-safe, inner-safe, leaf-found, inner-found}

abbrev pub points_of_page : PagePoints → List Point
points_of_page leaf = take leaf.count leaf.points

abbrev pub slots_of_inner : PageSlots → ℕ → Slot
slots_of_inner inner = shown_slot inner.slots

abbrev pub spots_of_inner : PageSlots → ℕ → Spot
spots_of_inner inner = shown_spot inner.block inner.stream inner.slots

pub found-safe : (O : Type 0) (has : ℕ → NodePage → Type 0) (spot : Spot) (span : SpanValue) (page : NodePage) → Keeps page → Fits page → FitsSpot spot span page → (O → has spot.block page) → IsSafeFound (λ (x : Spot) (k : ℕ) (s : ℤ). IsSafeSpot O (λ o. has) x (record { start = s; height = k })) (λ (x : Spot). x.count) points_of_page slots_of_inner spots_of_inner spot.count span (found_in spot page)
found-safe O has spot span (page.Leaf start height stream version count points) keeps fits at there =
    leaf-safe spot span start height stream version count points keeps fits at
found-safe O has spot span (page.Inner start height stream version count slots) keeps fits at there =
    inner-safe O has spot span start height stream version count slots keeps fits at there

pub found-at : (O : Type 0) (nodes : O → ℕ → ℕ → NewNodeValue → Type 0) (o : O) (spot : Spot) (span : SpanValue) (above : List Point → Bool) (h : Past) (page : NodePage) → IsPageIn (nodes o) spot.stream spot.block page span.height span.start above h → Keeps page → Fits page → 0 < spot.count → IsSpotAt (nodes o) spot span.height span.start above h → IsFoundAt (IsFetchedAt O nodes) points_of_page slots_of_inner spots_of_inner span above h (found_in spot page)
found-at O nodes o spot span above h (page.Leaf start height stream version count points) its keeps fits some is =
    leaf-found (nodes o) spot span.height span.start above h start height stream version count points its keeps fits some is
found-at O nodes o spot span above h (page.Inner start height stream version count slots) its keeps fits some is =
    inner-found O nodes o spot span.height span.start above h start height stream version count slots its keeps fits some is
