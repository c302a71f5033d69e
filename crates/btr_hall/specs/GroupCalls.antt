-- What the offers and the flushes of a group add to its list, and what they return, by the list alone.
use Rattle.std.specs.Prelude.{◌≡◌, ℕ, ◌+◌, ◌<◌, Bool, true, false, not, ◌&&◌, nat_le, List, [], ◌∷◌, ◌++◌, length, Option, None, Some}
use Rattle.std.specs.Prelude.{Result, Ok, Err}
use Rattle.std.specs.Option.{is_some}
use Rattle.std.specs.declared.snapshot.Snapshot.{Snapshot}
use Rattle.std.specs.declared.alloc.AllocError.{AllocError}
use Rattle.btr_base.specs.declared.point.Point.{Point}
use Rattle.btr_feed.specs.Feed.{FeedValue}
use Rattle.btr_gate.specs.Prefixes.{StartsWith}
use Rattle.btr_hall.specs.declared.group_answers.Outcome.{Outcome}
use Rattle.btr_hall.specs.declared.group_answers.Offered.{Offered}
use Rattle.btr_hall.specs.declared.group_answers.OfferFault.{OfferFault}
use Rattle.btr_hall.specs.declared.group_answers.Flushed.{Flushed}
use Rattle.btr_hall.specs.declared.group_answers.Flushed.TheVariants.{Busy, Nothing, Led}
use Rattle.btr_hall.specs.declared.group_item.GroupItem.{GroupItem}
use Rattle.btr_hall.specs.declared.group_item.GroupItem.TheVariants.{Offer, Lead, Settle}
use Rattle.btr_hall.specs.GroupBook.{Book, tickets_given, open_points, book}
use Rattle.btr_hall.specs.GroupFaults.{offer_fault, IsOfferFault}

-- The feed of a stream with this threshold, in which the open batch is.
abbrev pub feed_of_group : ℕ → ℕ → Book → FeedValue
feed_of_group stream threshold b = record { stream = stream; threshold = threshold; points = open_points b }

-- A batch is out after each list from the first to the second.
abbrev pub IsOutBetween : List GroupItem → List GroupItem → Type 0
IsOutBetween first last = (l : List GroupItem) → StartsWith l first → StartsWith last l → is_some (book l).out ≡ true

-- The batch that was out at the end of a list was settled with this outcome: the second list ends with that, and the batch was out until
-- then.
pub record SettlesAfter (led seen : List GroupItem) (outcome : Outcome) : Type 0 where
  pub list : List GroupItem
  pub grows : StartsWith list led
  pub out : IsOutBetween led list
  pub ends : seen ≡ list ++ Settle outcome ∷ []

-- ---- an offer

-- Why an offer to a stream's group is not accepted after a list that comes to b.
abbrev pub fault_at : ℕ → ℕ → Book → List Point → Option OfferFault
fault_at stream threshold b points = offer_fault (feed_of_group stream threshold b) (tickets_given b) points

-- An offer of these points leads: no batch is out, and the open batch has then reached the threshold.
abbrev pub leads_at : ℕ → Book → List Point → Bool
leads_at threshold b points = not (is_some b.out) && nat_le threshold (length (open_points b ++ points))

-- The numbers of the items that an offer added to the list `before`, if it led the list `seen` to an outcome.
abbrev pub numbers_of_lead : List GroupItem → Option Outcome → List GroupItem → List ℕ
numbers_of_lead before None seen = (length before + 1) ∷ []
numbers_of_lead before (Some outcome) seen = (length before + 1) ∷ length seen ∷ []

abbrev pub offer_numbers : List GroupItem → Result Offered OfferFault → List GroupItem → List ℕ
offer_numbers before (Err fault) seen = []
offer_numbers before (Ok offered) seen = numbers_of_lead before offered.led seen

-- The list after an accepted offer: it ends with the item of the offer, or, if the offer led, with the outcome of the batch that it led.
abbrev pub OfferLeaves : List GroupItem → Snapshot FeedValue → Option Outcome → List GroupItem → Type 0
OfferLeaves before filled None seen = seen ≡ before ++ Offer filled false ∷ []
OfferLeaves before filled (Some outcome) seen = SettlesAfter (before ++ Offer filled true ∷ []) seen outcome

-- The offer was accepted after the list `before`: its points come after those of the open batch.
pub record AcceptsOffer (stream threshold : ℕ) (before seen : List GroupItem) (points : List Point) (offered : Offered) : Type 0 where
  pub ticket : offered.ticket ≡ tickets_given (book before)
  pub could : fault_at stream threshold (book before) points ≡ None
  pub leads : is_some offered.led ≡ leads_at threshold (book before) points
  pub filled : Snapshot FeedValue
  pub points_are : filled.value.points ≡ open_points (book before) ++ points
  pub leaves : OfferLeaves before filled offered.led seen

-- What an offer returns after the list `before`, and the list that its seat has then seen.
abbrev pub OfferReplies : ℕ → ℕ → List GroupItem → List GroupItem → List Point → Result Offered OfferFault → Type 0
OfferReplies stream threshold before seen points (Err fault) =
    (seen ≡ before) × IsOfferFault (fault_at stream threshold (book before) points) fault
OfferReplies stream threshold before seen points (Ok offered) = AcceptsOffer stream threshold before seen points offered

-- ---- a flush

abbrev pub flush_numbers : List GroupItem → Result Flushed AllocError → List GroupItem → List ℕ
flush_numbers before (Err error) seen = []
flush_numbers before (Ok Busy) seen = []
flush_numbers before (Ok Nothing) seen = []
flush_numbers before (Ok (Led outcome)) seen = (length before + 1) ∷ length seen ∷ []

-- What a flush returns after the list `before`, and the list that its seat has then seen.
abbrev pub FlushReplies : List GroupItem → List GroupItem → Result Flushed AllocError → Type 0
FlushReplies before seen (Err error) = seen ≡ before
FlushReplies before seen (Ok Busy) = (seen ≡ before) × (is_some (book before).out ≡ true)
FlushReplies before seen (Ok Nothing) = (seen ≡ before) × ((book before).out ≡ None) × ((book before).offers ≡ [])
FlushReplies before seen (Ok (Led outcome)) =
    ((book before).out ≡ None) × (0 < length (book before).offers) × SettlesAfter (before ++ Lead ∷ []) seen outcome

-- ---- a seat

-- What a seat of a group has seen of its list, and the numbers of its own items there, from 1 on, in rising order.
pub record GroupView : Type 0 where
  pub seen : List GroupItem
  pub own : List ℕ

-- Before the first call of any seat.
abbrev pub no_items : GroupView
no_items = record { seen = []; own = [] }

-- The turn of an offer, which is followed by another that settles the batch if the offer leads. `before` is the list when it began, which
-- begins with all that the seat had seen.
pub record OffersTo (stream threshold : ℕ) (old new : GroupView) (points : List Point) (result : Result Offered OfferFault) : Type 0 where
  pub before : List GroupItem
  pub grows : StartsWith before old.seen
  pub own : new.own ≡ old.own ++ offer_numbers before result new.seen
  pub replies : OfferReplies stream threshold before new.seen points result

-- The turn of a flush, which is followed by another that settles the batch if the flush leads.
pub record FlushesTo (old new : GroupView) (result : Result Flushed AllocError) : Type 0 where
  pub before : List GroupItem
  pub grows : StartsWith before old.seen
  pub own : new.own ≡ old.own ++ flush_numbers before result new.seen
  pub replies : FlushReplies before new.seen result
