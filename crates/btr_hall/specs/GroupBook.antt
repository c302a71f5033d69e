-- The list of a group and what it comes to: the open batch, the batch that is out, and the settled batches.
use Rattle.std.specs.Prelude.{◌≡◌, ℕ, ◌+◌, ◌<◌, List, [], ◌∷◌, ◌++◌, length, map, drop, Option, None, Some, option_to_list}
use Rattle.std.specs.Prelude.{if◌then◌else◌}
use Rattle.btr_base.specs.declared.point.Point.{Point}
use Rattle.btr_hall.specs.declared.group_answers.Outcome.{Outcome}
use Rattle.btr_hall.specs.declared.group_item.GroupItem.{GroupItem}
use Rattle.btr_hall.specs.declared.group_item.GroupItem.TheVariants.{Offer, Lead, Settle}

-- The points of offers, in order.
abbrev pub all_points : List (List Point) → List Point
all_points [] = []
all_points (points ∷ offers) = points ++ all_points offers

-- A batch: the ticket of its first offer, and the points of each of its offers, in order. Each offer has the ticket after the one before.
pub record BatchValue : Type 0 where
  pub first : ℕ
  pub offers : List (List Point)

-- A batch that was committed, and the result of its commit.
pub record SettledValue : Type 0 where
  pub batch : BatchValue
  pub outcome : Outcome

-- What a list comes to: the ticket of the first offer of the open batch, the points of each of its offers, the batch that is out, if
-- one is, and the settled batches, in order.
pub record Book : Type 0 where
  pub first : ℕ
  pub offers : List (List Point)
  pub out : Option BatchValue
  pub settled : List SettledValue

-- A group that begins.
abbrev pub new_book : Book
new_book = record { first = 0; offers = []; out = None; settled = [] }

-- The number of tickets that were given.
abbrev pub tickets_given : Book → ℕ
tickets_given b = b.first + length b.offers

-- The points of the open batch, in order.
abbrev pub open_points : Book → List Point
open_points b = all_points b.offers

-- The open batch.
abbrev pub open_batch : Book → BatchValue
open_batch b = record { first = b.first; offers = b.offers }

-- An offer is put into the open batch, which then has these points. Those of the offer come after those of before.
abbrev pub put_offer : Book → List Point → Book
put_offer b points = record b { offers = b.offers ++ drop (length (open_points b)) points ∷ [] }

-- The open batch is taken out, and the next one is empty.
abbrev pub take_batch : Book → Book
take_batch b = record b { first = tickets_given b; offers = []; out = Some (open_batch b) }

-- The open batch is taken out, if no other batch is.
abbrev pub lead_unless : Option BatchValue → Book → Book
lead_unless (Some batch) b = b
lead_unless None b = take_batch b

abbrev pub lead : Book → Book
lead b = lead_unless b.out b

-- The batch that is out, if one is, with its outcome.
abbrev pub settled_by : Option BatchValue → Outcome → List SettledValue
settled_by None outcome = []
settled_by (Some batch) outcome = record { batch = batch; outcome = outcome } ∷ []

-- The batch that is out is settled.
abbrev pub settle : Book → Outcome → Book
settle b outcome = record b { out = None; settled = b.settled ++ settled_by b.out outcome }

-- One more item.
abbrev pub after_item : Book → GroupItem → Book
after_item b (Offer filled leads) = if leads then lead (put_offer b filled.value.points) else put_offer b filled.value.points
after_item b Lead = lead b
after_item b (Settle outcome) = settle b outcome

abbrev pub book_from : Book → List GroupItem → Book
book_from b [] = b
book_from b (item ∷ items) = book_from (after_item b item) items

-- What a list comes to.
abbrev pub book : List GroupItem → Book
book items = book_from new_book items

-- The batches that were led, in order: the settled ones, and the one that is out.
abbrev pub led_batches : Book → List BatchValue
led_batches b = map (λ (s : SettledValue). s.batch) b.settled ++ option_to_list b.out

-- The tickets of the batches, each of which has at least one, are those from one number up to, and without, another, in order.
abbrev pub Tiles : ℕ → List BatchValue → ℕ → Type 0
Tiles from [] to = from ≡ to
Tiles from (b ∷ bs) to = (b.first ≡ from) × (0 < length b.offers) × Tiles (from + length b.offers) bs to
