-- What the offers, the flushes and the questions of a seat do: what their turns add to the list, what they return, and which commit a batch
-- was that one of them led.
use Rattle.std.specs.Prelude.{◌≡◌, ℕ, List, [], ◌∷◌, ◌++◌, Option, None, Some, Result, Ok, Err}
use Rattle.std.specs.declared.alloc.AllocError.{AllocError}
use Rattle.btr_base.specs.declared.point.Point.{Point}
use Rattle.btr_disk.specs.declared.disk.Disk.{Ghosts}
use Rattle.btr_gate.specs.Prefixes.{StartsWith}
use Rattle.btr_hall.specs.declared.group_answers.Outcome.{Outcome}
use Rattle.btr_hall.specs.declared.group_answers.Offered.{Offered}
use Rattle.btr_hall.specs.declared.group_answers.OfferFault.{OfferFault}
use Rattle.btr_hall.specs.declared.group_answers.Flushed.{Flushed}
use Rattle.btr_hall.specs.declared.group_answers.Flushed.TheVariants.{Busy, Nothing, Led}
use Rattle.btr_hall.specs.declared.group_item.GroupItem.{GroupItem}
use Rattle.btr_hall.specs.declared.group_item.GroupItem.TheVariants.{Settle}
use Rattle.btr_hall.specs.declared.session.Hall.{Hall}
use Rattle.btr_hall.specs.GroupBook.{BatchValue, book}
use Rattle.btr_hall.specs.GroupCalls.{GroupView, OffersTo, FlushesTo}
use Rattle.btr_group.specs.declared.group.Group.{Group}
use Rattle.btr_group.specs.declared.group.Seat.{Seat}
use Rattle.btr_group.specs.Serves.{entry_of_batch, commit_result, IsCommitIn}
use Rattle.btr_group.specs.Seats.{IsSameGroupSeat, HasWholeShare, seen_by, own_items}

module _ {D : Type 0} {disk : Ghosts D} where
  -- What a seat has seen of the list of its group, and which items there are its own.
  abbrev pub view_by : Seat D disk → GroupView
  view_by s = record { seen = seen_by s; own = own_items s }

  -- The list ends with this outcome, which is that of the commit of the batch that was out before it, by a session of the hall.
  pub record SettlesCommit (hall : Hall D disk) (stream : ℕ) (seen : List GroupItem) (outcome : Outcome) : Type 0 where
    pub list : List GroupItem
    pub ends : seen ≡ list ++ Settle outcome ∷ []
    pub batch : BatchValue
    pub out : (book list).out ≡ Some batch
    pub commit : IsCommitIn hall (entry_of_batch stream batch) (commit_result outcome)

  -- If an offer led a batch, its outcome is that of a commit.
  abbrev pub LedCommit : Hall D disk → ℕ → List GroupItem → Option Outcome → Type 0
  LedCommit hall stream seen None = Unit {0}
  LedCommit hall stream seen (Some outcome) = SettlesCommit hall stream seen outcome

  abbrev pub OfferCommits : Hall D disk → ℕ → List GroupItem → Result Offered OfferFault → Type 0
  OfferCommits hall stream seen (Err fault) = Unit {0}
  OfferCommits hall stream seen (Ok offered) = LedCommit hall stream seen offered.led

  abbrev pub FlushCommits : Hall D disk → ℕ → List GroupItem → Result Flushed AllocError → Type 0
  FlushCommits hall stream seen (Err error) = Unit {0}
  FlushCommits hall stream seen (Ok Busy) = Unit {0}
  FlushCommits hall stream seen (Ok Nothing) = Unit {0}
  FlushCommits hall stream seen (Ok (Led outcome)) = SettlesCommit hall stream seen outcome

  -- The turn of an offer, which is followed by another that settles the batch if the offer leads.
  pub record OffersPoints (hall : Hall D disk) (group : Group D disk) (old new : Seat D disk) (points : List Point)
      (result : Result Offered OfferFault) : Type 0 where
    pub same : IsSameGroupSeat old new
    pub turn : OffersTo group.stream group.threshold (view_by old) (view_by new) points result
    pub whole : HasWholeShare old → turn.before ≡ seen_by old
    pub commits : OfferCommits hall group.stream (seen_by new) result

  -- The turn of a flush, which is followed by another that settles the batch if the flush leads.
  pub record FlushesBatch (hall : Hall D disk) (group : Group D disk) (old new : Seat D disk) (result : Result Flushed AllocError)
      : Type 0 where
    pub same : IsSameGroupSeat old new
    pub turn : FlushesTo (view_by old) (view_by new) result
    pub whole : HasWholeShare old → turn.before ≡ seen_by old
    pub commits : FlushCommits hall group.stream (seen_by new) result

  -- One turn, which adds nothing: the seat has seen the list of the turn, which begins with all that it had seen.
  pub record LooksAtGroup (old new : Seat D disk) : Type 0 where
    pub same : IsSameGroupSeat old new
    pub grows : StartsWith (seen_by new) (seen_by old)
    pub whole : HasWholeShare old → seen_by new ≡ seen_by old
    pub own : own_items new ≡ own_items old
