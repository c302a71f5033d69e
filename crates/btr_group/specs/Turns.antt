-- What the private functions promise: what a turn makes of the state, and what a seat has seen after it.
use Rattle.std.specs.Prelude.{◌≡◌, ℕ, ◌<◌, Bool, true, false, List, [], ◌∷◌, ◌++◌, length, Option, None, Some, IfSome, Result, Ok, Err}
use Rattle.std.specs.Option.{is_some}
use Rattle.std.specs.declared.snapshot.Snapshot.{Snapshot}
use Rattle.std.specs.declared.alloc.AllocError.{AllocError}
use Rattle.btr_base.specs.declared.point.Point.{Point}
use Rattle.btr_base.specs.Bag.{sort}
use Rattle.btr_hist.specs.declared.entry.Entry.TheVariants.{Commit}
use Rattle.btr_hall.specs.declared.session.Session.{Session}
use Rattle.btr_disk.specs.declared.disk.Disk.{Ghosts}
use Rattle.btr_feed.specs.Feed.{FeedValue}
use Rattle.btr_gate.specs.declared.view.View.{View}
use Rattle.btr_gate.specs.declared.view.Stage.TheVariants.{Idle}
use Rattle.btr_gate.specs.Prefixes.{StartsWith}
use Rattle.btr_gate.specs.Shares.{covers}
use Rattle.btr_hall.specs.declared.group_answers.Outcome.{Outcome}
use Rattle.btr_hall.specs.declared.group_answers.OfferFault.{OfferFault}
use Rattle.btr_hall.specs.declared.group_item.GroupItem.{GroupItem}
use Rattle.btr_hall.specs.declared.group_item.GroupItem.TheVariants.{Offer, Lead}
use Rattle.btr_group.specs.declared.group.GroupSetting.{GroupSetting}
use Rattle.btr_group.specs.declared.led.Led.{Led}
use Rattle.btr_group.specs.declared.led.Put.{Put}
use Rattle.btr_group.specs.declared.led.Begun.{Begun}
use Rattle.btr_group.specs.declared.led.Begun.TheVariants as begun
use Rattle.btr_hall.specs.GroupBook.{BatchValue, all_points, tickets_given, open_points, book}
use Rattle.btr_hall.specs.GroupFaults.{offer_fault, IsOfferFault}
use Rattle.btr_group.specs.declared.group.SettledBatch.{SettledBatch}
use Rattle.btr_group.specs.Serves.{commit_result, MakesCommit, CommitsEach}
use Rattle.btr_group.specs.State.{note_of, StateValue, with_added, with_offer, without_batch, with_lead, leads_in, IsLed}
use Rattle.btr_hall.specs.GroupCalls.{SettlesAfter, fault_at, leads_at}

-- The item of an offer, after which the open batch is in this feed.
abbrev pub IsOfferItem : FeedValue → Bool → Option GroupItem → Type 0
IsOfferItem f leads item = (filled : Snapshot FeedValue) × (item ≡ Some (Offer filled leads)) × (filled.value ≡ f)

module _ {D : Type 0} {disk : Ghosts D} where
  -- ---- the state

  abbrev pub AfterOffer : StateValue D disk → List Point → Option (Led D disk) → StateValue D disk → Type 0
  AfterOffer v points None w = w ≡ with_offer v points
  AfterOffer v points (Some led) w = (w ≡ without_batch (with_offer v points)) × IsLed (with_offer v points) led

  -- The points were put into the open batch, and if the offer leads, the batch was taken out.
  pub record PutsOffer (v : StateValue D disk) (points : List Point) (put : Put D disk) (item : Option GroupItem) (w : StateValue D disk)
      : Type 0 where
    pub ticket : put.ticket ≡ v.given
    pub could : offer_fault v.filling v.given points ≡ None
    pub leads : is_some put.led ≡ leads_in v points
    pub item_is : IsOfferItem (with_added v.filling points) (is_some put.led) item
    pub after : AfterOffer v points put.led w

  -- What an offer makes of a state, and the item of the list that it made.
  abbrev pub TakesOffer : StateValue D disk → List Point → Result (Put D disk) OfferFault → Option GroupItem → StateValue D disk → Type 0
  TakesOffer v points (Err fault) item w = (w ≡ v) × (item ≡ None) × IsOfferFault (offer_fault v.filling v.given points) fault
  TakesOffer v points (Ok put) item w = PutsOffer v points put item w

  -- What a flush makes of a state, and the item of the list that it made.
  abbrev pub TakesFlush : StateValue D disk → Result (Begun D disk) AllocError → Option GroupItem → StateValue D disk → Type 0
  TakesFlush v (Err error) item w = (w ≡ v) × (item ≡ None)
  TakesFlush v (Ok begun.Busy) item w = (w ≡ v) × (item ≡ None) × (is_some v.session ≡ false)
  TakesFlush v (Ok begun.Nothing) item w = (w ≡ v) × (item ≡ None) × (is_some v.session ≡ true) × (v.first ≡ v.given)
  TakesFlush v (Ok (begun.Led led)) item w = (w ≡ with_lead v) × (item ≡ Some Lead) × (v.first < v.given) × IsLed v led

  -- ---- what a pass has seen

  -- A pass of a group with this setting, between calls.
  pub record IsFreeView (x : GroupSetting D disk) (v : View GroupItem (GroupSetting D disk)) : Type 0 where
    pub set : v.setting ≡ Some x
    pub carries : v.carries ≡ false
    pub idle : v.stage ≡ Idle

  -- The share and the setting are as before, and the pass has no turn.
  pub record KeepsView (v w : View GroupItem (GroupSetting D disk)) : Type 0 where
    pub share : w.share ≡ v.share
    pub setting : w.setting ≡ v.setting
    pub start : w.start ≡ v.start
    pub idle : w.stage ≡ Idle

  -- The pass carries the session and the batch that is out at the end of what it has seen.
  pub record MayCarry (x : GroupSetting D disk) (v : View GroupItem (GroupSetting D disk)) (led : Led D disk) : Type 0 where
    pub set : v.setting ≡ Some x
    pub carries : v.carries ≡ true
    pub idle : v.stage ≡ Idle
    pub batch : BatchValue
    pub out : (book v.seen).out ≡ Some batch
    pub first : led.first ≡ batch.first
    pub tickets : led.tickets ≡ length batch.offers
    pub points : led.points.items ≡ all_points batch.offers
    pub served : CommitsEach x.stream x.session (book v.seen).settled led.session

  -- The session made the commit of the batch, and this is its note.
  pub record CommitsLed (stream : ℕ) (led : Led D disk) (session : Session D disk) (note : SettledBatch) : Type 0 where
    pub first : note.first ≡ led.first
    pub tickets : note.tickets ≡ led.tickets
    pub points : note.points ≡ sort led.points.items
    pub writes : MakesCommit led.session (Commit stream [] (sort led.points.items)) (commit_result note.outcome) session

  -- The pass carries the session, which has committed the batch that is out at the end of what the pass has seen, and the note of it.
  pub record MaySettle (x : GroupSetting D disk) (v : View GroupItem (GroupSetting D disk)) (session : Session D disk) (note : SettledBatch)
      : Type 0 where
    pub set : v.setting ≡ Some x
    pub carries : v.carries ≡ true
    pub idle : v.stage ≡ Idle
    pub batch : BatchValue
    pub out : (book v.seen).out ≡ Some batch
    pub note_is : note ≡ note_of (record { batch = batch; outcome = note.outcome })
    pub served : CommitsEach x.stream x.session ((book v.seen).settled ++ record { batch = batch; outcome = note.outcome } ∷ []) session

  -- The pass brought the session back, and settled the batch that was out.
  pub record Carries (v w : View GroupItem (GroupSetting D disk)) (outcome : Outcome) : Type 0 where
    pub keeps : KeepsView v w
    pub carries : w.carries ≡ false
    pub mine : w.mine ≡ v.mine ++ length w.seen ∷ []
    pub settles : SettlesAfter v.seen w.seen outcome

  -- A pass has had a turn, which began with this list.
  pub record BeginsTurn (v w : View GroupItem (GroupSetting D disk)) (before : List GroupItem) : Type 0 where
    pub keeps : KeepsView v w
    pub grows : StartsWith before v.seen
    pub alone : covers v.share ≡ true → before ≡ v.seen

  -- A turn that added nothing.
  pub record AddsNothing (v w : View GroupItem (GroupSetting D disk)) (before : List GroupItem) : Type 0 where
    pub seen : w.seen ≡ before
    pub mine : w.mine ≡ v.mine
    pub carries : w.carries ≡ false

  -- The turn of an offer that was accepted.
  pub record PutsInTurn (x : GroupSetting D disk) (before : List GroupItem) (v w : View GroupItem (GroupSetting D disk))
      (points : List Point) (put : Put D disk) : Type 0 where
    pub ticket : put.ticket ≡ tickets_given (book before)
    pub could : fault_at x.stream x.threshold (book before) points ≡ None
    pub leads : is_some put.led ≡ leads_at x.threshold (book before) points
    pub filled : Snapshot FeedValue
    pub points_are : filled.value.points ≡ open_points (book before) ++ points
    pub seen : w.seen ≡ before ++ Offer filled (is_some put.led) ∷ []
    pub mine : w.mine ≡ v.mine ++ length w.seen ∷ []
    pub carries : w.carries ≡ is_some put.led
    pub may : IfSome put.led (λ led. MayCarry x w led)

  -- The turn of an offer.
  abbrev pub OffersInTurn : GroupSetting D disk → List GroupItem → View GroupItem (GroupSetting D disk)
      → View GroupItem (GroupSetting D disk) → List Point → Result (Put D disk) OfferFault → Type 0
  OffersInTurn x before v w points (Err fault) =
      AddsNothing v w before × IsOfferFault (fault_at x.stream x.threshold (book before) points) fault
  OffersInTurn x before v w points (Ok put) = PutsInTurn x before v w points put

  pub record HasOffered (x : GroupSetting D disk) (v w : View GroupItem (GroupSetting D disk)) (points : List Point)
      (result : Result (Put D disk) OfferFault) : Type 0 where
    pub before : List GroupItem
    pub turn : BeginsTurn v w before
    pub did : OffersInTurn x before v w points result

  -- The turn of a flush that leads.
  pub record LeadsInTurn (x : GroupSetting D disk) (before : List GroupItem) (v w : View GroupItem (GroupSetting D disk)) (led : Led D disk)
      : Type 0 where
    pub home : (book before).out ≡ None
    pub some : 0 < length (book before).offers
    pub seen : w.seen ≡ before ++ Lead ∷ []
    pub mine : w.mine ≡ v.mine ++ length w.seen ∷ []
    pub may : MayCarry x w led

  -- The turn of a flush.
  abbrev pub FlushesInTurn : GroupSetting D disk → List GroupItem → View GroupItem (GroupSetting D disk)
      → View GroupItem (GroupSetting D disk) → Result (Begun D disk) AllocError → Type 0
  FlushesInTurn x before v w (Err error) = AddsNothing v w before
  FlushesInTurn x before v w (Ok begun.Busy) = AddsNothing v w before × (is_some (book before).out ≡ true)
  FlushesInTurn x before v w (Ok begun.Nothing) = AddsNothing v w before × ((book before).out ≡ None) × ((book before).offers ≡ [])
  FlushesInTurn x before v w (Ok (begun.Led led)) = LeadsInTurn x before v w led

  pub record HasFlushed (x : GroupSetting D disk) (v w : View GroupItem (GroupSetting D disk)) (result : Result (Begun D disk) AllocError)
      : Type 0 where
    pub before : List GroupItem
    pub turn : BeginsTurn v w before
    pub did : FlushesInTurn x before v w result
