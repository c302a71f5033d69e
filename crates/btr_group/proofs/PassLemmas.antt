-- Lemmas on the turns of seats: the state that a pass gets and hands back, and what it has then seen.
use Rattle.std.specs.Prelude.{◌≡◌, ℕ, ◌+◌, ◌<◌, Bool, true, false, not, ◌&&◌, ◌||◌, nat_le, List, [], ◌∷◌, ◌++◌, length, Option, None, Some, IfSome, Result, Ok, Err}
use Rattle.std.specs.Option.{is_some}
use Rattle.std.specs.declared.alloc.AllocError.{AllocError}
use Rattle.std.proofs.Common.{refl, sym, ap, ◌∙◌, subst, arith, length-append}
use Rattle.btr_base.specs.declared.point.Point.{Point}
use Rattle.btr_base.specs.Bag.{sort}
use Rattle.btr_hist.specs.declared.entry.Entry.TheVariants.{Commit}
use Rattle.btr_disk.specs.declared.disk.Disk.{Ghosts}
use Rattle.btr_feed.specs.Feed.{FeedValue}
use Rattle.btr_gate.specs.declared.view.View.{View}
use Rattle.btr_gate.specs.Prefixes.{StartsWith}
use Rattle.btr_gate.specs.Shares.{covers}
use Rattle.btr_gate.specs.Turns.{Enters, Leaves}
use Rattle.btr_gate.specs.Views.{turn_list, turn_lent, with_entry, with_number}
use Rattle.btr_hall.specs.declared.session.Session.{Session}
use Rattle.btr_hall.specs.declared.group_answers.Outcome.{Outcome}
use Rattle.btr_hall.specs.declared.group_answers.OfferFault.{OfferFault}
use Rattle.btr_hall.specs.declared.group_item.GroupItem.{GroupItem}
use Rattle.btr_hall.specs.declared.group_item.GroupItem.TheVariants.{Offer, Lead, Settle}
use Rattle.btr_group.specs.declared.group.GroupSetting.{GroupSetting}
use Rattle.btr_group.specs.declared.group.SettledBatch.{SettledBatch}
use Rattle.btr_group.specs.declared.state.GroupState.{GroupState}
use Rattle.btr_group.specs.declared.led.Led.{Led}
use Rattle.btr_group.specs.declared.led.Put.{Put}
use Rattle.btr_group.specs.declared.led.Begun.{Begun}
use Rattle.btr_group.specs.declared.led.Begun.TheVariants as begun
use Rattle.btr_hall.specs.GroupBook.{BatchValue, SettledValue, Book, all_points, open_points, open_batch, put_offer, take_batch, book}
use Rattle.btr_hall.specs.GroupFaults.{offer_fault, IsOfferFault}
use Rattle.btr_group.specs.Serves.{commit_result, MakesCommit, CommitsEach, HasCommitted}
use Rattle.btr_group.specs.State.{with_added, StateValue, state_value, with_offer, leads_in, IsLed, IsStateAt, IsGroupAt}
use Rattle.btr_hall.specs.GroupCalls.{feed_of_group, IsOutBetween, fault_at, leads_at}
use Rattle.btr_group.specs.Turns.{IsOfferItem, AfterOffer, TakesOffer, TakesFlush, IsFreeView, KeepsView, MayCarry, CommitsLed, MaySettle, Carries, AddsNothing, OffersInTurn, HasOffered, FlushesInTurn, HasFlushed}
use Rattle.btr_group.proofs.BookLemmas.{book_push, lead_home, out_between}
use Rattle.btr_group.proofs.ServeLemmas.{serves_push}
use Rattle.btr_group.proofs.StateLemmas.{at_offer, home_is}

not_not : (b : Bool) → b ≡ not (not b)
not_not true = refl
not_not false = refl

-- A pass that carried nothing carries nothing after a turn that leaves the part where it is.
still_home : (after carried turned : Bool) → carried ≡ false → after ≡ turned → (after && (carried || not turned)) ≡ false
still_home false carried turned none same = refl
still_home true true turned none same = absurd (cc)
still_home true false true none same = refl
still_home true false false none same = absurd (cc)

-- A pass that lends the part carries it.
goes_out : (after carried turned : Bool) → after ≡ true → turned ≡ false → (after && (carried || not turned)) ≡ true
goes_out false carried turned out home = absurd (cc)
goes_out true carried true out home = absurd (cc)
goes_out true true false out home = refl
goes_out true false false out home = refl

-- A batch that was out at the end of a list is out at the end of a later one, if one was out in between.
pub carried_here : (seen list : List GroupItem) (batch : BatchValue) → StartsWith list seen → (book seen).out ≡ Some batch → IsOutBetween seen list → ((book list).out ≡ Some batch) × ((book list).settled ≡ (book seen).settled)
carried_here seen list batch longer out between =
    subst (λ (l : List GroupItem). ((book l).out ≡ Some batch) × ((book l).settled ≡ (book seen).settled)) (sym longer.1)
    (out_between longer.0 seen batch out (subst (λ (l : List GroupItem). IsOutBetween seen l) longer.1 between))

module _ {D : Type 0} {disk : Ghosts D} where
  -- The state is of the list under the setting, if there is one.
  abbrev OfGroup : GroupState D disk → List GroupItem → Option (GroupSetting D disk) → Type 0
  OfGroup s l None = ⊥
  OfGroup s l (Some x) = IsGroupAt s l x

  pub group_in : (s : GroupState D disk) (l : List GroupItem) (o : Option (GroupSetting D disk)) (x : GroupSetting D disk) → o ≡ Some x → OfGroup s l o → IsGroupAt s l x
  group_in s l o x set of = subst (OfGroup s l) set of

  pub group_out : (s : GroupState D disk) (l : List GroupItem) (o : Option (GroupSetting D disk)) (x : GroupSetting D disk) → o ≡ Some x → IsGroupAt s l x → OfGroup s l o
  group_out s l o x set of = subst (OfGroup s l) (sym set) of

  pub keeps_of : (v w u : View GroupItem (GroupSetting D disk)) (item : Option GroupItem) (lent : Bool) → Enters v w → Leaves w item lent u → KeepsView v u
  keeps_of v w u item lent enters leaves = record {
    share = leaves.share ∙ enters.share;
    setting = leaves.setting ∙ enters.setting;
    start = leaves.start ∙ enters.start;
    idle = leaves.idle;
  }

  -- The numbers after a turn that added an item.
  pub number_after : (v w u : View GroupItem (GroupSetting D disk)) (item : Option GroupItem) (lent : Bool) → Enters v w → Leaves w item lent u → (one : GroupItem) → item ≡ Some one → u.mine ≡ v.mine ++ length u.seen ∷ []
  number_after v w u item lent enters leaves one is =
      let seen : u.seen ≡ turn_list w ++ one ∷ [] = leaves.seen ∙ ap (with_entry (turn_list w)) is in
      let long : length (turn_list w) + 1 ≡ length u.seen = omega (arith, ap (length {A = GroupItem}) seen, length-append (turn_list w) (one ∷ [])) in
      leaves.mine ∙ ap (with_number w.mine (turn_list w)) is ∙ ap (λ m. m ++ (length (turn_list w) + 1) ∷ []) enters.mine ∙ ap (λ n. v.mine ++ n ∷ []) long

  -- ---- what a state says of its book

  fault_same : (v : StateValue D disk) (n : ℕ) (b : Book) (x : GroupSetting D disk) (points : List Point) → IsStateAt v n b x → offer_fault v.filling v.given points ≡ fault_at x.stream x.threshold b points
  fault_same v n b x points at =
      ap (λ (f : FeedValue). offer_fault f v.given points) at.filling ∙ ap (λ (g : ℕ). offer_fault (feed_of_group x.stream x.threshold b) g points) at.given

  leads_same : (v : StateValue D disk) (n : ℕ) (b : Book) (x : GroupSetting D disk) (points : List Point) → IsStateAt v n b x → leads_in v points ≡ leads_at x.threshold b points
  leads_same v n b x points at =
      ap (λ (f : FeedValue). is_some v.session && nat_le f.threshold (length (f.points ++ points))) at.filling
      ∙ ap (λ (o : Bool). o && nat_le x.threshold (length (open_points b ++ points))) (not_not (is_some v.session) ∙ ap not at.lent)

  -- ---- the first turn of an offer or a flush

  module _ (x : GroupSetting D disk) (v w u : View GroupItem (GroupSetting D disk)) (s t : GroupState D disk) (item : Option GroupItem) (free : IsFreeView x v) (enters : Enters v w) (at : IsGroupAt s (turn_list w) x) (lent : not (is_some s.session) ≡ turn_lent w) (leaves : Leaves w item (not (is_some t.session)) u) where
    adds_nothing : state_value t ≡ state_value s → item ≡ None → AddsNothing v u (turn_list w)
    adds_nothing same none = record {
      seen = leaves.seen ∙ ap (with_entry (turn_list w)) none;
      mine = leaves.mine ∙ ap (with_number w.mine (turn_list w)) none ∙ enters.mine;
      carries = leaves.carries ∙ still_home (not (is_some t.session)) w.carries (turn_lent w) (enters.carries ∙ free.carries) (ap (λ (z : StateValue D disk). not (is_some z.session)) same ∙ lent);
    }

    -- The session and the batch are out with the pass.
    may_carry : (z : StateValue D disk) (n : ℕ) (b : Book) (led : Led D disk) → IsStateAt z n b x → IsLed z led → z.session ≡ s.session → is_some t.session ≡ false → book u.seen ≡ take_batch b → MayCarry x u led
    may_carry z n b led before is same none taken =
        let home : turn_lent w ≡ false = sym lent ∙ ap (λ (o : Option (Session D disk)). not (is_some o)) (sym same ∙ is.session) in
        record {
          set = leaves.setting ∙ enters.setting ∙ free.set;
          carries = leaves.carries ∙ goes_out (not (is_some t.session)) w.carries (turn_lent w) (ap not none) home;
          idle = leaves.idle;
          batch = open_batch b;
          out = ap (λ (c : Book). c.out) taken;
          first = is.first ∙ before.first;
          tickets = omega (arith, is.first, is.tickets, before.first, before.given);
          points = is.points ∙ ap (λ (f : FeedValue). f.points) before.filling;
          served =
              subst (λ (l : List SettledValue). CommitsEach x.stream x.session l led.session) (sym (ap (λ (c : Book). c.settled) taken))
              (subst (HasCommitted x.stream x.session b.settled) is.session before.served);
        }

    -- ---- an offer

    led_carries : (points : List Point) (led : Option (Led D disk)) → AfterOffer (state_value s) points led (state_value t) → u.carries ≡ is_some led
    led_carries points None after =
        leaves.carries ∙ still_home (not (is_some t.session)) w.carries (turn_lent w) (enters.carries ∙ free.carries) (ap (λ (z : StateValue D disk). not (is_some z.session)) after ∙ lent)
    led_carries points (Some led) after =
        let home : turn_lent w ≡ false = sym lent ∙ ap (λ (o : Option (Session D disk)). not (is_some o)) after.1.session in
        leaves.carries ∙ goes_out (not (is_some t.session)) w.carries (turn_lent w) (ap (λ (z : StateValue D disk). not (is_some z.session)) after.0) home

    led_may : (points : List Point) (led : Option (Led D disk)) → IsOfferItem (with_added s.filling points) (is_some led) item → AfterOffer (state_value s) points led (state_value t) → IfSome led (λ led. MayCarry x u led)
    led_may points None made after = tt
    led_may points (Some led) made after =
        let b = book (turn_list w) in
        let filled = made.0.value.points in
        let is : filled ≡ s.filling.points ++ points = ap (λ (f : FeedValue). f.points) made.2 in
        let put = at_offer (state_value s) (length (turn_list w)) b x points filled at is in
        let home : (put_offer b filled).out ≡ None = home_is (with_offer (state_value s) points) (length (turn_list w) + 1) (put_offer b filled) x put (ap (is_some {T = Session D disk}) after.1.session) in
        let seen : u.seen ≡ turn_list w ++ Offer made.0 true ∷ [] = leaves.seen ∙ ap (with_entry (turn_list w)) made.1 in
        may_carry (with_offer (state_value s) points) (length (turn_list w) + 1) (put_offer b filled) led put after.1 refl (ap (λ (z : StateValue D disk). is_some z.session) after.0) (ap book seen ∙ book_push (turn_list w) (Offer made.0 true) ∙ lead_home (put_offer b filled) home)

    offered_did : (points : List Point) (result : Result (Put D disk) OfferFault) → TakesOffer (state_value s) points result item (state_value t) → OffersInTurn x (turn_list w) v u points result
    offered_did points (Err fault) takes =
        (adds_nothing takes.0 takes.1, subst (λ (o : Option OfferFault). IsOfferFault o fault) (fault_same (state_value s) (length (turn_list w)) (book (turn_list w)) x points at) takes.2)
    offered_did points (Ok put) takes = record {
      ticket = takes.ticket ∙ at.given;
      could = sym (fault_same (state_value s) (length (turn_list w)) (book (turn_list w)) x points at) ∙ takes.could;
      leads = takes.leads ∙ leads_same (state_value s) (length (turn_list w)) (book (turn_list w)) x points at;
      filled = takes.item_is.0;
      points_are = ap (λ (f : FeedValue). f.points) takes.item_is.2 ∙ ap (λ (f : FeedValue). f.points ++ points) at.filling;
      seen = leaves.seen ∙ ap (with_entry (turn_list w)) takes.item_is.1;
      mine = number_after v w u item (not (is_some t.session)) enters leaves (Offer takes.item_is.0 (is_some put.led)) takes.item_is.1;
      carries = led_carries points put.led takes.after;
      may = led_may points put.led takes.item_is takes.after;
    }

    pub has_offered : (points : List Point) (result : Result (Put D disk) OfferFault) → StartsWith (turn_list w) v.seen → (covers v.share ≡ true → turn_list w ≡ v.seen) → TakesOffer (state_value s) points result item (state_value t) → HasOffered x v u points result
    has_offered points result grows alone takes = record {
      before = turn_list w;
      turn = record { keeps = keeps_of v w u item (not (is_some t.session)) enters leaves; grows = grows; alone = alone };
      did = offered_did points result takes;
    }

    -- ---- a flush

    out_now : is_some s.session ≡ false → is_some (book (turn_list w)).out ≡ true
    out_now out = sym at.lent ∙ ap not out

    -- No ticket is between equal numbers.
    no_offers : (offers : List (List Point)) → length offers ≡ 0 → offers ≡ []
    no_offers [] none = refl
    no_offers (o ∷ offers) none = absurd (omega (arith, none))

    flushed_did : (result : Result (Begun D disk) AllocError) → TakesFlush (state_value s) result item (state_value t) → FlushesInTurn x (turn_list w) v u result
    flushed_did (Err error) takes = adds_nothing takes.0 takes.1
    flushed_did (Ok begun.Busy) takes = (adds_nothing takes.0 takes.1, out_now takes.2)
    flushed_did (Ok begun.Nothing) takes =
        let b = book (turn_list w) in
        let none : length b.offers ≡ 0 = omega (arith, takes.3, at.first, at.given) in
        (adds_nothing takes.0 takes.1, home_is (state_value s) (length (turn_list w)) b x at takes.2, no_offers b.offers none)
    flushed_did (Ok (begun.Led led)) takes =
        let b = book (turn_list w) in
        let home : b.out ≡ None = home_is (state_value s) (length (turn_list w)) b x at (ap (is_some {T = Session D disk}) takes.3.session) in
        let some : 0 < length b.offers = omega (arith, takes.2, at.first, at.given) in
        let seen : u.seen ≡ turn_list w ++ Lead ∷ [] = leaves.seen ∙ ap (with_entry (turn_list w)) takes.1 in
        record {
          home = home;
          some = some;
          seen = seen;
          mine = number_after v w u item (not (is_some t.session)) enters leaves Lead takes.1;
          may = may_carry (state_value s) (length (turn_list w)) b led at takes.3 refl (ap (λ (z : StateValue D disk). is_some z.session) takes.0) (ap book seen ∙ book_push (turn_list w) Lead ∙ lead_home b home);
        }

    pub has_flushed : (result : Result (Begun D disk) AllocError) → StartsWith (turn_list w) v.seen → (covers v.share ≡ true → turn_list w ≡ v.seen) → TakesFlush (state_value s) result item (state_value t) → HasFlushed x v u result
    has_flushed result grows alone takes = record {
      before = turn_list w;
      turn = record { keeps = keeps_of v w u item (not (is_some t.session)) enters leaves; grows = grows; alone = alone };
      did = flushed_did result takes;
    }

  -- ---- the turn that settles

  pub may_settle : (x : GroupSetting D disk) (v : View GroupItem (GroupSetting D disk)) (led : Led D disk) (session : Session D disk) (note : SettledBatch) → MayCarry x v led → CommitsLed x.stream led session note → MaySettle x v session note
  may_settle x v led session note may did =
      let first : note.first ≡ may.batch.first = did.first ∙ may.first in
      let tickets : note.tickets ≡ length may.batch.offers = did.tickets ∙ may.tickets in
      let points : note.points ≡ sort (all_points may.batch.offers) = did.points ∙ ap sort may.points in
      let y : SettledValue = record { batch = may.batch; outcome = note.outcome } in
      let entry = ap (λ (ps : List Point). Commit x.stream [] (sort ps)) may.points in
      record {
        set = may.set;
        carries = may.carries;
        idle = may.idle;
        batch = may.batch;
        out = may.out;
        note_is = λ i. record { first = first i; tickets = tickets i; points = points i; outcome = note.outcome };
        served = serves_push x.stream x.session (book v.seen).settled led.session y session may.served (subst (λ e. MakesCommit led.session e (commit_result note.outcome) session) entry did.writes);
      }

  pub has_settled : (v w u : View GroupItem (GroupSetting D disk)) (item : Option GroupItem) (lent : Bool) (outcome : Outcome) → Enters v w → Leaves w item lent u → item ≡ Some (Settle outcome) → lent ≡ false → StartsWith (turn_list w) v.seen → IsOutBetween v.seen (turn_list w) → Carries v u outcome
  has_settled v w u item lent outcome enters leaves is home grows between = record {
    keeps = keeps_of v w u item lent enters leaves;
    carries = leaves.carries ∙ ap (λ (b : Bool). b && (w.carries || not (turn_lent w))) home;
    mine = number_after v w u item lent enters leaves (Settle outcome) is;
    settles = record { list = turn_list w; grows = grows; out = between; ends = leaves.seen ∙ ap (with_entry (turn_list w)) is };
  }
