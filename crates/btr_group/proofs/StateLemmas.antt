-- Lemmas on the state of a group: of which list it is after each turn.
use Rattle.std.specs.Prelude.{◌≡◌, ℕ, ◌+◌, ◌<◌, Bool, true, false, not, List, [], ◌∷◌, ◌++◌, length, map, drop, Option, None, Some, option_to_list, Result, Ok, Err}
use Rattle.std.specs.Option.{is_some}
use Rattle.std.specs.declared.alloc.AllocError.{AllocError}
use Rattle.std.proofs.Common.{refl, sym, ap, ◌∙◌, subst, arith, length-append}
use Rattle.std.proofs.lemmas.List.{append-nil, map-append}
use Rattle.btr_base.specs.declared.point.Point.{Point}
use Rattle.btr_disk.specs.declared.disk.Disk.{Ghosts}
use Rattle.btr_feed.specs.Feed.{FeedValue}
use Rattle.btr_gate.specs.Views.{with_entry}
use Rattle.btr_hall.specs.declared.session.Session.{Session}
use Rattle.btr_hall.specs.declared.group_answers.Outcome.{Outcome}
use Rattle.btr_hall.specs.declared.group_answers.OfferFault.{OfferFault}
use Rattle.btr_hall.specs.declared.group_item.GroupItem.{GroupItem}
use Rattle.btr_hall.specs.declared.group_item.GroupItem.TheVariants.{Offer, Lead, Settle}
use Rattle.btr_group.specs.declared.group.GroupSetting.{GroupSetting}
use Rattle.btr_group.specs.declared.group.SettledBatch.{SettledBatch}
use Rattle.btr_group.specs.declared.led.Led.{Led}
use Rattle.btr_group.specs.declared.led.Put.{Put}
use Rattle.btr_group.specs.declared.led.Begun.{Begun}
use Rattle.btr_group.specs.declared.led.Begun.TheVariants as begun
use Rattle.btr_hall.specs.GroupBook.{BatchValue, SettledValue, Book, open_points, open_batch, put_offer, take_batch, settled_by, settle, after_item, book, led_batches, Tiles}
use Rattle.btr_group.specs.Serves.{CommitsEach}
use Rattle.btr_hall.specs.GroupCalls.{feed_of_group}
use Rattle.btr_group.specs.State.{note_of, with_added, StateValue, with_offer, without_batch, with_lead, with_settled, IsStateAt}
use Rattle.btr_group.specs.Turns.{IsOfferItem, AfterOffer, TakesOffer, TakesFlush}
use Rattle.btr_group.proofs.BookLemmas.{none_of, put_points, book_push, lead_home, settled_one, tiles_push}

pub out_is : (b : Bool) → not b ≡ true → b ≡ false
out_is true is = absurd (cc)
out_is false is = refl

module _ {D : Type 0} {disk : Ghosts D} where
  -- ---- what a turn makes of a state

  -- One more offer is in the open batch.
  pub at_offer : (v : StateValue D disk) (n : ℕ) (b : Book) (x : GroupSetting D disk) (points filled : List Point) → IsStateAt v n b x → filled ≡ v.filling.points ++ points → IsStateAt (with_offer v points) (n + 1) (put_offer b filled) x
  at_offer v n b x points filled at is =
      let here : v.filling.points ≡ open_points b = ap (λ (f : FeedValue). f.points) at.filling in
      let all : filled ≡ open_points b ++ points = is ∙ ap (λ ps. ps ++ points) here in
      let feed : with_added v.filling points ≡ record { stream = x.stream; threshold = x.threshold; points = open_points b ++ points } = ap (λ (f : FeedValue). with_added f points) at.filling in
      let end : feed_of_group x.stream x.threshold (put_offer b filled) ≡ record { stream = x.stream; threshold = x.threshold; points = open_points b ++ points } = ap (λ (ps : List Point). record { stream = x.stream; threshold = x.threshold; points = ps }) (put_points b filled points all ∙ all) in
      record {
        setting = at.setting;
        items = ap (λ k. k + 1) at.items;
        filling = feed ∙ sym end;
        first = at.first;
        given = omega (arith, at.given, length-append b.offers (drop (length (open_points b)) filled ∷ []));
        settled = at.settled;
        lent = at.lent;
        served = at.served;
        tiles = at.tiles;
      }

  -- The open batch and the session are out.
  at_take : (v : StateValue D disk) (n : ℕ) (b : Book) (x : GroupSetting D disk) (items m : ℕ) → IsStateAt v n b x → b.out ≡ None → 0 < length b.offers → items ≡ m → IsStateAt (record (without_batch v) { items = items }) m (take_batch b) x
  at_take v n b x items m at home some same =
      let led = map (λ (s : SettledValue). s.batch) b.settled in
      let tiles : Tiles 0 led b.first = subst (λ (l : List BatchValue). Tiles 0 l b.first) (ap (λ (o : Option BatchValue). led ++ option_to_list o) home ∙ append-nil led) at.tiles in
      record {
        setting = at.setting;
        items = same;
        filling = ap (λ (f : FeedValue). record f { points = [] }) at.filling;
        first = at.given;
        given = omega (arith, at.given);
        settled = at.settled;
        lent = refl;
        served = tt;
        tiles = tiles_push 0 led b.first (open_batch b) tiles refl some;
      }

  -- The session is at home again, and the batch that was out is settled.
  at_settle : (v : StateValue D disk) (n : ℕ) (b : Book) (x : GroupSetting D disk) (batch : BatchValue) (outcome : Outcome) (session : Session D disk) (note : SettledBatch) → IsStateAt v n b x → b.out ≡ Some batch → note ≡ note_of (record { batch = batch; outcome = outcome }) → CommitsEach x.stream x.session (b.settled ++ record { batch = batch; outcome = outcome } ∷ []) session → IsStateAt (with_settled v session note) (n + 1) (settle b outcome) x
  at_settle v n b x batch outcome session note at out is served =
      let y : SettledValue = record { batch = batch; outcome = outcome } in
      let one = settled_one b batch outcome out in
      let led = map (λ (s : SettledValue). s.batch) b.settled in
      let all : b.settled ++ settled_by b.out outcome ≡ b.settled ++ y ∷ [] = ap (λ (l : List SettledValue). b.settled ++ l) one in
      let notes : map note_of (b.settled ++ y ∷ []) ≡ map note_of b.settled ++ note_of y ∷ [] = map-append note_of b.settled (y ∷ []) in
      let batches : map (λ (s : SettledValue). s.batch) (b.settled ++ y ∷ []) ≡ led ++ batch ∷ [] = map-append (λ (s : SettledValue). s.batch) b.settled (y ∷ []) in
      let tiles : led_batches b ≡ led_batches (settle b outcome) = ap (λ (o : Option BatchValue). led ++ option_to_list o) out ∙ sym batches ∙ sym (ap (map (λ (s : SettledValue). s.batch)) all) ∙ sym (append-nil (map (λ (s : SettledValue). s.batch) (b.settled ++ settled_by b.out outcome))) in
      record {
        setting = at.setting;
        items = ap (λ k. k + 1) at.items;
        filling = at.filling;
        first = at.first;
        given = at.given;
        settled = ap (λ (l : List SettledBatch). l ++ note ∷ []) at.settled ∙ ap (λ (z : SettledBatch). map note_of b.settled ++ z ∷ []) is ∙ sym notes ∙ sym (ap (map note_of) all);
        lent = refl;
        served = subst (λ (l : List SettledValue). CommitsEach x.stream x.session l session) (sym all) served;
        tiles = subst (λ (l : List BatchValue). Tiles 0 l b.first) tiles at.tiles;
      }

  -- ---- the list after a turn

  pub at_push : (v : StateValue D disk) (l : List GroupItem) (item : GroupItem) (x : GroupSetting D disk) → IsStateAt v (length l + 1) (after_item (book l) item) x → IsStateAt v (length (l ++ item ∷ [])) (book (l ++ item ∷ [])) x
  at_push v l item x at =
      let long : length l + 1 ≡ length (l ++ item ∷ []) = omega (arith, length-append l (item ∷ [])) in
      subst (λ n. IsStateAt v n (book (l ++ item ∷ [])) x) long (subst (λ b. IsStateAt v (length l + 1) b x) (sym (book_push l item)) at)

  -- No batch is out while the session is at home.
  pub home_is : (v : StateValue D disk) (n : ℕ) (b : Book) (x : GroupSetting D disk) → IsStateAt v n b x → is_some v.session ≡ true → b.out ≡ None
  home_is v n b x at home = none_of b.out (sym at.lent ∙ ap not home)

  -- The session is out while a batch is.
  pub session_out : (v : StateValue D disk) (n : ℕ) (b : Book) (x : GroupSetting D disk) → IsStateAt v n b x → is_some b.out ≡ true → is_some v.session ≡ false
  session_out v n b x at out = out_is (is_some v.session) (at.lent ∙ out)

  -- ---- the turn of an offer

  offered : (v : StateValue D disk) (l : List GroupItem) (x : GroupSetting D disk) (points : List Point) (led : Option (Led D disk)) (item : Option GroupItem) (w : StateValue D disk) → IsStateAt v (length l) (book l) x → IsOfferItem (with_added v.filling points) (is_some led) item → AfterOffer v points led w → IsStateAt w (length (with_entry l item)) (book (with_entry l item)) x
  offered v l x points None item w at made after =
      let b = book l in
      let filled = made.0.value.points in
      let is : filled ≡ v.filling.points ++ points = ap (λ (f : FeedValue). f.points) made.2 in
      let next = at_offer v (length l) b x points filled at is in
      let moved = at_push (with_offer v points) l (Offer made.0 false) x next in
      subst (λ (z : StateValue D disk). IsStateAt z (length (with_entry l item)) (book (with_entry l item)) x) (sym after)
      (subst (λ (o : Option GroupItem). IsStateAt (with_offer v points) (length (with_entry l o)) (book (with_entry l o)) x) (sym made.1) moved)
  offered v l x points (Some led) item w at made after =
      let b = book l in
      let filled = made.0.value.points in
      let is : filled ≡ v.filling.points ++ points = ap (λ (f : FeedValue). f.points) made.2 in
      let put = at_offer v (length l) b x points filled at is in
      let home : (put_offer b filled).out ≡ None = home_is (with_offer v points) (length l + 1) (put_offer b filled) x put (ap (is_some {T = Session D disk}) after.1.session) in
      let some : 0 < length (put_offer b filled).offers = omega (arith, length-append b.offers (drop (length (open_points b)) filled ∷ [])) in
      let taken = at_take (with_offer v points) (length l + 1) (put_offer b filled) x (v.items + 1) (length l + 1) put home some (ap (λ k. k + 1) at.items) in
      let led_is : take_batch (put_offer b filled) ≡ after_item b (Offer made.0 true) = sym (lead_home (put_offer b filled) home) in
      let next = subst (λ c. IsStateAt (without_batch (with_offer v points)) (length l + 1) c x) led_is taken in
      let moved = at_push (without_batch (with_offer v points)) l (Offer made.0 true) x next in
      subst (λ (z : StateValue D disk). IsStateAt z (length (with_entry l item)) (book (with_entry l item)) x) (sym after.0)
      (subst (λ (o : Option GroupItem). IsStateAt (without_batch (with_offer v points)) (length (with_entry l o)) (book (with_entry l o)) x) (sym made.1) moved)

  unchanged : (v w : StateValue D disk) (l : List GroupItem) (x : GroupSetting D disk) (item : Option GroupItem) → IsStateAt v (length l) (book l) x → w ≡ v → item ≡ None → IsStateAt w (length (with_entry l item)) (book (with_entry l item)) x
  unchanged v w l x item at same none =
      subst (λ (z : StateValue D disk). IsStateAt z (length (with_entry l item)) (book (with_entry l item)) x) (sym same)
      (subst (λ (o : Option GroupItem). IsStateAt v (length (with_entry l o)) (book (with_entry l o)) x) (sym none) at)

  pub offer_state : (v : StateValue D disk) (l : List GroupItem) (x : GroupSetting D disk) (points : List Point) (result : Result (Put D disk) OfferFault) (item : Option GroupItem) (w : StateValue D disk) → IsStateAt v (length l) (book l) x → TakesOffer v points result item w → IsStateAt w (length (with_entry l item)) (book (with_entry l item)) x
  offer_state v l x points (Err fault) item w at takes = unchanged v w l x item at takes.0 takes.1
  offer_state v l x points (Ok put) item w at takes = offered v l x points put.led item w at takes.item_is takes.after

  -- ---- the turn of a flush

  pub flush_state : (v : StateValue D disk) (l : List GroupItem) (x : GroupSetting D disk) (result : Result (Begun D disk) AllocError) (item : Option GroupItem) (w : StateValue D disk) → IsStateAt v (length l) (book l) x → TakesFlush v result item w → IsStateAt w (length (with_entry l item)) (book (with_entry l item)) x
  flush_state v l x (Err error) item w at takes = unchanged v w l x item at takes.0 takes.1
  flush_state v l x (Ok begun.Busy) item w at takes = unchanged v w l x item at takes.0 takes.1
  flush_state v l x (Ok begun.Nothing) item w at takes = unchanged v w l x item at takes.0 takes.1
  flush_state v l x (Ok (begun.Led led)) item w at takes =
      let b = book l in
      let home : b.out ≡ None = home_is v (length l) b x at (ap (is_some {T = Session D disk}) takes.3.session) in
      let some : 0 < length b.offers = omega (arith, takes.2, at.first, at.given) in
      let taken = at_take v (length l) b x (v.items + 1) (length l + 1) at home some (ap (λ k. k + 1) at.items) in
      let next = subst (λ c. IsStateAt (with_lead v) (length l + 1) c x) (sym (lead_home b home)) taken in
      let moved = at_push (with_lead v) l Lead x next in
      subst (λ (z : StateValue D disk). IsStateAt z (length (with_entry l item)) (book (with_entry l item)) x) (sym takes.0)
      (subst (λ (o : Option GroupItem). IsStateAt (with_lead v) (length (with_entry l o)) (book (with_entry l o)) x) (sym takes.1) moved)

  -- ---- whether the session is out after a turn

  led_lent : (v : StateValue D disk) (points : List Point) (led : Option (Led D disk)) (w : StateValue D disk) → AfterOffer v points led w → not (is_some v.session) ≡ true → not (is_some w.session) ≡ true
  led_lent v points None w after out = ap (λ (z : StateValue D disk). not (is_some z.session)) after ∙ out
  led_lent v points (Some led) w after out = ap (λ (z : StateValue D disk). not (is_some z.session)) after.0

  -- A session that is out stays out.
  pub offer_lent : (v : StateValue D disk) (points : List Point) (result : Result (Put D disk) OfferFault) (item : Option GroupItem) (w : StateValue D disk) → TakesOffer v points result item w → not (is_some v.session) ≡ true → not (is_some w.session) ≡ true
  offer_lent v points (Err fault) item w takes out = ap (λ (z : StateValue D disk). not (is_some z.session)) takes.0 ∙ out
  offer_lent v points (Ok put) item w takes out = led_lent v points put.led w takes.after out

  pub flush_lent : (v : StateValue D disk) (result : Result (Begun D disk) AllocError) (item : Option GroupItem) (w : StateValue D disk) → TakesFlush v result item w → not (is_some v.session) ≡ true → not (is_some w.session) ≡ true
  flush_lent v (Err error) item w takes out = ap (λ (z : StateValue D disk). not (is_some z.session)) takes.0 ∙ out
  flush_lent v (Ok begun.Busy) item w takes out = ap (λ (z : StateValue D disk). not (is_some z.session)) takes.0 ∙ out
  flush_lent v (Ok begun.Nothing) item w takes out = ap (λ (z : StateValue D disk). not (is_some z.session)) takes.0 ∙ out
  flush_lent v (Ok (begun.Led led)) item w takes out = ap (λ (z : StateValue D disk). not (is_some z.session)) takes.0

  -- ---- the turn that settles

  pub settle_state : (v : StateValue D disk) (l : List GroupItem) (x : GroupSetting D disk) (batch : BatchValue) (outcome : Outcome) (session : Session D disk) (note : SettledBatch) → IsStateAt v (length l) (book l) x → (book l).out ≡ Some batch → note ≡ note_of (record { batch = batch; outcome = outcome }) → CommitsEach x.stream x.session ((book l).settled ++ record { batch = batch; outcome = outcome } ∷ []) session → IsStateAt (with_settled v session note) (length (l ++ Settle outcome ∷ [])) (book (l ++ Settle outcome ∷ [])) x
  settle_state v l x batch outcome session note at out is served =
      at_push (with_settled v session note) l (Settle outcome) x (at_settle v (length l) (book l) x batch outcome session note at out is served)
