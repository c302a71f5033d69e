-- Lemmas on the calls of seats: what they do, from what their turns did, and the beginning and the close of a group.
use Rattle.std.specs.Prelude.{◌≡◌, ℕ, ◌+◌, Bool, true, false, not, List, [], ◌∷◌, ◌++◌, length, map, Option, None, Some, option_to_list, IfSome, Ok, Err}
use Rattle.std.specs.Option.{is_some}
use Rattle.std.specs.declared.alloc.AllocError.{AllocError}
use Rattle.std.proofs.Common.{refl, sym, ap, ◌∙◌, subst, arith, length-append, append_assoc}
use Rattle.std.proofs.lemmas.List.{append-nil}
use Rattle.btr_base.specs.declared.point.Point.{Point}
use Rattle.btr_disk.specs.declared.disk.Disk.{Ghosts}
use Rattle.btr_feed.specs.Feed.{FeedValue}
use Rattle.btr_hist.specs.declared.entry.Entry.{Entry}
use Rattle.btr_hist.specs.declared.entry.Entry.TheVariants.{Commit}
use Rattle.btr_base.specs.Bag.{sort}
use Rattle.btr_engine.specs.Engine.{IsEngineOf}
use Rattle.btr_gate.specs.declared.view.View.{View}
use Rattle.btr_gate.specs.Gates.{IsPassOf, view}
use Rattle.btr_gate.specs.Prefixes.{StartsWith}
use Rattle.btr_gate.specs.Turns.{Enters, Leaves}
use Rattle.btr_gate.specs.Views.{opened, turn_list, with_entry, with_number}
use Rattle.btr_gate.specs.Shares.{covers}
use Rattle.btr_hall.specs.declared.session.Hall.{Hall}
use Rattle.btr_hall.specs.declared.session.Session.{Session}
use Rattle.btr_hall.specs.Session.{IsSessionOf, opening_of}
use Rattle.btr_hall.specs.declared.group_answers.Outcome.{Outcome}
use Rattle.btr_hall.specs.declared.group_answers.OfferFault.{OfferFault}
use Rattle.btr_hall.specs.declared.group_answers.Flushed.TheVariants.{Busy, Nothing, Led}
use Rattle.btr_hall.specs.declared.group_item.GroupItem.{GroupItem}
use Rattle.btr_hall.specs.declared.group_item.GroupItem.TheVariants.{Offer, Lead}
use Rattle.btr_group.specs.declared.group.Group.{Group}
use Rattle.btr_group.specs.declared.group.GroupSetting.{GroupSetting}
use Rattle.btr_group.specs.declared.group.Seat.{Seat}
use Rattle.btr_group.specs.declared.led.Led as led_type
use Rattle.btr_group.specs.declared.led.Put.{Put}
use Rattle.btr_group.specs.declared.led.Begun.TheVariants as begun
use Rattle.btr_hall.specs.GroupBook.{BatchValue, SettledValue, Book, new_book, book, Tiles}
use Rattle.btr_group.specs.Serves.{commit_result, HasCommitted, IsCommitIn}
use Rattle.btr_group.specs.State.{StateValue, IsStateAt}
use Rattle.btr_group.specs.Seats.{BeginsGroup, setting_of, seen_by, own_items}
use Rattle.btr_hall.specs.GroupCalls.{SettlesAfter}
use Rattle.btr_group.specs.Offers.{SettlesCommit, OffersPoints, FlushesBatch, LooksAtGroup}
use Rattle.btr_group.specs.Close.{ComesBack, HasCommittedEach}
use Rattle.btr_group.specs.Turns.{MayCarry, Carries, HasOffered, HasFlushed}
use Rattle.btr_group.proofs.PassLemmas.{carried_here}
use Rattle.btr_group.proofs.ServeLemmas.{serves_session, serves_same, served_is_made}

-- The numbers of two items, the first of which follows a list.
two_numbers : (mine : List ℕ) (before middle : List GroupItem) (item : GroupItem) (last : ℕ) → middle ≡ before ++ item ∷ [] → (mine ++ length middle ∷ []) ++ last ∷ [] ≡ mine ++ (length before + 1) ∷ last ∷ []
two_numbers mine before middle item last seen =
    let long : length middle ≡ length before + 1 = ap (length {A = GroupItem}) seen ∙ length-append before (item ∷ []) in
    append_assoc mine (length middle ∷ []) (last ∷ []) ∙ ap (λ n. mine ++ n ∷ last ∷ []) long

no_items : (l : List GroupItem) → length l ≡ 0 → l ≡ []
no_items [] none = refl
no_items (item ∷ l) none = absurd (omega (arith, none))

-- The settled batches have all tickets before the open batch, if no batch is out.
pub closed_tiles : (b : Book) → b.out ≡ None → Tiles 0 (map (λ (s : SettledValue). s.batch) b.settled ++ option_to_list b.out) b.first → Tiles 0 (map (λ (s : SettledValue). s.batch) b.settled) b.first
closed_tiles b home tiles =
    let led = map (λ (s : SettledValue). s.batch) b.settled in
    subst (λ (l : List BatchValue). Tiles 0 l b.first) (ap (λ (o : Option BatchValue). led ++ option_to_list o) home ∙ append-nil led) tiles

module _ {D : Type 0} {disk : Ghosts D} where
  -- What was committed is the batch that is out until the end of the list, which settles it.
  settles_commit : (hall : Hall D disk) (x : GroupSetting D disk) (m : View GroupItem (GroupSetting D disk)) (led : led_type.Led D disk) (seen : List GroupItem) (outcome : Outcome) → MayCarry x m led → SettlesAfter m.seen seen outcome → IsCommitIn hall (Commit x.stream [] (sort led.points.items)) (commit_result outcome) → SettlesCommit hall x.stream seen outcome
  settles_commit hall x m led seen outcome may settles commit = record {
    list = settles.list;
    ends = settles.ends;
    batch = may.batch;
    out = (carried_here m.seen settles.list may.batch settles.grows may.out settles.out).0;
    commit = subst (λ (ps : List Point). IsCommitIn hall (Commit x.stream [] (sort ps)) (commit_result outcome)) may.points commit;
  }

  -- ---- an offer

  pub offer_refused : (hall : Hall D disk) (group : Group D disk) (old new : Seat D disk) (points : List Point) (fault : OfferFault) → HasOffered (setting_of group) (view old.pass) (view new.pass) points (Err fault) → OffersPoints hall group old new points (Err fault)
  offer_refused hall group old new points fault did = record {
    same = record { share = did.turn.keeps.share; start = did.turn.keeps.start };
    turn = record { before = did.before; grows = did.turn.grows; own = did.did.0.mine ∙ sym (append-nil (own_items old)); replies = (did.did.0.seen, did.did.1) };
    whole = did.turn.alone;
    commits = tt;
  }

  pub offer_put : (hall : Hall D disk) (group : Group D disk) (old new : Seat D disk) (points : List Point) (put : Put D disk) → HasOffered (setting_of group) (view old.pass) (view new.pass) points (Ok put) → put.led ≡ None → OffersPoints hall group old new points (Ok (record { ticket = put.ticket; led = None }))
  offer_put hall group old new points put did none =
      let no : is_some put.led ≡ false = ap (is_some {T = led_type.Led D disk}) none in
      let seen : seen_by new ≡ did.before ++ Offer did.did.filled false ∷ [] = did.did.seen ∙ ap (λ (b : Bool). did.before ++ Offer did.did.filled b ∷ []) no in
      let long : length (seen_by new) ≡ length did.before + 1 = ap (length {A = GroupItem}) seen ∙ length-append did.before (Offer did.did.filled false ∷ []) in
      record {
        same = record { share = did.turn.keeps.share; start = did.turn.keeps.start };
        turn = record {
          before = did.before;
          grows = did.turn.grows;
          own = did.did.mine ∙ ap (λ n. own_items old ++ n ∷ []) long;
          replies = record { ticket = did.did.ticket; could = did.did.could; leads = sym no ∙ did.did.leads; filled = did.did.filled; points_are = did.did.points_are; leaves = seen };
        };
        whole = did.turn.alone;
        commits = tt;
      }

  pub offer_led : (hall : Hall D disk) (group : Group D disk) (old new : Seat D disk) (m : View GroupItem (GroupSetting D disk)) (points : List Point) (put : Put D disk) (led : led_type.Led D disk) (outcome : Outcome) → HasOffered (setting_of group) (view old.pass) m points (Ok put) → put.led ≡ Some led → MayCarry (setting_of group) m led → Carries m (view new.pass) outcome → IsCommitIn hall (Commit group.stream [] (sort led.points.items)) (commit_result outcome) → OffersPoints hall group old new points (Ok (record { ticket = put.ticket; led = Some outcome }))
  offer_led hall group old new m points put led outcome did some may carries commit =
      let yes : is_some put.led ≡ true = ap (is_some {T = led_type.Led D disk}) some in
      let seen : m.seen ≡ did.before ++ Offer did.did.filled true ∷ [] = did.did.seen ∙ ap (λ (b : Bool). did.before ++ Offer did.did.filled b ∷ []) yes in
      record {
        same = record { share = carries.keeps.share ∙ did.turn.keeps.share; start = carries.keeps.start ∙ did.turn.keeps.start };
        turn = record {
          before = did.before;
          grows = did.turn.grows;
          own = carries.mine ∙ ap (λ l. l ++ length (seen_by new) ∷ []) did.did.mine ∙ two_numbers (own_items old) did.before m.seen (Offer did.did.filled true) (length (seen_by new)) seen;
          replies = record { ticket = did.did.ticket; could = did.did.could; leads = sym yes ∙ did.did.leads; filled = did.did.filled; points_are = did.did.points_are; leaves = subst (λ (l : List GroupItem). SettlesAfter l (seen_by new) outcome) seen carries.settles };
        };
        whole = did.turn.alone;
        commits = settles_commit hall (setting_of group) m led (seen_by new) outcome may carries.settles commit;
      }

  pub may_of : (x : GroupSetting D disk) (m : View GroupItem (GroupSetting D disk)) (o : Option (led_type.Led D disk)) (led : led_type.Led D disk) → o ≡ Some led → IfSome o (λ l. MayCarry x m l) → MayCarry x m led
  may_of x m o led some may = subst (λ (p : Option (led_type.Led D disk)). IfSome p (λ l. MayCarry x m l)) some may

  -- ---- a flush

  pub flush_failed : (hall : Hall D disk) (group : Group D disk) (old new : Seat D disk) (error : AllocError) → HasFlushed (setting_of group) (view old.pass) (view new.pass) (Err error) → FlushesBatch hall group old new (Err error)
  flush_failed hall group old new error did = record {
    same = record { share = did.turn.keeps.share; start = did.turn.keeps.start };
    turn = record { before = did.before; grows = did.turn.grows; own = did.did.mine ∙ sym (append-nil (own_items old)); replies = did.did.seen };
    whole = did.turn.alone;
    commits = tt;
  }

  pub flush_busy : (hall : Hall D disk) (group : Group D disk) (old new : Seat D disk) → HasFlushed (setting_of group) (view old.pass) (view new.pass) (Ok begun.Busy) → FlushesBatch hall group old new (Ok Busy)
  flush_busy hall group old new did = record {
    same = record { share = did.turn.keeps.share; start = did.turn.keeps.start };
    turn = record { before = did.before; grows = did.turn.grows; own = did.did.0.mine ∙ sym (append-nil (own_items old)); replies = (did.did.0.seen, did.did.1) };
    whole = did.turn.alone;
    commits = tt;
  }

  pub flush_nothing : (hall : Hall D disk) (group : Group D disk) (old new : Seat D disk) → HasFlushed (setting_of group) (view old.pass) (view new.pass) (Ok begun.Nothing) → FlushesBatch hall group old new (Ok Nothing)
  flush_nothing hall group old new did = record {
    same = record { share = did.turn.keeps.share; start = did.turn.keeps.start };
    turn = record { before = did.before; grows = did.turn.grows; own = did.did.0.mine ∙ sym (append-nil (own_items old)); replies = (did.did.0.seen, did.did.1, did.did.2) };
    whole = did.turn.alone;
    commits = tt;
  }

  pub flush_led : (hall : Hall D disk) (group : Group D disk) (old new : Seat D disk) (m : View GroupItem (GroupSetting D disk)) (led : led_type.Led D disk) (outcome : Outcome) → HasFlushed (setting_of group) (view old.pass) m (Ok (begun.Led led)) → Carries m (view new.pass) outcome → IsCommitIn hall (Commit group.stream [] (sort led.points.items)) (commit_result outcome) → FlushesBatch hall group old new (Ok (Led outcome))
  flush_led hall group old new m led outcome did carries commit = record {
    same = record { share = carries.keeps.share ∙ did.turn.keeps.share; start = carries.keeps.start ∙ did.turn.keeps.start };
    turn = record {
      before = did.before;
      grows = did.turn.grows;
      own = carries.mine ∙ ap (λ l. l ++ length (seen_by new) ∷ []) did.did.mine ∙ two_numbers (own_items old) did.before m.seen Lead (length (seen_by new)) did.did.seen;
      replies = (did.did.home, did.did.some, subst (λ (l : List GroupItem). SettlesAfter l (seen_by new) outcome) did.did.seen carries.settles);
    };
    whole = did.turn.alone;
    commits = settles_commit hall (setting_of group) m led (seen_by new) outcome did.did.may carries.settles commit;
  }

  -- ---- a question

  pub looks_at : (old new : Seat D disk) (w : View GroupItem (GroupSetting D disk)) (added : Option GroupItem) (lent : Bool) → Enters (view old.pass) w → Leaves w added lent (view new.pass) → added ≡ None → StartsWith (turn_list w) (seen_by old) → (covers (view old.pass).share ≡ true → turn_list w ≡ seen_by old) → LooksAtGroup old new
  looks_at old new w added lent enters leaves none grows alone =
      let seen : seen_by new ≡ turn_list w = leaves.seen ∙ ap (with_entry (turn_list w)) none in
      record {
        same = record { share = leaves.share ∙ enters.share; start = leaves.start ∙ enters.start };
        grows = subst (λ (l : List GroupItem). StartsWith l (seen_by old)) (sym seen) grows;
        whole = λ covers. seen ∙ alone covers;
        own = leaves.mine ∙ ap (with_number w.mine (turn_list w)) none ∙ enters.mine;
      }

  -- ---- the beginning

  -- The state of a group that begins is of the empty list.
  pub first_state : (session : Session D disk) (stream threshold : ℕ) (v : StateValue D disk) → v.start ≡ session → v.session ≡ Some session → v.filling ≡ record { stream = stream; threshold = threshold; points = [] } → v.first ≡ 0 → v.given ≡ 0 → v.settled ≡ [] → v.items ≡ 0
      → IsStateAt v 0 new_book (record { session = session; stream = stream; threshold = threshold })
  first_state session stream threshold v start home filling first given settled items = record {
    setting = λ i. record { session = sym start i; stream = sym (ap (λ (f : FeedValue). f.stream) filling) i; threshold = sym (ap (λ (f : FeedValue). f.threshold) filling) i };
    items = items;
    filling = filling;
    first = first;
    given = given;
    settled = settled;
    lent = ap (λ (o : Option (Session D disk)). not (is_some o)) home;
    served = subst (HasCommitted stream session []) (sym home) refl;
    tiles = refl;
  }

  pub begins_group : (session : Session D disk) (stream threshold : ℕ) (group : Group D disk) (new : Seat D disk) (v : StateValue D disk) (y : GroupSetting D disk) → IsPassOf group.gate new.pass → setting_of group ≡ record { session = session; stream = stream; threshold = threshold } → v.start ≡ session → v.filling ≡ record { stream = stream; threshold = threshold; points = [] } → v.items ≡ 0 → IsStateAt v (length (seen_by new)) (book (seen_by new)) y → view new.pass ≡ opened (seen_by new) y → BeginsGroup session stream threshold group new
  begins_group session stream threshold group new v y own setting start filling items at is =
      let here : y ≡ record { session = session; stream = stream; threshold = threshold } = at.setting ∙ (λ i. record { session = start i; stream = ap (λ (f : FeedValue). f.stream) filling i; threshold = ap (λ (f : FeedValue). f.threshold) filling i }) in
      let seen : seen_by new ≡ [] = no_items (seen_by new) (sym at.items ∙ items) in
      record {
        seat = record { own = own; set = ap (λ w. w.setting) is ∙ ap Some (here ∙ sym setting) };
        setting = setting;
        seen = seen;
        own = ap (λ w. w.mine) is;
        start = ap (λ w. w.start) is ∙ ap (length {A = GroupItem}) seen;
        whole = ap (λ w. covers w.share) is;
      }

  -- ---- the close

  pub closed_session : (x : GroupSetting D disk) (settled : List SettledValue) (o : Option (Session D disk)) (session : Session D disk) → HasCommitted x.stream x.session settled o → o ≡ Some session → ComesBack x.session session
  closed_session x settled o session served home =
      let serves = subst (HasCommitted x.stream x.session settled) home served in
      record { same = serves_same x.stream x.session settled session serves; session = λ hall of. serves_session hall x.stream x.session settled session of serves }

  pub closed_served : (hall : Hall D disk) (h : List Entry) (x : GroupSetting D disk) (settled : List SettledValue) (o : Option (Session D disk)) (session : Session D disk) → IsSessionOf hall x.session → IsEngineOf h (opening_of hall) → HasCommitted x.stream x.session settled o → o ≡ Some session → HasCommittedEach x.stream x.session settled session
  closed_served hall h x settled o session is of served home =
      served_is_made hall h of x.stream x.session settled session is (subst (HasCommitted x.stream x.session settled) home served)
