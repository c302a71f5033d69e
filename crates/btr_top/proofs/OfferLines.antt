-- What a line of shared buffers did: which numbers of a buffer's list it added, the gift of an offer, and an outcome that it replied.
use Rattle.std.specs.Prelude.{◌≡◌, ◌⊎◌, ℕ, ◌+◌, ◌≤◌, ◌==◌, Bool, true, false, List, [], ◌∷◌, ◌++◌, length, drop, cond, Option, Some, None, Result, Ok, Err}
use Rattle.std.specs.List.{AllByRecursion}
use Rattle.std.specs.declared.snapshot.Snapshot.{Snapshot}
use Rattle.std.specs.declared.alloc.AllocError.{AllocError}
use Rattle.std.specs.Option.{is_some}
use Rattle.std.proofs.Common.{suc, refl, sym, ap, ◌∙◌, subst, arith, inl, inr, append-nil, append_assoc, length-append}
use Rattle.std.proofs.lemmas.Bool.{cases_lt}
use Rattle.std.proofs.Math.Seq.{drop-append_seam}
use mathlib.Core.List.{head-eq_of_cons-eq, tail-eq_of_cons-eq}
use Rattle.btr_base.specs.declared.point.Point.{Point}
use Rattle.btr_feed.specs.Feed.{FeedValue}
use Rattle.btr_hist.specs.declared.entry.Entry.{Entry}
use Rattle.btr_hist.specs.History.{stream_of, is_output}
use Rattle.btr_gate.specs.Numbers.{one, times}
use Rattle.btr_gate.specs.Prefixes.{StartsWith}
use Rattle.btr_gate.proofs.NumberLemmas.{times_append}
use Rattle.btr_gate.proofs.PrefixLemmas.{starts_refl, starts_trans, starts_same}
use Rattle.btr_text.specs.declared.script.Line.{Line}
use Rattle.btr_text.specs.declared.script.Line.TheVariants as lines
use Rattle.btr_text.specs.declared.script.ScriptLine.{ScriptLine}
use Rattle.btr_text.specs.declared.reply.LineReply.{LineReply}
use Rattle.btr_text.specs.declared.reply.LineReply.TheVariants.{Ticket, No}
use Rattle.btr_text.specs.declared.reply.Reason.TheVariants as reasons
use Rattle.btr_hall.specs.declared.group_answers.Outcome.{Outcome}
use Rattle.btr_hall.specs.declared.group_answers.Offered.{Offered}
use Rattle.btr_hall.specs.declared.group_answers.OfferFault.{OfferFault}
use Rattle.btr_hall.specs.declared.group_answers.OfferFault.TheVariants as faults
use Rattle.btr_hall.specs.declared.group_answers.Flushed.{Flushed}
use Rattle.btr_hall.specs.declared.group_answers.Flushed.TheVariants.{Busy, Nothing, Led}
use Rattle.btr_hall.specs.declared.group_item.GroupItem.{GroupItem}
use Rattle.btr_hall.specs.declared.group_item.GroupItem.TheVariants.{Offer, Lead, Settle}
use Rattle.btr_hall.specs.GroupBook.{BatchValue, SettledValue, Book, open_points, put_offer, lead_unless, lead, settled_by, after_item, book_from, book}
use Rattle.btr_hall.specs.GroupCalls.{SettlesAfter, GroupView, OffersTo, FlushesTo, numbers_of_lead, OfferLeaves}
use Rattle.btr_group.proofs.BookLemmas.{book_append, book_push}
use Rattle.btr_live.specs.SharedLines.{Sharing, Gives, Leads, Declines, on_buffer, if_shared, sharing, reply_of_outcome, reply_of_ticket, reply_of_offer, reply_of_flush, reason_of_offer}
use Rattle.btr_store.specs.Completes.{IsBenign}
use Rattle.btr_store.specs.Replies.{status_of_reply}
use Rattle.btr_top.proofs.BenignStatuses.{along}
use Rattle.btr_top.proofs.BatchServes.{IsCalmOutcome, AreCalmBatches}
use Rattle.btr_top.proofs.Gifts.{Gift, gifts_of, gift_here, all_there, IsGift, HasGift}

-- ---- lists

last_same : {A : Type 0} (a b : List A) (x y : A) → length a ≡ length b → a ++ x ∷ [] ≡ b ++ y ∷ [] → x ≡ y
last_same [] [] x y long same = head-eq_of_cons-eq same
last_same [] (v ∷ b) x y long same = absurd (omega (arith, long))
last_same (u ∷ a) [] x y long same = absurd (omega (arith, long))
last_same (u ∷ a) (v ∷ b) x y long same = last_same a b x y (omega (arith, long)) (tail-eq_of_cons-eq same)

-- One item stands after so many items of a list.
record IsSameItem (a b : List GroupItem) (x y : GroupItem) : Type 0 where
  before : a ≡ b
  item : x ≡ y

item_same : (items a b : List GroupItem) (x y : GroupItem) (rest : List GroupItem) → StartsWith items (a ++ x ∷ []) → items ≡ b ++ y ∷ rest → length a ≡ length b → IsSameItem a b x y
item_same items a b x y rest starts same long =
    let other : StartsWith items (b ++ y ∷ []) = (rest, same ∙ sym (append_assoc b (y ∷ []) rest)) in
    let long_a = length-append a (x ∷ []) in
    let long_b = length-append b (y ∷ []) in
    let whole : a ++ x ∷ [] ≡ b ++ y ∷ [] = starts_same items (a ++ x ∷ []) (b ++ y ∷ []) starts other (omega (arith, long, long_a, long_b)) in
    record {
      before = starts_same items a b (starts_trans items (a ++ x ∷ []) a starts (x ∷ [], refl)) (y ∷ rest, same) long;
      item = last_same a b x y long whole;
    }

offer_same : (a b : Snapshot FeedValue) (s t : Bool) → Offer a s ≡ Offer b t → a ≡ b
offer_same a b s t same = cc

all_middle : {A : Type 0} (P : A → Type 0) (a rest : List A) (x : A) → AllByRecursion P (a ++ x ∷ rest) → P x
all_middle P [] rest x all = all.0
all_middle P (y ∷ a) rest x all = all_middle P a rest x all.1

-- ---- outcomes

lead_settled : (b : Book) → (lead b).settled ≡ b.settled
lead_settled b = by b.out
  where
    by : (o : Option BatchValue) → (lead_unless o b).settled ≡ b.settled
    by None = refl
    by (Some batch) = refl

starts_as : {A : Type 0} (a b : List A) → a ≡ b → StartsWith a b
starts_as a b same = ([], same ∙ sym (append-nil b))

settled_step : (b : Book) (item : GroupItem) → StartsWith (after_item b item).settled b.settled
settled_step b (Offer filled true) = starts_as (lead (put_offer b filled.value.points)).settled b.settled (lead_settled (put_offer b filled.value.points))
settled_step b (Offer filled false) = starts_refl b.settled
settled_step b Lead = starts_as (lead b).settled b.settled (lead_settled b)
settled_step b (Settle outcome) = (settled_by b.out outcome, refl)

-- What was settled stays so.
settled_grows : (b : Book) (items : List GroupItem) → StartsWith (book_from b items).settled b.settled
settled_grows b [] = starts_refl b.settled
settled_grows b (item ∷ items) =
    starts_trans (book_from (after_item b item) items).settled (after_item b item).settled b.settled (settled_grows (after_item b item) items) (settled_step b item)

-- An outcome to which a batch was led is that of a settled batch of the list.
pub led_calm : (items led seen : List GroupItem) (outcome : Outcome) → StartsWith items seen → SettlesAfter led seen outcome → AreCalmBatches (book items).settled → IsCalmOutcome outcome
led_calm items led seen outcome starts settles calm = by (book settles.list).out refl
  where
    out : is_some (book settles.list).out ≡ true
    out = settles.out settles.list settles.grows (starts_refl settles.list)

    seen_is : (book seen).settled ≡ (book settles.list).settled ++ settled_by (book settles.list).out outcome
    seen_is = ap (λ l. (book l).settled) settles.ends ∙ ap (λ (b : Book). b.settled) (book_push settles.list (Settle outcome))

    grown : StartsWith (book items).settled (book seen).settled
    grown =
        let more = settled_grows (book seen) starts.0 in
        subst (λ (b : Book). StartsWith b.settled (book seen).settled) (sym (ap book starts.1 ∙ book_append (book []) seen starts.0)) more

    by : (o : Option BatchValue) → (book settles.list).out ≡ o → IsCalmOutcome outcome
    by None none = let both : false ≡ true = sym (ap (λ (o : Option BatchValue). is_some o) none) ∙ out in absurd (cc)
    by (Some batch) some =
        let b : SettledValue = record { batch = batch; outcome = outcome } in
        let whole : (book items).settled ≡ (book settles.list).settled ++ b ∷ grown.0 =
        grown.1 ∙ ap (λ (l : List SettledValue). l ++ grown.0) (seen_is ∙ ap (λ (o : Option BatchValue). (book settles.list).settled ++ settled_by o outcome) some)
        ∙ append_assoc (book settles.list).settled (b ∷ []) grown.0 in
        all_middle (λ (x : SettledValue). IsCalmOutcome x.outcome) (book settles.list).settled grown.0 b
        (subst (λ (l : List SettledValue). AreCalmBatches l) whole calm)

calm_fault : (fault : OfferFault) → IsBenign (status_of_reply (No (reason_of_offer fault)))
calm_fault (faults.OutOfDomain time) = inr (inl refl)
calm_fault faults.Empty = inr (inl refl)
calm_fault (faults.TooMany count) = inr (inl refl)
calm_fault faults.Spent = inr (inl refl)
calm_fault faults.Want = inr (inr refl)

-- ---- what a line asks for

module _ (has : ℕ → Bool) (h : List Entry) where
  -- What is asked is asked of a buffer that is there, and points are those of the line.
  abbrev pub IsSound : Option Line → Sharing → Type 0
  IsSound line (Gives stream points) = (has stream ≡ true) × (id : ℕ) × (stream_of h id ≡ Some stream) × (line ≡ Some (lines.Feed id points))
  IsSound line (Leads stream) = has stream ≡ true
  IsSound line (Declines reason) = IsBenign (status_of_reply (No reason))

  on_if : (line : Option Line) (there : Bool) (asked : Sharing) → (there ≡ true → IsSound line asked) → IsSound line (if_shared there asked)
  on_if line true asked sound = sound refl
  on_if line false asked sound = inr (inl refl)

  on_found : (line : Option Line) (id : ℕ) (asked : ℕ → Sharing) → ((stream : ℕ) → stream_of h id ≡ Some stream → has stream ≡ true → IsSound line (asked stream)) → IsSound line (on_buffer has h (stream_of h id) asked)
  on_found line id asked sound = by (stream_of h id) refl
    where
      by : (found : Option ℕ) → stream_of h id ≡ found → IsSound line (on_buffer has h found asked)
      by None none = inr (inl refl)
      by (Some stream) some =
          elim (is_output h stream) as (λ t. IsSound line (cond t (Declines reasons.Output) (if_shared (has stream) (asked stream)))) [
            | true ↦ inr (inl refl)
            | false ↦ on_if line (has stream) (asked stream) (λ there. sound stream some there)
          ]

  some_same : (a b : Sharing) → Some a ≡ Some b → a ≡ b
  some_same a b same = cc

  pub asked_sound : (line : Option Line) (asked : Sharing) → sharing has h line ≡ Some asked → IsSound line asked
  asked_sound None asked is = absurd (cc)
  asked_sound (Some (lines.Create id)) asked is = absurd (cc)
  asked_sound (Some (lines.Insert id added)) asked is = absurd (cc)
  asked_sound (Some (lines.Delete id from to)) asked is = absurd (cc)
  asked_sound (Some (lines.Feed id added)) asked is =
      let line : Option Line = Some (lines.Feed id added) in
      subst (λ (x : Sharing). IsSound line x) (some_same (on_buffer has h (stream_of h id) (λ stream. Gives stream added)) asked is)
      (on_found line id (λ stream. Gives stream added) (λ stream some there. (there, id, some, refl)))
  asked_sound (Some (lines.Flush id)) asked is =
      let line : Option Line = Some (lines.Flush id) in
      subst (λ (x : Sharing). IsSound line x) (some_same (on_buffer has h (stream_of h id) (λ stream. Leads stream)) asked is)
      (on_found line id (λ stream. Leads stream) (λ stream some there. there))
  asked_sound (Some (lines.Discard id)) asked is =
      subst (λ (x : Sharing). IsSound (Some (lines.Discard id)) x) (some_same (Declines reasons.Line) asked is) (inr (inl refl))
  asked_sound (Some (lines.Distiller id kernel lead grain first second)) asked is = absurd (cc)
  asked_sound (Some (lines.Refresh id)) asked is = absurd (cc)
  asked_sound (Some (lines.Retire id first)) asked is = absurd (cc)
  asked_sound (Some (lines.Ask id query)) asked is = absurd (cc)
  asked_sound (Some lines.Streams) asked is = absurd (cc)

-- ---- what a line added to the list of a buffer

module _ (script : List ScriptLine) (low : List Entry) (lists : ℕ → List GroupItem) where
  -- If the item with this number of the buffer's list is an offer, it is one of these gifts.
  abbrev pub Known : List Gift → ℕ → ℕ → Type 0
  Known gifts stream n =
      (before : List GroupItem) (filled : Snapshot FeedValue) (leads : Bool) (rest : List GroupItem) → lists stream ≡ before ++ Offer filled leads ∷ rest
      → n ≡ length before + 1 → HasGift script low stream gifts (suc (length before)) (drop (length (open_points (book before))) filled.value.points)

  no_offer : (gifts : List Gift) (stream n : ℕ) (a : List GroupItem) (x : GroupItem) → StartsWith (lists stream) (a ++ x ∷ []) → n ≡ length a + 1 → ((filled : Snapshot FeedValue) (leads : Bool) → x ≡ Offer filled leads → ⊥) → Known gifts stream n
  no_offer gifts stream n a x starts number not =
      λ before filled leads rest same at.
      let is = item_same (lists stream) a before x (Offer filled leads) rest starts same (omega (arith, number, at)) in
      absurd (not filled leads is.item)

  offered : (stream place : ℕ) (a : List GroupItem) (filled : Snapshot FeedValue) (leads : Bool) (points : List Point) → StartsWith (lists stream) (a ++ Offer filled leads ∷ []) → filled.value.points ≡ open_points (book a) ++ points → IsGift script low stream place points → (n : ℕ) → n ≡ length a + 1 → Known (record { stream = stream; number = suc (length a); place = place } ∷ []) stream n
  offered stream place a filled leads points starts filled_is gift n number =
      λ before other leads_too rest same at.
      let gifts : List Gift = record { stream = stream; number = suc (length a); place = place } ∷ [] in
      let is = item_same (lists stream) a before (Offer filled leads) (Offer other leads_too) rest starts same (omega (arith, number, at)) in
      let points_are : drop (length (open_points (book a))) filled.value.points ≡ points =
      ap (drop (length (open_points (book a)))) filled_is ∙ drop-append_seam (open_points (book a)) points in
      subst (λ (f : Snapshot FeedValue). HasGift script low stream gifts (suc (length before)) (drop (length (open_points (book before))) f.value.points)) (offer_same filled other leads leads_too is.item)
      (subst (λ (l : List GroupItem). HasGift script low stream gifts (suc (length l)) (drop (length (open_points (book l))) filled.value.points)) is.before
      record {
        place = place;
        gift = record { lane = gift.lane; feeds = gift.feeds; fed = gift.fed ∙ sym points_are };
        there = λ k. gift_here stream (suc (length a)) place k;
      })

  -- What a line did to the buffer of a stream, of which its lane had seen the first and has then seen the second.
  pub record ViewServes (stream place : ℕ) (reply : LineReply) (old new : GroupView) : Type 0 where
    pub gifts : List Gift
    pub few : (k : ℕ) → gifts_of k gifts ≤ one (place == k)
    pub known : (n : ℕ) → 1 ≤ times n new.own → (1 ≤ times n old.own) ⊎ Known gifts stream n
    pub calm : AreCalmBatches (book (lists stream)).settled → IsBenign (status_of_reply reply)

  module _ (stream place : ℕ) (reply : LineReply) (old new : GroupView) (inside : StartsWith (lists stream) new.seen) where
    numbers_known : (gifts : List Gift) (numbers : List ℕ) → new.own ≡ old.own ++ numbers → AllByRecursion (Known gifts stream) numbers → (n : ℕ) → 1 ≤ times n new.own → (1 ≤ times n old.own) ⊎ Known gifts stream n
    numbers_known gifts numbers is all n some =
        let sum = times_append n old.own numbers in
        let same : times n new.own ≡ times n (old.own ++ numbers) = ap (times n) is in
        elim (cases_lt 0 (times n old.own)) [
          | inl before ↦ inl (omega (arith, before))
          | inr none ↦ inr (all_there (Known gifts stream) n numbers all (omega (arith, sum, same, some, none)))
        ]

    -- A line that adds no item.
    adds_none : new.own ≡ old.own ++ [] → IsBenign (status_of_reply reply) → ViewServes stream place reply old new
    adds_none own benign = record { gifts = []; few = λ k. omega arith; known = numbers_known [] [] own tt; calm = λ calm. benign }

    -- The item that settles a batch.
    settles_known : (gifts : List Gift) (led : List GroupItem) (outcome : Outcome) → SettlesAfter led new.seen outcome → Known gifts stream (length new.seen)
    settles_known gifts led outcome settles =
        let seen : StartsWith (lists stream) (settles.list ++ Settle outcome ∷ []) = subst (λ (l : List GroupItem). StartsWith (lists stream) l) settles.ends inside in
        let whole : length new.seen ≡ length (settles.list ++ Settle outcome ∷ []) = ap (λ (l : List GroupItem). length l) settles.ends in
        let long = length-append settles.list (Settle outcome ∷ []) in
        no_offer gifts stream (length new.seen) settles.list (Settle outcome) seen (omega (arith, whole, long)) (λ filled leads same. absurd (cc))

    led_there : (led : List GroupItem) (outcome : Outcome) → SettlesAfter led new.seen outcome → StartsWith (lists stream) led
    led_there led outcome settles =
        let list : StartsWith new.seen settles.list = (Settle outcome ∷ [], settles.ends) in
        starts_trans (lists stream) new.seen led inside (starts_trans new.seen settles.list led list settles.grows)

    accepted_serves : (ticket : ℕ) (before : List GroupItem) (points : List Point) (filled : Snapshot FeedValue) (led : Option Outcome) → reply ≡ reply_of_ticket ticket led → new.own ≡ old.own ++ numbers_of_lead before led new.seen → filled.value.points ≡ open_points (book before) ++ points → OfferLeaves before filled led new.seen → IsGift script low stream place points → ViewServes stream place reply old new
    accepted_serves ticket before points filled None replied own filled_is leaves gift =
        let gifts : List Gift = record { stream = stream; number = suc (length before); place = place } ∷ [] in
        let starts : StartsWith (lists stream) (before ++ Offer filled false ∷ []) = subst (λ (l : List GroupItem). StartsWith (lists stream) l) leaves inside in
        record {
          gifts = gifts;
          few = λ k. omega arith;
          known = numbers_known gifts ((length before + 1) ∷ []) own (offered stream place before filled false points starts filled_is gift (length before + 1) refl, tt);
          calm = λ calm. along reply (Ticket ticket) replied (inl refl);
        }
    accepted_serves ticket before points filled (Some outcome) replied own filled_is leaves gift =
        let gifts : List Gift = record { stream = stream; number = suc (length before); place = place } ∷ [] in
        let led : List GroupItem = before ++ Offer filled true ∷ [] in
        let starts : StartsWith (lists stream) led = led_there led outcome leaves in
        record {
          gifts = gifts;
          few = λ k. omega arith;
          known = numbers_known gifts ((length before + 1) ∷ length new.seen ∷ []) own
              (offered stream place before filled true points starts filled_is gift (length before + 1) refl, (settles_known gifts led outcome leaves, tt));
          calm = λ calm. along reply (reply_of_outcome outcome) replied (led_calm (lists stream) led new.seen outcome inside leaves calm);
        }

    pub offer_serves : (threshold : ℕ) (points : List Point) (result : Result Offered OfferFault) → reply ≡ reply_of_offer result → OffersTo stream threshold old new points result → IsGift script low stream place points → ViewServes stream place reply old new
    offer_serves threshold points (Err fault) replied is gift = adds_none is.own (along reply (No (reason_of_offer fault)) replied (calm_fault fault))
    offer_serves threshold points (Ok ok) replied is gift =
        accepted_serves ok.ticket is.before points is.replies.filled ok.led replied is.own is.replies.points_are is.replies.leaves gift

    pub flush_serves : (result : Result Flushed AllocError) → reply ≡ reply_of_flush result → FlushesTo old new result → ViewServes stream place reply old new
    flush_serves (Err error) replied is = adds_none is.own (along reply (No reasons.Memory) replied (inr (inr refl)))
    flush_serves (Ok Busy) replied is = adds_none is.own (along reply (No reasons.Busy) replied (inr (inl refl)))
    flush_serves (Ok Nothing) replied is = adds_none is.own (along reply (No reasons.Empty) replied (inr (inl refl)))
    flush_serves (Ok (Led outcome)) replied is =
        let led : List GroupItem = is.before ++ Lead ∷ [] in
        let settles : SettlesAfter led new.seen outcome = is.replies.2 in
        record {
          gifts = [];
          few = λ k. omega arith;
          known = numbers_known [] ((length is.before + 1) ∷ length new.seen ∷ []) is.own
              (no_offer [] stream (length is.before + 1) is.before Lead (led_there led outcome settles) refl (λ filled leads same. absurd (cc)), (settles_known [] led outcome settles, tt));
          calm = λ calm. along reply (reply_of_outcome outcome) replied (led_calm (lists stream) led new.seen outcome inside settles calm);
        }
