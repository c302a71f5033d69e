-- Each offer of a buffer that lanes share is of one `feed` line: so each batch of it has the points of some of these lines, each line once.
use Rattle.std.specs.Prelude.{◌≡◌, ℕ, ◌+◌, ◌≤◌, Bool, true, false, List, [], ◌∷◌, ◌++◌, length, drop, slice_get, Option, Some, None}
use Rattle.std.specs.declared.snapshot.Snapshot.{Snapshot}
use Rattle.std.proofs.Common.{suc, refl, sym, ap, ◌∙◌, subst, arith, append-nil, append_assoc, length-append}
use Rattle.btr_base.specs.declared.point.Point.{Point}
use Rattle.btr_feed.specs.Feed.{FeedValue}
use Rattle.btr_hist.specs.declared.entry.Entry.{Entry}
use Rattle.btr_gate.specs.Numbers.{total, times}
use Rattle.btr_gate.proofs.NumberLemmas.{times_append}
use Rattle.btr_load.proofs.TotalLemmas.{total_append}
use Rattle.btr_text.specs.declared.script.ScriptLine.{ScriptLine}
use Rattle.btr_hall.specs.declared.group_answers.Outcome.{Outcome}
use Rattle.btr_hall.specs.declared.group_item.GroupItem.{GroupItem}
use Rattle.btr_hall.specs.declared.group_item.GroupItem.TheVariants.{Offer, Lead, Settle}
use Rattle.btr_hall.specs.GroupBook.{BatchValue, SettledValue, Book, all_points, open_points, put_offer, lead_unless, lead, settled_by, settle, after_item, book}
use Rattle.btr_group.proofs.BookLemmas.{book_push}
use Rattle.btr_top.specs.Room.{fed_by, points_fed}
use Rattle.btr_top.proofs.PlaceLemmas.{sum_to}
use Rattle.btr_top.proofs.Gifts.{Gift, gifts_at, sum_last, IsGift, HasGift}

module _ (script : List ScriptLine) (low : List Entry) (stream : ℕ) where
  -- ---- batches

  -- Each offer of a batch is that of the line with the place beside it.
  abbrev pub AreGifts : List ℕ → List (List Point) → Type 0
  AreGifts [] [] = Unit {0}
  AreGifts [] (points ∷ offers) = ⊥
  AreGifts (place ∷ places) [] = ⊥
  AreGifts (place ∷ places) (points ∷ offers) = IsGift script low stream place points × AreGifts places offers

  gifts_snoc : (places : List ℕ) (offers : List (List Point)) (place : ℕ) (points : List Point) → AreGifts places offers → IsGift script low stream place points → AreGifts (places ++ place ∷ []) (offers ++ points ∷ [])
  gifts_snoc [] [] place points are last = (last, tt)
  gifts_snoc [] (p ∷ offers) place points are last = absurd are
  gifts_snoc (x ∷ places) [] place points are last = absurd are
  gifts_snoc (x ∷ places) (p ∷ offers) place points are last = (are.0, gifts_snoc places offers place points are.1 last)

  -- The points of a batch are those of its lines.
  pub gifts_points : (places : List ℕ) (offers : List (List Point)) → AreGifts places offers → all_points offers ≡ points_fed script places
  gifts_points [] [] are = refl
  gifts_points [] (points ∷ offers) are = absurd are
  gifts_points (place ∷ places) [] are = absurd are
  gifts_points (place ∷ places) (points ∷ offers) are =
      ap (λ l. l ++ all_points offers) (sym are.0.fed) ∙ ap (λ l. fed_by (slice_get script place) ++ l) (gifts_points places offers are.1)

  -- The same of a batch that is out, and of batches that were settled.
  abbrev AreLed : List ℕ → Option BatchValue → Type 0
  AreLed places None = places ≡ []
  AreLed places (Some b) = AreGifts places b.offers

  abbrev pub AreSettled : List (List ℕ) → List SettledValue → Type 0
  AreSettled [] [] = Unit {0}
  AreSettled [] (b ∷ bs) = ⊥
  AreSettled (places ∷ more) [] = ⊥
  AreSettled (places ∷ more) (b ∷ bs) = AreGifts places b.batch.offers × AreSettled more bs

  settled_snoc : (done : List (List ℕ)) (bs : List SettledValue) (places : List ℕ) (b : SettledValue) → AreSettled done bs → AreGifts places b.batch.offers → AreSettled (done ++ places ∷ []) (bs ++ b ∷ [])
  settled_snoc [] [] places b are last = (last, tt)
  settled_snoc [] (c ∷ bs) places b are last = absurd are
  settled_snoc (p ∷ done) [] places b are last = absurd are
  settled_snoc (p ∷ done) (c ∷ bs) places b are last = (are.0, settled_snoc done bs places b are.1 last)

  -- ---- a book

  module _ (gifts : List Gift) where
    -- The places of the open batch, of the batch that is out, and of the settled ones, after so many items: no more than the gifts of these.
    pub record HasPlaces (b : Book) (count : ℕ) : Type 0 where
      pub opened : List ℕ
      pub led : List ℕ
      pub done : List (List ℕ)
      pub are_opened : AreGifts opened b.offers
      pub are_led : AreLed led b.out
      pub are_done : AreSettled done b.settled
      pub few : (k : ℕ) → times k opened + times k led + total (times k) done ≤ sum_to (λ n. gifts_at stream n k gifts) (suc count)

    -- One item more.
    stay : (b : Book) (count : ℕ) → HasPlaces b count → HasPlaces b (suc count)
    stay b count has = record {
      opened = has.opened;
      led = has.led;
      done = has.done;
      are_opened = has.are_opened;
      are_led = has.are_led;
      are_done = has.are_done;
      few = λ k. let few = has.few k in let more = sum_last (λ n. gifts_at stream n k gifts) (suc count) in omega (arith, few, more);
    }

    put_places : (b : Book) (count : ℕ) (points : List Point) → HasPlaces b count → HasGift script low stream gifts (suc count) (drop (length (open_points b)) points) → HasPlaces (put_offer b points) (suc count)
    put_places b count points has gift = record {
      opened = has.opened ++ gift.place ∷ [];
      led = has.led;
      done = has.done;
      are_opened = gifts_snoc has.opened b.offers gift.place (drop (length (open_points b)) points) has.are_opened gift.gift;
      are_led = has.are_led;
      are_done = has.are_done;
      few = λ k.
          let few = has.few k in
          let more = sum_last (λ n. gifts_at stream n k gifts) (suc count) in
          let sum = times_append k has.opened (gift.place ∷ []) in
          let there = gift.there k in
          omega (arith, few, more, sum, there);
    }

    lead_places : (b : Book) (count : ℕ) → HasPlaces b count → HasPlaces (lead b) count
    lead_places b count has = by b.out
      where
        by : (o : Option BatchValue) → HasPlaces (lead_unless o b) count
        by (Some batch) = has
        by None = record {
          opened = [];
          led = has.opened;
          done = has.done;
          are_opened = tt;
          are_led = has.are_opened;
          are_done = has.are_done;
          few = λ k. let few = has.few k in omega (arith, few);
        }

    settle_places : (b : Book) (count : ℕ) (outcome : Outcome) → HasPlaces b count → HasPlaces (settle b outcome) count
    settle_places b count outcome has = by b.out has.are_led
      where
        after : Option BatchValue → Book
        after o = record { first = b.first; offers = b.offers; out = None; settled = b.settled ++ settled_by o outcome }

        by : (o : Option BatchValue) → AreLed has.led o → HasPlaces (after o) count
        by None none = record {
          opened = has.opened;
          led = [];
          done = has.done;
          are_opened = has.are_opened;
          are_led = refl;
          are_done = subst (λ l. AreSettled has.done l) (sym (append-nil b.settled)) has.are_done;
          few = λ k. let few = has.few k in omega (arith, few);
        }
        by (Some batch) are = record {
          opened = has.opened;
          led = [];
          done = has.done ++ has.led ∷ [];
          are_opened = has.are_opened;
          are_led = refl;
          are_done = settled_snoc has.done b.settled has.led (record { batch = batch; outcome = outcome }) has.are_done are;
          few = λ k. let few = has.few k in let sum = total_append (times k) has.done (has.led ∷ []) in omega (arith, few, sum);
        }

    -- ---- a list

    -- Each offer of the list is one of the gifts.
    abbrev pub GiftsAre : List GroupItem → Type 0
    GiftsAre items =
        (before : List GroupItem) (filled : Snapshot FeedValue) (leads : Bool) (rest : List GroupItem) → items ≡ before ++ Offer filled leads ∷ rest
        → HasGift script low stream gifts (suc (length before)) (drop (length (open_points (book before))) filled.value.points)

    module _ (items : List GroupItem) (are : GiftsAre items) where
      item_places : (before : List GroupItem) (item : GroupItem) (rest : List GroupItem) → items ≡ before ++ item ∷ rest → HasPlaces (book before) (length before) → HasPlaces (after_item (book before) item) (suc (length before))
      item_places before (Offer filled true) rest same has =
          lead_places (put_offer (book before) filled.value.points) (suc (length before)) (put_places (book before) (length before) filled.value.points has (are before filled true rest same))
      item_places before (Offer filled false) rest same has = put_places (book before) (length before) filled.value.points has (are before filled false rest same)
      item_places before Lead rest same has = lead_places (book before) (suc (length before)) (stay (book before) (length before) has)
      item_places before (Settle outcome) rest same has = settle_places (book before) (suc (length before)) outcome (stay (book before) (length before) has)

      all_places : (before rest : List GroupItem) → items ≡ before ++ rest → HasPlaces (book before) (length before) → HasPlaces (book items) (length items)
      all_places before [] same has = subst (λ (l : List GroupItem). HasPlaces (book l) (length l)) (sym (same ∙ append-nil before)) has
      all_places before (item ∷ rest) same has =
          let next = before ++ item ∷ [] in
          let long = length-append before (item ∷ []) in
          let grown : suc (length before) ≡ length next = omega (arith, long) in
          all_places next rest (same ∙ sym (append_assoc before (item ∷ []) rest))
          (subst (λ (b : Book). HasPlaces b (length next)) (sym (book_push before item))
          (subst (λ n. HasPlaces (after_item (book before) item) n) grown (item_places before item rest same has)))

      pub list_places : HasPlaces (book items) (length items)
      list_places =
          all_places [] items refl record {
            opened = [];
            led = [];
            done = [];
            are_opened = tt;
            are_led = refl;
            are_done = tt;
            few = λ k. omega arith;
          }
