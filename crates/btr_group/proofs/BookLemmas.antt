-- Lemmas on the lists of groups: one more item, the batches that were led, and a batch that stays out.
use Rattle.std.specs.Prelude.{◌≡◌, ℕ, ◌+◌, ◌<◌, true, false, List, [], ◌∷◌, ◌++◌, length, drop, Option, None, Some}
use Rattle.std.specs.Option.{is_some}
use Rattle.std.proofs.Common.{refl, sym, ap, ◌∙◌, subst, append_assoc}
use Rattle.std.proofs.lemmas.List.{append-nil}
use Rattle.std.proofs.Math.Seq.{drop-append_seam}
use Rattle.btr_base.specs.declared.point.Point.{Point}
use Rattle.btr_gate.specs.Prefixes.{StartsWith}
use Rattle.btr_gate.proofs.PrefixLemmas.{starts_trans}
use Rattle.btr_hall.specs.declared.group_answers.Outcome.{Outcome}
use Rattle.btr_hall.specs.declared.group_item.GroupItem.{GroupItem}
use Rattle.btr_hall.specs.declared.group_item.GroupItem.TheVariants.{Offer, Lead, Settle}
use Rattle.btr_hall.specs.GroupBook.{BatchValue, Book, all_points, open_points, put_offer, take_batch, lead_unless, lead, settled_by, after_item, book_from, new_book, book, Tiles}
use Rattle.btr_hall.specs.GroupCalls.{IsOutBetween}

-- ---- options

pub none_of : {A : Type 0} (o : Option A) → is_some o ≡ false → o ≡ None
none_of None is = refl
none_of (Some a) is = absurd (cc)

-- ---- points

pub all_points_append : (a b : List (List Point)) → all_points (a ++ b) ≡ all_points a ++ all_points b
all_points_append [] b = refl
all_points_append (points ∷ a) b = ap (λ r. points ++ r) (all_points_append a b) ∙ sym (append_assoc points (all_points a) (all_points b))

-- The points of the open batch after one more offer.
pub put_points : (b : Book) (filled points : List Point) → filled ≡ open_points b ++ points → open_points (put_offer b filled) ≡ filled
put_points b filled points is =
    let rest = drop (length (open_points b)) filled in
    let own : rest ≡ points = ap (drop (length (open_points b))) is ∙ drop-append_seam (open_points b) points in
    all_points_append b.offers (rest ∷ []) ∙ ap (λ r. open_points b ++ r) (append-nil rest ∙ own) ∙ sym is

-- ---- one more item

pub book_append : (b : Book) (l m : List GroupItem) → book_from b (l ++ m) ≡ book_from (book_from b l) m
book_append b [] m = refl
book_append b (item ∷ l) m = book_append (after_item b item) l m

pub book_push : (l : List GroupItem) (item : GroupItem) → book (l ++ item ∷ []) ≡ after_item (book l) item
book_push l item = book_append new_book l (item ∷ [])

pub lead_home : (b : Book) → b.out ≡ None → lead b ≡ take_batch b
lead_home b home = ap (λ o. lead_unless o b) home

pub lead_out : (b : Book) (batch : BatchValue) → b.out ≡ Some batch → lead b ≡ b
lead_out b batch out = ap (λ o. lead_unless o b) out

pub settled_one : (b : Book) (batch : BatchValue) (outcome : Outcome) → b.out ≡ Some batch → settled_by b.out outcome ≡ record { batch = batch; outcome = outcome } ∷ []
settled_one b batch outcome out = ap (λ o. settled_by o outcome) out

-- ---- the batches that were led

pub tiles_push : (from : ℕ) (bs : List BatchValue) (to : ℕ) (b : BatchValue) → Tiles from bs to → b.first ≡ to → 0 < length b.offers → Tiles from (bs ++ b ∷ []) (to + length b.offers)
tiles_push from [] to b tiles first some = (first ∙ sym tiles, some, ap (λ n. n + length b.offers) tiles)
tiles_push from (c ∷ bs) to b tiles first some = (tiles.0, tiles.1, tiles_push (from + length c.offers) bs to b tiles.2 first some)

-- ---- a batch that stays out

-- An item after which a batch is out, as before, is none that settles it.
stays_out : (b : Book) (item : GroupItem) (batch : BatchValue) → b.out ≡ Some batch → is_some (after_item b item).out ≡ true → ((after_item b item).out ≡ Some batch) × ((after_item b item).settled ≡ b.settled)
stays_out b (Offer filled true) batch out is =
    let same = lead_out (put_offer b filled.value.points) batch out in
    (ap (λ (c : Book). c.out) same ∙ out, ap (λ (c : Book). c.settled) same)
stays_out b (Offer filled false) batch out is = (out, refl)
stays_out b Lead batch out is = (ap (λ (c : Book). c.out) (lead_out b batch out) ∙ out, ap (λ (c : Book). c.settled) (lead_out b batch out))
stays_out b (Settle outcome) batch out is = absurd (cc)

-- A batch that was out after each list up to a later one is the same, and nothing was settled.
pub out_between : (rest l : List GroupItem) (batch : BatchValue) → (book l).out ≡ Some batch → IsOutBetween l (l ++ rest) → ((book (l ++ rest)).out ≡ Some batch) × ((book (l ++ rest)).settled ≡ (book l).settled)
out_between [] l batch out between =
    let same : book (l ++ []) ≡ book l = ap book (append-nil l) in
    (ap (λ (c : Book). c.out) same ∙ out, ap (λ (c : Book). c.settled) same)
out_between (item ∷ rest) l batch out between =
    let m = l ++ item ∷ [] in
    let joined : m ++ rest ≡ l ++ item ∷ rest = append_assoc l (item ∷ []) rest in
    let push = book_push l item in
    let here : is_some (book m).out ≡ true = between m (item ∷ [], refl) (rest, sym joined) in
    let step = stays_out (book l) item batch out (sym (ap (λ (c : Book). is_some c.out) push) ∙ here) in
    let later : IsOutBetween m (m ++ rest) = λ k a z. between k (starts_trans k m l a (item ∷ [], refl)) (subst (λ (w : List GroupItem). StartsWith w k) joined z) in
    let next = out_between rest m batch (ap (λ (c : Book). c.out) push ∙ step.0) later in
    let end : book (m ++ rest) ≡ book (l ++ item ∷ rest) = ap book joined in
    (sym (ap (λ (c : Book). c.out) end) ∙ next.0, sym (ap (λ (c : Book). c.settled) end) ∙ next.1 ∙ (ap (λ (c : Book). c.settled) push ∙ step.1))
