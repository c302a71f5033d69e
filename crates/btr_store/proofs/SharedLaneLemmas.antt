-- Lemmas on lanes that share groups: what their lines did, by what they saw of the groups.
use Rattle.std.specs.Prelude.{◌≡◌, ℕ, zero, suc, ◌+◌, nat_lt, Bool, List, [], ◌∷◌, length, map, slice_get, slice_index_or, Option}
use Rattle.std.specs.List.{AllByRecursion}
use Rattle.std.proofs.Common.{refl, sym, ap, ◌∙◌, subst}
use Rattle.btr_disk.specs.declared.disk.Disk.{Ghosts}
use Rattle.btr_hist.specs.declared.entry.Entry.{Entry}
use Rattle.btr_text.specs.declared.script.Line.{Line}
use Rattle.btr_text.specs.declared.script.ScriptLine.{ScriptLine}
use Rattle.btr_text.specs.declared.reply.LineReply.{LineReply}
use Rattle.btr_gate.specs.Prefixes.{StartsWith}
use Rattle.btr_gate.specs.Numbers.{total, times}
use Rattle.btr_hall.specs.declared.session.Hall.{Hall}
use Rattle.btr_hall.specs.declared.session.Session.{Session}
use Rattle.btr_gate.proofs.PrefixLemmas.{starts_refl}
use Rattle.btr_hall.specs.GroupCalls.{GroupView, no_items}
use Rattle.btr_hall.specs.declared.groups.Groups as groups
use Rattle.btr_group.specs.declared.group.Group.{Group}
use Rattle.btr_group.specs.declared.group.Seat.{Seat}
use Rattle.btr_group.specs.declared.lane_groups.LaneGroups.{LaneGroups}
use Rattle.btr_group.specs.Seats.{HasWholeShare, items_at_start}
use Rattle.btr_group.specs.Sets.{IsFirstSeat, view_at_place}
use Rattle.btr_group.specs.LaneSeats.{IsUnusedLane, IsLaterLane, AreLaterLanes, EndsLanes, IsLastSeat, lane_view}
use Rattle.btr_group.specs.SetLaws.{same_seats}
use Rattle.btr_jobs.specs.States.{StoreState, LogState}
use Rattle.btr_jobs.specs.Jobs.{AllKeep, Does}
use Rattle.btr_jobs.proofs.DoesLemmas.{does_implied}
use Rattle.btr_live.specs.Lanes.{FedRan, in_feeds}
use Rattle.btr_live.specs.SharedLines.{Views}
use Rattle.btr_live.specs.OneHistory.{RunsAll}
use Rattle.btr_live.proofs.HistoryLemmas.{all_implied}
use Rattle.btr_live.specs.SharedLanes.{begun_shared, RanInShared, RunsSharedLane, shared_feeds}
use Rattle.btr_store.specs.Shared.{in_buffers, views_of}
use Rattle.btr_store.specs.SharedLines.{HaveMet}

-- Who has seen nothing of the groups, and has no lines.
no_lines : (has : ℕ → Bool) (threshold : ℕ) (start : StoreState) (log : LogState) (low : List Entry) (views : Views) (lines : List (Option Line)) (replies : List LineReply) (own : List ℕ) → lines ≡ [] → replies ≡ [] → own ≡ [] → RunsSharedLane has threshold views views start log low lines replies own
no_lines has threshold start log low views lines replies own none_lines none_replies none_own =
    subst (λ o. RunsSharedLane has threshold views views start log low lines replies o) (sym none_own)
    (subst (λ rs. RunsSharedLane has threshold views views start log low lines rs []) (sym none_replies)
    (subst (λ ls. RunsSharedLane has threshold views views start log low ls [] []) (sym none_lines)
    (begun_shared low views, (refl, refl), refl)))

all_map : {A B : Type 0} (f : A → B) (P : B → Type 0) (xs : List A) → AllByRecursion (λ x. P (f x)) xs → AllByRecursion P (map f xs)
all_map f P [] all = tt
all_map f P (x ∷ xs) all = (all.0, all_map f P xs all.1)

total_map : {A B : Type 0} (f : A → B) (g : B → ℕ) (xs : List A) → total (λ x. g (f x)) xs ≡ total g (map f xs)
total_map f g [] = refl
total_map f g (x ∷ xs) = ap (λ n. g (f x) + n) (total_map f g xs)

all_of : {A : Type 0} (P Q : A → Type 0) → ((x : A) → P x → Q x) → (xs : List A) → AllByRecursion P xs → AllByRecursion Q xs
all_of P Q implies [] all = tt
all_of P Q implies (x ∷ xs) all = (implies x all.0, all_of P Q implies xs all.1)

nothing_before : {A : Type 0} (l : List A) → StartsWith [] l → l ≡ []
nothing_before [] starts = refl
nothing_before (x ∷ l) starts = absurd (cc)

module _ {D : Type 0} {disk : Ghosts D} where
  -- What lanes have seen of their groups.
  abbrev pub views_seen : List (LaneGroups D disk) → List Views
  views_seen lanes = map (λ (l : LaneGroups D disk). lane_view l) lanes

  module _ (ghosts : groups.Ghosts (LaneGroups D disk)) (has_is : (l : LaneGroups D disk) → ghosts.has_group l ≡ (λ stream. nat_lt stream (length l.groups.now))) (threshold_is : (l : LaneGroups D disk) → ghosts.threshold l ≡ l.threshold) (view_is : (l : LaneGroups D disk) → ghosts.view_at l ≡ lane_view l) (hall : Hall D disk) (threshold : ℕ) (all : List (Group D disk)) where
    -- The groups of one lane are these, before its lines and after them.
    one_fed : (was now : LaneGroups D disk) (start : StoreState) (log : LogState) (low : List Entry) (lines : List (Option Line)) (replies : List LineReply) (own : List ℕ) → IsUnusedLane hall threshold all was → RanInShared ghosts start log low (shared_feeds was) (shared_feeds now) lines replies own → RunsSharedLane (λ stream. nat_lt stream (length all)) threshold (lane_view was) (lane_view now) start log low lines replies own
    one_fed was now start log low lines replies own is ran =
        subst (λ (v : Views). RunsSharedLane (λ stream. nat_lt stream (length all)) threshold (lane_view was) v start log low lines replies own) (view_is now)
        (subst (λ (v : Views). RunsSharedLane (λ stream. nat_lt stream (length all)) threshold v (ghosts.view_at now) start log low lines replies own) (view_is was)
        (subst (λ (t : ℕ). RunsSharedLane (λ stream. nat_lt stream (length all)) t (ghosts.view_at was) (ghosts.view_at now) start log low lines replies own) (threshold_is was ∙ is.threshold_is)
        (subst (λ (f : ℕ → Bool). RunsSharedLane f (ghosts.threshold was) (ghosts.view_at was) (ghosts.view_at now) start log low lines replies own) (has_is was ∙ ap (λ (gs : List (Group D disk)). λ (stream : ℕ). nat_lt stream (length gs)) is.groups_are) ran)))

    -- Each lane did what its groups say.
    pub fed_in : (lanes news : List (LaneGroups D disk)) (k : ℕ) (start : StoreState) (log : LogState) (low : List Entry) (lines : List (Option Line)) (replies : List LineReply) (own : List ℕ) → AllByRecursion (IsUnusedLane hall threshold all) lanes → in_feeds (RanInShared ghosts) (map shared_feeds lanes) (map shared_feeds news) k start log low lines replies own → in_buffers (λ stream. nat_lt stream (length all)) threshold (views_seen lanes) (views_seen news) k start log low lines replies own
    fed_in [] [] k start log low lines replies own each ran =
        no_lines (λ stream. nat_lt stream (length all)) threshold start log low (λ stream. no_items) lines replies own ran.0 ran.1 ran.2
    fed_in [] (n ∷ ns) zero start log low lines replies own each ran = absurd ran
    fed_in [] (n ∷ ns) (suc k) start log low lines replies own each ran = fed_in [] ns k start log low lines replies own each ran
    fed_in (l ∷ ls) [] zero start log low lines replies own each ran = absurd ran
    fed_in (l ∷ ls) [] (suc k) start log low lines replies own each ran = fed_in ls [] k start log low lines replies own each.1 ran
    fed_in (l ∷ ls) (n ∷ ns) zero start log low lines replies own each ran = one_fed l n start log low lines replies own each.0 ran
    fed_in (l ∷ ls) (n ∷ ns) (suc k) start log low lines replies own each ran = fed_in ls ns k start log low lines replies own each.1 ran

  -- The lanes did what their groups say.
  pub lanes_fed : (ghosts : groups.Ghosts (LaneGroups D disk)) (hall : Hall D disk) (threshold : ℕ) (all : List (Group D disk)) (lanes news : List (LaneGroups D disk)) (old new : Session D disk) (materialize : Bool) (script : List ScriptLine) (replies : List LineReply) → Does hall old new (λ start log low own. RunsAll (in_feeds (RanInShared ghosts) (map shared_feeds lanes) (map shared_feeds news)) materialize start log low script replies own) → AllByRecursion (IsUnusedLane hall threshold all) lanes → ((l : LaneGroups D disk) → ghosts.has_group l ≡ (λ stream. nat_lt stream (length l.groups.now))) → ((l : LaneGroups D disk) → ghosts.threshold l ≡ l.threshold) → ((l : LaneGroups D disk) → ghosts.view_at l ≡ lane_view l) → Does hall old new (λ start log low own. RunsAll (in_buffers (λ stream. nat_lt stream (length all)) threshold (views_seen lanes) (views_seen news)) materialize start log low script replies own)
  lanes_fed ghosts hall threshold all lanes news old new materialize script replies does each has_is threshold_is view_is =
      does_implied hall old new
      (λ start log low own. RunsAll (in_feeds (RanInShared ghosts) (map shared_feeds lanes) (map shared_feeds news)) materialize start log low script replies own)
      (λ start log low own. RunsAll (in_buffers (λ stream. nat_lt stream (length all)) threshold (views_seen lanes) (views_seen news)) materialize start log low script replies own)
      (λ start log low own ran.
      all_implied (in_feeds (RanInShared ghosts) (map shared_feeds lanes) (map shared_feeds news)) (in_buffers (λ stream. nat_lt stream (length all)) threshold (views_seen lanes) (views_seen news)) materialize start log low script replies own
      (λ k lines rs mine did. fed_in ghosts has_is threshold_is view_is hall threshold all lanes news k start log low lines rs mine each did)
      ran)
      does

  -- Before their lines the lanes have seen nothing.
  pub unused_fresh : (hall : Hall D disk) (threshold : ℕ) (groups : List (Group D disk)) (lanes : List (LaneGroups D disk)) → AllByRecursion (IsUnusedLane hall threshold groups) lanes → AllByRecursion (λ (v : Views). (stream : ℕ) → v stream ≡ no_items) (views_seen lanes)
  unused_fresh hall threshold groups lanes each =
      all_map (λ (l : LaneGroups D disk). lane_view l) (λ (v : Views). (stream : ℕ) → v stream ≡ no_items) lanes
      (all_of (IsUnusedLane hall threshold groups) (λ l. (stream : ℕ) → lane_view l stream ≡ no_items) (λ l is. is.views) lanes each)

  -- The seats of the lanes have met.
  pub have_met : (groups : List (Group D disk)) (lanes : List (LaneGroups D disk)) (seats : List (Seat D disk)) → EndsLanes groups lanes seats → AllByRecursion IsLastSeat seats → HaveMet (views_seen lanes) seats
  have_met groups lanes seats ends last = record {
    seen = λ place. all_map (λ (l : LaneGroups D disk). lane_view l) (λ (v : Views). StartsWith (view_at_place seats place).seen (v place).seen) lanes (ends.seen place);
    own = λ place n. ends.own place n ∙ total_map (λ (l : LaneGroups D disk). lane_view l) (λ (v : Views). times n (v place).own) lanes;
    start = all_of IsLastSeat (λ (s : Seat D disk). items_at_start s ≡ 0) (λ s is. is.start) seats last;
  }

  pub last_whole : (seats : List (Seat D disk)) → AllByRecursion IsLastSeat seats → AllByRecursion HasWholeShare seats
  last_whole seats last = all_of IsLastSeat HasWholeShare (λ s is. is.whole) seats last

  -- Groups after calls, one by one.
  pub keep_later : (olds news : List (LaneGroups D disk)) → AllKeep IsLaterLane olds news → AreLaterLanes olds news
  keep_later [] [] keep = tt
  keep_later [] (new ∷ news) keep = absurd keep
  keep_later (old ∷ olds) [] keep = absurd keep
  keep_later (old ∷ olds) (new ∷ news) keep = (keep.0, keep_later olds news keep.1)

  -- Nothing was called.
  pub same_later : (lanes : List (LaneGroups D disk)) → AreLaterLanes lanes lanes
  same_later [] = tt
  same_later (l ∷ lanes) = ((refl, refl, refl, same_seats l.seats.items), same_later lanes)

  -- The seats have seen nothing if the lanes have not.
  no_views : (P : LaneGroups D disk → Type 0) → ((l : LaneGroups D disk) → P l → (place : ℕ) → lane_view l place ≡ no_items) → (lanes : List (LaneGroups D disk)) → AllByRecursion P lanes → (place : ℕ) → AllByRecursion (λ l. StartsWith [] (lane_view l place).seen) lanes
  no_views P none [] all place = tt
  no_views P none (l ∷ lanes) all place =
      (subst (λ (v : GroupView). StartsWith [] v.seen) (sym (none l all.0 place)) (starts_refl []), no_views P none lanes all.1 place)

  pub unused_seen : (hall : Hall D disk) (threshold : ℕ) (groups : List (Group D disk)) (lanes : List (LaneGroups D disk)) (seats : List (Seat D disk)) → AllByRecursion (IsUnusedLane hall threshold groups) lanes → EndsLanes groups lanes seats → (place : ℕ) → (view_at_place seats place).seen ≡ []
  unused_seen hall threshold groups lanes seats each ends place =
      nothing_before (view_at_place seats place).seen
      (ends.longest place [] (no_views (IsUnusedLane hall threshold groups) (λ l is place. is.views place) lanes each place))

  -- First seats have seen nothing.
  pub first_seen : (seats : List (Seat D disk)) → AllByRecursion IsFirstSeat seats → (place : ℕ) → (view_at_place seats place).seen ≡ []
  first_seen [] first place = refl
  first_seen (s ∷ seats) first zero = first.0.seen
  first_seen (s ∷ seats) first (suc place) = first_seen seats first.1 place

  pub first_start : (seats : List (Seat D disk)) → AllByRecursion IsFirstSeat seats → AllByRecursion (λ (s : Seat D disk). items_at_start s ≡ 0) seats
  first_start seats first = all_of IsFirstSeat (λ (s : Seat D disk). items_at_start s ≡ 0) (λ s is. is.start) seats first

  pub first_whole : (seats : List (Seat D disk)) → AllByRecursion IsFirstSeat seats → AllByRecursion HasWholeShare seats
  first_whole seats first = all_of IsFirstSeat HasWholeShare (λ s is. is.whole) seats first

  pub last_start : (seats : List (Seat D disk)) → AllByRecursion IsLastSeat seats → AllByRecursion (λ (s : Seat D disk). items_at_start s ≡ 0) seats
  last_start seats last = all_of IsLastSeat (λ (s : Seat D disk). items_at_start s ≡ 0) (λ s is. is.start) seats last
