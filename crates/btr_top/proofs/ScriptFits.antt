-- A script without rounds, of which no line brings an output up to date, has room if the most that all its lines need is left.
use Rattle.std.specs.Prelude.{◌≡◌, ◌⊎◌, ℕ, ◌+◌, ◌*◌, ◌^◌, ◌<◌, ◌≤◌, ◌==◌, nat_le, ℤ, true, false, List, [], ◌∷◌, ◌++◌, length, cond, slice_get, Option, Some, None}
use Rattle.std.specs.List.{AllByRecursion}
use Rattle.std.specs.Int.{w32}
use Rattle.std.proofs.Common.{zero, suc, refl, sym, ap, ◌∙◌, subst, arith, inl, inr, length-append, append_assoc}
use Rattle.std.proofs.lemmas.Bool.{cases_lt}
use Rattle.std.proofs.lemmas.Option.{slice_get_past}
use Rattle.btr_base.specs.declared.limits.TheConstants.{MAX_VERSIONS}
use Rattle.btr_base.specs.declared.point.Point.{Point}
use Rattle.btr_base.specs.Range.{RangeValue}
use Rattle.btr_base.specs.Bag.{sort}
use Rattle.btr_base.specs.Commit.{Change}
use Rattle.btr_base.proofs.PointLemmas.{length-sort}
use Rattle.btr_hist.specs.declared.entry.Entry.{Entry}
use Rattle.btr_hist.specs.declared.entry.Entry.TheVariants as entries
use Rattle.btr_hist.specs.declared.kernel.Spec.{Spec}
use Rattle.btr_hist.specs.declared.rejection.Rejection.{Rejection}
use Rattle.btr_hist.specs.declared.rejection.Rejection.TheVariants as rejections
use Rattle.btr_hist.specs.History.{ids, stream_of, is_output, latest}
use Rattle.btr_hist.specs.Legal.{rejection, when, change_rejection, points_rejection, next_bag, Follows}
use Rattle.btr_hist.specs.Query.{of_stream}
use Rattle.btr_hist.specs.Answer.{is_range}
use Rattle.btr_hist.proofs.HistoryLemmas.{follows-last, follows-prefix}
use Rattle.btr_hist.proofs.RejectionLemmas.{first_none, rest_none}
use Rattle.btr_entry.proofs.NumberLemmas.{wide32}
use Rattle.btr_entry.proofs.SpecLemmas.{length-kernel, length-numbers, length-spec}
use Rattle.btr_entry.proofs.SpellingLemmas.{length-create, length-retirement, length-commit, length-define}
use Rattle.btr_log.specs.Head.{content_blocks}
use Rattle.btr_engine.specs.Body as blocks
use Rattle.btr_engine.specs.Body.{most_nodes, most_need_of}
use Rattle.btr_engine.proofs.NeedLemmas.{needs-append}
use Rattle.btr_gate.specs.Numbers.{one, times, total, given}
use Rattle.btr_gate.proofs.NumberLemmas.{one_same, times_append}
use Rattle.btr_load.proofs.TotalLemmas.{total_append, at_number, at_there, entries_sum, taken}
use Rattle.btr_load.proofs.FitLemmas.{needs_least}
use Rattle.btr_text.specs.declared.script.Line.{Line}
use Rattle.btr_text.specs.declared.script.Line.TheVariants as lines
use Rattle.btr_text.specs.declared.script.ScriptLine.{ScriptLine}
use Rattle.btr_text.specs.declared.reply.Reason.TheVariants as reasons
use Rattle.btr_live.specs.Feeds.{none_waiting}
use Rattle.btr_live.specs.Meaning.{Meaning, Commits, Asks, Holds, Refuses, delete, on_second, meaning}
use Rattle.btr_top.specs.declared.live.FeedKind.{FeedKind}
use Rattle.btr_top.specs.Room.{Purpose, OfLine, OfFeeds, OfRound, has_line, IsOfLine, IsAtPlace, IsAskedSince, fed_by, points_fed, IsFeedOf, CommitsShared, due_at, IsFor, Service, IsServed}
use Rattle.btr_top.specs.Room.{blocks_of_points, most_blocks, IsNoRefresh, ScriptFits}
use Rattle.btr_top.proofs.LineEntries.{Asked, on_found, entry_is}
use Rattle.btr_top.proofs.PlaceLemmas.{places_from}
use Rattle.btr_top.proofs.WaitingPlaces.{feeds_of_lanes}

-- ---- the entry of a line

need_of_commit : (stream : ℕ) (cut : List RangeValue) (added : List Point) → most_need_of (entries.Commit stream cut added) ≡ content_blocks (21 + 16 * (length cut + length added)) + most_nodes (length added) (length cut) + 1
need_of_commit stream cut added = ap (λ l. content_blocks l + most_nodes (length added) (length cut) + 1) (sym (length-commit stream cut added))

abbrev AtMost : ℕ → Entry → Type 0
AtMost most e = most_need_of e ≤ most

least_create : (id : ℕ) → AtMost 2 (entries.Create id)
least_create id = let same : most_need_of (entries.Create id) ≡ 2 = ap (λ l. content_blocks l + 1) (sym (length-create id)) in omega (arith, same)

least_define : (id : ℕ) (s : Spec) → AtMost 2 (entries.Define id s)
least_define id s =
    omega (arith, length-define id s, length-spec s, length-kernel s.kernel, length-numbers w32 (2 ^ 32) wide32 s.first s.second)

least_retire : (stream first : ℕ) → AtMost 2 (entries.Retire stream first)
least_retire stream first =
    let same : most_need_of (entries.Retire stream first) ≡ 2 = ap (λ l. content_blocks l + 1) (sym (length-retirement stream first)) in omega (arith, same)

least_insert : (stream : ℕ) (added : List Point) → AtMost (blocks_of_points (length added)) (entries.Commit stream [] added)
least_insert stream added = let same = need_of_commit stream [] added in omega (arith, same)

on_delete : (stream : ℕ) (from to : ℤ) → Asked (AtMost (2 + most_nodes 0 1)) (delete stream from to)
on_delete stream from to =
    let cut : List RangeValue = record { from = from; to = to } ∷ [] in
    let e = entries.Commit stream cut [] in
    elim (is_range from to) as (λ t. Asked (AtMost (2 + most_nodes 0 1)) (cond t (Commits e) (Refuses reasons.Range))) [
      | true ↦ let same : most_need_of e ≡ 2 + most_nodes 0 1 = need_of_commit stream cut [] in omega (arith, same)
      | false ↦ tt
    ]

on_other : (P : Entry → Type 0) (h : List Entry) (second : Option ℕ) (asked : Option ℕ → Meaning) → ((s : Option ℕ) → Asked P (asked s)) → Asked P (on_second h second asked)
on_other P h None asked each = each None
on_other P h (Some id) asked each = on_found P (stream_of h id) (λ stream. asked (Some stream)) (λ stream. each (Some stream))

module _ (batch : ℕ) (low p : List Entry) (e : Entry) where
  asked_least : (line : Option Line) (blocks : ℕ) → IsAskedSince batch low p e line → ((h : List Entry) → Asked (AtMost blocks) (meaning batch h none_waiting line)) → most_need_of e ≤ blocks
  asked_least line blocks is each = entry_is (AtMost blocks) (meaning batch is.at none_waiting line) e (sym is.asked) (each is.at)

  line_least : (line : Option Line) → IsNoRefresh line → IsOfLine batch low p e line → most_need_of e ≤ most_blocks line
  line_least None plain is = asked_least None 0 is (λ h. tt)
  line_least (Some (lines.Create id)) plain is = asked_least (Some (lines.Create id)) 2 is (λ h. least_create id)
  line_least (Some (lines.Insert id added)) plain is =
      let most = blocks_of_points (length added) in
      asked_least (Some (lines.Insert id added)) most is
      (λ h. on_found (AtMost most) (stream_of h id) (λ stream. Commits (entries.Commit stream [] added)) (λ stream. least_insert stream added))
  line_least (Some (lines.Delete id from to)) plain is =
      asked_least (Some (lines.Delete id from to)) (2 + most_nodes 0 1) is
      (λ h. on_found (AtMost (2 + most_nodes 0 1)) (stream_of h id) (λ stream. delete stream from to) (λ stream. on_delete stream from to))
  line_least (Some (lines.Feed id added)) plain is = absurd is
  line_least (Some (lines.Flush id)) plain is = absurd is
  line_least (Some (lines.Discard id)) plain is =
      asked_least (Some (lines.Discard id)) 0 is (λ h. on_found (AtMost 0) (stream_of h id) (λ stream. Holds 0) (λ stream. tt))
  line_least (Some (lines.Distiller id kernel lead grain first second)) plain is =
      let defined : ℕ → Option ℕ → Entry = λ f s. entries.Define id (record { kernel = kernel; lead = lead; grain = grain; first = f; second = s }) in
      asked_least (Some (lines.Distiller id kernel lead grain first second)) 2 is
      (λ h. on_found (AtMost 2) (stream_of h first) (λ f. on_second h second (λ s. Commits (defined f s))) (λ f.
      on_other (AtMost 2) h second (λ s. Commits (defined f s)) (λ s. least_define id (record { kernel = kernel; lead = lead; grain = grain; first = f; second = s }))))
  line_least (Some (lines.Refresh id)) plain is = absurd plain
  line_least (Some (lines.Retire id first)) plain is =
      asked_least (Some (lines.Retire id first)) 2 is
      (λ h. on_found (AtMost 2) (stream_of h id) (λ stream. Commits (entries.Retire stream first)) (λ stream. least_retire stream first))
  line_least (Some (lines.Ask id query)) plain is =
      asked_least (Some (lines.Ask id query)) 0 is (λ h. on_found (AtMost 0) (stream_of h id) (λ stream. Asks (of_stream query stream)) (λ stream. tt))
  line_least (Some lines.Streams) plain is = asked_least (Some lines.Streams) 0 is (λ h. tt)

-- ---- the entry of feeds

-- A commit of nothing is not accepted.
not_empty : (p : List Entry) (stream : ℕ) → rejection p (entries.Commit stream [] []) ≡ None → ⊥
not_empty p stream none =
    let c : Change = record { cut = []; added = [] } in
    let missing : Option Rejection = when (nat_le (length (ids p)) stream) rejections.NoStream in
    let output : Option Rejection = when (is_output p stream) rejections.NotWritable in
    let versions : Option Rejection = when (nat_le MAX_VERSIONS (latest p stream)) rejections.VersionLimit in
    let more : List (Option Rejection) = versions ∷ points_rejection (next_bag p stream c) ∷ [] in
    let change : change_rejection c ≡ None =
    first_none (change_rejection c) more (rest_none output (change_rejection c ∷ more) (rest_none missing (output ∷ change_rejection c ∷ more) none)) in
    let both : Some rejections.Empty ≡ None = change in
    absurd (cc)

-- Two commits need no fewer blocks than one of the points of both.
sum_of_points : (a b : ℕ) → blocks_of_points (a + b) ≤ blocks_of_points a + blocks_of_points b
sum_of_points a b = omega arith

abbrev most_of : Option ScriptLine → ℕ
most_of None = 0
most_of (Some line) = most_blocks line.line

-- ---- lists of places

-- A sum over a list is no greater than that over one which has each number as often, if what it sums is not 0 there.
totals_least : (f : ℕ → ℕ) (a b : List ℕ) → ((n : ℕ) → (times n a ≤ times n b) ⊎ (f n ≡ 0)) → total f a ≤ total f b
totals_least f [] b fewer = omega arith
totals_least f (m ∷ a) b fewer =
    elim (fewer m) [
      | inl there ↦
          let cut = taken m b (let s = one_same m m refl in omega (arith, there, s)) in
          let rest = totals_least f a (cut.front ++ cut.back) (λ n.
          elim (fewer n) [
            | inl le ↦
                let whole : times n b ≡ times n (cut.front ++ m ∷ cut.back) = ap (times n) cut.is in
                inl (omega (arith, le, whole, times_append n cut.front (m ∷ cut.back), times_append n cut.front cut.back))
            | inr none ↦ inr none
          ]) in
          let whole : total f b ≡ total f (cut.front ++ m ∷ cut.back) = ap (total f) cut.is in
          omega (arith, rest, whole, total_append f cut.front (m ∷ cut.back), total_append f cut.front cut.back)
      | inr none ↦
          let rest = totals_least f a b (λ n.
          elim (fewer n) [
            | inl le ↦ inl (omega (arith, le))
            | inr zeroth ↦ inr zeroth
          ]) in
          omega (arith, rest, none)
    ]

times_above : (k place : ℕ) (script : List ScriptLine) → place ≤ k → k < place + length script → 1 ≤ times k (places_from place script)
times_above k place [] from to = absurd (omega (arith, from, to))
times_above k place (line ∷ script) from to =
    elim (cases_lt place k) [
      | inl later ↦ let rest = times_above k (suc place) script later (omega (arith, to)) in omega (arith, rest)
      | inr here ↦ let same = one_same place k (omega (arith, from, here)) in omega (arith, same)
    ]

module _ (script : List ScriptLine) where
  abbrev at : ℕ → ℕ
  at place = most_of (slice_get script place)

  at_all : (place : ℕ) (ls : List ScriptLine) → ((n : ℕ) → slice_get script (place + n) ≡ slice_get ls n) → total at (places_from place ls) ≡ total (λ (line : ScriptLine). most_blocks line.line) ls
  at_all place [] same = refl
  at_all place (line ∷ ls) same =
      let rest = at_all (suc place) ls (λ n. ap (λ m. slice_get script m) (let e : suc place + n ≡ place + suc n = omega arith in e) ∙ same (suc n)) in
      let here : at place ≡ most_blocks line.line = ap most_of (ap (λ m. slice_get script m) (let e : place ≡ place + 0 = omega arith in e) ∙ same 0) in
      omega (arith, rest, here)

  -- Places of which none stands twice.
  places_least : (places : List ℕ) → ((k : ℕ) → times k places ≤ 1) → total at places ≤ total (λ (line : ScriptLine). most_blocks line.line) script
  places_least places once =
      let whole = at_all 0 script (λ n. ap (λ m. slice_get script m) (let e : 0 + n ≡ n = omega arith in e)) in
      let least = totals_least at places (places_from 0 script) (λ k.
      elim (cases_lt k (length script)) [
        | inl inside ↦
            let some = times_above k 0 script (omega arith) (omega (arith, inside)) in
            let few = once k in
            inl (omega (arith, some, few))
        | inr past ↦ inr (ap most_of (slice_get_past script k past))
      ]) in
      omega (arith, whole, least)

  -- ---- one service

  abbrev cost : Purpose → ℕ
  cost (OfLine place) = at place
  cost (OfFeeds places) = total at places
  cost (OfRound round output) = 0

  -- The line with this place adds points to a feed that some lane has for the stream.
  abbrev IsOfAnyLane : List Entry → ℕ → ℕ → Type 0
  IsOfAnyLane p stream place = (lane : ℕ) × IsFeedOf script p lane stream place

  feed_cost : (p : List Entry) (lane stream place : ℕ) → IsFeedOf script p lane stream place → blocks_of_points (length (fed_by (slice_get script place))) ≡ at place
  feed_cost p lane stream place is =
      ap (λ (o : Option ScriptLine). blocks_of_points (length (fed_by o))) is.line ∙ sym (ap most_of is.line)

  feeds_cost : (p : List Entry) (stream place : ℕ) (places : List ℕ) → AllByRecursion (IsOfAnyLane p stream) (place ∷ places) → blocks_of_points (length (points_fed script (place ∷ places))) ≤ total at (place ∷ places)
  feeds_cost p stream place [] are =
      let here = feed_cost p are.0.0 stream place are.0.1 in
      let long = length-append (fed_by (slice_get script place)) [] in
      omega (arith, here, long)
  feeds_cost p stream place (next ∷ places) are =
      let here = feed_cost p are.0.0 stream place are.0.1 in
      let rest = feeds_cost p stream next places are.1 in
      let long = length-append (fed_by (slice_get script place)) (points_fed script (next ∷ places)) in
      let sum = sum_of_points (length (fed_by (slice_get script place))) (length (points_fed script (next ∷ places))) in
      let whole : blocks_of_points (length (points_fed script (place ∷ next ∷ places))) ≡ blocks_of_points (length (fed_by (slice_get script place)) + length (points_fed script (next ∷ places))) = ap blocks_of_points long in
      omega (arith, here, rest, sum, whole)

  feeds_least : (p : List Entry) (e : Entry) (places : List ℕ) → rejection p e ≡ None → CommitsShared script p e places → most_need_of e ≤ total at places
  feeds_least p e [] accepted is = absurd (not_empty p is.stream (sym (ap (rejection p) is.commits) ∙ accepted))
  feeds_least p e (place ∷ places) accepted is =
      let points : List Point = points_fed script (place ∷ places) in
      let same : most_need_of e ≡ most_need_of (entries.Commit is.stream [] (sort points)) = ap most_need_of is.commits in
      let need = least_insert is.stream (sort points) in
      let long : blocks_of_points (length (sort points)) ≡ blocks_of_points (length points) = ap blocks_of_points (length-sort points) in
      let least = feeds_cost p is.stream place places is.are in
      omega (arith, same, need, long, least)

  plain_at : (ls : List ScriptLine) (k : ℕ) (line : ScriptLine) → AllByRecursion (λ (l : ScriptLine). IsNoRefresh l.line) ls → slice_get ls k ≡ Some line → IsNoRefresh line.line
  plain_at [] k line plain is = absurd (cc)
  plain_at (l ∷ ls) zero line plain is = subst (λ (x : ScriptLine). IsNoRefresh x.line) (some_same l line is) plain.0
    where
      some_same : (a b : ScriptLine) → Some a ≡ Some b → a ≡ b
      some_same a b same = cc
  plain_at (l ∷ ls) (suc k) line plain is = plain_at ls k line plain.1 is

  module _ (feeds : FeedKind) (plain : AllByRecursion (λ (line : ScriptLine). IsNoRefresh line.line) script) (low h : List Entry) (follows : Follows h) where
    abbrev batch : ℕ
    batch = due_at feeds

    place_least : (p : List Entry) (e : Entry) (place : ℕ) (o : Option ScriptLine) → slice_get script place ≡ o → IsAtPlace batch low p e o → most_need_of e ≤ most_of o
    place_least p e place None at_place is = absurd is
    place_least p e place (Some line) at_place is = line_least batch low p e line.line (plain_at script place line plain at_place) is

    purpose_least : (p : List Entry) (e : Entry) (purpose : Purpose) → rejection p e ≡ None → IsFor feeds 0 script low p e purpose → most_need_of e ≤ cost purpose
    purpose_least p e (OfLine place) accepted is = place_least p e place (slice_get script place) refl is
    purpose_least p e (OfFeeds places) accepted is = feeds_least p e places accepted (feeds_of_lanes feeds script p e places is)
    purpose_least p e (OfRound round output) accepted is = let none = is.0 in absurd (omega (arith, none))

    service_least : (s : Service) → IsServed feeds 0 script low h s → at_number most_need_of h s.number ≤ cost s.purpose
    service_least s is =
        let part : List Entry = is.before ++ is.entry ∷ [] in
        let accepted = follows-last is.before is.entry (follows-prefix part is.there.0 (subst Follows is.there.1 follows)) in
        let whole : h ≡ is.before ++ is.entry ∷ is.there.0 = is.there.1 ∙ append_assoc is.before (is.entry ∷ []) is.there.0 in
        let there : at_number most_need_of h s.number ≡ most_need_of is.entry = ap (λ l. at_number most_need_of l s.number) whole ∙ at_there most_need_of is.before is.there.0 is.entry s.number is.same_number in
        let least = purpose_least is.before is.entry s.purpose accepted is.is_for in
        omega (arith, there, least)

  -- ---- all services

  abbrev places_in : Purpose → List ℕ
  places_in (OfLine place) = place ∷ []
  places_in (OfFeeds places) = places
  places_in (OfRound round output) = []

  abbrev all_places : List Service → List ℕ
  all_places [] = []
  all_places (s ∷ services) = places_in s.purpose ++ all_places services

  cost_in : (purpose : Purpose) → cost purpose ≡ total at (places_in purpose)
  cost_in (OfLine place) = omega arith
  cost_in (OfFeeds places) = refl
  cost_in (OfRound round output) = refl

  line_in : (k : ℕ) (purpose : Purpose) → has_line k purpose ≡ times k (places_in purpose)
  line_in k (OfLine place) = omega arith
  line_in k (OfFeeds places) = refl
  line_in k (OfRound round output) = refl

  all_cost : (services : List Service) → total (λ (s : Service). cost s.purpose) services ≡ total at (all_places services)
  all_cost [] = refl
  all_cost (s ∷ services) =
      let rest = all_cost services in
      let here = cost_in s.purpose in
      let sum = total_append at (places_in s.purpose) (all_places services) in
      omega (arith, rest, here, sum)

  all_lines : (k : ℕ) (services : List Service) → total (λ (s : Service). has_line k s.purpose) services ≡ times k (all_places services)
  all_lines k [] = refl
  all_lines k (s ∷ services) =
      let rest = all_lines k services in
      let here = line_in k s.purpose in
      let sum = times_append k (places_in s.purpose) (all_places services) in
      omega (arith, rest, here, sum)

abbrev numbers_of : List Service → List ℕ
numbers_of [] = []
numbers_of (s ∷ services) = s.number ∷ numbers_of services

numbers_counted : (n : ℕ) (services : List Service) → times n (numbers_of services) ≡ total (λ (s : Service). one (s.number == n)) services
numbers_counted n [] = refl
numbers_counted n (s ∷ services) = let rest = numbers_counted n services in omega (arith, rest)

each_least : (P : Service → Type 0) (f : ℕ → ℕ) (g : Service → ℕ) (services : List Service) → ((s : Service) → P s → f s.number ≤ g s) → AllByRecursion P services → total f (numbers_of services) ≤ total g services
each_least P f g [] least are = omega arith
each_least P f g (s ∷ services) least are =
    let rest = each_least P f g services least are.1 in
    let here = least s are.0 in
    omega (arith, rest, here)

pub script_fits : ScriptFits
script_fits feeds store script plain fits h serves =
    let low = store.history in
    let since = serves.begins.0 in
    let numbers = numbers_of serves.services in
    let added = entries_sum most_need_of h low since 0 numbers serves.begins.1 (λ n.
    numbers_counted n serves.services ∙ serves.each n ∙ ap (λ m. given (length low) m n) (let e : length h ≡ length h + 0 = omega arith in e)) in
    let least = each_least (IsServed feeds 0 script low h) (at_number most_need_of h) (λ (s : Service). cost script s.purpose) serves.services (service_least script feeds plain low h serves.follows) serves.are in
    let costs = all_cost script serves.services in
    let most = places_least script (all_places script serves.services) (λ k. let a = all_lines script k serves.services in let b = serves.lines_once k in omega (arith, a, b)) in
    let whole : blocks.needs_of h ≡ blocks.needs_of low + blocks.needs_after low since = ap (λ l. blocks.needs_of l) serves.begins.1 ∙ needs-append low since in
    let needed = needs_least low since in
    omega (arith, added, least, costs, most, whole, needed, fits)
