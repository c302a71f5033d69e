-- Lemmas on a script with shared buffers: its lanes, the close of the buffers, and the last round.
use Rattle.std.specs.Prelude.{◌≡◌, ℕ, zero, suc, ◌+◌, ◌<◌, ◌≤◌, nat_lt, Bool, true, false, List, [], ◌∷◌, ◌++◌, length, map, slice_index_or, Option, None, Some, Result, Ok, Err, OnErr}
use Rattle.std.specs.Option.{is_some}
use Rattle.std.specs.List.{AllByRecursion}
use Rattle.std.proofs.Common.{refl, sym, ap, ◌∙◌, subst, arith}
use Rattle.btr_disk.specs.declared.disk.Disk.{Ghosts}
use Rattle.btr_hist.specs.declared.entry.Entry.{Entry}
use Rattle.btr_hist.specs.History.{ids}
use Rattle.btr_engine.specs.Engine.{IsEngineOf}
use Rattle.btr_text.specs.declared.script.ScriptLine.{ScriptLine}
use Rattle.btr_gate.specs.Prefixes.{StartsWith}
use Rattle.btr_gate.specs.Numbers.{one, total, times, given}
use Rattle.btr_gate.proofs.NumberLemmas.{one_same, times_append}
use Rattle.btr_gate.proofs.PrefixLemmas.{starts_refl}
use Rattle.btr_hall.specs.declared.session.Hall.{Hall}
use Rattle.btr_hall.specs.declared.session.Session.{Session}
use Rattle.btr_hall.specs.GroupBook.{SettledValue, book, Tiles}
use Rattle.btr_hall.specs.GroupCalls.{GroupView, no_items}
use Rattle.btr_hall.specs.Trace.{IsTraceOf}
use Rattle.btr_hall.specs.Session.{IsSessionOf, IsAlone, Looks, opening_of, seen_of}
use Rattle.btr_group.specs.declared.group.Group.{Group}
use Rattle.btr_group.specs.declared.group.Seat.{Seat}
use Rattle.btr_group.specs.Seats.{first_session, items_at_start, seen_by, own_items}
use Rattle.btr_group.specs.Sets.{AreGroupsOf, SplitsForEach, IsAsBefore, view_at_place}
use Rattle.btr_group.specs.Closing.{AreOfHall, EndsGroup, MeetsEach}
use Rattle.btr_jobs.specs.States.{StoreState, LogState, GoesOn, log_seen, start_of}
use Rattle.btr_jobs.specs.Jobs.{IsAt, Does}
use Rattle.btr_jobs.proofs.DoesLemmas.{does_implied, does_then, split_at}
use Rattle.btr_jobs.proofs.StateLemmas.{log_at}
use Rattle.btr_jobs.proofs.TurnLemmas.{look_turn}
use Rattle.btr_live.specs.declared.live.LiveReport.{LiveReport}
use Rattle.btr_live.specs.SharedLines.{Views}
use Rattle.btr_live.specs.SharedLaws.{shared_lane_lasts}
use Rattle.btr_live.specs.OneHistory.{RunsLanes, RunsAll, times_all}
use Rattle.btr_live.specs.Live.{LastRound}
use Rattle.btr_live.proofs.HistoryLemmas.{all_lasts}
use Rattle.btr_live.proofs.CloseLemmas.{seen_long}
use Rattle.btr_store.specs.Shared.{RunsBatches, BufferEnds, RunsInBuffers, in_buffers, views_of}
use Rattle.btr_store.specs.SharedLines.{HaveMet}
use Rattle.btr_store.proofs.BatchLemmas.{EachBatches, WithGroups}

-- ---- the buffers at the end

-- One buffer at the end, by the view of its last seat.
pub record ViewEnds (start : StoreState) (log : LogState) (low : List Entry) (stream : ℕ) (v : GroupView) (own : List ℕ) : Type 0 where
  pub once : (n : ℕ) → times n v.own ≡ given 0 (length v.seen) n
  pub home : (book v.seen).out ≡ None
  pub tiles : Tiles 0 (map (λ (b : SettledValue). b.batch) (book v.seen).settled) (book v.seen).first
  pub batches : RunsBatches start log stream low (book v.seen).settled own

module _ {D : Type 0} {disk : Ghosts D} (hall : Hall D disk) (threshold : ℕ) (start : StoreState) (log : LogState) (low : List Entry) where
  view_ends : (s t : Session D disk) (groups : List (Group D disk)) (seats : List (Seat D disk)) (batches : List (List ℕ)) (first place : ℕ) → AreGroupsOf hall threshold first groups → MeetsEach hall s groups seats t → EachBatches start log low groups seats batches → AllByRecursion (λ (x : Seat D disk). items_at_start x ≡ 0) seats → place < length groups → ViewEnds start log low (first + place) (view_at_place seats place) (slice_index_or batches place [])
  view_ends s t [] seats batches first place are meets each starts there = absurd (omega (arith, there))
  view_ends s t (g ∷ groups) [] batches first place are meets each starts there = absurd meets
  view_ends s t (g ∷ groups) (seat ∷ seats) [] first place are meets each starts there = absurd each
  view_ends s t (g ∷ groups) (seat ∷ seats) (own ∷ batches) first zero are meets each starts there =
      let ends : EndsGroup g seat meets.1 = meets.3 in record {
        once = λ n. subst (λ k. times n (own_items seat) ≡ given k (length (seen_by seat)) n) starts.0 (ends.once.once n);
        home = ends.home;
        tiles = ends.tiles;
        batches = subst (λ k. RunsBatches start log k low (book (seen_by seat)).settled own) (are.1 ∙ omega arith) each.0;
      }
  view_ends s t (g ∷ groups) (seat ∷ seats) (own ∷ batches) first (suc place) are meets each starts there =
      let next : suc first + place ≡ first + suc place = omega arith in
      subst (λ k. ViewEnds start log low k (view_at_place seats place) (slice_index_or batches place [])) next
      (view_ends s meets.0 groups seats batches (suc first) place are.3 meets.2 each.1 starts.1 (omega (arith, there)))

  each_length : (groups : List (Group D disk)) (seats : List (Seat D disk)) (batches : List (List ℕ)) → EachBatches start log low groups seats batches → length batches ≡ length groups
  each_length [] [] batches each = ap (λ l. length l) each
  each_length [] (seat ∷ seats) batches each = absurd each
  each_length (g ∷ groups) [] batches each = absurd each
  each_length (g ∷ groups) (seat ∷ seats) [] each = absurd each
  each_length (g ∷ groups) (seat ∷ seats) (own ∷ batches) each = ap suc (each_length groups seats batches each.1)

plus_zero : (n : ℕ) → 0 + n ≡ n
plus_zero n = omega arith

-- ---- a run

module _ {D : Type 0} {disk : Ghosts D} (hall : Hall D disk) (threshold : ℕ) (materialize : Bool) (script : List ScriptLine) (report : LiveReport) (befores afters : List Views) (fresh : AllByRecursion (λ (v : Views). (stream : ℕ) → v stream ≡ no_items) befores) (groups : List (Group D disk)) (seats : List (Seat D disk)) (s t : Session D disk) (are : AreGroupsOf hall threshold 0 groups) (meets : MeetsEach hall s groups seats t) (met : HaveMet afters seats) where
  -- What the lanes did.
  abbrev Lanes : StoreState → LogState → List Entry → List ℕ → Type 0
  Lanes start log low own = RunsAll (in_buffers (λ stream. nat_lt stream (length groups)) threshold befores afters) materialize start log low script report.replies.items own

  -- The lanes ran, the buffers were closed, and then there was the last round.
  pub shared_ran : (start : StoreState) (late early : LogState) (low : List Entry) (a b : List ℕ) → length groups ≡ length (ids low) → GoesOn start late early → StartsWith early.history low → WithGroups Lanes groups seats start early low a → ((n : ℕ) → 1 ≤ times n a → n ≤ length early.history + one (is_some early.failed)) → LastRound start late early.history materialize report.last b → RunsInBuffers threshold materialize start late low script report (a ++ b)
  shared_ran start late early low a b count on starts ran inside last =
      let has : ℕ → Bool = λ stream. nat_lt stream (length groups) in
      let lanes : RunsAll (in_buffers has threshold befores afters) materialize start early low script report.replies.items ran.2 =
      all_lasts (in_buffers has threshold befores afters)
      (λ k start late early low lines replies own on ran. shared_lane_lasts has threshold start late early on (views_of befores k) (views_of afters k) low lines replies own ran)
      materialize start early ran.0 low script report.replies.items ran.2 ran.1 ran.3 in
      let batches : List (List ℕ) = ran.4 in
      record {
        middle = early;
        goes_on = on;
        after = starts;
        befores = befores;
        afters = afters;
        fresh = fresh;
        mine = lanes.mine;
        beside = lanes.beside;
        lanes = subst (λ k. RunsLanes (in_buffers (λ stream. nat_lt stream k) threshold befores afters) (length script) start early low script report.replies.items lanes.mine lanes.beside) count lanes.lanes;
        party = lanes.count;
        lists = λ stream. (view_at_place seats stream).seen;
        batches = batches;
        as_many = each_length hall threshold start early low groups seats batches ran.5 ∙ count;
        buffers = λ stream there.
            let ends = view_ends hall threshold start early low s t groups seats batches 0 stream are meets ran.5 met.start (omega (arith, there, count)) in record {
              seen = met.seen stream;
              once = λ n. sym (met.own stream n) ∙ ends.once n;
              home = ends.home;
              tiles = ends.tiles;
              batches = subst (λ k. RunsBatches start early k low (book (view_at_place seats stream).seen).settled (slice_index_or batches stream [])) (plus_zero stream) ends.batches;
            };
        lastly = b;
        last = last;
        numbers = λ n.
            let both = times_append n a b in
            let sum = ran.6 n in
            let all = lanes.numbers n in
            omega (arith, both, sum, all);
        inside = λ n some.
            let sum = ran.6 n in
            let all = lanes.numbers n in
            inside n (omega (arith, sum, all, some));
      }

  -- What was done in a session is in the log that it has then seen.
  pub does_inside : (old new : Session D disk) (What : StoreState → LogState → List Entry → List ℕ → Type 0) → IsAt hall new → Does hall old new What → Does hall old new (λ start log low own. What start log low own × ((n : ℕ) → 1 ≤ times n own → n ≤ length log.history + one (is_some log.failed)))
  does_inside old new What at does = (
    does.0,
    does.1,
    λ h of. (
      does.2 h of,
      λ n some.
          let fresh = does.1.fresh n some in
          let long = seen_long hall new h of at in
          omega (arith, fresh.1, long),
    ),
  )

  -- A run in a session that was alone: the number of streams was looked up, the lanes shared their buffers, and then there was the last round.
  pub run_shared : (old looked closed new : Session D disk) → IsAlone old → Looks hall old looked → IsAt hall closed → IsAt hall new → ((h : List Entry) → IsEngineOf h (opening_of hall) → length groups ≡ length (ids (log_seen h looked).history)) → Does hall looked closed (WithGroups Lanes groups seats) → Does hall closed new (λ start log low own. LastRound start log low materialize report.last own) → Does hall old new (λ start log low own. RunsInBuffers threshold materialize start log low script report own)
  run_shared old looked closed new alone looks at_closed at count ran last =
      let inside = does_inside looked closed (WithGroups Lanes groups seats) at_closed ran in
      let seen : seen_of looked ≡ seen_of old = looks.alone alone in
      let first : Does hall old looked (λ start log low own. (own ≡ []) × (log.history ≡ low) × (length groups ≡ length (ids log.history))) =
      let look = look_turn hall old looked looks (λ _. Unit {0}) (λ h of. tt) in
      (look.0, look.1, λ h of. ((look.2 h of).0, ap (λ l. (log_at {disk = disk} h l).history) seen, count h of)) in
      let rest : Does hall looked new (λ start log low own. length groups ≡ length (ids low) → RunsInBuffers threshold materialize start log low script report own) =
      does_then hall looked closed new
      (λ start log low own. WithGroups Lanes groups seats start log low own × ((n : ℕ) → 1 ≤ times n own → n ≤ length log.history + one (is_some log.failed)))
      (λ start log low own. LastRound start log low materialize report.last own)
      (λ start log low own. length groups ≡ length (ids low) → RunsInBuffers threshold materialize start log low script report own)
      at
      (λ start late early low a b on starts lanes round same. shared_ran start late early low a b same on starts lanes.0 lanes.1 round)
      inside last in
      does_then hall old looked new
      (λ start log low own. (own ≡ []) × (log.history ≡ low) × (length groups ≡ length (ids log.history)))
      (λ start log low own. length groups ≡ length (ids low) → RunsInBuffers threshold materialize start log low script report own)
      (λ start log low own. RunsInBuffers threshold materialize start log low script report own)
      at
      (λ start late early low a b on starts first second.
      subst (λ l. RunsInBuffers threshold materialize start late l script report (a ++ b)) first.1
      (subst (λ o. RunsInBuffers threshold materialize start late early.history script report (o ++ b)) (sym first.0) (second first.2)))
      first rest

-- ---- no line ran

-- What is so is so after an error.
pub if_err : {A E : Type 0} (r : Result A E) (T : Type 0) → T → OnErr r T
if_err (Ok x) T is = tt
if_err (Err e) T is = is

-- A list in which no number is has none.
no_numbers : (own : List ℕ) → ((n : ℕ) → times n own ≡ 0) → own ≡ []
no_numbers [] none = refl
no_numbers (m ∷ own) none =
    let here = none m in
    let one_here = one_same m m (λ i. m) in
    absurd (omega (arith, here, one_here))

module _ {D : Type 0} {disk : Ghosts D} where
  nothing_made : (start : StoreState) (log : LogState) (low : List Entry) (groups : List (Group D disk)) (seats : List (Seat D disk)) (batches : List (List ℕ)) → ((place : ℕ) → (view_at_place seats place).seen ≡ []) → EachBatches start log low groups seats batches → (n : ℕ) → total (times n) batches ≡ 0
  nothing_made start log low [] [] batches unseen each n = ap (λ l. total (times n) l) each
  nothing_made start log low [] (seat ∷ seats) batches unseen each n = absurd each
  nothing_made start log low (g ∷ groups) [] batches unseen each n = absurd each
  nothing_made start log low (g ∷ groups) (seat ∷ seats) [] unseen each n = absurd each
  nothing_made start log low (g ∷ groups) (seat ∷ seats) (own ∷ batches) unseen each n =
      let none : own ≡ [] = subst (λ l. RunsBatches start log g.stream low (book l).settled own) (unseen 0) each.0 in
      let rest = nothing_made start log low groups seats batches (λ place. unseen (suc place)) each.1 n in
      let here = ap (times n) none in
      omega (arith, rest, here)

  -- The groups were closed, and nothing had been put into them.
  pub closed_unused : (hall : Hall D disk) (s t : Session D disk) (groups : List (Group D disk)) (seats : List (Seat D disk)) → ((place : ℕ) → (view_at_place seats place).seen ≡ []) → Does hall s t (WithGroups (λ start log low own. own ≡ []) groups seats) → Does hall s t (λ start log low own. own ≡ [])
  closed_unused hall s t groups seats unseen does =
      does_implied hall s t (WithGroups (λ start log low own. own ≡ []) groups seats) (λ start log low own. own ≡ [])
      (λ start log low own is. no_numbers own (λ n.
      let sum = is.6 n in
      let none = nothing_made start log low groups seats is.4 unseen is.5 n in
      let done = ap (times n) is.3 in
      omega (arith, sum, none, done)))
      does

  -- A session that is as good as before has added nothing.
  pub as_before : (hall : Hall D disk) (old new : Session D disk) → IsAt hall old → IsSessionOf hall new → IsAsBefore old new → IsAt hall new × Does hall old new (λ start log low own. own ≡ [])
  as_before hall old new at own same = (
    record { own = own; trace = subst (IsTraceOf (opening_of hall)) (sym same.seen) at.trace },
    (
      [],
      record {
        seen = subst (λ l. StartsWith l (seen_of old)) (sym same.seen) (starts_refl (seen_of old));
        mine = λ n. let mine = ap (times n) same.mine in omega (arith, mine);
        fresh = λ n some. absurd (omega (arith, some));
        start = same.start;
        paths = same.paths;
      },
      λ h of. refl,
    ),
  )

  -- Nothing was added twice.
  pub none_then : (hall : Hall D disk) (old mid new : Session D disk) → IsAt hall new → Does hall old mid (λ start log low own. own ≡ []) → Does hall mid new (λ start log low own. own ≡ []) → Does hall old new (λ start log low own. own ≡ [])
  none_then hall old mid new at first second =
      does_then hall old mid new (λ start log low own. own ≡ []) (λ start log low own. own ≡ []) (λ start log low own. own ≡ []) at
      (λ start late early low a b on starts none more. ap (λ l. l ++ b) none ∙ more)
      first second

  pub look_none : (hall : Hall D disk) (old new : Session D disk) → Looks hall old new → Does hall old new (λ start log low own. own ≡ [])
  look_none hall old new looks =
      does_implied hall old new (λ start log low own. (own ≡ []) × StartsWith log.history low × Unit {0}) (λ start log low own. own ≡ [])
      (λ start log low own is. is.0) (look_turn hall old new looks (λ _. Unit {0}) (λ h of. tt))

  -- ---- sessions of groups

  -- What is left of a session that was split for each group is at the hall.
  pub splits_at : (hall : Hall D disk) (groups : List (Group D disk)) (s t : Session D disk) → IsAt hall s → SplitsForEach hall s groups t → IsAt hall t
  splits_at hall [] s t at splits = subst (IsAt hall) splits at
  splits_at hall (g ∷ groups) s t at splits =
      splits_at hall groups splits.0 t (split_at hall s splits.0 (first_session g) at splits.1.session splits.1.other splits.1.splits).0 splits.2

  pub groups_of_hall : (hall : Hall D disk) (threshold first : ℕ) (groups : List (Group D disk)) → AreGroupsOf hall threshold first groups → AreOfHall hall groups
  groups_of_hall hall threshold first [] are = tt
  groups_of_hall hall threshold first (g ∷ groups) are = (are.0, groups_of_hall hall threshold (suc first) groups are.3)
