-- The points that wait in a lane are those of `feed` lines, which are in no entry yet: a list of them with the lane's feeds, as it changes
-- line by line.
use Rattle.std.specs.Prelude.{◌≡◌, ◌≢◌, ℕ, ◌+◌, ◌==◌, true, false, List, [], ◌∷◌, ◌++◌, cond, slice_get}
use Rattle.std.specs.List.{AllByRecursion}
use Rattle.std.proofs.Common.{refl, sym, ap, ◌∙◌, subst, arith, inl, inr, append-nil}
use Rattle.std.proofs.lemmas.Bool.{cases_eq, eq-eqb, eqb-true, ne_eqb}
use Rattle.std.proofs.lemmas.Grind.{flat_map-append}
use Rattle.btr_base.specs.declared.point.Point.{Point}
use Rattle.btr_base.specs.Bag.{sort}
use Rattle.btr_base.proofs.PointLemmas.{sort-sort_left}
use Rattle.btr_hist.specs.declared.entry.Entry.{Entry}
use Rattle.btr_gate.specs.Numbers.{one, times, total}
use Rattle.btr_gate.specs.Prefixes.{StartsWith}
use Rattle.btr_text.specs.declared.script.ScriptLine.{ScriptLine}
use Rattle.btr_live.specs.Feeds.{Waiting, with_points}
use Rattle.btr_live.proofs.StreamLemmas.{stream_of-longer}
use Rattle.btr_live.proofs.WaitingLemmas.{at_stream, at_other}
use Rattle.btr_top.specs.declared.live.FeedKind.{FeedKind}
use Rattle.btr_top.specs.declared.live.FeedKind.TheVariants.{Own, Shared}
use Rattle.btr_top.specs.Room.{fed_by, points_fed, IsFeedOf, CommitsFeeds, CommitsShared, IsOfFeeds}

-- ---- places that wait

-- A `feed` line whose points wait for a stream.
pub record Pending : Type 0 where
  pub stream : ℕ
  pub place : ℕ

-- How often a place is in a list.
abbrev pub waits_for : ℕ → List Pending → ℕ
waits_for place pending = total (λ (x : Pending). one (x.place == place)) pending

-- The places for one stream, and what waits for the others.
abbrev pub of_stream : ℕ → List Pending → List ℕ
of_stream stream [] = []
of_stream stream (x ∷ pending) = cond (x.stream == stream) (x.place ∷ of_stream stream pending) (of_stream stream pending)

abbrev pub others : ℕ → List Pending → List Pending
others stream [] = []
others stream (x ∷ pending) = cond (x.stream == stream) (others stream pending) (x ∷ others stream pending)

pub split_sum : (stream place : ℕ) (pending : List Pending) → times place (of_stream stream pending) + waits_for place (others stream pending) ≡ waits_for place pending
split_sum stream place [] = refl
split_sum stream place (x ∷ pending) =
    let rest = split_sum stream place pending in
    elim (x.stream == stream) as (λ b. times place (cond b (x.place ∷ of_stream stream pending) (of_stream stream pending)) + waits_for place (cond b (others stream pending) (x ∷ others stream pending)) ≡ one (x.place == place) + waits_for place pending) [
      | true ↦ omega (arith, rest)
      | false ↦ omega (arith, rest)
    ]

of_stream_snoc : (stream : ℕ) (pending : List Pending) (x : Pending) → of_stream stream (pending ++ x ∷ []) ≡ of_stream stream pending ++ cond (x.stream == stream) (x.place ∷ []) []
of_stream_snoc stream [] x = refl
of_stream_snoc stream (y ∷ pending) x =
    let rest = of_stream_snoc stream pending x in
    let more : List ℕ = cond (x.stream == stream) (x.place ∷ []) [] in
    elim (y.stream == stream) as (λ b. cond b (y.place ∷ of_stream stream (pending ++ x ∷ [])) (of_stream stream (pending ++ x ∷ [])) ≡ cond b (y.place ∷ of_stream stream pending) (of_stream stream pending) ++ more) [
      | true ↦ ap (λ l. y.place ∷ l) rest
      | false ↦ rest
    ]

of_others : (stream : ℕ) (pending : List Pending) → of_stream stream (others stream pending) ≡ []
of_others stream [] = refl
of_others stream (x ∷ pending) =
    let rest = of_others stream pending in
    elim (x.stream == stream) as (λ b. (x.stream == stream) ≡ b → of_stream stream (cond b (others stream pending) (x ∷ others stream pending)) ≡ []) [
      | true ↦ λ is. rest
      | false ↦ λ is. ap (λ b. cond b (x.place ∷ of_stream stream (others stream pending)) (of_stream stream (others stream pending))) is ∙ rest
    ] refl

of_others_too : (other stream : ℕ) (pending : List Pending) → other ≢ stream → of_stream other (others stream pending) ≡ of_stream other pending
of_others_too other stream [] differs = refl
of_others_too other stream (x ∷ pending) differs =
    let rest = of_others_too other stream pending differs in
    elim (x.stream == stream) as (λ b. (x.stream == stream) ≡ b → of_stream other (cond b (others stream pending) (x ∷ others stream pending)) ≡ cond (x.stream == other) (x.place ∷ of_stream other pending) (of_stream other pending)) [
      | true ↦ λ is.
          let not : (x.stream == other) ≡ false = ne_eqb x.stream other (λ same. differs (sym same ∙ eqb-true x.stream stream is)) in
          rest ∙ sym (ap (λ b. cond b (x.place ∷ of_stream other pending) (of_stream other pending)) not)
      | false ↦ λ is. ap (λ l. cond (x.stream == other) (x.place ∷ l) l) rest
    ] refl

-- ---- what is said of the lines

sort_left : (a b c : List Point) → sort a ≡ sort b → sort (a ++ c) ≡ sort (b ++ c)
sort_left a b c same = sym (sort-sort_left a c) ∙ ap (λ l. sort (l ++ c)) same ∙ sort-sort_left b c

module _ (script : List ScriptLine) where
  abbrev FeedsAre : List Entry → ℕ → List Pending → Type 0
  FeedsAre h lane pending = AllByRecursion (λ (x : Pending). IsFeedOf script h lane x.stream x.place) pending

  pub feed_longer : (g h : List Entry) (lane stream place : ℕ) → StartsWith g h → IsFeedOf script h lane stream place → IsFeedOf script g lane stream place
  feed_longer g h lane stream place starts is = record { id = is.id; added = is.added; line = is.line; same_stream = stream_of-longer g h is.id stream starts is.same_stream }

  feeds_longer : (g h : List Entry) (lane : ℕ) (pending : List Pending) → StartsWith g h → FeedsAre h lane pending → FeedsAre g lane pending
  feeds_longer g h lane [] starts are = tt
  feeds_longer g h lane (x ∷ pending) starts are = (feed_longer g h lane x.stream x.place starts are.0, feeds_longer g h lane pending starts are.1)

  feeds_others : (h : List Entry) (lane stream : ℕ) (pending : List Pending) → FeedsAre h lane pending → FeedsAre h lane (others stream pending)
  feeds_others h lane stream [] are = tt
  feeds_others h lane stream (x ∷ pending) are =
      let rest = feeds_others h lane stream pending are.1 in
      elim (x.stream == stream) as (λ b. FeedsAre h lane (cond b (others stream pending) (x ∷ others stream pending))) [
        | true ↦ rest
        | false ↦ (are.0, rest)
      ]

  pub feeds_of : (h : List Entry) (lane stream : ℕ) (pending : List Pending) → FeedsAre h lane pending → AllByRecursion (IsFeedOf script h lane stream) (of_stream stream pending)
  feeds_of h lane stream [] are = tt
  feeds_of h lane stream (x ∷ pending) are =
      let rest = feeds_of h lane stream pending are.1 in
      elim (x.stream == stream) as (λ b. (x.stream == stream) ≡ b → AllByRecursion (IsFeedOf script h lane stream) (cond b (x.place ∷ of_stream stream pending) (of_stream stream pending))) [
        | true ↦ λ is. (subst (λ s. IsFeedOf script h lane s x.place) (eqb-true x.stream stream is) are.0, rest)
        | false ↦ λ is. rest
      ] refl

  feeds_snoc : (h : List Entry) (lane : ℕ) (pending : List Pending) (x : Pending) → FeedsAre h lane pending → IsFeedOf script h lane x.stream x.place → FeedsAre h lane (pending ++ x ∷ [])
  feeds_snoc h lane [] x are last = (last, tt)
  feeds_snoc h lane (y ∷ pending) x are last = (are.0, feeds_snoc h lane pending x are.1 last)

  pub each_snoc : (P : ℕ → Type 0) (places : List ℕ) (place : ℕ) → AllByRecursion P places → P place → AllByRecursion P (places ++ place ∷ [])
  each_snoc P [] place are last = (last, tt)
  each_snoc P (x ∷ places) place are last = (are.0, each_snoc P places place are.1 last)

  pub fed_snoc : (places : List ℕ) (place : ℕ) → points_fed script (places ++ place ∷ []) ≡ points_fed script places ++ fed_by (slice_get script place)
  fed_snoc places place =
      flat_map-append (λ p. fed_by (slice_get script p)) places (place ∷ [])
      ∙ ap (λ l. points_fed script places ++ l) (append-nil (fed_by (slice_get script place)))

  -- What waits in a lane for each stream are, in some order, the points of these lines.
  pub record Waits (h : List Entry) (lane : ℕ) (pending : List Pending) (w : Waiting) : Type 0 where
    pub are : FeedsAre h lane pending
    pub points : (stream : ℕ) → sort (w stream) ≡ sort (points_fed script (of_stream stream pending))

  pub waits_none : (h : List Entry) (lane : ℕ) → Waits h lane [] (λ stream. [])
  waits_none h lane = record { are = tt; points = λ stream. refl }

  module _ (h : List Entry) (lane : ℕ) (pending : List Pending) (w : Waiting) (waits : Waits h lane pending w) where
    pub waits_longer : (g : List Entry) → StartsWith g h → Waits g lane pending w
    waits_longer g starts = record { are = feeds_longer g h lane pending starts waits.are; points = waits.points }

    pub waits_same : (stream : ℕ) (points : List Point) → sort points ≡ sort (w stream) → Waits h lane pending (with_points stream points w)
    waits_same stream points same = record {
      are = waits.are;
      points = λ other.
          elim (cases_eq other stream) [
            | inl is ↦ subst (λ s. sort (with_points stream points w s) ≡ sort (points_fed script (of_stream s pending))) (sym is) (ap sort (at_stream stream points w) ∙ same ∙ waits.points stream)
            | inr differs ↦ ap sort (at_other stream other points w differs) ∙ waits.points other
          ];
    }

    pub waits_drop : (stream : ℕ) → Waits h lane (others stream pending) (with_points stream [] w)
    waits_drop stream = record {
      are = feeds_others h lane stream pending waits.are;
      points = λ other.
          elim (cases_eq other stream) [
            | inl is ↦ subst (λ s. sort (with_points stream [] w s) ≡ sort (points_fed script (of_stream s (others stream pending)))) (sym is)
                (ap sort (at_stream stream [] w) ∙ sym (ap (λ l. sort (points_fed script l)) (of_others stream pending)))
            | inr differs ↦ ap sort (at_other stream other [] w differs) ∙ waits.points other ∙ sym (ap (λ l. sort (points_fed script l)) (of_others_too other stream pending differs))
          ];
    }

    -- The places with one more have the points with those of its line.
    pub points_more : (stream place : ℕ) (added : List Point) → fed_by (slice_get script place) ≡ added → sort (w stream ++ added) ≡ sort (points_fed script (of_stream stream pending ++ place ∷ []))
    points_more stream place added fed =
        sort_left (w stream) (points_fed script (of_stream stream pending)) added (waits.points stream)
        ∙ ap sort (sym (fed_snoc (of_stream stream pending) place ∙ ap (λ l. points_fed script (of_stream stream pending) ++ l) fed))

    pub waits_push : (stream place : ℕ) (added points : List Point) → IsFeedOf script h lane stream place → fed_by (slice_get script place) ≡ added → sort points ≡ sort (w stream ++ added) → Waits h lane (pending ++ record { stream = stream; place = place } ∷ []) (with_points stream points w)
    waits_push stream place added points feeds fed same = record {
      are = feeds_snoc h lane pending (record { stream = stream; place = place }) waits.are feeds;
      points = λ other.
          let x : Pending = record { stream = stream; place = place } in
          elim (cases_eq other stream) [
            | inl is ↦ subst (λ s. sort (with_points stream points w s) ≡ sort (points_fed script (of_stream s (pending ++ x ∷ [])))) (sym is)
                (ap sort (at_stream stream points w) ∙ same ∙ points_more stream place added fed
                ∙ sym (ap (λ l. sort (points_fed script l)) (of_stream_snoc stream pending x ∙ ap (λ b. of_stream stream pending ++ cond b (place ∷ []) []) (eq-eqb stream stream refl))))
            | inr differs ↦ ap sort (at_other stream other points w differs) ∙ waits.points other
                ∙ sym (ap (λ l. sort (points_fed script l)) (of_stream_snoc other pending x ∙ ap (λ b. of_stream other pending ++ cond b (place ∷ []) []) (ne_eqb stream other (λ same. differs (sym same))) ∙ append-nil (of_stream other pending)))
          ];
    }

-- ---- the entry of places

each_lane : (script : List ScriptLine) (p : List Entry) (lane stream : ℕ) (places : List ℕ) → AllByRecursion (IsFeedOf script p lane stream) places → AllByRecursion (λ place. (other : ℕ) × IsFeedOf script p other stream place) places
each_lane script p lane stream [] are = tt
each_lane script p lane stream (place ∷ places) are = ((lane, are.0), each_lane script p lane stream places are.1)

-- A commit of what waits in one lane is one of what waits for a stream in any lanes.
of_any_lanes : (script : List ScriptLine) (p : List Entry) (e : Entry) (places : List ℕ) → CommitsFeeds script p e places → CommitsShared script p e places
of_any_lanes script p e places is = record { stream = is.stream; are = each_lane script p is.lane is.stream places is.are; commits = is.commits }

-- So it is what the feeds commit, whether lanes share them or not; and what the feeds commit is one of any lanes.
pub feeds_of_lane : (feeds : FeedKind) (script : List ScriptLine) (p : List Entry) (e : Entry) (places : List ℕ) → CommitsFeeds script p e places → IsOfFeeds feeds script p e places
feeds_of_lane (Own batch) script p e places is = is
feeds_of_lane (Shared threshold) script p e places is = of_any_lanes script p e places is

pub feeds_of_lanes : (feeds : FeedKind) (script : List ScriptLine) (p : List Entry) (e : Entry) (places : List ℕ) → IsOfFeeds feeds script p e places → CommitsShared script p e places
feeds_of_lanes (Own batch) script p e places is = of_any_lanes script p e places is
feeds_of_lanes (Shared threshold) script p e places is = is
