-- Lemmas on sessions that go on: one piece of work after another, and two beside each other.
use Rattle.std.specs.Prelude.{◌≡◌, ◌⊎◌, ℕ, ◌+◌, ◌<◌, ◌≤◌, List, [], ◌++◌, length, nat_lt, if◌then◌else◌, true, false}
use Rattle.std.proofs.Common.{inl, inr, refl, sym, ap, ◌∙◌, subst, arith}
use Rattle.std.proofs.lemmas.Bool.{cases_lt}
use Rattle.btr_disk.specs.declared.disk.Disk.{Ghosts}
use Rattle.btr_hist.specs.declared.entry.Entry.{Entry}
use Rattle.btr_engine.specs.declared.engine.Engine.{Engine}
use Rattle.btr_gate.specs.Numbers.{times, merged}
use Rattle.btr_gate.specs.Prefixes.{StartsWith, longer}
use Rattle.btr_gate.proofs.NumberLemmas.{times_append, times_merged}
use Rattle.btr_gate.proofs.PrefixLemmas.{starts_refl, starts_trans, starts_length}
use Rattle.btr_hall.specs.declared.item.Item.{Item}
use Rattle.btr_hall.specs.declared.session.Hall.{Hall}
use Rattle.btr_hall.specs.declared.session.Session.{Session}
use Rattle.btr_hall.specs.Trace.{IsTraceOf}
use Rattle.btr_hall.specs.Session.{IsSessionOf, IsAlone, Begins, Splits, Meets, opening_of, seen_of, mine_of}
use Rattle.btr_hall.proofs.SessionLemmas.{split_paths, meet_paths, alone_alike}
use Rattle.btr_jobs.specs.States.{StoreState, LogState, GoesOn, log_seen, start_of}
use Rattle.btr_jobs.specs.Jobs.{IsAt, Goes, Does}
use Rattle.btr_jobs.proofs.StateLemmas.{goes_on, history_goes_on, log_at}

either_longer : {A : Type 0} (P : List A → Type 0) (a b : List A) → P a → P b → P (longer a b)
either_longer P a b first second =
    elim (nat_lt (length a) (length b)) as (λ c. P (if c then b else a)) [ true ↦ second | false ↦ first ]

-- A number of a list that has the numbers of two others is in one of them.
pub in_sum : (n : ℕ) (own first rest : List ℕ) → times n own ≡ times n first + times n rest → 0 < times n own → (0 < times n first) ⊎ (0 < times n rest)
in_sum n own first rest sum some =
    elim (cases_lt 0 (times n first)) [
      | inl of_first ↦ inl of_first
      | inr none_first ↦ inr (omega (arith, sum, some, none_first))
    ]

module _ {D : Type 0} {disk : Ghosts D} where
  -- ---- the beginning and the end

  -- The first session of a hall is at it.
  pub begin_at : (x : Engine D disk) (hall : Hall D disk) (s : Session D disk) → Begins x hall s → IsAt hall s
  begin_at x hall s begins =
      record { own = begins.session; trace = subst (λ e. IsTraceOf e (seen_of s)) (sym begins.opening) begins.trace }

  -- If a session was the only one of its hall, it is so again after it went on.
  pub stays_alone : (old new : Session D disk) (own : List ℕ) → Goes old new own → IsAlone old → IsAlone new
  stays_alone old new own goes alone = alone_alike old new goes.paths alone

  -- ---- one after another

  -- A session that did nothing.
  pub goes_none : (s : Session D disk) → Goes s s []
  goes_none s = record {
    seen = starts_refl (seen_of s);
    mine = λ n. omega arith;
    fresh = λ n some. absurd (omega (arith, some));
    start = refl;
    paths = λ path. refl;
  }

  -- A session went on twice.
  pub goes_then : (old mid new : Session D disk) (a b : List ℕ) → Goes old mid a → Goes mid new b → Goes old new (a ++ b)
  goes_then old mid new a b first second = record {
    seen = starts_trans (seen_of new) (seen_of mid) (seen_of old) second.seen first.seen;
    mine = λ n.
        let one = first.mine n in
        let two = second.mine n in
        let both = times_append n a b in
        omega (arith, one, two, both);
    fresh = λ n some.
        let middle = starts_length (seen_of mid) (seen_of old) first.seen in
        let end = starts_length (seen_of new) (seen_of mid) second.seen in
        elim (in_sum n (a ++ b) a b (times_append n a b) (omega (arith, some))) [
          | inl here ↦ let at = first.fresh n (omega (arith, here)) in (at.0, omega (arith, at.1, end))
          | inr here ↦ let at = second.fresh n (omega (arith, here)) in (omega (arith, at.0, middle), at.1)
        ];
    start = second.start ∙ first.start;
    paths = λ path. second.paths path ∙ first.paths path;
  }

  -- The order of the numbers does not matter.
  pub goes_alike : (old new : Session D disk) (own other : List ℕ) → ((n : ℕ) → times n other ≡ times n own) → Goes old new own → Goes old new other
  goes_alike old new own other alike goes = record {
    seen = goes.seen;
    mine = λ n. goes.mine n ∙ ap (λ k. times n (mine_of old) + k) (sym (alike n));
    fresh = λ n some. goes.fresh n (subst (λ k. 1 ≤ k) (alike n) some);
    start = goes.start;
    paths = goes.paths;
  }

  -- Nothing was done.
  pub does_none : (hall : Hall D disk) (s : Session D disk) (What : StoreState → LogState → List Entry → List ℕ → Type 0) → ((start : StoreState) (log : LogState) → What start log log.history []) → Does hall s s What
  does_none hall s What what = ([], goes_none s, λ h of. what (start_of h hall) (log_seen h s))

  -- What was done says another thing, which it implies.
  pub does_implied : (hall : Hall D disk) (old new : Session D disk) (What More : StoreState → LogState → List Entry → List ℕ → Type 0) → ((start : StoreState) (log : LogState) (low : List Entry) (own : List ℕ) → What start log low own → More start log low own) → Does hall old new What → Does hall old new More
  does_implied hall old new What More implies does =
      (does.0, does.1, λ h of. implies (start_of h hall) (log_seen h new) (log_seen h old).history does.0 (does.2 h of))

  -- One piece of work after another: `early` is the log between them, and its history is what the second one had seen.
  pub does_then : (hall : Hall D disk) (old mid new : Session D disk) (First Second Both : StoreState → LogState → List Entry → List ℕ → Type 0) → IsAt hall new → ((start : StoreState) (late early : LogState) (low : List Entry) (a b : List ℕ) → GoesOn start late early → StartsWith early.history low → First start early low a → Second start late early.history b → Both start late low (a ++ b)) → Does hall old mid First → Does hall mid new Second → Does hall old new Both
  does_then hall old mid new First Second Both at both first second = (
    first.0 ++ second.0,
    goes_then old mid new first.0 second.0 first.1 second.1,
    λ h of.
        both (start_of h hall) (log_seen h new) (log_seen h mid) (log_seen h old).history first.0 second.0
        (goes_on h hall new mid of at second.1.seen)
        (history_goes_on h mid old first.1.seen)
        (first.2 h of) (second.2 h of),
  )

  -- ---- beside each other

  -- Both sessions of a split are of the hall as the one was.
  pub split_at : (hall : Hall D disk) (old new other : Session D disk) → IsAt hall old → IsSessionOf hall new → IsSessionOf hall other → Splits old new other → IsAt hall new × IsAt hall other
  split_at hall old new other at own other_own splits = (
    record { own = own; trace = subst (IsTraceOf (opening_of hall)) (sym splits.seen) at.trace },
    record { own = other_own; trace = subst (IsTraceOf (opening_of hall)) (sym splits.other_seen) at.trace },
  )

  -- A session that took in another is of the hall as both were.
  pub meet_at : (hall : Hall D disk) (old other new : Session D disk) → IsAt hall old → IsAt hall other → IsSessionOf hall new → Meets old other new → IsAt hall new
  meet_at hall old other new at other_at own meets = record {
    own = own;
    trace = subst (IsTraceOf (opening_of hall)) (sym meets.seen)
        (either_longer (IsTraceOf (opening_of hall)) (seen_of old) (seen_of other) at.trace other_at.trace);
  }

  module _ (old kept other left right new : Session D disk) (splits : Splits old kept other) (meets : Meets left right new) where
    -- A session was split, both went on, and they met.
    pub goes_both : (a b : List ℕ) → Goes kept left a → Goes other right b → Goes old new (a ++ b)
    goes_both a b first second = record {
      seen = starts_trans (seen_of new) (seen_of left) (seen_of old) meets.this (subst (StartsWith (seen_of left)) splits.seen first.seen);
      mine = λ n.
          let all : times n (mine_of new) ≡ times n (merged (mine_of left) (mine_of right)) = ap (times n) meets.mine in
          let sum = times_merged n (mine_of left) (mine_of right) in
          let one = first.mine n in
          let two = second.mine n in
          let kept_mine : times n (mine_of kept) ≡ times n (mine_of old) = ap (times n) splits.mine in
          let other_mine : times n (mine_of other) ≡ times n [] = ap (times n) splits.other_mine in
          let both = times_append n a b in
          omega (arith, all, sum, one, two, kept_mine, other_mine, both);
      fresh = λ n some.
          let kept_long = ap (length {A = Item D disk}) splits.seen in
          let other_long = ap (length {A = Item D disk}) splits.other_seen in
          let this = starts_length (seen_of new) (seen_of left) meets.this in
          let that = starts_length (seen_of new) (seen_of right) meets.that in
          elim (in_sum n (a ++ b) a b (times_append n a b) (omega (arith, some))) [
            | inl here ↦ let at = first.fresh n (omega (arith, here)) in (omega (arith, at.0, kept_long), omega (arith, at.1, this))
            | inr here ↦ let at = second.fresh n (omega (arith, here)) in (omega (arith, at.0, other_long), omega (arith, at.1, that))
          ];
      start = meets.start ∙ first.start ∙ splits.start;
      paths = λ path.
          let met = meet_paths path left right new meets in
          let cut = split_paths path old kept other splits in
          let one = first.paths path in
          let two = second.paths path in
          omega (arith, met, cut, one, two);
    }

    -- Two pieces of work beside each other: `first` and `second` are the states of the log when they ended.
    pub does_both : (hall : Hall D disk) (First Second Both : StoreState → LogState → List Entry → List ℕ → Type 0) → IsAt hall new → ((start : StoreState) (late first second : LogState) (low : List Entry) (a b : List ℕ) → GoesOn start late first → GoesOn start late second → First start first low a → Second start second low b → Both start late low (a ++ b)) → Does hall kept left First → Does hall other right Second → Does hall old new Both
    does_both hall First Second Both at both first second = (
      first.0 ++ second.0,
      goes_both first.0 second.0 first.1 second.1,
      λ h of.
          let start = start_of h hall in
          let low = (log_seen h old).history in
          let kept_low : (log_seen h kept).history ≡ low = ap (λ l. (log_at {disk = disk} h l).history) splits.seen in
          let other_low : (log_seen h other).history ≡ low = ap (λ l. (log_at {disk = disk} h l).history) splits.other_seen in
          both start (log_seen h new) (log_seen h left) (log_seen h right) low first.0 second.0
          (goes_on h hall new left of at meets.this)
          (goes_on h hall new right of at meets.that)
          (subst (λ k. First start (log_seen h left) k first.0) kept_low (first.2 h of))
          (subst (λ k. Second start (log_seen h right) k second.0) other_low (second.2 h of)),
    )
