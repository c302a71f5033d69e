-- Lemmas on rounds: none, one more, and more that may be made.
use Rattle.std.specs.Prelude.{◌≡◌, ℕ, zero, suc, ◌+◌, ◌≤◌, List, [], ◌++◌, Bool, true, false, Result, Ok, Err, IfOk, OnErr, Option, Some, None}
use Rattle.std.specs.declared.alloc.AllocError.{AllocError}
use Rattle.std.proofs.Common.{refl, arith, inl, inr}
use Rattle.btr_disk.specs.declared.disk.Disk.{Ghosts}
use Rattle.btr_hist.specs.declared.entry.Entry.{Entry}
use Rattle.btr_gate.specs.Numbers.{times}
use Rattle.btr_gate.specs.Prefixes.{StartsWith}
use Rattle.btr_gate.proofs.NumberLemmas.{times_append}
use Rattle.btr_gate.proofs.PrefixLemmas.{starts_refl, starts_trans}
use Rattle.btr_hall.specs.declared.session.Hall.{Hall}
use Rattle.btr_hall.specs.declared.session.Session.{Session}
use Rattle.btr_jobs.specs.States.{StoreState, LogState, GoesOn}
use Rattle.btr_jobs.specs.TurnLaws.{goes_refl, goes_trans}
use Rattle.btr_jobs.specs.Jobs.{IsAt, Does}
use Rattle.btr_jobs.proofs.DoesLemmas.{does_none, does_then, does_implied}
use Rattle.btr_work.specs.declared.report.RefreshLine.{RefreshLine}
use Rattle.btr_work.specs.Report.{Refreshes}
use Rattle.btr_live.specs.Rounds.{MakesRound, MakesRounds}
use Rattle.btr_live.specs.RoundsLaws.{round_lowers}
use Rattle.btr_live.specs.Live.{LastRound}

pub suc_one : (n : ℕ) → suc n ≡ n + 1
suc_one n = omega arith

module _ (start : StoreState) where
  -- Nothing was added in this many rounds.
  pub no_rounds : (count : ℕ) (log : LogState) (low : List Entry) (own : List ℕ) → StartsWith log.history low → ((n : ℕ) → times n own ≡ 0) → MakesRounds start count low log own
  no_rounds zero log low own starts none = (starts, none)
  no_rounds (suc count) log low own starts none = (
    log,
    goes_refl start log,
    starts,
    own,
    [],
    inr none,
    no_rounds count log log.history [] (starts_refl log.history) (λ n. refl),
    λ n. omega arith,
  )

  -- What was done in at most this many rounds was done in at most more.
  pub rounds_most : (count more : ℕ) (log : LogState) (low : List Entry) (own : List ℕ) → count ≤ more → MakesRounds start count low log own → MakesRounds start more low log own
  rounds_most zero more log low own least is = no_rounds more log low own is.0 is.1
  rounds_most (suc count) zero log low own least is = absurd (omega (arith, least))
  rounds_most (suc count) (suc more) log low own least is = (
    is.0,
    is.1,
    is.2,
    is.3,
    is.4,
    is.5,
    rounds_most count more log is.0.history is.4 (omega (arith, least)) is.6,
    is.7,
  )

  -- One round more.
  pub rounds_push : (count : ℕ) (late early : LogState) (low : List Entry) (a b : List ℕ) → GoesOn start late early → MakesRounds start count low early a → MakesRound start late early.history b → MakesRounds start (suc count) low late (a ++ b)
  rounds_push zero late early low a b on is round = (
    late,
    goes_refl start late,
    starts_trans late.history early.history low on.begins is.0,
    b,
    [],
    round_lowers start late early.history low b is.0 round,
    (starts_refl late.history, λ n. refl),
    λ n.
        let both = times_append n a b in
        let none = is.1 n in
        omega (arith, both, none),
  )
  rounds_push (suc count) late early low a b on is round = (
    is.0,
    goes_trans start late early is.0 on is.1,
    is.2,
    is.3,
    is.4 ++ b,
    is.5,
    rounds_push count late early is.0.history is.4 b on is.6 round,
    λ n.
        let sum = is.7 n in
        let both = times_append n a b in
        let rest = times_append n is.4 b in
        omega (arith, sum, both, rest),
  )

-- A last round is one round at most.
pub last_makes : (start : StoreState) (log : LogState) (low : List Entry) (materialize : Bool) (last : Option (Result (List RefreshLine) AllocError)) (own : List ℕ) → StartsWith log.history low → LastRound start log low materialize last own → MakesRounds start 1 low log own
last_makes start log low materialize last own starts is =
    (log, goes_refl start log, starts, own, [], makes materialize last is, (starts_refl log.history, λ n. refl), λ n. omega arith)
  where
    makes : (materialize : Bool) (last : Option (Result (List RefreshLine) AllocError)) → LastRound start log low materialize last own → MakesRound start log low own
    makes false None is = inr is
    makes false (Some result) is = absurd is
    makes true None is = absurd is
    makes true (Some (Err e)) is = inr is
    makes true (Some (Ok report)) is = inl (report, is)

module _ {D : Type 0} {disk : Ghosts D} (hall : Hall D disk) where
  -- No round yet.
  pub rounds_none : (s : Session D disk) → Does hall s s (λ start log low own. MakesRounds start 0 low log own)
  rounds_none s = does_none hall s (λ start log low own. MakesRounds start 0 low log own) (λ start log. (starts_refl log.history, λ n. refl))

  -- One round more.
  pub rounds_more : (count : ℕ) (old mid new : Session D disk) → IsAt hall new → Does hall old mid (λ start log low own. MakesRounds start count low log own) → Does hall mid new (λ start log low own. MakesRound start log low own) → Does hall old new (λ start log low own. MakesRounds start (suc count) low log own)
  rounds_more count old mid new at first second =
      does_then hall old mid new
      (λ start log low own. MakesRounds start count low log own)
      (λ start log low own. MakesRound start log low own)
      (λ start log low own. MakesRounds start (suc count) low log own)
      at
      (λ start late early low a b on starts one two. rounds_push start count late early low a b on one two)
      first second

  -- No round was begun.
  pub round_none : (s : Session D disk) → Does hall s s (λ start log low own. MakesRound start log low own)
  round_none s = does_none hall s (λ start log low own. MakesRound start log low own) (λ start log. inr (λ n. refl))

  -- One round, if there was memory for it.
  pub round_made : (old new : Session D disk) (result : Result (List RefreshLine) AllocError) → OnErr result (Does hall old new (λ start log low own. (n : ℕ) → times n own ≡ 0)) → IfOk result (λ report. Does hall old new (λ start log low own. Refreshes start log low report own)) → Does hall old new (λ start log low own. MakesRound start log low own)
  round_made old new (Ok report) refused refreshes =
      does_implied hall old new (λ start log low own. Refreshes start log low report own) (λ start log low own. MakesRound start log low own)
      (λ start log low own is. inl (report, is)) refreshes
  round_made old new (Err e) refused refreshes =
      does_implied hall old new (λ start log low own. (n : ℕ) → times n own ≡ 0) (λ start log low own. MakesRound start log low own)
      (λ start log low own is. inr is) refused

  -- The last round.
  pub round_is_last : (old new : Session D disk) (result : Result (List RefreshLine) AllocError) → OnErr result (Does hall old new (λ start log low own. (n : ℕ) → times n own ≡ 0)) → IfOk result (λ report. Does hall old new (λ start log low own. Refreshes start log low report own)) → Does hall old new (λ start log low own. LastRound start log low true (Some result) own)
  round_is_last old new (Ok report) refused refreshes = refreshes
  round_is_last old new (Err e) refused refreshes = refused
