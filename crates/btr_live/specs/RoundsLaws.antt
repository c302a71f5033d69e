-- The laws of rounds, which the ghost members of jobs cite: what is said is true for ever, and also of who had seen less.
use Rattle.std.specs.Prelude.{ℕ, zero, suc, List}
use Rattle.std.proofs.Common.{inl, inr}
use Rattle.btr_hist.specs.declared.entry.Entry.{Entry}
use Rattle.btr_gate.specs.Prefixes.{StartsWith}
use Rattle.btr_gate.proofs.PrefixLemmas.{starts_trans}
use Rattle.btr_jobs.specs.States.{StoreState, LogState, GoesOn}
use Rattle.btr_jobs.specs.TurnLaws.{goes_trans}
use Rattle.btr_work.specs.ReportLaws.{refreshes_lasts, refreshes_lowers}
use Rattle.btr_live.specs.declared.rounds.Rounds.{Rounds}
use Rattle.btr_live.specs.Rounds.{MakesRound, MakesRounds}
use Rattle.btr_live.specs.Running.{RoundsDid}

module _ (start : StoreState) where
  -- What a round did is true for ever.
  pub round_lasts : (late early : LogState) (low : List Entry) (own : List ℕ)
      → GoesOn start late early → MakesRound start early low own → MakesRound start late low own
  round_lasts late early low own on (inl is) = inl (is.0, refreshes_lasts start late early low is.0 own on is.1)
  round_lasts late early low own on (inr none) = inr none

  -- So is what rounds did.
  pub rounds_last : (count : ℕ) (late early : LogState) (low : List Entry) (own : List ℕ)
      → GoesOn start late early → MakesRounds start count low early own → MakesRounds start count low late own
  rounds_last zero late early low own on is = (starts_trans late.history early.history low on.begins is.0, is.1)
  rounds_last (suc count) late early low own on is = (
    is.0,
    goes_trans start late early is.0 on is.1,
    is.2,
    is.3,
    is.4,
    is.5,
    rounds_last count late early is.0.history is.4 on is.6,
    is.7,
  )

  -- A round is one after less had been seen.
  pub round_lowers : (log : LogState) (low less : List Entry) (own : List ℕ)
      → StartsWith low less → MakesRound start log low own → MakesRound start log less own
  round_lowers log low less own starts (inl is) = inl (is.0, refreshes_lowers start log low less is.0 own starts is.1)
  round_lowers log low less own starts (inr none) = inr none

  -- So are rounds.
  pub rounds_lower : (count : ℕ) (log : LogState) (low less : List Entry) (own : List ℕ)
      → StartsWith low less → MakesRounds start count low log own → MakesRounds start count less log own
  rounds_lower zero log low less own starts is = (starts_trans log.history low less is.0 starts, is.1)
  rounds_lower (suc count) log low less own starts is = (
    is.0,
    is.1,
    starts_trans is.0.history low less is.2 starts,
    is.3,
    is.4,
    round_lowers is.0 low less is.3 starts is.5,
    is.6,
    is.7,
  )

-- What rounds did as a job is true for ever.
pub rounds_did_lasts : (start : StoreState) (late early : LogState) (low : List Entry) (was now : Rounds) (own : List ℕ)
    → GoesOn start late early → RoundsDid start early low was now own → RoundsDid start late low was now own
rounds_did_lasts start late early low was now own on is = rounds_last start was.count late early low own on is

-- It is true of rounds that had seen less.
pub rounds_did_lowers : (start : StoreState) (log : LogState) (low less : List Entry) (was now : Rounds) (own : List ℕ)
    → StartsWith low less → RoundsDid start log low was now own → RoundsDid start log less was now own
rounds_did_lowers start log low less was now own starts is = rounds_lower start was.count log low less own starts is
