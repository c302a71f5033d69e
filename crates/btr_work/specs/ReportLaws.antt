-- The laws of reports, which the ghost members of jobs cite: what a report says is true for ever, and also of who had seen less.
use Rattle.std.specs.Prelude.{ℕ, List, [], ◌∷◌, Result, Ok, Err}
use Rattle.btr_hist.specs.declared.entry.Entry.{Entry}
use Rattle.btr_streams.specs.declared.board.Receipt.{Receipt}
use Rattle.btr_gate.specs.Prefixes.{StartsWith}
use Rattle.btr_gate.proofs.PrefixLemmas.{starts_trans}
use Rattle.btr_hall.specs.declared.land.LandFault.{LandFault}
use Rattle.btr_hall.specs.declared.land.LandFault.TheVariants as faults
use Rattle.btr_jobs.specs.States.{StoreState, LogState, GoesOn}
use Rattle.btr_jobs.specs.TurnLaws.{goes_trans, landed_lasts}
use Rattle.btr_work.specs.declared.report.Refreshed.{Refreshed}
use Rattle.btr_work.specs.declared.report.Refreshed.TheVariants.{Landed, Current, Refused}
use Rattle.btr_work.specs.declared.report.RefreshLine.{RefreshLine}
use Rattle.btr_work.specs.declared.refreshing.OutputJob.{OutputJob}
use Rattle.btr_work.specs.Report.{IsPlanLanded, IsRefreshed, RefreshesLevels, Refreshes}
use Rattle.btr_work.specs.Refreshing.{IsDone}

module _ (start : StoreState) where
  plan_lasts : (late early : LogState) (low : List Entry) (output : ℕ) (result : Result Receipt LandFault) (own : List ℕ)
      → GoesOn start late early → IsPlanLanded start early low output result own → IsPlanLanded start late low output result own
  plan_lasts late early low output result own on is = record {
    at = is.at;
    after = is.after;
    seen = starts_trans late.history early.history is.at on.begins is.seen;
    plan = is.plan;
    planned = is.planned;
    next = is.next;
    landed = landed_lasts start late early is.at is.plan result own is.next on is.landed;
  }

  plan_lowers : (log : LogState) (low less : List Entry) (output : ℕ) (result : Result Receipt LandFault) (own : List ℕ)
      → StartsWith low less → IsPlanLanded start log low output result own → IsPlanLanded start log less output result own
  plan_lowers log low less output result own starts is = record {
    at = is.at;
    after = starts_trans is.at low less is.after starts;
    seen = is.seen;
    plan = is.plan;
    planned = is.planned;
    next = is.next;
    landed = is.landed;
  }

  -- What became of an output is true for ever.
  pub refreshed_lasts : (late early : LogState) (low : List Entry) (output : ℕ) (result : Refreshed) (own : List ℕ)
      → GoesOn start late early → IsRefreshed start early low output result own → IsRefreshed start late low output result own
  refreshed_lasts late early low output (Landed version) own on is =
      (is.0, is.1, plan_lasts late early low output (Ok is.0) own on is.2)
  refreshed_lasts late early low output (Current version) own on is = record {
    at = is.at;
    after = is.after;
    seen = starts_trans late.history early.history is.at on.begins is.seen;
    current = is.current;
    none = is.none;
  }
  refreshed_lasts late early low output (Refused (faults.Stopped entries)) own on is =
      plan_lasts late early low output (Err (faults.Stopped entries)) own on is
  refreshed_lasts late early low output (Refused faults.Sealed) own on is =
      plan_lasts late early low output (Err faults.Sealed) own on is
  refreshed_lasts late early low output (Refused (faults.Superseded version)) own on is =
      plan_lasts late early low output (Err (faults.Superseded version)) own on is
  refreshed_lasts late early low output (Refused faults.VersionLimit) own on is =
      plan_lasts late early low output (Err faults.VersionLimit) own on is
  refreshed_lasts late early low output (Refused (faults.Crowded at)) own on is =
      plan_lasts late early low output (Err (faults.Crowded at)) own on is
  refreshed_lasts late early low output (Refused (faults.TooManyPoints count)) own on is =
      plan_lasts late early low output (Err (faults.TooManyPoints count)) own on is
  refreshed_lasts late early low output (Refused faults.Want) own on is = is
  refreshed_lasts late early low output (Refused (faults.DeviceFull need left)) own on is =
      plan_lasts late early low output (Err (faults.DeviceFull need left)) own on is
  refreshed_lasts late early low output (Refused faults.DeviceFault) own on is =
      plan_lasts late early low output (Err faults.DeviceFault) own on is

  -- It is true after less had been seen.
  pub refreshed_lowers : (log : LogState) (low less : List Entry) (output : ℕ) (result : Refreshed) (own : List ℕ)
      → StartsWith low less → IsRefreshed start log low output result own → IsRefreshed start log less output result own
  refreshed_lowers log low less output (Landed version) own starts is =
      (is.0, is.1, plan_lowers log low less output (Ok is.0) own starts is.2)
  refreshed_lowers log low less output (Current version) own starts is = record {
    at = is.at;
    after = starts_trans is.at low less is.after starts;
    seen = is.seen;
    current = is.current;
    none = is.none;
  }
  refreshed_lowers log low less output (Refused (faults.Stopped entries)) own starts is =
      plan_lowers log low less output (Err (faults.Stopped entries)) own starts is
  refreshed_lowers log low less output (Refused faults.Sealed) own starts is =
      plan_lowers log low less output (Err faults.Sealed) own starts is
  refreshed_lowers log low less output (Refused (faults.Superseded version)) own starts is =
      plan_lowers log low less output (Err (faults.Superseded version)) own starts is
  refreshed_lowers log low less output (Refused faults.VersionLimit) own starts is =
      plan_lowers log low less output (Err faults.VersionLimit) own starts is
  refreshed_lowers log low less output (Refused (faults.Crowded at)) own starts is =
      plan_lowers log low less output (Err (faults.Crowded at)) own starts is
  refreshed_lowers log low less output (Refused (faults.TooManyPoints count)) own starts is =
      plan_lowers log low less output (Err (faults.TooManyPoints count)) own starts is
  refreshed_lowers log low less output (Refused faults.Want) own starts is = is
  refreshed_lowers log low less output (Refused (faults.DeviceFull need left)) own starts is =
      plan_lowers log low less output (Err (faults.DeviceFull need left)) own starts is
  refreshed_lowers log low less output (Refused faults.DeviceFault) own starts is =
      plan_lowers log low less output (Err faults.DeviceFault) own starts is

-- ---- jobs

pub done_lasts : (start : StoreState) (late early : LogState) (low : List Entry) (was now : OutputJob) (own : List ℕ)
    → GoesOn start late early
    → IsDone start early low was now own → IsDone start late low was now own
done_lasts start late early low was now own on is =
    record { output = is.output; refreshed = refreshed_lasts start late early low was.output now.result own on is.refreshed }

pub done_lowers : (start : StoreState) (log : LogState) (low less : List Entry) (was now : OutputJob) (own : List ℕ) → StartsWith low less
    → IsDone start log low was now own → IsDone start log less was now own
done_lowers start log low less was now own starts is =
    record { output = is.output; refreshed = refreshed_lowers start log low less was.output now.result own starts is.refreshed }

-- ---- reports

levels_lasts : (start : StoreState) (result : ℕ
    → Refreshed) (low : List Entry) (levels : List (List ℕ)) (late early : LogState) (own : List ℕ)
    → GoesOn start late early → RefreshesLevels start low result levels early own → RefreshesLevels start low result levels late own
levels_lasts start result low [] late early own on is = (starts_trans late.history early.history low on.begins is.0, is.1)
levels_lasts start result low (level ∷ levels) late early own on is = (
  is.0,
  goes_trans start late early is.0 on is.1,
  is.2,
  is.3,
  is.4,
  is.5,
  levels_lasts start result is.0.history levels late early is.4 on is.6,
  is.7,
)

-- What a report says is true for ever.
pub refreshes_lasts : (start : StoreState) (late early : LogState) (low : List Entry) (report : List RefreshLine) (own : List ℕ)
    → GoesOn start late early → Refreshes start early low report own → Refreshes start late low report own
refreshes_lasts start late early low report own on is = record {
  seen = is.seen;
  after = is.after;
  before = starts_trans late.history early.history is.seen on.begins is.before;
  levels = is.levels;
  are = is.are;
  result = is.result;
  lines = is.lines;
  refreshes = levels_lasts start is.result is.seen is.levels late early own on is.refreshes;
}

-- It is true after less had been seen.
pub refreshes_lowers : (start : StoreState) (log : LogState) (low less : List Entry) (report : List RefreshLine) (own : List ℕ)
    → StartsWith low less → Refreshes start log low report own → Refreshes start log less report own
refreshes_lowers start log low less report own starts is = record {
  seen = is.seen;
  after = starts_trans is.seen low less is.after starts;
  before = is.before;
  levels = is.levels;
  are = is.are;
  result = is.result;
  lines = is.lines;
  refreshes = is.refreshes;
}
