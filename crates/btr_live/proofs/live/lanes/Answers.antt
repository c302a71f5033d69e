-- The lanes ran with feeds of their own, and then there was the last round.
use Rattle.btr_jobs.proofs.DoesLemmas.{does_then}
use Rattle.btr_live.specs.declared.live.LiveReport.{LiveReport}
use Rattle.btr_live.specs.Lanes.{in_feeds, in_own_feeds}
use Rattle.btr_live.specs.Running.{RanInOwn}
use Rattle.btr_live.specs.OneHistory.{RunsAll}
use Rattle.btr_live.specs.Live.{LastRound, RunsLive}
use Rattle.btr_live.proofs.HistoryLemmas.{all_implied, fed_own, live_ran}
use Rattle.btr_live.proofs.live.lanes.Goals as goal

pub returns-in-Ok-clause-runs : goal.returns-in-Ok-clause-runs
returns-in-Ok-clause-runs g c =
    let script = c.args.script.items in
    let batch = c.args.batch in
    let materialize = c.args.materialize in
    let feeds = c.in_ok-feeds.feeds.items in
    let back = c.in-Ok.field-0-1.items in
    let report : LiveReport = record { replies = c.in-Ok.replies; last = c.last_round-last.result } in
    does_then c.args.hall.now c.args.session.now c.run_parts.new.session c.last_round-last.new.session
    (λ start log low own. RunsAll (in_feeds RanInOwn feeds back) materialize start log low script c.in-Ok.replies.items own)
    (λ start log low own. LastRound start log low materialize c.last_round-last.result own)
    (λ start log low own. RunsLive (in_own_feeds batch) materialize start log low script report own)
    c.last_round-last.ensures.at
    (λ start late early low a b on starts ran last.
    live_ran (in_own_feeds batch) materialize script report start late early low a b on starts
    (all_implied (in_feeds RanInOwn feeds back) (in_own_feeds batch) materialize start early low script report.replies.items a
    (λ k lines replies own did. fed_own batch feeds back c.in_ok-feeds.ensures.batch k start early low lines replies own did) ran)
    last)
    c.in-Ok.ensures.runs
    c.last_round-last.ensures.last
