-- The line of one output more, if it was refused.
use Rattle.btr_store.specs.Streams.{id_in}
use Rattle.btr_store.specs.SampleLines.{landing_by}
use Rattle.btr_store.proofs.TranscriptLemmas.{adds_none}
use Rattle.btr_store.proofs.SampleLineLemmas.{adds_more, adds_whole, landing_adds}
use Rattle.btr_store.proofs.sample_lines.add_landings.Goals as goal

pub loop-line-init : goal.loop-line-init
loop-line-init c = adds_none c.args.transcript.now

pub loop-line-preserved : goal.loop-line-preserved
loop-line-preserved c =
    let ids = id_in c.args.streams.now in
    let mid = c.loop-line.transcript in
    let new = c.add_if_refused.new.transcript in
    adds_more (landing_by ids) c.args.report.now c.loop-line.line-index _ c.args.transcript.now mid new
    c.loop-line-test.true c.loop-line.invariant
    (landing_adds ids _ c.id_of.result c.landing_refusal.result mid new c.id_of.ensures.row c.landing_refusal.ensures c.in_ok-add_if_refused.ensures)

pub returns : goal.returns
returns c =
    adds_whole (landing_by (id_in c.args.streams.now)) c.args.report.now c.loop-line.line-index c.args.transcript.now c.loop-line.transcript
    c.loop-line-test.false c.loop-line.invariant
