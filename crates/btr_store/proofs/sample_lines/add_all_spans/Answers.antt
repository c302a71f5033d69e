-- The lines of one stream more.
use Rattle.std.proofs.Common.{subst}
use Rattle.btr_store.specs.Transcript.{AddsLines}
use Rattle.btr_store.specs.LoadLines.{stream_spans}
use Rattle.btr_store.proofs.TranscriptLemmas.{adds_none}
use Rattle.btr_store.proofs.SampleLineLemmas.{adds_more, adds_whole}
use Rattle.btr_store.proofs.sample_lines.add_all_spans.Goals as goal

pub loop-stream-init : goal.loop-stream-init
loop-stream-init c = adds_none c.args.transcript.now

pub loop-stream-preserved : goal.loop-stream-preserved
loop-stream-preserved c =
    let mid = c.loop-stream.transcript in
    let new = c.add_spans.new.transcript in
    adds_more stream_spans c.args.streams.now c.loop-stream.stream-index c.stream-item.result c.args.transcript.now mid new
    c.loop-stream-test.true c.loop-stream.invariant
    (subst (λ s. AddsLines (stream_spans s) mid new) c.stream-item.is c.in_ok-add_spans.ensures)

pub returns : goal.returns
returns c =
    adds_whole stream_spans c.args.streams.now c.loop-stream.stream-index c.args.transcript.now c.loop-stream.transcript
    c.loop-stream-test.false c.loop-stream.invariant
