-- The line of one output more, if it was refused.
use Rattle.btr_store.specs.SampleLines.{define_line}
use Rattle.btr_store.proofs.TranscriptLemmas.{adds_none}
use Rattle.btr_store.proofs.SampleLineLemmas.{adds_more, adds_whole}
use Rattle.btr_store.proofs.sample_lines.add_undefined.Goals as goal

pub loop-output-init : goal.loop-output-init
loop-output-init c = adds_none c.args.transcript.now

pub loop-output-preserved : goal.loop-output-preserved
loop-output-preserved c =
    adds_more define_line c.args.outputs.now c.loop-output.output-index _ c.args.transcript.now c.loop-output.transcript c.add_if_refused.new.transcript
    c.loop-output-test.true c.loop-output.invariant c.in_ok-add_if_refused.ensures

pub returns : goal.returns
returns c =
    adds_whole define_line c.args.outputs.now c.loop-output.output-index c.args.transcript.now c.loop-output.transcript
    c.loop-output-test.false c.loop-output.invariant
