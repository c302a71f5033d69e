-- The line of one output more.
use Rattle.std.proofs.Common.{◌∙◌}
use Rattle.btr_store.specs.Streams.{AreStreams}
use Rattle.btr_store.specs.Distil.{output_line}
use Rattle.btr_store.proofs.OutputLineLemmas.{outputs_more, lines_more}
use Rattle.btr_store.proofs.distil.output_lines.Goals as goal

pub loop-line-preserved : goal.loop-line-preserved
loop-line-preserved c =
    let items = c.lines-line-items.result.now in
    let i = c.loop-line.line-index in
    let line = c.output_line.result in
    let old = c.loop-line.transcript in
    let new = c.add.new.self in record {
      some = outputs_more items i _ line old new c.loop-line-test.true c.loop-line.invariant.some c.output_line.ensures.some c.in_ok-add.ensures;
      says = λ h of.
          let are : AreStreams h c.as_slice.result.now = c.as_slice.ensures ∙ c.in_ok-streams.ensures h of in
          lines_more (output_line h) items i _ line old new c.loop-line-test.true (c.loop-line.invariant.says h of) (c.output_line.ensures.line h of are) c.in_ok-add.ensures;
    }
