-- The line of one stream more.
use Rattle.std.proofs.Common.{◌≡◌, ◌<◌, ◌∙◌, ap, subst, length, map, arith, []}
use Rattle.std.specs.List.{range_with_len}
use Rattle.btr_hist.specs.History.{ids}
use Rattle.btr_store.specs.Transcript.{AddsLines}
use Rattle.btr_store.specs.Streams.{id_of_stream}
use Rattle.btr_store.specs.SampleLines.{summary_line}
use Rattle.btr_store.proofs.TranscriptLemmas.{adds_none}
use Rattle.btr_store.proofs.SampleLineLemmas.{adds_next, summaries_more}
use Rattle.btr_store.proofs.sample_lines.add_summaries.Goals as goal

pub loop-stream-init : goal.loop-stream-init
loop-stream-init c = record {
  some = ([], tt, adds_none c.args.transcript.now);
  says = λ h of are. adds_none c.args.transcript.now;
}

pub loop-stream-preserved : goal.loop-stream-preserved
loop-stream-preserved c =
    let stream = c.loop-stream.stream in
    let old = c.args.transcript.now in
    let mid = c.loop-stream.transcript in
    let new = c.add.new.self in record {
      some = summaries_more c.in_ok-line.line old mid new c.loop-stream.invariant.some c.in_ok-line.ensures.some c.in_ok-add.ensures;
      says = λ h of are.
          let known : stream < length (ids h) = omega (arith, c.loop-stream-test.true, c.streams-stream-end.ensures h of) in
          adds_next (λ s. summary_line h (id_of_stream h s) s) stream c.in_ok-line.line old mid new
          (c.in_ok-line.ensures.line h of known ∙ ap (λ id. summary_line h id stream) (c.id_of.ensures.stream h are))
          (c.loop-stream.invariant.says h of are)
          c.in_ok-add.ensures;
    }

pub returns : goal.returns
returns c = record {
  some = c.loop-stream.invariant.some;
  says = λ h of are.
      let all : c.loop-stream.stream ≡ length (ids h) = omega (arith, c.loop-stream-test.false, c.loop-stream.auto.stream-end, c.streams-stream-end.ensures h of) in
      subst (λ n. AddsLines (map (λ s. summary_line h (id_of_stream h s) s) (range_with_len 0 n)) c.args.transcript.now c.loop-stream.transcript)
      all
      (c.loop-stream.invariant.says h of are);
}
