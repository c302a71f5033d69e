use Rattle.std.proofs.Common.{◌+◌, ◌/◌, ◌++◌, ap, ◌∙◌, arith}
use Rattle.btr_rows.specs.Sample.{draw, sample_row}
use Rattle.btr_rows.proofs.SampleLemmas.{next-at, range-push}
use Rattle.btr_rows.proofs.sample.append_instant.Goals as goal

pub loop-stream-preserved : goal.loop-stream-preserved
loop-stream-preserved c = (
  c.next_state-state.ensures.bound,
  λ number n is.
      let was = c.loop-stream.invariant.1 number n is in
      let stream = c.loop-stream.stream in (
        next-at number (n + stream) (n + (stream + 1)) c.loop-stream.state c.next_state-state.result was.0 c.next_state-state.ensures.value (omega arith),
        range-push (λ s. sample_row s c.args.instant (draw number (n + s + 1))) c.args.out.now.items c.loop-stream.out.items c.append_row.new.out.items stream was.1
            (c.in_ok-append_row.ensures
            ∙ ap (λ t. c.loop-stream.out.items ++ sample_row stream c.args.instant (t / 65536))
            (next-at number (n + stream) (n + stream + 1) c.loop-stream.state c.next_state-state.result was.0 c.next_state-state.ensures.value (omega arith))),
      ),
)
