use Rattle.std.proofs.Common.{◌*◌, [], ap, ◌∙◌, arith}
use Rattle.btr_rows.specs.Sample.{instant_rows, state_at}
use Rattle.btr_rows.proofs.SampleLemmas.{first-state, next-instant, range-push}
use Rattle.btr_rows.proofs.sample.sample_csv.Goals as goal

pub loop-instant-init : goal.loop-instant-init
loop-instant-init c = (omega (arith, c.from-state.ensures, c.ranges.number.fits), first-state c.args.number c.args.streams c.from-state.result c.from-state.ensures, c.new-out.ensures.items)

pub loop-instant-preserved : goal.loop-instant-preserved
loop-instant-preserved c =
    let inv = c.loop-instant.invariant in
    let at = c.loop-instant.instant * c.args.streams in (
      c.in_ok-state.ensures.bound,
      c.in_ok-state.ensures.state c.args.number at inv.1 ∙ ap (state_at c.args.number) (next-instant c.loop-instant.instant c.args.streams),
      range-push (λ i. instant_rows c.args.number c.args.streams i (i * c.args.streams)) [] c.loop-instant.out.items c.append_instant.new.out.items c.loop-instant.instant inv.2
          (c.in_ok-state.ensures.rows c.args.number at inv.1),
    )
