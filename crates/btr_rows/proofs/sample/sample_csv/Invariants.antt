use Rattle.std.proofs.Common.{◌≡◌, ◌*◌, ◌<◌, ◌^◌}
use Rattle.btr_rows.specs.Sample.{sample_text, state_at}
use Rattle.btr_rows.proofs.sample.sample_csv.Given as goal

abbrev pub invariant-loop-instant : goal.invariant-loop-instant
invariant-loop-instant l = (l.state < 2 ^ 32) × (l.state ≡ state_at l.number (l.instant * l.streams)) × (l.out.items ≡ sample_text l.number l.streams l.instant)
