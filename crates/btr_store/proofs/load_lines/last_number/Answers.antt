-- The row at the last place is the last one.
use Rattle.std.specs.Prelude.{◌≤◌, length}
use Rattle.std.proofs.Common.{sym, arith}
use Rattle.btr_store.proofs.LoadLineLemmas.{last_at}
use Rattle.btr_store.proofs.load_lines.last_number.Goals as goal

pub returns-in_default : goal.returns-in_default
returns-in_default c =
    let some : 1 ≤ length c.args.points.now = omega (arith, c.in_default) in
    sym (last_at c.args.points.now _ some)
