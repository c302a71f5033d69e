use Rattle.std.proofs.Common.{take}
use Rattle.std.specs.List.{flat_map}
use Rattle.btr_text.proofs.TextLemmas.{on_any_err, prefix_stays}
use Rattle.btr_text.proofs.row.append_each.Goals as goal

pub returns-in_err-append-clause-err : goal.returns-in_err-append-clause-err
returns-in_err-append-clause-err g c =
    on_any_err _ (prefix_stays c.args.out.now.items (flat_map g.R.Row.row_text (take c.loop-row.row-index c.args.rows.now)) c.loop-row.out.items c.append.new.out.items c.loop-row.invariant c.in_err-append.ensures.err)
