-- The rows of an input have each id once, and those that were read are loaded.
use Rattle.std.proofs.Common.{subst}
use Rattle.btr_rows.specs.Rows.{rows_of}
use Rattle.btr_rows.specs.Streams.{RowListValue}
use Rattle.btr_top.specs.Work.{RowsCause}
use Rattle.btr_top.proofs.load.load_input.Goals as goal

pub returns-in-Ok-clause-distinct : goal.returns-in-Ok-clause-distinct
returns-in-Ok-clause-distinct g c = c.rows_are_distinct.ensures (rows_of c.args.input.now)

pub returns-in-Err-clause-distinct : goal.returns-in-Err-clause-distinct
returns-in-Err-clause-distinct g c = c.rows_are_distinct.ensures (rows_of c.args.input.now)

pub returns-in-Ok-clause-cause : goal.returns-in-Ok-clause-cause
returns-in-Ok-clause-cause g c =
    subst (λ (rows : RowListValue). RowsCause g.D.Disk c.args.workers c.args.batch rows c.args.disk c.load_rows.result.disk c.load_rows.result.ending) c.in-Ok.ensures
    c.load_rows.ensures.cause
