-- The input was read whole, and its rows were loaded.
use Rattle.std.specs.Prelude.{ℕ, List}
use Rattle.std.proofs.Common.{inr, subst}
use Rattle.btr_load.specs.There.{AreDistinct}
use Rattle.btr_rows.specs.Rows.{rows_of}
use Rattle.btr_rows.specs.Streams.{list_of}
use Rattle.btr_top.specs.Work.{RowsCause}
use Rattle.btr_top.proofs.load.run_load.Goals as goal

pub returns-in-Ok-clause-cause : goal.returns-in-Ok-clause-cause
returns-in-Ok-clause-cause g c =
    inr (
      c.in-Ok.input.items,
      c.in-Ok.ensures.read,
      subst (λ (bytes : List ℕ). AreDistinct (list_of (rows_of bytes)).streams × RowsCause g.D.Disk c.args.workers c.args.batch (list_of (rows_of bytes)) c.args.disk c.load_input.result.disk c.load_input.result.ending)
          c.deref.ensures.value (c.load_input.ensures.distinct, c.load_input.ensures.cause),
    )
