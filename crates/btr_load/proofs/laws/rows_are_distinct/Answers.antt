use Rattle.btr_rows.specs.Rows.{good_rows}
use Rattle.btr_load.proofs.RowLemmas.{streams_distinct}
use Rattle.btr_load.proofs.laws.rows_are_distinct.Goals as goal

pub returns : goal.returns
returns c = λ rows. λ id. streams_distinct (good_rows rows) id
