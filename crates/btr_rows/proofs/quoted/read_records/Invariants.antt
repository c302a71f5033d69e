use Rattle.std.proofs.Common.{◌≡◌, ◌+◌, ◌<◌, ◌^◌, ◌++◌, List, ℕ, length, map, Result, Some}
use Rattle.csv.specs.Reading.{source_of, strip_bom}
use Rattle.btr_rows.specs.declared.row.Row.{Row}
use Rattle.btr_rows.specs.declared.row.RowReason.{RowReason}
use Rattle.btr_rows.specs.Row.{row_of}
use Rattle.btr_rows.specs.Builder.{built_of}
use Rattle.btr_rows.specs.Reading.{HasLeft, records_in}
use Rattle.btr_rows.proofs.RecordLemmas.{known_length}
use Rattle.btr_rows.proofs.quoted.read_records.Given as goal

abbrev pub invariant-loop-fields : goal.invariant-loop-fields
invariant-loop-fields l = (left : List ℕ) × HasLeft l.reader left × (l.rows.count + length left < 2 ^ 64)
    × ((before : List (Result Row RowReason)) → l.fn.rows ≡ built_of before
    → (taken : List (List (List ℕ))) × (l.rows ≡ built_of (before ++ map row_of taken)) × (records_in (strip_bom l.fn.text) ≡ taken ++ records_in left))

abbrev pub decreases-loop-fields : goal.decreases-loop-fields
decreases-loop-fields l = known_length (source_of (λ s. Some s.now) l.reader)
