use Rattle.std.proofs.Common.{◌≡◌, ◌+◌, ◌≤◌, ◌++◌, List, ℕ, length, map}
use Rattle.btr_rows.specs.Row.{row_of}
use Rattle.btr_rows.specs.Rows.{records_of}
use Rattle.btr_rows.specs.Builder.{built_of}
use Rattle.btr_rows.proofs.read.read_rows.Given as goal

abbrev pub invariant-loop-said : goal.invariant-loop-said
invariant-loop-said l = (l.rows.count + length l.rest ≤ length l.bytes)
    × (taken : List (List (List ℕ))) × (l.rows ≡ built_of (map row_of taken)) × (records_of l.bytes ≡ taken ++ records_of l.rest)

abbrev pub decreases-loop-said : goal.decreases-loop-said
decreases-loop-said l = length l.rest
