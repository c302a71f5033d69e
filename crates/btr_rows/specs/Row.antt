-- What a record says: a row, or the first reason why it is none.
use Rattle.std.specs.Prelude.{ℕ, ℤ, List, [], ◌∷◌, Option, Some, None, Result, Ok, Err, if◌then◌else◌}
use Rattle.btr_base.specs.Point.{in_domain}
use Rattle.btr_base.specs.Decimal.{signed_of}
use Rattle.btr_rows.specs.declared.row.Row.{Row}
use Rattle.btr_rows.specs.declared.row.RowReason.{RowReason}
use Rattle.btr_rows.specs.declared.row.RowReason.TheVariants.{Fields, Id, Time, Value, Domain}
use Rattle.btr_rows.specs.Field.{row_id_of}

-- The row of an id, a time and a value, or the first of the three that is missing, or a time outside the domain.
abbrev pub first_reason : Option ℕ → Option ℤ → Option ℤ → Result Row RowReason
first_reason None time value = Err Id
first_reason (Some id) None value = Err Time
first_reason (Some id) (Some time) None = Err Value
first_reason (Some id) (Some time) (Some value) =
    if in_domain time then Ok (record { id = id; point = record { time = time; value = value } }) else Err (Domain time)

-- What a record says by its fields: it needs three, an id, a time and a value.
abbrev pub row_of : List (List ℕ) → Result Row RowReason
row_of (id ∷ time ∷ value ∷ []) = first_reason (row_id_of id) (signed_of time) (signed_of value)
row_of other = Err Fields
