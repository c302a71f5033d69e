use Rattle.std.proofs.Common.{◌∙◌, sym, ap, rules}
use Rattle.csv.specs.Records.{fields_of}
use Rattle.btr_base.specs.Decimal.{signed_of}
use Rattle.btr_rows.specs.Field.{row_id_of}
use Rattle.btr_rows.specs.Row.{row_of}
use Rattle.btr_rows.proofs.FieldLemmas.{three_fields, field_there, same-reason}
use Rattle.btr_rows.proofs.record.read_record.Goals as goal

pub returns-in-Some-Some-Some : goal.returns-in-Some-Some-Some
returns-in-Some-Some-Some c =
    let w = c.in-Some-Some-Some in
    c.row_from.ensures
    ∙ same-reason c.read_id.result (row_id_of w.id.now) c.read_signed_decimal.result (signed_of w.time.now) c.read_signed_decimal-in-Some-Some-Some.result (signed_of w.value.now)
    c.read_id.ensures c.read_signed_decimal.ensures c.read_signed_decimal-in-Some-Some-Some.ensures
    ∙ ap row_of (sym (three_fields (fields_of c.args.row.now) w.id.now w.time.now w.value.now (search rules) w.ensures.value w.ensures'.value w.ensures''.value))

pub returns-in_default : goal.returns-in_default
returns-in_default c = absurd (field_there (fields_of c.args.row.now) 2 (search rules) (sym c.in_default.ensures''.value))

pub returns-in_default-2 : goal.returns-in_default-2
returns-in_default-2 c = absurd (field_there (fields_of c.args.row.now) 1 (search rules) (sym c.in_default.ensures'.value))

pub returns-in_default-3 : goal.returns-in_default-3
returns-in_default-3 c = absurd (field_there (fields_of c.args.row.now) 0 (search rules) (sym c.in_default.ensures.value))
