use Rattle.std.proofs.Common.{◌∷◌, [], sym, ◌∙◌, take}
use Rattle.std.proofs.lemmas.Bool.{eqb-false}
use Rattle.btr_rows.specs.Reading.{field_size}
use Rattle.btr_base.specs.Decimal.{signed_of}
use Rattle.btr_rows.specs.Field.{row_id_of}
use Rattle.btr_rows.proofs.PlainLemmas.{three-plain}
use Rattle.btr_rows.proofs.FieldLemmas.{same-reason}
use Rattle.btr_rows.proofs.plain.plain_row.Goals as goal

pub returns-clause-row : goal.returns-clause-row
returns-clause-row c =
    let line = c.after_line_ends.result.now in
    let after1 = c.in_ok-after_comma.field-0.now in
    let after2 = c.in_ok-after_comma-2.field-0.now in
    let a = c.in_ok-id.ensures in
    let b = c.in_ok-time.ensures in
    let d = c.in_ok-value.ensures in (
      take (field_size line) line ∷ take (field_size after1) after1 ∷ take (field_size after2) after2 ∷ [],
      c.row_from.ensures ∙ same-reason c.in_ok-id.id (row_id_of (take (field_size line) line)) c.in_ok-time.time (signed_of (take (field_size after1) after1)) c.in_ok-value.value (signed_of (take (field_size after2) after2)) a.value b.value d.value,
      three-plain c.args.text.now line after1 after2 c.in_ok-value.rest.now (eqb-false _ _ (sym c.if-begins_with.ensures))
          c.after_line_ends.ensures.rest a.quote (sym a.rest ∙ c.in_ok-after_comma.ensures) b.quote
          (sym b.rest ∙ c.in_ok-after_comma-2.ensures) d.quote d.rest (eqb-false _ _ (sym c.if-begins_with-2.ensures)),
    )
