use Rattle.csv.specs.Records.{fields_of}
use Rattle.btr_rows.proofs.RecordLemmas.{reader-step}
use Rattle.btr_rows.proofs.quoted.next_fields.Goals as goal

pub returns : goal.returns
returns c = λ left h.
    reader-step c.args.reader.now c.read_byte_record.new.self left c.in-Ok.found (fields_of c.read_byte_record.new.row) h
    (c.in-Ok.ensures.ready h.trim) (c.in-Ok.ensures.reads h.trim h.ready)
