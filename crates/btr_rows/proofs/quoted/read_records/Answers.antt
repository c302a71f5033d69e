use Rattle.std.proofs.Common.{◌++◌, ◌∷◌, [], true, sym, ap, refl, ◌∙◌, inl, inr, map, arith}
use Rattle.std.proofs.lemmas.List.{append-nil}
use Rattle.csv.specs.Records.{fields_of}
use Rattle.csv.specs.Reading.{builder_config, builder_names_headers, builder_trim, strip_bom, with_flexible}
use Rattle.btr_rows.specs.Builder.{built_of}
use Rattle.btr_rows.specs.Row.{row_of}
use Rattle.btr_rows.specs.Reading.{records_in}
use Rattle.btr_rows.proofs.RecordLemmas.{without-mark}
use Rattle.btr_rows.proofs.BuilderLemmas.{said-push, record-push}
use Rattle.btr_rows.proofs.quoted.read_records.Goals as goal

pub loop-fields-init : goal.loop-fields-init
loop-fields-init c =
    let fr = c.from_reader-reader.ensures in
    let made = c.flexible.ensures ∙ ap (λ b. with_flexible b true) c.has_headers.ensures in
    let shorter = without-mark c.args.text.now in (
      strip_bom c.args.text.now,
      record {
        trim = fr.trim ∙ ap builder_trim made ∙ c.new.ensures.trim;
        ready = inr (inr (fr.has_headers ∙ ap builder_names_headers made, fr.headers));
        config = fr.config ∙ ap builder_config made ∙ c.new.ensures.config;
        state = inl fr.state;
        source = fr.source;
      },
      omega (arith, c.requires),
      λ before same. ([], same ∙ ap built_of (sym (append-nil before)), refl),
    )

pub loop-fields-preserved : goal.loop-fields-preserved
loop-fields-preserved c =
    let inv = c.loop-fields.invariant in
    let step = rw c.if-branch.true at c.in_ok-next_fields.ensures inv.0 inv.1 in
    let count = c.in_ok-add.ensures.count in (
      step.0,
      step.1,
      omega (arith, count, step.2, inv.2),
      λ before same.
          let was = inv.3 before same in (
            was.0 ++ fields_of c.next_fields.new.fields ∷ [],
            c.in_ok-add.ensures.row (before ++ map row_of was.0) was.1 ∙ ap built_of (said-push before was.0 (fields_of c.next_fields.new.fields) c.read_record.result c.read_record.ensures),
            record-push (records_in (strip_bom c.args.text.now)) was.0 (records_in inv.0) (records_in step.0) (fields_of c.next_fields.new.fields) was.2 step.3,
          ),
    )
