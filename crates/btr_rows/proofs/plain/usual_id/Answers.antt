use Rattle.std.proofs.Common.{sym, ap, ◌∙◌, take, drop}
use Rattle.btr_rows.specs.Field.{row_id_of}
use Rattle.btr_rows.proofs.DigitFieldLemmas.{id-at}
use Rattle.btr_rows.proofs.plain.usual_id.Goals as goal

pub returns-clause-value : goal.returns-clause-value
returns-clause-value c =
    let cut = c.in_ok-front.ensures.cases in
    let read = c.in_ok-read.ensures in
    let size = id-at c.args.text.now c.in_ok-front.front.now c.in_ok-front.rest.now cut.0 cut.1 read.above c.if-not-begins_with.ensures in
    ap (λ n. row_id_of (take n c.args.text.now)) size ∙ ap row_id_of (sym cut.0) ∙ read.id

pub returns-clause-rest : goal.returns-clause-rest
returns-clause-rest c =
    let cut = c.in_ok-front.ensures.cases in
    let size = id-at c.args.text.now c.in_ok-front.front.now c.in_ok-front.rest.now cut.0 cut.1 c.in_ok-read.ensures.above c.if-not-begins_with.ensures in
    cut.1 ∙ ap (λ n. drop n c.args.text.now) (sym size)
