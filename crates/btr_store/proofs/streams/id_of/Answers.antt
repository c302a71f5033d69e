-- The row at the number of a stream has its id.
use Rattle.std.specs.Prelude.{◌≡◌, List, length, slice_index_or}
use Rattle.std.proofs.Common.{ap, ◌∙◌, arith}
use Rattle.btr_hist.specs.declared.answer.StreamRow.{StreamRow}
use Rattle.btr_hist.specs.History.{ids}
use Rattle.btr_store.proofs.StreamLemmas.{rows_length, row_at, no_row}
use Rattle.btr_store.proofs.streams.id_of.Goals as goal

pub returns-in-None-clause-stream : goal.returns-in-None-clause-stream
returns-in-None-clause-stream c = λ h are.
    let long : length c.args.streams.now ≡ length (ids h) = ap (length {A = StreamRow}) are ∙ rows_length h 0 (ids h) in
    no_row (ids h) c.args.stream (omega (arith, c.in-None.ensures.lookup.3, long))

pub returns-in-Some-clause-stream : goal.returns-in-Some-clause-stream
returns-in-Some-clause-stream c = λ h are.
    let x = c.in-Some.ensures.lookup in
    let row = c.in-Some.row.now in
    let long : length c.args.streams.now ≡ length (ids h) = ap (length {A = StreamRow}) are ∙ rows_length h 0 (ids h) in
    ap (λ (r : StreamRow). r.id) (x.3.1 row) ∙ ap (λ (l : List StreamRow). (slice_index_or l c.args.stream row).id) are
    ∙ row_at h 0 (ids h) c.args.stream row (omega (arith, x.3.0, long))
