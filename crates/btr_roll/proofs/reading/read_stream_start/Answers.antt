use Rattle.std.proofs.Common.{ℕ, length, ap, arith, length-append}
use Rattle.std.specs.Int.{w64, w128}
use Rattle.btr_entry.specs.Grammar.{number}
use Rattle.btr_entry.proofs.NumberLemmas.{wide64, wide128}
use Rattle.btr_roll.proofs.RollLemmas.{after_stream_id, after_stream_entry, after_stream_kind, id_read, stream_entry_read, kind_read, count_read}
use Rattle.btr_roll.proofs.reading.read_stream_start.Goals as goal

pub returns-in_err-id-clause-none : goal.returns-in_err-id-clause-none
returns-in_err-id-clause-none c =
    rw c.from_residual.ensures (λ id entry spec count rest h.
    omega (arith, c.in_err-id.ensures.none, ap (length {A = ℕ}) h.parts, length-append (number w128 id) (after_stream_id entry spec count rest), wide128.len id))

pub returns-in_err-entry-clause-none : goal.returns-in_err-entry-clause-none
returns-in_err-entry-clause-none c =
    rw c.from_residual-in_err-entry.ensures (λ id entry spec count rest h.
    let ids = id_read c.args.bytes.now c.in_ok-id.rest.now c.in_ok-id.id id entry spec count rest c.in_ok-id.ensures.fits c.in_ok-id.ensures.some h in
    omega (arith, c.in_err-entry.ensures.none, ap (length {A = ℕ}) ids.1, length-append (number w64 entry) (after_stream_entry spec count rest), wide64.len entry))

pub returns-in_err-spec-clause-none : goal.returns-in_err-spec-clause-none
returns-in_err-spec-clause-none c =
    rw c.from_residual-in_err-spec.ensures (λ id entry spec count rest h.
    let ids = id_read c.args.bytes.now c.in_ok-id.rest.now c.in_ok-id.id id entry spec count rest c.in_ok-id.ensures.fits c.in_ok-id.ensures.some h in
    let entries = stream_entry_read c.in_ok-id.rest.now c.in_ok-entry.rest.now c.in_ok-entry.entry entry spec count rest c.in_ok-entry.ensures.fits c.in_ok-entry.ensures.some h.entry_fits ids.1 in
    c.in_err-spec.ensures.none spec (after_stream_kind count rest) h.spec_fits entries.1)

pub returns-in_err-count-clause-none : goal.returns-in_err-count-clause-none
returns-in_err-count-clause-none c =
    rw c.from_residual-in_err-count.ensures (λ id entry spec count rest h.
    let ids = id_read c.args.bytes.now c.in_ok-id.rest.now c.in_ok-id.id id entry spec count rest c.in_ok-id.ensures.fits c.in_ok-id.ensures.some h in
    let entries = stream_entry_read c.in_ok-id.rest.now c.in_ok-entry.rest.now c.in_ok-entry.entry entry spec count rest c.in_ok-entry.ensures.fits c.in_ok-entry.ensures.some h.entry_fits ids.1 in
    let kinds = kind_read c.in_ok-entry.rest.now c.in_ok-spec.rest.now c.in_ok-spec.spec spec count rest c.in_ok-spec.ensures.fits c.in_ok-spec.ensures.some h.spec_fits entries.1 in
    omega (arith, c.in_err-count.ensures.none, ap (length {A = ℕ}) kinds.1, length-append (number w64 count) rest, wide64.len count))

pub returns-then-count-clause-none : goal.returns-then-count-clause-none
returns-then-count-clause-none c id entry spec count rest h =
    let ids = id_read c.args.bytes.now c.in_ok-id.rest.now c.in_ok-id.id id entry spec count rest c.in_ok-id.ensures.fits c.in_ok-id.ensures.some h in
    let entries = stream_entry_read c.in_ok-id.rest.now c.in_ok-entry.rest.now c.in_ok-entry.entry entry spec count rest c.in_ok-entry.ensures.fits c.in_ok-entry.ensures.some h.entry_fits ids.1 in
    let kinds = kind_read c.in_ok-entry.rest.now c.in_ok-spec.rest.now c.in_ok-spec.spec spec count rest c.in_ok-spec.ensures.fits c.in_ok-spec.ensures.some h.spec_fits entries.1 in
    let counts = count_read c.in_ok-spec.rest.now c.in_ok-count.rest.now c.in_ok-count.count count rest c.in_ok-count.ensures.fits c.in_ok-count.ensures.some h.few kinds.1 in
    omega (arith, counts.0, h.few, c.if-count.true)
