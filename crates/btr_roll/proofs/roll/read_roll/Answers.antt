use Rattle.std.proofs.Common.{◌≡◌, ℕ, ◌==◌, false, [], length, ap, arith, length-append}
use Rattle.std.specs.Int.{w32}
use Rattle.std.specs.List.{flat_map}
use Rattle.std.proofs.lemmas.Bool.Decides.{nat_tests}
use Rattle.btr_entry.specs.Grammar.{number}
use Rattle.btr_roll.specs.Roll.{stream_bytes, StreamFits}
use Rattle.btr_entry.proofs.NumberLemmas.{wide32}
use Rattle.btr_roll.proofs.RollLemmas.{streams_read, are_items_once, stream_once}
use Rattle.btr_roll.proofs.roll.read_roll.Goals as goal

pub returns-in_default-clause-none : goal.returns-in_default-clause-none
returns-in_default-clause-none c streams h same =
    omega (arith, c.in_default.ensures.none, ap (length {A = ℕ}) same, length-append (number w32 (length streams)) (flat_map (stream_bytes c.args.format) streams), wide32.len (length streams))

pub returns-then-count-gt-MAX_STREAMS-clause-none : goal.returns-then-count-gt-MAX_STREAMS-clause-none
returns-then-count-gt-MAX_STREAMS-clause-none c streams h same =
    let x = c.in-Some in
    let items = streams_read c.args.format c.args.bytes.now x.rest.now x.count streams x.ensures.fits x.ensures.some h same in
    omega (arith, items.long, h.few_streams, c.if-count-gt-MAX_STREAMS.true)

pub returns-in_default-2-clause-none : goal.returns-in_default-2-clause-none
returns-in_default-2-clause-none c streams h same =
    let x = c.in-Some in
    let items = streams_read c.args.format c.args.bytes.now x.rest.now x.count streams x.ensures.fits x.ensures.some h same in
    (rw c.in_default-2.is at c.in_ok-streams.ensures.none) streams [] items

not_none : (n : ℕ) → false ≡ (n == 0) → n ≡ 0 → ⊥
not_none n h k = grind (arith, nat_tests)

pub returns-then-not-is_empty-clause-none : goal.returns-then-not-is_empty-clause-none
returns-then-not-is_empty-clause-none c streams h same =
    let x = c.in-Some in
    let y = c.in-Some-2 in
    let items = streams_read c.args.format c.args.bytes.now x.rest.now x.count streams x.ensures.fits x.ensures.some h same in
    let read = rw y.is at c.in_ok-streams.ensures.some in
    let once = are_items_once (stream_bytes c.args.format) (StreamFits c.args.format) (stream_once c.args.format) x.count x.rest.now y.streams.items streams y.rest.now [] read items in
    not_none _ c.if-not-is_empty.ensures (ap (length {A = ℕ}) once.1)
