use Rattle.std.proofs.Common.{ℕ, length, ap, arith, length-append}
use Rattle.std.specs.List.{flat_map}
use Rattle.btr_roll.specs.Roll.{stream_bytes, StreamFits}
use Rattle.btr_roll.proofs.RollLemmas.{one_more, items_long, stream_long, stream_once}
use Rattle.btr_roll.proofs.reading.read_streams.Goals as goal

pub returns-then-count-bytes-clause-none : goal.returns-then-count-bytes-clause-none
returns-then-count-bytes-clause-none c streams rest h =
    omega (arith, c.if-count-bytes.true, h.long, ap (length {A = ℕ}) h.parts, length-append (flat_map (stream_bytes c.args.format) streams) rest, items_long (stream_bytes c.args.format) 33 (stream_long c.args.format) streams)

pub returns-in_default-clause-none : goal.returns-in_default-clause-none
returns-in_default-clause-none c streams rest h =
    one_more (stream_bytes c.args.format) (StreamFits c.args.format) (stream_once c.args.format) c.args.bytes.now c.args.count c.loop-alloc.streams.items streams c.loop-alloc.rest.now rest c.loop-alloc.invariant.each c.loop-alloc.invariant.parts (omega (arith, c.loop-alloc-test.true)) h (rw c.in_default.is at c.in_ok-stream.ensures.none)
