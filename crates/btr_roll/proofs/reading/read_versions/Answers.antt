use Rattle.std.proofs.Common.{ℕ, length, ap, arith, length-append}
use Rattle.std.specs.List.{flat_map}
use Rattle.btr_roll.specs.Roll.{version_bytes, VersionFits}
use Rattle.btr_roll.proofs.RollLemmas.{one_more, items_long, version_long, version_once}
use Rattle.btr_roll.proofs.reading.read_versions.Goals as goal

pub returns-then-count-bytes-clause-none : goal.returns-then-count-bytes-clause-none
returns-then-count-bytes-clause-none c versions rest h =
    omega (arith, c.if-count-bytes.true, h.long, ap (length {A = ℕ}) h.parts, length-append (flat_map version_bytes versions) rest, items_long version_bytes 16 version_long versions)

pub returns-in_default-clause-none : goal.returns-in_default-clause-none
returns-in_default-clause-none c versions rest h =
    one_more version_bytes (VersionFits c.args.output) (version_once c.args.output) c.args.bytes.now c.args.count c.loop-rest.versions.items versions c.loop-rest.rest.now rest c.loop-rest.invariant.each c.loop-rest.invariant.parts (omega (arith, c.loop-rest-test.true)) h c.in_default.ensures.none
