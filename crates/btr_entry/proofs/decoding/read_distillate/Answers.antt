use Rattle.std.proofs.Common.{ℕ, ◌++◌, length, ap, arith, length-append}
use Rattle.std.specs.Int.{w32}
use Rattle.btr_entry.specs.Grammar.{number, range, point, listed, reads_bytes}
use Rattle.btr_entry.proofs.NumberLemmas.{wide32}
use Rattle.btr_entry.proofs.SpellingLemmas.{distillate_from_entry, after_stream, after_reads}
use Rattle.btr_entry.proofs.decoding.read_distillate.Goals as goal

pub returns-in_default-clause-none : goal.returns-in_default-clause-none
returns-in_default-clause-none c e h =
    let k = distillate_from_entry c.args.bytes.now e h in
    omega (arith, c.in_default.ensures.none, ap (length {A = ℕ}) k.parts, length-append (number w32 k.stream) (reads_bytes k.reads ++ (listed range k.cut ++ listed point k.added)), wide32.len k.stream)

pub returns-in_default-read_reads-clause-none : goal.returns-in_default-read_reads-clause-none
returns-in_default-read_reads-clause-none c e h =
    let k = distillate_from_entry c.args.bytes.now e h in
    let after = after_stream c.args.bytes.now k c.in-Some.stream c.in-Some.rest.now c.in-Some.ensures.fits c.in-Some.ensures.some in
    c.in_default-read_reads.ensures.none k.reads (listed range k.cut ++ listed point k.added) k.is_distilled.bounded.versions after

pub returns-in_default-2-clause-none : goal.returns-in_default-2-clause-none
returns-in_default-2-clause-none c e h =
    let k = distillate_from_entry c.args.bytes.now e h in
    let change = after_reads c.args.bytes.now k c.in-Some.stream c.in-Some.rest.now c.in-Some-read_reads.reads c.in-Some-read_reads.rest.now c.in-Some.ensures.fits c.in-Some.ensures.some c.in-Some-read_reads.ensures.versions c.in-Some-read_reads.ensures.some in
    (rw c.in_default-2.is at c.in_ok-cut.ensures.none) k.cut k.added change
