use Rattle.std.proofs.Common.{◌≡◌, ◌++◌, ℕ, ◌==◌, true, length, ap, arith, length-append}
use Rattle.std.proofs.lemmas.Bool.Decides.{nat_tests}
use Rattle.std.specs.Int.{w32}
use Rattle.btr_base.specs.declared.limits.TheConstants.{MAX_COMMIT_POINTS, MAX_COMMIT_RANGES}
use Rattle.btr_entry.specs.Grammar.{number, range, point, listed}
use Rattle.btr_entry.proofs.NumberLemmas.{wide32}
use Rattle.btr_entry.proofs.ChangeLemmas.{change_once}
use Rattle.btr_entry.proofs.SpellingLemmas.{commit_from_entry, after_commit_stream}
use Rattle.btr_entry.proofs.decoding.read_commit.Goals as goal

pub returns-in_default-clause-none : goal.returns-in_default-clause-none
returns-in_default-clause-none c e h =
    let k = commit_from_entry c.args.bytes.now e h in
    omega (arith, c.in_default.ensures.none, ap (length {A = ℕ}) k.parts, length-append (number w32 k.stream) (listed range k.cut ++ listed point k.added), wide32.len k.stream)

pub returns-in_default-change-clause-none : goal.returns-in_default-change-clause-none
returns-in_default-change-clause-none c e h =
    let k = commit_from_entry c.args.bytes.now e h in
    let change = after_commit_stream c.args.bytes.now k c.in-Some.stream c.in-Some.rest.now c.in-Some.ensures.fits c.in-Some.ensures.some in
    (rw c.in_default-change.is at c.in_ok-change.ensures.none) k.cut k.added change

none : (n : ℕ) → true ≡ (n == 0) → n ≡ 0
none n h = grind (arith, nat_tests)

pub returns-then-is_empty-2-clause-none : goal.returns-then-is_empty-2-clause-none
returns-then-is_empty-2-clause-none c e h =
    let k = commit_from_entry c.args.bytes.now e h in
    let change = after_commit_stream c.args.bytes.now k c.in-Some.stream c.in-Some.rest.now c.in-Some.ensures.fits c.in-Some.ensures.some in
    let found = rw c.in-Some-change.is at c.in_ok-change.ensures.found in
    let once = change_once MAX_COMMIT_RANGES MAX_COMMIT_POINTS (omega arith) (omega arith) c.in-Some.rest.now k.cut c.in-Some-change.cut k.added c.in-Some-change.added change found in
    let no_ranges = none _ c.if-is_empty.ensures in
    let no_points = none _ c.if-is_empty-2.ensures in
    omega (arith, k.is_commit.bounded.some, ap length once.0, ap length once.1, no_ranges, no_points, ap length c.as_slice.ensures.ranges, ap length c.as_slice-then-is_empty.ensures.points)
