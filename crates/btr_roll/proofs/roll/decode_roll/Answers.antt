use Rattle.std.proofs.Common.{◌≡◌, sym, ◌∙◌, subst, rules}
use Rattle.btr_roll.specs.Roll.{KeepsTable}
use Rattle.btr_roll.proofs.RollLemmas.{roll_once}
use Rattle.btr_roll.proofs.roll.decode_roll.Goals as goal

pub returns-then-not-branch-clause-none : goal.returns-then-not-branch-clause-none
returns-then-not-branch-clause-none c roll h =
    let streams = c.in-Some.streams.items in
    let fits = rw c.in-Some.is at c.in_ok-streams.ensures.fits in
    let found = rw c.in-Some.is at c.in_ok-streams.ensures.found in
    let same : roll ≡ streams = roll_once c.args.format roll streams h.is_roll.fits fits (sym h.bytes_are ∙ found) in
    let keeps : KeepsTable streams = subst KeepsTable same h.is_roll.table in
    search rules
