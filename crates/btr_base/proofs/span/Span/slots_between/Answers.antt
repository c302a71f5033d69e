use Rattle.std.proofs.Common.{◌+◌, ◌≤◌, inl, inr, arith, rules}
use Rattle.std.proofs.lemmas.Int.{ints}
use Rattle.std.proofs.lemmas.Bool.{cases_lt}
use Rattle.btr_base.proofs.span.Span.slots_between.Goals as goal

pub returns : goal.returns
returns c =
    let first = c.first_slot.ensures in
    let last = c.last_slot.ensures in
    let order : c.first_slot.result ≤ c.last_slot.result =
    elim (cases_lt c.last_slot.result c.first_slot.result) [
      | inl low ↦
          let ended = first.before c.last_slot.result low in
          let begun = last.behind (c.last_slot.result + 1) (omega arith) (let place = first.place in omega arith) in
          let some = c.requires.some in
          absurd (omega (arith, ints))
      | inr high ↦ high
    ] in
    record { order = order; place = search rules; before = search rules; first = search rules; last = search rules; behind = search rules }
