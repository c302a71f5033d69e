use Rattle.std.specs.Prelude.{◌≡◌, ℕ, ◌+◌, ◌<◌, ◌≤◌, Bool, true, false, nat_le, nat_lt, List, length, Option, Some, None, if◌then◌else◌}
use Rattle.std.specs.List.Sorted.{IsPartitionedBy, IsPartitionPoint}
use Rattle.std.proofs.Common.{◌∙◌, ◌-◌, sym, ap, subst, arith, get_or, rules}
use Rattle.std.proofs.lemmas.List.Sorted.{IsPartitionPoint-from_clause}
use Rattle.std.proofs.lemmas.Bool.Decides.{nat_tests}
use Rattle.btr_hall.specs.declared.group_answers.Outcome.{Outcome}
use Rattle.btr_group.specs.declared.group.SettledBatch.{SettledBatch}
use Rattle.btr_group.specs.Notes.{outcome_noted, NotesTile}
use Rattle.btr_group.proofs.NoteLemmas.{none_later, noted_at, firsts_rise}
use Rattle.btr_group.proofs.outcome.outcome_at.Goals.{After-partition_point-end}
use Rattle.btr_group.proofs.outcome.outcome_at.Goals as goal

le_true : (a b t : ℕ) → a ≤ b → nat_le b t ≡ true → nat_le a t ≡ true
le_true a b t le is = grind (arith, nat_tests)

is_below : (a t : ℕ) → nat_le a t ≡ true → a ≤ t
is_below a t is = grind (arith, nat_tests)

is_above : (a t : ℕ) → nat_le a t ≡ false → t < a
is_above a t is = grind (arith, nat_tests)

lt_is : (a b : ℕ) → a < b → nat_lt a b ≡ true
lt_is a b lt = grind (arith, nat_tests)

not_lt : (a b : ℕ) → b ≤ a → nat_lt a b ≡ false
not_lt a b le = grind (arith, nat_tests)

-- notes that tile are parted at each ticket
parted : (notes : List SettledBatch) (to ticket : ℕ) → NotesTile 0 notes to → IsPartitionedBy (λ (n : SettledBatch). nat_le n.first ticket) notes
parted notes to ticket tiles i j d le lt is =
    le_true (get_or notes i d).first (get_or notes j d).first ticket (firsts_rise 0 notes to i j d tiles le lt) is

-- the place from which on notes begin after the ticket
its_place : (c : After-partition_point-end) (to : ℕ) → NotesTile 0 c.args.notes.now to → IsPartitionPoint (λ (n : SettledBatch). nat_le n.first c.args.ticket ≡ true) (λ (n : SettledBatch). nat_le n.first c.args.ticket ≡ false) c.args.notes.now c.partition_point-end.result
its_place c to tiles =
    IsPartitionPoint-from_clause (λ (n : SettledBatch). nat_le n.first c.args.ticket) c.args.notes.now c.partition_point-end.result c.partition_point-end.ensures.partitioned (parted c.args.notes.now to c.args.ticket tiles) (λ a q k e. search rules)

-- the outcome of a note that has the ticket
abbrev outcome_by : SettledBatch → ℕ → Option Outcome
outcome_by n ticket = if nat_lt ticket (n.first + n.tickets) then Some n.outcome else None

-- what is noted is what the last of the others has
by_last : (notes : List SettledBatch) (to ticket place : ℕ) (n : SettledBatch) → NotesTile 0 notes to → (place ≡ 0 → ⊥) → place ≤ length notes → n ≡ get_or notes (place - 1) n
    → IsPartitionPoint (λ (m : SettledBatch). nat_le m.first ticket ≡ true) (λ (m : SettledBatch). nat_le m.first ticket ≡ false) notes place → outcome_noted notes ticket ≡ outcome_by n ticket
by_last notes to ticket place n tiles some bound is point =
    noted_at 0 notes to ticket (place - 1) tiles (omega arith) (λ j d le. is_below (get_or notes j d).first ticket (point.0 j d (omega arith) (omega (arith, le))))
    (λ j d lt long. is_above (get_or notes j d).first ticket (point.1 j d (omega (arith, lt)) long)) n
    ∙ ap (λ (m : SettledBatch). outcome_by m ticket) (sym is)

-- the last of the others does not begin after the ticket
its_first : (notes : List SettledBatch) (ticket place : ℕ) (n : SettledBatch) → (place ≡ 0 → ⊥) → n ≡ get_or notes (place - 1) n
    → IsPartitionPoint (λ (m : SettledBatch). nat_le m.first ticket ≡ true) (λ (m : SettledBatch). nat_le m.first ticket ≡ false) notes place → n.first ≤ ticket
its_first notes ticket place n some is point =
    let le = is_below (get_or notes (place - 1) n).first ticket (point.0 (place - 1) n (omega arith) (omega arith)) in
    subst (λ (m : SettledBatch). m.first ≤ ticket) (sym is) le

pub returns-then-end-eq0 : goal.returns-then-end-eq0
returns-then-end-eq0 c = λ to tiles.
    let point = its_place (goal.at.returns-then-end-eq0 c).After-partition_point-end to tiles in
    sym (none_later c.args.notes.now c.args.ticket (λ j d lt. is_above (get_or c.args.notes.now j d).first c.args.ticket (point.1 j d (omega (arith, c.if-end-eq0.true)) lt)))

pub returns-then-saturating_sub-note : goal.returns-then-saturating_sub-note
returns-then-saturating_sub-note c = λ to tiles.
    let n = c.index-notes-end.result in
    let ticket = c.args.ticket in
    let point = its_place (goal.at.returns-then-saturating_sub-note c).After-partition_point-end to tiles in
    let first = its_first c.args.notes.now ticket c.partition_point-end.result n c.if-end-eq0.false c.index-notes-end.is point in
    let within : ticket < n.first + n.tickets = omega (arith, first, c.saturating_sub.ensures, c.if-saturating_sub-note.true) in
    sym (by_last c.args.notes.now to ticket c.partition_point-end.result n tiles c.if-end-eq0.false c.partition_point-end.ensures.bound c.index-notes-end.is point
    ∙ ap (λ (b : Bool). if b then Some n.outcome else None) (lt_is ticket (n.first + n.tickets) within))

pub returns-else-saturating_sub-note : goal.returns-else-saturating_sub-note
returns-else-saturating_sub-note c = λ to tiles.
    let n = c.index-notes-end.result in
    let ticket = c.args.ticket in
    let point = its_place (goal.at.returns-else-saturating_sub-note c).After-partition_point-end to tiles in
    let first = its_first c.args.notes.now ticket c.partition_point-end.result n c.if-end-eq0.false c.index-notes-end.is point in
    let past : n.first + n.tickets ≤ ticket = omega (arith, first, c.saturating_sub.ensures, c.if-saturating_sub-note.false) in
    sym (by_last c.args.notes.now to ticket c.partition_point-end.result n tiles c.if-end-eq0.false c.partition_point-end.ensures.bound c.index-notes-end.is point
    ∙ ap (λ (b : Bool). if b then Some n.outcome else None) (not_lt ticket (n.first + n.tickets) past))
