-- What is known of a ticket after a list.
use Rattle.std.specs.Prelude.{ℕ, ◌+◌, Bool, ◌&&◌, nat_le, nat_lt, List, [], ◌∷◌, length, Option, None, Some, if◌then◌else◌}
use Rattle.btr_hall.specs.declared.group_answers.Outcome.{Outcome}
use Rattle.btr_hall.specs.declared.group_answers.Known.{Known}
use Rattle.btr_hall.specs.declared.group_answers.Known.TheVariants.{NoTicket, Unsettled, Settled}
use Rattle.btr_hall.specs.GroupBook.{BatchValue, SettledValue, Book, tickets_given}

-- The ticket is one of the batch.
abbrev pub has_ticket : BatchValue → ℕ → Bool
has_ticket batch ticket = nat_le batch.first ticket && nat_lt ticket (batch.first + length batch.offers)

-- The outcome of the first batch that has the ticket.
abbrev pub outcome_in : List SettledValue → ℕ → Option Outcome
outcome_in [] ticket = None
outcome_in (s ∷ settled) ticket = if has_ticket s.batch ticket then Some s.outcome else outcome_in settled ticket

-- What is known of a ticket that was given.
abbrev pub known_by : Option Outcome → Known
known_by None = Unsettled
known_by (Some outcome) = Settled outcome

-- What is known of a ticket.
abbrev pub known_of : Book → ℕ → Known
known_of b ticket = if nat_lt ticket (tickets_given b) then known_by (outcome_in b.settled ticket) else NoTicket
