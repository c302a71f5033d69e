-- What the private functions promise that look for the note of a ticket.
use Rattle.std.specs.Prelude.{◌≡◌, ℕ, ◌+◌, ◌<◌, Bool, ◌&&◌, nat_le, nat_lt, List, [], ◌∷◌, Option, None, Some, if◌then◌else◌}
use Rattle.btr_hall.specs.declared.group_answers.Outcome.{Outcome}
use Rattle.btr_hall.specs.declared.group_answers.Known.{Known}
use Rattle.btr_hall.specs.declared.group_answers.Known.TheVariants.{NoTicket}
use Rattle.btr_group.specs.declared.group.SettledBatch.{SettledBatch}
use Rattle.btr_group.specs.Known.{known_by}

-- The ticket is one of the batch of a note.
abbrev pub note_has : SettledBatch → ℕ → Bool
note_has note ticket = nat_le note.first ticket && nat_lt ticket (note.first + note.tickets)

-- The outcome of the first note that has the ticket.
abbrev pub outcome_noted : List SettledBatch → ℕ → Option Outcome
outcome_noted [] ticket = None
outcome_noted (note ∷ notes) ticket = if note_has note ticket then Some note.outcome else outcome_noted notes ticket

-- What is known of a ticket, if so many were given.
abbrev pub known_in : List SettledBatch → ℕ → ℕ → Known
known_in notes given ticket = if nat_lt ticket given then known_by (outcome_noted notes ticket) else NoTicket

-- The tickets of the notes, each of which has at least one, are those from one number up to, and without, another, in order.
abbrev pub NotesTile : ℕ → List SettledBatch → ℕ → Type 0
NotesTile from [] to = from ≡ to
NotesTile from (note ∷ notes) to = (note.first ≡ from) × (0 < note.tickets) × NotesTile (from + note.tickets) notes to
