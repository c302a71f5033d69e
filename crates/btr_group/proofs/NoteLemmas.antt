-- Lemmas on the notes of settled batches: which one has a ticket.
use Rattle.std.specs.Prelude.{◌≡◌, ℕ, ◌+◌, ◌<◌, ◌≤◌, Bool, true, false, ◌&&◌, nat_le, nat_lt, List, [], ◌∷◌, ◌++◌, length, map, Option, None, Some, option_to_list, if◌then◌else◌}
use Rattle.std.proofs.Common.{zero, suc, refl, sym, ap, ◌∙◌, subst, arith, get_or}
use Rattle.std.proofs.lemmas.Bool.Decides.{nat_tests}
use Rattle.btr_hall.specs.declared.group_answers.Outcome.{Outcome}
use Rattle.btr_hall.specs.declared.group_answers.Known.TheVariants.{NoTicket}
use Rattle.btr_group.specs.declared.group.SettledBatch.{SettledBatch}
use Rattle.btr_group.specs.declared.group.GroupSetting.{GroupSetting}
use Rattle.btr_disk.specs.declared.disk.Disk.{Ghosts}
use Rattle.btr_hall.specs.GroupBook.{BatchValue, SettledValue, Book, tickets_given, Tiles}
use Rattle.btr_group.specs.Known.{has_ticket, outcome_in, known_by, known_of}
use Rattle.btr_group.specs.State.{note_of, StateValue, IsStateAt}
use Rattle.btr_group.specs.Notes.{outcome_noted, known_in, NotesTile}

-- ---- the notes of a book

-- The first ones of batches that tile do so too.
pub tiles_front : (from : ℕ) (settled : List SettledValue) (more : List BatchValue) (to : ℕ) → Tiles from (map (λ (s : SettledValue). s.batch) settled ++ more) to → (mid : ℕ) × NotesTile from (map note_of settled) mid
tiles_front from [] more to tiles = (from, refl)
tiles_front from (s ∷ settled) more to tiles =
    let rest = tiles_front (from + length s.batch.offers) settled more to tiles.2 in
    (rest.0, (tiles.0, tiles.1, rest.1))

pub noted_same : (settled : List SettledValue) (ticket : ℕ) → outcome_noted (map note_of settled) ticket ≡ outcome_in settled ticket
noted_same [] ticket = refl
noted_same (s ∷ settled) ticket = ap (λ (o : Option Outcome). if has_ticket s.batch ticket then Some s.outcome else o) (noted_same settled ticket)

-- ---- the note of a ticket

not_le : (m n : ℕ) → n < m → nat_le m n ≡ false
not_le m n lt = grind (arith, nat_tests)

is_le : (m n : ℕ) → m ≤ n → nat_le m n ≡ true
is_le m n le = grind (arith, nat_tests)

not_lt : (m n : ℕ) → n ≤ m → nat_lt m n ≡ false
not_lt m n le = grind (arith, nat_tests)

and_false : {A : Type 0} (b : Bool) (p q : A) → (if b && false then p else q) ≡ q
and_false true p q = refl
and_false false p q = refl

-- No note that begins after the ticket has it.
pub none_later : (notes : List SettledBatch) (ticket : ℕ) → ((j : ℕ) (d : SettledBatch) → j < length notes → ticket < (get_or notes j d).first) → outcome_noted notes ticket ≡ None
none_later [] ticket later = refl
none_later (note ∷ notes) ticket later =
    let above : ticket < note.first = later 0 note (omega arith) in
    ap (λ (b : Bool). if b && nat_lt ticket (note.first + note.tickets) then Some note.outcome else outcome_noted notes ticket) (not_le note.first ticket above)
    ∙ none_later notes ticket (λ j d lt. later (suc j) d (omega (arith, lt)))

-- If the note at a place is the last one that does not begin after the ticket, no other has the ticket.
pub noted_at : (from : ℕ) (notes : List SettledBatch) (to ticket place : ℕ) → NotesTile from notes to → place < length notes
    → ((j : ℕ) (d : SettledBatch) → j ≤ place → (get_or notes j d).first ≤ ticket) → ((j : ℕ) (d : SettledBatch) → place < j → j < length notes → ticket < (get_or notes j d).first)
    → (d : SettledBatch) → outcome_noted notes ticket ≡ (if nat_lt ticket ((get_or notes place d).first + (get_or notes place d).tickets) then Some (get_or notes place d).outcome else None)
noted_at from [] to ticket place tiles long low high d = absurd (omega (arith, long))
noted_at from (note ∷ notes) to ticket zero tiles long low high d =
    let below : note.first ≤ ticket = low 0 d (omega arith) in
    ap (λ (b : Bool). if b && nat_lt ticket (note.first + note.tickets) then Some note.outcome else outcome_noted notes ticket) (is_le note.first ticket below)
    ∙ ap (λ (o : Option Outcome). if nat_lt ticket (note.first + note.tickets) then Some note.outcome else o) (none_later notes ticket (λ j e lt. high (suc j) e (omega arith) (omega (arith, lt))))
noted_at from (note ∷ []) to ticket (suc place) tiles long low high d = absurd (omega (arith, long))
noted_at from (note ∷ next ∷ notes) to ticket (suc place) tiles long low high d =
    let begun : next.first ≤ ticket = low 1 d (omega arith) in
    let past : nat_lt ticket (note.first + note.tickets) ≡ false = not_lt ticket (note.first + note.tickets) (omega (arith, begun, tiles.0, tiles.2.0)) in
    ap (λ (b : Bool). if nat_le note.first ticket && b then Some note.outcome else outcome_noted (next ∷ notes) ticket) past
    ∙ and_false (nat_le note.first ticket) (Some note.outcome) (outcome_noted (next ∷ notes) ticket)
    ∙ noted_at (from + note.tickets) (next ∷ notes) to ticket place tiles.2 (omega (arith, long)) (λ j e le. low (suc j) e (omega (arith, le))) (λ j e lt long. high (suc j) e (omega (arith, lt)) (omega (arith, long))) d

-- Notes that tile begin in rising order.
pub firsts_rise : (from : ℕ) (notes : List SettledBatch) (to i j : ℕ) (d : SettledBatch) → NotesTile from notes to → i ≤ j → j < length notes → (get_or notes i d).first ≤ (get_or notes j d).first
firsts_rise from [] to i j d tiles le long = absurd (omega (arith, long))
firsts_rise from (note ∷ notes) to zero zero d tiles le long = omega arith
firsts_rise from (note ∷ notes) to zero (suc j) d tiles le long =
    let later = least (from + note.tickets) notes to j d tiles.2 (omega (arith, long)) in
    omega (arith, later, tiles.0)
  where
    least : (from : ℕ) (notes : List SettledBatch) (to j : ℕ) (d : SettledBatch) → NotesTile from notes to → j < length notes → from ≤ (get_or notes j d).first
    least from [] to j d tiles long = absurd (omega (arith, long))
    least from (note ∷ notes) to zero d tiles long = omega (arith, tiles.0)
    least from (note ∷ notes) to (suc j) d tiles long = omega (arith, least (from + note.tickets) notes to j d tiles.2 (omega (arith, long)))
firsts_rise from (note ∷ notes) to (suc i) zero d tiles le long = absurd (omega (arith, le))
firsts_rise from (note ∷ notes) to (suc i) (suc j) d tiles le long = firsts_rise (from + note.tickets) notes to i j d tiles.2 (omega (arith, le)) (omega (arith, long))

-- ---- what a state says of a ticket

module _ {D : Type 0} {disk : Ghosts D} where
  pub known_same : (v : StateValue D disk) (n : ℕ) (b : Book) (x : GroupSetting D disk) (ticket : ℕ) → IsStateAt v n b x → known_in v.settled v.given ticket ≡ known_of b ticket
  known_same v n b x ticket at =
      ap (λ (notes : List SettledBatch). known_in notes v.given ticket) at.settled
      ∙ ap (λ (g : ℕ). known_in (map note_of b.settled) g ticket) at.given
      ∙ ap (λ (o : Option Outcome). if nat_lt ticket (tickets_given b) then known_by o else NoTicket) (noted_same b.settled ticket)

  pub state_tiles : (v : StateValue D disk) (n : ℕ) (b : Book) (x : GroupSetting D disk) → IsStateAt v n b x → (to : ℕ) × NotesTile 0 v.settled to
  state_tiles v n b x at =
      let front = tiles_front 0 b.settled (option_to_list b.out) b.first at.tiles in
      (front.0, subst (λ (notes : List SettledBatch). NotesTile 0 notes front.0) (sym at.settled) front.1)
