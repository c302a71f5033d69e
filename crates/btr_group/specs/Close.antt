-- What the close of a group promises: what is left of it, and which entries its session made.
use Rattle.std.specs.Prelude.{◌≡◌, ℕ, ◌+◌, List, [], ◌∷◌, ◌++◌, length, map, None}
use Rattle.btr_disk.specs.declared.disk.Disk.{Ghosts}
use Rattle.btr_hist.specs.declared.entry.Entry.{Entry}
use Rattle.btr_engine.specs.declared.engine.Engine.{Engine}
use Rattle.btr_engine.specs.Engine.{IsEngineOf}
use Rattle.btr_engine.specs.declared.step.StepFault.TheVariants.{DeviceFault}
use Rattle.btr_gate.specs.Prefixes.{StartsWith}
use Rattle.btr_gate.specs.Numbers.{Climbs}
use Rattle.btr_hall.specs.declared.item.Item.{Item}
use Rattle.btr_hall.specs.declared.item.Item.TheVariants.{Added, Halted}
use Rattle.btr_hall.specs.declared.session.Hall.{Hall}
use Rattle.btr_hall.specs.declared.session.Session.{Session}
use Rattle.btr_hall.specs.Session.{IsSessionOf, IsSame, opening_of, seen_of, mine_of}
use Rattle.btr_hall.specs.Commit.{shown}
use Rattle.btr_hall.specs.declared.group_answers.Outcome.{Outcome}
use Rattle.btr_hall.specs.declared.group_answers.Outcome.TheVariants.{Stored, Refused}
use Rattle.btr_group.specs.declared.group.Closed.{Closed}
use Rattle.btr_hall.specs.GroupBook.{BatchValue, SettledValue, Book, open_points, Tiles}
use Rattle.btr_group.specs.Serves.{entry_of_batch}
use Rattle.btr_group.specs.State.{note_of}

module _ {D : Type 0} {disk : Ghosts D} where
  -- What is left of a group whose list comes to b: no batch is out, and each ticket is in one settled batch or in the open one, whose
  -- points are left.
  pub record ClosesGroup (b : Book) (closed : Closed D disk) : Type 0 where
    pub home : b.out ≡ None
    pub batches : closed.batches.items ≡ map note_of b.settled
    pub left : closed.left.items ≡ open_points b
    pub tiles : Tiles 0 (map (λ (s : SettledValue). s.batch) b.settled) b.first

  -- The item stands in the list at this number, from 1 on.
  abbrev pub StandsAt : ℕ → Item D disk → List (Item D disk) → Type 0
  StandsAt n item l =
      (before : List (Item D disk)) × (after : List (Item D disk)) × (l ≡ before ++ item ∷ after) × (n ≡ length before + 1)

  -- A batch made an entry, whose number is the first of these, if it was stored, and a halt, if the device failed; else it made nothing.
  -- The property holds of the other numbers.
  abbrev pub MakesOne : ℕ → List (Item D disk) → BatchValue → Outcome → List ℕ → (List ℕ → Type 0) → Type 0
  MakesOne stream seen batch (Stored receipt) own Others =
      (others : List ℕ) × (engine : Engine D disk) × (own ≡ receipt.number ∷ others)
      × StandsAt receipt.number (Added (shown (entry_of_batch stream batch)) (shown engine)) seen × Others others
  MakesOne stream seen batch (Refused DeviceFault) own Others =
      (number : ℕ) × (others : List ℕ) × (engine : Engine D disk) × (own ≡ number ∷ others)
      × StandsAt number (Halted (shown (entry_of_batch stream batch)) (shown engine)) seen × Others others
  MakesOne stream seen batch (Refused fault) own Others = Others own

  -- These are the numbers of what the batches made, in order.
  abbrev pub MakesEach : ℕ → List (Item D disk) → List SettledValue → List ℕ → Type 0
  MakesEach stream seen [] own = own ≡ []
  MakesEach stream seen (b ∷ bs) own = MakesOne stream seen b.batch b.outcome own (MakesEach stream seen bs)

  -- The second session is one of each hall of which the first is one, and its share and its start are those of the first.
  pub record ComesBack (s t : Session D disk) : Type 0 where
    pub same : IsSame s t
    pub session : (hall : Hall D disk) → IsSessionOf hall s → IsSessionOf hall t

  -- The second session is the first one after the commits of these batches. The items that are its own since then are just those that the
  -- batches made, in order, and no two have one number.
  pub record HasCommittedEach (stream : ℕ) (s : Session D disk) (settled : List SettledValue) (t : Session D disk) : Type 0 where
    pub grows : StartsWith (seen_of t) (seen_of s)
    pub own : List ℕ
    pub mine : mine_of t ≡ mine_of s ++ own
    pub climbs : Climbs (length (seen_of s)) own (length (seen_of t))
    pub made : MakesEach stream (seen_of t) settled own

  -- This holds in the hall of the session, if it is one of an engine of a history.
  abbrev pub CommitsInHalls : ℕ → Session D disk → List SettledValue → Session D disk → Type 0
  CommitsInHalls stream s settled t =
      (hall : Hall D disk) (h : List Entry) → IsSessionOf hall s → IsEngineOf h (opening_of hall) → HasCommittedEach stream s settled t
