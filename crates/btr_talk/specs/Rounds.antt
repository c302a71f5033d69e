-- The rounds of a talk: each is a line, its reply, and the two moments of both.
use Rattle.std.specs.Prelude.{◌≡◌, ℕ, ◌≤◌, List, [], ◌∷◌, ◌++◌, map, length}
use Rattle.std.specs.List.{flat_map}
use Rattle.btr_io.specs.declared.source.Source.{Ghosts as SourceGhosts}
use Rattle.btr_io.specs.declared.sink.Sink.{Ghosts as SinkGhosts}
use Rattle.btr_io.specs.Faults.{CountedTimes}
use Rattle.btr_lines.specs.Lines.{pieces, HasNoFeed}
use Rattle.btr_talk.specs.declared.desk.Desk.{Ghosts as DeskGhosts}

-- A line and its reply. `K` is the sink and `X` the desk.
pub record Round (K X : Type 0) : Type 0 where
  -- The line.
  pub piece : List ℕ
  -- Its reply.
  pub text : List ℕ
  -- The moment when the line was done.
  pub ready : K × X
  -- The moment when its reply had been passed on.
  pub said : K × X

module _ {K X : Type 0} where
  -- The lines of some rounds.
  abbrev pub pieces_of : List (Round K X) → List (List ℕ)
  pieces_of rounds = map (λ (r : Round K X). r.piece) rounds

  -- Their replies.
  abbrev pub texts_of : List (Round K X) → List (List ℕ)
  texts_of rounds = map (λ (r : Round K X). r.text) rounds

  -- All bytes of their replies, in order.
  abbrev pub said_in : List (Round K X) → List ℕ
  said_in rounds = flat_map (λ (r : Round K X). r.text) rounds

  -- Their moments, in order.
  abbrev pub moments_of : List (Round K X) → List (K × X)
  moments_of rounds = flat_map (λ (r : Round K X). r.ready ∷ r.said ∷ []) rounds

  -- The sink after some rounds: as it was when the reply of the last one had been passed on.
  abbrev pub sink_after : K → List (Round K X) → K
  sink_after before [] = before
  sink_after before (r ∷ rounds) = sink_after r.said.0 rounds

-- The desk of each of these moments is that of the moment before it, later; so is the last desk.
abbrev pub GoesThrough : {K X : Type 0} → (X → X → Type 0) → X → List (K × X) → X → Type 0
GoesThrough goes_on begun [] now = goes_on begun now
GoesThrough goes_on begun (moment ∷ moments) now = goes_on begun moment.1 × GoesThrough goes_on moment.1 moments now

module _ {S : Type 0} (source : SourceGhosts S) where
  -- The source has given just these lines since it was `given`, and a part of the next line.
  abbrev pub HasGiven : List (List ℕ) → S → S → Type 0
  HasGiven lines given now =
      (part : List ℕ) × HasNoFeed part × (pieces (source.left given) ≡ lines ++ pieces (part ++ source.left now))

module _ {K X : Type 0} (sink : SinkGhosts K) (desk : DeskGhosts X) where
  -- A line was done after these rounds. At that moment the sink was as those rounds had left it: nothing of the reply was written.
  pub record IsDone (limit : ℕ) (begun : X) (before : K) (rounds : List (Round K X)) (piece text : List ℕ) (ready : K × X) : Type 0 where
    pub within : length piece ≤ limit
    pub unwritten : ready.0 ≡ sink_after before rounds
    pub did : desk.did begun ready.1 (pieces_of rounds ++ piece ∷ []) (texts_of rounds ++ text ∷ [])

  -- A round that follows these rounds. When its line was done, nothing of its reply was written. When its reply had been passed on, just
  -- that had been written since, and nothing else had been done.
  pub record IsRound (limit : ℕ) (begun : X) (before : K) (rounds : List (Round K X)) (r : Round K X) : Type 0 where
    pub done : IsDone limit begun before rounds r.piece r.text r.ready
    pub written : sink.is_observable → sink.written r.said.0 ≡ sink.written r.ready.0 ++ r.text
    pub passed : sink.is_observable → sink.passed_on r.said.0 ≡ sink.written r.said.0
    pub nothing_else : r.said.1 ≡ r.ready.1

module _ {S K X : Type 0} (source : SourceGhosts S) where
  -- A moment right before a call of the source, after as many calls as moments are noted before it. Each line that the source has given by
  -- then is answered, and the answer passed on: the sink is as the rounds of these lines have left it.
  pub record IsAsked (given : S) (before : K) (rounds : List (Round K X)) (earlier : List (S × K)) (moment : S × K) : Type 0 where
    pub counted : CountedTimes (length earlier) (source.calls given) (source.calls moment.0)
    pub answered : List (Round K X)
    pub later : List (Round K X)
    pub split : rounds ≡ answered ++ later
    pub passed : moment.1 ≡ sink_after before answered
    pub lines : source.is_observable → HasGiven source (pieces_of answered) given moment.0
