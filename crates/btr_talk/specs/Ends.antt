-- How a talk ends, and what it promises of its whole course.
use Rattle.std.specs.Prelude.{◌≡◌, ◌⊎◌, ℕ, ◌<◌, ◌≤◌, List, [], ◌∷◌, ◌++◌, length, take}
use Rattle.btr_io.specs.declared.source.Source.{Ghosts as SourceGhosts}
use Rattle.btr_io.specs.declared.sink.Sink.{Ghosts as SinkGhosts}
use Rattle.btr_io.specs.declared.reading.ReadAllFault.{ReadAllFault}
use Rattle.btr_io.specs.declared.reading.ReadAllFault.TheVariants.{Fault, TooLong as LineTooLong, Want}
use Rattle.btr_io.specs.Faults.{CountedTimes, Rose}
use Rattle.btr_lines.specs.Lines.{pieces}
use Rattle.btr_lines.specs.Moments.{EachAfter}
use Rattle.btr_talk.specs.declared.desk.Desk.{Ghosts as DeskGhosts}
use Rattle.btr_talk.specs.declared.turns.TalkEnd.{TalkEnd}
use Rattle.btr_talk.specs.declared.turns.TalkEnd.TheVariants.{Ended, NoSource, TooLong, NoSink, OutOfMemory}
use Rattle.btr_talk.specs.Rounds.{Round, pieces_of, texts_of, said_in, moments_of, sink_after, GoesThrough, HasGiven, IsDone, IsRound, IsAsked}

-- The end of a talk in which no line could be read.
abbrev pub end_of_read : ReadAllFault → TalkEnd
end_of_read Fault = NoSource
end_of_read LineTooLong = TooLong
end_of_read Want = OutOfMemory

module _ {S K X : Type 0} (source : SourceGhosts S) (sink : SinkGhosts K) (desk : DeskGhosts X) where
  -- Each line that was done is answered, and nothing else was written or noted.
  pub record AnswersAll (before after : K) (begun now : X) (rounds : List (Round K X)) (moments : List (K × X)) : Type 0 where
    pub noted : moments ≡ moments_of rounds
    pub passed : after ≡ sink_after before rounds
    pub no_fault : sink.faults after ≡ sink.faults before
    pub did : desk.did begun now (pieces_of rounds) (texts_of rounds)

  -- The input ended, and each of its lines is answered. No call of the source failed.
  pub record EndsInput (given rest : S) (rounds : List (Round K X)) : Type 0 where
    pub lines : source.is_observable → pieces (source.left given) ≡ pieces_of rounds
    pub end : source.is_observable → source.left rest ≡ []
    pub no_fault : source.faults rest ≡ source.faults given

  -- A call of the source failed. Each line that it had given is answered.
  pub record FailsToRead (given rest : S) (rounds : List (Round K X)) : Type 0 where
    pub lines : source.is_observable → HasGiven source (pieces_of rounds) given rest
    pub rose : Rose (source.faults given) (source.faults rest)

  -- The next line has more bytes than the limit.
  abbrev pub MeetsLongLine : ℕ → S → List (Round K X) → Type 0
  MeetsLongLine limit given rounds =
      source.is_observable
      → (line : List ℕ) × (later : List (List ℕ)) × (pieces (source.left given) ≡ pieces_of rounds ++ line ∷ later) × (limit < length line)

  -- The next line after these rounds.
  abbrev pub IsNextLine : S → List (Round K X) → List ℕ → Type 0
  IsNextLine given rounds piece =
      source.is_observable → (later : List (List ℕ)) × (pieces (source.left given) ≡ pieces_of rounds ++ piece ∷ later)

  -- A call of the sink failed. The next line was done, and the sink took a prefix of its reply, or all of it. Nothing was done after it.
  pub record FailsToWrite (limit : ℕ) (given : S) (before after : K) (begun now : X) (rounds : List (Round K X)) (moments : List (K × X))
      : Type 0 where
    pub piece : List ℕ
    pub text : List ℕ
    pub ready : K × X
    pub done : IsDone sink desk limit begun before rounds piece text ready
    pub next : IsNextLine given rounds piece
    pub noted : moments ≡ moments_of rounds ++ ready ∷ []
    pub part : sink.is_observable → (n : ℕ) × (n ≤ length text) × (sink.written after ≡ sink.written ready.0 ++ take n text)
    pub nothing_else : now ≡ ready.1
    pub later : sink.faults before ≤ sink.faults after
    pub rose : Rose (sink.faults before) (sink.faults after)

  -- The next line was done, and its reply is lost.
  pub record LosesReply (given : S) (begun now : X) (rounds : List (Round K X)) : Type 0 where
    pub piece : List ℕ
    pub text : List ℕ
    pub did : desk.did begun now (pieces_of rounds ++ piece ∷ []) (texts_of rounds ++ text ∷ [])
    pub next : IsNextLine given rounds piece

  -- Memory ran out. Nothing was written but the replies of the rounds. The next line was not done, or its reply is lost.
  pub record RunsOut (given : S) (before after : K) (begun now : X) (rounds : List (Round K X)) (moments : List (K × X)) : Type 0 where
    pub noted : moments ≡ moments_of rounds
    pub passed : after ≡ sink_after before rounds
    pub no_fault : sink.faults after ≡ sink.faults before
    pub did : desk.did begun now (pieces_of rounds) (texts_of rounds) ⊎ LosesReply given begun now rounds
    pub first : source.is_observable → (later : List (List ℕ)) × (pieces (source.left given) ≡ pieces_of rounds ++ later)

  -- What is so at each end of a talk, after these rounds.
  abbrev pub EndsBy : TalkEnd → ℕ → S → S → K → K → X → X → List (Round K X) → List (K × X) → Type 0
  EndsBy Ended limit given rest before after begun now rounds moments =
      AnswersAll before after begun now rounds moments × EndsInput given rest rounds
  EndsBy NoSource limit given rest before after begun now rounds moments =
      AnswersAll before after begun now rounds moments × FailsToRead given rest rounds
  EndsBy TooLong limit given rest before after begun now rounds moments =
      AnswersAll before after begun now rounds moments × MeetsLongLine limit given rounds
  EndsBy NoSink limit given rest before after begun now rounds moments = FailsToWrite limit given before after begun now rounds moments
  EndsBy OutOfMemory limit given rest before after begun now rounds moments = RunsOut given before after begun now rounds moments

  -- A talk. There were rounds, one after another, which are the first lines of the input. After some of them the sink has just the
  -- replies of these. The desk of each moment is that of the moment before it, later. Whenever the source was asked for more, each line
  -- that it had given was answered, and each call of the source is among these moments.
  pub record Talks (limit : ℕ) (given rest : S) (before after : K) (begun now : X) (end : TalkEnd) (moments : List (K × X))
      (asked : List (S × K)) : Type 0 where
    pub rounds : List (Round K X)
    pub made : EachAfter (IsRound sink desk limit begun before) rounds
    pub written : sink.is_observable → (first later : List (Round K X)) → rounds ≡ first ++ later
        → sink.written (sink_after before first) ≡ sink.written before ++ said_in first
    pub through : GoesThrough desk.goes_on begun moments now
    pub asks : EachAfter (IsAsked source given before rounds) asked
    pub counted : CountedTimes (length asked) (source.calls given) (source.calls rest)
    pub ended : EndsBy end limit given rest before after begun now rounds moments
