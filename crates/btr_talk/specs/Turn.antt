-- A talk that goes on: what is so between two turns.
use Rattle.std.specs.Prelude.{◌≡◌, ℕ, Bool, true, false, List, ◌++◌, length, Result, Ok, Err}
use Rattle.btr_io.specs.declared.source.Source.{Ghosts as SourceGhosts}
use Rattle.btr_io.specs.declared.sink.Sink.{Ghosts as SinkGhosts}
use Rattle.btr_io.specs.Faults.{CountedTimes}
use Rattle.btr_lines.specs.Lines.{pieces}
use Rattle.btr_lines.specs.Moments.{EachAfter}
use Rattle.btr_talk.specs.declared.desk.Desk.{Ghosts as DeskGhosts}
use Rattle.btr_talk.specs.declared.turns.TalkEnd.{TalkEnd}
use Rattle.btr_talk.specs.declared.turns.Turns.{Turns}
use Rattle.btr_talk.specs.declared.turns.TalkEnd.TheVariants.{Ended}
use Rattle.btr_talk.specs.Rounds.{Round, pieces_of, GoesThrough, IsRound, IsAsked}
use Rattle.btr_talk.specs.Ends.{AnswersAll, Talks}

module _ {S K X : Type 0} (source : SourceGhosts S) (sink : SinkGhosts K) (desk : DeskGhosts X) where
  -- The rounds so far, and the lines that are ahead.
  pub record GoesOn (limit : ℕ) (given : S) (before : K) (begun : X) (now : S) (after : K) (here : X) (ahead : List (List ℕ))
      (moments : List (K × X)) (asked : List (S × K)) : Type 0 where
    pub rounds : List (Round K X)
    pub made : EachAfter (IsRound sink desk limit begun before) rounds
    pub asks : EachAfter (IsAsked source given before rounds) asked
    pub counted : CountedTimes (length asked) (source.calls given) (source.calls now)
    pub answers : AnswersAll source sink desk before after begun here rounds moments
    pub through : GoesThrough desk.goes_on begun moments here
    pub lines : source.is_observable → pieces (source.left given) ≡ pieces_of rounds ++ ahead

  -- A talk between two turns. The lines that are ahead are those of the bytes that are held and of what the source has left.
  pub record Talking (limit : ℕ) (given : S) (before : K) (begun : X) (now : S) (after : K) (here : X) (held : List ℕ)
      (moments : List (K × X)) (asked : List (S × K)) : Type 0 where
    pub goes : GoesOn limit given before begun now after here (pieces (held ++ source.left now)) moments asked
    pub no_fault : source.faults now ≡ source.faults given

  -- A turn, by its result: the talk goes on, or it has ended.
  abbrev pub Turned : ℕ → S → K → X → S → K → X → List ℕ → List (K × X) → List (S × K) → Result Bool TalkEnd → Type 0
  Turned limit given before begun now after here held moments asked (Ok true) =
      Talking limit given before begun now after here held moments asked
  Turned limit given before begun now after here held moments asked (Ok false) =
      Talks source sink desk limit given now before after begun here Ended moments asked
  Turned limit given before begun now after here held moments asked (Err end) =
      Talks source sink desk limit given now before after begun here end moments asked

  -- One turn, whatever the talk was before it.
  abbrev pub TakesTurn : ℕ → S → S → K → K → X → X → Turns S K X → Turns S K X → Result Bool TalkEnd → Type 0
  TakesTurn limit source_old source_new sink_old sink_new desk_old desk_new old new result =
      (given : S) (before : K) (begun : X)
      → Talking limit given before begun source_old sink_old desk_old old.lines old.moments.items old.asked.items
      → Turned limit given before begun source_new sink_new desk_new new.lines new.moments.items new.asked.items result
