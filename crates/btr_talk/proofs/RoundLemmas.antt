-- Lemmas on the rounds of a talk.
use Rattle.std.proofs.Common.{◌≡◌, ◌∙◌, refl, sym, ap, subst, ℕ, List, [], ◌∷◌, ◌++◌, append_assoc, append-nil}
use Rattle.std.proofs.lemmas.List.{map-append}
use Rattle.std.proofs.lemmas.List.Concat.{flat_map-append}
use Rattle.btr_io.specs.declared.sink.Sink.{Ghosts as SinkGhosts}
use Rattle.btr_lines.specs.Moments.{EachAfter}
use Rattle.btr_talk.specs.declared.desk.Desk.{Ghosts as DeskGhosts}
use Rattle.btr_talk.specs.Rounds.{Round, pieces_of, texts_of, said_in, moments_of, sink_after, GoesThrough, IsRound}

module _ {K X : Type 0} (rounds : List (Round K X)) (r : Round K X) where
  -- one round more
  pub pieces_of-push : pieces_of (rounds ++ r ∷ []) ≡ pieces_of rounds ++ r.piece ∷ []
  pieces_of-push = map-append (λ (s : Round K X). s.piece) rounds (r ∷ [])

  pub texts_of-push : texts_of (rounds ++ r ∷ []) ≡ texts_of rounds ++ r.text ∷ []
  texts_of-push = map-append (λ (s : Round K X). s.text) rounds (r ∷ [])

  pub said_in-push : said_in (rounds ++ r ∷ []) ≡ said_in rounds ++ r.text
  said_in-push = flat_map-append (λ (s : Round K X). s.text) rounds (r ∷ []) ∙ ap (λ b. said_in rounds ++ b) (append-nil r.text)

  pub moments_of-push : moments_of (rounds ++ r ∷ []) ≡ moments_of rounds ++ r.ready ∷ r.said ∷ []
  moments_of-push = flat_map-append (λ (s : Round K X). s.ready ∷ s.said ∷ []) rounds (r ∷ [])

module _ {K X : Type 0} (goes_on : X → X → Type 0) (stays : (d : X) → goes_on d d) (then : (old mid new : X) → goes_on old mid → goes_on mid new → goes_on old new) where
  -- the last desk is later
  pub through-later : (begun : X) (moments : List (K × X)) (here there : X) → GoesThrough goes_on begun moments here → goes_on here there → GoesThrough goes_on begun moments there
  through-later begun [] here there through goes = then begun here there through goes
  through-later begun (moment ∷ moments) here there through goes = (through.0, through-later moment.1 moments here there through.1 goes)

  -- one moment more, of the last desk, later
  pub through-push : (begun : X) (moments : List (K × X)) (k : K) (here there : X) → GoesThrough goes_on begun moments here → goes_on here there → GoesThrough goes_on begun (moments ++ (k, there) ∷ []) there
  through-push begun [] k here there through goes = (then begun here there through goes, stays there)
  through-push begun (moment ∷ moments) k here there through goes = (through.0, through-push moment.1 moments k here there through.1 goes)

  -- two moments more, of the same desk
  pub through-push-two : (begun : X) (moments : List (K × X)) (k l : K) (here there : X) → GoesThrough goes_on begun moments here → goes_on here there → GoesThrough goes_on begun (moments ++ (k, there) ∷ (l, there) ∷ []) there
  through-push-two begun [] k l here there through goes = (then begun here there through goes, (stays there, stays there))
  through-push-two begun (moment ∷ moments) k l here there through goes = (through.0, through-push-two moment.1 moments k l here there through.1 goes)

pub sink_after-push : {K X : Type 0} (before : K) (rounds : List (Round K X)) (r : Round K X) → sink_after before (rounds ++ r ∷ []) ≡ r.said.0
sink_after-push before [] r = refl
sink_after-push before (s ∷ rounds) r = sink_after-push s.said.0 rounds r

module _ {K X : Type 0} (sink : SinkGhosts K) (desk : DeskGhosts X) (limit : ℕ) (begun : X) (before : K) (observable : sink.is_observable) where
  -- the sink has just the replies of these rounds
  abbrev HasSaid : List (Round K X) → Type 0
  HasSaid rounds = sink.written (sink_after before rounds) ≡ sink.written before ++ said_in rounds

  one_more : (rounds : List (Round K X)) (r : Round K X) → IsRound sink desk limit begun before rounds r → HasSaid rounds → HasSaid (rounds ++ r ∷ [])
  one_more rounds r round said =
      ap (λ k. sink.written k) (sink_after-push before rounds r) ∙ round.written observable ∙ ap (λ k. sink.written k ++ r.text) round.done.unwritten
      ∙ ap (λ b. b ++ r.text) said ∙ append_assoc (sink.written before) (said_in rounds) r.text ∙ ap (λ b. sink.written before ++ b) (sym (said_in-push rounds r))

  more_said : (all rounds more later : List (Round K X)) → EachAfter (IsRound sink desk limit begun before) all → all ≡ rounds ++ (more ++ later) → HasSaid rounds → HasSaid (rounds ++ more)
  more_said all rounds [] later each e said = subst HasSaid (sym (append-nil rounds)) said
  more_said all rounds (r ∷ more) later each e said =
      subst HasSaid (append_assoc rounds (r ∷ []) more)
      (more_said all (rounds ++ r ∷ []) more later each (e ∙ sym (append_assoc rounds (r ∷ []) (more ++ later))) (one_more rounds r (each rounds r (more ++ later) e) said))

  -- after some of the rounds the sink has just the replies of these
  pub has_said : (all first later : List (Round K X)) → EachAfter (IsRound sink desk limit begun before) all → all ≡ first ++ later → HasSaid first
  has_said all first later each e = more_said all [] first later each e (sym (append-nil (sink.written before)))
