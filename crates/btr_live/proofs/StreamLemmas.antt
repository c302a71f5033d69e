-- Streams of longer histories: what is found by an id stays.
use Rattle.std.specs.Prelude.{◌≡◌, ℕ, ◌+◌, Bool, true, false, nat_eq, List, [], ◌∷◌, ◌++◌, cond, Some}
use Rattle.std.specs.List.{position_from}
use Rattle.std.proofs.Common.{ap, ◌∙◌}
use Rattle.btr_hist.specs.declared.entry.Entry.{Entry}
use Rattle.btr_hist.specs.History.{ids, stream_of, is_output}
use Rattle.btr_hist.proofs.HistoryLemmas.{ids-append, is_output-append}
use Rattle.btr_engine.proofs.EngineLemmas.{known_below}
use Rattle.btr_gate.specs.Prefixes.{StartsWith}

position-append : (f : ℕ → Bool) (i : ℕ) (xs ys : List ℕ) (n : ℕ) → position_from f i xs ≡ Some n → position_from f i (xs ++ ys) ≡ Some n
position-append f i [] ys n is = absurd (cc)
position-append f i (x ∷ xs) ys n is =
    elim (f x) as (λ t. cond t (Some i) (position_from f (i + 1) xs) ≡ Some n → cond t (Some i) (position_from f (i + 1) (xs ++ ys)) ≡ Some n) [
      | true ↦ λ e. e
      | false ↦ λ e. position-append f (i + 1) xs ys n e
    ] is

pub stream_of-longer : (a h : List Entry) (id stream : ℕ) → StartsWith a h → stream_of h id ≡ Some stream → stream_of a id ≡ Some stream
stream_of-longer a h id stream starts is =
    let more : List Entry = starts.0 in
    ap (λ (l : List Entry). stream_of l id) starts.1
    ∙ ap (λ (l : List ℕ). position_from (nat_eq id) 0 l) (ids-append h more)
    ∙ position-append (nat_eq id) 0 (ids h) (ids more) stream is

pub is_output-longer : (a h : List Entry) (id stream : ℕ) → StartsWith a h → stream_of h id ≡ Some stream → is_output a stream ≡ is_output h stream
is_output-longer a h id stream starts is =
    ap (λ (l : List Entry). is_output l stream) starts.1 ∙ is_output-append h starts.0 stream (known_below h id stream is)
