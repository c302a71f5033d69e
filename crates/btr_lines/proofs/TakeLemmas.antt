-- Lemmas on the part of a line that is taken from the bytes that are held.
use Rattle.std.proofs.Common.{◌≡◌, ◌∙◌, sym, ap, subst, ℕ, Err, ◌+◌, ◌-◌, ◌<◌, Bool, true, false, true≢false, ◌==◌, List, [], ◌∷◌, ◌++◌, length, take, drop, Some, None, length-take, append-nil, take-append-drop, get_or-take, drop-drop, eqb-true, arith}
use Rattle.std.proofs.lemmas.Bool.{false_from_ne_true}
use Rattle.std.proofs.lemmas.List.{get_or_default, drop_more, drop-take}
use Rattle.memchr.specs.Find.{IsFirstByte, is_byte}
use Rattle.std.specs.Prelude.{IsErrOf}
use Rattle.btr_lines.specs.Lines.{HasNoFeed}
use Rattle.btr_lines.specs.Held.{ExceedsLimit, Takes}

-- the bytes before the first line feed
before_feed : (held : List ℕ) (n : ℕ) → IsFirstByte (is_byte 10) held (Some n) → HasNoFeed (take n held)
before_feed held n first k d l =
    let inside : k < n = omega (arith, l, length-take n held) in
    let high : n < length held = first.0.high in
    subst (λ b. (b == 10) ≡ false) (get_or_default held k 0 d (omega (arith, inside, high)) ∙ sym (get_or-take n held k d inside))
    (false_from_ne_true _ (λ is. first.0.before k (omega arith) inside is))

-- a line feed that is not found
no_feed : (held : List ℕ) → IsFirstByte (is_byte 10) held None → HasNoFeed held
no_feed held none k d l = subst (λ b. (b == 10) ≡ false) (get_or_default held k 0 d l) (false_from_ne_true _ (λ is. none k (omega arith) l is))

feed_splits : (held : List ℕ) (n : ℕ) → IsFirstByte (is_byte 10) held (Some n) → held ≡ take n held ++ 10 ∷ drop (n + 1) held
feed_splits held n first =
    sym (take-append-drop n held) ∙ ap (λ l. take n held ++ l) (drop_more held n 0 first.0.high ∙ ap (λ b. b ∷ drop (n + 1) held) (eqb-true _ _ first.1))

module _ (buffer : List ℕ) (start end : ℕ) (line longer held : List ℕ) (is : held ≡ take (end - start) (drop start buffer)) where
  after_feed : (n : ℕ) → n < length held → drop (n + 1) held ≡ take (end - (start + (n + 1))) (drop (start + (n + 1)) buffer)
  after_feed n l =
      let within : n < end - start = omega (arith, l, ap length is, length-take (end - start) (drop start buffer)) in
      let split : end - start ≡ (n + 1) + (end - (start + (n + 1))) = omega (arith, within) in
      ap (drop (n + 1)) (is ∙ ap (λ m. take m (drop start buffer)) split) ∙ drop-take (n + 1) (end - (start + (n + 1))) (drop start buffer)
      ∙ ap (take (end - (start + (n + 1)))) (drop-drop (n + 1) start buffer)

  pub takes_line : (n : ℕ) → IsFirstByte (is_byte 10) held (Some n) → longer ≡ line ++ take n held → Takes true line held longer (take (end - (start + (n + 1))) (drop (start + (n + 1)) buffer))
  takes_line n first e = record {
    part = take n held;
    no_feed = before_feed held n first;
    line_is = e;
    held_is = feed_splits held n first ∙ ap (λ l. take n held ++ 10 ∷ l) (after_feed n first.0.high);
    none = λ e. absurd (true≢false e);
  }

  no_more : take (end - end) (drop end buffer) ≡ []
  no_more = let e : end - end ≡ 0 = omega arith in ap (λ m. take m (drop end buffer)) e

  pub takes_all : IsFirstByte (is_byte 10) held None → longer ≡ line ++ held → Takes false line held longer (take (end - end) (drop end buffer))
  takes_all none e = record {
    part = held;
    no_feed = no_feed held none;
    line_is = e;
    held_is = sym (append-nil held);
    none = λ e. no_more;
  }

pub exceeds_line : (limit : ℕ) (line held : List ℕ) (n : ℕ) → IsFirstByte (is_byte 10) held (Some n) → limit < length line + length (take n held) → ExceedsLimit limit line held
exceeds_line limit line held n first long = (take n held, drop n held, before_feed held n first, sym (take-append-drop n held), long)

pub exceeds_all : (limit : ℕ) (line held : List ℕ) → IsFirstByte (is_byte 10) held None → limit < length line + length held → ExceedsLimit limit line held
exceeds_all limit line held none long = (held, [], no_feed held none, sym (append-nil held), long)

-- an error is the same beside any type of values
pub err-same : {T U E : Type 0} (x y : E) → IsErrOf {T = T} (Err x) y → IsErrOf {T = U} (Err x) y
err-same x y e = cc

-- what was taken, if it is known whether a line feed ended it
pub takes_if : {ended is : Bool} {line held longer rest : List ℕ} → ended ≡ is → Takes ended line held longer rest → Takes is line held longer rest
takes_if {line = line} {held = held} {longer = longer} {rest = rest} e t = subst (λ b. Takes b line held longer rest) e t
