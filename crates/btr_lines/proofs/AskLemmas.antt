-- Lemmas on the reading of a line, between the calls of the source.
use Rattle.std.proofs.Common.{◌≡◌, ◌∙◌, refl, sym, ap, subst, ℕ, ◌+◌, ◌≤◌, Bool, true, false, true≢false, List, [], ◌∷◌, ◌++◌, length, Contains, length-append, append_assoc, append-nil, arith}
use Rattle.btr_io.specs.declared.source.Source.{Ghosts}
use Rattle.btr_io.specs.Faults.{CountedTimes}
use Rattle.btr_lines.proofs.EachLemmas.{each_after-none, each_after-push}
use Rattle.btr_lines.specs.Lines.{Asks, HasNoFeed, IsAskedAt, IsFirstLine, IsFirstTooLong, pieces}
use Rattle.btr_lines.specs.Held.{ExceedsLimit, Takes}
use Rattle.btr_lines.proofs.LineLemmas.{no_feed-none, no_feed-append, no_feed-front, no_feed-back, feed_is_found, pieces-one, pieces-first, first_too_long}

-- one more call is counted
pub counted-more : (n a b c : ℕ) → CountedTimes n a b → CountedTimes 1 b c → CountedTimes (n + 1) a c
counted-more n a b c h k = record { rose = omega (arith, h.rose, k.rose, h.exact, k.exact); exact = omega (arith, h.exact, k.exact) }

module _ {S B : Type 0} (source : Ghosts S) where
  -- The line so far, the bytes that are held and what the source has left, in the reading of a line.
  pub record Reading (limit : ℕ) (held : List ℕ) (given : S) (beside : B) (before : List (S × B)) (line rest : List ℕ) (now : S) (asked : List (S × B)) : Type 0 where
    pub part : List ℕ
    pub split : line ++ rest ≡ held ++ part
    pub left : source.is_observable → source.left given ≡ part ++ source.left now
    pub no_feed : HasNoFeed line
    pub within : length line ≤ limit
    pub asks : Asks source held given now beside before asked
    pub uncalled : Contains held 10 → now ≡ given
    pub quiet : source.faults now ≡ source.faults given

  module _ {limit : ℕ} {held : List ℕ} {given : S} {beside : B} {before : List (S × B)} where
    pub begins : Reading limit held given beside before [] held given before
    begins = record {
      part = [];
      split = sym (append-nil held);
      left = λ t. refl;
      no_feed = no_feed-none;
      within = omega arith;
      asks = record {
        moments = [];
        noted = sym (append-nil before);
        counted = record { rose = omega arith; exact = omega arith };
        each = each_after-none (IsAskedAt source held given beside);
      };
      uncalled = λ c. refl;
      quiet = refl;
    }

    module _ {line rest : List ℕ} {now : S} {asked : List (S × B)} (reading : Reading limit held given beside before line rest now asked) where
      -- all bytes are in the line, held, or left
      whole : source.is_observable → held ++ source.left given ≡ line ++ (rest ++ source.left now)
      whole t =
          ap (λ l. held ++ l) (reading.left t) ∙ sym (append_assoc held reading.part (source.left now))
          ∙ ap (λ l. l ++ source.left now) (sym reading.split) ∙ append_assoc line rest (source.left now)

      longer_no_feed : {ended : Bool} {longer after : List ℕ} → Takes ended line rest longer after → HasNoFeed longer
      longer_no_feed t = subst HasNoFeed (sym t.line_is) (no_feed-append line t.part reading.no_feed t.no_feed)

      -- a line feed was held
      pub ends_line : {longer after : List ℕ} → Takes true line rest longer after → source.is_observable → IsFirstLine true longer (held ++ source.left given) (after ++ source.left now)
      ends_line {longer} {after} t o =
          let l = source.left now in
          let is : held ++ source.left given ≡ longer ++ (10 ∷ (after ++ l)) =
          whole o ∙ ap (λ xs. line ++ (xs ++ l)) t.held_is ∙ ap (λ xs. line ++ xs) (append_assoc t.part (10 ∷ after) l)
          ∙ sym (append_assoc line t.part ((10 ∷ after) ++ l)) ∙ ap (λ xs. xs ++ ((10 ∷ after) ++ l)) (sym t.line_is) in
          record {
            first = ap pieces is ∙ pieces-first longer (after ++ l) (longer_no_feed t);
            end = λ e. absurd (true≢false e);
          }

      pub exceeds : ExceedsLimit limit line rest → source.is_observable → IsFirstTooLong limit (held ++ source.left given)
      exceeds (part, after, clear, is, long) o =
          let l = source.left now in
          first_too_long limit (line ++ part) (after ++ l) (held ++ source.left given) (no_feed-append line part reading.no_feed clear)
          (whole o ∙ ap (λ xs. line ++ (xs ++ l)) is ∙ ap (λ xs. line ++ xs) (append_assoc part after l) ∙ sym (append_assoc line part (after ++ l)))
          (omega (arith, long, length-append line part))

      -- no line feed was held, so all that was held is in the line
      module _ {longer after : List ℕ} (t : Takes false line rest longer after) where
        all_taken : longer ≡ line ++ rest
        all_taken = t.line_is ∙ ap (λ l. line ++ l) (sym (t.held_is ∙ append-nil t.part))

        whole_left : source.is_observable → held ++ source.left given ≡ longer ++ source.left now
        whole_left o = whole o ∙ sym (append_assoc line rest (source.left now)) ∙ ap (λ l. l ++ source.left now) (sym all_taken)

        no_feed_yet : HasNoFeed (held ++ reading.part)
        no_feed_yet = subst HasNoFeed (all_taken ∙ reading.split) (longer_no_feed t)

        asked_at : IsAskedAt source held given beside reading.asks.moments (now, beside)
        asked_at = record {
          counted = reading.asks.counted;
          same = refl;
          no_line = no_feed-front held reading.part no_feed_yet;
          part = λ o. (reading.part, no_feed-back held reading.part no_feed_yet, reading.left o);
        }

        pub part_no_feed : HasNoFeed longer
        part_no_feed = longer_no_feed t

        module _ {later : S} {after_asked : List (S × B)} (noted : after_asked ≡ asked ++ (now, beside) ∷ []) (call : CountedTimes 1 (source.calls now) (source.calls later)) where
          pub asked_more : Asks source held given later beside before after_asked
          asked_more = record {
            moments = reading.asks.moments ++ (now, beside) ∷ [];
            noted = noted ∙ ap (λ l. l ++ (now, beside) ∷ []) reading.asks.noted ∙ append_assoc before reading.asks.moments ((now, beside) ∷ []);
            counted =
                subst (λ n. CountedTimes n (source.calls given) (source.calls later)) (sym (length-append reading.asks.moments ((now, beside) ∷ [])))
                (counted-more (length reading.asks.moments) _ _ _ reading.asks.counted call);
            each = each_after-push (IsAskedAt source held given beside) reading.asks.moments (now, beside) reading.asks.each asked_at;
          }

          pub turns : {next : List ℕ} → length longer ≤ limit → (source.is_observable → source.left now ≡ next ++ source.left later)
              → source.faults later ≡ source.faults now → Reading limit held given beside before longer next later after_asked
          turns {next} within gives quiet = record {
            part = reading.part ++ next;
            split = ap (λ l. l ++ next) (all_taken ∙ reading.split) ∙ append_assoc held reading.part next;
            left = λ o. reading.left o ∙ ap (λ l. reading.part ++ l) (gives o) ∙ sym (append_assoc reading.part next (source.left later));
            no_feed = longer_no_feed t;
            within = within;
            asks = asked_more;
            uncalled = λ c. absurd (feed_is_found held asked_at.no_line c);
            quiet = quiet ∙ reading.quiet;
          }

        pub uncalled_later : {later : S} → Contains held 10 → later ≡ given
        uncalled_later c = absurd (feed_is_found held asked_at.no_line c)

        -- the source gave no more
        pub ends_input : (next : List ℕ) (later : S) → (source.is_observable → source.left now ≡ next ++ source.left later) → (source.is_observable → source.left now ≡ [])
            → source.is_observable → IsFirstLine false longer (held ++ source.left given) (next ++ source.left later)
        ends_input next later gives none o = record {
          first = ap pieces (whole_left o ∙ ap (λ l. longer ++ l) (none o) ∙ append-nil longer) ∙ pieces-one longer (longer_no_feed t);
          end = λ no. sym (gives o) ∙ none o;
        }
