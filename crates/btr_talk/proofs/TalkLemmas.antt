-- Lemmas on a talk that goes on, and on how it ends.
use Rattle.std.proofs.Common.{◌≡◌, ◌∙◌, refl, sym, ap, subst, subst₂, inl, inr, ⊎_elim, ℕ, ◌+◌, ◌≤◌, Bool, true, false, List, [], ◌∷◌, ◌++◌, length, Ok, Err, OnErr, IsErrOf, length-append, append_assoc, append-nil, arith}
use Rattle.btr_io.specs.declared.source.Source.{Ghosts as SourceGhosts}
use Rattle.btr_io.specs.declared.sink.Sink.{Ghosts as SinkGhosts}
use Rattle.btr_io.specs.declared.reading.ReadAllFault.{ReadAllFault}
use Rattle.btr_io.specs.declared.reading.ReadAllFault.TheVariants.{Fault, TooLong, Want}
use Rattle.btr_io.specs.Faults.{CountedTimes, Rose}
use Rattle.btr_lines.specs.Lines.{pieces, pieces_after, Asks, HasNoFeed, HasReadCause, IsAskedAt, IsFirstLine, IsFirstTooLong}
use Rattle.btr_lines.proofs.LineLemmas.{no_feed-append}
use Rattle.btr_lines.specs.Moments.{EachAfter}
use Rattle.btr_lines.proofs.EachLemmas.{each_after-none, each_after-append, each_after-push, each_after-weaker}
use Rattle.btr_talk.specs.declared.desk.Desk.{Ghosts as DeskGhosts}
use Rattle.btr_talk.specs.declared.turns.TalkEnd.{TalkEnd}
use Rattle.btr_talk.specs.declared.turns.TalkEnd.TheVariants.{Ended, NoSource, NoSink, OutOfMemory}
use Rattle.btr_talk.specs.Rounds.{Round, pieces_of, GoesThrough, IsRound, IsAsked}
use Rattle.btr_talk.specs.Ends.{Talks, EndsBy, end_of_read}
use Rattle.btr_talk.specs.Reply.{Replies, StopsReply, StopsAtSink, StopsAtDesk}
use Rattle.btr_talk.specs.Turn.{GoesOn, Talking, Turned}
use Rattle.btr_talk.proofs.RoundLemmas.{pieces_of-push, texts_of-push, moments_of-push, through-later, through-push, through-push-two, sink_after-push, has_said}

-- the calls that were counted before, and then
counted-sum : (m n a b c : ℕ) → CountedTimes m a b → CountedTimes n b c → CountedTimes (m + n) a c
counted-sum m n a b c h k = record { rose = omega (arith, h.rose, k.rose, h.exact, k.exact); exact = omega (arith, h.exact, k.exact) }

module _ {S K X : Type 0} (source : SourceGhosts S) (sink : SinkGhosts K) (desk : DeskGhosts X) (stays : (d : X) → desk.goes_on d d) (then : (old mid new : X) → desk.goes_on old mid → desk.goes_on mid new → desk.goes_on old new) where
  pub talk-starts : {limit : ℕ} {given : S} {before : K} {begun : X} → desk.did begun begun [] [] → Talking source sink desk limit given before begun given before begun [] [] []
  talk-starts {limit} {given} {before} {begun} did = record {
    goes = record {
      rounds = [];
      made = each_after-none (IsRound sink desk limit begun before);
      asks = each_after-none (IsAsked source given before []);
      counted = record { rose = omega arith; exact = omega arith };
      answers = record { noted = refl; passed = refl; no_fault = refl; did = did };
      through = stays begun;
      lines = λ o. refl;
    };
    no_fault = refl;
  }

  module _ {limit : ℕ} {given : S} {before : K} {begun : X} where
    -- a talk that ends after these rounds
    talks_by : {now : S} {after : K} {here : X} {moments : List (K × X)} {asked : List (S × K)} (end : TalkEnd) (rounds : List (Round K X))
        → EachAfter (IsRound sink desk limit begun before) rounds → EachAfter (IsAsked source given before rounds) asked
        → CountedTimes (length asked) (source.calls given) (source.calls now)
        → GoesThrough desk.goes_on begun moments here → EndsBy source sink desk end limit given now before after begun here rounds moments → Talks source sink desk limit given now before after begun here end moments asked
    talks_by end rounds made asks counted through ended = record {
      rounds = rounds;
      made = made;
      written = λ o first later e. has_said sink desk limit begun before o rounds first later made e;
      through = through;
      asks = asks;
      counted = counted;
      ended = ended;
    }

    -- the source is asked for more in the reading of a line
    module _ {now later : S} {after : K} {here : X} {held : List ℕ} {moments : List (K × X)} {asked longer : List (S × K)}
        (t : Talking source sink desk limit given before begun now after here held moments asked) (a : Asks source held now later after asked longer) where
      at_call : (earlier : List (S × K)) (moment : S × K) → IsAskedAt source held now after earlier moment → IsAsked source given before t.goes.rounds (asked ++ earlier) moment
      at_call earlier moment at = record {
        counted =
            subst (λ n. CountedTimes n (source.calls given) (source.calls moment.0)) (sym (length-append asked earlier))
            (counted-sum (length asked) (length earlier) _ _ _ t.goes.counted at.counted);
        answered = t.goes.rounds;
        later = [];
        split = sym (append-nil t.goes.rounds);
        passed = at.same ∙ t.goes.answers.passed;
        lines = λ o.
            let p = at.part o in (
              held ++ p.0,
              no_feed-append held p.0 at.no_line p.1,
              t.goes.lines o ∙ ap (λ b. pieces_of t.goes.rounds ++ pieces b) (ap (λ b. held ++ b) p.2 ∙ sym (append_assoc held p.0 (source.left moment.0))),
            );
      }

      asks_more : EachAfter (IsAsked source given before t.goes.rounds) longer
      asks_more =
          subst (EachAfter (IsAsked source given before t.goes.rounds)) (sym a.noted)
          (each_after-append (IsAsked source given before t.goes.rounds) asked a.moments t.goes.asks (λ earlier moment rest e. at_call earlier moment (a.each earlier moment rest e)))

      counted_more : CountedTimes (length longer) (source.calls given) (source.calls later)
      counted_more =
          subst (λ n. CountedTimes n (source.calls given) (source.calls later)) (sym (ap length a.noted ∙ length-append asked a.moments))
          (counted-sum (length asked) (length a.moments) _ _ _ t.goes.counted a.counted)

      -- a line was read
      pub line_read : (line rest : List ℕ) (more : Bool) → (source.is_observable → IsFirstLine more line (held ++ source.left now) (rest ++ source.left later))
          → GoesOn source sink desk limit given before begun later after here (line ∷ pieces_after more (rest ++ source.left later)) moments longer
      line_read line rest more first = record {
        rounds = t.goes.rounds;
        made = t.goes.made;
        asks = asks_more;
        counted = counted_more;
        answers = t.goes.answers;
        through = t.goes.through;
        lines = λ o. t.goes.lines o ∙ ap (λ b. pieces_of t.goes.rounds ++ b) (first o).first;
      }

      -- no line was read
      pub read_ends : (line rest : List ℕ) (fault : ReadAllFault)
          → (source.is_observable → OnErr {T = Bool} (Err fault) (held ++ source.left now ≡ line ++ rest ++ source.left later))
          → (source.is_observable → IsErrOf {T = Bool} (Err fault) TooLong → IsFirstTooLong limit (held ++ source.left now))
          → (IsErrOf {T = Bool} (Err fault) Fault → HasNoFeed line × (rest ≡ []))
          → HasReadCause (source.faults now) (source.faults later) (Err fault)
          → Talks source sink desk limit given later before after begun here (end_of_read fault) moments longer
      read_ends line rest Fault kept long part cause =
          let p = part refl in
          talks_by NoSource t.goes.rounds t.goes.made asks_more counted_more t.goes.through (
            t.goes.answers,
            record {
              lines = λ o. (
                line,
                p.0,
                t.goes.lines o ∙ ap (λ b. pieces_of t.goes.rounds ++ pieces b)
                    (kept o ∙ ap (λ b. line ++ b ++ source.left later) p.1 ∙ ap (λ b. b ++ source.left later) (append-nil line)),
              );
              rose = subst (λ n. Rose n (source.faults later)) t.no_fault (cause.fault refl);
            },
          )
      read_ends line rest TooLong kept long part cause =
          talks_by (end_of_read TooLong) t.goes.rounds t.goes.made asks_more counted_more t.goes.through (
            t.goes.answers,
            λ o. let l = long o refl in (l.0, l.1, t.goes.lines o ∙ ap (λ b. pieces_of t.goes.rounds ++ b) l.2, l.3),
          )
      read_ends line rest Want kept long part cause =
          talks_by OutOfMemory t.goes.rounds t.goes.made asks_more counted_more t.goes.through (record {
            noted = t.goes.answers.noted;
            passed = t.goes.answers.passed;
            no_fault = t.goes.answers.no_fault;
            did = inl t.goes.answers.did;
            first = λ o. (pieces (held ++ source.left now), t.goes.lines o);
          })

    -- a line is answered
    module _ {now : S} {after said : K} {here there : X} {line : List ℕ} {ahead : List (List ℕ)} {moments longer : List (K × X)} {asked : List (S × K)}
        (t : GoesOn source sink desk limit given before begun now after here (line ∷ ahead) moments asked) (within : length line ≤ limit) where
      module _ {text : List ℕ} (done : List ℕ) (is : done ≡ line) (replied : Replies sink desk done text after said here there moments longer) where
        r : Replies sink desk line text after said here there moments longer
        r = subst (λ l. Replies sink desk l text after said here there moments longer) is replied

        round : Round K X
        round = record { piece = line; text = text; ready = (after, there); said = (said, there) }

        is_round : IsRound sink desk limit begun before t.rounds round
        unfolding round
        is_round = record {
          done = record { within = within; unwritten = t.answers.passed; did = r.does begun _ _ t.answers.did };
          written = r.written;
          passed = r.passed;
          nothing_else = refl;
        }

        pub goes_on : GoesOn source sink desk limit given before begun now said there ahead longer asked
        unfolding round
        goes_on = record {
          rounds = t.rounds ++ round ∷ [];
          made = each_after-push (IsRound sink desk limit begun before) t.rounds round t.made is_round;
          asks = each_after-weaker (IsAsked source given before t.rounds) (IsAsked source given before (t.rounds ++ round ∷ []))
              (λ earlier moment at. record {
                counted = at.counted;
                answered = at.answered;
                later = at.later ++ round ∷ [];
                split = ap (λ l. l ++ round ∷ []) at.split ∙ append_assoc at.answered at.later (round ∷ []);
                passed = at.passed;
                lines = at.lines;
              }) asked t.asks;
          counted = t.counted;
          answers = record {
            noted = r.noted ∙ ap (λ l. l ++ (after, there) ∷ (said, there) ∷ []) t.answers.noted ∙ sym (moments_of-push t.rounds round);
            passed = sym (sink_after-push before t.rounds round);
            no_fault = r.no_fault ∙ t.answers.no_fault;
            did = subst₂ (λ lines texts. desk.did begun there lines texts) (sym (pieces_of-push t.rounds round)) (sym (texts_of-push t.rounds round)) is_round.done.did;
          };
          through = subst (λ l. GoesThrough desk.goes_on begun l there) (sym r.noted)
              (through-push-two desk.goes_on stays then begun moments after said here there t.through r.goes);
          lines = λ o. t.lines o ∙ sym (append_assoc (pieces_of t.rounds) (line ∷ []) ahead) ∙ ap (λ l. l ++ ahead) (sym (pieces_of-push t.rounds round));
        }

      -- a line is not answered
      pub reply_ends : (done : List ℕ) → done ≡ line → (end : TalkEnd) → StopsReply sink desk done after said here there moments longer end
          → Talks source sink desk limit given now before said begun there end longer asked
      reply_ends done is end stopped = ⊎_elim
          (λ s. subst (λ e. Talks source sink desk limit given now before said begun there e longer asked) (sym s.0) (at_sink s.1))
          (λ s. subst (λ e. Talks source sink desk limit given now before said begun there e longer asked) (sym s.0) (at_desk s.1)) (subst (λ l. StopsReply sink desk l after said here there moments longer end) is stopped)
        where
          at_sink : StopsAtSink sink desk line after said here there moments longer → Talks source sink desk limit given now before said begun there NoSink longer asked
          at_sink s = talks_by NoSink t.rounds t.made t.asks t.counted
              (subst (λ l. GoesThrough desk.goes_on begun l there) (sym s.noted) (through-push desk.goes_on stays then begun moments after here there t.through s.goes)) (record {
                piece = line;
                text = s.text;
                ready = (after, there);
                done = record { within = within; unwritten = t.answers.passed; did = s.does begun _ _ t.answers.did };
                next = λ o. (ahead, t.lines o);
                noted = s.noted ∙ ap (λ l. l ++ (after, there) ∷ []) t.answers.noted;
                part = s.part;
                nothing_else = refl;
                later = omega (arith, t.answers.no_fault, s.later);
                rose = subst (λ n. Rose n (sink.faults said)) t.answers.no_fault s.rose;
              })

          at_desk : StopsAtDesk sink desk line after said here there moments longer → Talks source sink desk limit given now before said begun there OutOfMemory longer asked
          at_desk s = talks_by OutOfMemory t.rounds t.made t.asks t.counted
              (subst (λ l. GoesThrough desk.goes_on begun l there) (sym s.noted) (through-later desk.goes_on stays then begun moments here there t.through s.goes)) (record {
                noted = s.noted ∙ t.answers.noted;
                passed = s.unwritten ∙ t.answers.passed;
                no_fault = ap (λ k. sink.faults k) s.unwritten ∙ t.answers.no_fault;
                did = ⊎_elim inl (λ l. inr (record { piece = line; text = l.0; did = l.1; next = λ o. (ahead, t.lines o) })) (s.lost begun _ _ t.answers.did);
                first = λ o. (line ∷ ahead, t.lines o);
              })

    -- the talk goes on, or the input has ended
    pub turned : {now : S} {after : K} {here : X} (held : List ℕ) {moments : List (K × X)} {asked : List (S × K)} (more : Bool)
        → GoesOn source sink desk limit given before begun now after here (pieces_after more (held ++ source.left now)) moments asked
        → source.faults now ≡ source.faults given → (source.is_observable → more ≡ false → held ++ source.left now ≡ [])
        → Turned source sink desk limit given before begun now after here held moments asked (Ok more)
    turned held true t quiet none = record { goes = t; no_fault = quiet }
    turned {now = now} held false t quiet none = talks_by Ended t.rounds t.made t.asks t.counted t.through (
      t.answers,
      record {
        lines = λ o. t.lines o ∙ append-nil (pieces_of t.rounds);
        end = λ o. nil_back held (source.left now) (none o refl);
        no_fault = quiet;
      },
    )
      where
        nil_back : (xs ys : List ℕ) → xs ++ ys ≡ [] → ys ≡ []
        nil_back [] ys e = e
        nil_back (x ∷ xs) ys e = absurd (omega (arith, ap length e, length-append (x ∷ xs) ys))

    -- a turn whose result is known
    module _ {now : S} {after : K} {here : X} (held : List ℕ) {moments : List (K × X)} {asked : List (S × K)} (more : Bool) where
      pub turned_on : more ≡ true → Turned source sink desk limit given before begun now after here held moments asked (Ok more)
          → Talking source sink desk limit given before begun now after here held moments asked
      turned_on e t = subst (λ b. Turned source sink desk limit given before begun now after here held moments asked (Ok b)) e t

      pub turned_off : more ≡ false → Turned source sink desk limit given before begun now after here held moments asked (Ok more)
          → Talks source sink desk limit given now before after begun here Ended moments asked
      turned_off e t = subst (λ b. Turned source sink desk limit given before begun now after here held moments asked (Ok b)) e t

  -- there was no memory to begin
  pub no_talk : {limit : ℕ} {given : S} {before : K} {begun : X} → desk.did begun begun [] [] → Talks source sink desk limit given given before before begun begun OutOfMemory [] []
  unfolding talk-starts
  no_talk {limit} {given} {before} {begun} did =
      let t : Talking source sink desk limit given before begun given before begun [] [] [] = talk-starts did in
      talks_by OutOfMemory [] t.goes.made t.goes.asks t.goes.counted t.goes.through (record {
        noted = refl;
        passed = refl;
        no_fault = refl;
        did = inl did;
        first = λ o. (pieces (source.left given), refl);
      })
