-- What a word may be that is no subcommand, to a command without short options.
use Rattle.std.proofs.Common.{◌≡◌, ℕ, zero, suc, Bool, true, false, cond, List, [], ◌∷◌, length, Option, Some, None, refl, slice_get}
use Rattle.std.specs.Option.{option_map_or}
use Rattle.std.specs.Str.{bytes_eq, chars}
use Rattle.clap.specs.Lexer.{long_of, short_of}
use Rattle.clap.specs.Walk.{Held, Outcome, Row, Rule, Step, Text, Waiting, after_flag, arg_by_long, arg_by_short, bundle_met, bundle_step, long_or_other, long_word, plain, plain_word}
use Rattle.clap.specs.Walk.{short_met, short_or_plain, subcommand_or_other, trailing}
use Rattle.clap.specs.Faults.{bundle_fault, bundle_step_fault, flag_word_fault, flags_fault, long_fault, other_fault, short_fault}
use Rattle.clap.specs.Kinds.{Kinds}
use Rattle.clap.specs.Simple.{Shape}
use Rattle.clap.specs.declared.error.kind.ErrorKind.TheVariants.{UnknownArgument}

abbrev pub dashes : Text
dashes = 45 ∷ 45 ∷ []

-- What is held, with no flags to pass over.
abbrev pub held : List Row → Option (Text × List Text) → Held
held rows pending = record { rows = rows; pending = pending; skip = 0 }

-- The command has no short options.
abbrev pub HasNoShorts : Shape → Type 0
HasNoShorts s = (x : ℕ) → arg_by_short s.rules x ≡ None

-- A bundle of short options is refused, or it is a plain word.
bundle_cases : (s : Shape) (waiting : Waiting) (word flags : Text) (h : Held) → HasNoShorts s
    → (P : Kinds → Held × Step → Type 0) → ((m : Held × Step) → P (UnknownArgument ∷ []) m) → P [] (plain_word s.rules waiting word h)
    → (k : ℕ)
    → P (flags_fault s.rules s.args_override_self k flags 0 h)
    (after_flag s.rules waiting word (bundle_met s.rules k flags 0 plain h).0 (bundle_met s.rules k flags 0 plain h).1)
unfolding flags_fault bundle_met
bundle_cases s waiting word flags h no_shorts P on_refused on_plain zero = on_plain
bundle_cases s waiting word flags h no_shorts P on_refused on_plain (suc k) = first (slice_get (chars flags) 0)
  where
    rule : (rest : Text) (next : Held → Held × Outcome) (below : Held → Kinds) (a : Option Rule) → a ≡ None
        → P (short_fault s.rules s.args_override_self a rest h below)
        (after_flag s.rules waiting word (short_met s.rules a rest h next).0 (short_met s.rules a rest h next).1)
    rule rest next below None e = on_refused _
    rule rest next below (Some a) e = absurd (cc)

    first : (o : Option ℕ)
        → P (bundle_step_fault s.rules s.args_override_self o flags 0 h (flags_fault s.rules s.args_override_self k))
        (after_flag s.rules waiting word (bundle_step s.rules o flags 0 plain h (bundle_met s.rules k)).0
        (bundle_step s.rules o flags 0 plain h (bundle_met s.rules k)).1)
    first None = on_plain
    first (Some x) = rule _ _ _ (arg_by_short s.rules x) (no_shorts x)

-- A word is `--`, a long option, refused, or a plain word.
pub word_cases : (s : Shape) (waiting : Waiting) (position : ℕ) (word : Text) (rows : List Row) (pending : Option (Text × List Text)) → HasNoShorts s
    → (P : Kinds → Held × Step → Type 0)
    → (bytes_eq word dashes ≡ true → P [] (held rows pending, trailing position))
    → ((p : Text × Option Text) → long_of word ≡ Some p → bytes_eq word dashes ≡ false
    → P (long_fault s.rules s.args_override_self (arg_by_long s.rules p.0) p.1 (held rows pending)) (long_word s.rules waiting word p.0 p.1 (held rows pending)))
    → (long_of word ≡ None → bytes_eq word dashes ≡ false → (flags : Text) → short_of word ≡ Some flags → (m : Held × Step) → P (UnknownArgument ∷ []) m)
    → (long_of word ≡ None → bytes_eq word dashes ≡ false → P [] (plain_word s.rules waiting word (held rows pending)))
    → P (other_fault s None word (held rows pending)) (subcommand_or_other s.rules None waiting position word (held rows pending))
word_cases s waiting position word rows pending no_shorts P on_dashes on_long on_refused on_plain = dash (bytes_eq word dashes) refl
  where
    h : Held
    h = held rows pending

    short : long_of word ≡ None → bytes_eq word dashes ≡ false → (o : Option Text) → short_of word ≡ o
        → P (option_map_or (λ flags. bundle_fault s.rules s.args_override_self flags h) o []) (short_or_plain s.rules waiting word o h)
    short e d None is = on_plain e d
    short e d (Some flags) is = bundle_cases s waiting word flags h no_shorts P (on_refused e d flags is) (on_plain e d) (length flags)

    long : (o : Option (Text × Option Text)) → long_of word ≡ o → bytes_eq word dashes ≡ false
        → P (flag_word_fault s.rules s.args_override_self o word h) (long_or_other s.rules waiting word o h)
    long (Some p) e d = on_long p e d
    long None e d = short e d (short_of word) refl

    dash : (b : Bool) → bytes_eq word dashes ≡ b
        → P (cond b [] (flag_word_fault s.rules s.args_override_self (long_of word) word h))
        (cond b (h, trailing position) (long_or_other s.rules waiting word (long_of word) h))
    dash true e = on_dashes e
    dash false e = long (long_of word) refl e
