-- What is left of a parse at a subcommand without subcommands, word by word.
use Rattle.std.proofs.Common.{◌≡◌, ℕ, Bool, true, false, List, [], ◌∷◌, Option, Some, None, refl, sym, subst, fold}
use Rattle.std.specs.Str.{bytes_eq}
use Rattle.clap.specs.Lexer.{long_of, short_of}
use Rattle.clap.specs.Walk.{Held, Row, Step, Text, Waiting, Walk, after_step, arg_by_long, finished, idle, long_word, option, plain_word, positional, settled, subcommand_met}
use Rattle.clap.specs.Walk.{subcommand_or_other, walked}
use Rattle.clap.specs.Faults.{check_fault, defaults_fault, long_fault, other_fault, settle_fault, step_fault, turn_fault, walk_fault}
use Rattle.clap.specs.Kinds.{Kinds, or_else}
use Rattle.clap.specs.Simple.{Shape}
use Rattle.clap.specs.declared.error.kind.ErrorKind.{ErrorKind}
use Rattle.clap.specs.declared.error.kind.ErrorKind.TheVariants.{UnknownArgument}
use Rattle.btr_words.specs.declared.command.Command.{Command}
use Rattle.btr_words.proofs.WordCases.{HasNoShorts, dashes, held, word_cases}

-- ---- lists of kinds

-- There is a kind of error.
abbrev pub IsFault : Kinds → Type 0
IsFault ks = ks ≡ [] → ⊥

pub is_fault : (k : ErrorKind) (ks : Kinds) → IsFault (k ∷ ks)
is_fault k ks = λ e. absurd (cc)

pub first_fault : (a b : Kinds) → IsFault a → IsFault (or_else a b)
first_fault [] b f = absurd (f refl)
first_fault (k ∷ ks) b f = is_fault k ks

pub second_fault : (a b : Kinds) → IsFault b → IsFault (or_else a b)
second_fault [] b f = f
second_fault (k ∷ ks) b f = is_fault k ks

or_else-assoc : (a b c : Kinds) → or_else (or_else a b) c ≡ or_else a (or_else b c)
or_else-assoc [] b c = refl
or_else-assoc (k ∷ ks) b c = refl

-- A parse with these kinds of error and these rows gives this command.
abbrev pub Gives : (List Row → Option Command) → Kinds → List Row → Option Command → Type 0
Gives F [] rows command = F rows ≡ command
Gives F (k ∷ ks) rows command = command ≡ None

pub refused_gives : (F : List Row → Option Command) (ks : Kinds) (rows : List Row) → IsFault ks → Gives F ks rows None
refused_gives F [] rows f = absurd (f refl)
refused_gives F (k ∷ ks) rows f = refl

-- ---- what is left

abbrev pub at : ℕ → Waiting → Bool → List Row → Option (Text × List Text) → Walk
at position waiting is_trailing rows pending =
    record { held = held rows pending; waiting = waiting; position = position; is_trailing = is_trailing; stopped = None }

abbrev pub ending : Shape → Held → Kinds
ending s end = or_else [] (or_else (settle_fault s.rules s.args_override_self end)
    (or_else (defaults_fault (settled s.rules end).rows s.rules) (check_fault s (finished s.rules end) false)))

abbrev pub fault_from : Shape → Walk → List Text → Kinds
fault_from s w words = or_else (walk_fault s [] w words) (ending s (fold (walked s.rules []) w words).held)

abbrev pub rows_from : Shape → Walk → List Text → List Row
rows_from s w words = finished s.rules (fold (walked s.rules []) w words).held

pub step_is : (s : Shape) (w : Walk) (word : Text) (rest : List Text)
    → fault_from s w (word ∷ rest) ≡ or_else (turn_fault s [] w word) (fault_from s (walked s.rules [] w word) rest)
unfolding walk_fault
step_is s w word rest = or_else-assoc (turn_fault s [] w word) _ _

-- What is left of a parse after a word that made these kinds of error and this step.
abbrev pub After : (Kinds → List Row → Type 0) → Shape → ℕ → Waiting → Text → List Row → Option (Text × List Text) → List Text → Kinds → Held × Step → Type 0
After Q s position waiting word rows pending rest ks m =
    Q (or_else (or_else ks (step_fault s position m.0 m.1)) (fault_from s (after_step s.rules word (at position waiting false rows pending) m.0 m.1) rest))
    (rows_from s (after_step s.rules word (at position waiting false rows pending) m.0 m.1) rest)

-- A word that no subcommand's name can be.
pub turn_cases : (Q : Kinds → List Row → Type 0) (s : Shape) (position : ℕ) (waiting : Waiting) (word : Text) (rows : List Row) (pending : Option (Text × List Text))
    (rest : List Text) → HasNoShorts s
    → (bytes_eq word dashes ≡ true → Q (fault_from s (at position waiting true rows pending) rest) (rows_from s (at position waiting true rows pending) rest))
    → ((p : Text × Option Text) → long_of word ≡ Some p → bytes_eq word dashes ≡ false
    → After Q s position waiting word rows pending rest (long_fault s.rules s.args_override_self (arg_by_long s.rules p.0) p.1 (held rows pending))
    (long_word s.rules waiting word p.0 p.1 (held rows pending)))
    → (long_of word ≡ None → bytes_eq word dashes ≡ false → (flags : Text) → short_of word ≡ Some flags → (k : ErrorKind) (ks : Kinds) (now : List Row) → Q (k ∷ ks) now)
    → (long_of word ≡ None → bytes_eq word dashes ≡ false
    → After Q s position waiting word rows pending rest [] (plain_word s.rules waiting word (held rows pending)))
    → Q (fault_from s (at position waiting false rows pending) (word ∷ rest)) (rows_from s (at position waiting false rows pending) (word ∷ rest))
unfolding walked
turn_cases Q s position waiting word rows pending rest no_shorts on_dashes on_long on_refused on_plain =
    let step = step_is s (at position waiting false rows pending) word rest in
    subst (λ (ks : Kinds). Q ks (rows_from s (at position waiting false rows pending) (word ∷ rest))) (sym step) whole
  where
    other : After Q s position waiting word rows pending rest (other_fault s None word (held rows pending)) (subcommand_or_other s.rules None waiting position word (held rows pending))
    other = word_cases s waiting position word rows pending no_shorts (After Q s position waiting word rows pending rest)
        on_dashes on_long (λ e d flags is m. on_refused e d flags is UnknownArgument [] _) on_plain

    no_name : (w : Waiting) → subcommand_met [] w word ≡ None
    no_name idle = refl
    no_name (option id) = refl
    no_name positional = refl

    whole : Q (or_else (turn_fault s [] (at position waiting false rows pending) word) (fault_from s (walked s.rules [] (at position waiting false rows pending) word) rest))
        (rows_from s (at position waiting false rows pending) (word ∷ rest))
    whole = subst (λ (name : Option Text). After Q s position waiting word rows pending rest (other_fault s name word (held rows pending)) (subcommand_or_other s.rules name waiting position word (held rows pending)))
        (sym (no_name waiting)) other
