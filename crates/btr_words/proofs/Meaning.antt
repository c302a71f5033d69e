-- What a parse makes of the words is their meaning.
use Rattle.std.proofs.Common.{◌≡◌, ◌∷◌, ◌++◌, ◌||◌, ℕ, Bool, true, false, cond, List, [], Option, Some, None, is_some, refl, sym, ap, ap₂, ◌∙◌, subst, fold, codes, arith, map, unwrap_or}
use Rattle.std.specs.Prelude.{find}
use Rattle.std.specs.Option.{option_and_then, option_map, option_map_or}
use Rattle.std.specs.Str.{bytes_eq}
use Rattle.std.proofs.lemmas.List.{append_assoc, append-nil}
use Rattle.clap.specs.Walk.{Held, Names, Row, Step, Text, Walk, after_step, answers_to, finished, idle, nothing_held, settled, subcommand_or_other, trailing, walk_from, walked, with_default}
use Rattle.clap.specs.Faults.{check_fault, defaults_fault, entered_fault, fault_of, is_simple_and_free, level_fault, other_fault, settle_fault, step_fault, walk_fault}
use Rattle.clap.specs.Kinds.{IsAmong, Kinds, or_else}
use Rattle.clap.specs.Simple.{App, Shape, built, entered, is_simple, label_of, names_of, rows_at, subcommand_of}
use Rattle.clap.specs.declared.error.kind.ErrorKind.{ErrorKind}
use Rattle.clap.specs.declared.error.kind.ErrorKind.TheVariants.{InvalidSubcommand, MissingSubcommand, UnknownArgument}
use Rattle.clap.proofs.FaultLemmas.{stopped_fault}
use Rattle.btr_words.specs.declared.command.Command.{Command}
use Rattle.btr_words.specs.declared.command.Command.TheVariants.{Format, Load, Ask, Distil, Live, LiveGroups, Checkpoint, Seal, Check, Ship, Hear, Serve, ServeRead}
use Rattle.btr_words.specs.Words.{read_argument, serve_arguments, serve_of, is_found}
use Rattle.btr_words.specs.Words.{Argument, Found, argument_named, batch_argument, batch_of, blocks_argument, cold_argument, cold_of, command_of, format_of, between, live_arguments, live_of, materialize_of, number_for}
use Rattle.btr_words.specs.Words.{from_argument, ship_of}
use Rattle.btr_words.specs.Words.{numbers_in_order, option_numbers, sample_arguments, sample_of, sampled, without_marker, workers_argument, workers_of}
use Rattle.btr_words.specs.Program.{batch_in, command_of_rows, flag_in, number_in, program_app, workers_in}
use Rattle.btr_words.proofs.WordCases.{word_cases}
use Rattle.btr_words.proofs.Turns.{Gives, IsFault, at, fault_from, is_fault, rows_from}
use Rattle.btr_words.proofs.Found.{Reads}
use Rattle.btr_words.proofs.Leaf.{Blank, flag_at_end, leaf, number_at_end, plain}
use Rattle.btr_words.proofs.OptionsLeaf.{blank_rules, option_rule, options_give}
use Rattle.btr_words.proofs.ValuesLeaf.{Value, value_rule, values_give}

-- ---- the subcommands

abbrev of_sub : Text → List Row → Option Command
of_sub name rows = command_of_rows (Some (name, rows))

abbrev options_leaf : Text → List Argument → Shape
options_leaf name arguments = leaf name (map option_rule arguments)

abbrev number : Value
number = record { name = codes "number"; low = 0; high = 2147483647 }

abbrev streams : Value
streams = record { name = codes "streams"; low = 1; high = 1000 }

abbrev points : Value
points = record { name = codes "points"; low = 1; high = 1000000 }

abbrev sample_values : List Value
sample_values = number ∷ streams ∷ points ∷ []

abbrev sample_leaf : Shape
sample_leaf = leaf (codes "sample") (value_rule 1 number ∷ value_rule 2 streams ∷ value_rule 3 points ∷ [])

blank_values : Blank sample_leaf.rules
blank_values = (
  plain None (Some 1) number.name (between number.low number.high),
  (plain None (Some 2) streams.name (between streams.low streams.high), (plain None (Some 3) points.name (between points.low points.high), tt)),
)

abbrev LeafGives : Text → Shape → (List Text → Option Command) → List Text → Type 0
LeafGives name s meaning words = Gives (of_sub name) (fault_from s (at 1 idle false [] None) words) (rows_from s (at 1 idle false [] None) words) (meaning words)

map_is : {X : Type 0} → (f : X → Command) (o : Option X) → option_and_then (λ x. Some (f x)) o ≡ option_map f o
map_is f None = refl
map_is f (Some x) = refl

-- The rows at the end, of a subcommand with options that found these.
abbrev at_end : List Argument → List Row → List Row
at_end arguments rows = fold with_default rows (map option_rule arguments)

-- The words of a subcommand with options, each command of which has all that it needs.
with_options : (name : Text) (arguments : List Argument) (command : Found → Command)
    → ((rows : List Row) (found : Found) → Reads arguments rows found → of_sub name (at_end arguments rows) ≡ Some (command found)) → (words : List Text)
    → LeafGives name (options_leaf name arguments) (λ l. option_map command (option_numbers arguments l)) words
with_options name arguments command same words =
    subst (Gives (of_sub name) (fault_from (options_leaf name arguments) (at 1 idle false [] None) words) (rows_from (options_leaf name arguments) (at 1 idle false [] None) words))
    (map_is command (option_numbers arguments words))
    (options_give name arguments (of_sub name) (λ found. Some (command found)) same words)

abbrev of_workers : List Argument → Type 0
of_workers arguments = argument_named (codes "workers") arguments ≡ Some workers_argument

workers_are : (arguments : List Argument) → of_workers arguments → (rows : List Row) (found : Found) → Reads arguments rows found → workers_in (at_end arguments rows) ≡ workers_of found
workers_are arguments named rows found reads =
    ap (λ (o : Option ℕ). unwrap_or o 1) (number_at_end (map option_rule arguments) arguments (codes "workers") 1 16 255 rows found (blank_rules arguments) named (omega arith) reads)

batch_is : (arguments : List Argument) → argument_named (codes "batch") arguments ≡ Some batch_argument → (rows : List Row) (found : Found) → Reads arguments rows found
    → batch_in (at_end arguments rows) ≡ batch_of found
batch_is arguments named rows found reads =
    ap (λ (o : Option ℕ). unwrap_or o 4096) (number_at_end (map option_rule arguments) arguments (codes "batch") 1 65536 4294967295 rows found (blank_rules arguments) named (omega arith) reads)

abbrev format_meaning : List Text → Option Command
format_meaning words = option_and_then format_of (option_numbers (blocks_argument ∷ []) words)

format_gives : (words : List Text) → LeafGives (codes "format") (options_leaf (codes "format") (blocks_argument ∷ [])) format_meaning words
format_gives words = options_give (codes "format") (blocks_argument ∷ []) (of_sub (codes "format")) format_of
    (λ rows found reads. ap (option_map (λ n. Format n)) (number_at_end (map option_rule (blocks_argument ∷ [])) (blocks_argument ∷ []) (codes "blocks") 8 4294967296 18446744073709551615 rows found
    (blank_rules (blocks_argument ∷ [])) refl (omega arith) reads))
    words

abbrev load_meaning : List Text → Option Command
load_meaning words = option_map (λ found. Load (workers_of found) (batch_of found)) (option_numbers (workers_argument ∷ batch_argument ∷ []) words)

load_gives : (words : List Text) → LeafGives (codes "load") (options_leaf (codes "load") (workers_argument ∷ batch_argument ∷ [])) load_meaning words
load_gives words = with_options (codes "load") (workers_argument ∷ batch_argument ∷ []) (λ found. Load (workers_of found) (batch_of found))
    (λ rows found reads. ap₂ (λ (w b : ℕ). Some (Load w b)) (workers_are (workers_argument ∷ batch_argument ∷ []) refl rows found reads)
    (batch_is (workers_argument ∷ batch_argument ∷ []) refl rows found reads)) words

abbrev ask_meaning : List Text → Option Command
ask_meaning words = option_map (λ found. Ask (cold_of found)) (option_numbers (cold_argument ∷ []) words)

ask_gives : (words : List Text) → LeafGives (codes "ask") (options_leaf (codes "ask") (cold_argument ∷ [])) ask_meaning words
ask_gives words = with_options (codes "ask") (cold_argument ∷ []) (λ found. Ask (cold_of found))
    (λ rows found reads. ap (λ (b : Bool). Some (Ask b)) (flag_at_end (map option_rule (cold_argument ∷ [])) (cold_argument ∷ []) (codes "cold") rows found
    (blank_rules (cold_argument ∷ [])) refl reads)) words

abbrev distil_meaning : List Text → Option Command
distil_meaning words = option_map (λ found. Distil (workers_of found)) (option_numbers (workers_argument ∷ []) words)

distil_gives : (words : List Text) → LeafGives (codes "distil") (options_leaf (codes "distil") (workers_argument ∷ [])) distil_meaning words
distil_gives words = with_options (codes "distil") (workers_argument ∷ []) (λ found. Distil (workers_of found))
    (λ rows found reads. ap (λ (w : ℕ). Some (Distil w)) (workers_are (workers_argument ∷ []) refl rows found reads)) words

abbrev live_meaning : List Text → Option Command
live_meaning words = option_and_then live_of (option_numbers live_arguments words)

-- `live` with the numbers of `--batch` and `--group`, if they are there, and with its flag or without.
abbrev live_by : Option ℕ → Option ℕ → Bool → Option Command
live_by batch group flag = option_map_or (λ n. cond (is_some batch) None (Some (LiveGroups n flag))) group (Some (Live (unwrap_or batch 4096) flag))

live_same : (rows : List Row) (found : Found) → Reads live_arguments rows found → of_sub (codes "live") (at_end live_arguments rows) ≡ live_of found
live_same rows found reads =
    let end = at_end live_arguments rows in
    let b : number_in (codes "batch") end 4294967295 ≡ number_for (codes "batch") found =
    number_at_end (map option_rule live_arguments) live_arguments (codes "batch") 1 65536 4294967295 rows found (blank_rules live_arguments) refl (omega arith) reads in
    let g : number_in (codes "group") end 4294967295 ≡ number_for (codes "group") found =
    number_at_end (map option_rule live_arguments) live_arguments (codes "group") 1 65536 4294967295 rows found (blank_rules live_arguments) refl (omega arith) reads in
    let m : flag_in (codes "materialize") end ≡ materialize_of found =
    flag_at_end (map option_rule live_arguments) live_arguments (codes "materialize") rows found (blank_rules live_arguments) refl reads in
    ap (λ (o : Option ℕ). live_by o (number_in (codes "group") end 4294967295) (flag_in (codes "materialize") end)) b
    ∙ ap (λ (o : Option ℕ). live_by (number_for (codes "batch") found) o (flag_in (codes "materialize") end)) g
    ∙ ap (λ (f : Bool). live_by (number_for (codes "batch") found) (number_for (codes "group") found) f) m

live_gives : (words : List Text) → LeafGives (codes "live") (options_leaf (codes "live") live_arguments) live_meaning words
live_gives words = options_give (codes "live") live_arguments (of_sub (codes "live")) live_of live_same words

abbrev serve_meaning : List Text → Option Command
serve_meaning words = option_and_then serve_of (option_numbers serve_arguments words)

-- `serve` with the number of `--batch`, if it is there, and with its flag or without.
abbrev serve_by : Option ℕ → Bool → Option Command
serve_by batch flag = cond flag (cond (is_some batch) None (Some ServeRead)) (Some (Serve (unwrap_or batch 4096)))

serve_same : (rows : List Row) (found : Found) → Reads serve_arguments rows found → of_sub (codes "serve") (at_end serve_arguments rows) ≡ serve_of found
serve_same rows found reads =
    let end = at_end serve_arguments rows in
    let b : number_in (codes "batch") end 4294967295 ≡ number_for (codes "batch") found =
    number_at_end (map option_rule serve_arguments) serve_arguments (codes "batch") 1 65536 4294967295 rows found (blank_rules serve_arguments) refl (omega arith) reads in
    let r : flag_in (codes "read") end ≡ is_found (codes "read") found =
    flag_at_end (map option_rule serve_arguments) serve_arguments (codes "read") rows found (blank_rules serve_arguments) refl reads in
    ap (λ (o : Option ℕ). serve_by o (flag_in (codes "read") end)) b ∙ ap (λ (f : Bool). serve_by (number_for (codes "batch") found) f) r

serve_gives : (words : List Text) → LeafGives (codes "serve") (options_leaf (codes "serve") serve_arguments) serve_meaning words
serve_gives words = options_give (codes "serve") serve_arguments (of_sub (codes "serve")) serve_of serve_same words

abbrev sample_meaning : List Text → Option Command
sample_meaning words = option_and_then sample_of (numbers_in_order sample_arguments (without_marker words))

sample_same : (rows : List Row) (found : Found) → Reads sample_arguments rows found
    → of_sub (codes "sample") (fold with_default rows sample_leaf.rules) ≡ sample_of found
sample_same rows found reads =
    let end = fold with_default rows sample_leaf.rules in
    let x : number_in (codes "number") end 4294967295 ≡ number_for (codes "number") found =
    number_at_end sample_leaf.rules sample_arguments (codes "number") 0 2147483647 4294967295 rows found blank_values refl (omega arith) reads in
    let y : number_in (codes "streams") end 4294967295 ≡ number_for (codes "streams") found =
    number_at_end sample_leaf.rules sample_arguments (codes "streams") 1 1000 4294967295 rows found blank_values refl (omega arith) reads in
    let z : number_in (codes "points") end 4294967295 ≡ number_for (codes "points") found =
    number_at_end sample_leaf.rules sample_arguments (codes "points") 1 1000000 4294967295 rows found blank_values refl (omega arith) reads in
    ap (λ (o : Option ℕ). sampled o (number_in (codes "streams") end 4294967295) (number_in (codes "points") end 4294967295)) x
    ∙ ap (λ (o : Option ℕ). sampled (number_for (codes "number") found) o (number_in (codes "points") end 4294967295)) y
    ∙ ap (λ (o : Option ℕ). sampled (number_for (codes "number") found) (number_for (codes "streams") found) o) z

sample_gives : (words : List Text) → LeafGives (codes "sample") sample_leaf sample_meaning words
sample_gives words = values_give (codes "sample") sample_leaf.rules sample_arguments blank_values
    (λ x. refl) (λ name. refl) (of_sub (codes "sample")) sample_of sample_same sample_values
    (refl, refl, refl, refl, λ v. (refl, refl, refl, refl, λ w. (refl, refl, refl, refl, λ x. refl))) words

abbrev checkpoint_meaning : List Text → Option Command
checkpoint_meaning words = option_map (λ found. Checkpoint) (option_numbers [] words)

checkpoint_gives : (words : List Text) → LeafGives (codes "checkpoint") (options_leaf (codes "checkpoint") []) checkpoint_meaning words
checkpoint_gives words = with_options (codes "checkpoint") [] (λ found. Checkpoint) (λ rows found reads. refl) words

abbrev seal_meaning : List Text → Option Command
seal_meaning words = option_map (λ found. Seal) (option_numbers [] words)

seal_gives : (words : List Text) → LeafGives (codes "seal") (options_leaf (codes "seal") []) seal_meaning words
seal_gives words = with_options (codes "seal") [] (λ found. Seal) (λ rows found reads. refl) words

abbrev check_meaning : List Text → Option Command
check_meaning words = option_map (λ found. Check) (option_numbers [] words)

check_gives : (words : List Text) → LeafGives (codes "check") (options_leaf (codes "check") []) check_meaning words
check_gives words = with_options (codes "check") [] (λ found. Check) (λ rows found reads. refl) words

abbrev from : Value
from = record { name = codes "from"; low = 1; high = 18446744073709551615 }

abbrev ship_leaf : Shape
ship_leaf = leaf (codes "ship") (value_rule 1 from ∷ [])

blank_from : Blank ship_leaf.rules
blank_from = (plain None (Some 1) from.name (between from.low from.high), tt)

abbrev ship_meaning : List Text → Option Command
ship_meaning words = option_and_then ship_of (numbers_in_order (from_argument ∷ []) (without_marker words))

ship_same : (rows : List Row) (found : Found) → Reads (from_argument ∷ []) rows found
    → of_sub (codes "ship") (fold with_default rows ship_leaf.rules) ≡ ship_of found
ship_same rows found reads =
    ap (option_map (λ n. Ship n)) (number_at_end ship_leaf.rules (from_argument ∷ []) (codes "from") 1 18446744073709551615 18446744073709551615 rows found
    blank_from refl (omega arith) reads)

ship_gives : (words : List Text) → LeafGives (codes "ship") ship_leaf ship_meaning words
ship_gives words = values_give (codes "ship") ship_leaf.rules (from_argument ∷ []) blank_from
    (λ x. refl) (λ name. refl) (of_sub (codes "ship")) ship_of ship_same (from ∷ [])
    (refl, refl, refl, refl, λ v. refl) words

abbrev hear_meaning : List Text → Option Command
hear_meaning words = option_map (λ found. Hear) (option_numbers [] words)

hear_gives : (words : List Text) → LeafGives (codes "hear") (options_leaf (codes "hear") []) hear_meaning words
hear_gives words = with_options (codes "hear") [] (λ found. Hear) (λ rows found reads. refl) words

-- ---- the whole command line

abbrev all : App
all = built program_app

abbrev names : Names
names = names_of all

-- A parse with these kinds of error and this subcommand gives this command.
abbrev pub GivesAll : Kinds → Option (Text × List Row) → Option Command → Type 0
GivesAll [] found command = command_of_rows found ≡ command
GivesAll (k ∷ ks) found command = command ≡ None

refused_all : (ks : Kinds) (found : Option (Text × List Row)) → IsFault ks → GivesAll ks found None
refused_all [] found f = absurd (f refl)
refused_all (k ∷ ks) found f = refl

from_leaf : (name : Text) (ks : Kinds) (rows : List Row) (command : Option Command) → Gives (of_sub name) ks rows command → GivesAll (or_else ks []) (Some (name, rows)) command
from_leaf name [] rows command h = h
from_leaf name (k ∷ ks) rows command h = h

-- A walk that has met a subcommand keeps the words for it.
stopped_walk : (name : Text) (w : Walk) (before words : List Text)
    → fold (walked [] names) (record w { stopped = Some (name, before) }) words ≡ record w { stopped = Some (name, before ++ words) }
unfolding walked
stopped_walk name w before [] = ap (λ (l : List Text). record w { stopped = Some (name, l) }) (sym (append-nil before))
stopped_walk name w before (word ∷ words) =
    stopped_walk name w (before ++ word ∷ []) words ∙ ap (λ (l : List Text). record w { stopped = Some (name, l) }) (append_assoc before (word ∷ []) words)

abbrev end_fault : Walk → Kinds
end_fault w = or_else (entered_fault all w.stopped) (or_else (settle_fault [] false w.held)
    (or_else (defaults_fault (settled [] w.held).rows []) (check_fault all.top (finished [] w.held) (is_some (entered all w.stopped)))))

-- What is left of the parse after a first word that made these kinds of error and this step.
abbrev after_first : Text → List Text → Kinds → Held × Step → Kinds
after_first word rest ks m = or_else (or_else (or_else ks (step_fault all.top 1 m.0 m.1)) (walk_fault all.top names (after_step [] word (walk_from nothing_held) m.0 m.1) rest))
    (end_fault (fold (walked [] names) (after_step [] word (walk_from nothing_held) m.0 m.1) rest))

abbrev First : Text → List Text → Option Command → Option Text → Type 0
First word rest command name = GivesAll
    (after_first word rest (other_fault all.top name word nothing_held) (subcommand_or_other [] name idle 1 word nothing_held))
    (entered all (fold (walked [] names) (after_step [] word (walk_from nothing_held) (subcommand_or_other [] name idle 1 word nothing_held).0 (subcommand_or_other [] name idle 1 word nothing_held).1) rest).stopped)
    command

-- The first word is the name of a subcommand.
named : (name word : Text) (rest : List Text) (s : Shape) (command : Option Command)
    → find (λ x. answers_to name (label_of x)) all.subs ≡ Some s → s.name ≡ name → other_fault all.top (Some name) word nothing_held ≡ []
    → Gives (of_sub name) (fault_from s (at 1 idle false [] None) rest) (rows_from s (at 1 idle false [] None) rest) command
    → First word rest command (Some name)
unfolding defaults_fault
named name word rest s command found same no_help below =
    subst at_end (sym (stopped_walk name (walk_from nothing_held) [] rest))
    (subst at_found (sym found)
    (subst at_walk (sym (stopped_fault all.top names (walk_from nothing_held) (name, []) rest))
    (subst at_help (sym no_help)
    (subst at_name (sym same)
    (from_leaf name (fault_from s (at 1 idle false [] None) rest) (rows_from s (at 1 idle false [] None) rest) command below)))))
  where
    start : Walk
    start = record { held = nothing_held; waiting = idle; position = 1; is_trailing = false; stopped = Some (name, []) }

    at_end : Walk → Type 0
    at_end w = GivesAll (or_else (or_else (or_else (other_fault all.top (Some name) word nothing_held) []) (walk_fault all.top names start rest)) (end_fault w))
        (entered all w.stopped) command

    at_found : Option Shape → Type 0
    at_found x = GivesAll (or_else (or_else (or_else (other_fault all.top (Some name) word nothing_held) []) (walk_fault all.top names start rest))
        (or_else (option_map_or (λ (y : Shape). level_fault y [] nothing_held rest false []) x [])
        (or_else [] (or_else [] (check_fault all.top [] (is_some (option_map (λ (y : Shape). rows_at y rest) x)))))))
        (option_map (λ (y : Shape). rows_at y rest) x) command

    at_walk : Kinds → Type 0
    at_walk ks = GivesAll (or_else (or_else (or_else (other_fault all.top (Some name) word nothing_held) []) ks)
        (or_else (level_fault s [] nothing_held rest false []) [])) (Some (rows_at s rest)) command

    at_help : Kinds → Type 0
    at_help ks = GivesAll (or_else (or_else (or_else ks []) []) (or_else (level_fault s [] nothing_held rest false []) [])) (Some (rows_at s rest)) command

    at_name : Text → Type 0
    at_name n = GivesAll (or_else (level_fault s [] nothing_held rest false []) []) (Some (n, rows_from s (at 1 idle false [] None) rest)) command

-- The first word is no subcommand's name.
trailing_first : (word : Text) (rest : List Text) → IsFault (after_first word rest [] (nothing_held, trailing 1))
unfolding walk_fault defaults_fault
trailing_first word [] = is_fault MissingSubcommand []
trailing_first word (x ∷ rest) = is_fault UnknownArgument (InvalidSubcommand ∷ [])

unnamed : (word : Text) (rest : List Text) → First word rest None None
unnamed word rest = refused_all _ _ (word_cases all.top idle 1 word [] None (λ x. refl) (λ ks m. IsFault (after_first word rest ks m))
    (λ d. trailing_first word rest)
    (λ p e d. is_fault UnknownArgument [])
    (λ e d flags is m. is_fault UnknownArgument [])
    (λ e d. is_fault UnknownArgument (InvalidSubcommand ∷ [])))

-- The parse of all words gives their meaning.
pub words_give : (words : List Text) → GivesAll (fault_of program_app words) (subcommand_of program_app words) (command_of words)
unfolding walked walk_fault defaults_fault
words_give [] = refl
words_give (word ∷ rest) = go (is (codes "format")) (is (codes "load")) (is (codes "ask")) (is (codes "distil")) (is (codes "live")) (is (codes "sample")) (is (codes "checkpoint")) (is (codes "seal")) (is (codes "check")) (is (codes "ship")) (is (codes "hear")) (is (codes "serve"))
  where
    is : Text → Bool
    is name = bytes_eq name word

    found : Text → Bool → Option (Text × List Text) → Option (Text × List Text)
    found name b next = cond (b || false) (Some (name, [])) next

    go : (b1 b2 b3 b4 b5 b6 b7 b8 b9 b10 b11 b12 : Bool) → First word rest
        (cond b1 (format_meaning rest) (cond b2 (load_meaning rest) (cond b3 (ask_meaning rest)
        (cond b4 (distil_meaning rest) (cond b5 (live_meaning rest) (cond b6 (sample_meaning rest)
        (cond b7 (checkpoint_meaning rest) (cond b8 (seal_meaning rest) (cond b9 (check_meaning rest)
        (cond b10 (ship_meaning rest) (cond b11 (hear_meaning rest) (cond b12 (serve_meaning rest) None))))))))))))
        (option_map (λ (x : Text × List Text). x.0) (found (codes "format") b1 (found (codes "load") b2 (found (codes "ask") b3
        (found (codes "distil") b4 (found (codes "live") b5 (found (codes "sample") b6
        (found (codes "checkpoint") b7 (found (codes "seal") b8 (found (codes "check") b9
        (found (codes "ship") b10 (found (codes "hear") b11 (found (codes "serve") b12 None)))))))))))))
    go true b2 b3 b4 b5 b6 b7 b8 b9 b10 b11 b12 = named (codes "format") word rest (options_leaf (codes "format") (blocks_argument ∷ [])) (format_meaning rest) refl refl refl (format_gives rest)
    go false true b3 b4 b5 b6 b7 b8 b9 b10 b11 b12 = named (codes "load") word rest (options_leaf (codes "load") (workers_argument ∷ batch_argument ∷ [])) (load_meaning rest) refl refl refl (load_gives rest)
    go false false true b4 b5 b6 b7 b8 b9 b10 b11 b12 = named (codes "ask") word rest (options_leaf (codes "ask") (cold_argument ∷ [])) (ask_meaning rest) refl refl refl (ask_gives rest)
    go false false false true b5 b6 b7 b8 b9 b10 b11 b12 = named (codes "distil") word rest (options_leaf (codes "distil") (workers_argument ∷ [])) (distil_meaning rest) refl refl refl (distil_gives rest)
    go false false false false true b6 b7 b8 b9 b10 b11 b12 = named (codes "live") word rest (options_leaf (codes "live") live_arguments) (live_meaning rest) refl refl refl (live_gives rest)
    go false false false false false true b7 b8 b9 b10 b11 b12 = named (codes "sample") word rest sample_leaf (sample_meaning rest) refl refl refl (sample_gives rest)
    go false false false false false false true b8 b9 b10 b11 b12 = named (codes "checkpoint") word rest (options_leaf (codes "checkpoint") []) (checkpoint_meaning rest) refl refl refl (checkpoint_gives rest)
    go false false false false false false false true b9 b10 b11 b12 = named (codes "seal") word rest (options_leaf (codes "seal") []) (seal_meaning rest) refl refl refl (seal_gives rest)
    go false false false false false false false false true b10 b11 b12 = named (codes "check") word rest (options_leaf (codes "check") []) (check_meaning rest) refl refl refl (check_gives rest)
    go false false false false false false false false false true b11 b12 = named (codes "ship") word rest ship_leaf (ship_meaning rest) refl refl refl (ship_gives rest)
    go false false false false false false false false false false true b12 = named (codes "hear") word rest (options_leaf (codes "hear") []) (hear_meaning rest) refl refl refl (hear_gives rest)
    go false false false false false false false false false false false true = named (codes "serve") word rest (options_leaf (codes "serve") serve_arguments) (serve_meaning rest) refl refl refl (serve_gives rest)
    go false false false false false false false false false false false false = unnamed word rest

-- ---- as a caller of the parse meets it

pub program_is_simple : is_simple program_app ≡ true
program_is_simple = refl

pub program_is_free : is_simple_and_free program_app ≡ true
program_is_free = refl

taken : (ks : Kinds) (found : Option (Text × List Row)) (command : Option Command) → ks ≡ [] → GivesAll ks found command → command_of_rows found ≡ command
taken [] found command e h = h
taken (k ∷ ks) found command e h = absurd (cc)

not_taken : (k : ErrorKind) (ks : Kinds) (found : Option (Text × List Row)) (command : Option Command) → IsAmong k ks → GivesAll ks found command → None ≡ command
not_taken k [] found command a h = absurd a
not_taken k (x ∷ ks) found command a h = sym h

-- Words that are taken give the command of what was found in them.
pub command_found : (words : List Text) (found : Option (Text × List Row)) → fault_of program_app words ≡ [] → found ≡ subcommand_of program_app words
    → command_of_rows found ≡ command_of words
command_found words found none is = ap command_of_rows is ∙ taken (fault_of program_app words) (subcommand_of program_app words) (command_of words) none (words_give words)

-- Words that are refused give no command.
pub no_command_found : (words : List Text) (k : ErrorKind) → IsAmong k (fault_of program_app words) → None ≡ command_of words
no_command_found words k a = not_taken k (fault_of program_app words) (subcommand_of program_app words) (command_of words) a (words_give words)
