-- The words of a command line, and the command that they give.
use Rattle.std.specs.Prelude.{ℕ, ◌≤◌, ◌*◌, ◌||◌, nat_le, Bool, true, false, not, List, [], ◌∷◌, codes, if◌then◌else◌, find}
use Rattle.std.specs.Prelude.{Option, Some, None, is_some, option_map, option_and_then, unwrap_or}
use Rattle.std.specs.List.{filter}
use Rattle.std.specs.Option.{option_map_or}
use Rattle.std.specs.Str.{bytes_eq}
use Rattle.std.specs.Str.Parse.{digits_value, without_leading_plus}
use Rattle.clap.specs.Lexer.{long_of}
use Rattle.clap.specs.ValueTests.{is_unsigned_in}
use Rattle.btr_words.specs.declared.command.Command.{Command}
use Rattle.btr_words.specs.declared.command.Command.TheVariants.{Format, Load, Ask, Distil, Live, LiveGroups, Sample, Checkpoint, Check}
use Rattle.btr_words.specs.declared.command.Command.TheVariants.{Seal, Ship, Hear, Serve, ServeRead}

abbrev pub Text : Type 0
Text = List ℕ

-- The whole number that the text writes in decimal digits, with at most one plus before them, if it lies in the bounds.
abbrev pub number_of : ℕ → ℕ → Text → Option ℕ
number_of low high text = if is_unsigned_in low high text then Some (digits_value 10 (without_leading_plus text)) else None

-- ---- arguments: options, which are named in the words, and values, which stand there in order

-- What an argument takes: a number from the least to the greatest one, or nothing. An argument that takes nothing is a flag.
pub data Takes : Type 0 where
  between : ℕ → ℕ → Takes
  nothing : Takes

-- An argument: its name, and what it takes.
pub record Argument : Type 0 where
  pub name : Text
  pub takes : Takes

-- The argument of this name.
abbrev pub argument_named : Text → List Argument → Option Argument
argument_named name arguments = find (λ a. bytes_eq a.name name) arguments

-- The arguments of other names.
abbrev pub others : Text → List Argument → List Argument
others name arguments = filter (λ a. not (bytes_eq a.name name)) arguments

abbrev pub takes_nothing : Takes → Bool
takes_nothing (between low high) = false
takes_nothing nothing = true

-- The argument of this name is a flag.
abbrev pub is_flag : Text → List Argument → Bool
is_flag name arguments = option_map_or (λ a. takes_nothing a.takes) (argument_named name arguments) false

-- What was found in the words: the names of arguments, each with its number, or with none if it is a flag.
abbrev pub Found : Type 0
Found = List (Text × Option ℕ)

-- The number that was found for the argument of this name.
abbrev pub number_for : Text → Found → Option ℕ
number_for name found = option_and_then (λ p. p.1) (find (λ p. bytes_eq p.0 name) found)

-- The argument of this name was found.
abbrev pub is_found : Text → Found → Bool
is_found name found = is_some (find (λ p. bytes_eq p.0 name) found)

-- What is found for an argument that takes this, if the words write it with this text, or with none.
abbrev pub taken : Takes → Option Text → Option (Option ℕ)
taken (between low high) (Some text) = option_map (λ n. Some n) (number_of low high text)
taken (between low high) None = None
taken nothing (Some text) = None
taken nothing None = Some None

-- There are no more words, or only the word `--`, which says that there are no more options.
abbrev pub is_end : List Text → Bool
is_end [] = true
is_end (word ∷ []) = bytes_eq word (codes "--")
is_end _ = false

-- The options that the words write, in order: names with texts. A flag is the word `--NAME` alone, and has no text. Each other
-- option is `--NAME=TEXT`, or the two words `--NAME` and TEXT.
-- Before the words is the name of an option that has no text yet, if there is one.
abbrev pub options_after : List Argument → Option Text → List Text → Option (List (Text × Option Text))
options_after arguments (Some name) [] = None
options_after arguments (Some name) (text ∷ words) = option_map (λ rest. (name, Some text) ∷ rest) (options_after arguments None words)
options_after arguments None [] = Some []
options_after arguments None (word ∷ words) =
    if is_end (word ∷ words) then Some []
    else option_and_then (λ p. if is_some p.1 || is_flag p.0 arguments
    then option_map (λ rest. (p.0, p.1) ∷ rest) (options_after arguments None words)
    else options_after arguments (Some p.0) words) (long_of word)

-- What these options give. Each has the name of one of the arguments, and what that takes, and no name comes twice.
abbrev pub numbers_of : List Argument → List (Text × Option Text) → Option Found
numbers_of arguments [] = Some []
numbers_of arguments (p ∷ options) =
    option_and_then (λ a. option_and_then (λ n. option_map (λ found. (p.0, n) ∷ found) (numbers_of (others p.0 arguments) options))
    (taken a.takes p.1)) (argument_named p.0 arguments)

-- What the words give to options.
abbrev pub option_numbers : List Argument → List Text → Option Found
option_numbers arguments words = option_and_then (numbers_of arguments) (options_after arguments None words)

-- The words without the first `--`.
abbrev pub without_marker : List Text → List Text
without_marker [] = []
without_marker (word ∷ words) = if bytes_eq word (codes "--") then words else word ∷ without_marker words

-- The numbers that the words write, the first for the first argument, and so on.
abbrev pub numbers_in_order : List Argument → List Text → Option Found
numbers_in_order arguments [] = Some []
numbers_in_order [] (word ∷ words) = None
numbers_in_order (a ∷ arguments) (word ∷ words) =
    option_and_then (λ n. option_map (λ found. (a.name, n) ∷ found) (numbers_in_order arguments words)) (taken a.takes (Some word))

-- ---- the commands

abbrev pub blocks_argument : Argument
blocks_argument = record { name = codes "blocks"; takes = between 8 4294967296 }

abbrev pub workers_argument : Argument
workers_argument = record { name = codes "workers"; takes = between 1 16 }

abbrev pub batch_argument : Argument
batch_argument = record { name = codes "batch"; takes = between 1 65536 }

abbrev pub group_argument : Argument
group_argument = record { name = codes "group"; takes = between 1 65536 }

abbrev pub materialize_argument : Argument
materialize_argument = record { name = codes "materialize"; takes = nothing }

abbrev pub cold_argument : Argument
cold_argument = record { name = codes "cold"; takes = nothing }

abbrev pub read_argument : Argument
read_argument = record { name = codes "read"; takes = nothing }

abbrev pub serve_arguments : List Argument
serve_arguments = batch_argument ∷ read_argument ∷ []

abbrev pub live_arguments : List Argument
live_arguments = batch_argument ∷ group_argument ∷ materialize_argument ∷ []

abbrev pub sample_arguments : List Argument
sample_arguments =
    record { name = codes "number"; takes = between 0 2147483647 }
    ∷ record { name = codes "streams"; takes = between 1 1000 }
    ∷ record { name = codes "points"; takes = between 1 1000000 } ∷ []

abbrev pub from_argument : Argument
from_argument = record { name = codes "from"; takes = between 1 18446744073709551615 }

-- `--workers K`, 1 if it is not there.
abbrev pub workers_of : Found → ℕ
workers_of found = unwrap_or (number_for (codes "workers") found) 1

-- `--batch B`, 4096 if it is not there.
abbrev pub batch_of : Found → ℕ
batch_of found = unwrap_or (number_for (codes "batch") found) 4096

-- `--materialize` is there.
abbrev pub materialize_of : Found → Bool
materialize_of found = is_found (codes "materialize") found

-- `--cold` is there.
abbrev pub cold_of : Found → Bool
cold_of found = is_found (codes "cold") found

-- `live --group B` with this number, where `--batch` must not be there.
abbrev pub live_groups_of : Found → ℕ → Option Command
live_groups_of found threshold =
    if is_some (number_for (codes "batch") found) then None else Some (LiveGroups threshold (materialize_of found))

-- `live`, which has shared buffers if `--group B` is there.
abbrev pub live_of : Found → Option Command
live_of found =
    option_map_or (live_groups_of found) (number_for (codes "group") found) (Some (Live (batch_of found) (materialize_of found)))

-- `serve --read`, where `--batch` must not be there.
abbrev pub serve_read_of : Found → Option Command
serve_read_of found = if is_some (number_for (codes "batch") found) then None else Some ServeRead

-- `serve`, which only answers questions if `--read` is there.
abbrev pub serve_of : Found → Option Command
serve_of found = if is_found (codes "read") found then serve_read_of found else Some (Serve (batch_of found))

-- At most a million points in all.
abbrev pub sample_within : ℕ → ℕ → ℕ → Option Command
sample_within number streams points = if nat_le (streams * points) 1000000 then Some (Sample number streams points) else None

-- `format --blocks N`, where the number must be there.
abbrev pub format_of : Found → Option Command
format_of found = option_map (λ n. Format n) (number_for (codes "blocks") found)

-- `load` with these two numbers, both of which must be there.
abbrev pub loaded : Option ℕ → Option ℕ → Option Command
loaded workers batch = option_and_then (λ k. option_map (λ b. Load k b) batch) workers

-- `sample` with these three numbers, all of which must be there.
abbrev pub sampled : Option ℕ → Option ℕ → Option ℕ → Option Command
sampled number streams points = option_and_then (λ n. option_and_then (λ s. option_and_then (sample_within n s) points) streams) number

-- `sample NUMBER STREAMS POINTS`, where all three must be there.
abbrev pub sample_of : Found → Option Command
sample_of found = sampled (number_for (codes "number") found) (number_for (codes "streams") found) (number_for (codes "points") found)

-- `ship FROM`, where the number must be there.
abbrev pub ship_of : Found → Option Command
ship_of found = option_map (λ n. Ship n) (number_for (codes "from") found)

-- The command of this name with these words after it.
abbrev pub command_with : Text → List Text → Option Command
command_with name words =
    if bytes_eq (codes "format") name then option_and_then format_of (option_numbers (blocks_argument ∷ []) words)
    else (if bytes_eq (codes "load") name
    then option_map (λ found. Load (workers_of found) (batch_of found)) (option_numbers (workers_argument ∷ batch_argument ∷ []) words)
    else (if bytes_eq (codes "ask") name then option_map (λ found. Ask (cold_of found)) (option_numbers (cold_argument ∷ []) words)
    else (if bytes_eq (codes "distil") name
    then option_map (λ found. Distil (workers_of found)) (option_numbers (workers_argument ∷ []) words)
    else (if bytes_eq (codes "live") name then option_and_then live_of (option_numbers live_arguments words)
    else (if bytes_eq (codes "sample") name
    then option_and_then sample_of (numbers_in_order sample_arguments (without_marker words))
    else (if bytes_eq (codes "checkpoint") name then option_map (λ found. Checkpoint) (option_numbers [] words)
    else (if bytes_eq (codes "seal") name then option_map (λ found. Seal) (option_numbers [] words)
    else (if bytes_eq (codes "check") name then option_map (λ found. Check) (option_numbers [] words)
    else (if bytes_eq (codes "ship") name
    then option_and_then ship_of (numbers_in_order (from_argument ∷ []) (without_marker words))
    else (if bytes_eq (codes "hear") name then option_map (λ found. Hear) (option_numbers [] words)
    else (if bytes_eq (codes "serve") name then option_and_then serve_of (option_numbers serve_arguments words) else None)))))))))))

abbrev pub command_of : List Text → Option Command
command_of [] = None
command_of (name ∷ words) = command_with name words

-- The numbers of the command lie in their bounds.
abbrev pub IsInBounds : Command → Type 0
IsInBounds (Format blocks) = (8 ≤ blocks) × (blocks ≤ 4294967296)
IsInBounds (Load workers batch) = (1 ≤ workers) × (workers ≤ 16) × (1 ≤ batch) × (batch ≤ 65536)
IsInBounds (Ask cold) = Unit {0}
IsInBounds (Distil workers) = (1 ≤ workers) × (workers ≤ 16)
IsInBounds (Live batch materialize) = (1 ≤ batch) × (batch ≤ 65536)
IsInBounds (LiveGroups threshold materialize) = (1 ≤ threshold) × (threshold ≤ 65536)
IsInBounds (Sample number streams points) =
    (number ≤ 2147483647) × (1 ≤ streams) × (streams ≤ 1000) × (1 ≤ points) × (points ≤ 1000000) × (streams * points ≤ 1000000)
IsInBounds Checkpoint = Unit {0}
IsInBounds Seal = Unit {0}
IsInBounds Check = Unit {0}
IsInBounds (Ship from) = (1 ≤ from) × (from ≤ 18446744073709551615)
IsInBounds Hear = Unit {0}
IsInBounds (Serve batch) = (1 ≤ batch) × (batch ≤ 65536)
IsInBounds ServeRead = Unit {0}
