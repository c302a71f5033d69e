-- How the words are read: what `clap` reads of the commands and their arguments, and what is made of its answer.
use Rattle.std.specs.Prelude.{ℕ, Bool, true, false, List, [], codes, if◌then◌else◌}
use Rattle.std.specs.Prelude.{Option, Some, None, is_some, option_map, option_and_then, unwrap_or}
use Rattle.std.specs.Option.{option_map_or}
use Rattle.std.specs.Str.{bytes_eq}
use Rattle.clap.specs.Words.{App, Row, Rule, Shape, new_app, new_rule, one_of, with_rule, with_subcommand}
use Rattle.clap.specs.Simple.{new_shape}
use Rattle.clap.specs.declared.builder.action.ArgAction.TheVariants as action
use Rattle.clap.specs.declared.builder.value_parser.ValueParser.TheVariants as vp
use Rattle.btr_words.specs.declared.command.Command.{Command}
use Rattle.btr_words.specs.declared.command.Command.TheVariants.{Format, Load, Ask, Distil, Live, LiveGroups}
use Rattle.btr_words.specs.declared.command.Command.TheVariants.{Checkpoint, Seal, Check, Ship, Hear, Serve, ServeRead}
use Rattle.btr_words.specs.Words.{Text, number_of, sampled}

-- An option of this name that takes a number.
abbrev pub option_in : Text → ℕ → ℕ → Rule
option_in name low high = record (new_rule name) { long = Some name; parser = Some (vp.Unsigned low high) }

-- A flag of this name.
abbrev pub flag_rule : Text → Rule
flag_rule name = record (new_rule name) { long = Some name; action = Some action.SetTrue }

-- A value in its place among the words, which is a number.
abbrev pub value_in : Text → ℕ → ℕ → Rule
value_in name low high = record (new_rule name) { parser = Some (vp.Unsigned low high) }

abbrev pub workers_rule : Rule
workers_rule = option_in (codes "workers") 1 16

abbrev pub batch_rule : Rule
batch_rule = option_in (codes "batch") 1 65536

abbrev pub group_rule : Rule
group_rule = option_in (codes "group") 1 65536

abbrev pub materialize_rule : Rule
materialize_rule = flag_rule (codes "materialize")

abbrev pub format_app : App
format_app = with_rule (new_app (codes "format")) (option_in (codes "blocks") 8 4294967296)

abbrev pub load_app : App
load_app = with_rule (with_rule (new_app (codes "load")) workers_rule) batch_rule

abbrev pub cold_rule : Rule
cold_rule = flag_rule (codes "cold")

abbrev pub ask_app : App
ask_app = with_rule (new_app (codes "ask")) cold_rule

abbrev pub distil_app : App
distil_app = with_rule (new_app (codes "distil")) workers_rule

abbrev pub live_app : App
live_app = with_rule (with_rule (with_rule (new_app (codes "live")) batch_rule) group_rule) materialize_rule

abbrev pub number_rule : Rule
number_rule = value_in (codes "number") 0 2147483647

abbrev pub streams_rule : Rule
streams_rule = value_in (codes "streams") 1 1000

abbrev pub points_rule : Rule
points_rule = value_in (codes "points") 1 1000000

abbrev pub sample_app : App
sample_app = with_rule (with_rule (with_rule (new_app (codes "sample")) number_rule) streams_rule) points_rule

abbrev pub checkpoint_app : App
checkpoint_app = new_app (codes "checkpoint")

abbrev pub seal_app : App
seal_app = new_app (codes "seal")

abbrev pub check_app : App
check_app = new_app (codes "check")

abbrev pub from_rule : Rule
from_rule = value_in (codes "from") 1 18446744073709551615

abbrev pub ship_app : App
ship_app = with_rule (new_app (codes "ship")) from_rule

abbrev pub hear_app : App
hear_app = new_app (codes "hear")

abbrev pub read_rule : Rule
read_rule = flag_rule (codes "read")

abbrev pub serve_app : App
serve_app = with_rule (with_rule (new_app (codes "serve")) batch_rule) read_rule

abbrev pub program_shape : Shape
program_shape = record (new_shape (codes "btr")) {
  no_binary_name = true;
  disable_help_flag = true;
  disable_help_subcommand = true;
  disable_version_flag = true;
  subcommand_required = true;
}

-- The program with its first three commands.
abbrev pub first_app : App
first_app = with_subcommand (with_subcommand (with_subcommand (record { top = program_shape; subs = [] }) format_app.top) load_app.top)
    ask_app.top

-- The program with all commands but those of frames and `serve`.
abbrev pub main_app : App
main_app =
    with_subcommand (with_subcommand (with_subcommand (with_subcommand (with_subcommand (with_subcommand
    first_app distil_app.top) live_app.top) sample_app.top) checkpoint_app.top) seal_app.top) check_app.top

abbrev pub program_app : App
program_app = with_subcommand (with_subcommand (with_subcommand main_app ship_app.top) hear_app.top) serve_app.top

-- The number that the rows have for an argument.
abbrev pub number_in : Text → List Row → ℕ → Option ℕ
number_in name rows high = option_and_then (number_of 0 high) (one_of name rows)

-- The rows say that a flag was given.
abbrev pub flag_in : Text → List Row → Bool
flag_in name rows = option_map_or (λ text. bytes_eq text (codes "true")) (one_of name rows) false

abbrev pub workers_in : List Row → ℕ
workers_in rows = unwrap_or (number_in (codes "workers") rows 255) 1

abbrev pub batch_in : List Row → ℕ
batch_in rows = unwrap_or (number_in (codes "batch") rows 4294967295) 4096

-- `live --group B` with this number, if the rows have none for `--batch`.
abbrev pub live_groups_in : List Row → ℕ → Option Command
live_groups_in rows threshold =
    if is_some (number_in (codes "batch") rows 4294967295) then None else Some (LiveGroups threshold (flag_in (codes "materialize") rows))

abbrev pub live_in : List Row → Option Command
live_in rows =
    option_map_or (live_groups_in rows) (number_in (codes "group") rows 4294967295)
    (Some (Live (batch_in rows) (flag_in (codes "materialize") rows)))

abbrev pub sample_in : List Row → Option Command
sample_in rows =
    sampled (number_in (codes "number") rows 4294967295) (number_in (codes "streams") rows 4294967295)
    (number_in (codes "points") rows 4294967295)

abbrev pub ship_in : List Row → Option Command
ship_in rows = option_map (λ n. Ship n) (number_in (codes "from") rows 18446744073709551615)

-- `serve --read`, if the rows have no number for `--batch`.
abbrev pub serve_read_in : List Row → Option Command
serve_read_in rows = if is_some (number_in (codes "batch") rows 4294967295) then None else Some ServeRead

abbrev pub serve_in : List Row → Option Command
serve_in rows = if flag_in (codes "read") rows then serve_read_in rows else Some (Serve (batch_in rows))

-- The command of this name with these rows of its arguments, if it reads lines or frames one after another, or is `ask`.
abbrev pub reader_with_rows : Text → List Row → Option Command
reader_with_rows name rows =
    if bytes_eq name (codes "live") then live_in rows
    else (if bytes_eq name (codes "hear") then Some Hear
    else (if bytes_eq name (codes "serve") then serve_in rows else Some (Ask (flag_in (codes "cold") rows))))

-- The command of this name with these rows of its arguments, if it is not one of the four of which `command_with_rows` says more.
abbrev pub other_with_rows : Text → List Row → Option Command
other_with_rows name rows =
    if bytes_eq name (codes "checkpoint") then Some Checkpoint
    else (if bytes_eq name (codes "seal") then Some Seal
    else (if bytes_eq name (codes "check") then Some Check
    else (if bytes_eq name (codes "ship") then ship_in rows else reader_with_rows name rows)))

-- The command of this name with these rows of its arguments.
abbrev pub command_with_rows : Text → List Row → Option Command
command_with_rows name rows =
    if bytes_eq name (codes "format") then option_map (λ n. Format n) (number_in (codes "blocks") rows 18446744073709551615)
    else (if bytes_eq name (codes "load") then Some (Load (workers_in rows) (batch_in rows))
    else (if bytes_eq name (codes "distil") then Some (Distil (workers_in rows))
    else (if bytes_eq name (codes "sample") then sample_in rows else other_with_rows name rows)))

-- The command of the subcommand that was found.
abbrev pub command_of_rows : Option (Text × List Row) → Option Command
command_of_rows None = None
command_of_rows (Some p) = command_with_rows p.0 p.1
