-- The command is that of the name and the rows that were found.
use Rattle.std.proofs.Common.{◌≡◌, ◌∙◌, ap₂, List, Option, Some, None}
use Rattle.std.specs.Option.{option_map}
use Rattle.clap.specs.Words.{Row}
use Rattle.clap.specs.declared.parser.matches.ArgMatches.TheViews.{out-ArgMatches}
use Rattle.btr_words.specs.Words.{Text}
use Rattle.btr_words.specs.Program.{command_of_rows, command_with_rows}
use Rattle.btr_words.proofs.read.command_in.Goals as goal

same : {A : Type 0} (a b : A) → Some a ≡ Some b → a ≡ b
same a b is = cc

-- The command of what was found, by its name and its rows.
found : {B : Type 0} (name_of : B → Text) (rows_of : B → List Row) (o : Option B) (name : Text) (rows : List Row) → Some name ≡ option_map name_of o → Some rows ≡ option_map (λ (p : Text × List Row). p.1) (option_map (λ (b : B). (name_of b, rows_of b)) o) → command_with_rows name rows ≡ command_of_rows (option_map (λ (b : B). (name_of b, rows_of b)) o)
found name_of rows_of None name rows a b = absurd (cc)
found name_of rows_of (Some x) name rows a b = ap₂ command_with_rows (same name (name_of x) a) (same rows (rows_of x) b)

pub returns : goal.returns
returns c = c.command_named.ensures ∙ found _ _ (out-ArgMatches c.args.matches.now).subcommand _ _ c.in_ok-name.ensures.name c.in_ok-name.ensures.rows
