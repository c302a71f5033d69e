use Rattle.std.proofs.Common.{sym, ap}
use Rattle.std.specs.Option.{option_map}
use Rattle.std.specs.Int.{from_be_bytes, w128}
use Rattle.std.proofs.lemmas.Bool.{false≢true}
use Rattle.uuid.specs.Text.{parsed}
use Rattle.btr_base.proofs.DigitLemmas.{none_if_no_value}
use Rattle.btr_rows.proofs.field.read_id.Goals as goal

pub returns-in-Err : goal.returns-in-Err
returns-in-Err c = sym (ap (option_map (from_be_bytes w128)) (none_if_no_value (parsed c.args.field.now) (λ p. false≢true (c.in-Err.ensures.ok.1 p))))
