use Rattle.std.proofs.Common.{◌∙◌}
use Rattle.std.specs.Str.Parse.{ParsesUnsigned, ExplainsUnsignedError, HasUnsignedDigitsIfOk}
use Rattle.clap.specs.Words.{found_of, one_of, rows_of}
use Rattle.clap.proofs.WalkLemmas.{one_text-rows}
use Rattle.btr_words.proofs.Reading.{reads_number}
use Rattle.btr_words.proofs.read.number.Goals as goal

pub returns : goal.returns
returns c =
    let same = one_text-rows (found_of c.args.arguments.now) c.args.name.now in
    reads_number _ (λ bs r. ParsesUnsigned 64 10 bs r × ExplainsUnsignedError 10 bs r × HasUnsignedDigitsIfOk bs r) (λ u x g. g.0)
    c.get_one.result (one_of c.args.name.now (rows_of (found_of c.args.arguments.now)))
    (λ e. c.get_one.ensures.none (same ∙ e)) (λ t e. c.get_one.ensures.value t (same ∙ e))
