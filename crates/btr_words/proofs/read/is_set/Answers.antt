use Rattle.std.proofs.Common.{◌∙◌}
use Rattle.std.specs.Str.Parse.{ParsesBool}
use Rattle.clap.specs.Words.{found_of, one_of, rows_of}
use Rattle.clap.proofs.WalkLemmas.{one_text-rows}
use Rattle.btr_words.proofs.Reading.{reads_flag}
use Rattle.btr_words.proofs.read.is_set.Goals as goal

pub returns : goal.returns
returns c =
    let same = one_text-rows (found_of c.args.arguments.now) c.args.name.now in
    c.unwrap_or.ensures ∙ reads_flag _ (λ bs r. ParsesBool bs r) (λ u x g. g)
    c.get_one.result (one_of c.args.name.now (rows_of (found_of c.args.arguments.now)))
    (λ e. c.get_one.ensures.none (same ∙ e)) (λ t e. c.get_one.ensures.value t (same ∙ e))
