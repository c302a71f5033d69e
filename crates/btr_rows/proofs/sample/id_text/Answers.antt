use Rattle.std.proofs.Common.{rules}
use Rattle.btr_rows.proofs.SampleLemmas.{text_of_id}
use Rattle.btr_rows.proofs.sample.id_text.Goals as goal

pub returns : goal.returns
returns c = search (rules, text_of_id)
