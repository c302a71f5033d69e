use Rattle.std.proofs.Common.{arith, append_assoc}
use Rattle.std.proofs.lemmas.Grind.{common_steps}
use Rattle.btr_text.proofs.TextLemmas.{join_words}
use Rattle.btr_text.proofs.text.append_line.Goals as goal

pub returns-clause-ok : goal.returns-clause-ok
returns-clause-ok c =
    let j = join_words (λ w. w.now) c.args.first.now c.args.rest.now in
    grind (arith, common_steps, append_assoc)
