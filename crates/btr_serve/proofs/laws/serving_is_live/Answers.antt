-- The laws are lemmas: on what lines say, and by induction over the lines.
use Rattle.btr_serve.proofs.LawLemmas.{says_as_script, replies_are_the_same}
use Rattle.btr_serve.proofs.laws.serving_is_live.Goals as goal

pub returns-clause-input : goal.returns-clause-input
returns-clause-input c = says_as_script

pub returns-clause-replies : goal.returns-clause-replies
returns-clause-replies c = replies_are_the_same
