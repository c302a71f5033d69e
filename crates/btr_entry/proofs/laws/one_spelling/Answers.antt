use Rattle.btr_entry.proofs.SpellingLemmas.{same_entry}
use Rattle.btr_entry.proofs.laws.one_spelling.Goals as goal

pub returns : goal.returns
returns c = same_entry
