-- The line is the only one.
use Rattle.std.proofs.Common.{[]}
use Rattle.btr_store.proofs.TranscriptLemmas.{says_none}
use Rattle.btr_store.proofs.sample.used_line.Goals as goal

pub returns : goal.returns
returns c = c.in_ok-add.ensures [] (says_none c.new-transcript.result c.new-transcript.ensures.status c.new-transcript.ensures.text)
