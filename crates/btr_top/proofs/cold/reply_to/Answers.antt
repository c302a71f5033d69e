-- A question about a stream is answered as such; and that about all streams is a question whichever history this is the shelf of.
use Rattle.std.specs.Prelude.{Option, Some}
use Rattle.std.proofs.Common.{sym, ◌∙◌, ap, subst}
use Rattle.btr_hist.specs.declared.query.Query.TheVariants as queries
use Rattle.btr_text.specs.declared.script.Line.{Line}
use Rattle.btr_live.specs.Meaning.{question}
use Rattle.btr_top.specs.Cold.{RepliesCold}
use Rattle.btr_top.proofs.ColdReplies.{line_answered}
use Rattle.btr_top.proofs.cold.reply_to.Goals as goal

pub returns-in-Ask-clause-replies : goal.returns-in-Ask-clause-replies
returns-in-Ask-clause-replies g c =
    let nodes = g.N.Nodes in
    let now = c.args.nodes.now in
    subst (λ (l : Option Line). RepliesCold nodes.is_observable (λ o. nodes.IsPage (nodes.contents now)) c.args.shelf.now l (nodes.faults now) (nodes.faults c.answer_stream.new.nodes) c.answer_stream.result)
    (sym (c.in-Some.is ∙ ap (λ (l : Line). Some l) c.in-Ask.is)) c.answer_stream.ensures.replies

pub returns-in-Streams-clause-replies : goal.returns-in-Streams-clause-replies
returns-in-Streams-clause-replies g c =
    let nodes = g.N.Nodes in
    let now = c.args.nodes.now in
    line_answered nodes.is_observable (λ o. nodes.IsPage (nodes.contents now)) c.args.shelf.now c.args.line queries.Streams
    (λ h of. ap (λ (l : Option Line). question h l) (c.in-Some.is ∙ ap (λ (l : Line). Some l) c.in-Streams.is)) (nodes.faults now) (nodes.faults c.answer_query.new.nodes) c.answer_query.result c.answer_query.ensures.replies
