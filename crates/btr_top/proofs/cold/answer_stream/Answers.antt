-- The stream that is asked about is that of the shelf's history.
use Rattle.std.specs.Prelude.{ℕ, Option, Some}
use Rattle.std.proofs.Common.{refl, sym, ◌∙◌, ap, subst}
use Rattle.btr_hist.specs.declared.query.Query.{Query}
use Rattle.btr_hist.specs.Query.{of_stream}
use Rattle.btr_text.specs.declared.script.Line.TheVariants.{Ask}
use Rattle.btr_text.specs.declared.reply.Reason.TheVariants as reasons
use Rattle.btr_live.specs.Meaning.{Asks, on_stream}
use Rattle.btr_top.specs.Cold.{AnswersShelf}
use Rattle.btr_top.proofs.ColdReplies.{line_answered, line_refused}
use Rattle.btr_top.proofs.cold.answer_stream.Goals as goal

pub returns-in-None-clause-replies : goal.returns-in-None-clause-replies
returns-in-None-clause-replies g c =
    let nodes = g.N.Nodes in
    let now = c.args.nodes.now in
    line_refused nodes.is_observable (λ o. nodes.IsPage (nodes.contents now)) c.args.shelf.now (Some (Ask c.args.id c.args.query)) reasons.Stream
    (λ h of. ap (λ (s : Option ℕ). on_stream s (λ stream. Asks (of_stream c.args.query stream))) (sym (c.find.ensures h of) ∙ c.in-None.is)) refl (nodes.faults now) (nodes.faults now)

pub returns-in-Some-clause-replies : goal.returns-in-Some-clause-replies
returns-in-Some-clause-replies g c =
    let nodes = g.N.Nodes in
    let now = c.args.nodes.now in
    let has = λ (o : nodes.is_observable). nodes.IsPage (nodes.contents now) in
    let shelf = c.args.shelf.now in
    let from = nodes.faults now in
    let next = nodes.faults c.answer_query.new.nodes in
    let reply = c.answer_query.result in
    line_answered nodes.is_observable has shelf (Some (Ask c.args.id c.args.query)) (of_stream c.args.query c.in-Some.stream)
    (λ h of. ap (λ (s : Option ℕ). on_stream s (λ stream. Asks (of_stream c.args.query stream))) (sym (c.find.ensures h of) ∙ c.in-Some.is)) from next reply
    (subst (λ (q : Query). AnswersShelf nodes.is_observable has shelf q from next reply) c.of.ensures c.answer_query.ensures.replies)
