-- The stream of the line, if there is one, and whether it has a buffer.
use Rattle.std.specs.Prelude.{Some}
use Rattle.std.proofs.Common.{refl, sym, ◌∙◌}
use Rattle.btr_text.specs.declared.script.Line.TheVariants as lines
use Rattle.btr_jobs.proofs.TurnLemmas.{look_at}
use Rattle.btr_live.specs.SharedLines.{Leads}
use Rattle.btr_live.proofs.SharedLemmas.{no_stream_declined, output_declined, no_buffer_declined, on_buffer_shares}
use Rattle.btr_live.proofs.shared_line.lead.Goals as goal

pub returns-in-None : goal.returns-in-None
returns-in-None g c =
    no_stream_declined g.G.Groups c.args.hall.now c.args.session.now c.find.new.self c.args.groups.now (Some (lines.Flush c.args.id)) c.args.id (λ stream. Leads stream) (λ h. refl) c.find.ensures.looks
    c.find.ensures.session (let laws = g.met.G.Groups in laws.later_same c.args.groups.now) c.in-None.ensures.found

pub returns-in-Some-spec : goal.returns-in-Some-spec
returns-in-Some-spec g c =
    output_declined g.G.Groups c.args.hall.now c.args.session.now c.find.new.self c.args.groups.now (Some (lines.Flush c.args.id)) c.args.id (λ stream. Leads stream) (λ h. refl) c.find.ensures.looks
    c.find.ensures.session (let laws = g.met.G.Groups in laws.later_same c.args.groups.now) c.in-Some.found _ c.in-Some.ensures.found c.in-Some-spec.is

pub returns-else-has : goal.returns-else-has
returns-else-has g c =
    no_buffer_declined g.G.Groups c.args.hall.now c.args.session.now c.find.new.self c.args.groups.now (Some (lines.Flush c.args.id)) c.args.id (λ stream. Leads stream) (λ h. refl) c.find.ensures.looks
    c.find.ensures.session (let laws = g.met.G.Groups in laws.later_same c.args.groups.now) c.in-Some.found c.in-Some.ensures.found c.in-None-spec.is (sym c.has.ensures ∙ c.if-has.false)

pub returns-then-has-clause-at : goal.returns-then-has-clause-at
returns-then-has-clause-at g c =
    look_at c.args.hall.now c.args.session.now c.find.new.self c.find.ensures.looks c.find.ensures.session

pub returns-then-has-clause-shares : goal.returns-then-has-clause-shares
returns-then-has-clause-shares g c =
    on_buffer_shares g.G.Groups c.args.hall.now c.args.session.now c.find.new.self c.args.groups.now (Some (lines.Flush c.args.id)) c.args.id (λ stream. Leads stream) (λ h. refl) c.find.ensures.looks
    c.flush.new.self c.reply_of_flush.result c.in-Some.found c.in-Some.ensures.found c.in-None-spec.is (sym c.has.ensures ∙ c.if-has.true)
    (c.flush.result, c.flush.ensures.flushes, c.reply_of_flush.ensures, c.flush.ensures.others)
