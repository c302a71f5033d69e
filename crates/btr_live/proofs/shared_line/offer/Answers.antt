-- The stream of the line, if there is one, and whether it has a buffer.
use Rattle.std.specs.Prelude.{List, Some}
use Rattle.std.proofs.Common.{refl, sym, subst, ◌∙◌}
use Rattle.btr_base.specs.declared.point.Point.{Point}
use Rattle.btr_text.specs.declared.script.Line.TheVariants as lines
use Rattle.btr_jobs.proofs.TurnLemmas.{look_at}
use Rattle.btr_hall.specs.GroupCalls.{OffersTo}
use Rattle.btr_live.specs.SharedLines.{Gives}
use Rattle.btr_live.proofs.SharedLemmas.{no_stream_declined, output_declined, no_buffer_declined, on_buffer_shares}
use Rattle.btr_live.proofs.shared_line.offer.Goals as goal

pub returns-in-None : goal.returns-in-None
returns-in-None g c =
    no_stream_declined g.G.Groups c.args.hall.now c.args.session.now c.find.new.self c.args.groups.now (Some (lines.Feed c.args.id c.args.added.now)) c.args.id (λ stream. Gives stream c.args.added.now) (λ h. refl) c.find.ensures.looks
    c.find.ensures.session (let laws = g.met.G.Groups in laws.later_same c.args.groups.now) c.in-None.ensures.found

pub returns-in-Some-spec : goal.returns-in-Some-spec
returns-in-Some-spec g c =
    output_declined g.G.Groups c.args.hall.now c.args.session.now c.find.new.self c.args.groups.now (Some (lines.Feed c.args.id c.args.added.now)) c.args.id (λ stream. Gives stream c.args.added.now) (λ h. refl) c.find.ensures.looks
    c.find.ensures.session (let laws = g.met.G.Groups in laws.later_same c.args.groups.now) c.in-Some.found _ c.in-Some.ensures.found c.in-Some-spec.is

pub returns-else-has : goal.returns-else-has
returns-else-has g c =
    no_buffer_declined g.G.Groups c.args.hall.now c.args.session.now c.find.new.self c.args.groups.now (Some (lines.Feed c.args.id c.args.added.now)) c.args.id (λ stream. Gives stream c.args.added.now) (λ h. refl) c.find.ensures.looks
    c.find.ensures.session (let laws = g.met.G.Groups in laws.later_same c.args.groups.now) c.in-Some.found c.in-Some.ensures.found c.in-None-spec.is (sym c.has.ensures ∙ c.if-has.false)

pub returns-then-has-clause-at : goal.returns-then-has-clause-at
returns-then-has-clause-at g c =
    look_at c.args.hall.now c.args.session.now c.find.new.self c.find.ensures.looks c.find.ensures.session

pub returns-then-has-clause-shares : goal.returns-then-has-clause-shares
returns-then-has-clause-shares g c =
    on_buffer_shares g.G.Groups c.args.hall.now c.args.session.now c.find.new.self c.args.groups.now (Some (lines.Feed c.args.id c.args.added.now)) c.args.id (λ stream. Gives stream c.args.added.now) (λ h. refl) c.find.ensures.looks
    c.offer.new.self c.reply_of_offer.result c.in-Some.found c.in-Some.ensures.found c.in-None-spec.is (sym c.has.ensures ∙ c.if-has.true)
    (c.offer.result, subst (λ (ps : List Point). OffersTo c.in-Some.found.stream (g.G.Groups.threshold c.args.groups.now) (g.G.Groups.view_at c.args.groups.now c.in-Some.found.stream) (g.G.Groups.view_at c.offer.new.self c.in-Some.found.stream) ps c.offer.result) c.as_slice-points.ensures.points c.offer.ensures.offers, c.reply_of_offer.ensures, c.offer.ensures.others)
