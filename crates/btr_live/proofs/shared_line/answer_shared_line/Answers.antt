-- A line of feeds is done by shared buffers, another one without them.
use Rattle.std.specs.Prelude.{Some}
use Rattle.std.proofs.Common.{refl, ap, sym, subst, ◌∙◌, Option}
use Rattle.btr_text.specs.declared.script.Line.{Line}
use Rattle.btr_text.specs.declared.script.Line.TheVariants as lines
use Rattle.btr_text.specs.declared.reply.Reason.TheVariants as reasons
use Rattle.btr_text.specs.declared.reply.LineReply.TheVariants.{No}
use Rattle.btr_live.specs.Serving.{ServesShared}
use Rattle.btr_live.proofs.SharedLemmas.{alone_serves, asks_nothing, here_shares, shared_serves}
use Rattle.btr_live.proofs.shared_line.answer_shared_line.Goals as goal

pub returns-in-Discard-clause-line : goal.returns-in-Discard-clause-line
returns-in-Discard-clause-line g c =
    subst (λ (l : Option Line). ServesShared g.G.Groups c.args.hall.now c.args.session.now c.args.session.now c.args.groups.now c.args.groups.now l (No reasons.Line)) (sym (c.in-Some.is ∙ ap (λ (l : Line). Some l) c.in-Discard.is))
    (shared_serves g.G.Groups c.args.hall.now c.args.session.now c.args.session.now c.args.groups.now c.args.groups.now (Some (lines.Discard c.in-Discard.id)) (No reasons.Line)
    (here_shares g.G.Groups c.args.hall.now c.args.session.now c.args.groups.now (Some (lines.Discard c.in-Discard.id)) reasons.Line (λ h. refl)))

pub returns-in_default-clause-line : goal.returns-in_default-clause-line
returns-in_default-clause-line g c =
    let line = c.in-Some.line in
    let hall = c.args.hall.now in
    let new = c.answer_alone-in_default.new.session in
    let was = c.args.groups.now in
    let reply = c.answer_alone-in_default.result in
    subst (λ (l : Option Line). ServesShared g.G.Groups hall c.args.session.now new was was l reply) (sym c.in-Some.is)
    (alone_serves g.G.Groups hall c.args.session.now new was was (Some line) reply refl
    (asks_nothing line c.in_default.not-Feed c.in_default.not-Flush c.in_default.not-Discard (g.G.Groups.has_group was))
    c.answer_alone-in_default.ensures.serves)
