-- What each line does.
use Rattle.btr_hall.specs.Trace.{history_of}
use Rattle.btr_hall.specs.Session.{seen_of}
use Rattle.std.proofs.Common.{sym, ap, subst, refl, ◌∙◌, Option, Some, None, [], rules, w64, to_z, of_z, ℤ, FitsSigned, inl}
use Rattle.std.proofs.lemmas.Int.{to_z-of_z}
use Rattle.btr_hist.specs.declared.entry.Entry.TheVariants as entries
use Rattle.btr_hist.specs.declared.query.Query.TheVariants as queries
use Rattle.btr_hist.specs.History.{stream_of}
use Rattle.btr_hist.specs.Query.{of_stream}
use Rattle.btr_text.specs.declared.script.Line.{Line}
use Rattle.btr_text.specs.declared.script.Line.TheVariants as lines
use Rattle.btr_text.specs.declared.reply.LineReply.TheVariants.{No}
use Rattle.btr_text.specs.declared.reply.Reason.TheVariants as reasons
use Rattle.btr_live.specs.Feeds.{waiting_of}
use Rattle.btr_live.specs.Meaning.{Asks, Commits, Refuses, define, delete, on_stream}
use Rattle.btr_live.specs.Serving.{AsksFor, LineAsks, ServesIn}
use Rattle.btr_live.proofs.FeedLines.{plain_line}
use Rattle.btr_live.proofs.AskLines.{plain_serves}
use Rattle.btr_live.proofs.ServeLemmas.{refuses, replies_serve, serves_implied}
use Rattle.btr_live.proofs.line.answer_line.Goals as goal

pub returns-in-Some-Create-clause-line : goal.returns-in-Some-Create-clause-line
returns-in-Some-Create-clause-line g c =
    let arm = c.in-Some-Create in
    let hall = c.args.hall.now in
    let old = c.args.session.now in
    let new = c.commit.new.session in
    let w = waiting_of c.args.feeds.now in
    let batch = c.args.feeds.now.batch in
    subst (λ (l : Option Line). ServesIn hall old new (LineAsks batch w l c.commit.result w) c.commit.result) (sym (arm.is ∙ ap (λ (l : Line). Some l) arm.field-0-is))
    (plain_serves hall old new batch w (Some (lines.Create arm.id)) (λ a. Commits (entries.Create arm.id)) c.commit.result (λ a. refl) (λ a. refl)
    (replies_serve hall old new (AsksFor (λ a. Commits (entries.Create arm.id))) (Commits (entries.Create arm.id)) c.commit.result (λ h of. refl) c.commit.ensures.replies))

pub returns-in-Some-Insert-clause-line : goal.returns-in-Some-Insert-clause-line
returns-in-Some-Insert-clause-line g c =
    let arm = c.in-Some-Insert in
    let hall = c.args.hall.now in
    let old = c.args.session.now in
    let new = c.insert.new.session in
    let w = waiting_of c.args.feeds.now in
    let batch = c.args.feeds.now.batch in
    subst (λ (l : Option Line). ServesIn hall old new (LineAsks batch w l c.insert.result w) c.insert.result) (sym (arm.is ∙ ap (λ (l : Line). Some l) arm.field-0-is))
    (plain_serves hall old new batch w (Some (lines.Insert arm.id arm.added)) (λ a. on_stream (stream_of a arm.id) (λ s. Commits (entries.Commit s [] arm.added))) c.insert.result (λ a. refl) (λ a. refl) c.insert.ensures.serves)

pub returns-in-Some-Delete-clause-line : goal.returns-in-Some-Delete-clause-line
returns-in-Some-Delete-clause-line g c =
    let arm = c.in-Some-Delete in
    let hall = c.args.hall.now in
    let old = c.args.session.now in
    let new = c.delete.new.session in
    let w = waiting_of c.args.feeds.now in
    let batch = c.args.feeds.now.batch in
    let from_fits : FitsSigned w64 arm.from = search rules in
    let to_fits : FitsSigned w64 arm.to = search rules in
    let served = subst (λ (x : ℤ). ServesIn hall old new (AsksFor (λ a. on_stream (stream_of a arm.id) (λ s. delete s x arm.to))) c.delete.result) (to_z-of_z w64 arm.from from_fits)
    (subst (λ (x : ℤ). ServesIn hall old new (AsksFor (λ a. on_stream (stream_of a arm.id) (λ s. delete s (to_z w64 (of_z w64 arm.from)) x))) c.delete.result) (to_z-of_z w64 arm.to to_fits) c.delete.ensures.serves) in
    subst (λ (l : Option Line). ServesIn hall old new (LineAsks batch w l c.delete.result w) c.delete.result) (sym (arm.is ∙ ap (λ (l : Line). Some l) arm.field-0-is))
    (plain_serves hall old new batch w (Some (lines.Delete arm.id arm.from arm.to)) (λ a. on_stream (stream_of a arm.id) (λ s. delete s arm.from arm.to)) c.delete.result (λ a. refl) (λ a. refl) served)

pub returns-in-Some-Feed-clause-line : goal.returns-in-Some-Feed-clause-line
returns-in-Some-Feed-clause-line g c =
    let arm = c.in-Some-Feed in
    let hall = c.args.hall.now in
    let old = c.args.session.now in
    let new = c.feed.new.session in
    let w = waiting_of c.args.feeds.now in
    let batch = c.args.feeds.now.batch in
    let after = waiting_of c.feed.new.feeds in
    subst (λ (l : Option Line). ServesIn hall old new (LineAsks batch w l c.feed.result after) c.feed.result) (sym (arm.is ∙ ap (λ (l : Line). Some l) arm.field-0-is))
    c.feed.ensures.line

pub returns-in-Some-Flush-clause-line : goal.returns-in-Some-Flush-clause-line
returns-in-Some-Flush-clause-line g c =
    let arm = c.in-Some-Flush in
    let hall = c.args.hall.now in
    let old = c.args.session.now in
    let new = c.flush.new.session in
    let w = waiting_of c.args.feeds.now in
    let batch = c.args.feeds.now.batch in
    let after = waiting_of c.flush.new.feeds in
    subst (λ (l : Option Line). ServesIn hall old new (LineAsks batch w l c.flush.result after) c.flush.result) (sym (arm.is ∙ ap (λ (l : Line). Some l) arm.field-0-is))
    c.flush.ensures.line

pub returns-in-Some-Discard-clause-line : goal.returns-in-Some-Discard-clause-line
returns-in-Some-Discard-clause-line g c =
    let arm = c.in-Some-Discard in
    let hall = c.args.hall.now in
    let old = c.args.session.now in
    let new = c.discard.new.session in
    let w = waiting_of c.args.feeds.now in
    let batch = c.args.feeds.now.batch in
    let after = waiting_of c.discard.new.feeds in
    subst (λ (l : Option Line). ServesIn hall old new (LineAsks batch w l c.discard.result after) c.discard.result) (sym (arm.is ∙ ap (λ (l : Line). Some l) arm.field-0-is))
    c.discard.ensures.line

pub returns-in-Some-Distiller-clause-line : goal.returns-in-Some-Distiller-clause-line
returns-in-Some-Distiller-clause-line g c =
    let arm = c.in-Some-Distiller in
    let hall = c.args.hall.now in
    let old = c.args.session.now in
    let new = c.define.new.session in
    let w = waiting_of c.args.feeds.now in
    let batch = c.args.feeds.now.batch in
    subst (λ (l : Option Line). ServesIn hall old new (LineAsks batch w l c.define.result w) c.define.result) (sym (arm.is ∙ ap (λ (l : Line). Some l) arm.field-0-is))
    (plain_serves hall old new batch w (Some (lines.Distiller arm.id arm.kernel arm.lead arm.grain arm.first arm.second)) (λ a. define a arm.id arm.kernel arm.lead arm.grain arm.first arm.second) c.define.result (λ a. refl) (λ a. refl) c.define.ensures.serves)

pub returns-in-Some-Refresh-clause-line : goal.returns-in-Some-Refresh-clause-line
returns-in-Some-Refresh-clause-line g c =
    let arm = c.in-Some-Refresh in
    let hall = c.args.hall.now in
    let old = c.args.session.now in
    let new = c.refresh.new.session in
    let w = waiting_of c.args.feeds.now in
    let batch = c.args.feeds.now.batch in
    subst (λ (l : Option Line). ServesIn hall old new (LineAsks batch w l c.refresh.result w) c.refresh.result) (sym (arm.is ∙ ap (λ (l : Line). Some l) arm.field-0-is))
    (serves_implied hall old new _ _ c.refresh.result
    (λ h of a m starts means. plain_line batch a w (Some (lines.Refresh arm.id)) m c.refresh.result refl means)
    (c.refresh.ensures.serves batch w))

pub returns-in-Some-Retire-clause-line : goal.returns-in-Some-Retire-clause-line
returns-in-Some-Retire-clause-line g c =
    let arm = c.in-Some-Retire in
    let hall = c.args.hall.now in
    let old = c.args.session.now in
    let new = c.retire.new.session in
    let w = waiting_of c.args.feeds.now in
    let batch = c.args.feeds.now.batch in
    subst (λ (l : Option Line). ServesIn hall old new (LineAsks batch w l c.retire.result w) c.retire.result) (sym (arm.is ∙ ap (λ (l : Line). Some l) arm.field-0-is))
    (plain_serves hall old new batch w (Some (lines.Retire arm.id arm.first)) (λ a. on_stream (stream_of a arm.id) (λ s. Commits (entries.Retire s arm.first))) c.retire.result (λ a. refl) (λ a. refl) c.retire.ensures.serves)

pub returns-in-Some-Ask-clause-line : goal.returns-in-Some-Ask-clause-line
returns-in-Some-Ask-clause-line g c =
    let arm = c.in-Some-Ask in
    let hall = c.args.hall.now in
    let old = c.args.session.now in
    let new = c.ask_stream.new.session in
    let w = waiting_of c.args.feeds.now in
    let batch = c.args.feeds.now.batch in
    subst (λ (l : Option Line). ServesIn hall old new (LineAsks batch w l c.ask_stream.result w) c.ask_stream.result) (sym (arm.is ∙ ap (λ (l : Line). Some l) arm.field-0-is))
    (plain_serves hall old new batch w (Some (lines.Ask arm.id arm.query)) (λ a. on_stream (stream_of a arm.id) (λ s. Asks (of_stream arm.query s))) c.ask_stream.result (λ a. refl) (λ a. refl) c.ask_stream.ensures.serves)

pub returns-in-Some-Streams-clause-line : goal.returns-in-Some-Streams-clause-line
returns-in-Some-Streams-clause-line g c =
    let arm = c.in-Some-Streams in
    let hall = c.args.hall.now in
    let old = c.args.session.now in
    let new = c.ask.new.session in
    let w = waiting_of c.args.feeds.now in
    let batch = c.args.feeds.now.batch in
    subst (λ (l : Option Line). ServesIn hall old new (LineAsks batch w l c.ask.result w) c.ask.result) (sym (arm.is ∙ ap (λ (l : Line). Some l) arm.field-0-is))
    (plain_serves hall old new batch w (Some lines.Streams) (λ a. Asks queries.Streams) c.ask.result (λ a. refl) (λ a. refl) c.ask.ensures.serves)

pub returns-in-None-clause-line : goal.returns-in-None-clause-line
returns-in-None-clause-line g c =
    let hall = c.args.hall.now in
    let old = c.args.session.now in
    let w = waiting_of c.args.feeds.now in
    let batch = c.args.feeds.now.batch in
    subst (λ (l : Option Line). ServesIn hall old old (LineAsks batch w l (No reasons.Line) w) (No reasons.Line)) (sym c.in-None.is)
    (replies_serve hall old old (LineAsks batch w None (No reasons.Line) w) (Refuses reasons.Line) (No reasons.Line)
    (λ h of. plain_line batch (history_of h (seen_of old)) w None (Refuses reasons.Line) (No reasons.Line) refl (inl refl)) (refuses hall old reasons.Line))
