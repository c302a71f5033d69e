-- The line is one more of those that ran.
use Rattle.btr_jobs.proofs.DoesLemmas.{does_then}
use Rattle.std.proofs.Common.{◌≡◌, ◌++◌, ◌∷◌, []}
use Rattle.btr_live.specs.Feeds.{waiting_of}
use Rattle.btr_live.specs.Serving.{LineAsks, Serves, was_reported}
use Rattle.btr_live.specs.Running.{RunsTo}
use Rattle.btr_live.proofs.ReportedLemmas.{has_failed, reported_failed}
use Rattle.btr_live.proofs.LaneLemmas.{runs_push}
use Rattle.btr_live.proofs.next_line.answer_next.Goals as goal

pub returns-clause-goes : goal.returns-clause-goes
returns-clause-goes g c = (c.answer_line.ensures.line.0, c.answer_line.ensures.line.1)

pub returns-clause-next : goal.returns-clause-next
returns-clause-next g c = λ begun lines replies ran.
    let hall = c.args.hall.now in
    let old = c.args.session.now in
    let new = c.answer_line.new.session in
    let batch = c.args.feeds.now.batch in
    let w = waiting_of c.args.feeds.now in
    let after = waiting_of c.answer_line.new.feeds in
    let reply = c.answer_line.result in
    let line = c.args.line in
    let seen = was_reported hall old in
    does_then hall begun old new
    (λ start log low own. RunsTo batch start log low lines replies own w × (seen ≡ has_failed start log))
    (λ start log low own. Serves start log seen low (LineAsks batch w line reply after) reply own)
    (λ start log low own. RunsTo batch start log low (lines ++ line ∷ []) (replies ++ reply ∷ []) own after)
    c.answer_line.ensures.at
    (λ start late early low a b on starts first second. runs_push batch start late early low lines replies line reply w after a b seen on first.1 first.0 second)
    (ran.0, ran.1, λ h of. (ran.2 h of, reported_failed h hall old))
    c.answer_line.ensures.line
