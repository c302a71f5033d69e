use Rattle.std.proofs.lemmas.Result.{on_ok_weaker, IfErr-weaker}
use Rattle.btr_engine.proofs.TravelLemmas.{ready_raised, written_raised, failed_raised, holds_raised, moments_raised, raise_moments}
use Rattle.btr_engine.proofs.travel.Ready.write.Goals as goal

pub append-requires-clause-ready : goal.append-requires-clause-ready
append-requires-clause-ready g c =
    (c.requires.ready.0, ready_raised c.args.log c.raise.new.log c.raise.new.log c.requires.ready.0 c.args.self.now c.raise.ensures.kept c.in_default.ensures.raised c.requires.ready.1)

pub returns-in-Err-clause-moments : goal.returns-in-Err-clause-moments
returns-in-Err-clause-moments g c e ready =
    raise_moments c.args.log c.raise.new.log e c.args.self.now c.raise.ensures.moments

pub returns-clause-written : goal.returns-clause-written
returns-clause-written g c =
    on_ok_weaker c.append.result.1 (written_raised c.args.log c.raise.new.log c.append.result.0 c.requires.ready.0 c.args.self.now c.raise.ensures.kept c.in_default.ensures.raised) c.append.ensures.written

pub returns-clause-failed : goal.returns-clause-failed
returns-clause-failed g c =
    IfErr-weaker c.append.result.1 _ _ (λ _ failed. failed_raised c.args.log c.raise.new.log c.append.result.0 c.requires.ready.0 c.args.self.now c.raise.ensures.kept c.in_default.ensures.raised failed) c.append.ensures.failed

pub returns-clause-holds : goal.returns-clause-holds
returns-clause-holds g c e ready =
    let r = c.args.self.now in
    let mid = c.raise.new.log in
    let raised = c.in_default.ensures.raised in
    on_ok_weaker c.append.result.1 (holds_raised c.args.log mid c.append.result.0 e r c.raise.ensures.kept raised c.in_default.ensures.holds)
    (c.append.ensures.holds e (ready_raised c.args.log mid mid e r c.raise.ensures.kept raised ready))

pub returns-clause-moments : goal.returns-clause-moments
returns-clause-moments g c e ready =
    let r = c.args.self.now in
    let mid = c.raise.new.log in
    let raised = c.in_default.ensures.raised in
    moments_raised c.args.log mid c.append.result.0 e r c.raise.ensures.kept raised c.in_default.ensures.holds c.raise.ensures.moments
    (c.append.ensures.moments e (ready_raised c.args.log mid mid e r c.raise.ensures.kept raised ready))
