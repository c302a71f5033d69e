-- The last round, if it is wanted.
use Rattle.std.proofs.Common.{false, None, Some, refl, subst, sym}
use Rattle.btr_jobs.specs.Jobs.{Does}
use Rattle.btr_jobs.proofs.DoesLemmas.{does_none}
use Rattle.btr_live.specs.Live.{LastRound}
use Rattle.btr_live.proofs.RoundLemmas.{round_is_last}
use Rattle.btr_live.proofs.live.last_round.Goals as goal

pub returns-then-not-materialize-clause-last : goal.returns-then-not-materialize-clause-last
returns-then-not-materialize-clause-last g c =
    subst (λ m. Does c.args.hall.now c.args.session.now c.args.session.now (λ start log low own. LastRound start log low m None own)) (sym c.if-not-materialize.true)
    (does_none c.args.hall.now c.args.session.now (λ start log low own. LastRound start log low false None own) (λ start log n. refl))

pub returns-clause-last : goal.returns-clause-last
returns-clause-last g c =
    subst (λ m. Does c.args.hall.now c.args.session.now c.bring_current.new.session (λ start log low own. LastRound start log low m (Some c.bring_current.result) own)) (sym c.if-not-materialize.false)
    (round_is_last c.args.hall.now c.args.session.now c.bring_current.new.session c.bring_current.result c.bring_current.ensures.refused c.bring_current.ensures.refreshes)

pub returns-then-not-materialize-clause-wanted : goal.returns-then-not-materialize-clause-wanted
returns-then-not-materialize-clause-wanted g c = sym c.if-not-materialize.true

pub returns-clause-wanted : goal.returns-clause-wanted
returns-clause-wanted g c = sym c.if-not-materialize.false
