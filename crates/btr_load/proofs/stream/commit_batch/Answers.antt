use Rattle.std.proofs.Common.{rules, refl, inl, inr, subst, List}
use Rattle.btr_hist.specs.declared.entry.Entry.{Entry}
use Rattle.btr_gate.specs.Prefixes.{StartsWith}
use Rattle.btr_gate.proofs.PrefixLemmas.{starts_refl}
use Rattle.btr_jobs.specs.Turns.{CommittedAfter}
use Rattle.btr_jobs.proofs.DoesLemmas.{does_none, does_implied}
use Rattle.btr_jobs.proofs.TurnLemmas.{commit_at, commit_turn}
use Rattle.btr_load.specs.Work.{OneBatchDid}
use Rattle.btr_load.proofs.stream.commit_batch.Goals as goal

pub returns-clause-at : goal.returns-clause-at
returns-clause-at g c =
    commit_at c.args.hall.now c.args.session.now c.commit.new.self c.in_ok-entry.entry c.commit.result c.commit.ensures.same c.commit.ensures.commits c.commit.ensures.session

pub returns-clause-does : goal.returns-clause-does
returns-clause-does g c =
    let turn = commit_turn c.args.hall.now c.args.session.now c.commit.new.self c.in_ok-entry.entry c.commit.result c.commit.ensures.same c.commit.ensures.commits in
    does_implied c.args.hall.now c.args.session.now c.commit.new.self
    (λ start log low own. (next : List Entry) × CommittedAfter start log low c.in_ok-entry.entry c.commit.result own next × StartsWith log.history next)
    (λ start log low own. OneBatchDid start log low c.args.stream c.args.batch.now c.commit.result own)
    (λ start log low own did. (did.0, inl (subst (λ e. CommittedAfter start log low e c.commit.result own did.0) c.in_ok-entry.ensures did.1), did.2)) turn

pub returns-in_err-entry-clause-does : goal.returns-in_err-entry-clause-does
returns-in_err-entry-clause-does g c =
    does_none c.args.hall.now c.args.session.now (λ start log low own. OneBatchDid start log low c.args.stream c.args.batch.now c.from_residual.result own)
    (λ start log. (log.history, inr (search rules, record { own = refl; next = refl }), starts_refl log.history))
