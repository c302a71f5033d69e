use Rattle.std.proofs.Common.{◌≡◌, ◌∙◌, ◌++◌, ℕ, List, [], Result, Ok, Err, OnErr, sym, ap, subst}
use Rattle.std.specs.Vec.{with_items}
use Rattle.std.proofs.lemmas.List.{with_items_is}
use Rattle.btr_hist.specs.declared.entry.Entry.{Entry}
use Rattle.btr_streams.specs.Snapshot.{IsSnapshotOf}
use Rattle.btr_hall.proofs.SessionLemmas.{alone_alike}
use Rattle.btr_jobs.specs.States.{StoreState, LogState}
use Rattle.btr_jobs.specs.Jobs.{AllDid, DidInTurn, Does}
use Rattle.btr_jobs.proofs.DoesLemmas.{does_implied, does_then}
use Rattle.btr_load.specs.Work.{CommitsStream}
use Rattle.btr_load.specs.Plan.{ArePlanned, AreReady, AreStreamsSettled}
use Rattle.btr_load.specs.Loads.{Loads, LoadsInTurn, LoadedValue}
use Rattle.btr_load.proofs.LoadLemmas.{look_alone, load_is, load_turn}
use Rattle.btr_load.proofs.loading.load.Goals.{After-run_jobs}
use Rattle.btr_load.proofs.loading.load.Goals as goal

-- The streams of the plan are those of the rows, and no create of them was tried.
planned_at : (g : _) (c : After-run_jobs g) (low : List Entry) → IsSnapshotOf low c.in_ok-snapshot.snapshot → ArePlanned low c.args.batch c.args.rows.streams c.deref_mut.result.now
planned_at g c low of =
    subst (λ l. ArePlanned low c.args.batch l c.deref_mut.result.now) c.into_parts-rows.ensures.streams
    (subst (ArePlanned low c.args.batch c.into_parts-rows.result.0.items) (sym c.deref_mut.ensures.value) (c.in_ok-streams.ensures.planned low of))

ready_at : (g : _) (c : After-run_jobs g) → AreReady c.deref_mut.result.now
ready_at g c = subst AreReady (sym c.deref_mut.ensures.value) c.in_ok-streams.ensures.ready

-- The jobs begin with the streams that the creates left, and the load ends with those that the jobs left.
begun : (g : _) (c : After-run_jobs g) → c.deref_mut-2.result.now ≡ c.create_streams.new.streams
begun g c =
    c.deref_mut-2.ensures.value
    ∙ with_items_is c.in_ok-streams.streams c.create_streams.new.streams (c.create_streams.auto.streams ∙ c.deref_mut.ensures.len)

ended : (g : _) (c : After-run_jobs g) → (with_items (with_items c.in_ok-streams.streams c.create_streams.new.streams) c.run_jobs.new.jobs).items ≡ c.run_jobs.new.jobs
ended g c =
    with_items_is (with_items c.in_ok-streams.streams c.create_streams.new.streams) c.run_jobs.new.jobs (c.run_jobs.auto.jobs ∙ c.deref_mut-2.ensures.len)

-- What the creates leave of the streams of the plan, which was made at the snapshot.
abbrev Settled : (g : _) (c : After-run_jobs g) → StoreState → LogState → List Entry → List ℕ → Type 0
Settled g c start log low own =
    IsSnapshotOf low c.in_ok-snapshot.snapshot × AreStreamsSettled start log low low c.deref_mut.result.now c.create_streams.new.streams own log.history

-- The look and the creates after it settle the streams.
settles : (g : _) (c : After-run_jobs g) → Does c.args.hall.now c.args.session.now c.create_streams.new.session (Settled g c)
settles g c =
    let hall = c.args.hall.now in
    let snapshot = c.in_ok-snapshot.snapshot in
    let before = c.deref_mut.result.now in
    let mid = c.create_streams.new.streams in
    let look = look_alone hall c.args.session.now c.admit.new.self c.in_ok-snapshot.ensures.looks c.requires.alone (λ h. IsSnapshotOf h snapshot) c.in_ok-snapshot.ensures.snapshot in
    does_then hall c.args.session.now c.admit.new.self c.create_streams.new.session
    (λ start log low own. (own ≡ []) × (log.history ≡ low) × IsSnapshotOf low snapshot)
    (λ start log low own. (h : List Entry) → IsSnapshotOf h snapshot → AreStreamsSettled start log h low before mid own log.history)
    (Settled g c)
    c.create_streams.ensures.at
    (λ start late early low a b on starts first then. (
      first.2,
      subst (λ k. AreStreamsSettled start late low low before mid (k ++ b) late.history) (sym first.0)
          (subst (λ k. AreStreamsSettled start late low k before mid b late.history) first.1 (then low first.2)),
    ))
    look c.create_streams.ensures.does

pub returns-clause-alone : goal.returns-clause-alone
returns-clause-alone g c =
    alone_alike c.create_streams.new.session c.run_jobs.new.session c.run_jobs.ensures.does.1.paths c.create_streams.ensures.alone

pub returns-clause-loads : goal.returns-clause-loads
returns-clause-loads g c =
    let at = (goal.at.returns-clause-loads g c).After-run_jobs in
    let last = c.run_jobs.new.jobs in
    let refused = c.into_parts-rows.result.1.items in
    let all : LoadedValue = record { streams = last; refused = refused } in
    let reported : c.from_parts.result ≡ all = c.from_parts.ensures ∙ ap (λ s. record { streams = s; refused = refused }) (ended g at) in
    does_then c.args.hall.now c.args.session.now c.create_streams.new.session c.run_jobs.new.session
    (Settled g at)
    (λ start log low own. AllDid CommitsStream start log low c.deref_mut-2.result.now last own)
    (λ start log low own. Loads start log low c.args.rows c.args.batch c.from_parts.result own)
    c.run_jobs.ensures.at
    (λ start late early low a b on starts first then.
    subst (λ l. Loads start late low c.args.rows c.args.batch l (a ++ b)) (sym reported)
    (load_is start late early low c.args.rows c.args.batch c.deref_mut.result.now c.create_streams.new.streams last refused a b c.into_parts-rows.ensures.refused
    (planned_at g at low first.0) (ready_at g at) on first.1 (subst (λ l. AllDid CommitsStream start late early.history l last b) (begun g at) then)))
    (settles g at) c.run_jobs.ensures.does

pub returns-clause-in_turn : goal.returns-clause-in_turn
returns-clause-in_turn g c few =
    let at = (goal.at.returns-clause-in_turn g c).After-run_jobs in
    let last = c.run_jobs.new.jobs in
    let refused = c.into_parts-rows.result.1.items in
    let all : LoadedValue = record { streams = last; refused = refused } in
    let reported : c.from_parts.result ≡ all = c.from_parts.ensures ∙ ap (λ s. record { streams = s; refused = refused }) (ended g at) in
    does_then c.args.hall.now c.args.session.now c.create_streams.new.session c.run_jobs.new.session
    (Settled g at)
    (λ start log low own. DidInTurn CommitsStream start log low c.deref_mut-2.result.now last own)
    (λ start log low own. LoadsInTurn start log low c.args.rows c.args.batch c.from_parts.result own)
    c.run_jobs.ensures.at
    (λ start late early low a b on starts first then.
    subst (λ l. LoadsInTurn start late low c.args.rows c.args.batch l (a ++ b)) (sym reported)
    (load_turn start late early low c.args.rows c.args.batch c.deref_mut.result.now c.create_streams.new.streams last refused a b c.into_parts-rows.ensures.refused
    (planned_at g at low first.0) (ready_at g at) on first.1 (subst (λ l. DidInTurn CommitsStream start late early.history l last b) (begun g at) then)))
    (settles g at) (c.run_jobs.ensures.in_turn few)

-- what holds, holds if a result is an error
on_err_by : {T E P : Type 0} (result : Result T E) → P → OnErr result P
on_err_by (Ok x) p = tt
on_err_by (Err e) p = p

pub returns-in_err-streams-clause-refused : goal.returns-in_err-streams-clause-refused
returns-in_err-streams-clause-refused g c =
    let hall = c.args.hall.now in
    let snapshot = c.in_ok-snapshot.snapshot in
    let look = look_alone hall c.args.session.now c.admit.new.self c.in_ok-snapshot.ensures.looks c.requires.alone (λ h. IsSnapshotOf h snapshot) c.in_ok-snapshot.ensures.snapshot in
    on_err_by c.from_residual-in_err-streams.result
    (does_implied hall c.args.session.now c.admit.new.self (λ start log low own. (own ≡ []) × (log.history ≡ low) × IsSnapshotOf low snapshot) (λ start log low own. own ≡ []) (λ start log low own is. is.0) look)
