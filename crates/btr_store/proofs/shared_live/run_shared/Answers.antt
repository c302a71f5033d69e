-- The buffers began, the lanes shared them, they were closed, and then there was the last round.
use Rattle.std.specs.Prelude.{◌≡◌, ℕ, List, [], length, nat_lt}
use Rattle.std.proofs.Common.{◌∙◌, refl, sym, subst}
use Rattle.btr_live.specs.OneHistory.{RunsAll}
use Rattle.btr_live.specs.Live.{LastRound}
use Rattle.btr_store.specs.Shared.{in_buffers}
use Rattle.btr_store.proofs.BatchLemmas.{WithGroups, groups_meet}
use Rattle.btr_hist.specs.declared.entry.Entry.{Entry}
use Rattle.btr_jobs.specs.States.{StoreState, LogState}
use Rattle.btr_jobs.specs.Jobs.{IsAt, Does}
use Rattle.btr_jobs.proofs.DoesLemmas.{does_none}
use Rattle.btr_group.specs.Sets.{AreSeatsOf}
use Rattle.btr_store.specs.SharedLines.{LanesShared, LanesRan}
use Rattle.btr_store.proofs.SharedLemmas.{if_err, run_shared, closed_unused, as_before, none_then, look_none, splits_at, groups_of_hall}
use Rattle.btr_store.proofs.shared_live.run_shared.Given.{Over}
use Rattle.btr_store.proofs.shared_live.run_shared.Goals.{After-close_groups, In-Ok, In-Err}
use Rattle.btr_store.proofs.shared_live.run_shared.Goals as goal

pub returns-in_err-streams-clause-none : goal.returns-in_err-streams-clause-none
returns-in_err-streams-clause-none g c =
    if_err c.from_residual.result _ (look_none c.args.hall.now c.args.session.now c.count_streams.new.session c.in_err-streams.ensures.looks)

pub returns-in_err-groups-clause-at : goal.returns-in_err-groups-clause-at
returns-in_err-groups-clause-at g c =
    (as_before c.args.hall.now c.count_streams.new.session c.begin_groups.new.session c.in_ok-streams.ensures.at c.begin_groups.ensures.session c.in_err-groups.ensures.refused).0

pub returns-in_err-groups-clause-none : goal.returns-in_err-groups-clause-none
returns-in_err-groups-clause-none g c =
    let hall = c.args.hall.now in
    let old = c.args.session.now in
    let looked = c.count_streams.new.session in
    let new = c.begin_groups.new.session in
    let same = as_before hall looked new c.in_ok-streams.ensures.at c.begin_groups.ensures.session c.in_err-groups.ensures.refused in
    if_err c.from_residual-in_err-groups.result _ (none_then hall old looked new same.0 (look_none hall old looked c.in_ok-streams.ensures.looks) same.1)

pub share_lanes-replies-requires-clause-at : goal.share_lanes-replies-requires-clause-at
share_lanes-replies-requires-clause-at g c κs within =
    splits_at c.args.hall.now c.in_ok-groups.groups.items c.count_streams.new.session c.begin_groups.new.session c.in_ok-streams.ensures.at c.in_ok-groups.ensures.begins.splits

pub share_lanes-replies-requires-clause-seats : goal.share_lanes-replies-requires-clause-seats
share_lanes-replies-requires-clause-seats g c κs within =
    (subst (λ gs. AreSeatsOf gs c.in_ok-groups.seats.items) (sym c.deref.ensures.value) c.in_ok-groups.ensures.begins.seats_are, c.in_ok-groups.ensures.begins.first_seats)

pub close_groups-requires-clause-groups : goal.close_groups-requires-clause-groups
close_groups-requires-clause-groups g c =
    groups_of_hall c.args.hall.now c.args.script.threshold 0 c.in_ok-groups.groups.items c.in_ok-groups.ensures.begins.groups_are

-- ---- the buffers were closed

-- What the lanes did that shared the buffers.
lanes_shared : (g : Over) (c : After-close_groups g) → LanesShared c.args.hall.now c.in_ok-groups.groups.items c.args.script.threshold c.args.script.beside.materialize c.args.script.lines.items c.begin_groups.new.session c.share_lanes-replies.new.session c.share_lanes-replies.result.0 c.share_lanes-replies.result.1.items
lanes_shared g c =
    subst (λ gs. LanesShared c.args.hall.now gs c.args.script.threshold c.args.script.beside.materialize c.args.script.lines.items c.begin_groups.new.session c.share_lanes-replies.new.session c.share_lanes-replies.result.0 c.share_lanes-replies.result.1.items)
    c.deref.ensures.value c.share_lanes-replies.ensures.runs

-- The sessions of the buffers met again, whatever the lanes did.
groups_met : (g : Over) (c : After-close_groups g) (What : StoreState → LogState → List Entry → List ℕ → Type 0) → Does c.args.hall.now c.begin_groups.new.session c.share_lanes-replies.new.session What → IsAt c.args.hall.now c.close_groups.new.session × Does c.args.hall.now c.count_streams.new.session c.close_groups.new.session (WithGroups What c.in_ok-groups.groups.items c.share_lanes-replies.result.1.items)
groups_met g c What does =
    groups_meet c.args.hall.now What c.in_ok-groups.groups.items c.share_lanes-replies.result.1.items c.count_streams.new.session c.begin_groups.new.session c.share_lanes-replies.new.session c.close_groups.new.session
    c.in_ok-streams.ensures.at c.in_ok-groups.ensures.begins.splits (λ at. (c.share_lanes-replies.ensures.at, does)) c.close_groups.ensures.closes

-- No line ran: nothing was added.
none_ran : (g : Over) (c : In-Err g) → IsAt c.args.hall.now c.close_groups.new.session × Does c.args.hall.now c.count_streams.new.session c.close_groups.new.session (λ start log low own. own ≡ [])
none_ran g c =
    let hall = c.args.hall.now in
    let split = c.begin_groups.new.session in
    let groups = c.in_ok-groups.groups.items in
    let seats = c.share_lanes-replies.result.1.items in
    let closed = (goal.at.In-Err g c).After-close_groups in
    let none = subst (λ r. LanesShared hall groups c.args.script.threshold c.args.script.beside.materialize c.args.script.lines.items split c.share_lanes-replies.new.session r seats) c.in-Err.is (lanes_shared g closed) in
    let both = groups_met g closed (λ start log low own. own ≡ [])
    (subst (λ s. Does hall split s (λ start log low own. own ≡ [])) (sym none.0) (does_none hall split (λ start log low own. own ≡ []) (λ start log. refl))) in
    (both.0, closed_unused hall c.count_streams.new.session c.close_groups.new.session groups seats none.1 both.1)

-- All lines ran.
lanes_ran : (g : Over) (c : In-Ok g) → LanesRan c.args.hall.now c.in_ok-groups.groups.items c.args.script.threshold c.args.script.beside.materialize c.args.script.lines.items c.begin_groups.new.session c.share_lanes-replies.new.session c.in-Ok.replies.items c.share_lanes-replies.result.1.items
lanes_ran g c =
    subst (λ r. LanesShared c.args.hall.now c.in_ok-groups.groups.items c.args.script.threshold c.args.script.beside.materialize c.args.script.lines.items c.begin_groups.new.session c.share_lanes-replies.new.session r c.share_lanes-replies.result.1.items)
    c.in-Ok.is (lanes_shared g (goal.at.In-Ok g c).After-close_groups)

abbrev WhatRan : (g : Over) (c : In-Ok g) → StoreState → LogState → List Entry → List ℕ → Type 0
WhatRan g c start log low own =
    RunsAll (in_buffers (λ stream. nat_lt stream (length c.in_ok-groups.groups.items)) c.args.script.threshold (lanes_ran g c).befores (lanes_ran g c).afters) c.args.script.beside.materialize start log low c.args.script.lines.items c.in-Ok.replies.items own

ran_met : (g : Over) (c : In-Ok g) → IsAt c.args.hall.now c.close_groups.new.session × Does c.args.hall.now c.count_streams.new.session c.close_groups.new.session (WithGroups (WhatRan g c) c.in_ok-groups.groups.items c.share_lanes-replies.result.1.items)
ran_met g c = groups_met g (goal.at.In-Ok g c).After-close_groups (WhatRan g c) (lanes_ran g c).runs

-- ---- the returns

pub returns-in-Err-clause-none : goal.returns-in-Err-clause-none
returns-in-Err-clause-none g c =
    let hall = c.args.hall.now in
    let old = c.args.session.now in
    let looked = c.count_streams.new.session in
    let closed = none_ran g (goal.at.returns-in-Err-clause-none g c).In-Err in
    none_then hall old looked c.close_groups.new.session closed.0 (look_none hall old looked c.in_ok-streams.ensures.looks) closed.1

pub returns-in-Err-clause-at : goal.returns-in-Err-clause-at
returns-in-Err-clause-at g c = (none_ran g (goal.at.returns-in-Err-clause-at g c).In-Err).0

pub last_round-last-requires-clause-at : goal.last_round-last-requires-clause-at
last_round-last-requires-clause-at g c κs within = (ran_met g (goal.at.last_round-last-requires-clause-at g c).In-Ok).0

pub returns-in-Ok-clause-runs : goal.returns-in-Ok-clause-runs
returns-in-Ok-clause-runs g c =
    let script = c.args.script in
    let begins = c.in_ok-groups.ensures.begins in
    let at = (goal.at.returns-in-Ok-clause-runs g c).In-Ok in
    let all = lanes_ran g at in
    let closed = ran_met g at in
    run_shared c.args.hall.now script.threshold script.beside.materialize script.lines.items (record { replies = c.in-Ok.replies; last = c.last_round-last.result }) all.befores all.afters all.fresh c.in_ok-groups.groups.items c.share_lanes-replies.result.1.items c.share_lanes-replies.new.session c.close_groups.new.session begins.groups_are c.close_groups.ensures.closes all.met
    c.args.session.now c.count_streams.new.session c.close_groups.new.session c.last_round-last.new.session c.requires.alone c.in_ok-streams.ensures.looks closed.0 c.last_round-last.ensures.at
    (λ h of. begins.streams_are ∙ c.in_ok-streams.ensures.streams h of)
    closed.1
    c.last_round-last.ensures.last
