use Rattle.std.proofs.Common.{◌∙◌}
use Rattle.btr_work.proofs.DoneLemmas.{all-refreshed, turn-refreshed}
use Rattle.btr_work.proofs.current.bring_current.Goals as goal

pub returns-clause-refreshes : goal.returns-clause-refreshes
returns-clause-refreshes g c =
    let done = c.refresh_levels.ensures in
    let levels = c.deref_mut.ensures in
    all-refreshed c.args.hall.now c.args.session.now c.prepare_seen.new.session c.refresh_levels.new.session c.in_ok-work.work c.deref_mut.result.now c.refresh_levels.new.levels c.report_of.result done.at c.prepare_seen.ensures.looks (λ h of. c.in_ok-work.ensures.prepared h of) levels.value (done.levels ∙ levels.len) c.report_of.ensures done.done

pub returns-clause-in_turn : goal.returns-clause-in_turn
returns-clause-in_turn g c =
    let done = c.refresh_levels.ensures in
    let levels = c.deref_mut.ensures in
    λ few. turn-refreshed c.args.hall.now c.args.session.now c.prepare_seen.new.session c.refresh_levels.new.session c.in_ok-work.work c.deref_mut.result.now c.refresh_levels.new.levels c.report_of.result done.at c.prepare_seen.ensures.looks (λ h of. c.in_ok-work.ensures.prepared h of) levels.value (done.levels ∙ levels.len) c.report_of.ensures (done.in_turn few)
