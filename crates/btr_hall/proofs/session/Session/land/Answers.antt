use Rattle.std.specs.Prelude.{length, None, Ok, Err}
use Rattle.std.proofs.Common.{◌∙◌, refl, sym, ap, subst, arith}
use Rattle.btr_gate.specs.Gates.{view}
use Rattle.btr_gate.specs.Views.{turn_list, with_entry, with_number}
use Rattle.btr_hall.specs.declared.land.LandFault.TheVariants.{Superseded}
use Rattle.btr_hall.specs.Session.{opening_of, seen_of}
use Rattle.btr_hall.specs.Commit.{Adds}
use Rattle.btr_hall.specs.Superseded.{StoreLands}
use Rattle.btr_hall.proofs.LandLemmas.{plan_later, step_lands, lands_of}
use Rattle.btr_hall.proofs.session.Session.land.Goals as goal

pub returns-in-Some-clause-lands : goal.returns-in-Some-clause-lands
returns-in-Some-clause-lands g c =
    let hall = c.args.hall.now in
    let old = c.args.self.now in
    let p = c.args.plan.now in
    let w = view c.home_turn-turn.new.pass in
    let l = turn_list w in
    let s = c.home_turn-turn.result.state in
    let gets = c.home_turn-turn.ensures.gets in
    let leaves = c.leave.ensures.leaves in
    lands_of hall old _ s s l p None (Err (Superseded c.in-Some.version)) gets.state gets.home (omega (arith, gets.turns, leaves.turns, ap length (leaves.mine ∙ ap (with_number w.mine l) gets.none ∙ gets.mine)))
    (λ h with_h. plan_later h (opening_of hall) l (seen_of old) p with_h gets.state.trace gets.begins (c.requires.planned h with_h))
    gets.begins gets.alone (leaves.seen ∙ ap (with_entry l) gets.none) (leaves.mine ∙ ap (with_number w.mine l) gets.none ∙ gets.mine)
    (refl, refl, c.in-Some.ensures)

pub returns-in-Ok-clause-lands : goal.returns-in-Ok-clause-lands
returns-in-Ok-clause-lands g c =
    let hall = c.args.hall.now in
    let old = c.args.self.now in
    let p = c.args.plan.now in
    let w = view c.home_turn-turn.new.pass in
    let l = turn_list w in
    let s = c.home_turn-turn.result.state in
    let gets = c.home_turn-turn.ensures.gets in
    let did = c.in-Ok.ensures.adds in
    let step = Ok c.in-Ok.receipt in
    let adds = subst (λ e. Adds s did.new e step did.added) c.entry-entry.ensures did.adds in
    lands_of hall old _ s did.new l p did.added (Ok c.in-Ok.receipt) gets.state gets.home (omega (arith, gets.turns, did.turns, ap length gets.mine))
    (λ h with_h. plan_later h (opening_of hall) l (seen_of old) p with_h gets.state.trace gets.begins (c.requires.planned h with_h))
    gets.begins gets.alone did.seen (did.mine ∙ ap (λ m. with_number m l did.added) gets.mine)
    (step_lands s did.new p did.added step adds c.in_default.ensures)

pub returns-in-Err-clause-lands : goal.returns-in-Err-clause-lands
returns-in-Err-clause-lands g c =
    let hall = c.args.hall.now in
    let old = c.args.self.now in
    let p = c.args.plan.now in
    let w = view c.home_turn-turn.new.pass in
    let l = turn_list w in
    let s = c.home_turn-turn.result.state in
    let gets = c.home_turn-turn.ensures.gets in
    let did = c.in-Err.ensures.adds in
    let step = Err c.in-Err.fault in
    let adds = subst (λ e. Adds s did.new e step did.added) c.entry-entry.ensures did.adds in
    lands_of hall old _ s did.new l p did.added _ gets.state gets.home (omega (arith, gets.turns, did.turns, ap length gets.mine))
    (λ h with_h. plan_later h (opening_of hall) l (seen_of old) p with_h gets.state.trace gets.begins (c.requires.planned h with_h))
    gets.begins gets.alone did.seen (did.mine ∙ ap (λ m. with_number m l did.added) gets.mine)
    (subst (λ f. StoreLands s did.new p did.added (Err f)) (sym c.land_fault.ensures) (step_lands s did.new p did.added step adds c.in_default.ensures))
