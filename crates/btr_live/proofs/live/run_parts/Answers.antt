-- The lanes ran, and their replies are in the order of the script.
use Rattle.std.specs.Prelude.{◌≡◌, length, slice_get, List}
use Rattle.std.proofs.Common.{sym, ap, subst, ◌∙◌, arith}
use Rattle.std.proofs.lemmas.List.{length-map}
use Rattle.btr_text.specs.declared.script.ScriptLine.{ScriptLine}
use Rattle.btr_jobs.specs.Jobs.{AllDid, AllKeep}
use Rattle.btr_live.specs.declared.part.ScriptPart.{ScriptPart}
use Rattle.btr_live.specs.Lanes.{in_feeds}
use Rattle.btr_live.specs.OneHistory.{lanes_of, RunsAll}
use Rattle.btr_live.specs.Parts.{PartDid, AreLanesOf, feeds_of}
use Rattle.btr_live.proofs.PartLemmas.{prepared_run, fed_after, back_feeds, back_keeps, back_length}
use Rattle.btr_live.proofs.HistoryLemmas.{does_later, lanes_ran}
use Rattle.btr_live.proofs.live.run_parts.Goals as goal

pub take_feeds-requires-clause-room : goal.take_feeds-requires-clause-room
take_feeds-requires-clause-room g c =
    let long = back_length g.F.Feeding.keeps c.args.feeds.items c.in-Ok.ready.works.items c.in-Ok.ready.rounds c.as_mut_slice-all.result.now c.run_jobs.new.jobs c.in_order.new.parts c.assemble.new.parts.items c.assemble.new.parts.len
    (subst (λ (ps : List (ScriptPart g.row.F.Denot)). AreLanesOf c.args.feeds.items c.in-Ok.ready.works.items c.in-Ok.ready.rounds ps) (sym c.as_mut_slice-all.ensures.value) c.assemble.ensures)
    c.run_jobs.ensures.keep c.run_jobs.ensures.jobs c.in_order.ensures.feeds c.in_order.ensures.parts c.as_mut_slice-all.ensures.value c.assemble.new.parts.ok.0 in
    omega (arith, long, c.requires.script.1, c.in-Ok.ensures.feeds_room)

pub returns-clause-keeps : goal.returns-clause-keeps
returns-clause-keeps g c =
    let back = back_feeds g.F.Feeding.keeps c.args.feeds.items c.in-Ok.ready.works.items c.in-Ok.ready.rounds c.as_mut_slice-all.result.now c.run_jobs.new.jobs c.in_order.new.parts c.assemble.new.parts.items c.assemble.new.parts.len
    (subst (λ (ps : List (ScriptPart g.row.F.Denot)). AreLanesOf c.args.feeds.items c.in-Ok.ready.works.items c.in-Ok.ready.rounds ps) (sym c.as_mut_slice-all.ensures.value) c.assemble.ensures)
    c.run_jobs.ensures.keep c.run_jobs.ensures.jobs c.in_order.ensures.feeds c.in_order.ensures.parts c.as_mut_slice-all.ensures.value c.assemble.new.parts.ok.0 in
    subst (λ (l : List g.row.F.Denot). AllKeep g.F.Feeding.keeps c.args.feeds.items l) (sym (c.take_feeds.ensures ∙ back))
    (back_keeps g.F.Feeding.keeps c.args.feeds.items c.in-Ok.ready.works.items c.in-Ok.ready.rounds c.as_mut_slice-all.result.now c.run_jobs.new.jobs c.in_order.new.parts c.assemble.new.parts.items c.assemble.new.parts.len
    (subst (λ (ps : List (ScriptPart g.row.F.Denot)). AreLanesOf c.args.feeds.items c.in-Ok.ready.works.items c.in-Ok.ready.rounds ps) (sym c.as_mut_slice-all.ensures.value) c.assemble.ensures)
    c.run_jobs.ensures.keep c.run_jobs.ensures.jobs c.in_order.ensures.feeds c.in_order.ensures.parts c.as_mut_slice-all.ensures.value c.assemble.new.parts.ok.0)

pub returns-clause-each : goal.returns-clause-each
returns-clause-each g c =
    let script = c.args.script.items in
    let same = c.as_slice-lanes.ensures.value ∙ c.in-Ok.ensures.lanes in
    c.in_order.ensures.each ∙ ap length same ∙ length-map script (λ (line : ScriptLine). line.lane)

pub returns-clause-runs : goal.returns-clause-runs
returns-clause-runs g c =
    let ran = g.F.Feeding.ran in
    let laws = g.met.F.Feeding g.world.𝓛 g.world.𝓜 g.world.𝓡 ((λ s x. x), (λ x. x), (λ x. x), λ x. x) in
    let script = c.args.script.items in
    let feeds = c.args.feeds.items in
    let ready = c.in-Ok.ready in
    let is = c.in-Ok.ensures in
    let before = c.as_mut_slice-all.result.now in
    let after = c.run_jobs.new.jobs in
    let replies = c.in_order.new.replies.items in
    let back = c.take_feeds.new.feeds.items in
    let value = c.as_mut_slice-all.ensures.value in
    let are : AreLanesOf feeds ready.works.items ready.rounds before = subst (AreLanesOf feeds ready.works.items ready.rounds) (sym value) c.assemble.ensures in
    let prepared = prepared_run c.args.beside.materialize script feeds ready.works.items ready.rounds before is.lines is.rounds are in
    let back_is : back ≡ feeds_of after = c.take_feeds.ensures ∙ back_feeds g.F.Feeding.keeps c.args.feeds.items c.in-Ok.ready.works.items c.in-Ok.ready.rounds c.as_mut_slice-all.result.now c.run_jobs.new.jobs c.in_order.new.parts c.assemble.new.parts.items c.assemble.new.parts.len
    (subst (λ (ps : List (ScriptPart g.row.F.Denot)). AreLanesOf c.args.feeds.items c.in-Ok.ready.works.items c.in-Ok.ready.rounds ps) (sym c.as_mut_slice-all.ensures.value) c.assemble.ensures)
    c.run_jobs.ensures.keep c.run_jobs.ensures.jobs c.in_order.ensures.feeds c.in_order.ensures.parts c.as_mut_slice-all.ensures.value c.assemble.new.parts.ok.0 in
    let lanes = c.as_slice-lanes.result.now in
    let same : lanes ≡ lanes_of script = c.as_slice-lanes.ensures.value ∙ is.lanes in
    let each : length replies ≡ length script = c.in_order.ensures.each ∙ ap length same ∙ length-map script (λ (line : ScriptLine). line.lane) in
    does_later c.args.hall.now c.args.session.now c.run_jobs.new.session
    (λ start log low own. AllDid (PartDid ran) start log low before after own)
    (λ start log low own. RunsAll (in_feeds ran feeds back) c.args.beside.materialize start log low script replies own)
    (λ start log low own starts did.
    lanes_ran ran laws.each feeds c.args.beside.materialize script before after prepared replies each lanes same c.in_order.ensures.in_lanes back
    (λ start log low own did k. fed_after g.F.Feeding.keeps feeds ready.works.items ready.rounds before after are c.run_jobs.ensures.keep k ∙ ap (λ (l : List g.row.F.Denot). slice_get l k) (sym back_is))
    start log low own starts did)
    c.run_jobs.ensures.does
