use Rattle.std.proofs.Common.{◌≡◌, ℕ, suc, ◌+◌, ◌++◌, refl, sym, ap, ◌∙◌, arith, append-nil}
use Rattle.std.proofs.lemmas.Result.{err_from_is_err_and}
use Rattle.btr_base.specs.Bag.{within}
use Rattle.btr_tree.specs.History.{bag}
use Rattle.btr_tree.specs.Nodes.{points_of, is_inner}
use Rattle.btr_tree.specs.Shape.{slot_start}
use Rattle.btr_tree.proofs.NodeLemmas.{slot-part, prefix-part}
use Rattle.btr_tree.proofs.RangeSlotLemmas.{range-from, range-to, between-is, rest-empty, slot-met, prefix-gap}
use Rattle.btr_scan.proofs.Places.{safe-at, held-later, safe-same}
use Rattle.btr_scan.proofs.Parts.{rows-more}
use Rattle.btr_scan.proofs.Refusals.{refused-passed, uses-passed}
use Rattle.btr_scan.proofs.span_walk.+walk.Goals as goal

pub append_in_slots-loop-i-init : goal.append_in_slots-loop-i-init
append_in_slots-loop-i-init g t c =
    let said = c.slots_between-first.ensures in
    let between = λ (below : ℕ) (e : c.args.span.height ≡ suc below). between-is c.args.span below _ _ c.args.range.from c.args.range.to _ _ e (range-from _ _ c.range.invariant c.range.view_is) (range-to _ _ c.range.invariant c.range.view_is) said.order said.place said.before said.first said.last said.behind in
    record {
      between = between;
      low = omega arith;
      high = omega (arith, said.order);
      same = refl;
      rises = omega arith;
      steps = omega arith;
      rows = λ h at. sym (ap (λ x. c.args.rows.now.items ++ x) ((between at.below at.above).before (bag h)) ∙ append-nil c.args.rows.now.items);
    }

pub append_in_slots-returns-then-i-last-clause-rows : goal.append_in_slots-returns-then-i-last-clause-rows
append_in_slots-returns-then-i-last-clause-rows g t c h at =
    let so_far = c.loop-i.invariant in
    let rest = rest-empty at.below c.args.span.start c.args.range.from c.args.range.to _ c.slots_between-first.result.1 h (g.S.NodeSource.inner_slot c.args.slots.now) c.loop-i.from (so_far.between at.below at.above) at.all so_far.high (λ m from to. c.in-Some.ensures.3 m from (omega (arith, c.if-i-last.true))) in
    so_far.rows h at
    ∙ ap (λ x. c.args.rows.now.items ++ x) rest
    ∙ ap (λ k. c.args.rows.now.items ++ within c.args.range.from c.args.range.to (points_of k c.args.span.start (bag h))) (sym at.above)

pub append_in_slots-append_in_place-requires : goal.append_in_slots-append_in_place-requires
append_in_slots-append_in_place-requires g t c κs o =
    let source = g.S.NodeSource in
    let slots = c.args.slots.now in
    let span = c.args.span in
    let part = c.slot.result in
    let i = c.in-Some.i in
    let found = c.in-Some.ensures in
    let so_far = c.loop-i.invariant in
    let below = c.requires.safe.below in
    let d = c.decreases in
    let up = c.requires.safe.above in
    let is = c.slot.ensures ∙ slot-part span below i up in
    let down : part.height ≡ below = ap (λ u. u.height) is in
    let all = safe-same source.IsSafe source.count (source.told c.args.state.now) (source.told c.loop-i.state) (source.inner_place slots) (source.inner_slot slots) span so_far.same c.requires.safe in
    let safe = safe-at (source.IsSafe (source.told c.loop-i.state)) source.count (source.inner_place slots) (source.inner_slot slots) span part i (source.site c.place.result) all found.1 c.slot.ensures c.place.ensures in
    let met = slot-met below span.start c.args.range.from c.args.range.to _ _ i part (so_far.between below up) is (omega (arith, so_far.low, found.0)) (omega (arith, c.if-i-last.false)) in
    (omega arith, (o.0, (o.1.0, (o.1.1.0, (o.1.1.1.0, (o.1.1.1.1.0, (o.1.1.1.1.1.0, (o.1.1.1.1.1.1, (safe, met)))))))))

pub append_in_slots-returns-in_err-append_in_place-clause-sound : goal.append_in_slots-returns-in_err-append_in_place-clause-sound
append_in_slots-returns-in_err-append_in_place-clause-sound g t c =
    let source = g.S.NodeSource in
    let found = c.in-Some.ensures in
    let p = err_from_is_err_and c.from_residual.result c.from_residual.ensures.1 in
    refused-passed _ _ c.from_residual.result c.in_err-append_in_place.field-0.0 (rw (← p.2) p.1) (λ e harmless h at.
    harmless (is_inner (suc at.below) c.args.span.start) h (held-later source.IsThere _ _ _ _ c.args.span c.slot.result h c.in-Some.i _ c.loop-i.invariant.same at found.1 c.slot.ensures c.place.ensures)) c.in_err-append_in_place.ensures.sound

pub append_in_slots-returns-in_err-append_in_place-clause-uses : goal.append_in_slots-returns-in_err-append_in_place-clause-uses
append_in_slots-returns-in_err-append_in_place-clause-uses g t c =
    let source = g.S.NodeSource in
    let p = err_from_is_err_and c.from_residual.result c.from_residual.ensures.1 in
    uses-passed source.told source.faults source.IsCaused c.args.state.now c.loop-i.state c.append_in_place.new.state c.from_residual.result c.in_err-append_in_place.field-0.0 (rw (← p.2) p.1) g.met.S.NodeSource.caused_earlier c.loop-i.invariant.same c.loop-i.invariant.rises c.in_err-append_in_place.ensures.uses

pub append_in_slots-loop-i-preserved : goal.append_in_slots-loop-i-preserved
append_in_slots-loop-i-preserved g t c =
    let source = g.S.NodeSource in
    let span = c.args.span in
    let start = span.start in
    let from = c.args.range.from in
    let to = c.args.range.to in
    let i = c.in-Some.i in
    let found = c.in-Some.ensures in
    let part = c.slot.result in
    let so_far = c.loop-i.invariant in
    let here = c.in_ok-append_in_place.ensures in
    record {
      between = so_far.between;
      low = omega (arith, so_far.low, found.0);
      high = omega (arith, c.if-i-last.false);
      same = here.uses.same ∙ so_far.same;
      rises = omega (arith, here.uses.rises, so_far.rises);
      steps = omega (arith, here.never_falls, so_far.steps);
      rows = λ h at.
          let below = at.below in
          let is = c.slot.ensures ∙ slot-part span below i at.above in
          let held = held-later source.IsAt _ _ _ _ span part h i _ so_far.same at found.1 c.slot.ensures c.place.ensures in
          let before = within start (slot_start below start i) (bag h) in
          let same = prefix-gap below start h (source.inner_slot c.args.slots.now) c.loop-i.from i at.all found.0 (omega (arith, found.1)) found.3 in
          let walked : c.loop-i.rows.items ≡ c.args.rows.now.items ++ within from to before = so_far.rows h at ∙ sym (ap (λ x. c.args.rows.now.items ++ within from to x) same) in
          rows-more before (points_of part.height part.start (bag h)) (within start (slot_start below start (i + 1)) (bag h)) from to c.args.rows.now.items c.loop-i.rows.items c.append_in_place.new.rows.items (prefix-part below start i h part is) walked (here.rows (is_inner (suc below) start) h held);
    }

pub append_in_slots-returns-clause-rows : goal.append_in_slots-returns-clause-rows
append_in_slots-returns-clause-rows g t c h at =
    let so_far = c.loop-i.invariant in
    let rest = rest-empty at.below c.args.span.start c.args.range.from c.args.range.to _ c.slots_between-first.result.1 h (g.S.NodeSource.inner_slot c.args.slots.now) c.loop-i.from (so_far.between at.below at.above) at.all so_far.high (λ m from to. c.in_default.ensures m from (omega (arith, c.slots_between-first.ensures.place))) in
    so_far.rows h at
    ∙ ap (λ x. c.args.rows.now.items ++ x) rest
    ∙ ap (λ k. c.args.rows.now.items ++ within c.args.range.from c.args.range.to (points_of k c.args.span.start (bag h))) (sym at.above)
