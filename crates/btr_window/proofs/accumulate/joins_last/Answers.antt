use Rattle.std.proofs.Common.{◌≡◌, ◌-◌, ◌+◌, ap, sym, ◌∙◌, arith, length, vec_len, to_z, of_z, w64}
use Rattle.std.proofs.lemmas.Int.{to_z-of_z}
use Rattle.btr_window.proofs.Adding.{counted-last_of, joins-last, behind-last}
use Rattle.btr_window.proofs.Bounds.{apart-times}
use Rattle.btr_window.proofs.accumulate.joins_last.Goals as goal

pub join-last-requires : goal.join-last-requires
join-last-requires c =
    let items = c.args.cells.now.items in
    let n = vec_len c.args.cells.now - 1 in
    let some = c.in-Some.ensures.item.3.0 in
    let is_last : n + 1 ≡ length items = omega arith in
    let few = counted-last_of items n is_last c.in-Some.last.now c.in-Some.ensures.item.1 in
    let room = c.requires.room in
    omega arith

pub returns-then-last-start-clause-joined : goal.returns-then-last-start-clause-joined
returns-then-last-start-clause-joined c _ =
    let items = c.args.cells.now.items in
    let n = vec_len c.args.cells.now - 1 in
    let some = c.in-Some.ensures.item.3.0 in
    let is_last : n + 1 ≡ length items = omega arith in
    let here : to_z w64 (of_z w64 c.in-Some.last.now.start) ≡ c.in-Some.last.now.start = grind (arith, to_z-of_z) in
    let there : to_z w64 (of_z w64 c.args.start) ≡ c.args.start = to_z-of_z w64 c.args.start c.ranges.start in
    joins-last items n is_last c.in-Some.last.now c.in-Some.ensures.item.1 c.args.start c.args.agg.now c.join-last.result (sym here ∙ ap (to_z w64) c.if-last-start.true ∙ there) c.join-last.ensures.numbers

pub returns-else-last-start-clause-apart : goal.returns-else-last-start-clause-apart
returns-else-last-start-clause-apart c _ =
    let items = c.args.cells.now.items in
    let n = vec_len c.args.cells.now - 1 in
    let some = c.in-Some.ensures.item.3.0 in
    let is_last : n + 1 ≡ length items = omega arith in
    behind-last items n is_last c.in-Some.last.now c.in-Some.ensures.item.1 c.args.start c.args.agg.now (apart-times c.in-Some.last.now.start c.args.start c.if-last-start.false)
