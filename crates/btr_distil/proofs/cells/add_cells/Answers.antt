use Rattle.std.proofs.Common.{◌≡◌, ◌+◌, [], ◌∷◌, ◌++◌, ◌∙◌, sym, ap, arith, take, append_assoc, append-nil, w64, to_z, of_z}
use Rattle.std.specs.List.{filter_map, cons_option}
use Rattle.std.proofs.lemmas.List.{take_more, take_all}
use Rattle.std.proofs.lemmas.List.Elements.{filter_map-append}
use Rattle.std.proofs.lemmas.Int.{to_z-of_z}
use Rattle.btr_cell.specs.Cells.{cell_point}
use Rattle.btr_distil.proofs.cells.add_cells.Goals as goal
use Rattle.btr_distil.proofs.cells.add_cells.Goals.{in-Some+in_ok-push-in-Some, in-None}

pub loop-cell-preserved : goal.loop-cell-preserved
loop-cell-preserved c =
    let xs = c.args.cells.now in
    let i = c.loop-cell.cell-index in
    let old = c.args.points.now.items in
    let f = cell_point c.args.which (to_z w64 (of_z w64 c.args.from)) in
    let x = c.cell-item.result in
    let before = filter_map f (take i xs) in
    let more : take (i + 1) xs ≡ take i xs ++ x ∷ [] = take_more xs i x (omega arith) ∙ ap (λ y. take i xs ++ y ∷ []) (sym c.cell-item.is) in
    let all : filter_map f (take (i + 1) xs) ≡ before ++ cons_option (f x) [] = ap (filter_map f) more ∙ filter_map-append f (take i xs) (x ∷ []) in
    elim c.match-point_of.branch [
      | in-Some+in_ok-push-in-Some w ↦
          ap (λ v. v.items) w.points-is
          ∙ w.in_ok-push-in-Some.ensures.items
          ∙ ap (λ l. l ++ w.in-Some.point ∷ []) c.loop-cell.invariant
          ∙ append_assoc old before (w.in-Some.point ∷ [])
          ∙ ap (λ o. old ++ (before ++ cons_option o [])) (sym w.in-Some.is ∙ c.point_of.ensures)
          ∙ ap (λ l. old ++ l) (sym all)
      | in-None w ↦
          ap (λ v. v.items) w.points-is
          ∙ c.loop-cell.invariant
          ∙ ap (λ l. old ++ l) (sym (append-nil before))
          ∙ ap (λ o. old ++ (before ++ cons_option o [])) (sym w.in-None.is ∙ c.point_of.ensures)
          ∙ ap (λ l. old ++ l) (sym all)
    ]

pub returns : goal.returns
returns c =
    let xs = c.args.cells.now in
    let old = c.args.points.now.items in
    c.loop-cell.invariant
    ∙ ap (λ l. old ++ filter_map (cell_point c.args.which (to_z w64 (of_z w64 c.args.from))) l) (take_all c.loop-cell.cell-index xs (omega arith))
    ∙ ap (λ t. old ++ filter_map (cell_point c.args.which t) xs) (to_z-of_z w64 c.args.from c.ranges.from)
