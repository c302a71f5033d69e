use Rattle.std.specs.Prelude.{slice_get}
use Rattle.std.proofs.Common.{◌≡◌, ◌≤ℤ◌, List, ◌∙◌, ap, sym, arith, w64}
use Rattle.std.proofs.lemmas.Int.{ints, to_z-of_z}
use Rattle.std.proofs.lemmas.Result.{on_ok_weaker}
use Rattle.btr_base.specs.declared.point.Point.{Point}
use Rattle.btr_base.specs.Span.{SpanValue}
use Rattle.btr_base.proofs.WithinLemmas.{within-from}
use Rattle.btr_tree.specs.Change.{end_of}
use Rattle.btr_tree.specs.History.{bag}
use Rattle.btr_scan.specs.FirstLast.{first_within}
use Rattle.btr_scan.proofs.Outside.{none-from_end, all-from_start}
use Rattle.btr_scan.proofs.forward.next_in_span.Goals as goal

pub returns-then-time-end-clause-point : goal.returns-then-time-end-clause-point
returns-then-time-end-clause-point g c above h at =
    let span = c.args.span in
    let same = to_z-of_z w64 c.args.time c.ranges.time in
    let late = c.if-time-end.true in
    let end : c.end.result ≡ end_of span = c.end.ensures.end in
    c.requires.empty ∙ sym (ap (λ (x : List Point). slice_get x 0) (none-from_end c.args.time span.start (end_of span) (bag h) (omega (arith, ints)) (omega (arith, ints))))

pub returns-then-time-span-clause-point : goal.returns-then-time-span-clause-point
returns-then-time-span-clause-point g c =
    let span = c.args.span in
    let same = to_z-of_z w64 c.args.time c.ranges.time in
    let early = c.if-time-span.true in
    let start = ap (λ (u : SpanValue). u.start) c.span.view_is in
    let low : c.args.time ≤ℤ span.start = omega (arith, ints) in
    on_ok_weaker c.first_in_place.result (λ point above h at.
    point above h at ∙ ap (λ (x : List Point). slice_get x 0) (sym (all-from_start c.args.time span.start (end_of span) (bag h) low))) c.first_in_place.ensures.point

pub returns-clause-point : goal.returns-clause-point
returns-clause-point g c =
    let span = c.args.span in
    let same = to_z-of_z w64 c.args.time c.ranges.time in
    let late = c.if-time-span.false in
    let start = ap (λ (u : SpanValue). u.start) c.span.view_is in
    let high : span.start ≤ℤ c.args.time = omega (arith, ints) in
    on_ok_weaker c.next_in_place.result (λ point above h at.
    point above h at
    ∙ ap (λ x. first_within x (end_of span) (bag h)) same
    ∙ ap (λ (x : List Point). slice_get x 0) (sym (within-from span.start (end_of span) c.args.time (bag h) high))) c.next_in_place.ensures.point
