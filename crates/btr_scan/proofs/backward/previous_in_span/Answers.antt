use Rattle.std.specs.Prelude.{None}
use Rattle.std.specs.List.{last_or}
use Rattle.std.proofs.Common.{◌≡◌, ◌≤ℤ◌, List, ◌∙◌, ap, sym, arith, w64}
use Rattle.std.proofs.lemmas.Int.{ints, to_z-of_z}
use Rattle.std.proofs.lemmas.Result.{on_ok_weaker}
use Rattle.btr_base.specs.declared.point.Point.{Point}
use Rattle.btr_base.specs.Span.{SpanValue}
use Rattle.btr_base.proofs.WithinLemmas.{within-before}
use Rattle.btr_tree.specs.Change.{end_of}
use Rattle.btr_tree.specs.History.{bag}
use Rattle.btr_scan.specs.FirstLast.{last_within}
use Rattle.btr_scan.proofs.Outside.{none-before_start, all-before_end}
use Rattle.btr_scan.proofs.backward.previous_in_span.Goals as goal

pub returns-then-time-span-clause-point : goal.returns-then-time-span-clause-point
returns-then-time-span-clause-point g c above h at =
    let span = c.args.span in
    let same = to_z-of_z w64 c.args.time c.ranges.time in
    let early = c.if-time-span.true in
    let start = ap (λ (u : SpanValue). u.start) c.span.view_is in
    c.requires.empty ∙ sym (ap (λ (x : List Point). last_or None x) (none-before_start c.args.time span.start (end_of span) (bag h) (omega (arith, ints)) (omega (arith, ints))))

pub returns-then-time-end-clause-point : goal.returns-then-time-end-clause-point
returns-then-time-end-clause-point g c =
    let span = c.args.span in
    let same = to_z-of_z w64 c.args.time c.ranges.time in
    let late = c.if-time-end.true in
    let end : c.end.result ≡ end_of span = c.end.ensures.end in
    let high : end_of span ≤ℤ c.args.time = omega (arith, ints) in
    on_ok_weaker c.last_in_place.result (λ point above h at.
    point above h at ∙ ap (λ (x : List Point). last_or None x) (sym (all-before_end c.args.time span.start (end_of span) (bag h) high))) c.last_in_place.ensures.point

pub returns-clause-point : goal.returns-clause-point
returns-clause-point g c =
    let span = c.args.span in
    let same = to_z-of_z w64 c.args.time c.ranges.time in
    let early = c.if-time-end.false in
    let end : c.end.result ≡ end_of span = c.end.ensures.end in
    let low : c.args.time ≤ℤ end_of span = omega (arith, ints) in
    on_ok_weaker c.previous_in_place.result (λ point above h at.
    point above h at
    ∙ ap (λ x. last_within span.start x (bag h)) same
    ∙ ap (λ (x : List Point). last_or None x) (sym (within-before span.start (end_of span) c.args.time (bag h) low))) c.previous_in_place.ensures.point
