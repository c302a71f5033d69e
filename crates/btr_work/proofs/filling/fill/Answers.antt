use Rattle.std.proofs.Common.{◌≡◌, ◌<◌, length, [], ◌∷◌, ◌++◌, take, map, slice_index_or, sym, ap, ◌∙◌, arith}
use Rattle.std.proofs.lemmas.List.{get_or_default}
use mathlib.Core.List.{map-append}
use Rattle.btr_jobs.proofs.RunLemmas.{length_after, rest_after, items_more, now_more}
use Rattle.btr_work.specs.declared.report.Refreshed.TheVariants.{Landed}
use Rattle.btr_work.specs.declared.report.RefreshLine.{RefreshLine}
use Rattle.btr_work.specs.Refreshing.{filled}
use Rattle.btr_work.proofs.filling.fill.Goals as goal

pub loop-line-preserved : goal.loop-line-preserved
loop-line-preserved c =
    let i = c.loop-line.line-index in
    let lines = c.args.lines.now in
    let now = c.loop-line.lines in
    let f = filled c.args.results.now in
    let none : RefreshLine = record { output = 0; result = Landed 0 } in
    let was : RefreshLine = slice_index_or now i none in
    let done : RefreshLine = record { output = was.output; result = c.result_at-line.result } in
    let long = c.loop-line.invariant.0 in
    let rest = c.loop-line.invariant.1 in
    let inside : i < length now = omega (arith, c.loop-line-test.true, long) in
    let is : was ≡ slice_index_or now i was = get_or_default now i none was inside in
    let is_filled : done ≡ f was = λ j. record { output = was.output; result = c.result_at-line.ensures j } in (
      length_after lines now i was done inside long rest is,
      rest_after lines now i was done inside long rest is,
      sym (now_more lines now i was done inside long rest is)
          ∙ ap (λ l. l ++ done ∷ []) c.loop-line.invariant.2
          ∙ ap (λ x. map f (take i lines) ++ x ∷ []) is_filled
          ∙ sym (map-append f (take i lines) (was ∷ []))
          ∙ ap (map f) (items_more lines now i was done inside long rest is),
    )
