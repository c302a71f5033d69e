use Rattle.std.proofs.Common.{◌<◌, length, [], ◌∷◌, ◌++◌, take, map, sym, ap, ◌∙◌, arith, Option}
use Rattle.std.proofs.lemmas.List.{take_all, length-append, length-map}
use mathlib.Core.List.{map-append}
use Rattle.btr_hist.specs.declared.kernel.Spec.{Spec}
use Rattle.btr_hist.specs.History.{kinds}
use Rattle.btr_hist.proofs.HistoryLemmas.{length-kinds}
use Rattle.btr_hall.specs.declared.land.LandFault.TheVariants.{Want}
use Rattle.btr_work.specs.declared.report.Refreshed.TheVariants as refreshed
use Rattle.btr_work.specs.Levels.{outputs_from}
use Rattle.btr_work.specs.Refreshing.{blank_line}
use Rattle.btr_work.proofs.MemberLemmas.{outputs-next, outputs-few}
use Rattle.btr_work.proofs.prepare.streams_of.Goals as goal

pub loop-stream-preserved : goal.loop-stream-preserved
loop-stream-preserved c =
    let i = c.loop-stream.stream in
    let so_far = c.loop-stream.invariant in
    let kind : Option Spec = c.spec.result in
    let more = outputs_from i (kind ∷ []) in
    let pushed = c.in_ok-push_line.ensures in
    record {
      few = omega (arith, so_far.few, ap (λ l. length l) pushed, length-append c.loop-stream.lines.items (map blank_line more), length-map more blank_line, outputs-few i kind);
      results = omega (arith, so_far.results, ap (λ l. length l) c.in_ok-push-2.ensures.items, length-append c.loop-stream.results.items (refreshed.Refused Want ∷ []));
      lines = λ h of.
          let inside : i < length (kinds h) = omega (arith, length-kinds h, c.streams-stream-end.ensures h of, c.loop-stream-test.true) in
          pushed
          ∙ ap (λ l. l ++ map blank_line more) (so_far.lines h of)
          ∙ sym (map-append blank_line (outputs_from 0 (take i (kinds h))) more)
          ∙ ap (map blank_line) (outputs-next (kinds h) i kind inside (c.spec.ensures h of));
    }

pub returns-clause-lines : goal.returns-clause-lines
returns-clause-lines c h of =
    let size = c.streams-stream-end.ensures h of in
    c.loop-stream.invariant.lines h of
    ∙ ap (λ ks. map blank_line (outputs_from 0 ks)) (take_all c.loop-stream.stream (kinds h) (omega (arith, length-kinds h, size, c.loop-stream-test.false)))
