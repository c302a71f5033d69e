use Rattle.std.proofs.Common.{◌≡◌, ◌∷◌, [], ◌++◌, length, sym, ap, subst, ◌∙◌, append_assoc, append-nil, arith}
use Rattle.std.proofs.lemmas.List.{nil_from_length}
use Rattle.std.specs.Vec.Iter.{into_iter_items}
use Rattle.btr_load.specs.declared.stream.LoadedStream.{LoadedStream}
use Rattle.btr_load.specs.Plan.{ArePlanned, AreReady}
use Rattle.btr_load.proofs.OpenLemmas.{planned_push, ready_push}
use Rattle.btr_load.proofs.plan.planned.Goals as goal

pub loop-of_stream-preserved : goal.loop-of_stream-preserved
loop-of_stream-preserved c =
    let at = c.loop-of_stream in
    let x = c.in-Some.of_stream in
    let outcome = c.in_ok-outcome.outcome in
    let steps : into_iter_items at.of_stream-iterator ≡ x ∷ into_iter_items c.next.new.self = c.in-Some.ensures.steps.0 in
    let s : LoadedStream = record { rows = x; batch = c.args.batch; outcome = outcome } in
    let pushed : c.push.new.self.items ≡ at.streams.items ++ s ∷ [] = c.in_ok-push.ensures.items in
    record {
      rest = append_assoc at.yielded (x ∷ []) _ ∙ rw (← steps) at.invariant.rest;
      long =
          let was = at.invariant.long in
          let gone = c.in-Some.ensures.steps.1 in
          let short = ap length steps in
          omega arith;
      ready = subst AreReady (sym pushed) (ready_push at.streams.items s (record { some = c.requires.batch; blank = c.in_ok-outcome.ensures.blank }) at.invariant.ready);
      planned = λ h of. subst (ArePlanned h c.args.batch (at.yielded ++ x ∷ [])) (sym pushed) (planned_push h c.args.batch at.yielded at.streams.items x outcome (c.in_ok-outcome.ensures.planned h of) (at.invariant.planned h of));
    }

pub returns-clause-planned : goal.returns-clause-planned
returns-clause-planned c = λ h of.
    let at = c.loop-of_stream in
    let none = c.in-None.ensures.steps in
    let empty : into_iter_items at.of_stream-iterator ≡ [] = nil_from_length _ (sym at.invariant.long ∙ none.0) in
    let all = sym (append-nil at.yielded) ∙ rw empty at at.invariant.rest ∙ c.into_iter-of_stream-iterator.ensures.into_iter_gives.0 in
    subst (λ l. ArePlanned h c.args.batch l at.streams.items) all (at.invariant.planned h of)
