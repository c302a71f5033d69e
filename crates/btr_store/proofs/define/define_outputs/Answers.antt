-- One output after another, each by the session, which is alone.
use Rattle.std.proofs.Common.{◌≡◌, ◌++◌, ◌∷◌, [], ◌∙◌, List, refl, arith, ap, sym, subst, length}
use Rattle.std.proofs.lemmas.List.{length-append}
use Rattle.btr_jobs.specs.Jobs.{Does}
use Rattle.btr_jobs.proofs.DoesLemmas.{does_none}
use Rattle.btr_store.specs.declared.define.DefinedOutput.{DefinedOutput}
use Rattle.btr_store.specs.Define.{DefinesEach}
use Rattle.btr_store.proofs.DefineLemmas.{each_then, all_defined, some_defined}
use Rattle.btr_store.proofs.define.define_outputs.Goals as goal

pub loop-stream-init : goal.loop-stream-init
loop-stream-init g c = record {
  at = c.requires.at;
  alone = c.requires.alone;
  long = ap (length {A = DefinedOutput}) c.new-outputs.ensures.items;
  does = does_none c.args.hall.now c.args.session.now
      (λ start log low own. DefinesEach start log low 0 c.new-outputs.result.items own log.history)
      (λ start log.
      subst (λ (l : List DefinedOutput). DefinesEach start log log.history 0 l [] log.history) (sym c.new-outputs.ensures.items)
      (record { own = refl; next = refl }));
}

pub loop-stream-preserved : goal.loop-stream-preserved
loop-stream-preserved g c =
    let inv = c.loop-stream.invariant in
    let done = c.define.ensures in
    let hall = c.args.hall.now in
    let before = c.loop-stream.outputs.items in
    let output = c.define.result in
    let items : c.push.new.self.items ≡ before ++ output ∷ [] = c.in_ok-push.ensures.items in
    record {
      at = done.at;
      alone = done.alone;
      long = ap (length {A = DefinedOutput}) items ∙ length-append before (output ∷ []) ∙ omega (arith, inv.long);
      does = subst (λ (l : List DefinedOutput). Does hall c.args.session.now c.define.new.session (λ start log low own. DefinesEach start log low 0 l own log.history)) (sym items)
          (each_then hall c.args.session.now c.loop-stream.session c.define.new.session before c.loop-stream.stream output inv.long done.at inv.does done.does);
    }

pub returns-in_err-push-clause-does : goal.returns-in_err-push-clause-does
returns-in_err-push-clause-does g c =
    let inv = c.loop-stream.invariant in
    let done = c.define.ensures in
    let hall = c.args.hall.now in
    let before = c.loop-stream.outputs.items in
    let output = c.define.result in
    some_defined hall c.args.session.now c.define.new.session c.args.streams (before ++ output ∷ []) c.from_residual.result c.from_residual.ensures.0
    (each_then hall c.args.session.now c.loop-stream.session c.define.new.session before c.loop-stream.stream output inv.long done.at inv.does done.does)

pub returns-clause-does : goal.returns-clause-does
returns-clause-does g c =
    let inv = c.loop-stream.invariant in
    all_defined c.args.hall.now c.args.session.now c.loop-stream.session c.args.streams c.loop-stream.outputs
    (omega (arith, inv.long, c.loop-stream-test.false, c.loop-stream.auto.stream-end)) inv.does

pub returns-clause-each : goal.returns-clause-each
returns-clause-each g c =
    omega (arith, c.loop-stream.invariant.long, c.loop-stream-test.false, c.loop-stream.auto.stream-end)
