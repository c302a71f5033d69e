use Rattle.std.proofs.Common.{refl, sym, ◌∙◌, ap, arith}
use Rattle.std.proofs.lemmas.Result.{err_from_is_err_and}
use Rattle.btr_engine.specs.declared.step.StepFault.TheVariants.{Stopped}
use Rattle.btr_engine.specs.Engine.{device, super_of}
use Rattle.btr_engine.proofs.Settling.{marks_between}
use Rattle.btr_engine.proofs.Marking.{marks_nothing}
use Rattle.btr_engine.proofs.engine.Engine.mark.Goals as goal

pub checkpoint_run-requires : goal.checkpoint_run-requires
checkpoint_run-requires g c =
    let engine = c.args.self.now in
    let between = marks_between (super_of engine) c.args.format engine.followable.format_to c.requires.format in
    (omega (arith, engine.followable.format_from, between.0), between.1)

pub append_mark-requires-clause-runs : goal.append_mark-requires-clause-runs
append_mark-requires-clause-runs g c = sym c.args.self.now.marked ∙ c.if-self.false

pub returns-then-self : goal.returns-then-self
returns-then-self g c =
    let engine = c.args.self.now in
    let stopped = sym engine.marked ∙ c.if-self.true in
    marks_nothing c.args.format engine _ c.requires.home (stopped, c.entries.ensures, refl) (λ _. ap Stopped c.entries.ensures) (λ runs _. absurd (cc)) (λ seen. g.met.D.Disk.only_now seen (device engine))

pub returns-then-is_sealed : goal.returns-then-is_sealed
returns-then-is_sealed g c =
    let engine = c.args.self.now in
    let runs = sym engine.marked ∙ c.if-self.false in
    let sealed = sym c.is_sealed.ensures ∙ c.if-is_sealed.true in
    marks_nothing c.args.format engine _ c.requires.home (runs, sealed, refl) (λ is. absurd (cc)) (λ _ _. refl) (λ seen. g.met.D.Disk.only_now seen (device engine))

pub returns-in_err-extent : goal.returns-in_err-extent
returns-in_err-extent g c =
    let engine = c.args.self.now in
    let p = err_from_is_err_and c.from_residual.result c.from_residual.ensures.1 in
    let runs = sym engine.marked ∙ c.if-self.false in
    let unsealed = sym c.is_sealed.ensures ∙ c.if-is_sealed.false in
    rw (p.1, p.2) (marks_nothing c.args.format engine _ c.requires.home (runs, refl) (λ is. absurd (cc)) (λ _ is. absurd (cc)) (λ seen. g.met.D.Disk.only_now seen (device engine)))
