-- The input was read whole, and its lines ran.
use Rattle.std.specs.Prelude.{ℕ, List}
use Rattle.std.proofs.Common.{inr, subst}
use Rattle.btr_text.specs.Input.{script_of}
use Rattle.btr_top.specs.Live.{ScriptCause}
use Rattle.btr_top.proofs.live.run_live.Goals as goal

pub returns-in-Ok-clause-cause : goal.returns-in-Ok-clause-cause
returns-in-Ok-clause-cause g c =
    inr (
      c.in-Ok.input.items,
      c.in-Ok.ensures.read,
      subst (λ (bytes : List ℕ). ScriptCause g.D.Disk c.args.feeds c.args.materialize (script_of bytes) c.args.disk c.run_script.result.disk c.run_script.result.ending)
          c.deref.ensures.value c.run_script.ensures.cause,
    )
