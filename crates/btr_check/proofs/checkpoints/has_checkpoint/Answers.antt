use Rattle.std.proofs.Common.{sym, ◌∙◌, arith}
use Rattle.std.proofs.lemmas.Bool.{false≢true}
use Rattle.std.proofs.lemmas.Option.{slice_get-get_or}
use Rattle.btr_check.proofs.CheckpointLemmas.{none-more, none-has}
use Rattle.btr_check.proofs.checkpoints.has_checkpoint.Goals as goal

pub loop-checkpoint-preserved : goal.loop-checkpoint-preserved
loop-checkpoint-preserved c =
    let xs = c.args.checkpoints.now in
    let n = c.loop-checkpoint.checkpoint-index in
    none-more xs c.args.gate c.args.next n _ (slice_get-get_or xs n _ (omega (arith, c.loop-checkpoint-test.true))) (λ same. false≢true (sym c.if-is_at.false ∙ c.is_at.ensures.1 same)) c.loop-checkpoint.invariant

pub returns : goal.returns
returns c =
    let xs = c.args.checkpoints.now in
    let n = c.loop-checkpoint.checkpoint-index in
    (λ t. absurd (false≢true t), λ has. absurd (none-has xs c.args.gate c.args.next n (omega (arith, c.loop-checkpoint-test.false)) c.loop-checkpoint.invariant has))
