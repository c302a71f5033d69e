use Rattle.std.proofs.Common.{◌+◌, ◌<◌, ◌^◌, sym, ◌∙◌, subst, arith}
use Rattle.std.proofs.lemmas.Bool.{false≢true}
use Rattle.btr_log.proofs.ExtentLemmas.{IsBody-blocks}
use Rattle.btr_open.specs.Seen.{with_mark}
use Rattle.btr_open.proofs.LoadingLemmas.{no-checkpoint, checkpoint-read}
use Rattle.btr_open.proofs.loading.Loader.pass.Goals as goal

pub returns-in_ok-mark-clause-marked : goal.returns-in_ok-mark-clause-marked
returns-in_ok-mark-clause-marked g c = record {
  is = λ log read. checkpoint-read log c.args.self.now c.args.body.now read (c.in_ok-is_checkpoint.ensures.0 c.if-branch.true);
  judged = λ seen was. subst (λ n. g.J.Judge.is_after (with_mark seen c.args.gate n) c.mark.new.self) (omega (arith, IsBody-blocks c.args.body.now c.args.head.now c.requires.body)) (c.in_ok-mark.ensures seen was);
}

pub returns-else-branch-clause-damaged : goal.returns-else-branch-clause-damaged
returns-else-branch-clause-damaged g c =
    let few : c.args.self.now.board.entries + 1 < 2 ^ 64 = omega (arith, c.requires.few) in
    no-checkpoint c.args.gate c.args.body.now c.args.head.now c.args.self.now few c.requires.body c.requires.kind (λ has. false≢true (sym c.if-branch.false ∙ c.in_ok-is_checkpoint.ensures.1 has))
