use Rattle.std.specs.Prelude.{◌≡◌, ◌*◌, length, take}
use Rattle.std.proofs.Common.{◌∙◌, ap, subst, arith}
use Rattle.btr_log.proofs.GateAndHead.{written_whole}
use Rattle.btr_log.proofs.read.with_first_block.Goals as goal

pub returns : goal.returns
returns c =
    let body = c.in_ok-body.body in
    let xs = c.copy_to_prefix.new.body in
    let prefix = c.args.prefix.now in
    let size : length xs ≡ body.len = omega (arith, body.ok, ap length c.deref_mut.ensures.value) in
    let copied : take 4096 xs ≡ prefix = subst (λ n. take n xs ≡ prefix) c.requires.prefix c.copy_to_prefix.ensures in
    let whole = written_whole body.len xs body.items size in
    let long : body.len ≡ 4096 * c.args.n = omega (arith, body.ok, c.in_ok-body.ensures) in
    record {
      size = ap length whole ∙ size ∙ long;
      begins = ap (take 4096) whole ∙ copied;
    }
