use Rattle.std.specs.Prelude.{◌≡◌, ◌*◌, length, take}
use Rattle.std.proofs.Common.{sym, ◌∙◌, ap, subst, arith}
use Rattle.btr_disk.specs.Bytes.{Has}
use Rattle.btr_log.proofs.GateAndHead.{written_whole}
use Rattle.btr_log.proofs.read.read_body.Goals as goal

pub returns-clause-stored : goal.returns-clause-stored
returns-clause-stored g c is_observable has =
    let image = g.D.Disk.contents c.args.disk.now in
    let body = c.in_ok-body.body in
    let xs = c.read_rest.new.body in
    let size : length xs ≡ body.len = omega (arith, body.ok, ap length c.deref_mut.ensures.value) in
    let prefix : c.args.prefix.now ≡ take 4096 c.deref_mut.result.now = sym c.in_ok-body.ensures.begins ∙ ap (take 4096) (sym c.deref_mut.ensures.value) in
    subst (Has image (4096 * c.args.first)) (sym (written_whole body.len xs body.items size))
    (c.in_ok-read_rest.ensures.stored is_observable (subst (Has image (4096 * c.args.first)) prefix has))
