use Rattle.std.specs.Prelude.{◌≡◌, ◌*◌, length}
use Rattle.std.proofs.Common.{sym, ap, subst, arith}
use Rattle.btr_disk.specs.Bytes.{Has}
use Rattle.btr_disk.proofs.ByteLemmas.{Has-Same}
use Rattle.btr_log.proofs.GateAndHead.{written_whole}
use Rattle.btr_log.proofs.piece.Piece.read.Goals as goal

pub returns-clause-piece : goal.returns-clause-piece
returns-clause-piece g c is_observable _ =
    let disk = g.D.Disk in
    let old = disk.contents c.args.disk.now in
    let new = disk.contents c.read.new.self in
    let bytes = c.resize.new.self in
    let xs = c.read.new.buf in
    let size : length xs ≡ bytes.len = omega (arith, bytes.ok, ap length c.deref_mut.ensures.value) in
    subst (Has new (4096 * c.args.first)) (sym (written_whole bytes.len xs bytes.items size))
    (Has-Same old new (4096 * c.args.first) xs (c.in_default.ensures.reads is_observable).same (c.in_default.ensures.reads is_observable).bytes)
