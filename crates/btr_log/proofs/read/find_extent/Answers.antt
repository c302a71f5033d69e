use Rattle.std.specs.Prelude.{◌≡◌, ◌+◌, ◌-◌, ◌*◌, ◌<◌, length}
use Rattle.std.proofs.Common.{sym, ◌∙◌, ap, subst, arith}
use Rattle.btr_disk.specs.Bytes.{Has}
use Rattle.btr_disk.proofs.ByteLemmas.{Has-Same, Same-sym}
use Rattle.btr_log.specs.Found.{StartSays, IsOpenStart, after_first}
use Rattle.btr_log.proofs.GateAndHead.{Has-rest, is_open_prefix, whole_extent}
use Rattle.btr_log.proofs.PieceLemmas.{min_two}
use Rattle.btr_log.proofs.read.find_extent.Goals as goal

pub returns-clause-whole : goal.returns-clause-whole
returns-clause-whole g c =
    let blocks = c.args.blocks in
    let gate = c.args.gate in
    let head = c.in-Some.head in
    let prefix = c.deref-2.result.now in
    let same : c.deref.result.now ≡ prefix = c.deref.ensures.value ∙ sym c.deref-2.ensures.value in
    let start : IsOpenStart blocks gate prefix head = subst (λ b. IsOpenStart blocks gate b head) same (subst (StartSays blocks gate c.deref.result.now) c.in-Some.is c.in_ok-head.ensures.start) in
    whole_extent blocks gate head (after_first prefix) c.in_ok-body.body.items start.spells c.in_ok-body.ensures.body.size c.in_ok-body.ensures.body.begins start.inside

pub returns-clause-matches : goal.returns-clause-matches
returns-clause-matches g c is_observable =
    let disk = g.D.Disk in
    let image = disk.contents c.args.disk.now in
    let mid = disk.contents c.read_blocks.new.disk in
    let blocks = c.args.blocks in
    let gate = c.args.gate in
    let head = c.in-Some.head in
    let prefix = c.deref-2.result.now in
    let same : c.deref.result.now ≡ prefix = c.deref.ensures.value ∙ sym c.deref-2.ensures.value in
    let start : IsOpenStart blocks gate prefix head = subst (λ b. IsOpenStart blocks gate b head) same (subst (StartSays blocks gate c.deref.result.now) c.in-Some.is c.in_ok-head.ensures.start) in
    let below : gate + 1 < blocks = omega (arith, start.inside) in
    let count : c.start_blocks.result ≡ 2 = c.start_blocks.ensures ∙ min_two (blocks - gate) (omega (arith, below)) in
    let size : length prefix ≡ 8192 = ap length c.deref-2.ensures.value ∙ c.in_ok-prefix.ensures.length ∙ ap (λ n. 4096 * n) count in
    let has : Has image (4096 * gate) prefix = subst (Has image (4096 * gate)) (sym c.deref-2.ensures.value) (c.in_ok-prefix.ensures.stored is_observable) in
    let kept = (c.read_blocks.ensures.unwritten is_observable).same in
    let first = Has-Same image mid (4096 * (gate + 1)) (after_first prefix) kept (Has-rest image gate prefix size has) in (
      is_open_prefix image gate prefix size has start.is_open,
      Has-Same mid image (4096 * (gate + 1)) c.in_ok-body.body.items (Same-sym image mid kept) (c.in_ok-body.ensures.stored is_observable first),
    )
