use Rattle.std.specs.Prelude.{length, ◌<◌}
use Rattle.std.proofs.Common.{◌≡◌, ◌+◌, ap, arith}
use Rattle.btr_node.specs.Page.{slots_of_page}
use Rattle.btr_open.specs.Loading.{IsBlock, IsSlotChild}
use Rattle.btr_open.proofs.MakingBelow.{slot-there}
use Rattle.btr_open.proofs.FetchingBelow.{IsChildTo, fetched-none, fetched-more, fetched-same, fetched-as, fetches-same, child-before, child-here, child-or, child-only, child-all, child-of}
use Rattle.btr_open.proofs.below.BlockReader.fetch_children.Goals.{then-count-gt0+in_ok-fetch_at, else-count-gt0}
use Rattle.btr_open.proofs.below.BlockReader.fetch_children.Goals as goal

pub loop-slot-init : goal.loop-slot-init
loop-slot-init g c =
    let d = c.args.disk.now in
    fetched-none g.D.Disk d c.args.self.now (IsChildTo 0 (slots_of_page c.args.page.now)) c.args.nodes.now (λ reported. g.met.D.Disk.only_now reported d) c.requires.reader c.requires.own (λ k is some low. let lt = is.2 in absurd (omega arith))

pub loop-slot-preserved : goal.loop-slot-preserved
loop-slot-preserved g c =
    let l = c.loop-slot in
    let n = l.slot-index in
    let slot = c.slot-item.result in
    let disk = g.D.Disk in
    let slots = slots_of_page c.args.page.now in
    let there = slot-there c.args.page.now c.slots-slot-items.result.now n slot c.slots-slot-items.ensures c.loop-slot-test.true c.slot-item.is in
    let now = c.if-count-gt0 in
    elim c.if-count-gt0.branch [
      | then-count-gt0+in_ok-fetch_at w ↦
          let some : 0 < slot.agg.count = omega (arith, c.count.ensures, w.if-count-gt0.true) in
          fetched-as disk c.args.disk.now now.disk w.fetch_at.new.disk c.args.self.now now.self w.fetch_at.new.self (IsChildTo (n + 1) slots) c.args.nodes.now now.nodes w.fetch_at.new.nodes w.self-is w.disk-is w.nodes-is
          (fetched-more disk c.args.disk.now l.disk w.fetch_at.new.disk c.args.self.now l.self w.fetch_at.new.self (IsChildTo n slots) (IsBlock slot.child) (IsChildTo (n + 1) slots) c.args.nodes.now l.nodes w.fetch_at.new.nodes l.invariant w.fetch_at.ensures.reads w.in_ok-fetch_at.ensures.grows w.in_ok-fetch_at.ensures.all (child-before n slots slot there) (child-here n slots slot there some) (child-or n slots slot there))
      | else-count-gt0 w ↦
          let none : slot.agg.count ≡ 0 = omega (arith, c.count.ensures, w.if-count-gt0.false) in
          fetched-as disk c.args.disk.now now.disk l.disk c.args.self.now now.self l.self (IsChildTo (n + 1) slots) c.args.nodes.now now.nodes l.nodes w.self-is w.disk-is w.nodes-is
          (fetched-same disk c.args.disk.now l.disk c.args.self.now l.self (IsChildTo n slots) (IsChildTo (n + 1) slots) c.args.nodes.now l.nodes l.invariant (child-before n slots slot there) (child-only n slots slot there none))
    ]

pub returns-clause-all : goal.returns-clause-all
returns-clause-all g c reported =
    let l = c.loop-slot in
    let slots = slots_of_page c.args.page.now in
    let size = ap length c.slots-slot-items.ensures in
    fetches-same (g.D.Disk.contents c.args.disk.now) c.args.self.now.limit (IsChildTo l.slot-index slots) (IsSlotChild slots) c.args.nodes.now l.nodes (l.invariant.all reported) (child-of l.slot-index slots) (child-all l.slot-index slots (omega (arith, c.loop-slot-test.false)))
