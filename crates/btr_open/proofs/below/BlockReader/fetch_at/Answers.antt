use Rattle.std.proofs.Common.{arith}
use Rattle.btr_open.specs.Loading.{IsBlock}
use Rattle.btr_open.proofs.FetchingBelow.{fetches-block, fetches-none}
use Rattle.btr_open.proofs.below.BlockReader.fetch_at.Goals.{else-block-ge1-via-then-block-ge1+else-block-self, else-block-ge1-via-else-block-ge1}
use Rattle.btr_open.proofs.below.BlockReader.fetch_at.Goals as goal

pub returns-in_ok-fetch-clause-all : goal.returns-in_ok-fetch-clause-all
returns-in_ok-fetch-clause-all g c reported =
    let ok = c.in_ok-fetch.ensures in
    fetches-block (g.D.Disk.contents c.args.disk.now) c.args.self.now.limit c.args.block c.args.nodes.now c.fetch.new.nodes c.in_ok-fetch.field-0 c.if-block-ge1.true c.if-block-self.true (ok.fetches reported).adds (ok.fetches reported).part (ok.fetches reported).found

pub returns-else-block-ge1-clause-all : goal.returns-else-block-ge1-clause-all
returns-else-block-ge1-clause-all g c reported =
    fetches-none (g.D.Disk.contents c.args.disk.now) c.args.self.now.limit (IsBlock c.args.block) c.args.nodes.now (λ k same some low.
    elim c.else-block-ge1.branch [
      | else-block-ge1-via-then-block-ge1+else-block-self w ↦ absurd (omega (arith, w.if-block-self.false, same, low))
      | else-block-ge1-via-else-block-ge1 w ↦ absurd (omega (arith, w.if-block-ge1.false, same, some))
    ])
