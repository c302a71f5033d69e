use Rattle.btr_streams.proofs.BoardRead.{read-streams, read-board}
use Rattle.btr_streams.proofs.board.Board.stage_read.Goals as goal

pub returns-clause-streams : goal.returns-clause-streams
returns-clause-streams c h has none =
    let n = c.in_ok-next.next in
    read-streams h c.args.self.now c.args.tree n.board n.nodes.items n.root c.in_ok-next.ensures.counted c.args.entry.now c.requires.room c.in_ok-next.ensures.kept has

pub returns-clause-of : goal.returns-clause-of
returns-clause-of c h of allowed tree =
    let n = c.in_ok-next.next in
    read-board h c.args.self.now c.args.tree n.board n.nodes.items n.root c.in_ok-next.ensures.counted c.args.entry.now c.requires.room c.in_ok-next.ensures.kept of allowed tree

pub returns-clause-receipt : goal.returns-clause-receipt
returns-clause-receipt c h of allowed = c.receipt_of-receipt.ensures.of h of allowed
