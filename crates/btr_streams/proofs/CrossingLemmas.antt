-- Boards and snapshots may go to another thread. At a `join` the search gives up at them, so a caller cites these.
use denote.RattleType.{RattleType}
use denote.Param.Send.{IsSend, IsSync, sendable}
use Rattle.std.proofs.Crossing.{crosses}
use Rattle.btr_tree.proofs.node.NodeData.TheLaws.TheKnot as tree_nodes
use Rattle.btr_board.proofs.trail_node.TrailNode.TheLaws.TheKnot as trail_nodes
use Rattle.btr_board.proofs.index_node.IndexNode.TheLaws.TheKnot as index_nodes
use Rattle.btr_base.specs.contracts.agg.Agg as agg
use Rattle.btr_base.specs.contracts.span.Span as span
use Rattle.btr_tree.specs.contracts.tree.Tree as tree
use Rattle.btr_board.specs.contracts.trail.Trail as trail
use Rattle.btr_board.specs.contracts.index.Index as index
use Rattle.btr_hist.specs.contracts.kernel.Reads as reads
use Rattle.btr_hist.specs.contracts.kernel.Spec as spec
use Rattle.btr_streams.specs.contracts.board.Stream as stream
use Rattle.btr_streams.specs.contracts.board.Board as board
use Rattle.btr_streams.specs.contracts.snapshot.Snapshot as snapshot

span_send : IsSend span.the_row
span_send = search (sendable, crosses) depth 20

span_sync : IsSync span.the_row
span_sync = search (sendable, crosses) depth 20

agg_send : IsSend agg.the_row
agg_send = search (sendable, crosses) depth 20

agg_sync : IsSync agg.the_row
agg_sync = search (sendable, crosses) depth 20

tree_send : IsSend tree.the_row
tree_send = search (tree_nodes.both_send-Link, span_send, agg_send, sendable, crosses) depth 20

tree_sync : IsSync tree.the_row
tree_sync = search (tree_nodes.both_sync-Link, span_sync, agg_sync, sendable, crosses) depth 20

trail_send : (T : RattleType) → IsSend T → IsSync T → IsSend (trail.the_row T)
trail_send T s y = search (sendable, crosses, trail_nodes.both_send-TrailNode, trail_nodes.both_sync-TrailNode) depth 20

trail_sync : (T : RattleType) → IsSend T → IsSync T → IsSync (trail.the_row T)
trail_sync T s y = search (sendable, crosses, trail_nodes.both_send-TrailNode, trail_nodes.both_sync-TrailNode) depth 20

index_send : IsSend index.the_row
index_send = search (sendable, crosses, index_nodes.both_send-IndexNode, index_nodes.both_sync-IndexNode) depth 20

reads_send : IsSend reads.the_row
reads_send = search (sendable, crosses) depth 20

reads_sync : IsSync reads.the_row
reads_sync = search (sendable, crosses) depth 20

spec_send : IsSend spec.the_row
spec_send = search (sendable, crosses) depth 20

spec_sync : IsSync spec.the_row
spec_sync = search (sendable, crosses) depth 20

stream_send : IsSend stream.the_row
stream_send = search (sendable, trail_send, tree_send, tree_sync, spec_send, reads_send, reads_sync) depth 20

stream_sync : IsSync stream.the_row
stream_sync = search (sendable, trail_sync, tree_send, tree_sync, spec_sync, reads_send, reads_sync) depth 20

pub board_send : IsSend board.the_row
board_send = search (sendable, trail_send, trail_sync, stream_send, stream_sync, index_send) depth 20

pub snapshot_send : IsSend snapshot.the_row
snapshot_send = search (sendable, board_send) depth 20
