use Rattle.std.proofs.Common.{◌+◌, ◌*◌, ◌^◌, ◌<◌, arith}
use Rattle.std.proofs.lemmas.Bool.Decides.{nat_tests}
use Rattle.btr_board.specs.Places.{width}
use Rattle.btr_board.proofs.FoundLemmas.{shift-one}
use Rattle.btr_board.proofs.TrailLemmas.{room-above}
use Rattle.btr_board.proofs.trail_node.has_room.Goals as goal

pub returns-then-height-ge12 : goal.returns-then-height-ge12
returns-then-height-ge12 c =
    let wide = room-above c.args.height c.if-height-ge12.true in
    let short : c.args.len < 2 ^ 64 = omega arith in
    grind (arith, nat_tests)

pub returns-else-height-ge12 : goal.returns-else-height-ge12
unfolding width
returns-else-height-ge12 c =
    let alone = shift-one (5 * (c.args.height + 1)) (omega arith) in
    rw alone (grind (arith, nat_tests))
