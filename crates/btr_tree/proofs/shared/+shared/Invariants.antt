use Rattle.std.proofs.Common.{◌+◌, ◌-◌, ◌*◌}
use Rattle.btr_tree.proofs.shared.+shared.Given as goal

abbrev pub decreases-build_shared : goal.decreases-build_shared
decreases-build_shared g l = 400 * l.work.now.span.height + 399

abbrev pub decreases-build_part : goal.decreases-build_part
decreases-build_part g l = 400 * l.work.now.span.height + 5 * (l.work.now.to - l.work.now.from)

abbrev pub decreases-build_one : goal.decreases-build_one
decreases-build_one g l = 400 * l.work.now.span.height

abbrev pub decreases-build_two : goal.decreases-build_two
decreases-build_two g l = 400 * l.halves.now.span.height + 5 * (l.halves.now.to - l.halves.now.from) - 1

abbrev pub decreases-build_at_once : goal.decreases-build_at_once
decreases-build_at_once g l = 400 * l.halves.now.span.height + 5 * (l.halves.now.to - l.halves.now.from) - 2

abbrev pub decreases-build_at_once-build_front : goal.decreases-build_at_once-build_front
decreases-build_at_once-build_front g l = 400 * l.before.span.height + 5 * (l.before.to - l.before.from) + 2

abbrev pub decreases-build_at_once-build_back : goal.decreases-build_at_once-build_back
decreases-build_at_once-build_back g l = 400 * l.after.span.height + 5 * (l.after.to - l.after.from) + 2

abbrev pub decreases-build_forked : goal.decreases-build_forked
decreases-build_forked g l = 400 * l.work.now.span.height + 5 * (l.work.now.to - l.work.now.from) + 1
