use Rattle.btr_entry.proofs.FrameLemmas.{lists_once}
use Rattle.btr_entry.proofs.ChangeLemmas.{lists_from_change, change_from_lists}
use Rattle.btr_entry.proofs.lists.read_change.Goals as goal

pub returns-in_default-clause-none : goal.returns-in_default-clause-none
returns-in_default-clause-none c cut added h =
    c.in_default.ensures.none _ _ (lists_from_change c.args.max_ranges c.args.max_points c.args.bytes.now cut added h)

pub returns-in_default-2-clause-none : goal.returns-in_default-2-clause-none
returns-in_default-2-clause-none c cut added h =
    let lists = lists_from_change c.args.max_ranges c.args.max_points c.args.bytes.now cut added h in
    let once = lists_once c.args.max_ranges c.args.max_points c.requires.ranges c.requires.points c.args.bytes.now _ c.in-Some.ranges.now _ c.in-Some.points.now lists c.in-Some.ensures.found in
    (rw c.in_default-2.is at c.in_ok-cut.ensures.none) cut h.is_cut once.0

pub returns-in_default-3-clause-none : goal.returns-in_default-3-clause-none
returns-in_default-3-clause-none c cut added h =
    let lists = lists_from_change c.args.max_ranges c.args.max_points c.args.bytes.now cut added h in
    let once = lists_once c.args.max_ranges c.args.max_points c.requires.ranges c.requires.points c.args.bytes.now _ c.in-Some.ranges.now _ c.in-Some.points.now lists c.in-Some.ensures.found in
    (rw c.in_default-3.is at c.in_ok-added.ensures.none) added h.is_added once.1

pub returns-clause-found : goal.returns-clause-found
returns-clause-found c =
    let cut = rw c.in-Some-2.is at c.in_ok-cut.ensures.found in
    let added = rw c.in-Some-3.is at c.in_ok-added.ensures.found in
    change_from_lists c.args.max_ranges c.args.max_points c.args.bytes.now c.in-Some.ranges.now c.in-Some.points.now c.in-Some-2.cut c.in-Some-3.added c.in-Some.ensures.found cut.0 cut.1 added.0 added.1
