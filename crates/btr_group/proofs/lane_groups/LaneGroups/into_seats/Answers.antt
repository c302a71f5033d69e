use Rattle.btr_group.proofs.LaneLemmas.{seats_known}
use Rattle.btr_group.proofs.lane_groups.LaneGroups.into_seats.Goals as goal

pub returns-clause-seats : goal.returns-clause-seats
returns-clause-seats g c = seats_known g.row.D g.D.Disk c.args.self
