-- The lines are answered from the shelf that was opened, or the device was not opened.
use Rattle.std.proofs.Common.{◌∙◌}
use Rattle.btr_top.proofs.ColdCauses.{shelf_cause, unopened_cause}
use Rattle.btr_top.proofs.cold.ask_lines_cold.Goals as goal

pub returns-in-Ok-clause-cause : goal.returns-in-Ok-clause-cause
returns-in-Ok-clause-cause g c =
    shelf_cause g.D.Disk c.args.lines.items c.args.disk c.open_sealed.new.disk c.ask_shelf.result.disk c.open_sealed.ensures.reads c.ask_shelf.ensures.reads c.in-Ok.shelf c.in-Ok.ensures.opened c.ask_shelf.result.ending c.ask_shelf.ensures.cause

pub returns-in-Ok-clause-kept : goal.returns-in-Ok-clause-kept
returns-in-Ok-clause-kept g c =
    (shelf_cause g.D.Disk c.args.lines.items c.args.disk c.open_sealed.new.disk c.ask_shelf.result.disk c.open_sealed.ensures.reads c.ask_shelf.ensures.reads c.in-Ok.shelf c.in-Ok.ensures.opened c.ask_shelf.result.ending c.ask_shelf.ensures.cause).kept

pub returns-in-Err-clause-cause : goal.returns-in-Err-clause-cause
returns-in-Err-clause-cause g c =
    unopened_cause g.D.Disk c.args.lines.items c.args.disk c.open_sealed.new.disk c.open_sealed.ensures.reads c.open_sealed.result c.in-Err.fault c.in-Err.is c.in-Err.ensures.cause c.in-Err.ensures.stood c.open_sealed.ensures.unsealed c.ending_of_fault.result c.ending_of_fault.ensures

pub returns-in-Err-clause-kept : goal.returns-in-Err-clause-kept
returns-in-Err-clause-kept g c =
    (unopened_cause g.D.Disk c.args.lines.items c.args.disk c.open_sealed.new.disk c.open_sealed.ensures.reads c.open_sealed.result c.in-Err.fault c.in-Err.is c.in-Err.ensures.cause c.in-Err.ensures.stood c.open_sealed.ensures.unsealed c.ending_of_fault.result c.ending_of_fault.ensures).kept
